use Rattle.std.proofs.Common.{refl, sym, ◌∙◌}
use Rattle.gptp_certificate_text.specs.Certificate.{line_of, parent_of}
use Rattle.gptp_checker.proofs.StatedLemmas.{equal_by, has_identity, image_of_none, own_root_by}
use Rattle.gptp_checker.proofs.lines.has_own_root.Goals as goal

pub returns-then-line : goal.returns-then-line
returns-then-line c = ((λ t s at near. absurd (let e = sym near ∙ c.if-line.true in cc)), (λ h. refl))

pub returns-else-is_some : goal.returns-else-is_some
returns-else-is_some c =
    own_root_by c.args.snapshot.now (line_of c.args.line.now) c.in-Some.identity c.eq.result c.requires
    c.in-Some.ensures.only c.if-line.false (image_of_none parent_of c.args.line.now.parent c.if-is_some.ensures)
    (equal_by c.args.line.now.root c.in-Some.identity c.eq.result c.eq.ensures)

pub returns-in-None : goal.returns-in-None
returns-in-None c = has_identity c.args.snapshot.now c.args.line.now.clock c.requires c.in-None.ensures.only
