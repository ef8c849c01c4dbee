use Rattle.std.proofs.Common.{refl, sym, ◌∙◌}
use Rattle.gptp_network.specs.Snapshot.{link_of}
use Rattle.gptp_checker.proofs.EndLemmas.{agree_there, up_to_next, up_to_this}
use Rattle.gptp_checker.proofs.links.with_link.Goals as goal

pub returns-then-agree_over : goal.returns-then-agree_over
returns-then-agree_over c =
    up_to_next c.args.snapshot.now c.args.certificate.now.lines c.args.place c.args.first c.requires.first
    (λ link at. agree_there c.args.certificate.now.lines (link_of (c.in-Some.a, c.in-Some.b)) link
    (c.in-Some.ensures ∙ at) (c.if-agree_over.ensures.0 refl))

pub returns-else-agree_over : goal.returns-else-agree_over
returns-else-agree_over c =
    let ends = c.with_ends.ensures in
    up_to_this c.args.snapshot.now c.args.certificate.now.lines c.args.place c.in-Some.a c.in-Some.b c.args.first
    ends.0 c.with_ends.result (sym c.in-Some.ensures) (λ agree. let t = c.if-agree_over.ensures.1 agree in absurd cc)
    c.requires.first ends.1 ends.2

pub returns-in-None : goal.returns-in-None
returns-in-None c =
    up_to_next c.args.snapshot.now c.args.certificate.now.lines c.args.place c.args.first c.requires.first
    (λ link at. absurd (let e = c.in-None.ensures ∙ at in cc))
