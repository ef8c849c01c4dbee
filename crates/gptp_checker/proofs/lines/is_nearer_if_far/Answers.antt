use Rattle.std.proofs.Common.{refl, sym, ◌∙◌}
use Rattle.gptp_checker.proofs.lines.is_nearer_if_far.Goals as goal

pub returns-then-line : goal.returns-then-line
returns-then-line c = ((λ t far. c.has_nearer.ensures.0 t), (λ h. c.has_nearer.ensures.1 (h c.if-line.true)))

pub returns : goal.returns
returns c = ((λ t far. absurd (let e = sym far ∙ c.if-line.false in cc)), (λ h. refl))
