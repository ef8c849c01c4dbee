use Rattle.std.proofs.Common.{refl}
use Rattle.gptp_checker.proofs.lines.follows_nearer.Goals as goal

pub returns-then-not-follows_parent : goal.returns-then-not-follows_parent
returns-then-not-follows_parent c = (
  (λ t. absurd cc),
  (λ f. let t = c.if-not-follows_parent.ensures.1 f.near in absurd cc),
)

pub returns : goal.returns
returns c = (
  (λ t. record { near = c.if-not-follows_parent.ensures.0 refl; far = c.is_nearer_if_far.ensures.0 t }),
  (λ f. c.is_nearer_if_far.ensures.1 f.far),
)
