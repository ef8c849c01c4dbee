use Rattle.std.proofs.Common.{◌+◌, eq-eqb, arith}
use Rattle.std.proofs.lemmas.Bool.{eqb-true}
use Rattle.gptp_checker.proofs.StatedLemmas.{same_number}
use Rattle.gptp_checker.proofs.nearer.states_one_less.Goals as goal

pub returns-in-Some : goal.returns-in-Some
returns-in-Some c = (
  (λ t. let e = eqb-true (c.from.result + 1) c.from-in-Some.result t in
      (c.in-Some.there, c.in-Some.ensures.some, omega arith)),
  (λ (d, at, less). let same = same_number c.in-Some.there d (c.in-Some.ensures.only d at) in
      eq-eqb (c.from.result + 1) c.from-in-Some.result (omega arith)),
)

pub returns-in-None : goal.returns-in-None
returns-in-None c = (
  (λ t. absurd cc),
  (λ (d, at, less). let e = c.in-None.ensures.only d at in absurd cc),
)
