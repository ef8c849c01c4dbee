use Rattle.std.proofs.Common.{◌≡◌, inl, inr, refl, sym, subst, arith}
use Rattle.std.proofs.lemmas.Bool.Decides.{nat_tests}
use Rattle.gptp_timeline.specs.Leaving.{TypeLeaves}
use Rattle.gptp_timeline.proofs.LeavingLemmas.{type_leaves}
use Rattle.gptp_timeline.proofs.leaving.type_leaves.Goals as goal

pub returns-then-number-eq2 : goal.returns-then-number-eq2
returns-then-number-eq2 c = λ leaves. elim c.if-number-eq2.either [
  | inl is ↦ subst TypeLeaves (sym is) (type_leaves 0 refl)
  | inr (other, is) ↦ subst TypeLeaves (sym is) (type_leaves 2 refl)
]

pub returns-else-number-eq2 : goal.returns-else-number-eq2
returns-else-number-eq2 c = λ leaves.
    let is : c.args.number ≡ 3 = grind (arith, nat_tests) in subst TypeLeaves (sym is) (type_leaves 3 refl)
