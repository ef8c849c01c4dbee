-- The greatest of several amounts.
use Rattle.std.proofs.Common.{◌≡◌, ◌≤◌, ℕ, Bool, true, false, List, [], ◌∷◌, ◌++◌, Option, Some, None, IfSome, if◌then◌else◌, refl}
use Rattle.std.specs.Prelude.{nat_lt}
use Rattle.std.specs.List.{AllByRecursion}
use Rattle.gptp_timeline.specs.Measures.{better, greatest_from}
use Rattle.gptp_timeline.specs.declared.measures.Greatest.{Greatest}

-- of some and of others after them
pub greatest_both : (best : Option Greatest) (xs ys : List Greatest)
    → greatest_from best (xs ++ ys) ≡ greatest_from (greatest_from best xs) ys
greatest_both best [] ys = refl
greatest_both best (x ∷ xs) ys = greatest_both (better best x) xs ys

-- where none is above a bound, the greatest isn't
pub greatest_within : (bound : ℕ) (best : Option Greatest) (xs : List Greatest)
    → IfSome best (λ (g : Greatest). g.amount ≤ bound) → AllByRecursion (λ (g : Greatest). g.amount ≤ bound) xs
    → IfSome (greatest_from best xs) (λ (g : Greatest). g.amount ≤ bound)
greatest_within bound best [] first all = first
greatest_within bound None (x ∷ xs) first all = greatest_within bound (Some x) xs all.0 all.1
greatest_within bound (Some b) (x ∷ xs) first all =
    by (nat_lt b.amount x.amount) (greatest_within bound (Some x) xs all.0 all.1)
    (greatest_within bound (Some b) xs first all.1)
  where
    Within : Option Greatest → Type 0
    Within best = IfSome (greatest_from best xs) (λ (g : Greatest). g.amount ≤ bound)

    by : (above : Bool) → Within (Some x) → Within (Some b) → Within (if above then Some x else Some b)
    by true other this = other
    by false other this = this
