-- Numbers that differ rise once they are sorted.
use Rattle.std.proofs.Common.{ℕ, Bool, true, false, eqb, List, [], ◌∷◌, filter, sym, subst, cond}
use Rattle.std.specs.List.{IsDistinct}
use Rattle.std.specs.List.Sorted.{IsPermutation, IsSorted}
use Rattle.std.specs.Ordering.{nat_cmp}
use Rattle.std.proofs.lemmas.List.{map-id}
use Rattle.std.proofs.lemmas.List.Sorted.{IsNonDecreasingBy-from_sort}
use Rattle.std.proofs.lemmas.Map.Keys.{IsDistinct-IsPermutation}
use Rattle.gptp_lists.specs.Members.{Different}
use Rattle.gptp_graph.specs.Order.{IsRising}
use Rattle.gptp_network.proofs.SnapshotLemmas.{from_filter}
use Rattle.gptp_network.proofs.TakingLemmas.{distinct, flips, rising_distinct}

-- ---- what is kept of different members differs

pub Different-filter : {X : Type 0} (p : X → Bool) (xs : List X) → Different xs → Different (filter p xs)
Different-filter p [] d = tt
Different-filter {X} p (x ∷ xs) d = by (p x) (Different-filter p xs d.1)
  where
    by : (test : Bool) → Different (filter p xs) → Different (cond test (x ∷ filter p xs) (filter p xs))
    by true rest = ((λ member. d.0 (from_filter p x xs member).0), rest)
    by false rest = rest

-- ---- different numbers

pub sorted_rising : (before after : List ℕ) → Different before → IsPermutation before after → IsSorted nat_cmp after
    → IsRising after
sorted_rising before after different moved sorted =
    let once : IsDistinct eqb after =
    IsDistinct-IsPermutation eqb flips before after moved (distinct before different) in
    subst IsRising (map-id after)
    (rising_distinct (λ (n : ℕ). n) after (IsNonDecreasingBy-from_sort (λ (n : ℕ). n) after sorted)
    (subst (IsDistinct eqb) (sym (map-id after)) once))
