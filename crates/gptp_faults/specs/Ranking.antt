-- Cases in the order in which they are told (profile).
use Rattle.std.specs.Prelude.{ℕ, ◌/◌, Bool, List, [], ◌∷◌, Option, Some, None}
use Rattle.std.specs.List.Sorted.{IsPermutation, IsSortedBy, IsStableBy}
use Rattle.std.specs.declared.cmp.Ordering.{Ordering}
use Rattle.std.specs.Cmp.Lexicographic.{slice_cmp}
use Rattle.std.specs.Ordering.{is_lt, nat_cmp}
use Rattle.gptp_timeline.specs.Limits.{amount_of}
use Rattle.gptp_faults.specs.Extremes.{greatest_of_two}
use Rattle.gptp_faults.specs.Outcomes.{OutcomeState}
use Rattle.gptp_faults.specs.declared.extremes.Extremes.{Extremes}

-- one that is there is above one that isn't
abbrev pub there : Option ℕ → ℕ
there None = 0
there (Some amount) = 1

abbrev pub amount_or_0 : Option ℕ → ℕ
amount_or_0 None = 0
amount_or_0 (Some amount) = amount

-- what cases are compared by, the weightiest first: astray, holdover in whole ms, choice, cut
abbrev pub weight : Extremes → List ℕ
weight e =
    e.astray
    ∷ there (amount_of e.holdover) ∷ amount_or_0 (amount_of e.holdover) / 1000000
    ∷ there e.choice ∷ amount_or_0 e.choice
    ∷ e.cut ∷ []

abbrev pub outcome_order : Extremes → Extremes → Ordering
outcome_order a b = slice_cmp nat_cmp (weight a) (weight b)

-- the greater of down and back
abbrev pub worst_of : OutcomeState → Extremes
worst_of o = greatest_of_two o.down o.back

-- the first of these in which they differ is the greater
abbrev pub is_worse : OutcomeState → OutcomeState → Bool
is_worse a b = is_lt (outcome_order (worst_of b) (worst_of a))

-- outcomes in the order in which they are told: the worst first, and of equals the first
pub record OutcomesAreRanked (outcomes told : List OutcomeState) : Type 0 where
  pub same : IsPermutation outcomes told
  pub worst_first : IsSortedBy is_worse told
  pub equals : IsStableBy is_worse outcomes told
