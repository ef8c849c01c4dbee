-- What becomes of a case (profile).
use Rattle.std.specs.Prelude.{◌≡◌, ◌==◌, ◌+◌, ◌%◌, ℕ, Bool, List, [], ◌∷◌, ◌++◌, filter, map, length, slice_get, Option, Some, None}
use Rattle.std.specs.List.{range_with_len}
use Rattle.std.specs.Option.{option_map}
use Rattle.gptp_network.specs.Document.{DocumentState}
use Rattle.gptp_timeline.specs.Ends.{EndState}
use Rattle.gptp_faults.specs.Astray.{astray_of}
use Rattle.gptp_faults.specs.Cases.{failing_system}
use Rattle.gptp_faults.specs.Extremes.{greatest_behind, of_back, of_down}
use Rattle.gptp_faults.specs.Follows.{AreFollows}
use Rattle.gptp_timeline.specs.Each.{Each}
use Rattle.gptp_faults.specs.CaseEvents.{events_of}
use Rattle.gptp_faults.specs.Parts.{AreCaseParts, AreFew}
use Rattle.gptp_faults.specs.Refusals.{case_events}
use Rattle.gptp_faults.specs.Runs.{CaseRunEnds, runs_of}
use Rattle.gptp_faults.specs.Whole.{IsWhole, WholeState}
use Rattle.gptp_faults.specs.declared.runs.RunEnds.{RunEnds}
use Rattle.gptp_faults.specs.declared.cases.Case.{Case}
use Rattle.gptp_faults.specs.declared.extremes.Extremes.{Extremes}
use Rattle.gptp_faults.specs.declared.follows.Follow.{Follow}
use Rattle.gptp_faults.specs.declared.outcome.CasePlan.{CasePlan}
use Rattle.gptp_faults.specs.declared.options.FaultsOptions.{FaultsOptions}
use Rattle.gptp_faults.specs.declared.times.Times.{Times}

-- the number of a case, which it is, the greatest of all its runs while it is down and when it is back, and whom
-- systems follow where it comes back in the first run
pub record OutcomeState : Type 0 where
  pub number : ℕ
  pub failing : Case
  pub down : Extremes
  pub back : Extremes
  pub follow : List Follow

-- who is set aside: those that are cut off, and the system that fails
abbrev pub and_this : List ℕ → Option ℕ → List ℕ
and_this names None = names
and_this names (Some name) = names ++ name ∷ []

abbrev pub aside_of : Case → List ℕ → List ℕ
aside_of c cut = and_this cut (failing_system c)

-- what is known of a case before it is run
pub record IsCasePlan (d : DocumentState) (whole : WholeState) (detect : Option ℕ) (at : ℕ) (c : Case) (p : CasePlan)
    : Type 0 where
  pub events : p.events ≡ events_of whole.cables detect c
  pub parts : AreCaseParts d whole.snapshot p.events at p.parts.cut.items p.parts.main.items
  pub few : AreFew p.parts.main.items
  pub aside : p.aside.items ≡ aside_of c p.parts.cut.items

-- the greatest of a run while a case is down, where these systems are cut off, and these are the main parts
abbrev pub down_in : List ℕ → List (List ℕ) → RunEnds → Extremes
down_in cut main r = of_down (option_map (λ (e : EndState). e.stretch) r.first) r.down.stretch (length cut)
    (astray_of r.down.keepers main)

-- and when it is back, where these are the components
abbrev pub back_in : List (List ℕ) → RunEnds → Extremes
back_in parts r = of_back r.back.stretch (astray_of r.back.keepers parts)

-- of a case by its number: the greatest of its runs, and whom systems follow where the first of them ends to be down
pub record IsOutcome (options : FaultsOptions) (d : DocumentState) (t : Times) (number : ℕ) (c : Case)
    (o : OutcomeState) : Type 0 where
  pub whole : WholeState
  pub is_whole : IsWhole d whole
  pub cut : List ℕ
  pub main : List (List ℕ)
  pub parts : AreCaseParts d whole.snapshot (case_events d options c) t.from cut main
  pub first : RunEnds
  pub others : List RunEnds
  pub runs : Each (CaseRunEnds options d t (case_events d options c) (aside_of c cut))
      (range_with_len 0 (runs_of t)) (first ∷ others)
  pub number_is : o.number ≡ number
  pub failing : o.failing ≡ c
  pub down : o.down ≡ greatest_behind (down_in cut main first) (map (down_in cut main) others)
  pub back : o.back ≡ greatest_behind (back_in whole.parts first) (map (back_in whole.parts) others)
  pub follow : AreFollows first.down.roots o.follow

-- ---- the cases of a part

-- a case by its number belongs to this part of so many, from 1
abbrev pub is_of_part : ℕ → ℕ → ℕ → Bool
is_of_part parts part number = number % parts + 1 == part

abbrev pub case_numbers : ℕ → ℕ → ℕ → List ℕ
case_numbers parts part count = filter (is_of_part parts part) (range_with_len 0 count)

-- a case by its number among all
abbrev pub IsOutcomeAt : FaultsOptions → DocumentState → Times → List Case → ℕ → OutcomeState → Type 0
IsOutcomeAt options d t cases number o =
    (c : Case) × (slice_get cases number ≡ Some c) × IsOutcome options d t number c o

-- those that belong to a part, in order
abbrev pub AreOutcomes : DocumentState → Times → FaultsOptions → List Case → List OutcomeState → Type 0
AreOutcomes d t options cases outcomes =
    Each (IsOutcomeAt options d t cases) (case_numbers options.parts options.part (length cases)) outcomes
