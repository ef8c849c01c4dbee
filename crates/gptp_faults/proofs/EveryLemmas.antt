-- Each document has a table of its faults, or is refused.
use Rattle.std.proofs.Common.{◌≡◌, ◌≤◌, ℕ, Bool, true, false, List, Option, Some, None, IfSome, refl, inl, inr}
use Rattle.gptp_network.specs.Document.{DocumentState}
use Rattle.gptp_network.specs.declared.fault.DocumentFault.{DocumentFault}
use Rattle.gptp_network.specs.declared.fault.DocumentFault.TheVariants.{OutOfRange}
use Rattle.gptp_theorem.specs.PlayedLaws.{IsPlayable}
use Rattle.gptp_faults.specs.Cases.{AreCases}
use Rattle.gptp_faults.specs.EveryLaws.{EachHasFaults, HasFaults, RunsEnd}
use Rattle.gptp_faults.specs.Faults.{FaultsOf}
use Rattle.gptp_faults.specs.FaultsText.{exceeds_limit, table_lines}
use Rattle.gptp_faults.specs.Laws.{LinesHold}
use Rattle.gptp_faults.specs.Refusals.{any_late, fault_before}
use Rattle.gptp_faults.specs.Times.{AreOptions, AreTimes}
use Rattle.gptp_faults.specs.declared.cases.Case.{Case}
use Rattle.gptp_faults.specs.declared.options.FaultsOptions.{FaultsOptions}
use Rattle.gptp_faults.specs.declared.times.Times.{Times}
use Rattle.gptp_faults.proofs.EveryOutcomeLemmas.{outcomes_exist}
use Rattle.gptp_faults.proofs.EveryPlanLemmas.{cases_exist, times_exist}
use Rattle.gptp_faults.proofs.EveryRankingLemmas.{each_is_ranked}
use Rattle.gptp_faults.proofs.FollowLemmas.{follow_settles}
use Rattle.gptp_faults.proofs.WithinLemmas.{lines_within}

module _ (d : DocumentState) (options : FaultsOptions) (playable : IsPlayable d) (runs : RunsEnd d)
    (asked : AreOptions options) (least : IfSome options.hold (λ hold. 1 ≤ hold)) (cases : List Case)
    (are : AreCases d options.only options.power cases) (t : Times) (times : AreTimes d options t) where
  -- none of its cases is refused
  has_table : fault_before d options t cases ≡ None → any_late d options t cases ≡ false → HasFaults d options
  has_table before in_time =
      let (outcomes, are_outcomes) = outcomes_exist d playable runs options asked least cases are t times before
      in_time in
      let (told, ranked) = each_is_ranked outcomes in
      let lines : List (List ℕ) = table_lines options t told in
      let exceeded : Bool = exceeds_limit options.limits told in
      let table : FaultsOf d options lines exceeded = record {
        cases = cases;
        are_cases = are;
        times = t;
        are_times = times;
        before = before;
        in_time = in_time;
        outcomes = outcomes;
        are_outcomes = are_outcomes;
        told = told;
        are_told = ranked;
        are = refl;
        exceeded_is = refl;
      } in
      let hold : LinesHold d options t outcomes = (
        follow_settles d options lines exceeded table playable,
        lines_within d options lines exceeded table playable,
      ) in
      inl (lines, exceeded, table, hold)

  -- by whether one is late
  by_late : (late : Bool) → fault_before d options t cases ≡ None → any_late d options t cases ≡ late
      → HasFaults d options
  by_late false before is = has_table before is
  by_late true before is = inr (
    OutOfRange,
    record {
      cases = cases;
      are_cases = are;
      times = t;
      are_times = times;
      refuses = inr (record { before = before; late = is; is = refl });
    },
  )

  -- and by whether the first moment is refused
  by_first : (fault : Option DocumentFault) → fault_before d options t cases ≡ fault → HasFaults d options
  by_first None is = by_late (any_late d options t cases) is refl
  by_first (Some fault) is = inr (
    fault,
    record { cases = cases; are_cases = are; times = t; are_times = times; refuses = inl is },
  )

pub each_has_faults : EachHasFaults
each_has_faults d options playable runs asked least =
    let (cases, are) = cases_exist d options.only options.power playable.network in
    let (t, times) = times_exist d options playable.network in
    by_first d options playable runs asked least cases are t times (fault_before d options t cases) refl
