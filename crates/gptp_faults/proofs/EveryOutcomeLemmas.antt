-- Where runs end, something becomes of each case.
use Rattle.std.proofs.Common.{◌≡◌, ◌≤◌, ◌<◌, ◌+◌, ◌/◌, ℕ, zero, suc, false, List, [], ◌∷◌, length, map, slice_get, Some, None, IfSome, refl, sym, ap, subst, inl, inr, arith}
use Rattle.std.specs.List.{range_with_len}
use Rattle.std.specs.Option.{is_some}
use Rattle.std.proofs.lemmas.Nat.{mul-le}
use Rattle.gptp_graph.specs.Snapshot.{clocks, Snapshot}
use Rattle.gptp_graph.proofs.ExistenceLemmas.{best_exists}
use Rattle.gptp_lists.specs.Members.{In}
use Rattle.gptp_lists.proofs.PlaceLemmas.{member_there}
use Rattle.gptp_lists.proofs.SystemSpecLemmas.{In-slice_get}
use Rattle.gptp_model.specs.Views.{rising_clocks}
use Rattle.gptp_network.specs.Document.{DocumentState, seeded_document}
use Rattle.gptp_network.specs.Snapshot.{events_by, IsSnapshot}
use Rattle.gptp_network.proofs.ExistenceLemmas.{snapshot_exists}
use Rattle.gptp_network.proofs.SnapshotLemmas.{from_filter}
use Rattle.gptp_scenario.specs.Calm.{last_change}
use Rattle.gptp_theorem.specs.PlayedLaws.{IsPlayable}
use Rattle.gptp_timeline.specs.Aside.{AsideState}
use Rattle.gptp_timeline.specs.Each.{Each}
use Rattle.gptp_timeline.specs.LastStretches.{aside_if, first_aside, none_last}
use Rattle.gptp_timeline.specs.declared.ends.LastStretches.{LastStretches}
use Rattle.gptp_timeline.proofs.PastLemmas.{all_past}
use Rattle.gptp_faults.specs.Cables.{cables_after}
use Rattle.gptp_faults.specs.CaseEvents.{EventsState}
use Rattle.gptp_faults.specs.Cases.{AreCases}
use Rattle.gptp_faults.specs.EveryLaws.{RunsEnd}
use Rattle.gptp_faults.specs.Extremes.{greatest_behind}
use Rattle.gptp_faults.specs.Options.{tracks}
use Rattle.gptp_faults.specs.Outcomes.{aside_of, AreOutcomes, back_in, down_in, IsOutcome, IsOutcomeAt, OutcomeState, is_of_part, case_numbers}
use Rattle.gptp_faults.specs.Parts.{AreCaseParts, cut_off, IsPlaced, kept, parts_of, weighed}
use Rattle.gptp_faults.specs.Refusals.{any_late, case_events, fault_before, is_late}
use Rattle.gptp_faults.specs.Runs.{AreRunEnds, CaseRunEnds, draws, generator, has_changes, run_moment, runs_of, seed_of, set_aside}
use Rattle.gptp_faults.specs.Stays.{back_at, document_of, end_at, failed_document, hold_of, with_case}
use Rattle.gptp_faults.specs.Times.{AreOptions, AreTimes, moment}
use Rattle.gptp_faults.specs.Whole.{IsWhole, WholeState}
use Rattle.gptp_faults.specs.declared.case_events.CaseChange.{CaseChange}
use Rattle.gptp_faults.specs.declared.cases.Case.{Case}
use Rattle.gptp_faults.specs.declared.options.FaultsOptions.{FaultsOptions}
use Rattle.gptp_faults.specs.declared.parts.Placed.{Placed}
use Rattle.gptp_faults.specs.declared.runs.RunEnds.{RunEnds}
use Rattle.gptp_faults.specs.declared.times.Times.{Times}
use Rattle.gptp_faults.proofs.DownLemmas.{has_three, has_two, HasThree, HasTwo}
use Rattle.gptp_faults.proofs.EventsLemmas.{has_events, HasEvents, IsSeenFrom}
use Rattle.gptp_faults.proofs.EveryPlanLemmas.{each_exists, hold_some}
use Rattle.gptp_faults.proofs.EveryRankingLemmas.{roots_are_followed}
use Rattle.gptp_faults.proofs.FollowLemmas.{moment_first}
use Rattle.gptp_faults.proofs.LivedLemmas.{case_starts_none, lived_before, StartNone}
use Rattle.gptp_faults.proofs.PlayableLemmas.{can_happen, CanHappen, case_playable, failed_playable}
use Rattle.gptp_faults.proofs.RefusalLemmas.{ends_early, in_time_of, IsInTime, not_late, not_late_at, not_refused}
use Rattle.gptp_faults.proofs.ReturnLemmas.{are_last}
use Rattle.gptp_faults.proofs.RunLemmas.{moment_below}
use Rattle.gptp_faults.proofs.WellLemmas.{playable_well}

-- ---- numbers

in_range : (count start number : ℕ) → In number (range_with_len start count) → number < start + count
in_range zero start number member = absurd member
in_range (suc count) start number (inl same) = omega (arith, same)
in_range (suc count) start number (inr later) =
    let below = in_range count (start + 1) number later in omega (arith, below)

below_count : (count number : ℕ) → In number (range_with_len 0 count) → number < count
below_count count number member = let below = in_range count 0 number member in omega (arith, below)

-- where there are numbers, the list of what is there for each isn't empty
none_for : {Y : Type 0} (P : ℕ → Y → Type 0) (count : ℕ) → 0 < count → Each P (range_with_len 0 count) [] → ⊥
none_for P zero some each = absurd (omega (arith, some))
none_for P (suc count) some each = each

-- ---- parts of components

pub whole_exists : (d : DocumentState) → IsPlayable d → (w : WholeState) × IsWhole d w
whole_exists d playable =
    let (g, stands) = snapshot_exists d (last_change d.events) playable.network in
    let well = playable_well d playable (last_change d.events) g stands in
    let (systems, are) = each_exists (IsPlaced g g) (clocks g) (λ name member.
    let (best, is) = best_exists g name well member in
    let x : Placed = record { clock = name; component = best.identity; part = best.identity } in
    (x, record { clock = refl; component = (best, is, refl); part = (best, is, refl) })) in (
      record { cables = cables_after d; snapshot = g; parts = parts_of systems },
      record { cables = refl; stands = stands; parts = record { systems = systems; are = are; parts_are = refl } },
    )

parts_exist : (d : DocumentState) (e : EventsState) (playable : IsPlayable d) (can : CanHappen d.network e)
    → StartNone e → (at : ℕ) → IsPlayable (failed_document at e d) → (g : Snapshot)
    → IsSnapshot d (last_change d.events) g → (cut : List ℕ) × (main : List (List ℕ)) × AreCaseParts d g e at cut main
parts_exist d e playable can none at failed_plays g stands =
    let failed = failed_document at e d in
    let (after, stands') = snapshot_exists failed (last_change failed.events) failed_plays.network in
    let well = playable_well d playable (last_change d.events) g stands in
    let well' = playable_well failed failed_plays (last_change failed.events) after stands' in
    let (systems, are) = each_exists (IsPlaced g after) (clocks after) (λ name member.
    let before = lived_before d e playable can none at failed_plays g after stands stands' name member in
    let (component, is) = best_exists g name well before in
    let (part, of) = best_exists after name well' member in
    let x : Placed = record { clock = name; component = component.identity; part = part.identity } in
    (x, record { clock = refl; component = (component, is, refl); part = (part, of, refl) })) in (
      cut_off (weighed systems),
      parts_of (kept (weighed systems)),
      record {
        after = after;
        stands = stands';
        left = record { systems = systems; are = are; cut_is = refl; main_is = refl };
      },
    )

-- ---- a run

-- the last stretches of a run are those in which a case is down and is back
ends_of : (seen : List CaseChange) (last : LastStretches) → HasTwo last
    → ((c : CaseChange) (cs : List CaseChange) → seen ≡ c ∷ cs → HasThree last)
    → (r : RunEnds) × AreRunEnds (has_changes seen) last r
ends_of [] last two three = (
  record { first = None; down = two.first; back = two.second },
  (refl, two.before_is, two.last_is),
)
ends_of (c ∷ cs) last two three =
    let is = three c cs refl in (
      record { first = last.earlier; down = is.two.first; back = is.two.second },
      (ap is_some is.earlier_is, refl, is.two.before_is, is.two.last_is),
    )

seen_later : (seen : List CaseChange) (delay : ℕ) (c : CaseChange) (cs : List CaseChange) → IsSeenFrom 1 seen delay
    → seen ≡ c ∷ cs → 1 ≤ delay
seen_later [] delay c cs from is = absurd cc
seen_later (x ∷ xs) delay c cs from is = from

-- what becomes of a case of which each run is there
outcome_of : (options : FaultsOptions) (d : DocumentState) (t : Times) (c : Case) (number : ℕ) (whole : WholeState)
    → IsWhole d whole → (cut : List ℕ) (main : List (List ℕ))
    → AreCaseParts d whole.snapshot (case_events d options c) t.from cut main → (all : List RunEnds)
    → 0 < runs_of t
    → Each (CaseRunEnds options d t (case_events d options c) (aside_of c cut)) (range_with_len 0 (runs_of t)) all
    → (o : OutcomeState) × IsOutcome options d t number c o
outcome_of options d t c number whole is_whole cut main parts [] some each =
    absurd (none_for (CaseRunEnds options d t (case_events d options c) (aside_of c cut)) (runs_of t) some each)
outcome_of options d t c number whole is_whole cut main parts (first ∷ others) some each =
    let (follow, are) = roots_are_followed first.down.roots in (
      record {
        number = number;
        failing = c;
        down = greatest_behind (down_in cut main first) (map (down_in cut main) others);
        back = greatest_behind (back_in whole.parts first) (map (back_in whole.parts) others);
        follow = follow;
      },
      record {
        whole = whole;
        is_whole = is_whole;
        cut = cut;
        main = main;
        parts = parts;
        first = first;
        others = others;
        runs = each;
        number_is = refl;
        failing = refl;
        down = refl;
        back = refl;
        follow = are;
      },
    )

-- ---- the cases of a part

module _ (d : DocumentState) (playable : IsPlayable d) (runs : RunsEnd d) (options : FaultsOptions)
    (asked : AreOptions options) (least : IfSome options.hold (λ hold. 1 ≤ hold)) (all : List Case)
    (are : AreCases d options.only options.power all) (t : Times) (times : AreTimes d options t)
    (before : fault_before d options t all ≡ None) where
  some_moment : 1 ≤ t.moments
  some_moment = let some = asked.some_moment in let same = times.moments_are in omega (arith, some, same)

  some_seed : 1 ≤ t.seeds
  some_seed = let some = asked.some_seed in let same = times.seeds_are in omega (arith, some, same)

  some_run : 0 < runs_of t
  some_run = let product = mul-le 1 1 t.moments t.seeds some_moment some_seed in omega (arith, product)

  module _ (place : ℕ) (c : Case) (there : slice_get all place ≡ Some c) where
    abbrev e : EventsState
    e = case_events d options c

    has : HasEvents 1 e
    has = has_events 1 (cables_after d) options.detect c asked.some_detect

    can : CanHappen d.network e
    can =
        can_happen d playable options.detect options.only options.power all are c (In-slice_get c all place there)

    in_time : (number : ℕ) → number < t.moments → IsInTime d options.hold e (moment t number)
    in_time number below =
        in_time_of d options.hold t e number (not_refused d options t all before place c there) below

    -- at each of its moments the document with the case can be played
    plays : (at : ℕ) → IsInTime d options.hold e at → IsPlayable (document_of d options.hold e at)
    plays at k =
        case_playable d e playable can at (hold_of d options.hold e at) k.behind_last k.returns

    -- and without its return
    failed_plays : IsPlayable (failed_document t.from e d)
    failed_plays =
        let k = subst (IsInTime d options.hold e) (moment_first t) (in_time 0 some_moment) in
        let returns = k.returns in
        failed_playable d e playable can t.from k.behind_last (omega (arith, returns))

    -- a case that isn't late
    case_run : (names : List ℕ) → is_late d options.hold t e ≡ false → (run : ℕ) → run < runs_of t
        → (r : RunEnds) × CaseRunEnds options d t e names run r
    case_run names in_end run below =
        let at = run_moment t run in
        let hold = hold_of d options.hold e at in
        let until = end_at d options.hold e at in
        let number = moment_below run t.moments t.seeds some_seed below in
        let k = in_time (run / t.seeds) number in
        let past = all_past at d.events playable.events.in_order k.behind_last in
        let some = hold_some d playable.network 1 e has at options.hold least in
        let within : back_at at e hold ≤ until = omega arith in
        let late = not_late_at d options.hold t e (run / t.seeds) in_end number in
        let aside : AsideState = set_aside d options.hold e names at in
        let seed = seed_of t run in
        let (last, ends) = runs (tracks options) aside e at hold seed until (generator seed) (plays at k)
        (ends_early d options.hold e at late) in
        let whole = seeded_document seed (with_case at hold e d) in
        let clocks = rising_clocks ends.start in
        let lasts = are_last 1 e has at d hold past until within some in
        let begun = first_aside (tracks options) (aside_if (tracks options) aside) clocks in
        let two : HasTwo last = subst HasTwo (sym ends.are)
        (has_two draws whole until clocks ends.passages (at + e.delay) (back_at at e hold) 0
        (events_by until whole.events) begun none_last ends.started ends.fate_after ends.start ends.after lasts
        ends.pass) in
        let (r, last_are) = ends_of e.seen last two (λ x xs seen.
        let delay = seen_later e.seen e.delay x xs has.seen_from seen in
        subst HasThree (sym ends.are)
        (has_three draws whole until clocks ends.passages (at + e.delay) (back_at at e hold) 0
        (events_by until whole.events) begun none_last ends.started ends.fate_after ends.start ends.after lasts
        (omega (arith, delay)) ends.pass)) in
        (r, record { last = last; ends = ends; are = last_are })

    outcome_exists : is_late d options.hold t e ≡ false → (o : OutcomeState) × IsOutcome options d t place c o
    outcome_exists in_end =
        let (whole, is_whole) = whole_exists d playable in
        let none = case_starts_none (cables_after d) options.detect c in
        let (cut, main, parts) =
        parts_exist d e playable can none t.from failed_plays whole.snapshot is_whole.stands in
        let (ends, each) = each_exists (CaseRunEnds options d t e (aside_of c cut)) (range_with_len 0 (runs_of t))
        (λ n among. case_run (aside_of c cut) in_end n (below_count (runs_of t) n among)) in
        outcome_of options d t c place whole is_whole cut main parts ends some_run each

  module _ (in_time_all : any_late d options t all ≡ false) where
    outcome_at : (number : ℕ) → number < length all → (o : OutcomeState) × IsOutcomeAt options d t all number o
    outcome_at number below =
        let (c, there) = member_there all number below in
        let (o, outcome) = outcome_exists number c there (not_late d options t all in_time_all number c there) in
        (o, (c, there, outcome))

    pub outcomes_exist : (outcomes : List OutcomeState) × AreOutcomes d t options all outcomes
    outcomes_exist =
        each_exists (IsOutcomeAt options d t all) (case_numbers options.parts options.part (length all))
        (λ number member.
        let among = from_filter (is_of_part options.parts options.part) number (range_with_len 0 (length all)) member in
        outcome_at number (below_count (length all) number among.0))
