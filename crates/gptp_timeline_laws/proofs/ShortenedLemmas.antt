-- A document without its events after a time.
use Rattle.std.proofs.Common.{◌≡◌, inl, inr, ◌<◌, ◌≤◌, ◌+◌, ℕ, Bool, true, false, nat_le, List, [], ◌∷◌, suc, refl, sym, ap, subst, arith}
use Rattle.std.specs.Prelude.{◌==◌, if◌then◌else◌}
use Rattle.std.proofs.lemmas.Bool.{ne_eqb}
use Rattle.std.proofs.lemmas.Bool.Decides.{nat_tests}
use Rattle.gptp_how_soon_laws.proofs.ExactLemmas.{all_kept}
use Rattle.gptp_invariants.specs.WorldEncodableLaws.{SetsAnOctet}
use Rattle.gptp_network.specs.Document.{DocumentState}
use Rattle.gptp_network.specs.Events.{IsEvent}
use Rattle.gptp_network.specs.Snapshot.{events_by}
use Rattle.gptp_network.proofs.SnapshotLemmas.{from_filter}
use Rattle.gptp_scenario.specs.Calm.{IsCalm, NothingLapses}
use Rattle.gptp_scenario.specs.Network.{NetworkState}
use Rattle.gptp_scenario.specs.declared.change.Timed.{Timed}
use Rattle.gptp_settling_time.specs.Arrivals.{HasArrivedBy}
use Rattle.gptp_settling_time.specs.TreeLosses.{FallsTree, TurnsTreeLink}
use Rattle.gptp_settling_time.specs.HowSoon.{BeforeRepeats, BesideIdle, BoundsChoice, BoundsEvents, BoundsFirst, BoundsLoss, BoundsNext, BoundsSplit, BoundsStart, BoundsTree, FailsTreesFirst, HasArrivedNext, IsChoiceAloneBound, IsChoiceBound, IsChoiceBoundAfter, IsLossBoundAfter, IsRestBoundAfter, LosesNext, NoneBetween, OneEvent, RestsAfterLoss, RestsSplit, RestsTree, SplitsNext, TreeNext, events_at}
use Rattle.gptp_settling_time.specs.Rests.{turned_echo_span}
use Rattle.gptp_theorem.specs.PlayedLaws.{IsPlayable}
use Rattle.gptp_timeline.proofs.EventLemmas.{filter_each, filter_in_order}
use Rattle.gptp_timeline.proofs.PastLemmas.{by_sooner}

abbrev pub shortened : ℕ → DocumentState → DocumentState
shortened time d = record { network = d.network; events = events_by time d.events }

-- ---- it can be played

pub playable_by : (time : ℕ) (d : DocumentState) → IsPlayable d → IsPlayable (shortened time d)
playable_by time d playable =
    let test : Timed → Bool = λ (t : Timed). nat_le t.at time in
    record {
      network = playable.network;
      events = record {
        in_order = filter_in_order test d.events playable.events.in_order;
        each = all_kept (IsEvent d.network) test d.events playable.events.each;
      };
      octets = filter_each (λ (t : Timed). SetsAnOctet t.act) test d.events playable.octets;
    }

-- ---- it has the same choice bounds by then

at_sooner : (time until : ℕ) (events : List Timed) → time ≤ until
    → events_at time (events_by until events) ≡ events_at time events
at_sooner time until [] le = refl
at_sooner time until (e ∷ es) le = by (nat_le e.at until) refl (at_sooner time until es le)
  where
    by : (due : Bool) → nat_le e.at until ≡ due → events_at time (events_by until es) ≡ events_at time es
        → events_at time (events_by until (e ∷ es)) ≡ events_at time (e ∷ es)
    by true test rest = rw test (ap (λ fs. if e.at == time then e ∷ fs else fs) rest)
    by false test rest =
        let late : until < e.at = grind (arith, nat_tests) in
        let other : (e.at == time) ≡ false = ne_eqb e.at time (λ same. omega (arith, late, same, le)) in
        rw (test, other) rest

bounds_by : (n : NetworkState) (Sharp More : Type 0) (events : List Timed) (choice : ℕ) → (Sharp → More)
    → BoundsChoice n Sharp events choice → BoundsChoice n More events choice
bounds_by n Sharp More events choice more (calm, inl lapses) = (calm, inl lapses)
bounds_by n Sharp More events choice more (calm, inr (off, inl any)) = (calm, inr (off, inl any))
bounds_by n Sharp More events choice more (calm, inr (off, inr sharp)) = (calm, inr (off, inr (more sharp)))

module _ (n : NetworkState) (all : List Timed) (until : ℕ) where
  -- what is so of the events of a time is so where later ones are left out
  events_so : (So : List Timed → List Timed → Type 0) (last time : ℕ) → last ≤ until → time ≤ until
      → So (events_by last all) (events_at time all)
      → So (events_by last (events_by until all)) (events_at time (events_by until all))
  events_so So last time late le is =
      subst (λ made. So made (events_at time (events_by until all))) (sym (by_sooner last until all late))
      (subst (So (events_by last all)) (sym (at_sooner time until all le)) is)

  first_by : (time choice : ℕ) → time ≤ until → BoundsFirst n all time choice
      → BoundsFirst n (events_by until all) time choice
  first_by time choice le (start, bounds) = (
    start,
    subst (λ es. BoundsChoice n (BoundsStart n es choice) es choice) (sym (by_sooner time until all le)) bounds,
  )

  -- of a later time, behind what is so of the time before
  module _ (Then More : ℕ → Type 0) (last time : ℕ) (le : time ≤ until)
      (more : last ≤ until → (before : ℕ) → Then before → More before) where
    abbrev IsSharp : (ℕ → Type 0) → List Timed → ℕ → Type 0
    IsSharp So events choice = (before : ℕ) × So before × (last + before < time)
        × BoundsEvents n (events_by last events) (events_at time events) (last + before) time choice

    next_by : (choice : ℕ) → BoundsNext n all Then last time choice
        → BoundsNext n (events_by until all) More last time choice
    next_by choice (late, between, bounds) = (
      late,
      λ event member. between event (from_filter (λ (t : Timed). nat_le t.at until) event all member).0,
      subst (λ es. BoundsChoice n (IsSharp More (events_by until all) choice) es choice)
          (sym (by_sooner time until all le))
          (bounds_by n (IsSharp Then all choice) (IsSharp More (events_by until all) choice) (events_by time all) choice
          (λ sharp. (
            sharp.0,
            more (omega (arith, late, le)) sharp.0 sharp.1,
            sharp.2,
            events_so (λ made now. BoundsEvents n made now (last + sharp.0) time choice) last time
                (omega (arith, late, le)) le sharp.3,
          ))
          bounds),
    )

    -- what comes where the time before so stands, and this is so of the events
    abbrev Comes : (ℕ → Type 0) → (List Timed → ℕ → Type 0) → List Timed → Type 0
    Comes So Said events =
        (last < time)
        × NoneBetween events last time
        × IsCalm n (events_by time events)
        × NothingLapses n.params
        × ((before : ℕ) × So before × Said events before)

    comes_by : (Said : List Timed → ℕ → Type 0)
        → (last ≤ until → (before : ℕ) → Said all before → Said (events_by until all) before)
        → Comes Then Said all → Comes More Said (events_by until all)
    comes_by Said short (late, between, calm, off, (before, bound, said)) = (
      late,
      λ event member. between event (from_filter (λ (t : Timed). nat_le t.at until) event all member).0,
      subst (IsCalm n) (sym (by_sooner time until all le)) calm,
      off,
      (before, more (omega (arith, late, le)) before bound, short (omega (arith, late, le)) before said),
    )

    loses_by : (Asks : List Timed → List Timed → Type 0) → LosesNext n all Then last time Asks
        → LosesNext n (events_by until all) More last time Asks
    loses_by Asks (late, between, calm, off, (before, bound, over, beside)) =
        let (late', between', calm', off', (before', bound', said)) =
        comes_by (λ events rest. (last + rest < time)
        × BesideIdle n (last + rest) time Asks (events_by last events) (events_at time events))
        (λ soon rest said. (said.0, events_so (BesideIdle n (last + rest) time Asks) last time soon le said.1))
        (late, between, calm, off, (before, bound, (over, beside))) in (
          late',
          between',
          calm',
          off',
          (before', bound', said.0, said.1),
        )

    -- what was in flight has arrived
    arrived_by : last ≤ until → (before : ℕ) → HasArrivedNext n all last before time
        → HasArrivedNext n (events_by until all) last before time
    arrived_by soon before (arrived, has, over) = (
      arrived,
      subst (λ es. HasArrivedBy n es (suc (last + before)) arrived) (sym (by_sooner last until all soon)) has,
      over,
    )

    splits_by : (Asks : List Timed → List Timed → Type 0) → SplitsNext n all Then last time Asks
        → SplitsNext n (events_by until all) More last time Asks
    splits_by Asks (late, between, calm, off, before, fails) =
        let (late', between', calm', off', before') =
        comes_by (λ events rest. HasArrivedNext n events last rest time) arrived_by
        (late, between, calm, off, before) in (
          late',
          between',
          calm',
          off',
          before',
          events_so (BeforeRepeats n (λ made now. FailsTreesFirst n made now × Asks made now)) last time
              (omega (arith, late, le)) le fails,
        )

    tree_by : (Is : List Timed → Timed → Type 0) (Asks : List Timed → Type 0) → TreeNext n Is all Then last time Asks
        → TreeNext n Is (events_by until all) More last time Asks
    tree_by Is Asks (late, between, calm, off, before, lowers, asks) =
        let (late', between', calm', off', before') =
        comes_by (λ events rest. HasArrivedNext n events last rest time) arrived_by
        (late, between, calm, off, before) in (
          late',
          between',
          calm',
          off',
          before',
          events_so (BeforeRepeats n (OneEvent Is)) last time (omega (arith, late, le)) le lowers,
          subst Asks (sym (by_sooner time until all le)) asks,
        )

  rest_by : (earlier : List ℕ) (time rest : ℕ) → time ≤ until → IsRestBoundAfter n all earlier time rest
      → IsRestBoundAfter n (events_by until all) earlier time rest
  rest_by [] time rest le bounds = first_by time rest le bounds
  rest_by (last ∷ earlier) time rest le (inl bounds) =
      inl (next_by (λ before. IsRestBoundAfter n all earlier last before)
      (λ before. IsRestBoundAfter n (events_by until all) earlier last before) last time le
      (λ soon before. rest_by earlier last before soon) rest bounds)
  rest_by (last ∷ earlier) time rest le (inr (inl loses)) =
      inr (inl (loses_by (λ before. IsRestBoundAfter n all earlier last before)
      (λ before. IsRestBoundAfter n (events_by until all) earlier last before) last time le
      (λ soon before. rest_by earlier last before soon) (λ made now. RestsAfterLoss n made now rest) loses))
  rest_by (last ∷ earlier) time rest le (inr (inr (inl falls))) =
      inr (inr (inl (tree_by (λ before. IsRestBoundAfter n all earlier last before)
      (λ before. IsRestBoundAfter n (events_by until all) earlier last before) last time le
      (λ soon before. rest_by earlier last before soon) (FallsTree n) (RestsTree n rest) falls)))
  rest_by (last ∷ earlier) time rest le (inr (inr (inr (inl turns)))) =
      inr (inr (inr (inl (tree_by (λ before. IsRestBoundAfter n all earlier last before)
      (λ before. IsRestBoundAfter n (events_by until all) earlier last before) last time le
      (λ soon before. rest_by earlier last before soon) (TurnsTreeLink n)
      (λ events. rest ≡ turned_echo_span n events) turns))))
  rest_by (last ∷ earlier) time rest le (inr (inr (inr (inr splits)))) =
      inr (inr (inr (inr (splits_by (λ before. IsRestBoundAfter n all earlier last before)
      (λ before. IsRestBoundAfter n (events_by until all) earlier last before) last time le
      (λ soon before. rest_by earlier last before soon) (λ made now. RestsSplit n rest made now) splits))))

  bound_by : (earlier : List ℕ) (time choice : ℕ) → time ≤ until → IsChoiceBoundAfter n all earlier time choice
      → IsChoiceBoundAfter n (events_by until all) earlier time choice
  bound_by [] time choice le bounds = first_by time choice le bounds
  bound_by (last ∷ earlier) time choice le bounds =
      next_by (λ before. IsRestBoundAfter n all earlier last before)
      (λ before. IsRestBoundAfter n (events_by until all) earlier last before) last time le
      (λ soon before. rest_by earlier last before soon) choice bounds

  loss_by : (earlier : List ℕ) (time choice roles : ℕ) → time ≤ until
      → IsLossBoundAfter n all earlier time choice roles
      → IsLossBoundAfter n (events_by until all) earlier time choice roles
  loss_by [] time choice roles le none = absurd none
  loss_by (last ∷ earlier) time choice roles le (inl loses) =
      inl (loses_by (λ before. IsRestBoundAfter n all earlier last before)
      (λ before. IsRestBoundAfter n (events_by until all) earlier last before) last time le
      (λ soon before. rest_by earlier last before soon) (λ made now. BoundsLoss n made now choice roles) loses)
  loss_by (last ∷ earlier) time choice roles le (inr (inl falls)) =
      inr (inl (tree_by (λ before. IsRestBoundAfter n all earlier last before)
      (λ before. IsRestBoundAfter n (events_by until all) earlier last before) last time le
      (λ soon before. rest_by earlier last before soon) (FallsTree n) (BoundsTree n choice roles) falls))
  loss_by (last ∷ earlier) time choice roles le (inr (inr (inl turns))) =
      inr (inr (inl (tree_by (λ before. IsRestBoundAfter n all earlier last before)
      (λ before. IsRestBoundAfter n (events_by until all) earlier last before) last time le
      (λ soon before. rest_by earlier last before soon) (TurnsTreeLink n) (BoundsTree n choice roles) turns)))
  loss_by (last ∷ earlier) time choice roles le (inr (inr (inr splits))) =
      inr (inr (inr (splits_by (λ before. IsRestBoundAfter n all earlier last before)
      (λ before. IsRestBoundAfter n (events_by until all) earlier last before) last time le
      (λ soon before. rest_by earlier last before soon) (λ made now. BoundsSplit n choice roles made now) splits)))

pub short_bound : (d : DocumentState) (until time choice : ℕ) → time ≤ until → IsChoiceBound d time choice
    → IsChoiceBound (shortened until d) time choice
short_bound d until time choice le (earlier, inl bound) =
    (earlier, inl (bound_by d.network d.events until earlier time choice le bound))
short_bound d until time choice le (earlier, inr (alone, lost)) =
    (earlier, inr (alone, loss_by d.network d.events until earlier time alone choice le lost))

-- so it has the same bounds of the choice alone
pub short_alone : (d : DocumentState) (until time choice : ℕ) → time ≤ until → IsChoiceAloneBound d time choice
    → IsChoiceAloneBound (shortened until d) time choice
short_alone d until time choice le (earlier, inl bound) =
    (earlier, inl (bound_by d.network d.events until earlier time choice le bound))
short_alone d until time choice le (earlier, inr (roles, lost)) =
    (earlier, inr (roles, loss_by d.network d.events until earlier time choice roles le lost))
