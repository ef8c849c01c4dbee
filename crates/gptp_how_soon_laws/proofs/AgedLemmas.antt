-- What others hold of a system that fails has aged, and ports at silent links are off, as soon as their bounds say.
use Rattle.std.proofs.Common.{◌≡◌, ◌<◌, inl, inr, ◌+◌, max, ℕ, Bool, true, false, List, [], ◌∷◌, ◌++◌, Some, refl, arith, ◌⊎◌, ◌*◌, ap, ◌∙◌, ◌≤◌}
use Rattle.std.specs.Prelude.{if◌then◌else◌, nat_lt}
use Rattle.std.specs.List.{AllByRecursion}
use Rattle.std.proofs.lemmas.Bool.Decides.{nat_tests}
use Rattle.gptp_setup.specs.SettlingParams.{largest_interval, longest_span}
use Rattle.gptp_scenario.specs.Calm.{last_change}
use Rattle.gptp_scenario.specs.Network.{IsNetwork, NetworkState, pace_of}
use Rattle.gptp_scenario.specs.SettlingTime.{echo_span, silence_span, way_span}
use Rattle.gptp_scenario.specs.declared.change.Timed.{Timed}
use Rattle.gptp_scenario.specs.SyncWait.{sync_paths}
use Rattle.gptp_network.specs.Snapshot.{events_by}
use Rattle.gptp_how_soon.specs.Bounds.{aged_by, quiet_by}
use Rattle.gptp_how_soon.specs.Silent.{own_intervals}
use Rattle.gptp_how_soon.specs.Times.{View, events_at, loss_at, view_at}
use Rattle.gptp_how_soon.specs.declared.bounds.Loss.{Loss}
use Rattle.gptp_how_soon.specs.declared.bounds.SettlingTime.{SettlingTime}
use Rattle.gptp_settling_time.specs.HowSoon.{BoundsAging, HeldFor, RestsSplit}
use Rattle.gptp_settling_time.proofs.MomentLemmas.{all_at, last_by}
use Rattle.gptp_settling_time.specs.Losses.{UpIsUsed}
use Rattle.gptp_settling_time.specs.TreeLosses.{CutsAllBeyondFrom, LeavesAloneFrom}
use Rattle.gptp_settling_time.specs.Rests.{FlightIsGoneSince}
use Rattle.gptp_how_soon_laws.proofs.RowLossLemmas.{none_left}
use Rattle.gptp_how_soon_laws.proofs.SilentLemmas.{held_for, last_now, none_ages}
use Rattle.gptp_how_soon_laws.proofs.UnmovedLemmas.{AreWell}

below : (a b : ℕ) → nat_lt a b ≡ true → a < b
below a b is = grind (arith, nat_tests)

rested_late : (aged ways echo quiet sound : ℕ) → sound ≡ max (aged + (ways + echo)) quiet
    → max (max (aged + ways) quiet) (aged + ways + echo) ≤ sound
rested_late aged ways echo quiet sound is = omega (arith, is)

rested_alone : (silent : Bool) (aged ways delay quiet sound : ℕ)
    → sound ≡ (if silent then max (max (aged + ways) delay) quiet else max (aged + ways) delay)
    → max (max (aged + ways) (if silent then max aged quiet else aged)) delay ≤ sound
rested_alone true aged ways delay quiet sound is = omega (arith, is)
rested_alone false aged ways delay quiet sound is = omega (arith, is)

module _ (n : NetworkState) (network : IsNetwork n) (all : List Timed) (b : SettlingTime) (at : ℕ)
    (late : b.at < at) where
  abbrev made : List Timed
  made = events_by b.at all

  abbrev now : List Timed
  now = events_at at all

  abbrev v : View
  v = view_at n made now (Some b) at

  abbrev loss : Loss
  loss = loss_at v

  module _ (well : AreWell n (made ++ now)) where
    -- what others hold of a system that fails has aged so much later
    held : (now ≡ [] → ⊥) → HeldFor n made now v.moves.held
    held some =
        held_for n network made now (own_intervals n (Some b) at) (late_so now some (all_at at all))
        (well made now refl)
      where
        late_so : (events : List Timed) → (events ≡ [] → ⊥)
            → AllByRecursion (λ (t : Timed). t.at ≡ at) events → own_intervals n (Some b) at ≡ true
            → last_change made + largest_interval (pace_of n) + longest_span (pace_of n)
            < last_change (made ++ events)
        late_so [] none at_all own = absurd (none refl)
        late_so (event ∷ events) some at_all own =
            let last = last_by b.at all in
            let moment = last_now at made event events at_all in
            let passed = below (b.at + largest_interval (pace_of n) + longest_span (pace_of n)) at own in
            omega (arith, last, moment, passed)

    -- nothing has to age where no lost link is silent
    pub aged : (now ≡ [] → ⊥) → HeldFor n made now (aged_by loss)
    aged some = by v.silent refl
      where
        by : (silent : Bool) → v.silent ≡ silent → HeldFor n made now (if silent then v.moves.held else 0)
        by true is = held some
        by false is =
            let none = none_left n network all b at late is in
            (0, none_ages n made (made ++ now) (last_change (made ++ now)) none, omega arith)

    -- and roles stand then, or once ports at silent links are off
    pub aging : (now ≡ [] → ⊥) → BoundsAging n made now (aged_by loss) (quiet_by n loss (aged_by loss))
    aging some = by v.silent refl
      where
        by : (silent : Bool) → v.silent ≡ silent
            → BoundsAging n made now (if silent then v.moves.held else 0)
            (if silent then max (if silent then v.moves.held else 0) (silence_span (pace_of n))
            else if silent then v.moves.held else 0)
        by true is =
            let (span, ages, least) = held some in
            inr ((span, ages, least), omega (arith, least))
        by false is = inl (none_left n network all b at late is, refl, refl)

    -- so they do where the choice stands later
    pub quiet_later : (more : ℕ)
        → quiet_by n loss (aged_by loss + more) ≡ max (aged_by loss + more) (quiet_by n loss (aged_by loss))
    quiet_later more = by v.silent
      where
        by : (silent : Bool)
            → (if silent then max ((if silent then v.moves.held else 0) + more) (silence_span (pace_of n))
            else (if silent then v.moves.held else 0) + more)
            ≡ max ((if silent then v.moves.held else 0) + more)
            (if silent then max (if silent then v.moves.held else 0) (silence_span (pace_of n))
            else if silent then v.moves.held else 0)
        by true = omega arith
        by false = omega arith

    -- so much is enough behind a failure that moves trees
    abbrev pub Enough : ℕ → ℕ → ℕ → Type 0
    Enough sound choice roles =
        (max roles (choice + max (echo_span (pace_of n) (sync_paths n (made ++ now))) (largest_interval (pace_of n)))
        ≤ sound)
        ⊎ ((CutsAllBeyondFrom n made (made ++ now) × (flight : ℕ) × FlightIsGoneSince n made (made ++ now) flight
        × (max roles (choice + flight) ≤ sound))
        ⊎ (LeavesAloneFrom n made (made ++ now) × UpIsUsed n made × (max roles (sync_paths n made).delay ≤ sound)))

    -- where so much is, it has come to rest
    split_enough : (sound : ℕ) → (now ≡ [] → ⊥)
        → Enough sound (aged_by loss + 2 * way_span v.paths)
        (max (aged_by loss + 2 * way_span v.paths) (quiet_by n loss (aged_by loss)))
        → RestsSplit n sound made now
    split_enough sound some enough = (
      aged_by loss + 2 * way_span v.paths,
      max (aged_by loss + 2 * way_span v.paths) (quiet_by n loss (aged_by loss)),
      (aged_by loss, quiet_by n loss (aged_by loss), aging some, refl, refl),
      enough,
    )

    -- so it has come to rest by so much later than the choice stands, where that is enough
    pub split_rests : (sound more : ℕ) → (now ≡ [] → ⊥)
        → sound ≡ quiet_by n loss (aged_by loss + 2 * way_span v.paths + more)
        → (max (max (aged_by loss + 2 * way_span v.paths) (quiet_by n loss (aged_by loss)))
        (aged_by loss + 2 * way_span v.paths + more)
        ≤ sound
        → Enough sound (aged_by loss + 2 * way_span v.paths)
        (max (aged_by loss + 2 * way_span v.paths) (quiet_by n loss (aged_by loss))))
        → RestsSplit n sound made now
    split_rests sound more some told enough =
        let same : aged_by loss + 2 * way_span v.paths + more ≡ aged_by loss + (2 * way_span v.paths + more) =
        omega arith in
        let later = rested_late (aged_by loss) (2 * way_span v.paths) more (quiet_by n loss (aged_by loss)) sound
        (told ∙ ap (quiet_by n loss) same
        ∙ quiet_later (2 * way_span v.paths + more)) in
        split_enough sound some (enough later)

    -- it has by the greatest delay of before where each live system is left alone
    pub alone_rests : (sound : ℕ) → (now ≡ [] → ⊥)
        → sound ≡ quiet_by n loss (max (aged_by loss + 2 * way_span v.paths) v.paths_before.delay)
        → LeavesAloneFrom n made (made ++ now) → UpIsUsed n made → RestsSplit n sound made now
    alone_rests sound some told leaves used =
        let over = rested_alone loss.silent (aged_by loss) (2 * way_span v.paths) v.paths_before.delay
        (silence_span (pace_of n)) sound told in
        split_enough sound some (inr (inr (leaves, used, over)))
