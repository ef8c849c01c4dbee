-- Several systems and links are taken away at a time, by its row: no system is moved, and no live system lost its link
-- to a nearer one.
use Rattle.std.proofs.Common.{◌≡◌, ◌⊎◌, ◌≤◌, ◌<◌, ℕ, Bool, true, false, List, ◌++◌, Some, inl, inr, refl, subst, max, arith}
use Rattle.std.specs.Prelude.{if◌then◌else◌, not}
use Rattle.std.proofs.lemmas.Bool.{and_parts, not-true}
use Rattle.gptp_scenario.specs.Calm.{last_change}
use Rattle.gptp_scenario.specs.Network.{IsNetwork, NetworkState, pace_of}
use Rattle.gptp_scenario.specs.SettlingTime.{silence_span}
use Rattle.gptp_scenario.specs.SyncWait.{sync_paths}
use Rattle.gptp_scenario.specs.declared.change.Timed.{Timed}
use Rattle.gptp_network.specs.Snapshot.{events_by}
use Rattle.gptp_how_soon.specs.Bounds.{quiet_by}
use Rattle.gptp_how_soon.specs.Chosen.{moves_some}
use Rattle.gptp_how_soon.specs.Flight.{gone_by}
use Rattle.gptp_how_soon.specs.Losses.{takes_several}
use Rattle.gptp_how_soon.specs.MovedTrees.{far_ends_move_after}
use Rattle.gptp_how_soon.specs.Rest.{is_taking_followed, keeps_paths}
use Rattle.gptp_how_soon.specs.Times.{View, events_at, loss_at, row_at, view_at}
use Rattle.gptp_how_soon.specs.declared.bounds.Row.TheVariants.{TakenApart}
use Rattle.gptp_how_soon.specs.declared.bounds.SettlingTime.{SettlingTime}
use Rattle.gptp_settling_time.specs.EventKinds.{FlightIsGoneFrom}
use Rattle.gptp_settling_time.specs.HowSoon.{BoundsTaken, RestsTaken, TakesSeveral}
use Rattle.gptp_settling_time.specs.Losses.{MovesNoneInAll, NoneSilent}
use Rattle.gptp_settling_time.specs.TreeLosses.{LosesFartherFrom}
use Rattle.gptp_how_soon_laws.proofs.CutsAllLemmas.{all_farther}
use Rattle.gptp_how_soon_laws.proofs.RowLemmas as rows
use Rattle.gptp_how_soon_laws.proofs.RowLossLemmas.{flight_before, keeps_so, none_left, rest_so}
use Rattle.gptp_how_soon_laws.proofs.RowTestLemmas.{HasComeToRest}
use Rattle.gptp_how_soon_laws.proofs.TakenAwayLemmas.{several_taken, several_unmoved}
use Rattle.gptp_how_soon_laws.proofs.UnmovedLemmas.{AreWell}

module _ (n : NetworkState) (network : IsNetwork n) (events : List Timed) (b : SettlingTime) (at : ℕ)
    (late : b.at < at) where
  abbrev made : List Timed
  made = events_by b.at events

  abbrev now : List Timed
  now = events_at at events

  abbrev v : View
  v = view_at n made now (Some b) at

  -- what was in flight before is gone so much later
  abbrev gone : ℕ
  gone = gone_by n (loss_at v).flight_before

  pub record TakesApart : Type 0 where
    pub rested : HasComeToRest b at
    pub takes : TakesSeveral n made now
    pub moves : MovesNoneInAll n made (made ++ now)
    pub few : (sync_paths n made).systems ≤ 255
    pub farther : LosesFartherFrom n made (made ++ now)

  pub taken_apart : AreWell n (made ++ now) → row_at v ≡ TakenApart → TakesApart
  taken_apart well row =
      let (from, is) = rows.why n network events b at late TakenApart row in
      let (followed, both) = and_parts (is_taking_followed v.paths_before v.paths v.told) v.moves.apart is in
      let (keeps, several) = and_parts (keeps_paths v.paths_before v.paths) (takes_several v.told) followed in
      let far_test : Bool = far_ends_move_after n made (made ++ now) in
      let (still, far) = and_parts (not (moves_some n made (made ++ now))) far_test both in
      let none = not-true (moves_some n made (made ++ now)) still in
      let x = keeps_so n network events b at late keeps in
      let takes = several_taken n network made now several in
      record {
        rested = rest_so n network events b at late from;
        takes = takes;
        moves = several_unmoved n network made now well takes none x.delay x.paths;
        few = x.few;
        farther = all_farther n network made now well takes none far;
      }

  -- so it rests
  pub apart_rests : TakesApart → (sound : ℕ) → sound ≡ quiet_by n (loss_at v) gone → RestsTaken n made now sound
  apart_rests x sound is = by v.silent refl is
    where
      flight : FlightIsGoneFrom n made (last_change (made ++ now)) gone
      flight = flight_before n network events b at late (λ none. subst (TakesSeveral n made) none x.takes)

      by : (silent : Bool) → v.silent ≡ silent
          → sound ≡ (if silent then max gone (silence_span (pace_of n)) else gone) → RestsTaken n made now sound
      by true silent same = (
        x.takes,
        x.moves,
        x.few,
        inr (x.farther, (gone, flight, inr (omega (arith, same)), omega (arith, same))),
      )
      by false silent same =
          let none = none_left n network events b at late silent in
          (x.takes, x.moves, x.few, inr (x.farther, (gone, flight, inl none, omega (arith, same))))

  -- and so the choice and the roles are bounded
  pub apart_bounds : TakesApart → BoundsTaken n made now 0 (quiet_by n (loss_at v) 0)
  apart_bounds x = (x.takes, x.moves, refl, by v.silent refl)
    where
      by : (silent : Bool) → v.silent ≡ silent
          → (NoneSilent n made (made ++ now)
          × ((if silent then max 0 (silence_span (pace_of n)) else 0) ≡ 0))
          ⊎ (LosesFartherFrom n made (made ++ now) × ((sync_paths n made).systems ≤ 255)
          × ((if silent then max 0 (silence_span (pace_of n)) else 0) ≡ silence_span (pace_of n)))
      by true is = inr (x.farther, x.few, omega arith)
      by false is = inl (none_left n network events b at late is, refl)
