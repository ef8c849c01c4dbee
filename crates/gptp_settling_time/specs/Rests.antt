-- When a network that was moved has come to rest, so that it is as if all had been heard.
use Rattle.std.specs.Prelude.{◌≡◌, ◌<◌, ◌≤◌, ◌⊎◌, ◌+◌, ◌*◌, ℕ, suc, List}
use Rattle.gptp_setup.specs.SettlingParams.{largest_interval}
use Rattle.gptp_scenario.specs.Calm.{IsCalm, NothingLapses, last_change}
use Rattle.gptp_scenario.specs.Network.{NetworkState, pace_of}
use Rattle.gptp_scenario.specs.SettlingTime.{echo_span, loss_span, silence_span, way_span}
use Rattle.gptp_scenario.specs.SyncWait.{sync_paths}
use Rattle.gptp_scenario.specs.declared.change.Timed.{Timed}
use Rattle.gptp_settling_time.specs.Losses.{NoneSilent, UpIsUsed, UpIsWithin}
use Rattle.gptp_settling_time.specs.Arrivals.{HasArrivedSinceSet}
use Rattle.gptp_settling_time.specs.TreeLosses.{CutsAllBeyondFrom, LeavesAloneFrom}
use Rattle.gptp_settling_time.specs.Pasts.{Aging, Cleared, Fallen, Heard, Lost, Past, Split, Turned, TurnedTree}
use Rattle.gptp_settling_time.specs.EventKinds.{FlightIsGone, FlightIsGoneFrom, HasSettledHeard, nearer_echo_span}

-- A cleared network has come to rest by a time, as one whose ports are capable from a start on. What was in flight is
-- gone. Ports without a link aren't capable any more, or no lost link is silent. And the greatest delay has passed
-- since the start for each system of a path but one.
pub record HasCleared (n : NetworkState) (ago events : List Timed) (since silent old start time : ℕ) : Type 0 where
  pub calm : IsCalm n events
  pub off : NothingLapses n.params
  pub gone : old < time
  pub later : since ≤ start
  pub unlinked : (silent ≤ time) ⊎ NoneSilent n ago events
  pub over : HasSettledHeard n events start time

-- So much later than a system or a tree turned traces are told anew: the network has settled within two ways, each the
-- greatest delay for each system of a path but one, and then they are by distance.
abbrev pub turned_echo_span : NetworkState → List Timed → ℕ
turned_echo_span n events =
    2 * way_span (sync_paths n events) + echo_span (pace_of n) (sync_paths n events)

-- A network in which a system or a tree turned at a time has come to rest by another, as one whose ports are capable
-- from a later start on. Traces are told anew, and what was in flight is gone by then. And the greatest delay has
-- passed since the start for each system of a path but one.
pub record HasToldAnew (n : NetworkState) (events : List Timed) (turned start time : ℕ) : Type 0 where
  pub calm : IsCalm n events
  pub off : NothingLapses n.params
  pub told : turned + turned_echo_span n events < time
  pub later : turned < start
  pub over : HasSettledHeard n events start time

-- A network in which a system failed that others heard has come to rest by a time, as one whose ports are capable from
-- a start on. What they held of it had aged by a moment, no later than that start, or ports without a link weren't
-- capable. Right traces have been told by distance since the moment, and what was in flight is gone. Ports without a
-- link aren't capable. And the greatest delay has passed since the start for each system of a path but one.
pub record HasAged (n : NetworkState) (events : List Timed) (aged silent start time : ℕ) : Type 0 where
  pub calm : IsCalm n events
  pub off : NothingLapses n.params
  pub by : ℕ
  pub since : last_change events ≤ by
  pub gone : (aged ≤ by) ⊎ (silent ≤ by)
  pub flight : ℕ
  pub is_gone : FlightIsGone n events flight
  pub told : by + nearer_echo_span n events + flight < time
  pub later : by ≤ start
  pub unlinked : silent ≤ time
  pub over : HasSettledHeard n events start time

-- A network in which a tree fell back at a time has come to rest by another, as one whose ports are capable from a
-- start on, by which the tree had dropped the best of before. What was in flight is gone. And the greatest delay has
-- passed since the start for each system of a path but one.
pub record HasFallenBack (n : NetworkState) (events : List Timed) (fallen start time : ℕ) : Type 0 where
  pub calm : IsCalm n events
  pub off : NothingLapses n.params
  pub later : fallen + way_span (sync_paths n events) < start
  pub flight : ℕ
  pub is_gone : FlightIsGoneFrom n events fallen flight
  pub gone : fallen + flight < time
  pub over : HasSettledHeard n events start time

-- What is in flight is gone so much later: as above, or by what no link that is up takes longer than, if what was in
-- flight as the first of these events last set a link has arrived as soon since the last change. None has been set
-- since.
abbrev pub FlightIsGoneSince : NetworkState → List Timed → List Timed → ℕ → Type 0
FlightIsGoneSince n ago events flight =
    FlightIsGone n events flight
    ⊎ (UpIsWithin n events flight × HasArrivedSinceSet n ago (last_change events + flight))

-- What is held and in flight in it is right. Right traces have been told by distance since trees settled, and what was
-- in flight is gone. Or all beyond the failed system was cut off; then trees have settled, and what was in flight as
-- they dropped what they chose before is gone. Or each live system was left alone, having had one link at most, and
-- each link that was up was in use; then what was in flight as the system failed is gone.
abbrev pub IsToldApart : NetworkState → List Timed → List Timed → ℕ → ℕ → Type 0
IsToldApart n ago events gone time =
    (gone + 2 * way_span (sync_paths n events) + nearer_echo_span n events + largest_interval (pace_of n) ≤ time)
    ⊎ ((CutsAllBeyondFrom n ago events × (flight : ℕ) × FlightIsGoneSince n ago events flight
    × (gone + 2 * way_span (sync_paths n events) ≤ time)
    × (gone + way_span (sync_paths n events) + flight ≤ time))
    ⊎ (LeavesAloneFrom n ago events × UpIsUsed n ago × (gone + 2 * way_span (sync_paths n events) ≤ time)
    × (last_change events + (sync_paths n ago).delay < time)))

-- A network in which trees were moved, as a system failed, has come to rest by a time, as one whose ports are capable
-- from a start on. Nothing has changed since. What others held of it was gone by a moment, and a way later, by that
-- start, the trees had dropped what they chose before. They settled within another way, and what is held and in flight
-- is right. Ports without a link aren't capable any more, or no lost link is silent. And the greatest delay has passed
-- since the start for each system of a path but one.
pub record HasToldApart (n : NetworkState) (ago events : List Timed) (gone silent start time : ℕ) : Type 0 where
  pub calm : IsCalm n events
  pub off : NothingLapses n.params
  pub since : silent ≡ suc (last_change events + silence_span (pace_of n))
  pub told : IsToldApart n ago events gone time
  pub later : gone + way_span (sync_paths n events) ≤ start
  pub unlinked : (silent ≤ time) ⊎ NoneSilent n ago events
  pub over : HasSettledHeard n events start time

-- A network that has lost at a time has come to rest by another, as one whose ports are capable from a start on. The
-- greatest delay has passed since the start for each system of a path but one, and by then the choice stands. Ports
-- without a link aren't capable by the other time, or no lost link is silent.
pub record HasToldAll (n : NetworkState) (ago events : List Timed) (since most silent start time : ℕ) : Type 0 where
  pub off : NothingLapses n.params
  pub later : since + loss_span (pace_of n) (sync_paths n events) most < start + way_span (sync_paths n events)
  pub unlinked : (silent ≤ time) ⊎ NoneSilent n ago events
  pub over : HasSettledHeard n events start time

-- By this time it has come to rest, as one whose ports are capable from this start on. A tree that turned had dropped
-- what it told before by then.
abbrev pub RestsFrom : NetworkState → List Timed → Past → ℕ → ℕ → Type 0
RestsFrom n events (Turned silent turned) time start = HasToldAnew n events turned start time
RestsFrom n events (Fallen silent fallen) time start = HasFallenBack n events fallen start time
RestsFrom n events (TurnedTree silent turned) time start =
    HasToldAnew n events turned start time × (turned + way_span (sync_paths n events) < start)
RestsFrom n events (Cleared ago since silent right old) time start = HasCleared n ago events since silent old start time
RestsFrom n events (Aging ago aged silent) time start = HasAged n events aged silent start time
RestsFrom n events (Split ago gone silent) time start = HasToldApart n ago events gone silent start time
RestsFrom n events (Lost ago since most silent) time start = HasToldAll n ago events since most silent start time
RestsFrom n events past time start = ⊥

-- What the network is taken to come from as an event comes at this time: what it came from, or, once it has come to
-- rest, it is as if all had been heard.
abbrev pub IsTakenAs : NetworkState → List Timed → Past → ℕ → Past → Type 0
IsTakenAs n events past time seen =
    (seen ≡ past) ⊎ ((start : ℕ) × (seen ≡ Heard start) × RestsFrom n events past time start)
