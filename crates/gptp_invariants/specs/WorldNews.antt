-- A world since it started, a link came up or another gain: all that is held and in flight is sound, and its links in
-- use become capable one by one.
use Rattle.std.specs.Prelude.{◌≡◌, ◌⊎◌, ◌<◌, ◌≤◌, ◌+◌, ◌*◌, ℕ, true, false, Some, slice_get}
use Rattle.gptp_graph.specs.PathBound.{BoundsPaths}
use Rattle.gptp_scenario.specs.Calm.{NothingLapses}
use Rattle.gptp_scenario.specs.SyncWait.{sync_wait}
use Rattle.gptp_scenario.specs.declared.sync_wait.SyncPaths.{SyncPaths}
use Rattle.gptp_setup.specs.SettlingParams.{SettlingParams, lapse_span, largest_interval}
use Rattle.gptp_bmca_machine.specs.Syncs.{SyncsAreExpected}
use Rattle.gptp_model.specs.declared.station.Station.{Station}
use Rattle.gptp_model.specs.World.{WorldState}
use Rattle.gptp_setup.specs.Intervals.{interval_of}
use Rattle.gptp_bmca_machine.specs.Levels.{Invariant}
use Rattle.gptp_bmca_machine.specs.Network.{Network}
use Rattle.gptp_invariants.specs.ChoiceCalm.{HaveQuietLinks, SettlingTimes, delay_in, network_with, paths_with, step_with, wait_with}
use Rattle.gptp_scenario.specs.Params.{KeepPace}
use Rattle.gptp_scenario.specs.SettlingTime.{silence_span}
use Rattle.gptp_invariants.specs.DelayFirstAt.{IsFirstBy}
use Rattle.gptp_invariants.specs.ChoiceSettlesAsMachine.{IsWorld}
use Rattle.gptp_invariants.specs.DelayLinkView.{LinkPlace}
use Rattle.gptp_invariants.specs.DelayMeasured.{LinkIsMeasured, LinkStandsAt}
use Rattle.gptp_invariants.specs.WorldSound.{IsSoundWorld}
use Rattle.gptp_invariants.specs.FailedUnanswered.{IsLastAnswered, IsOff, StandsUnanswered}
use Rattle.gptp_invariants.specs.WorldStanding.{snapshot_of}
use Rattle.gptp_invariants.specs.ChoiceView.{says_announce, says_sync, view}
use Rattle.gptp_invariants.specs.DelayWatched.{IsWatched}

-- The port that asks at the link is capable from this time on: by its first request, one interval between requests and
-- one exchange; or since it has been watched for long enough then.
abbrev pub IsReadyBy : SettlingParams → ℕ → LinkPlace → WorldState → Type 0
IsReadyBy p start at w =
    ((first : ℕ) × IsFirstBy first start at w)
    ⊎ ((gone : ℕ) × (calm : ℕ) × IsWatched gone calm at w
    × (gone < start) × (calm + 3 * interval_of p.params.pdelay ≤ start))

-- at each link that is up between two live systems, loses nothing and is good, the port that asks is capable from this
-- time on
abbrev pub AreReadyBy : SettlingParams → ℕ → WorldState → Type 0
AreReadyBy p start w = (at : LinkPlace) → LinkStandsAt at w → IsReadyBy p start at w

-- The port of a live system whose link leads to one that has failed isn't capable from this time on: it is off, or its
-- last request that is answered went long enough before.
abbrev pub IsSilentBy : SettlingParams → ℕ → LinkPlace → WorldState → Type 0
IsSilentBy p start at w =
    IsOff at w ⊎ ((sent : ℕ) × IsLastAnswered sent at w × (sent + silence_span p < start))

abbrev pub AreSilentBy : SettlingParams → ℕ → WorldState → Type 0
AreSilentBy p start w = (at : LinkPlace) → StandsUnanswered at w → IsSilentBy p start at w

-- no system has failed
abbrev pub AllLive : WorldState → Type 0
AllLive w = (place : ℕ) (station : Station) → slice_get w.stations place ≡ Some station → station.live ≡ true

-- how settling goes then: all that is held is sound from the start
abbrev pub at_news : SettlingParams → WorldState → SettlingTimes
at_news p w = record { slack = largest_interval p; step = delay_in w; wait = 0; lag = 0; past = false }

abbrev pub news_network : SettlingParams → ℕ → ℕ → WorldState → Network
news_network p m start w = network_with p m start (at_news p w) w

-- how settling goes after news where something may lapse for want of Sync: system by system, and all that is held is
-- sound from the start
abbrev pub news_in_turn : SettlingParams → SyncPaths → SettlingTimes
news_in_turn p paths = record {
  slack = 0;
  step = step_with p paths;
  wait = wait_with p.params paths;
  lag = step_with p paths;
  past = false;
}

abbrev pub turn_network : SettlingParams → ℕ → ℕ → WorldState → Network
turn_network p m start w = network_with p m start (news_in_turn p (paths_with m w)) w

-- there each link is at its stage, and Syncs are expected in time
pub record IsExpecting (p : SettlingParams) (m start : ℕ) (w : WorldState) : Type 0 where
  pub invariant : Invariant says_announce (turn_network p m start w) (view w)
  pub expected : SyncsAreExpected says_sync (turn_network p m start w) (view w)

-- what is claimed of such a world
pub record IsNews (p : SettlingParams) (start : ℕ) (w : WorldState) : Type 0 where
  pub pace : KeepPace p
  pub world : IsWorld p w
  pub measured : LinkIsMeasured w
  pub silent : AreSilentBy p start w
  pub sound : IsSoundWorld w
  pub ready : AreReadyBy p start w
  pub settling : (m : ℕ) → BoundsPaths (snapshot_of w) m → HaveQuietLinks p.params w → NothingLapses p.params
      → Invariant says_announce (news_network p m start w) (view w)
  pub in_turn : (m : ℕ) → BoundsPaths (snapshot_of w) m → HaveQuietLinks p.params w
      → sync_wait p.params (paths_with m w) < lapse_span p.params
      → IsExpecting p m start w
