-- What is claimed of the time that is carried in a world, from when its network is settled.
use Rattle.std.specs.Prelude.{◌≡◌, ◌+◌, ◌<◌, ◌≤◌, ◌^◌, max, ℕ, true, Some, slice_get}
use Rattle.gptp_graph.specs.Distance.{IsDistance}
use Rattle.gptp_setup.specs.declared.setup.Params.{Params}
use Rattle.gptp_setup.specs.SettlingParams.{SettlingParams}
use Rattle.gptp_scenario.specs.Params.{KeepPace}
use Rattle.gptp_system.specs.State.{clock}
use Rattle.gptp_system.specs.Syncing.{slave_delay, slave_rate}
use Rattle.gptp_model.specs.declared.station.Station.{Station}
use Rattle.gptp_model.specs.World.{WorldState}
use Rattle.gptp_sync_machine.specs.Invariant.{FollowerInvariant}
use Rattle.gptp_sync_machine.specs.Right.{IsMeasuredAt}
use Rattle.gptp_invariants.specs.ChoiceCalm.{HaveQuietLinks, delay_in}
use Rattle.gptp_invariants.specs.SyncFollowView.{tells}
use Rattle.gptp_invariants.specs.SyncFollowers.{HasWay, IsFollower, follower, follower_setting, follower_state}
use Rattle.gptp_invariants.specs.ChoiceSettlesAsMachine.{IsWorld}
use Rattle.gptp_invariants.specs.DelayLinkView.{LinkPlace}
use Rattle.gptp_invariants.specs.DelayMeasured.{LinkIsMeasured}
use Rattle.gptp_invariants.specs.ChoiceSettled.{ChoiceStands}
use Rattle.gptp_invariants.specs.WorldKnown.{OfEachFrame}
use Rattle.gptp_invariants.specs.WorldStanding.{snapshot_of}

-- each frame in flight arrives within the greatest delay of its link, or by this time
abbrev pub ArriveBy : ℕ → WorldState → Type 0
ArriveBy gone w = OfEachFrame (λ channel f. f.due ≤ max (w.time + channel.bounds.max) gone) w

-- The world of a network that is settled from this time on, as it is since: its links in use are quiet and its choice
-- stands; what was in flight before has arrived by then, no delay is above the longest, and the time is one that
-- clocks can show.
pub record IsSettledFrom (p : SettlingParams) (settled longest : ℕ) (w : WorldState) : Type 0 where
  pub pace : KeepPace p
  pub world : IsWorld p w
  pub measured : LinkIsMeasured w
  pub links : HaveQuietLinks p.params w
  pub choice : ChoiceStands w
  pub arrive : ArriveBy settled w
  pub late : settled ≤ w.time
  pub shown : w.time ≤ 10 ^ 18
  pub short : delay_in w ≤ longest
  pub limit : longest ≤ 1000000000

-- what each system that follows has measured of the link to its parent is right
abbrev pub AllMeasureRight : Params → WorldState → Type 0
AllMeasureRight p w = (at : LinkPlace) (f : IsFollower at w) (steps : ℕ) (h : HasWay p at w f steps)
    → IsMeasuredAt h.way steps (slave_rate (follower_state at w f)) (slave_delay (follower_state at w f))

-- the invariant of the machine holds of each system that follows
abbrev pub AllFollow : Params → ℕ → ℕ → WorldState → Type 0
AllFollow p settled longest w = (at : LinkPlace) (f : IsFollower at w) (steps : ℕ) (h : HasWay p at w f steps)
    → FollowerInvariant (follower_setting p settled longest at w f steps h) tells (follower at w f)

-- what the best of a component still sends on it heard before the network was settled
abbrev pub RootsAreFresh : Params → ℕ → WorldState → Type 0
RootsAreFresh p settled w = (place : ℕ) (station : Station) (due : ℕ) → slice_get w.stations place ≡ Some station
    → station.live ≡ true → IsDistance (snapshot_of w) (clock station.system) 0 → station.system.relay ≡ Some due
    → due < settled + p.residence

pub record CarriesTime (p : Params) (settled longest : ℕ) (w : WorldState) : Type 0 where
  pub follow : AllFollow p settled longest w
  pub roots : RootsAreFresh p settled w
