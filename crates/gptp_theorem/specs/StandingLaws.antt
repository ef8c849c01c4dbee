-- Laws on what stands in a world that a network and its events lead to.
use Rattle.std.specs.Prelude.{◌≡◌, ℕ, false, List, length, Some, slice_get}
use Rattle.std.specs.List.Sorted.{IsPermutation}
use Rattle.gptp_graph.specs.Snapshot.{Snapshot}
use Rattle.gptp_scenario.specs.declared.change.Timed.{Timed}
use Rattle.gptp_scenario.specs.declared.network.SystemSpec.{SystemSpec}
use Rattle.gptp_scenario.specs.Calm.{IsCalm}
use Rattle.gptp_scenario.specs.InUse.{count_live}
use Rattle.gptp_scenario.specs.Network.{IsNetwork, NetworkState, pace_of}
use Rattle.gptp_scenario.specs.SyncWait.{sync_paths}
use Rattle.gptp_system.specs.State.{local_time}
use Rattle.gptp_system.specs.Takeover.{told_time}
use Rattle.gptp_model.specs.declared.station.Station.{Station}
use Rattle.gptp_model.specs.Sound.{IsSound}
use Rattle.gptp_model.specs.World.{WorldState}
use Rattle.gptp_network.specs.Snapshot.{StandsAfter}
use Rattle.gptp_invariants.specs.ChoiceCalm.{IsQuietWorld, sync_paths_of}
use Rattle.gptp_invariants.specs.SyncTimedClaim.{WorldInvariant}
use Rattle.gptp_invariants.specs.WorldSettlingInvariant.{SettlingInvariant}
use Rattle.gptp_invariants.specs.WorldKnown.{AreSet}
use Rattle.gptp_invariants.specs.WorldStanding.{snapshot_of}
use Rattle.gptp_theorem.specs.Reached.{StandsAsPlanned}

-- its snapshot is that of the network after those events, but for the order of the systems
abbrev pub StandsSnapshot : Type 0
StandsSnapshot = (n : NetworkState) (events : List Timed) (w : WorldState) (g : Snapshot)
    → StandsAsPlanned n events w → IsSound w → StandsAfter n events g
    → IsPermutation (snapshot_of w).systems g.systems × ((snapshot_of w).links ≡ g.links)

-- as many systems live
abbrev pub StandsCount : Type 0
StandsCount = (n : NetworkState) (events : List Timed) (w : WorldState)
    → StandsAsPlanned n events w → IsSound w
    → length (snapshot_of w).systems ≡ count_live n.systems events

-- Sync has the same to cross
abbrev pub StandsPaths : Type 0
StandsPaths = (n : NetworkState) (events : List Timed) (w : WorldState)
    → IsNetwork n → StandsAsPlanned n events w → IsSound w
    → sync_paths n events ≡ sync_paths_of w

-- it is quiet where the network is calm
abbrev pub StandsQuiet : Type 0
StandsQuiet = (n : NetworkState) (events : List Timed) (w : WorldState)
    → IsNetwork n → StandsAsPlanned n events w → IsSound w → IsCalm n events
    → IsQuietWorld n.params w

-- all its systems have the parameters of the network, and its largest announce interval
abbrev pub StandsSet : Type 0
StandsSet = (n : NetworkState) (events : List Timed) (w : WorldState)
    → StandsAsPlanned n events w → SettlingInvariant w
    → AreSet (pace_of n) w

-- a system that the network doesn't let go on with the time that it read tells what its clock shows
abbrev pub StandsTelling : Type 0
StandsTelling = (n : NetworkState) (events : List Timed) (w : WorldState) (place : ℕ) (m : SystemSpec)
    (station : Station) (time : ℕ)
    → StandsAsPlanned n events w → WorldInvariant w → slice_get n.systems place ≡ Some m
    → slice_get w.stations place ≡ Some station → m.continues ≡ false
    → told_time station.system time ≡ local_time station.system time
