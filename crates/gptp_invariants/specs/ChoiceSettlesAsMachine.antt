-- What is claimed of a world between two changes of its network.
use Rattle.std.specs.Prelude.{◌+◌, ℕ}
use Rattle.gptp_setup.specs.SettlingParams.{SettlingParams}
use Rattle.gptp_graph.specs.PathBound.{BoundsPaths}
use Rattle.gptp_scenario.specs.Calm.{NothingLapses}
use Rattle.gptp_scenario.specs.SettlingTime.{capability_span}
use Rattle.gptp_model.specs.Sound.{IsSound}
use Rattle.gptp_model.specs.World.{WorldState}
use Rattle.gptp_bmca_machine.specs.Levels.{Invariant}
use Rattle.gptp_bmca_machine.specs.CleanInvariant.{TracesAreClean}
use Rattle.gptp_bmca_machine.specs.Network.{Network, network_setting}
use Rattle.gptp_bmca_machine.specs.Station.{MachineState}
use Rattle.gptp_bmca_machine.specs.Syncs.{SyncsAreExpected}
use Rattle.gptp_invariants.specs.WorldKnown.{IsKnown}
use Rattle.gptp_invariants.specs.WorldEncodable.{IsEncodable}
use Rattle.gptp_invariants.specs.ChoiceView.{says_announce, says_sync, view}
use Rattle.gptp_invariants.specs.ChoiceCalm.{AreCapableFrom, HaveQuietLinks, IsQuietWith, network_at_once, network_of, paths_with}
use Rattle.gptp_invariants.specs.WorldStanding.{AreBetween, snapshot_of}

-- a world of a network with these parameters and this largest announce interval, at any time
pub record IsWorld (p : SettlingParams) (w : WorldState) : Type 0 where
  pub sound : IsSound w
  pub encodable : IsEncodable w
  pub known : IsKnown p w
  pub between : AreBetween w

-- from when every port is capable that will be
abbrev pub start_of : SettlingParams → WorldState → ℕ
start_of p w = w.last_change + capability_span p

-- it is so of the ports of live systems, where the links in use are quiet
abbrev pub BecomeCapable : SettlingParams → WorldState → Type 0
BecomeCapable p w = HaveQuietLinks p.params w → AreCapableFrom (start_of p w) w

-- the network of the machine of gptp_bmca_machine that the world then has, where no path has more than m systems
abbrev pub settling_network : SettlingParams → ℕ → WorldState → Network
settling_network p m w = network_of p m (start_of p w) w

-- that at which it settles where nothing lapses
abbrev pub quick_network : SettlingParams → ℕ → WorldState → Network
quick_network p m w = network_at_once p m (start_of p w) w

-- Traces in a state are as clean as they must be, the invariant of that machine holds of it, at the one pace, and at
-- the other where nothing lapses; and Syncs are expected in it in time.
pub record IsSettling (p : SettlingParams) (n quick : Network) (seen : MachineState) : Type 0 where
  pub traces : TracesAreClean says_announce (network_setting n) seen
  pub invariant : Invariant says_announce n seen
  pub at_once : NothingLapses p.params → Invariant says_announce quick seen
  pub expected : SyncsAreExpected says_sync n seen

-- what the machine of gptp_bmca_machine sees of the world is settling, for each number that bounds how many systems a
-- path has, where the world is quiet by that number
abbrev pub SettlesAsMachine : SettlingParams → WorldState → Type 0
SettlesAsMachine p w = (m : ℕ) → BoundsPaths (snapshot_of w) m → IsQuietWith p.params (paths_with m w) w
    → IsSettling p (settling_network p m w) (quick_network p m w) (view w)
