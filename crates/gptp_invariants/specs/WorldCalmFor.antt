-- A world that has been calm for long enough, and ports that have settled, in words that name no parameters.
use Rattle.std.specs.Prelude.{◌≡◌, ◌≤◌, ◌↔◌, ◌+◌, ℕ, true, false, length}
use Rattle.gptp_setup.specs.SettlingParams.{SettlingParams}
use Rattle.gptp_graph.specs.Snapshot.{IsLinked, Snapshot}
use Rattle.gptp_vector.specs.declared.port.PortId.{PortId}
use Rattle.gptp_pdelay.specs.Peer.{is_capable}
use Rattle.gptp_receipt.specs.declared.held.Held.{Held}
use Rattle.gptp_receipt.specs.declared.held.Held.TheVariants.{Disabled}
use Rattle.gptp_system.specs.declared.port.Port.{Port}
use Rattle.gptp_scenario.specs.SettlingAtOnce.{settling_span_at_once}
use Rattle.gptp_scenario.specs.SettlingTime.{capability_span, settling_span_with, window_span}
use Rattle.gptp_scenario.specs.declared.sync_wait.SyncPaths.{SyncPaths}
use Rattle.gptp_model.specs.Prompt.{HavePace}
use Rattle.gptp_model.specs.World.{WorldState}
use Rattle.gptp_invariants.specs.WorldDue.{OfEachPort}
use Rattle.gptp_invariants.specs.ChoiceView.{port_identity_number}
use Rattle.gptp_invariants.specs.ChoiceCalm.{IsQuietWorld, sync_paths_of}
use Rattle.gptp_invariants.specs.WorldStanding.{snapshot_of}

-- All systems start with the same parameters and largest announce interval; each link that is up between two live
-- systems loses nothing and is short enough for the threshold; nothing lapses for want of Sync; and since the last
-- change a span has passed that may depend on what Sync has to cross and on how many systems live.
pub record IsCalmFor (span : SettlingParams → SyncPaths → ℕ → ℕ) (w : WorldState) : Type 0 where
  pub pace : SettlingParams
  pub set : HavePace pace w
  pub quiet : IsQuietWorld pace.params w
  pub late : w.last_change + span pace (sync_paths_of w) (length (snapshot_of w).systems) ≤ w.time

-- by when every port is capable that will be, and no other is, whatever Sync has to cross and however many systems live
abbrev pub capable_span : SettlingParams → SyncPaths → ℕ → ℕ
capable_span p paths n = capability_span p

-- by when every such port has measured its link over a whole window
abbrev pub measured_span : SettlingParams → SyncPaths → ℕ → ℕ
measured_span p paths n = capability_span p + window_span p.params

-- the settling span of m systems, however many live
abbrev pub span_over : ℕ → SettlingParams → SyncPaths → ℕ → ℕ
span_over m p paths n = settling_span_with p paths m

-- the span from any past where nothing lapses and a path has at most m systems, however many live
abbrev pub at_once_span : ℕ → SettlingParams → SyncPaths → ℕ → ℕ
at_once_span m p paths n = settling_span_at_once p (record paths { systems = m })

-- a port is capable exactly where a link of the snapshot is at it, and Disabled exactly where it isn't capable
pub record IsPortSettled (g : Snapshot) (itself : PortId) (h : Held) (q : Port) : Type 0 where
  pub capable : (is_capable q.peer ≡ true) ↔ IsLinked g (port_identity_number itself)
  pub disabled : (h ≡ Disabled) ↔ (is_capable q.peer ≡ false)

-- each port of a live system is capable exactly where a link of the snapshot is at it, and Disabled exactly where it
-- isn't capable
abbrev pub ArePortsSettled : WorldState → Type 0
ArePortsSettled w = OfEachPort (IsPortSettled (snapshot_of w)) w
