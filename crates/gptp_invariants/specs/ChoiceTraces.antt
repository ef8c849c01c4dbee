-- How clean path traces are in a world that has been calm for so long.
use Rattle.std.specs.Prelude.{◌≡◌, ◌⊎◌, ◌≤◌, ◌+◌, ◌*◌, ℕ, ⊤, suc, pos, length, Some}
use Rattle.gptp_setup.specs.SettlingParams.{SettlingParams, largest_interval, longest_span}
use Rattle.gptp_lists.specs.Members.{In}
use Rattle.gptp_scenario.specs.declared.sync_wait.SyncPaths.{SyncPaths}
use Rattle.gptp_graph.specs.PathBound.{BoundsPaths}
use Rattle.gptp_graph.specs.Snapshot.{Joins, PortIdentity, Snapshot, clocks, port_of}
use Rattle.gptp_receipt.specs.declared.held.Reception.{Reception}
use Rattle.gptp_receipt.specs.Held.{received}
use Rattle.gptp_messages.specs.declared.announce.AnnounceView.{AnnounceView}
use Rattle.gptp_messages.specs.declared.message.Message.TheVariants as messages
use Rattle.gptp_messages.specs.Grammar.{Reads}
use Rattle.gptp_system.specs.State.{SystemState, clock, held_at, trace}
use Rattle.gptp_model.specs.declared.done.Done.{Done}
use Rattle.gptp_model.specs.declared.done.Done.TheVariants.{Quiet, Heard}
use Rattle.gptp_model.specs.World.{WorldState}
use Rattle.gptp_bmca_machine.specs.Clean.{Clean, Good, Whole}
use Rattle.gptp_bmca_machine.specs.Frame.{Announce}
use Rattle.gptp_invariants.specs.ChoiceView.{port_identity_number, said}
use Rattle.gptp_invariants.specs.WorldStanding.{snapshot_of}
use Rattle.gptp_invariants.specs.ChoiceCalm.{sync_paths_of}
use Rattle.gptp_invariants.specs.WorldCalmFor.{IsCalmFor, capable_span}

-- A turn is the longest time from when an Announce is sent to when a system last sends on what it took from it: what is
-- received stays for k of the largest announce intervals at most, and an Announce is under way for one at most.
abbrev pub turn_of : SettlingParams → ℕ
turn_of p = longest_span p + largest_interval p

-- the span from the last change to c turns after ports have become capable
abbrev pub turns_span : ℕ → SettlingParams → SyncPaths → ℕ → ℕ
turns_span c p paths n = capable_span p paths n + c * turn_of p

-- the world is calm, for however long
abbrev pub IsCalmWorld : WorldState → Type 0
IsCalmWorld = IsCalmFor (λ p paths n. 0)

-- what arrived at this time was sent so many turns after ports have become capable
abbrev pub WasSentAfter : ℕ → ℕ → (w : WorldState) → IsCalmWorld w → Type 0
WasSentAfter c time w calm =
    w.last_change
    + turns_span c calm.pace (sync_paths_of w) (length (snapshot_of w).systems)
    + largest_interval calm.pace
    ≤ time

-- ---- what a system announces

-- root, steps and trace, as it announces them at each port
abbrev pub announced : SystemState → Announce
announced s = record {
  root = s.root;
  steps = s.steps;
  source = port_of (clock s) 0;
  log = pos 0;
  path = trace s;
}

-- The last c + 1 members of the system's trace are different live systems, each joined to the next, up to the system
-- itself; or the trace is wholly so, from the root that it announces, and its steps are as many as there are links.
abbrev pub IsTraceClean : Snapshot → ℕ → SystemState → Type 0
IsTraceClean g c s = Clean g (suc c) (clock s) (trace s) ⊎ Whole g (clock s) (announced s)

-- the trace of a system is clean by its last c + 1 members, or wholly, once the world has been calm for c turns after
-- its ports have become capable
abbrev pub IsCleanInTime : WorldState → SystemState → Type 0
IsCleanInTime w s = (c : ℕ) → IsCalmFor (turns_span c) w → IsTraceClean (snapshot_of w) c s

-- ---- what its ports hold

-- what a port received, as an Announce
abbrev pub heard_announce : Reception → Announce
heard_announce r = record {
  root = r.vector.root;
  steps = r.vector.steps;
  source = port_identity_number r.vector.source;
  log = r.interval;
  path = r.path;
}

-- it came over the port's link, its trace doesn't name the holder, and is clean by so many members or wholly
pub record IsHeldClean (g : Snapshot) (m number port : ℕ) (r : Reception) : Type 0 where
  pub from : PortIdentity
  pub joins : Joins g from (port_of number port)
  pub no_loop : In number r.path → ⊥
  pub good : Good g m from (heard_announce r)

-- Each Announce that a port of the system holds, where it was sent c turns after ports have become capable, came over
-- the port's link. Its trace doesn't name the holder, and is clean by c + 1 members or wholly.
abbrev pub AreHeldCleanInTime : WorldState → SystemState → Type 0
AreHeldCleanInTime w s = (calm : IsCalmWorld w) (c n : ℕ) (r : Reception)
    → received (held_at s n) ≡ Some r → WasSentAfter c r.at w calm
    → IsHeldClean (snapshot_of w) (suc c) (clock s) n r

-- It came over the port's link, its trace doesn't name the holder, and is wholly clean: from the system whose identity
-- is its root to the one that sent it, over as many links as its steps say.
pub record IsHeldWhole (g : Snapshot) (number port : ℕ) (r : Reception) : Type 0 where
  pub from : PortIdentity
  pub joins : Joins g from (port_of number port)
  pub no_loop : In number r.path → ⊥
  pub source : port_identity_number r.vector.source ≡ from
  pub whole : Whole g from.clock (heard_announce r)

-- Each Announce that a port of the system holds came over the port's link, doesn't name the holder in its trace, and is
-- wholly clean. That is so once the world has been calm for m turns after its ports have become capable, where no path
-- of its snapshot has more than m systems.
abbrev pub AreHeldWholeInTime : WorldState → SystemState → Type 0
AreHeldWholeInTime w s = (m n : ℕ) (r : Reception)
    → BoundsPaths (snapshot_of w) m → IsCalmFor (turns_span m) w → received (held_at s n) ≡ Some r
    → IsHeldWhole (snapshot_of w) (clock s) n r

-- Sooner: frames of before the last change are gone after two announce intervals, and then each system of a path costs
-- the longest span for which anything stays and the greatest delay.
abbrev pub clean_span : ℕ → SettlingParams → SyncPaths → ℕ → ℕ
clean_span m p paths n = 2 * largest_interval p + m * (longest_span p + paths.delay)

abbrev pub AreHeldWholeSooner : WorldState → SystemState → Type 0
AreHeldWholeSooner w s = (m n : ℕ) (r : Reception)
    → BoundsPaths (snapshot_of w) m → IsCalmFor (clean_span m) w → received (held_at s n) ≡ Some r
    → IsHeldWhole (snapshot_of w) (clock s) n r

-- ---- what reaches a port

-- an Announce came from a live system, over the link at this port where a live system has it, and is clean so
pub record IsFrameClean (g : Snapshot) (m : ℕ) (reached : PortIdentity) (a : Announce) : Type 0 where
  pub from : PortIdentity
  pub live : In from.clock (clocks g)
  pub joins : In reached.clock (clocks g) → Joins g from reached
  pub good : Good g m from a

-- each frame that reaches a port and reads as an Announce, where it was sent c turns after ports have become capable
abbrev pub IsHeardClean : WorldState → ℕ → Done → Type 0
IsHeardClean w time Quiet = ⊤
IsHeardClean w time (Heard number port answer frame) =
    (calm : IsCalmWorld w) (c : ℕ) (m : AnnounceView)
    → Reads frame.items (messages.Announce m) → WasSentAfter c time w calm
    → IsFrameClean (snapshot_of w) (suc c) (port_of number port) (said m)
