-- Two end stations and the link between them: their network, its snapshot, and their world once it has been calm for
-- long enough.
use Rattle.std.specs.Prelude.{◌≡◌, ◌≤◌, ◌+◌, ◌*◌, ℕ, ℤ, pos, negsuc, true, false, List, [], ◌∷◌, Option, Some, None}
use Rattle.arrayvec.specs.ArrayVec.{ArrayVec}
use Rattle.gptp_setup.specs.Intervals.{IsMoment}
use Rattle.gptp_setup.specs.SettlingParams.{SettlingParams}
use Rattle.gptp_setup.specs.declared.setup.Params.{Params}
use Rattle.gptp_links.specs.declared.bounds.Bounds.{Bounds}
use Rattle.gptp_graph.specs.Labelling.{SystemLine}
use Rattle.gptp_graph.specs.SettledRole as settled
use Rattle.gptp_graph.specs.Snapshot.{Snapshot, port_of}
use Rattle.gptp_lists.specs.Members.{In}
use Rattle.gptp_messages.specs.declared.announce.AnnounceView.{AnnounceView}
use Rattle.gptp_messages.specs.declared.message.Message.TheVariants as messages
use Rattle.gptp_messages.specs.Grammar.{Reads}
use Rattle.gptp_receipt.specs.declared.held.Reception.{Reception}
use Rattle.gptp_receipt.specs.Held.{received}
use Rattle.gptp_scaled.specs.Counts.{AreWithin}
use Rattle.gptp_error_laws.specs.TimeError.{Way, time_error}
use Rattle.gptp_system.specs.State.{SystemState, held_at}
use Rattle.gptp_scenario.specs.Network.{IsNetwork, NetworkState, member, wire}
use Rattle.gptp_scenario.specs.declared.change.Timed.{Timed}
use Rattle.gptp_scenario.specs.declared.network.SystemSpec.{SystemSpec}
use Rattle.gptp_scenario.specs.declared.sync_wait.SyncPaths.{SyncPaths}
use Rattle.gptp_model.specs.Course.{Begun, WasDone}
use Rattle.gptp_model.specs.declared.done.Done.{Done}
use Rattle.gptp_model.specs.declared.done.Done.TheVariants.{Heard, Quiet}
use Rattle.gptp_model.specs.World.{WorldState, port_id}
use Rattle.gptp_network.specs.Document.{DocumentState}
use Rattle.gptp_report.specs.Transitions.{ActTrace, Unfolds}
use Rattle.gptp_invariants.specs.WorldCalmFor.{IsCalmFor}
use Rattle.gptp_invariants.specs.WorldStanding.{snapshot_of}
use Rattle.gptp_invariants.specs.SyncTimedClaim.{WorldInvariant}
use Rattle.gptp_theorem.specs.Headline.{LeavesOffset}
use Rattle.gptp_theorem.specs.Reached.{StandsAsPlanned}

-- ---- the network

-- what both have, whose time stamps have this granularity and noise: intervals of 1 s, and of 125 ms for time; three
-- announcements may be missed, and nine responses
abbrev pub stamped_params : ℕ → ℕ → Params
stamped_params granularity noise = record {
  announce = pos 0;
  sync = negsuc 2;
  pdelay = pos 0;
  timeout = 3;
  lost = 9;
  threshold = 800;
  turnaround = 1000;
  residence = 1000;
  sync_timeout = 0;
  granularity = granularity;
  noise = noise;
  window = 1;
}

-- what both have, whose time stamps are exact
abbrev pub params : Params
params = stamped_params 0 0

-- priority1 246, clockClass 248, clockAccuracy 254, offsetScaledLogVariance 436a, priority2 248, and clock 1
abbrev pub first_member : ℕ
first_member = 0xf6f8fe436af80000000000000001

-- priority1 246, clockClass 248, clockAccuracy 254, offsetScaledLogVariance 436a, priority2 248, and clock 2
abbrev pub second_member : ℕ
second_member = 0xf6f8fe436af80000000000000002

-- one port announces each second
abbrev pub each_second : ArrayVec ℤ
each_second = record { items = pos 0 ∷ [] }

-- the system of this identity has one port, and its clock is exact
abbrev pub end_station : ℕ → SystemSpec
end_station identity = member identity 1 0 (pos 0) false each_second

-- Both have one port, and a link joins them, in a network with these parameters. It loses nothing, and each of its
-- frames takes 500 ns.
abbrev pub network_with : Params → NetworkState
network_with p = record {
  params = p;
  systems = end_station first_member ∷ end_station second_member ∷ [];
  links = wire 0 (port_id 1 1) (port_id 2 1) 500 500 0 true ∷ [];
  seed = 1;
}

-- by exact time stamps
abbrev pub pair_network : NetworkState
pair_network = network_with params

-- by what its settling is counted
abbrev pub pace_with : Params → SettlingParams
pace_with p = record { params = p; largest = pos 0 }

abbrev pub pair_pace : SettlingParams
pair_pace = pace_with params

-- what Sync has to cross: the one link
abbrev pub pair_paths : SyncPaths
pair_paths = record { systems = 2; delay = 500 }

-- both live, and the link is up
abbrev pub pair_snapshot : Snapshot
pair_snapshot = record {
  systems =
      record { clock = 1; identity = first_member; ports = 1 }
      ∷ record { clock = 2; identity = second_member; ports = 1 }
      ∷ [];
  links = record { a = port_of 1 1; b = port_of 2 1 } ∷ [];
}

-- what both state once all has settled: the second follows the first
abbrev pub leading : SystemLine
leading = record {
  clock = 1;
  root = first_member;
  steps = 0;
  far = false;
  parent = None;
  ports = record { number = 1; role = settled.Master } ∷ [];
}

abbrev pub following_pair : SystemLine
following_pair = record {
  clock = 2;
  root = first_member;
  steps = 1;
  far = false;
  parent = Some (record { own_port = 1; clock = 1; port = 1 });
  ports = record { number = 1; role = settled.Slave } ∷ [];
}

-- the document of their network, with no event
abbrev pub document_with : Params → DocumentState
document_with p = record { network = network_with p; events = [] }

abbrev pub pair_document : DocumentState
pair_document = document_with params

-- the way over their link, between two clocks that run exactly, by time stamps of this granularity and noise
abbrev pub pair_way : ℕ → ℕ → Way
pair_way granularity noise = record {
  drift = pos 0;
  links = record { least = 500; most = 500; drift = pos 0 } ∷ [];
  blur = granularity + 2 * noise;
  behind = 32768 * granularity;
  interval = 1000000000;
  turnaround = 1000;
  residence = 1000;
}

-- ---- their world

-- the world of their network with these parameters begins, whatever is drawn for its frames
pub record HasBegunWith {F : Type 0} (p : Params) (answers : Bounds → ℕ → F → Option ℕ → F → Type 0) (fate : F)
    (w : WorldState) : Type 0 where
  pub network : IsNetwork (network_with p)
  pub before : F
  pub begun : Begun answers (network_with p) before fate w

abbrev pub HasBegun : {F : Type 0} → (Bounds → ℕ → F → Option ℕ → F → Type 0) → F → WorldState → Type 0
HasBegun {F} answers fate w = HasBegunWith params answers fate w

-- The world of both with these parameters at this time or later: nothing has happened to the network.
pub record IsPairWith (p : Params) (time : ℕ) (w : WorldState) : Type 0 where
  pub network : IsNetwork (network_with p)
  pub stands : StandsAsPlanned (network_with p) [] w
  pub late : time ≤ w.time

abbrev pub IsPairSince : ℕ → WorldState → Type 0
IsPairSince time w = IsPairWith params time w

-- The world of both at this time or later, with time stamps by which the time error of the second is this, in units of
-- 2^-16 ns. Two of a clock are off by 296 ns together at most: so the link is good by the threshold.
pub record IsPairWithin (error time : ℕ) (w : WorldState) : Type 0 where
  pub granularity : ℕ
  pub noise : ℕ
  pub good : granularity + 2 * noise ≤ 296
  pub since : IsPairWith (stamped_params granularity noise) time w
  pub error_is : error ≡ time_error (pair_way granularity noise)

-- The world of both at this time. It has been calm for each span, by the pace of the network, by what Sync has to cross
-- and by the two systems, that is no longer.
pub record IsPairAt (time : ℕ) (w : WorldState) : Type 0 where
  pub since : IsPairSince time w
  pub snapshot : snapshot_of w ≡ pair_snapshot
  pub calm : (span : SettlingParams → SyncPaths → ℕ → ℕ) → span pair_pace pair_paths 2 ≤ time → IsCalmFor span w

-- ---- what is said and held in it

-- what the port of a system received, if it holds that, came from the first over nothing between
abbrev pub HoldsFirstAlone : SystemState → Type 0
HoldsFirstAlone s = (r : Reception) → received (held_at s 1) ≡ Some r → r.path ≡ 1 ∷ []

-- what it received once ports were capable came from the first
abbrev pub HoldsFromFirst : SystemState → Type 0
HoldsFromFirst s = (r : Reception) → received (held_at s 1) ≡ Some r → 15000000000 ≤ r.at
    → r.vector.source ≡ port_id 1 1

-- by an act of which this is told, the system with this clock heard this Announce
abbrev pub HearsAnnounce : ℕ → AnnounceView → Done → Type 0
HearsAnnounce number m Quiet = ⊥
HearsAnnounce number m (Heard clock port answer frame) =
    (clock ≡ number) × Reads frame.items (messages.Announce m)

-- ---- how exact offsets are in it

-- an act in their world with these parameters leaves the second an offset of so many units of 2^-16 ns at most, as both
-- clocks show the same
abbrev pub WorldsOfTwoAreExact : {F : Type 0} → (Bounds → ℕ → F → Option ℕ → F → Type 0) → Params → ℕ → Type 0
WorldsOfTwoAreExact {F} answers p error = (timed : Timed) (fate fate_after : F) (w w' : WorldState) (done : Done)
    (offset : ℤ)
    → IsPairWith p 27000000000 w → WorldInvariant w → WasDone answers timed fate fate_after w w' done
    → IsMoment timed.at → LeavesOffset 2 offset w' done
    → AreWithin error offset (pos 0)

-- each act of a run of their document, from 27 s on, leaves the second such an offset, if it leaves one
abbrev pub RunsOfTwoAreExact : {F : Type 0} → (Bounds → ℕ → F → Option ℕ → F → Type 0) → Params → ℕ → Type 0
RunsOfTwoAreExact {F} answers p error = (until : ℕ) (fate : F) (start w : WorldState) (ts : List ActTrace)
    (t : ActTrace) (offset : ℤ)
    → IsMoment until → Unfolds answers (document_with p) until fate start ts w → In t ts
    → IsPairWith p 27000000000 t.before → WorldInvariant t.before
    → t.before.time ≤ t.told.timed.at
    → LeavesOffset 2 offset t.after t.told.done
    → AreWithin error offset (pos 0)
