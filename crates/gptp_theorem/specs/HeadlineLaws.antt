-- The theorem as laws: of every world, and of the worlds that documents lead to.
use Rattle.std.specs.Prelude.{◌≤◌, ◌+◌, ◌^◌, ℕ, List, Option}
use Rattle.gptp_lists.specs.Members.{In}
use Rattle.gptp_graph.specs.Snapshot.{Snapshot}
use Rattle.gptp_links.specs.declared.bounds.Bounds.{Bounds}
use Rattle.gptp_setup.specs.SettlingParams.{SettlingParams}
use Rattle.gptp_scenario.specs.Calm.{IsCalm, NothingLapses, last_change}
use Rattle.gptp_scenario.specs.Network.{pace_of}
use Rattle.gptp_scenario.specs.SettlingAtOnce.{settling_span_at_once}
use Rattle.gptp_scenario.specs.SyncWait.{sync_paths}
use Rattle.gptp_scenario.specs.declared.change.Timed.{Timed}
use Rattle.gptp_model.specs.Advancing.{Told}
use Rattle.gptp_model.specs.Course.{WasDone}
use Rattle.gptp_model.specs.declared.done.Done.{Done}
use Rattle.gptp_model.specs.Prompt.{HavePace}
use Rattle.gptp_model.specs.World.{WorldState}
use Rattle.gptp_network.specs.Document.{DocumentState}
use Rattle.gptp_network.specs.Snapshot.{IsSnapshot, events_by}
use Rattle.gptp_report.specs.Run.{PlaysRun}
use Rattle.gptp_report.specs.Transitions.{ActTrace, Unfolds}
use Rattle.gptp_invariants.specs.WorldSettlingInvariant.{SettlingInvariant}
use Rattle.gptp_invariants.specs.WorldKnown.{AreSet}
use Rattle.gptp_invariants.specs.WorldStanding.{snapshot_of}
use Rattle.gptp_invariants.specs.SyncTimedClaim.{WorldInvariant}
use Rattle.gptp_theorem.specs.AlikeLaws.{AreAlike}
use Rattle.gptp_theorem.specs.Headline.{Headline, HeadlineAtOnce, HeadlineByNeighbours, HeadlineBySystems, HeadlineOnTime, IsSettled}
use Rattle.gptp_theorem.specs.PlayedLaws.{DocumentIsAtRest, IsPlayable}

-- what `World::well_formed` shows of every world is all that the theorem asks beside calm and the time
abbrev pub WorldsSettle : Type 0
WorldsSettle = (w : WorldState) → SettlingInvariant w → Headline w

abbrev pub WorldsSettleAtOnce : Type 0
WorldsSettleAtOnce = (w : WorldState) → SettlingInvariant w → HeadlineAtOnce w

abbrev pub WorldsSettleBySystems : Type 0
WorldsSettleBySystems = (w : WorldState) → SettlingInvariant w → HeadlineBySystems w

abbrev pub WorldsSettleByNeighbours : Type 0
WorldsSettleByNeighbours = (w : WorldState) → SettlingInvariant w → HeadlineByNeighbours w

-- the systems of a world always have the parameters of one network, and none of their ports an announce interval above
-- its largest
abbrev pub WorldsAreOfANetwork : Type 0
WorldsAreOfANetwork = (w : WorldState) → SettlingInvariant w → (p : SettlingParams) × HavePace p w × AreSet p w

-- each act in such a world leaves exact offsets, whatever is drawn for its frames, as long as clocks can show the time
abbrev pub WorldsAreExact : {F : Type 0} → (Bounds → ℕ → F → Option ℕ → F → Type 0) → Type 0
WorldsAreExact {F} answers = (timed : Timed) (fate fate_after : F) (w w' : WorldState) (done : Done)
    → WorldInvariant w → WasDone answers timed fate fate_after w w' done → timed.at ≤ 10 ^ 18
    → HeadlineOnTime w timed.at w' done

-- each act of a run of a document leaves exact offsets, whatever is drawn for the frames meanwhile, as long as clocks
-- can show the time
abbrev pub RunsAreExact : {F : Type 0} → (Bounds → ℕ → F → Option ℕ → F → Type 0) → Type 0
RunsAreExact {F} answers = (d : DocumentState) (until : ℕ) (fate : F) (start w : WorldState) (ts : List ActTrace)
    (t : ActTrace) → IsPlayable d → until ≤ 10 ^ 18 → Unfolds answers d until fate start ts w → In t ts
    → HeadlineOnTime t.before t.told.timed.at t.after t.told.done

-- the snapshot of the world is that of the document at a time, but for the order of the systems
abbrev pub HasSnapshotOf : DocumentState → ℕ → WorldState → Type 0
HasSnapshotOf d until w = (g : Snapshot) → IsSnapshot d until g → AreAlike (snapshot_of w) g

-- A document that is calm after its events up to a time, and has settled by then, leads to a settled world, whatever is
-- drawn for the frames meanwhile, and its snapshot is the document's.
abbrev pub DocumentsLeadToSettled : {F : Type 0} → (Bounds → ℕ → F → Option ℕ → F → Type 0) → Type 0
DocumentsLeadToSettled {F} answers = (d : DocumentState) (until : ℕ) (fate : F) (told : List Told) (w : WorldState)
    → IsPlayable d → PlaysRun answers d until fate told w → DocumentIsAtRest d until
    → IsSettled w × HasSnapshotOf d until w

-- A document is at rest sooner where nothing lapses in it: its network is calm after the events up to a time, and the
-- sharper span has passed from the last of them.
pub record IsAtRestAtOnce (d : DocumentState) (until : ℕ) : Type 0 where
  pub calm : IsCalm d.network (events_by until d.events)
  pub nothing : NothingLapses d.network.params
  pub settled : last_change (events_by until d.events)
      + settling_span_at_once (pace_of d.network) (sync_paths d.network (events_by until d.events))
      ≤ until

abbrev pub DocumentsSettleAtOnce : {F : Type 0} → (Bounds → ℕ → F → Option ℕ → F → Type 0) → Type 0
DocumentsSettleAtOnce {F} answers = (d : DocumentState) (until : ℕ) (fate : F) (told : List Told) (w : WorldState)
    → IsPlayable d → PlaysRun answers d until fate told w → IsAtRestAtOnce d until
    → IsSettled w × HasSnapshotOf d until w
