-- How soon, and how exactly, over runs of documents: a network that only gains, from its start or from rest.
--
-- The events of a document up to a time take nothing away, all of them or those since the network had rested: a link
-- comes up or gets other bounds, a system recovers, a priority1 gets no worse. Such events may follow one another at
-- any distance. The *start* is a time from which on each port at a link is capable after the last of them
-- (`AreCapableFrom`). By `SettlesBy` of that the network has settled: sooner than after a change that takes something
-- away, since nothing that is held names what isn't there any more. So a document that begins, or that comes to rest
-- and then gains, settles again by the same few numbers.
use Rattle.std.specs.Prelude.{◌<◌, ◌≤◌, ◌⊎◌, ◌+◌, ◌^◌, ℕ, List, Option}
use Rattle.gptp_lists.specs.Members.{In}
use Rattle.gptp_links.specs.declared.bounds.Bounds.{Bounds}
use Rattle.gptp_setup.specs.SettlingParams.{largest_interval}
use Rattle.gptp_scenario.specs.Calm.{IsCalm, last_change}
use Rattle.gptp_scenario.specs.Network.{pace_of}
use Rattle.gptp_scenario.specs.SyncWait.{sync_paths}
use Rattle.gptp_model.specs.World.{WorldState}
use Rattle.gptp_network.specs.Document.{DocumentState}
use Rattle.gptp_network.specs.Snapshot.{events_by}
use Rattle.gptp_report.specs.Transitions.{ActTrace, Unfolds}
use Rattle.gptp_invariants.specs.WorldSound.{IsSoundWorld}
use Rattle.gptp_theorem.specs.Headline.{IsSettled}
use Rattle.gptp_theorem.specs.HeadlineLaws.{HasSnapshotOf}
use Rattle.gptp_theorem.specs.PlayedLaws.{IsPlayable}
use Rattle.gptp_settling_time.specs.Exactly.{AreExactFrom, SettlesBy}
use Rattle.gptp_settling_time.specs.Gains.{GainsFromRest, GainsFromStart}

-- A document settles by a time after its events up to another: its network is calm after them, and has only gained
-- since it began or since it had rested; its ports are capable from a start on, and from that it settles by then.
pub record SettlesSoon (d : DocumentState) (until start settled : ℕ) : Type 0 where
  pub calm : IsCalm d.network (events_by until d.events)
  pub gained : GainsFromStart d.network (events_by until d.events) start
      ⊎ GainsFromRest d.network (events_by until d.events) start
  pub settles : SettlesBy (pace_of d.network) (sync_paths d.network (events_by until d.events)) start settled

-- the world is settled, and its snapshot is that of the document
pub record IsSettledAs (d : DocumentState) (until : ℕ) (w : WorldState) : Type 0 where
  pub settled : IsSettled w
  pub snapshot : HasSnapshotOf d until w

-- The world that such a document leads to is settled, whatever is drawn for the frames meanwhile, and all that it holds
-- is sound.
abbrev pub DocumentsSettleSoon : {F : Type 0} → (Bounds → ℕ → F → Option ℕ → F → Type 0) → Type 0
DocumentsSettleSoon {F} answers = (d : DocumentState) (until start settled : ℕ) (fate : F) (first w : WorldState)
    (ts : List ActTrace)
    → IsPlayable d → Unfolds answers d until fate first ts w → SettlesSoon d until start settled → settled ≤ until
    → IsSettledAs d until w × IsSoundWorld w

-- The world after each act of a run is settled at the time of the act, where the document settles by then. That is
-- counted from the events up to then, all of which are earlier.
abbrev pub ActsFindSettled : {F : Type 0} → (Bounds → ℕ → F → Option ℕ → F → Type 0) → Type 0
ActsFindSettled {F} answers = (d : DocumentState) (until start settled : ℕ) (fate : F) (first w : WorldState)
    (ts : List ActTrace) (t : ActTrace)
    → IsPlayable d → Unfolds answers d until fate first ts w → In t ts
    → SettlesSoon d t.told.timed.at start settled → settled ≤ t.told.timed.at
    → last_change (events_by t.told.timed.at d.events) < t.told.timed.at
    → IsSettledAs d t.told.timed.at t.after

-- Each act of a run leaves offsets that are exact, once a Sync has had the time to come down a way since the document
-- settled by the events up to the act. It settled no sooner than an announce interval after the last event.
abbrev pub RunsAreExactSoon : {F : Type 0} → (Bounds → ℕ → F → Option ℕ → F → Type 0) → Type 0
RunsAreExactSoon {F} answers = (d : DocumentState) (until start settled : ℕ) (fate : F) (first w : WorldState)
    (ts : List ActTrace) (t : ActTrace)
    → IsPlayable d → Unfolds answers d until fate first ts w → In t ts → t.told.timed.at ≤ 10 ^ 18
    → SettlesSoon d t.told.timed.at start settled
    → last_change (events_by t.told.timed.at d.events) + largest_interval (pace_of d.network) ≤ settled
    → AreExactFrom (pace_of d.network) settled t.before t.told.timed.at t.after t.told.done

-- For a run up to a time begins with one up to each earlier time, in which each act is done that is done by then.
abbrev pub RunsBeginSo : {F : Type 0} → (Bounds → ℕ → F → Option ℕ → F → Type 0) → Type 0
RunsBeginSo {F} answers = (d : DocumentState) (until early : ℕ) (fate : F) (first w : WorldState) (ts : List ActTrace)
    → IsPlayable d → Unfolds answers d until fate first ts w → early ≤ until
    → (us : List ActTrace) × (v : WorldState) × Unfolds answers d early fate first us v
    × ((t : ActTrace) → In t ts → t.told.timed.at ≤ early → In t us)
