-- Laws on the worlds that documents lead to.
use Rattle.std.specs.Prelude.{◌≡◌, ◌≤◌, ℕ, List, Option, Some, slice_get}
use Rattle.std.specs.List.{AllByRecursion}
use Rattle.gptp_links.specs.declared.bounds.Bounds.{Bounds}
use Rattle.gptp_scenario.specs.declared.change.Act.TheVariants.{Change as Changing}
use Rattle.gptp_scenario.specs.declared.change.Change.{Change}
use Rattle.gptp_scenario.specs.declared.change.Timed.{Timed}
use Rattle.gptp_scenario.specs.Allowed.{IsFitAct}
use Rattle.gptp_model.specs.Advancing.{Told}
use Rattle.gptp_scenario.specs.Calm.{IsCalm}
use Rattle.gptp_scenario.specs.Network.{IsNetwork}
use Rattle.gptp_scenario.specs.SettlingTime.{settles, settling_span_with}
use Rattle.gptp_model.specs.Sound.{IsSound}
use Rattle.gptp_model.specs.World.{WorldState}
use Rattle.gptp_network.specs.Document.{DocumentState, Means}
use Rattle.gptp_network.specs.Events.{AreEvents}
use Rattle.gptp_network.specs.Snapshot.{events_by}
use Rattle.gptp_report.specs.Run.{PlaysRun}
use Rattle.gptp_invariants.specs.WorldCalmFor.{IsCalmFor}
use Rattle.gptp_invariants.specs.WorldSettlingInvariant.{SettlingInvariant}
use Rattle.gptp_invariants.specs.WorldEncodableLaws.{SetsAnOctet}
use Rattle.gptp_theorem.specs.Reached.{StandsAsPlanned}

-- the event is a change that may be made
pub record IsMade (timed : Timed) : Type 0 where
  pub change : Change
  pub act : timed.act ≡ Changing change
  pub fit : IsFitAct timed.act

-- what the world is that a document leads to by a time
pub record IsReached (d : DocumentState) (until : ℕ) (w : WorldState) : Type 0 where
  pub stands : StandsAsPlanned d.network (events_by until d.events) w
  pub sound : IsSound w
  pub now : w.time ≡ until

-- A document that can be played: a network with its events, of which none sets a priority1 that is no octet.
pub record IsPlayable (d : DocumentState) : Type 0 where
  pub network : IsNetwork d.network
  pub events : AreEvents d.network d.events
  pub octets : (place : ℕ) (timed : Timed) → slice_get d.events place ≡ Some timed → SetsAnOctet timed.act

-- Every document that a text means can be, where its network and its events are within their limits.
abbrev pub DocumentsArePlayable : Type 0
DocumentsArePlayable = (text : List ℕ) (d : DocumentState)
    → Means text d → IsNetwork d.network → AreEvents d.network d.events
    → IsPlayable d

-- each of its events up to a time can be made
abbrev pub EventsAreMade : Type 0
EventsAreMade = (d : DocumentState) (until : ℕ)
    → IsNetwork d.network → AreEvents d.network d.events
    → AllByRecursion IsMade (events_by until d.events)

-- the world that it leads to by a time stands as its network does after the events up to then
abbrev pub PlayedStands : {F : Type 0} → (Bounds → ℕ → F → Option ℕ → F → Type 0) → Type 0
PlayedStands {F} answers = (d : DocumentState) (until : ℕ) (fate : F) (told : List Told) (w : WorldState)
    → IsNetwork d.network → AllByRecursion IsMade (events_by until d.events) → PlaysRun answers d until fate told w
    → IsReached d until w

-- the world that a document leads to by a time keeps what every world keeps
abbrev pub PlayedClaimed : {F : Type 0} → (Bounds → ℕ → F → Option ℕ → F → Type 0) → Type 0
PlayedClaimed {F} answers = (d : DocumentState) (until : ℕ) (fate : F) (told : List Told) (w : WorldState)
    → IsPlayable d → PlaysRun answers d until fate told w
    → SettlingInvariant w

-- A document is at rest at a time: its network is calm after the events up to then, and has settled by then.
pub record DocumentIsAtRest (d : DocumentState) (until : ℕ) : Type 0 where
  pub calm : IsCalm d.network (events_by until d.events)
  pub settled : settles d.network (events_by until d.events) ≤ until

-- a document that is calm after all its events is so from the time on at which it has settled
abbrev pub CalmRests : Type 0
CalmRests = (d : DocumentState) (until : ℕ)
    → AreEvents d.network d.events → IsCalm d.network d.events → settles d.network d.events ≤ until
    → DocumentIsAtRest d until

-- The world that a document leads to by a time at which it is at rest has been calm for the settling span of its live
-- systems.
abbrev pub DocumentIsCalm : Type 0
DocumentIsCalm = (d : DocumentState) (until : ℕ) (w : WorldState)
    → IsNetwork d.network → IsReached d until w → SettlingInvariant w → DocumentIsAtRest d until
    → IsCalmFor settling_span_with w
