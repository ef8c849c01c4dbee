-- What a system is given, a world comes to and a document asks for has an outcome.
use Rattle.std.specs.Prelude.{◌≤◌, ◌⊎◌, ℕ, Bool, List, Option}
use Rattle.std.specs.List.{AllByRecursion}
use Rattle.gptp_links.specs.declared.bounds.Bounds.{Bounds}
use Rattle.gptp_messages.specs.declared.message.Message.{Message}
use Rattle.gptp_messages.specs.declared.refused.Refused.{Refused}
use Rattle.gptp_messages.specs.Grammar.{Reads, RefusesFrame}
use Rattle.gptp_network.specs.Document.{DocumentState}
use Rattle.gptp_scenario.specs.Allowed.{IsAllowed}
use Rattle.gptp_scenario.specs.Network.{IsNetwork, NetworkState}
use Rattle.gptp_scenario.specs.declared.change.Timed.{Timed}
use Rattle.gptp_setup.specs.Intervals.{IsMoment}
use Rattle.gptp_system.specs.declared.answer.Answer.{Answer}
use Rattle.gptp_system.specs.declared.sending.Sending.{Sending}
use Rattle.gptp_system.specs.Facts.{IsSystem}
use Rattle.gptp_system.specs.Input.{Input, IsTimely, Steps}
use Rattle.gptp_system.specs.State.{SystemState}
use Rattle.gptp_model.specs.declared.done.Done.{Done}
use Rattle.gptp_model.specs.Acts.{IsReadyAct}
use Rattle.gptp_model.specs.Course.{Begun, WasDone}
use Rattle.gptp_model.specs.World.{WorldState}
use Rattle.gptp_theorem.specs.PlayedLaws.{IsPlayable}
use Rattle.gptp_report.specs.Report.{Reports}
use Rattle.gptp_report.specs.Run.{LeadsTo}
use Rattle.gptp_report.specs.Transitions.{PassesTo, ActTrace, Unfolds}
use Rattle.gptp_determinism.specs.GoingOn.{AnswersAll, AllAreOctets, CanGoOn, HearsOctets, InjectsOctets}

-- Every frame reads as a message, or is refused.
abbrev pub FramesAreJudged : Type 0
FramesAreJudged = (frame : List ℕ) → AllAreOctets frame
    → ((message : Message) × Reads frame message) ⊎ ((refused : Refused) × RefusesFrame frame refused)

-- A system that is given an input in time takes a step, and is a system then.
abbrev pub StepsExist : Type 0
StepsExist = (input : Input) (now : ℕ) (s : SystemState)
    → IsSystem s → IsMoment now → IsTimely s now input → HearsOctets input
    → (t : SystemState) × (sends : List Sending) × (answer : Answer) × Steps input now s t sends answer × IsSystem t

-- The world of a network begins, and can go on.
abbrev pub BeginningsExist : {F : Type 0} → (Bounds → ℕ → F → Option ℕ → F → Type 0) → Type 0
BeginningsExist {F} answers = AnswersAll answers → (n : NetworkState) (fate : F) → IsNetwork n
    → (f : F) × (w : WorldState) × Begun answers n fate f w × CanGoOn w

-- An act that is ready is done, and the world can go on then.
abbrev pub ActsExist : {F : Type 0} → (Bounds → ℕ → F → Option ℕ → F → Type 0) → Type 0
ActsExist {F} answers = AnswersAll answers → (timed : Timed) (fate : F) (w : WorldState)
    → CanGoOn w → IsAllowed timed → InjectsOctets timed.act → IsReadyAct timed.act timed.at w
    → (f : F) × (v : WorldState) × (done : Done) × WasDone answers timed fate f w v done × CanGoOn v

-- A world goes on to a time, and can go on then.
abbrev pub WaysExist : {F : Type 0} → (Bounds → ℕ → F → Option ℕ → F → Type 0) → Type 0
WaysExist {F} answers = AnswersAll answers → (until : ℕ) (fate : F) (w : WorldState)
    → CanGoOn w → w.time ≤ until → IsMoment until
    → (ts : List ActTrace) × (f : F) × (v : WorldState) × PassesTo answers until ts fate f w v × CanGoOn v

-- what these events inject is octets that a frame can have
abbrev pub AllInject : List Timed → Type 0
AllInject = AllByRecursion (λ (timed : Timed). InjectsOctets timed.act)

-- A document is played to a time, act by act, whatever its fate.
abbrev pub DocumentsUnfold : {F : Type 0} → (Bounds → ℕ → F → Option ℕ → F → Type 0) → Type 0
DocumentsUnfold {F} answers = AnswersAll answers → (d : DocumentState) (until : ℕ) (fate : F)
    → IsPlayable d → AllInject d.events → IsMoment until
    → (start : WorldState) × (ts : List ActTrace) × (w : WorldState) × Unfolds answers d until fate start ts w
    × CanGoOn w

-- A document leads to a world, with the lines of its frames and a report.
abbrev pub DocumentsLead : {F : Type 0} → (Bounds → ℕ → F → Option ℕ → F → Type 0) → Type 0
DocumentsLead {F} answers = AnswersAll answers → (d : DocumentState) (until : ℕ) (frames : Bool) (fate : F)
    → IsPlayable d → AllInject d.events → IsMoment until
    → (w : WorldState) × (lines : List (List ℕ)) × LeadsTo answers d until frames fate w lines
    × ((report : List (List ℕ)) × Reports d until w report)
