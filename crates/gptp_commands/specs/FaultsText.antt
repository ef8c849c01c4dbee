-- What `faults` writes for a document, and its status (profile).
use Rattle.std.specs.Prelude.{◌≡◌, ◌⊎◌, ℕ, Bool, List}
use Rattle.gptp_network.specs.declared.fault.DocumentFault.{DocumentFault}
use Rattle.gptp_network.specs.Document.{DocumentState}
use Rattle.gptp_faults.specs.Faults.{FaultsOf}
use Rattle.gptp_faults.specs.Laws.{LinesHold}
use Rattle.gptp_faults.specs.Refusals.{RefusesFaults}
use Rattle.gptp_faults.specs.declared.options.FaultsOptions.{FaultsOptions}
use Rattle.gptp_commands.specs.declared.failure.Status.{Status}
use Rattle.gptp_commands.specs.Failure.{status_by}
use Rattle.gptp_commands.specs.Documents.{Answers, AnswersInput, RefusesFault}

-- The table of its cases, of which the lines hold. It is refused where a limit is exceeded, and where it would be with
-- the events of some run.
abbrev pub TellsFaults : DocumentState → FaultsOptions → List (List ℕ) → Status → Type 0
TellsFaults d options output status =
    ((exceeded : Bool) × (f : FaultsOf d options output exceeded) × LinesHold d options f.times f.outcomes
    × (status ≡ status_by exceeded))
    ⊎ ((fault : DocumentFault) × RefusesFaults d options fault × RefusesFault fault output status)

-- an input is a document, of which this is told, or fails a test
abbrev pub AnswersFaults : FaultsOptions → List ℕ → List (List ℕ) → Status → Type 0
AnswersFaults options = Answers (λ d. TellsFaults d options)

abbrev pub FaultsText : FaultsOptions → List ℕ → List (List ℕ) → Status → Type 0
FaultsText options = AnswersInput (λ d. TellsFaults d options)
