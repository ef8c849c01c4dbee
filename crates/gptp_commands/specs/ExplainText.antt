-- What `explain` writes for a document and a clock, and its status (profile).
use Rattle.std.specs.Prelude.{◌≡◌, ◌⊎◌, ℕ, List, Option}
use Rattle.gptp_network.specs.declared.fault.DocumentFault.TheVariants.{NoSuchPort}
use Rattle.gptp_network.specs.Document.{DocumentState}
use Rattle.gptp_explain.specs.Explained.{Explains, IsAbsent}
use Rattle.gptp_commands.specs.declared.failure.Status.{Status}
use Rattle.gptp_commands.specs.declared.failure.Status.TheVariants.{Done}
use Rattle.gptp_commands.specs.CheckText.{moment_of}
use Rattle.gptp_commands.specs.Documents.{RefusesFault}

-- what is told of the live system with the clock, as the network stands at the time
abbrev pub ShowsSystem : DocumentState → ℕ → ℕ → List (List ℕ) → Status → Type 0
ShowsSystem d at clock output status = Explains d at clock output × (status ≡ Done)

-- no live system has the clock then
abbrev pub RefusesAbsent : DocumentState → ℕ → ℕ → List (List ℕ) → Status → Type 0
RefusesAbsent d at clock output status = IsAbsent d at clock × RefusesFault NoSuchPort output status

-- at the time that is meant
abbrev pub ExplainsAt : DocumentState → Option ℕ → ℕ → List (List ℕ) → Status → Type 0
ExplainsAt d until clock output status =
    ShowsSystem d (moment_of until d) clock output status
    ⊎ RefusesAbsent d (moment_of until d) clock output status
