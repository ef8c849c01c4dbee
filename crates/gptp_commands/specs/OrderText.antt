-- What each command writes, by what a command line asks for.
use Rattle.std.specs.Prelude.{◌≡◌, ℕ, Bool, true, false, List, Option, IfSome}
use Rattle.std.specs.Io.KnownBytes.{Appends}
use Rattle.gptp_commands.specs.CheckText.{CheckText}
use Rattle.gptp_commands.specs.CompareText.{CompareText}
use Rattle.gptp_commands.specs.FaultsText.{FaultsText}
use Rattle.gptp_commands.specs.QuestionText.{QuestionText}
use Rattle.gptp_commands.specs.RunText.{RunText}
use Rattle.gptp_commands.specs.TimelineText.{TimelineText}
use Rattle.gptp_commands.specs.Version.{version_text}
use Rattle.gptp_commands.specs.WhereText.{WhereText}
use Rattle.gptp_commands.specs.Written.{Writes}
use Rattle.gptp_commands.specs.declared.command.Order.{Order}
use Rattle.gptp_commands.specs.declared.command.Order.TheVariants.{Ask, Check, Compare, Faults, Run, Timeline, Version}
use Rattle.gptp_commands.specs.declared.failure.Status.{Status}
use Rattle.gptp_commands.specs.declared.failure.Status.TheVariants.{Done}

-- the text of `check`, with the place at which a certificate fails or without
abbrev pub CheckedText : Bool → Option ℕ → List ℕ → List ℕ → List (List ℕ) → Status → Type 0
CheckedText true = WhereText
CheckedText false = CheckText

-- the text of `check` was written, where both its inputs are known: what was left to read, and the certificate
abbrev pub WritesChecked : Bool → Option ℕ → Option (List ℕ) → Option (List ℕ) → Option (List ℕ) → Option (List ℕ)
    → Status → Type 0
WritesChecked located until certificate left old new status =
    IfSome certificate (λ octets. Writes (CheckedText located until octets) left old new status)

-- the whole text of a command was written, for what was left to read: of `check` in the certificate too
abbrev pub WritesOrder : Order → Option (List ℕ) → Option (List ℕ) → Option (List ℕ) → Option (List ℕ) → Status
    → Type 0
WritesOrder Compare certificate left old new status = Writes CompareText left old new status
WritesOrder (Run options) certificate left old new status = Writes (RunText options) left old new status
WritesOrder (Timeline order) certificate left old new status = Writes (TimelineText order) left old new status
WritesOrder (Faults options) certificate left old new status = Writes (FaultsText options) left old new status
WritesOrder (Check options) certificate left old new status =
    WritesChecked options.located options.until certificate left old new status
WritesOrder (Ask question) certificate left old new status = Writes (QuestionText question) left old new status
WritesOrder Version certificate left old new status = (status ≡ Done) × Appends old new version_text
