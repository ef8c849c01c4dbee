-- That an input has a text at all.
use Rattle.std.specs.Prelude.{ℕ, List}
use Rattle.gptp_commands.specs.declared.failure.Status.{Status}

-- some lines and a status are this text
abbrev pub HaveText : (List (List ℕ) → Status → Type 0) → Type 0
HaveText Text = (output : List (List ℕ)) × (status : Status) × Text output status

-- some are this text of the input
abbrev pub HasText : (List ℕ → List (List ℕ) → Status → Type 0) → List ℕ → Type 0
HasText Text input = HaveText (Text input)
