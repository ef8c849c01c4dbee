-- What a command has ready to write.
use Rattle.std.specs.Prelude.{◌≡◌, ℕ, List}
use Rattle.gptp_words.specs.Lines.{text_of}
use Rattle.gptp_commands.specs.declared.failure.Status.{Status}
use Rattle.gptp_commands.specs.declared.output.Output.{Output}

-- its lines, each with a line feed, and its status are what this text says
abbrev pub IsOutput : (List (List ℕ) → Status → Type 0) → Output → Type 0
IsOutput Text o = (output : List (List ℕ)) × Text output o.status × (o.text.items ≡ text_of output)
