-- What stands written when a command ends: the text for its input, or a front of it.
use Rattle.std.specs.Prelude.{ℕ, List, Option, IfSome}
use Rattle.std.specs.Io.KnownBytes.{Appends}
use Rattle.gptp_words.specs.Lines.{text_of}
use Rattle.gptp_commands.specs.declared.failure.Status.{Status}
use Rattle.gptp_sink.specs.Sink.{AppendsFront, AppendsSome}

-- the text for the octets that were left to read, whole
abbrev pub Writes : (List ℕ → List (List ℕ) → Status → Type 0) → Option (List ℕ) → Option (List ℕ) → Option (List ℕ)
    → Status → Type 0
Writes Text left old new status =
    IfSome left (λ input. (output : List (List ℕ)) × Text input output status × Appends old new (text_of output))

-- some front of it, which isn't the whole
abbrev pub WritesFront : (List ℕ → List (List ℕ) → Status → Type 0) → Option (List ℕ) → Option (List ℕ)
    → Option (List ℕ) → Type 0
WritesFront Text left old new =
    (status : Status) × IfSome left (λ input.
    (output : List (List ℕ)) × Text input output status × AppendsFront old new (text_of output))

-- some front of the lines that the text begins with, or all of them
abbrev pub WritesSome : (List ℕ → List (List ℕ) → Type 0) → Option (List ℕ) → Option (List ℕ) → Option (List ℕ)
    → Type 0
WritesSome Begun left old new =
    IfSome left (λ input. (lines : List (List ℕ)) × Begun input lines × AppendsSome old new (text_of lines))
