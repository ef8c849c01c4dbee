-- Sinks as they begin, and what writes do to the octets that they tell.
use Rattle.std.specs.Prelude.{ℕ, ◌<◌, ◌≤◌, List, length, take, Option}
use Rattle.std.specs.Io.KnownBytes.{Appends}
use Rattle.gptp_sink.specs.declared.sink.CountedWriter.{CountedWriter}

-- a sink with no failure so far
abbrev pub sink_of : {W : Type 0} → W → CountedWriter W
sink_of writer = record { writer = writer; failures = 0 }

-- a front of the text was written, and some of the text was not
abbrev pub AppendsFront : Option (List ℕ) → Option (List ℕ) → List ℕ → Type 0
AppendsFront old new text = (count : ℕ) × (count < length text) × Appends old new (take count text)

-- a front of the text was written, or all of it
pub record AppendsSome (old new : Option (List ℕ)) (text : List ℕ) : Type 0 where
  pub count : ℕ
  pub most : count ≤ length text
  pub written : Appends old new (take count text)
