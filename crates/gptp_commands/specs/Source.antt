-- Sources as they begin, and what reads do to the octets that they tell.
use Rattle.std.specs.Prelude.{ℕ, ◌+◌, ◌≤◌, List, length, Option}
use Rattle.std.specs.Io.KnownBytes.{Consumes, IsAtEnd}
use Rattle.gptp_commands.specs.declared.source.CountedReader.{CountedReader}

-- a source with no failure so far
abbrev pub source_of : {R : Type 0} → R → CountedReader R
source_of reader = record { reader = reader; failures = 0 }

-- some octets were taken from the front of what was left, and no more than this many
abbrev pub TakesAtMost : ℕ → Option (List ℕ) → Option (List ℕ) → Type 0
TakesAtMost most old new = (octets : List ℕ) × Consumes old new octets × (length octets ≤ most)

-- these octets were taken: all that was left, or one more than the limit
pub record ReadsWhole (limit : ℕ) (old new : Option (List ℕ)) (octets : List ℕ) : Type 0 where
  pub taken : Consumes old new octets
  pub bound : length octets ≤ limit + 1
  pub whole : length octets ≤ limit → IsAtEnd new
