-- Inputs that may have so many octets and no more, and as far as their texts have got (profile).
use Rattle.std.specs.Prelude.{◌≡◌, ◌⊎◌, ◌≤◌, ℕ, nat_le, List, [], length}
use Rattle.std.specs.Bool.{MatchBool}
use Rattle.gptp_commands.specs.declared.failure.Status.{Status}

-- the text and the status of an input within its size, and those of one past it
abbrev pub Limited : ℕ → (List ℕ → List (List ℕ) → Status → Type 0) → (List (List ℕ) → Status → Type 0)
    → List ℕ → List (List ℕ) → Status → Type 0
Limited limit Within Past input output status =
    MatchBool (nat_le (length input) limit) (Within input output status) (Past output status)

-- These are the first lines of the text for an input, as far as that has got: none, some that are written while an
-- input within its size is worked on, or all.
abbrev pub Begins : ℕ → (List ℕ → List (List ℕ) → Type 0) → (List ℕ → List (List ℕ) → Status → Type 0) → List ℕ
    → List (List ℕ) → Type 0
Begins limit SoFar Text input lines =
    (lines ≡ []) ⊎ (((length input ≤ limit) × SoFar input lines) ⊎ ((status : Status) × Text input lines status))
