-- Buffers for frames (profile).
use Rattle.std.specs.Prelude.{◌≡◌, ℕ, ◌+◌, ◌≤◌, nat_le, nat_lt, if◌then◌else◌, [], Vec, vec_capacity}

-- how many stand ready, and for how many there are places
pub record BuffersState : Type 0 where
  pub ready : ℕ
  pub places : ℕ

-- an empty buffer with room for the longest message that a system sends: an Announce whose path has 256 clocks
pub record IsBuffer {Z : Type 0} (b : Vec ℕ Z) : Type 0 where
  pub empty : b.items ≡ []
  pub room : 2116 ≤ vec_capacity b

-- How many stand ready once a buffer of this capacity is put back: it is kept where it has the room of the others and
-- there is a place for it.
abbrev pub ready_with : ℕ → BuffersState → ℕ
ready_with capacity b =
    if nat_le 2116 capacity then if nat_lt b.ready b.places then b.ready + 1 else b.ready else b.ready
