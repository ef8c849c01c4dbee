-- Which slots have an entry.
use Rattle.std.specs.Prelude.{◌≡◌, ℕ, ◌/◌, ◌%◌, ◌<◌, List, length, slice_index, None, IsSome}
use Rattle.std.specs.Int.{bit_at}
use Rattle.gptp_scheduler.specs.Chain.{ends_at}
use Rattle.gptp_scheduler.specs.declared.slots.Ends.{Ends}

-- the bit of a slot
abbrev pub slot_bit : List ℕ → ℕ → ℕ
slot_bit filled slot = bit_at (slice_index filled (slot / 64)) (slot % 64)

-- the bit of a slot of the eight levels is set exactly where its chain has a first
pub record AreFilled (filled : List ℕ) (ends : List Ends) : Type 0 where
  pub words : length filled ≡ 32
  pub clear : (slot : ℕ) → slot < 2048 → slot_bit filled slot ≡ 0 → (ends_at ends slot).first ≡ None
  pub set : (slot : ℕ) → slot < 2048 → slot_bit filled slot ≡ 1 → IsSome (ends_at ends slot).first

-- each chain is as it was
abbrev pub SameEnds : List Ends → List Ends → Type 0
SameEnds old new = (slot : ℕ) → ends_at new slot ≡ ends_at old slot
