-- The slots of a ring: lists of entries, and which of them have one.
use Rattle.std.specs.Prelude.{◌≡◌, ◌≢◌, ℕ, ◌+◌, ◌/◌, ◌%◌, ◌<◌, ◌≤◌, List, length, [], slice_index, Option, Some, None}
use Rattle.std.specs.Int.{bit_at}
use Rattle.std.specs.List.{Contains}
use Rattle.gptp_queue.specs.Order.{part_at, IsOrdered, Rise}
use Rattle.gptp_queue.specs.Entry.{Entry}

-- the bit of a slot
abbrev pub slot_bit : List ℕ → ℕ → ℕ
slot_bit filled slot = bit_at (slice_index filled (slot / 64)) (slot % 64)

-- there are 2,048 slots, and the bit of a slot is set exactly where it has an entry
pub record AreFilled (filled : List ℕ) (queues : List (List Entry)) : Type 0 where
  pub words : length filled ≡ 32
  pub slots : length queues ≡ 2048
  pub clear : (slot : ℕ) → slot < 2048 → slot_bit filled slot ≡ 0 → part_at queues slot ≡ []
  pub set : (slot : ℕ) → slot < 2048 → slot_bit filled slot ≡ 1 → part_at queues slot ≢ []

-- the first slot from one on that has an entry
pub record IsFirstFrom (queues : List (List Entry)) (low slot : ℕ) : Type 0 where
  pub from : low ≤ slot
  pub within : slot < 2048
  pub some : part_at queues slot ≢ []
  pub none : (k : ℕ) → low ≤ k → k < slot → part_at queues k ≡ []

-- Each entry is due less than 2,048 ns after the base, and stands in the slot of its time.
pub record IsNear (base : ℕ) (queues : List (List Entry)) : Type 0 where
  pub not_before : (k : ℕ) (e : Entry) → Contains (part_at queues k) e → base ≤ e.time
  pub near : (k : ℕ) (e : Entry) → Contains (part_at queues k) e → e.time < base + 2048
  pub slot : (k : ℕ) (e : Entry) → Contains (part_at queues k) e → k ≡ e.time % 2048
  pub rise : (k : ℕ) → Rise (part_at queues k)

-- the slot of an entry's time
abbrev pub slot_of : Option Entry → ℕ
slot_of None = 0
slot_of (Some e) = e.time % 2048

-- the first is the least of all, and the first of its slot
pub record IsRing (base : ℕ) (queues : List (List Entry)) (first : Option Entry) : Type 0 where
  pub many : length queues ≡ 2048
  pub near : IsNear base queues
  pub ordered : IsOrdered queues first (slot_of first)
