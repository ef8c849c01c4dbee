-- The slot in which an entry stands: eight levels of 256 slots, one octet of the time each.
use Rattle.std.specs.Prelude.{◌≡◌, ◌⊎◌, ℕ, ◌+◌, ◌-◌, ◌*◌, ◌/◌, ◌%◌, ◌^◌, ◌<◌, ◌≤◌}

-- a time without its lowest octets
unfoldable pub tick : ℕ → ℕ → ℕ
tick height time = time / 2 ^ (height * 8)

-- Slots are numbered from the lowest level up, so that slot `256 * height + octet` is one of a level. A time
-- stands at the level of the highest octet in which it differs from the base, at the lowest level where it
-- is the base, and there in the slot of its own octet.
pub record IsInLevels (base time slot : ℕ) : Type 0 where
  pub not_below : base ≤ time
  pub within : slot < 2048
  pub window : tick (slot / 256) time / 256 ≡ tick (slot / 256) base / 256
  pub differs : 0 < slot / 256 → tick (slot / 256) base < tick (slot / 256) time
  pub octet : tick (slot / 256) time % 256 ≡ slot % 256

-- a time stands in the levels, or in the chain below the base
abbrev pub IsPlace : ℕ → ℕ → ℕ → Type 0
IsPlace base time slot = IsInLevels base time slot ⊎ ((slot ≡ 2048) × (time < base))

-- Where a time stands, by level and slot, level 0 for the most significant octet: the level is that of the highest
-- octet in which the time differs from the base, and 7 where it is the base. The slot is that octet of the time. Level
-- 8 has one slot, for times below the base.
abbrev pub StandsAtLevel : ℕ → ℕ → ℕ → ℕ → Type 0
StandsAtLevel base time level slot =
    ((level ≤ 7) × (slot < 256) × IsInLevels base time ((7 - level) * 256 + slot))
    ⊎ ((level ≡ 8) × (slot ≡ 0) × (time < base))
