-- Entries by number: numbers by rising order, each with the key at which its entry was put.
use Rattle.std.specs.Prelude.{◌≡◌, ◌⊎◌, ℕ, ◌+◌, ◌^◌, ◌<◌, ◌≤◌, ◌==◌, Bool, false, List, length, [], ◌∷◌, ◌++◌, Option, Some, None, if◌then◌else◌}
use Rattle.slab.specs.Slab.{Slab, slab_len}
use Rattle.gptp_scheduler.specs.Pending.{AgendaEntry}
use Rattle.gptp_scheduler.specs.Numbers.{key_of}
use Rattle.gptp_scheduler.specs.Chain.{held}
use Rattle.gptp_scheduler.specs.Wheel.{Earliest, IsWheel}
use Rattle.gptp_scheduler.specs.declared.filed.Filed.{Filed}
use Rattle.gptp_scheduler.specs.declared.key.Key.{Key}
use Rattle.gptp_scheduler.specs.declared.key.Node.{Node}
use Rattle.gptp_scheduler.specs.declared.slots.Ends.{Ends}

abbrev pub filed_at : ℕ → ℕ → Filed
filed_at number place = record { number = number; key = key_of place }

-- numbers from `low` on that rise, all below `next`
abbrev pub Rises : ℕ → List Filed → ℕ → Type 0
Rises low [] next = low ≤ next
Rises low (f ∷ fs) next = (low ≤ f.number) × Rises (f.number + 1) fs next

abbrev pub IsInSlab : Filed → List Filed → Type 0
IsInSlab f [] = ⊥
IsInSlab f (x ∷ xs) = (x ≡ f) ⊎ IsInSlab f xs

module _ {T : Type 0} where
  -- what stands at a key is the entry of this number still
  abbrev pub entry_lives : ℕ → Option (AgendaEntry T) → Bool
  entry_lives number None = false
  entry_lives number (Some e) = e.number == number

  -- the entry of a number, if it is what stands at a key
  abbrev pub living : ℕ → Option (AgendaEntry T) → Option (AgendaEntry T)
  living number None = None
  living number (Some e) = if e.number == number then Some e else None

  abbrev pub live : ℕ → Option (AgendaEntry T) → List (AgendaEntry T)
  live number None = []
  live number (Some e) = if e.number == number then e ∷ [] else []

  module _ (nodes : ℕ → Option (Node T)) where
    -- the entries of these numbers that are there still
    abbrev pub listed : List Filed → List (AgendaEntry T)
    listed [] = []
    listed (f ∷ fs) = live f.number (held nodes f.key.place) ++ listed fs

    -- each entry stands among these by its number
    pub record AreFiled (fs : List Filed) (next : ℕ) : Type 0 where
      pub rising : Rises 0 fs next
      pub filed : (k : ℕ) (e : AgendaEntry T) → held nodes k ≡ Some e → IsInSlab (filed_at e.number k) fs

    -- a wheel, its entries by number, and the least of them
    pub record IsAgenda (base next : ℕ) (ends : List Ends) (fs : List Filed) (link : Option Key) : Type 0 where
      pub wheel : IsWheel nodes base ends
      pub filed : AreFiled fs next
      pub first : Earliest nodes link

  -- there is room for so many more entries, and so are there numbers for them
  pub record HasSpare (spare next len capacity : ℕ) (nodes : Slab (Node T)) (ends : List Ends) : Type 0 where
    pub in_slab : slab_len nodes + spare ≤ nodes.capacity
    pub in_filed : len + spare ≤ capacity
    pub made : 0 < spare → 2049 ≤ length ends
    pub numbers : next + spare < 2 ^ 64
