-- A wheel: each entry stands in the chain of its slot, and what is done with it.
use Rattle.std.specs.Prelude.{◌≡◌, ◌≢◌, ℕ, ◌/◌, ◌-◌, ◌^◌, ◌<◌, ◌≤◌, List, length, Option, Some, None, unwrap_or}
use Rattle.gptp_scheduler.specs.Pending.{AgendaEntry, IsNoEarlier}
use Rattle.gptp_scheduler.specs.Chain.{Placed, chain_entry, placed_at, held, numbers_in, earlier_key, EntriesAreChained}
use Rattle.gptp_scheduler.specs.Numbers.{Least}
use Rattle.gptp_scheduler.specs.Places.{tick, IsPlace}
use Rattle.gptp_scheduler.specs.declared.key.Key.{Key}
use Rattle.gptp_scheduler.specs.declared.key.Node.{Node}
use Rattle.gptp_scheduler.specs.declared.slots.Ends.{Ends}

module _ {T : Type 0} where
  -- the link after an entry
  abbrev pub link_behind : Option (Node T) → Option Key
  link_behind None = None
  link_behind (Some e) = e.after

  module _ (nodes : ℕ → Option (Node T)) where
    -- each entry stands in the chain of the slot that its time has at this base
    pub record IsWheel (base : ℕ) (ends : List Ends) : Type 0 where
      pub chained : EntriesAreChained nodes ends
      pub made : (k : ℕ) (p : Placed T) → placed_at nodes k ≡ Some p → 2049 ≤ length ends
      pub places : (k : ℕ) (p : Placed T) → placed_at nodes k ≡ Some p → IsPlace base p.time p.slot

    -- The entries of a slot are brought to lower ones, since the base has come to it: what was brought down
    -- has a lower number than what is left.
    pub record IsLowering (base slot : ℕ) (ends : List Ends) : Type 0 where
      pub chained : EntriesAreChained nodes ends
      pub made : 2049 ≤ length ends
      pub high : 256 ≤ slot
      pub within : slot < 2048
      pub placed : (k : ℕ) (p : Placed T) → placed_at nodes k ≡ Some p → p.slot ≢ slot → IsPlace base p.time p.slot
      pub near : (k : ℕ) (p : Placed T) → placed_at nodes k ≡ Some p → p.slot ≡ slot
          → tick (slot / 256) p.time ≡ tick (slot / 256) base
      pub ahead : (k : ℕ) (p : Placed T) → placed_at nodes k ≡ Some p → p.slot ≡ slot → base ≤ p.time
      pub ordered : (j k : ℕ) (p q : Placed T) → placed_at nodes j ≡ Some p → placed_at nodes k ≡ Some q
          → p.slot < slot → q.slot ≡ slot → p.number < q.number

    -- the least of all is taken out: a time of this slot, and nothing that is left is earlier
    pub record IsLeft (base time slot : ℕ) (ends : List Ends) : Type 0 where
      pub wheel : IsWheel base ends
      pub made : 2049 ≤ length ends
      pub place : IsPlace base time slot
      pub first : (k : ℕ) (p : Placed T) → placed_at nodes k ≡ Some p → time ≤ p.time

    -- no entry is earlier than the one at this key
    pub record IsEarliestEntry (key : ℕ) : Type 0 where
      pub entry : AgendaEntry T
      pub at_key : held nodes key ≡ Some entry
      pub least : (k : ℕ) (e : AgendaEntry T) → held nodes k ≡ Some e → IsNoEarlier entry.time entry.number e

    -- a link leads to the least entry of all, if there is one
    abbrev pub Earliest : Option Key → Type 0
    Earliest None = (k : ℕ) → held nodes k ≡ None
    Earliest (Some key) = IsEarliestEntry key.place

    -- the earlier of two, where the second has the higher number and the first may be none
    abbrev pub first_of : Option Key → Key → Key
    first_of None key = key
    first_of (Some one) key = earlier_key nodes one key

    -- all numbers are below this one
    abbrev pub AreBelow : ℕ → Type 0
    AreBelow number = (k : ℕ) (p : Placed T) → placed_at nodes k ≡ Some p → p.number < number

    -- the least of those in a slot whose number is below this one
    pub record IsLeastBelow (slot low key : ℕ) : Type 0 where
      pub entry : Placed T
      pub at_key : placed_at nodes key ≡ Some entry
      pub in_it : entry.slot ≡ slot
      pub below : entry.number < low
      pub least : (k : ℕ) (p : Placed T) → placed_at nodes k ≡ Some p → p.slot ≡ slot → p.number < low
          → IsNoEarlier entry.time entry.number (chain_entry p)

    abbrev pub LeastBelow : ℕ → ℕ → Option Key → Type 0
    LeastBelow slot low None = (k : ℕ) (p : Placed T) → placed_at nodes k ≡ Some p → p.slot ≡ slot → low ≤ p.number
    LeastBelow slot low (Some key) = IsLeastBelow slot low key.place

    -- of a chain all below a number were gone through, and `next` leads to what is left
    pub record Searched (slot : ℕ) (least next : Option Key) : Type 0 where
      pub low : ℕ
      pub rest : Least (numbers_in nodes slot) low next
      pub so_far : LeastBelow slot low least

  module _ (old new : ℕ → Option (Node T)) where
    abbrev pub SameEntries : Type 0
    SameEntries = (k : ℕ) → held new k ≡ held old k

    -- an entry was put in at a key
    pub record Puts (key : ℕ) (e : AgendaEntry T) : Type 0 where
      pub free : held old key ≡ None
      pub put : held new key ≡ Some e
      pub others : (k : ℕ) → k ≢ key → held new k ≡ held old k

    -- the entry of a key was taken out
    pub record TakesEntry (key : ℕ) (e : AgendaEntry T) : Type 0 where
      pub was : held old key ≡ Some e
      pub gone : held new key ≡ None
      pub others : (k : ℕ) → k ≢ key → held new k ≡ held old k

-- how far numbers can rise from where a link leads
abbrev pub rank : (ℕ → Option ℕ) → Option Key → ℕ
rank numbers None = 0
rank numbers (Some key) = 2 ^ 64 - unwrap_or (numbers key.place) 0
