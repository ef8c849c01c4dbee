-- Chains through entries that a slab holds, each by rising number.
use Rattle.std.specs.Prelude.{◌≡◌, ◌≢◌, ℕ, ◌+◌, ◌^◌, ◌<◌, ◌≤◌, ◌==◌, Bool, true, false, List, length, Option, Some, None, if◌then◌else◌, nat_lt, slice_index_or}
use Rattle.std.specs.Option.{option_map, option_or}
use Rattle.slab.specs.Slab.{Slab, slab_len}
use Rattle.gptp_scheduler.specs.Pending.{AgendaEntry, entry, IsNoEarlier}
use Rattle.gptp_scheduler.specs.Numbers.{Least, Greatest}
use Rattle.gptp_scheduler.specs.declared.key.Key.{Key}
use Rattle.gptp_scheduler.specs.declared.key.Node.{Node}
use Rattle.gptp_scheduler.specs.declared.slots.Ends.{Ends}

-- the slot of an entry that stands in no chain
abbrev pub OUT : ℕ
OUT = 4096

-- an entry and its slot, without its links
pub record Placed (T : Type 0) : Type 0 where
  pub number : ℕ
  pub time : ℕ
  pub slot : ℕ
  pub item : T

-- a chain that has no entry
abbrev pub no_ends : Ends
no_ends = record { first = None; last = None; least = None }

abbrev pub ends_at : List Ends → ℕ → Ends
ends_at ends slot = slice_index_or ends slot no_ends

-- a link leads to this key
abbrev pub leads : Option Key → ℕ → Bool
leads None k = false
leads (Some key) k = k == key.place

-- a link leads nowhere
abbrev pub leads_nowhere : Option Key → Bool
leads_nowhere None = true
leads_nowhere (Some key) = false

-- a link, or another in its place where it leads to this key
abbrev pub bypass : ℕ → Option Key → Option Key → Option Key
bypass key other link = if leads link key then other else link

-- a link, or this key where there is none
abbrev pub fill : Option Key → Key → Option Key
fill link key = option_or link (Some key)

-- the ends of a chain without an entry that stood between these two
abbrev pub ends_without : ℕ → Option Key → Option Key → Ends → Ends
ends_without key before after ends = record {
  first = if leads_nowhere before then after else ends.first;
  last = if leads_nowhere after then before else ends.last;
  least = bypass key None ends.least;
}

-- the number of what stands in this slot
abbrev pub number_in : {T : Type 0} → ℕ → Option (Placed T) → Option ℕ
number_in slot None = None
number_in slot (Some p) = if p.slot == slot then Some p.number else None

abbrev pub time_in : {T : Type 0} → Option (Placed T) → ℕ
time_in None = 0
time_in (Some p) = p.time

module _ {T : Type 0} where
  abbrev pub placed : Node T → Placed T
  placed e = record { number = e.number; time = e.time; slot = e.slot; item = e.item }

  abbrev pub in_slot : ℕ → Placed T → Placed T
  in_slot slot p = record { number = p.number; time = p.time; slot = slot; item = p.item }

  abbrev pub chain_entry : Placed T → AgendaEntry T
  chain_entry p = entry p.time p.number p.item

  abbrev pub with_after : Option Key → Node T → Node T
  with_after after e = record e { after = after }

  abbrev pub with_before : Option Key → Node T → Node T
  with_before before e = record e { before = before }

  abbrev pub with_place : ℕ → Option Key → Option Key → Node T → Node T
  with_place slot before after e = record e { slot = slot; before = before; after = after }

  -- an entry, with `after` as the link after it where `before` leads to it
  abbrev pub entry_joined_after : Option Key → Option Key → ℕ → Option (Node T) → Option (Node T)
  entry_joined_after before after k e = if leads before k then option_map (with_after after) e else e

  -- an entry, with `before` as the link before it where `after` leads to it
  abbrev pub joined_before : Option Key → Option Key → ℕ → Option (Node T) → Option (Node T)
  joined_before before after k e = if leads after k then option_map (with_before before) e else e

  -- the number of entries of the slab, and its capacity, are as they were
  pub record SameEntryRoom (old new : Slab (Node T)) : Type 0 where
    pub len : slab_len new ≡ slab_len old
    pub capacity : new.capacity ≡ old.capacity

  module _ (nodes : ℕ → Option (Node T)) where
    abbrev pub placed_at : ℕ → Option (Placed T)
    placed_at k = option_map placed (nodes k)

    -- the entry at a key
    abbrev pub held : ℕ → Option (AgendaEntry T)
    held k = option_map chain_entry (placed_at k)

    -- the numbers of what stands in a slot
    abbrev pub numbers_in : ℕ → ℕ → Option ℕ
    numbers_in slot k = number_in slot (placed_at k)

    -- the least entry of a slot has this key
    pub record IsLeastIn (slot key : ℕ) : Type 0 where
      pub entry : Placed T
      pub at_key : placed_at key ≡ Some entry
      pub in_it : entry.slot ≡ slot
      pub least : (k : ℕ) (p : Placed T) → placed_at k ≡ Some p → p.slot ≡ slot
          → IsNoEarlier entry.time entry.number (chain_entry p)

    abbrev pub entry_time : ℕ → ℕ
    entry_time k = time_in (placed_at k)

    -- the earlier of two entries, where the second has the higher number
    abbrev pub earlier_key : Key → Key → Key
    earlier_key one other = if nat_lt (entry_time other.place) (entry_time one.place) then other else one

    -- the least of a chain with an entry more, where that is known
    abbrev pub least_with : Option Key → Option Key → Key → Option Key
    least_with None first key = if leads_nowhere first then Some key else None
    least_with (Some least) first key = Some (earlier_key least key)

    -- the ends of a chain with an entry more
    abbrev pub ends_with : Ends → Key → Ends
    ends_with ends key = record {
      first = fill ends.first key;
      last = Some key;
      least = least_with ends.least ends.first key;
    }

    -- where it is kept which entry of a slot is the least, that is right
    abbrev pub IsHint : ℕ → Option Key → Type 0
    IsHint slot None = Unit {0}
    IsHint slot (Some key) = IsLeastIn slot key.place

    -- a link leads to the least entry of a slot, if there is one
    abbrev pub LeastIn : ℕ → Option Key → Type 0
    LeastIn slot None = (k : ℕ) (p : Placed T) → placed_at k ≡ Some p → p.slot ≢ slot
    LeastIn slot (Some key) = IsLeastIn slot key.place

    -- The first of a chain has the least number of its slot and the last the greatest. The link after an
    -- entry leads to the least number above its own in its slot, and the one before it to the greatest below.
    pub record EntriesAreChained (ends : List Ends) : Type 0 where
      pub few : length ends ≤ 2049
      pub first : (slot : ℕ) → slot < length ends → Least (numbers_in slot) 0 (ends_at ends slot).first
      pub last : (slot : ℕ) → slot < length ends → Greatest (numbers_in slot) (2 ^ 64) (ends_at ends slot).last
      pub hint : (slot : ℕ) → slot < length ends → IsHint slot (ends_at ends slot).least
      pub after : (k : ℕ) (e : Node T) → nodes k ≡ Some e → e.slot < length ends
          → Least (numbers_in e.slot) (e.number + 1) e.after
      pub before : (k : ℕ) (e : Node T) → nodes k ≡ Some e → e.slot < length ends
          → Greatest (numbers_in e.slot) e.number e.before
      pub unique : (j k : ℕ) (p q : Placed T) → placed_at j ≡ Some p → placed_at k ≡ Some q → p.number ≡ q.number
          → j ≡ k
      pub small : (k : ℕ) (p : Placed T) → placed_at k ≡ Some p → p.number < 2 ^ 64

    -- an entry stands in one of the chains
    abbrev pub StandsIn : List Ends → ℕ → Type 0
    StandsIn ends key = (p : Placed T) × (placed_at key ≡ Some p) × (p.slot < length ends)

    -- an entry stands in no chain, and above all numbers of a slot
    pub record IsAboveAll (slot key : ℕ) : Type 0 where
      pub entry : Placed T
      pub at_key : placed_at key ≡ Some entry
      pub out : entry.slot ≡ OUT
      pub above : (k n : ℕ) → numbers_in slot k ≡ Some n → n < entry.number

  module _ (old new : ℕ → Option (Node T)) where
    -- the entry at a key stands in this slot, and all others where they stood
    pub record Moves (key slot : ℕ) : Type 0 where
      pub moved : placed_at new key ≡ option_map (in_slot slot) (placed_at old key)
      pub others : (k : ℕ) → k ≢ key → placed_at new k ≡ placed_at old k

    -- each entry is what another function makes of the one that stood there
    abbrev pub Relinks : (ℕ → Option (Node T) → Option (Node T)) → Type 0
    Relinks by = (k : ℕ) → new k ≡ by k (old k)
