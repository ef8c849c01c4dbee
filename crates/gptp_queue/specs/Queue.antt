-- How the entries in order of time follow the list of entries.
use Rattle.std.specs.Prelude.{◌≡◌, ℕ, ◌+◌, ◌^◌, ◌<◌, ◌≤◌, List, Option, Some, None}
use Rattle.std.specs.List.{Contains}
use Rattle.gptp_queue.specs.Waiting.{RiseFrom}
use Rattle.gptp_queue.specs.Order.{IsLeast, Within}
use Rattle.gptp_queue.specs.Entry.{Entry}

-- the number of this was given, and no other entry has this number
pub record WasPut (entries : List Entry) (next : ℕ) (d : Entry) : Type 0 where
  pub given : d.number < next
  pub alone : (e : Entry) → Contains entries e → e.number ≡ d.number → e ≡ d

-- each entry is among these, and all others of these were cancelled
pub record Holds (entries : List Entry) (next : ℕ) (has : Entry → Type 0) : Type 0 where
  pub put : (d : Entry) → has d → WasPut entries next d
  pub complete : (e : Entry) → Contains entries e → has e
  pub rising : RiseFrom 0 entries next

-- the least of these, which is one of the entries
abbrev pub IsCurrentFirst : List Entry → (Entry → Type 0) → Option Entry → Type 0
IsCurrentFirst entries has None = (e : Entry) → has e → ⊥
IsCurrentFirst entries has (Some d) = IsLeast has d × Contains entries d

-- the first is at this place, and due at this time
abbrev pub IsFirstAt : Option Entry → ℕ → ℕ → Type 0
IsFirstAt None place time = ⊥
IsFirstAt (Some d) place time = (d.place ≡ place) × (d.time ≡ time)

-- the parts have all entries, the least of the parts is an entry, and there are room and numbers for so many more
pub record IsQueue (entries : List Entry) (next : ℕ) (parts : List (List Entry)) (first : Option Entry) (room spare : ℕ)
    : Type 0 where
  pub holds : Holds entries next (Within parts)
  pub there : IsCurrentFirst entries (Within parts) first
  pub fits : spare ≤ room
  pub numbers : next + spare < 2 ^ 64
