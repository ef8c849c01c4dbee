-- The entries of a queue, as a plain list in order of putting.
use Rattle.std.specs.Prelude.{⊤, ◌≡◌, ◌≢◌, ℕ, ◌+◌, ◌≤◌, ◌==◌, ◌&&◌, Bool, not, List, [], ◌∷◌, Option}
use Rattle.std.specs.List.{All, AllByRecursion, Contains, filter, find, list_any}
use Rattle.std.specs.Option.{option_map}
use Rattle.gptp_queue.specs.Entry.{Entry}

-- a queue: the number of the next entry, how many places there are, the entries in order of putting, and how many
-- more can be put without being refused
pub record WaitingState : Type 0 where
  pub next : ℕ
  pub places : ℕ
  pub entries : List Entry
  pub room : ℕ

abbrev pub entry : ℕ → ℕ → ℕ → Entry
entry time number place = record { time = time; number = number; place = place }

abbrev pub is_at : ℕ → Entry → Bool
is_at place e = e.place == place

-- when something is due at a place
abbrev pub time_at : List Entry → ℕ → Option ℕ
time_at entries place = option_map (λ (e : Entry). e.time) (find (is_at place) entries)

-- the entries but those at this place
abbrev pub without_place : ℕ → List Entry → List Entry
without_place place = filter (λ (e : Entry). not (is_at place e))

-- an entry of this number and this place is there
abbrev pub is_current : List Entry → Entry → Bool
is_current entries d = list_any (λ (e : Entry). (e.number == d.number) && (e.place == d.place)) entries

-- one is due no later than another, and at the same time has no higher number
pub record IsNoLater (d e : Entry) : Type 0 where
  pub by_time : d.time ≤ e.time
  pub by_number : d.time ≡ e.time → d.number ≤ e.number

-- the first of least time: a member of the list, and no member is earlier
pub record IsFirst (entries : List Entry) (d : Entry) : Type 0 where
  pub member : Contains entries d
  pub least : All (IsNoLater d) entries

-- numbers from `low` on that rise, all below `next`
abbrev pub RiseFrom : ℕ → List Entry → ℕ → Type 0
RiseFrom low [] next = low ≤ next
RiseFrom low (e ∷ es) next = (low ≤ e.number) × RiseFrom (e.number + 1) es next

-- no two are at one place
abbrev pub PlacesDiffer : List Entry → Type 0
PlacesDiffer [] = ⊤
PlacesDiffer (e ∷ es) = AllByRecursion (λ (x : Entry). x.place ≢ e.place) es × PlacesDiffer es
