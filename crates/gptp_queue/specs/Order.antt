-- Entries in order of time: those of a queue, and such as were cancelled.
use Rattle.std.specs.Prelude.{◌≡◌, ◌⊎◌, ℕ, ◌+◌, ◌<◌, ◌==◌, ◌&&◌, ◌||◌, Bool, true, false, ⊤, List, drop, length, [], ◌∷◌, Option, Some, None, nat_lt, if◌then◌else◌, slice_get, slice_index_or}
use Rattle.std.specs.List.{All, Contains, sum_by}
use Rattle.std.specs.Ordering.{nat_cmp, on, then_cmp}
use Rattle.std.specs.declared.cmp.Ordering.{Ordering}
use Rattle.std.specs.declared.cmp.Reverse.{Reverse}
use Rattle.gptp_queue.specs.Waiting.{is_current, IsNoLater}
use Rattle.gptp_queue.specs.Entry.{Entry}

-- ---- which of two is first

abbrev pub is_before : Entry → Entry → Bool
is_before d e = nat_lt d.time e.time || ((d.time == e.time) && nat_lt d.number e.number)

abbrev pub precedes : Entry → Option Entry → Bool
precedes d None = true
precedes d (Some e) = is_before d e

-- by time, then by number, then by place, so that no two entries tie
abbrev pub earlier : Entry → Entry → Ordering
earlier = then_cmp (then_cmp (on (λ (d : Entry). d.time) nat_cmp) (on (λ (d : Entry). d.number) nat_cmp))
    (on (λ (d : Entry). d.place) nat_cmp)

-- how the heap compares two: what is due first is the greatest
abbrev pub due_first : Reverse Entry → Reverse Entry → Ordering
due_first d e = earlier e.0 d.0

-- ---- lists

abbrev pub first_of : List Entry → Option Entry
first_of es = slice_get es 0

abbrev pub rest_of : List Entry → List Entry
rest_of = drop 1

abbrev pub first_and : Option Entry → List Entry → List Entry
first_and None rest = rest
first_and (Some e) rest = e ∷ rest

abbrev pub among : List Entry → Entry → Type 0
among es e = Contains es e

-- none is before one that stands earlier
abbrev pub Rise : List Entry → Type 0
Rise [] = ⊤
Rise (d ∷ es) = All (IsNoLater d) es × Rise es

pub record IsRun (first : Option Entry) (rest : List Entry) : Type 0 where
  pub behind : first ≡ None → rest ≡ []
  pub rise : Rise (first_and first rest)

pub record HeapState : Type 0 where
  pub entries : List Entry
  pub room : ℕ

-- one of these, and no later than any
pub record IsLeast (has : Entry → Type 0) (d : Entry) : Type 0 where
  pub member : has d
  pub least : (e : Entry) → has e → IsNoLater d e

-- the least of these, if there are any
abbrev pub IsLeastOf : (Entry → Type 0) → Option Entry → Type 0
IsLeastOf has None = (e : Entry) → has e → ⊥
IsLeastOf has (Some d) = IsLeast has d

-- ---- what changes

-- an entry was added to these, and nothing else
pub record AddsTo (old new : Entry → Type 0) (d : Entry) : Type 0 where
  pub kept : (e : Entry) → old e → new e
  pub here : new d
  pub from : (e : Entry) → new e → old e ⊎ (e ≡ d)

-- this was taken from these, and nothing else
pub record TakesFrom (old new : Entry → Type 0) (d : Entry) : Type 0 where
  pub kept : (e : Entry) → old e → new e ⊎ (e ≡ d)
  pub from : (e : Entry) → new e → old e

-- all that the table has are left, and others may have been dropped
pub record Sweeps (entries : List Entry) (old new : Entry → Type 0) : Type 0 where
  pub kept : (e : Entry) → is_current entries e ≡ true → old e → new e
  pub from : (e : Entry) → new e → old e

abbrev pub Adds : List Entry → List Entry → Entry → Type 0
Adds old new d = AddsTo (among old) (among new) d

-- the first was taken out of a list, if there was one
abbrev pub Takes : List Entry → List Entry → Option Entry → Type 0
Takes old new None = old ≡ new
Takes old new (Some d) = TakesFrom (among old) (among new) d × (length old ≡ length new + 1)

abbrev pub IsSwept : List Entry → List Entry → List Entry → Type 0
IsSwept entries old new = Sweeps entries (among old) (among new)

-- ---- parts

abbrev pub comes_first : Option Entry → Option Entry → Bool
comes_first None other = false
comes_first (Some d) other = precedes d other

-- the earlier of two, or the one that there is
abbrev pub first_of_both : Option Entry → Option Entry → Option Entry
first_of_both one other = if comes_first one other then one else other

abbrev pub part_at : List (List Entry) → ℕ → List Entry
part_at parts k = slice_index_or parts k []

-- an entry is in one of the parts
abbrev pub Within : List (List Entry) → Entry → Type 0
Within parts e = (k : ℕ) × Contains (part_at parts k) e

-- an entry is in one of the first so many parts
abbrev pub WithinBelow : List (List Entry) → ℕ → Entry → Type 0
WithinBelow parts n e = (k : ℕ) × (k < n) × Contains (part_at parts k) e

-- how many entries all parts have
abbrev pub size_of : List (List Entry) → ℕ
size_of parts = sum_by (λ (part : List Entry). length part) parts

-- parts, the least of all their entries, and how many more can be put
pub record OrderState : Type 0 where
  pub parts : List (List Entry)
  pub first : Option Entry
  pub room : ℕ

-- the least is the first of a part
pub record IsOrdered (parts : List (List Entry)) (first : Option Entry) (at : ℕ) : Type 0 where
  pub there : at < length parts
  pub is_first : first ≡ first_of (part_at parts at)
  pub least : IsLeastOf (Within parts) first

-- an entry was taken out
pub record TakesLeast (old new : List (List Entry)) (d : Entry) : Type 0 where
  pub taken : TakesFrom (Within old) (Within new) d
  pub fewer : size_of old ≡ size_of new + 1
