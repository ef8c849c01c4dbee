-- What is pending: a plain list in order of putting (profile).
use Rattle.std.specs.Prelude.{◌≡◌, ℕ, ◌+◌, ◌*◌, slice_index_or, ◌==◌, ◌&&◌, ◌<◌, ◌≤◌, not, Bool, true, false, if◌then◌else◌, List, [], ◌∷◌, ◌++◌, map, Option, Some, None}
use Rattle.std.specs.List.{All, filter}
use Rattle.gptp_setup.specs.declared.limits.TheConstants.{MOST_PORTS}
use Rattle.gptp_scheduler.specs.Pending.{AgendaEntry as Numbered}
use Rattle.gptp_links.specs.declared.link.Direction.{Direction}
use Rattle.gptp_links.specs.declared.link.Direction.TheVariants.{FromA, FromB}
use Rattle.gptp_model.specs.declared.item.Item.{Item}
use Rattle.gptp_model.specs.declared.item.Item.TheVariants.{Expiry, Arrival}
use Rattle.gptp_model.specs.Item.{same_item, timer_port}

-- something that is to happen, and when, in ns
pub record Entry : Type 0 where
  pub time : ℕ
  pub item : Item

abbrev pub pending_entry : ℕ → Item → Entry
pending_entry time item = record { time = time; item = item }

-- the entries of an agenda, without the numbers that they have there
abbrev pub plain : List (Numbered Item) → List Entry
plain = map (λ (e : Numbered Item). pending_entry e.time e.item)

-- the times at which an item is pending, in order of putting
abbrev pub times_of_item : Item → List Entry → List ℕ
times_of_item item [] = []
times_of_item item (e ∷ es) = if same_item item e.item then e.time ∷ times_of_item item es else times_of_item item es

-- an item is put after all others
abbrev pub put : ℕ → Item → List Entry → List Entry
put time item es = es ++ pending_entry time item ∷ []

-- all entries of an item are cancelled, or the first of them
abbrev pub without : Item → List Entry → List Entry
without item = filter (λ (e : Entry). not (same_item item e.item))

abbrev pub without_first_entry : Item → List Entry → List Entry
without_first_entry item [] = []
without_first_entry item (e ∷ es) = if same_item item e.item then es else e ∷ without_first_entry item es

-- the time of a timer that runs; none of one that doesn't
abbrev pub timer_time : Option ℕ → List ℕ
timer_time None = []
timer_time (Some time) = time ∷ []

abbrev pub same_times : List ℕ → List ℕ → Bool
same_times [] [] = true
same_times (t ∷ ts) (u ∷ us) = t == u && same_times ts us
same_times _ _ = false

abbrev pub put_if : Item → Option ℕ → List Entry → List Entry
put_if item None es = es
put_if item (Some time) es = put time item es

-- A timer is to run out at this time, or doesn't run: where it is pending so, its entry stays; otherwise that is
-- cancelled, and a new one put.
abbrev pub set_due : Item → Option ℕ → List Entry → List Entry
set_due item due es = if same_times (times_of_item item es) (timer_time due) then es else put_if item due
    (without item es)

-- The next: of all entries one of least time, and of those the first that was put.
pub record IsNext (es : List Entry) (time : ℕ) (item : Item) : Type 0 where
  pub before : List Entry
  pub after : List Entry
  pub is : es ≡ before ++ pending_entry time item ∷ after
  pub later : All (λ (e : Entry). time < e.time) before
  pub not_before : All (λ (e : Entry). time ≤ e.time) after

-- nothing that is pending is due before this time
abbrev pub NothingBefore : ℕ → List Entry → Type 0
NothingBefore time = All (λ (e : Entry). time ≤ e.time)

-- ---- what is pending in a world, and room for more

-- an item of a world of so many systems and links
abbrev pub IsKnownItem : ℕ → ℕ → Item → Type 0
IsKnownItem systems links (Expiry place timer) = (place < systems) × (timer_port timer ≤ MOST_PORTS)
IsKnownItem systems links (Arrival link direction) = link < links

-- How many systems and links there are, what is pending of them, and how many more can be put without being refused:
-- entries in all, and arrivals of each direction of each link, from its end a and from its end b in turn.
pub record PendingState : Type 0 where
  pub systems : ℕ
  pub links : ℕ
  pub entries : List Entry
  pub room : ℕ
  pub rooms : List ℕ

abbrev pub arrival_place : ℕ → Direction → ℕ
arrival_place link FromA = link * 2
arrival_place link FromB = link * 2 + 1

abbrev pub arrival_room : ℕ → Direction → PendingState → ℕ
arrival_room link direction p = slice_index_or p.rooms (arrival_place link direction) 0

-- at least this many more arrivals can be put in each direction of a link
pub record HasArrivalRoom (link more : ℕ) (p : PendingState) : Type 0 where
  pub from_a : more ≤ arrival_room link FromA p
  pub from_b : more ≤ arrival_room link FromB p

-- there is no less room for arrivals than there was
abbrev pub KeepsArrivalRoom : PendingState → PendingState → Type 0
KeepsArrivalRoom old new =
    (link : ℕ) (direction : Direction) → arrival_room link direction old ≤ arrival_room link direction new

-- the room for arrivals is what it was, but for one direction of a link
abbrev pub KeepsOtherRoom : ℕ → Direction → PendingState → PendingState → Type 0
KeepsOtherRoom link direction old new = (other : ℕ) (way : Direction)
    → same_item (Arrival link direction) (Arrival other way) ≡ false
    → arrival_room other way new ≡ arrival_room other way old
