-- What is pending in a world, by place in a queue: each timer has a place of its own, and an arrival one that was free.
use Rattle.std.specs.Prelude.{◌≡◌, ◌≢◌, ◌⊎◌, ℕ, ◌+◌, ◌*◌, ◌<◌, ◌≤◌, ◌==◌, not, List, [], ◌∷◌, ◌++◌, map, length, slice_index_or}
use Rattle.std.specs.List.{AllByRecursion, filter}
use Rattle.gptp_chain.specs.Queues.{QueuesState, queue_at}
use Rattle.gptp_links.specs.Flights.{Differ}
use Rattle.gptp_links.specs.declared.link.Direction.{Direction}
use Rattle.gptp_links.specs.declared.link.Direction.TheVariants.{FromA}
use Rattle.gptp_model.specs.declared.item.Item.{Item}
use Rattle.gptp_model.specs.declared.item.Item.TheVariants.{Expiry, Arrival}
use Rattle.gptp_model.specs.Item.{same_item, timer_kind, timer_port}
use Rattle.gptp_model.specs.Pending.{Entry, pending_entry, IsKnownItem, arrival_place}
use Rattle.gptp_queue.specs.Entry.{Entry as QueueEntry}
use Rattle.gptp_queue.specs.Waiting.{WaitingState}
use Rattle.gptp_setup.specs.declared.timer.Timer.{Timer}
use Rattle.gptp_traffic.specs.declared.pending_index.TheConstants.{KIND_SPAN, TIMER_KINDS, TIMER_SPAN}

-- ---- items at places

-- an item that is due at a time, in ns, and its place in the queue
pub record PlacedItem : Type 0 where
  pub time : ℕ
  pub place : ℕ
  pub item : Item

abbrev pub placed : ℕ → ℕ → Item → PlacedItem
placed time place item = record { time = time; place = place; item = item }

abbrev pub no_item : Item
no_item = Arrival 0 FromA

abbrev pub item_at : List Item → ℕ → Item
item_at items place = slice_index_or items place no_item

-- the entries of a queue, each with the item at its place
abbrev pub placed_items : List Item → List QueueEntry → List PlacedItem
placed_items items = map (λ (e : QueueEntry). placed e.time e.place (item_at items e.place))

-- the same without places
abbrev pub plain_items : List PlacedItem → List Entry
plain_items = map (λ (p : PlacedItem). pending_entry p.time p.item)

-- the items but the one at this place
abbrev pub without_placed : ℕ → List PlacedItem → List PlacedItem
without_placed place = filter (λ (p : PlacedItem). not (p.place == place))

abbrev pub items_like : Item → List PlacedItem → List PlacedItem
items_like item = filter (λ (p : PlacedItem). same_item item p.item)

abbrev pub place_of : PlacedItem → ℕ
place_of p = p.place

-- nothing is due at a place
abbrev pub IsVacant : List PlacedItem → ℕ → Type 0
IsVacant ps place = AllByRecursion (λ (p : PlacedItem). p.place ≢ place) ps

-- ---- places

-- where a timer is; each kind of a system has a place for itself and for each port
abbrev pub timer_place : ℕ → Timer → ℕ
timer_place place timer = (place * TIMER_KINDS + timer_kind timer) * KIND_SPAN + timer_port timer

-- a timer is at its place, and an arrival behind those of all timers
abbrev pub IsPlaced : ℕ → Item → ℕ → Type 0
IsPlaced timers (Expiry place timer) at = at ≡ timer_place place timer
IsPlaced timers (Arrival link direction) at = timers ≤ at

-- some places of arrivals, at which nothing is due
pub record AreFree (timers places : ℕ) (ps : List PlacedItem) (free : List ℕ) : Type 0 where
  pub arrivals : AllByRecursion (λ place. timers ≤ place) free
  pub within : AllByRecursion (λ place. place < places) free
  pub vacant : AllByRecursion (IsVacant ps) free
  pub differ : Differ free

-- ---- what is pending

-- What is pending is of systems and links that there are, each item at its place. The places of the arrivals of each
-- direction of a link are listed in order of putting.
pub record PendingIsIndexed (systems links : ℕ) (pending_index : QueuesState ℕ) (places : ℕ) (free : List ℕ)
    (ps : List PlacedItem) : Type 0 where
  pub few_systems : systems ≤ 512
  pub few_links : links ≤ 2048
  pub timers : systems * TIMER_SPAN ≤ places
  pub queues_len : length pending_index.queues ≡ links * 2
  pub known : AllByRecursion (λ (p : PlacedItem). IsKnownItem systems links p.item) ps
  pub placed : AllByRecursion (λ (p : PlacedItem). IsPlaced (systems * TIMER_SPAN) p.item p.place) ps
  pub queues : (link : ℕ) (direction : Direction) → map place_of (items_like (Arrival link direction) ps)
      ≡ queue_at (arrival_place link direction) pending_index
  pub are_free : AreFree (systems * TIMER_SPAN) places ps free

-- there is room for so many more, and each place of the queue can have an item
pub record HasSpare (spare : ℕ) (queue : WaitingState) (pending_index : QueuesState ℕ) (items : List Item)
    (free : List ℕ) : Type 0 where
  pub in_queue : spare ≤ queue.room
  pub in_index : spare ≤ pending_index.room
  pub in_free : spare ≤ length free
  pub each_place : queue.places ≤ length items

-- places for arrivals were made, at which nothing is due, and nothing else changed
pub record MakesFree (old new : WaitingState) (table more : List Item) (free longer : List ℕ) : Type 0 where
  pub queue : new ≡ record old { places = new.places }
  pub places : old.places ≤ new.places
  pub each_place : new.places ≤ length more
  pub kept : placed_items more old.entries ≡ placed_items table old.entries
  pub len : length free ≤ length longer
  pub are_free : (timers : ℕ) → timers ≤ old.places → AreFree timers old.places (placed_items table old.entries) free
      → AreFree timers new.places (placed_items table old.entries) longer

-- a place was put behind others, or nothing changed
abbrev pub PutsBack : List ℕ → List ℕ → ℕ → Type 0
PutsBack old new place = (new ≡ old ++ place ∷ []) ⊎ (new ≡ old)
