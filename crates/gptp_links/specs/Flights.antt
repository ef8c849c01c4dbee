-- Frames in flight that a slab holds: those of one direction are a chain, each leads to the one that was sent next.
use Rattle.std.specs.Prelude.{◌≡◌, ◌≢◌, ℕ, zero, suc, ◌+◌, ◌-◌, ◌<◌, ◌≤◌, ◌==◌, ⊤, List, [], ◌∷◌, Option, Some, None, IsSome, if◌then◌else◌, map}
use Rattle.std.specs.List.{AllByRecursion}
use Rattle.std.specs.Option.{option_map, option_map_or}
use Rattle.slab.specs.Slab.{Slab, get, slab_len}
use Rattle.gptp_links.specs.Queue.{Frame, Queue, frame, newest_due, AreDueInOrder}
use Rattle.gptp_links.specs.declared.flight.Key.{Key}
use Rattle.gptp_links.specs.declared.flight.Flight.{Flight}
use Rattle.gptp_links.specs.declared.lane.Lane.{Lane}

abbrev pub flight_key : ℕ → Key
flight_key place = record { place = place }

abbrev pub with_next_flight : Key → Flight → Flight
with_next_flight next f = record f { next = next }

-- the same frame, due at the same time, that leads to the same
pub record IsSameFlight (f g : Flight) : Type 0 where
  pub due : g.due ≡ f.due
  pub octets : g.octets.items ≡ f.octets.items
  pub next : g.next ≡ f.next

-- no key stands twice
abbrev pub Differ : List ℕ → Type 0
Differ [] = ⊤
Differ (key ∷ keys) = AllByRecursion (λ other. other ≢ key) keys × Differ keys

-- the last of these keys, if there is one, is this
abbrev pub EndsWith : ℕ → List ℕ → Type 0
EndsWith tail [] = ⊤
EndsWith tail (key ∷ []) = key ≡ tail
EndsWith tail (key ∷ (other ∷ keys)) = EndsWith tail (other ∷ keys)

-- a direction with room for so many frames, and none
abbrev pub no_flights : ℕ → Lane
no_flights limit = record {
  head = flight_key 0;
  tail = flight_key 0;
  count = 0;
  limit = limit;
  first_due = 0;
  last_due = 0;
}

abbrev pub with_limit : ℕ → Lane → Lane
with_limit limit lane = record lane { limit = limit }

-- with a frame more, the last, that is due then
abbrev pub with_last_flight : Key → ℕ → Lane → Lane
with_last_flight key due lane = record {
  head = if lane.count == 0 then key else lane.head;
  tail = key;
  count = lane.count + 1;
  limit = lane.limit;
  first_due = if lane.count == 0 then due else lane.first_due;
  last_due = due;
}

-- when the first frame is due, if there is one
abbrev pub due_of_first : Lane → Option ℕ
due_of_first lane = if lane.count == 0 then None else Some lane.first_due

module _ (flights : ℕ → Option Flight) where
  -- the frame at a key
  abbrev pub frame_at : ℕ → Frame
  frame_at key = option_map_or (λ (f : Flight). frame f.due f.octets.items) (flights key) (frame 0 [])

  abbrev pub due_at : ℕ → ℕ
  due_at key = (frame_at key).due

  -- the key to which the frame at a key leads
  abbrev pub next_at : ℕ → ℕ
  next_at key = option_map_or (λ (f : Flight). f.next.place) (flights key) 0

  -- this many keys, the first of which is this one; each other is the one to which the key before it leads
  abbrev pub chain : ℕ → ℕ → List ℕ
  chain zero key = []
  chain (suc n) key = key ∷ chain n (next_at key)

  abbrev pub keys_of : Lane → List ℕ
  keys_of lane = chain lane.count lane.head.place

  abbrev pub frames_of : List ℕ → List Frame
  frames_of keys = map frame_at keys

  -- the frames in flight in a direction
  abbrev pub frames_in : Lane → List Frame
  frames_in lane = frames_of (keys_of lane)

  -- those, and how many more can be sent
  abbrev pub queue_of : Lane → Queue
  queue_of lane = record { frames = frames_in lane; room = lane.limit - lane.count }

  -- without the first frame, that led to this one
  abbrev pub without_first_flight : Key → Lane → Lane
  without_first_flight next lane = record lane {
    head = next;
    count = lane.count - 1;
    first_due = if lane.count == 1 then 0 else due_at next.place;
    last_due = if lane.count == 1 then 0 else lane.last_due;
  }

  -- Each key of a direction has a frame and they are different, the frames are due in order, and what is kept of the
  -- first and the last is right.
  pub record DirectionIsChained (lane : Lane) : Type 0 where
    pub there : AllByRecursion (λ key. IsSome (flights key)) (keys_of lane)
    pub differ : Differ (keys_of lane)
    pub due_in_order : AreDueInOrder (frames_in lane)
    pub tail : EndsWith lane.tail.place (keys_of lane)
    pub first_due : 0 < lane.count → lane.first_due ≡ due_at lane.head.place
    pub last_due : lane.last_due ≡ newest_due (frames_in lane)

  -- no frame of two directions has the same key
  pub record AreBeside (one other : Lane) : Type 0 where
    pub chained : DirectionIsChained one
    pub other_chained : DirectionIsChained other
    pub apart : AllByRecursion (λ key. AllByRecursion (λ k. k ≢ key) (keys_of one)) (keys_of other)

-- the number of frames of the slab, and its capacity, are as they were
pub record SameRoom (old new : Slab Flight) : Type 0 where
  pub len : slab_len new ≡ slab_len old
  pub capacity : new.capacity ≡ old.capacity

-- the last of a direction leads to this key, and nothing else was changed
pub record JoinsFlight (old new : ℕ → Option Flight) (lane : Lane) (key : Key) : Type 0 where
  pub joined : 0 < lane.count → new lane.tail.place ≡ option_map (with_next_flight key) (old lane.tail.place)
  pub others : (k : ℕ) → (0 < lane.count → k ≢ lane.tail.place) → new k ≡ old k

-- Of one direction frames came or went, as many as the slab has more or fewer; any other is as it was.
pub record ChangesOneDirection (old new : Slab Flight) (before after : Lane) : Type 0 where
  pub beside : (other : Lane) → AreBeside (get old) before other → AreBeside (get new) after other
  pub frames : (other : Lane) → AreBeside (get old) before other → frames_in (get new) other ≡ frames_in (get old) other
  pub len : slab_len new + before.count ≡ slab_len old + after.count
  pub capacity : new.capacity ≡ old.capacity
  pub limit : after.limit ≡ before.limit

-- Both directions of a link are chains through one slab, which holds their frames alone and has room for as many as
-- both can hold.
pub record FlightsAreLinked (flights : Slab Flight) (from_a from_b : Lane) : Type 0 where
  pub beside : AreBeside (get flights) from_a from_b
  pub alone : slab_len flights ≡ from_a.count + from_b.count
  pub few_from_a : from_a.count ≤ from_a.limit
  pub few_from_b : from_b.count ≤ from_b.limit
  pub room : from_a.limit + from_b.limit ≤ flights.capacity
