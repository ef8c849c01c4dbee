-- Frames in flight by lane, as their places and as their frames.
use Rattle.std.proofs.Common.{◌≡◌, ℕ, zero, suc, ◌-◌, List, [], ◌∷◌, ◌++◌, drop, length, map, Some, slice_get, slice_set, slice_index_or, refl, sym, ap, ◌∙◌, arith}
use Rattle.std.specs.Option.{option_map, option_map_or}
use Rattle.std.proofs.lemmas.List.{length-map}
use Rattle.gptp_chain.specs.Queues.{QueuesState, queue_at, with_queue_at}
use Rattle.gptp_links.specs.Queue.{Frame, first_frame, frame, newest_due, IsTaken}
use Rattle.gptp_lists.proofs.PlaceLemmas.{map-set}
use Rattle.gptp_traffic.specs.Flight.{FlightState, flight_frame, flight_place, frames_of, places_of}
use Rattle.gptp_traffic.proofs.PlacedLemmas.{map-push}
use Rattle.gptp_traffic.proofs.QueueLemmas.{front_is}

-- ---- queues of which each value is mapped

module _ {X Y : Type 0} (f : X → Y) where
  at-mapped : (xss : List (List X)) (i : ℕ) → slice_index_or (map (map f) xss) i [] ≡ map f (slice_index_or xss i [])
  at-mapped [] i = refl
  at-mapped (xs ∷ xss) zero = refl
  at-mapped (xs ∷ xss) (suc i) = at-mapped xss i

  drop-mapped : (xs : List X) → map f (drop 1 xs) ≡ drop 1 (map f xs)
  drop-mapped [] = refl
  drop-mapped (x ∷ xs) = refl

  -- one more behind the others at a place
  pushed : (xss : List (List X)) (i : ℕ) (x : X)
      → map (map f) (slice_set xss i (slice_index_or xss i [] ++ x ∷ []))
      ≡ slice_set (map (map f) xss) i (slice_index_or (map (map f) xss) i [] ++ f x ∷ [])
  pushed xss i x =
      map-set (map f) xss i (slice_index_or xss i [] ++ x ∷ [])
      ∙ ap (slice_set (map (map f) xss) i)
      (map-push f (slice_index_or xss i []) x ∙ ap (λ ys. ys ++ f x ∷ []) (sym (at-mapped xss i)))

  -- the first at a place is gone
  popped : (xss : List (List X)) (i : ℕ)
      → map (map f) (slice_set xss i (drop 1 (slice_index_or xss i [])))
      ≡ slice_set (map (map f) xss) i (drop 1 (slice_index_or (map (map f) xss) i []))
  popped xss i =
      map-set (map f) xss i (drop 1 (slice_index_or xss i []))
      ∙ ap (slice_set (map (map f) xss) i)
      (drop-mapped (slice_index_or xss i []) ∙ ap (drop 1) (sym (at-mapped xss i)))

-- ---- places

abbrev state : ℕ → List (List ℕ) → QueuesState ℕ
state room queues = record { queues = queues; room = room }

module _ (flights after : QueuesState FlightState) (at lane : ℕ) (same : at ≡ lane) where
  -- a flight was put behind those of a lane
  module _ (flight : FlightState)
      (put : after ≡ with_queue_at at (queue_at at flights ++ flight ∷ []) (flights.room - 1) flights) where
    pub places-put : places_of after
        ≡ with_queue_at lane (queue_at lane (places_of flights) ++ flight.place ∷ []) (flights.room - 1)
        (places_of flights)
    places-put =
        ap places_of put
        ∙ ap (state (flights.room - 1)) (pushed flight_place flights.queues at flight)
        ∙ ap (λ l. with_queue_at l (queue_at l (places_of flights) ++ flight.place ∷ []) (flights.room - 1)
        (places_of flights)) same

    pub frames-put : frames_of after
        ≡ slice_set (frames_of flights) lane
        (slice_index_or (frames_of flights) lane [] ++ frame flight.due flight.octets ∷ [])
    frames-put =
        ap frames_of put
        ∙ pushed flight_frame flights.queues at flight
        ∙ ap (λ l. slice_set (frames_of flights) l
        (slice_index_or (frames_of flights) l [] ++ flight_frame flight ∷ [])) same

  -- the first of a lane was taken, if there was one
  module _ (taken : after ≡ with_queue_at at (drop 1 (queue_at at flights)) after.room flights) where
    pub places-taken : places_of after
        ≡ with_queue_at lane (drop 1 (queue_at lane (places_of flights))) after.room (places_of flights)
    places-taken =
        ap places_of taken
        ∙ ap (state after.room) (popped flight_place flights.queues at)
        ∙ ap (λ l. with_queue_at l (drop 1 (queue_at l (places_of flights))) after.room (places_of flights)) same

    pub frames-taken : frames_of after
        ≡ slice_set (frames_of flights) lane (drop 1 (slice_index_or (frames_of flights) lane []))
    frames-taken =
        ap frames_of taken
        ∙ popped flight_frame flights.queues at
        ∙ ap (λ l. slice_set (frames_of flights) l (drop 1 (slice_index_or (frames_of flights) l []))) same

-- the first of a lane, as a place and as a frame
pub places-first : (flights : QueuesState FlightState) (lane : ℕ) (flight : FlightState) (n : ℕ) → n ≡ flight.place
    → Some flight ≡ slice_get (queue_at lane flights) 0
    → (rest : List ℕ) × (queue_at lane (places_of flights) ≡ n ∷ rest)
places-first flights lane flight n is here =
    let first = front_is (queue_at lane flights) flight here in (
      map flight_place first.0,
      at-mapped flight_place flights.queues lane ∙ ap (map flight_place) first.1
          ∙ ap (λ m. m ∷ map flight_place first.0) (sym is),
    )

pub frames-first : (flights : QueuesState FlightState) (lane : ℕ) (flight : FlightState)
    → Some flight ≡ slice_get (queue_at lane flights) 0
    → IsTaken (slice_index_or (frames_of flights) lane []) flight.octets
    (drop 1 (slice_index_or (frames_of flights) lane []))
frames-first flights lane flight here =
    let first = front_is (queue_at lane flights) flight here in
    let frames : slice_index_or (frames_of flights) lane [] ≡ flight_frame flight ∷ map flight_frame first.0 =
    at-mapped flight_frame flights.queues lane ∙ ap (map flight_frame) first.1 in
    record { due = flight.due; oldest = frames ∙ ap (λ fs. flight_frame flight ∷ fs) (sym (ap (drop 1) frames)) }

-- none
pub places-none : (flights : QueuesState FlightState) (lane : ℕ) → queue_at lane flights ≡ []
    → queue_at lane (places_of flights) ≡ []
places-none flights lane none = at-mapped flight_place flights.queues lane ∙ ap (map flight_place) none

pub frames-none : (flights : QueuesState FlightState) (lane : ℕ) → queue_at lane flights ≡ []
    → slice_index_or (frames_of flights) lane [] ≡ []
frames-none flights lane none = at-mapped flight_frame flights.queues lane ∙ ap (map flight_frame) none

-- ---- room and lanes

pub places-roomy : (flights after : QueuesState FlightState) → after ≡ record flights { room = after.room }
    → places_of after ≡ record (places_of flights) { room = after.room }
places-roomy flights after kept = ap places_of kept

pub frames-roomy : (flights after : QueuesState FlightState) → after ≡ record flights { room = after.room }
    → frames_of after ≡ frames_of flights
frames-roomy flights after kept = ap frames_of kept

pub many-lanes : (flights : QueuesState FlightState) (n : ℕ) → length (places_of flights).queues ≡ n
    → (length flights.queues ≡ n) × (length (frames_of flights) ≡ n)
many-lanes flights n many =
    let queues : length flights.queues ≡ n = sym (length-map flights.queues (map flight_place)) ∙ many in
    (queues, length-map flights.queues (map flight_frame) ∙ queues)

-- ---- the oldest and the newest

abbrev pub due_of : FlightState → ℕ
due_of f = f.due

first-due : (fs : List FlightState)
    → option_map due_of (slice_get fs 0) ≡ option_map (λ (f : Frame). f.due) (first_frame (map flight_frame fs))
first-due [] = refl
first-due (f ∷ fs) = refl

last-due : (fs : List FlightState)
    → option_map_or due_of (slice_get fs (length fs - 1)) 0 ≡ newest_due (map flight_frame fs)
last-due [] = refl
last-due (f ∷ []) = refl
last-due (f ∷ (g ∷ fs)) =
    let last : length (f ∷ (g ∷ fs)) - 1 ≡ suc (length (g ∷ fs) - 1) = omega arith in
    ap (λ n. option_map_or due_of (slice_get (f ∷ (g ∷ fs)) n) 0) last ∙ last-due (g ∷ fs)

pub first-due_at : (flights : QueuesState FlightState) (lane : ℕ)
    → option_map due_of (slice_get (queue_at lane flights) 0)
    ≡ option_map (λ (f : Frame). f.due) (first_frame (slice_index_or (frames_of flights) lane []))
first-due_at flights lane =
    first-due (queue_at lane flights)
    ∙ ap (λ fs. option_map (λ (f : Frame). f.due) (first_frame fs))
    (sym (at-mapped flight_frame flights.queues lane))

pub last-due_at : (flights : QueuesState FlightState) (lane : ℕ)
    → option_map_or due_of (slice_get (queue_at lane flights) (length (queue_at lane flights) - 1)) 0
    ≡ newest_due (slice_index_or (frames_of flights) lane [])
last-due_at flights lane =
    last-due (queue_at lane flights) ∙ ap newest_due (sym (at-mapped flight_frame flights.queues lane))
