-- What the code keeps of a stretch that passes: what an observer keeps and tells of an act, by what it kept before and
-- the world after the act. Contracts of private functions alone cite this, but for `WatchState` and `unless`.
use Rattle.std.specs.Prelude.{◌≡◌, ◌⊎◌, ⊤, ℕ, ◌+◌, ◌==◌, ◌&&◌, ◌||◌, nat_le, nat_lt, not, Bool, true, false, if◌then◌else◌, List, [], ◌∷◌, ◌++◌, length, map, Option, Some, None, is_none, is_some, slice_get, slice_set, ℤ, unsigned_abs}
use Rattle.std.specs.List.{range_with_len}
use Rattle.std.specs.Option.{option_map, option_map_or}
use Rattle.gptp_model.specs.Advancing.{Told}
use Rattle.gptp_model.specs.World.{WorldState}
use Rattle.gptp_model.specs.declared.done.Done.{Done}
use Rattle.gptp_model.specs.declared.done.Done.TheVariants.{Heard, Quiet}
use Rattle.gptp_graph.specs.Order.{IsRising}
use Rattle.gptp_scenario.specs.declared.change.Act.{Act}
use Rattle.gptp_scenario.specs.declared.change.Act.TheVariants.{Change as Changing, Deliver, Expire}
use Rattle.gptp_system.specs.State.{SystemState}
use Rattle.gptp_timeline.specs.Changes.{change_lines}
use Rattle.gptp_timeline.specs.EventLine.{event_line}
use Rattle.gptp_timeline.specs.Compared.{compared_by_expiry, compared_by_frame, left_by}
use Rattle.gptp_timeline.specs.Leaving.{LeavesAll}
use Rattle.gptp_timeline.specs.Measures.{better_if, ended_by, last_if, one_at, since_after}
use Rattle.gptp_timeline.specs.Readings.{new_reading}
use Rattle.gptp_timeline.specs.Receipts.{offset_error, offset_line, received_by}
use Rattle.gptp_timeline.specs.Shown.{is_expecting, live_system, same_choice, same_roles}
use Rattle.gptp_timeline.specs.Stretch.{same_known}
use Rattle.gptp_timeline.specs.Aside.{AsideState}
use Rattle.gptp_timeline.specs.TimeWatch.{TimeState, times_after, times_begun, times_lines}
use Rattle.gptp_timeline.specs.declared.compared.Compared.{Compared}
use Rattle.gptp_timeline.specs.declared.compared.Compared.TheVariants.{All}
use Rattle.gptp_timeline.specs.declared.measures.Greatest.{Greatest}
use Rattle.gptp_timeline.specs.declared.measures.Measures.{Measures}
use Rattle.gptp_timeline.specs.declared.shown.Shown.{Shown}
use Rattle.gptp_timeline.specs.declared.watched.ActView.{ActView}
use Rattle.gptp_timeline.specs.declared.watched.Watched.{Watched}

-- ---- one system

abbrev pub since_behind : ActView → Watched → Option Shown → Option ℕ
since_behind look x after = since_after look.at look.received (is_expecting x.shown) (is_expecting after) x.since

abbrev pub wait_behind : ActView → Watched → Option Shown → Option Greatest
wait_behind look x after =
    option_map (one_at x.clock) (ended_by look.at look.by_event look.received (is_expecting after) x.since)

-- none is received by an act, and it goes on to expect time where it waits
abbrev pub waits_on : ActView → Watched → Bool
waits_on look x = not look.received && (is_none x.since || is_expecting x.shown)

abbrev pub measures_after : ActView → Watched → Option Shown → Measures → Measures
measures_after look x after m = record {
  choice = last_if (same_choice x.shown after) look.at m.choice;
  roles = last_if (same_roles x.shown after) look.at m.roles;
  offsets = last_if (same_known x.shown after) look.at m.offsets;
  holdover = better_if m.holdover (wait_behind look x after);
  error = m.error;
}

abbrev pub watched_after : ActView → Option Shown → Watched → Watched
watched_after look after x = record x { shown = after; since = since_behind look x after }

-- the greater of two amounts, where the second counts
abbrev pub greater : Option ℕ → ℕ → Option ℕ
greater None amount = Some amount
greater (Some most) amount = if nat_lt most amount then Some amount else Some most

abbrev pub error_after : Bool → Option ℕ → Option ℕ → Option ℕ
error_after counts most None = most
error_after counts most (Some amount) = if counts then greater most amount else most

-- ---- all that is kept

pub record WatchState : Type 0 where
  pub summary : Bool
  pub offsets : Bool
  pub exact_from : Option ℕ
  pub systems : List Watched
  pub measures : Measures
  pub times : Option TimeState

-- as a document begins
abbrev pub unseen : ℕ → Watched
unseen clock = record { clock = clock; shown = None; since = None; error = None }

abbrev pub nothing : Measures
nothing = record { choice = None; roles = None; offsets = None; holdover = None; error = None }

-- a stretch begins
abbrev pub without_error : Watched → Watched
without_error x = record x { error = None }

abbrev pub watch_begun : ℕ → Option ℕ → ℕ → WatchState → WatchState
watch_begun at exact_from events o = record o {
  exact_from = exact_from;
  systems = map without_error o.systems;
  measures = nothing;
  times = option_map (times_begun at exact_from events) o.times;
}

-- others are set aside
abbrev pub times_aside : AsideState → TimeState → TimeState
times_aside aside times = record times { aside = aside }

abbrev pub with_aside : AsideState → WatchState → WatchState
with_aside aside o = record o { times = option_map (times_aside aside) o.times }

-- ---- systems that are looked at

-- lines, unless they are left out
abbrev pub unless : Bool → List (List ℕ) → List (List ℕ)
unless true lines = []
unless false lines = lines

-- the system at a place is left so by an act
abbrev pub taken : ActView → ℕ → Watched → Option Shown → WatchState → WatchState
taken look place x after o = record o {
  systems = slice_set o.systems place (watched_after look after x);
  measures = measures_after look x after o.measures;
}

-- what an act left of a system
abbrev pub left_at : ActView → WorldState → Watched → Option Shown
left_at look w x = left_by look.compared (live_system x.clock w) x.shown

-- the system at a place is looked at, if there is one
abbrev pub see_one : ActView → WorldState → ℕ → Option Watched → WatchState → WatchState
see_one look w place None o = o
see_one look w place (Some x) o = taken look place x (left_at look w x) o

abbrev pub see_at : ActView → WorldState → ℕ → WatchState → WatchState
see_at look w place o = see_one look w place (slice_get o.systems place) o

abbrev pub one_lines : ActView → WorldState → Option Watched → List (List ℕ)
one_lines look w None = []
one_lines look w (Some x) = change_lines look.at x.clock x.shown (left_at look w x)

abbrev pub lines_at : ActView → WorldState → ℕ → WatchState → List (List ℕ)
lines_at look w place o = unless o.summary (one_lines look w (slice_get o.systems place))

-- several are, one after another
abbrev pub see_each : ActView → WorldState → List ℕ → WatchState → WatchState
see_each look w [] o = o
see_each look w (place ∷ places) o = see_each look w places (see_at look w place o)

abbrev pub lines_each : ActView → WorldState → List ℕ → WatchState → List (List ℕ)
lines_each look w [] o = []
lines_each look w (place ∷ places) o = lines_at look w place o ++ lines_each look w places (see_at look w place o)

abbrev pub places_of : WatchState → List ℕ
places_of o = range_with_len 0 (length o.systems)

-- ---- an event

abbrev pub event_look : ℕ → ActView
event_look at = record { at = at; by_event = true; received = false; compared = All }

abbrev pub see_all : ActView → WorldState → WatchState → WatchState
see_all look w o = see_each look w (places_of o) o

abbrev pub lines_all : ActView → WorldState → WatchState → List (List ℕ)
lines_all look w o = lines_each look w (places_of o) o

-- ---- a delivery or an expiry

abbrev pub own_look : ℕ → Bool → Compared → ActView
own_look at received compared =
    record { at = at; by_event = false; received = received; compared = compared }

-- the receipt of the system at a place, with its error, is measured
abbrev pub counts_from : Option ℕ → ℕ → Bool
counts_from from at = option_map_or (λ time. nat_le time at) from false

abbrev pub with_error : ℕ → ℕ → Watched → Option ℤ → WatchState → WatchState
with_error at place x error o = record o {
  systems = slice_set o.systems place (record x {
    error = error_after (counts_from o.exact_from at) x.error (option_map unsigned_abs error);
  });
  measures = record o.measures {
    error = better_if o.measures.error (option_map (λ e. one_at x.clock (unsigned_abs e)) error);
  };
}

abbrev pub take_error : ℕ → ℕ → Option Watched → Option ℤ → WatchState → WatchState
take_error at place None error o = o
take_error at place (Some x) error o = with_error at place x error o

-- the receipt of a live system
abbrev pub see_receipt_of : ℕ → WorldState → ℕ → Option SystemState → WatchState → WatchState
see_receipt_of at w place None o = o
see_receipt_of at w place (Some s) o = take_error at place (slice_get o.systems place) (offset_error at s w) o

abbrev pub receipt_lines_of : ℕ → WorldState → ℕ → Option SystemState → List (List ℕ)
receipt_lines_of at w clock None = []
receipt_lines_of at w clock (Some s) = offset_line at clock s.offset (offset_error at s w) ∷ []

abbrev pub see_receipt : ℕ → WorldState → ℕ → ℕ → WatchState → WatchState
see_receipt at w clock place o = see_receipt_of at w place (live_system clock w) o

abbrev pub receipt_lines : ℕ → WorldState → ℕ → WatchState → List (List ℕ)
receipt_lines at w clock o = unless (not o.offsets) (receipt_lines_of at w clock (live_system clock w))

-- where time was received
abbrev pub see_receipt_if : Bool → ℕ → WorldState → ℕ → ℕ → WatchState → WatchState
see_receipt_if received at w clock place o = if received then see_receipt at w clock place o else o

abbrev pub receipt_lines_if : Bool → ℕ → WorldState → ℕ → WatchState → List (List ℕ)
receipt_lines_if received at w clock o = if received then receipt_lines at w clock o else []

-- the place of a clock
abbrev pub place_from : ℕ → ℕ → List Watched → Option ℕ
place_from clock place [] = None
place_from clock place (x ∷ xs) = if x.clock == clock then Some place else place_from clock (place + 1) xs

abbrev pub place_of : ℕ → WatchState → Option ℕ
place_of clock o = place_from clock 0 o.systems

-- the system with a clock is looked at, and its receipt
abbrev pub see_placed : ℕ → WorldState → ℕ → Bool → Compared → Option ℕ → WatchState → WatchState
see_placed at w clock received compared None o = o
see_placed at w clock received compared (Some place) o =
    see_receipt_if received at w clock place (see_at (own_look at received compared) w place o)

abbrev pub placed_lines : ℕ → WorldState → ℕ → Bool → Compared → Option ℕ → WatchState → List (List ℕ)
placed_lines at w clock received compared None o = []
placed_lines at w clock received compared (Some place) o =
    lines_at (own_look at received compared) w place o ++ receipt_lines_if received at w clock o

abbrev pub see_system : ℕ → WorldState → ℕ → Bool → Compared → WatchState → WatchState
see_system at w clock received compared o = see_placed at w clock received compared (place_of clock o) o

abbrev pub watched_lines : ℕ → WorldState → ℕ → Bool → Compared → WatchState → List (List ℕ)
watched_lines at w clock received compared o = placed_lines at w clock received compared (place_of clock o) o

-- ---- an act

abbrev pub see_delivery : ℕ → WorldState → Done → WatchState → WatchState
see_delivery at w Quiet o = o
see_delivery at w (Heard clock port answer frame) o =
    see_system at w clock (is_some (received_by (Heard clock port answer frame))) (compared_by_frame port frame.items) o

abbrev pub delivery_lines : ℕ → WorldState → Done → WatchState → List (List ℕ)
delivery_lines at w Quiet o = []
delivery_lines at w (Heard clock port answer frame) o =
    watched_lines at w clock (is_some (received_by (Heard clock port answer frame)))
    (compared_by_frame port frame.items) o

abbrev pub see_act : ℕ → Act → Done → WorldState → WatchState → WatchState
see_act at (Deliver link direction) done w o = see_delivery at w done o
see_act at (Expire clock timer) done w o = see_system at w clock false (compared_by_expiry timer) o
see_act at (Changing change) done w o = see_all (event_look at) w o

abbrev pub seen_lines : ℕ → Act → Done → WorldState → WatchState → List (List ℕ)
seen_lines at (Deliver link direction) done w o = delivery_lines at w done o
seen_lines at (Expire clock timer) done w o = watched_lines at w clock false (compared_by_expiry timer) o
seen_lines at (Changing change) done w o =
    unless o.summary (event_line at change ∷ []) ++ lines_all (event_look at) w o

-- what systems read, where that is asked
abbrev pub see_times : ℕ → Act → Done → WorldState → WatchState → WatchState
see_times at act done w o = record o { times = option_map (times_after at act done w) o.times }

abbrev pub times_lines_if : ℕ → Act → Done → WorldState → Option TimeState → List (List ℕ)
times_lines_if at act done w None = []
times_lines_if at act done w (Some times) = times_lines at act done w times

-- it is looked at what an act left
abbrev pub TellsSeen : Told → WorldState → WatchState → WatchState → List (List ℕ) → Type 0
TellsSeen told w o o_after lines =
    (o_after ≡ see_times told.timed.at told.timed.act told.done w
    (see_act told.timed.at told.timed.act told.done w o))
    × (lines ≡ seen_lines told.timed.at told.timed.act told.done w o
    ++ times_lines_if told.timed.at told.timed.act told.done w o.times)

-- no system gets a reading by an act, as far as it is kept what systems read
abbrev pub GetsNone : Act → Done → WorldState → Option TimeState → Type 0
GetsNone act done w None = ⊤
GetsNone act done w (Some times) = new_reading act done w times.systems ≡ None

-- An act is passed over: it leaves all that is shown as it was, and no system gets a reading by it.
pub record PassesOver (act : Act) (done : Done) (w : WorldState) (o : WatchState) : Type 0 where
  pub leaves : LeavesAll act done
  pub gets_none : GetsNone act done w o.times

abbrev pub TellsNone : Told → WorldState → WatchState → WatchState → List (List ℕ) → Type 0
TellsNone told w o o_after lines = PassesOver told.timed.act told.done w o × (o_after ≡ o) × (lines ≡ [])

-- what the observer keeps and tells of an act
abbrev pub tells_changes : Told → WorldState → WatchState → WatchState → List (List ℕ) → Type 0
tells_changes told w o o_after lines = TellsSeen told w o o_after lines ⊎ TellsNone told w o o_after lines

-- clocks rise
abbrev pub WatchedRise : List Watched → Type 0
WatchedRise systems = IsRising (map (λ (x : Watched). x.clock) systems)
