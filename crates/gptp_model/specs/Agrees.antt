-- That what is pending in a world agrees with the state of its systems and links.
use Rattle.std.specs.Prelude.{◌≡◌, ◌≢◌, ◌⊎◌, ℕ, List, [], map, length, Some, slice_get}
use Rattle.std.specs.Option.{option_map_or}
use Rattle.gptp_lists.specs.Members.{In}
use Rattle.gptp_links.specs.declared.link.Direction.{Direction}
use Rattle.gptp_links.specs.Queue.{Frame}
use Rattle.gptp_system.specs.declared.port.Port.{Port}
use Rattle.gptp_setup.specs.declared.timer.Timer.{Timer}
use Rattle.gptp_model.specs.declared.item.Item.{Item}
use Rattle.gptp_model.specs.declared.item.Item.TheVariants.{Expiry, Arrival}
use Rattle.gptp_model.specs.declared.station.Station.{Station}
use Rattle.gptp_model.specs.Pending.{Entry, times_of_item, without_first_entry, timer_time}
use Rattle.gptp_model.specs.World.{WorldState, world_queue, timers_from, station_due}

-- the times at which an item of a world should be pending: a timer's due time where it runs;
-- the due times of the frames in flight
abbrev pub expected : WorldState → Item → List ℕ
expected w (Expiry place timer) =
    option_map_or (λ station. timer_time (station_due timer station)) (slice_get w.stations place) []
expected w (Arrival link direction) =
    option_map_or (λ channel. map (λ (f : Frame). f.due) (world_queue direction channel))
    (slice_get w.net.channels link) []

-- What is pending agrees with the state: each item is pending at just those times, in order of putting.
abbrev pub Agrees : WorldState → Type 0
Agrees w = (item : Item) → times_of_item item w.net.pending ≡ expected w item

-- ---- all but one system

-- each timer is one of a system with these ports, or isn't pending at its place
abbrev pub OnlyItsTimers : ℕ → List Port → List Entry → Type 0
OnlyItsTimers place ports es = (timer : Timer)
    → In timer (timers_from 1 ports) ⊎ (times_of_item (Expiry place timer) es ≡ [])

-- Everything agrees but the timers of the system at a place:
-- those may be pending at any times, as long as they are its own.
pub record AgreesBut (place : ℕ) (w : WorldState) : Type 0 where
  pub arrivals : (link : ℕ) (direction : Direction)
      → times_of_item (Arrival link direction) w.net.pending ≡ expected w (Arrival link direction)
  pub others : (other : ℕ) (timer : Timer) → other ≢ place
      → times_of_item (Expiry other timer) w.net.pending ≡ expected w (Expiry other timer)
  pub only : (station : Station) → slice_get w.stations place ≡ Some station
      → OnlyItsTimers place station.system.ports w.net.pending

-- the first entry of a timer is taken, as it expires
abbrev pub stopped : ℕ → Timer → WorldState → WorldState
stopped place timer w =
    record w { net = record w.net { pending = without_first_entry (Expiry place timer) w.net.pending } }

-- ---- numbers of ports

-- the system at a place has a port for each interval of its setup
abbrev pub HasItsPorts : ℕ → WorldState → Type 0
HasItsPorts place w = (station : Station) → slice_get w.stations place ≡ Some station
    → length station.system.ports ≡ length station.setup.intervals.items

-- every system has a port for each interval of its setup
abbrev pub HaveTheirPorts : WorldState → Type 0
HaveTheirPorts w = (place : ℕ) → HasItsPorts place w
