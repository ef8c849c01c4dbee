-- What is pending agrees with the state, and acts keep it so.
use Rattle.std.proofs.Common.{◌≡◌, ◌≢◌, ◌⊎◌, ℕ, Bool, true, false, List, [], length, Option, Some, None, slice_get, slice_set, refl, sym, ap, subst, ◌∙◌, inl, inr}
use Rattle.gptp_vector.specs.declared.port.PortId.{PortId}
use Rattle.gptp_links.specs.declared.bounds.Bounds.{Bounds}
use Rattle.gptp_links.specs.declared.link.Direction.{Direction}
use Rattle.gptp_links.specs.declared.link.Direction.TheVariants.{FromA, FromB}
use Rattle.gptp_links.specs.Fate.{Draw}
use Rattle.gptp_links.specs.Queue.{Frame}
use Rattle.gptp_roles.specs.Selection.{clock_of}
use Rattle.gptp_setup.specs.declared.timer.Timer.{Timer}
use Rattle.gptp_system.specs.Input.{PortUp, PortDown, Input, Priority}
use Rattle.gptp_system.proofs.StartLemmas.{length-new_ports}
use Rattle.gptp_model.specs.declared.item.Item.TheVariants.{Expiry, Arrival}
use Rattle.gptp_model.specs.declared.station.Station.{Station}
use Rattle.gptp_model.specs.Pending.{Entry, times_of_item, without, timer_time}
use Rattle.gptp_model.specs.World.{Channel, WorldState, world_queue, station_due, port_id}
use Rattle.gptp_model.specs.Changing.{brought_up, failed, fresh, lost, taken_down, with_bounds, with_channel, with_setup, with_station, ComesUpIf, FailsIf, GoesDownIf, RecoversIf, StartsAll, CallsIfLive, InjectsIf}
use Rattle.gptp_model.specs.Agrees.{Agrees, HaveTheirPorts}
use Rattle.gptp_model.proofs.AgreeLemmas.{agrees_but, calls_agree, dues, arriving, only_arrivals, other_way, relinked_agrees, replaced, replaced_agrees, running, OnlyArrivals, agrees_at, delivers_agree, expires_agree, sends_one_agrees}
use Rattle.gptp_model.proofs.PendingLemmas.{times-without_same, times-without_other}
use Rattle.gptp_model.proofs.PortCountLemmas.{calls_have_ports, fresh_has_ports}
use Rattle.gptp_lists.proofs.PlaceLemmas.{get-set_same, get-set_other, same_place}
use Rattle.gptp_scenario.specs.declared.change.Act.{Act}
use Rattle.gptp_model.specs.Acts.{Acts, Changes, set_to}
use Rattle.gptp_scenario.specs.declared.change.Change.{Change}
use Rattle.gptp_scenario.specs.declared.change.Act.TheVariants.{Change as Changing, Deliver, Expire}
use Rattle.gptp_model.specs.declared.done.Done.{Done}
use Rattle.gptp_scenario.specs.declared.change.Change.TheVariants.{Fail, Inject, LinkDown, LinkSet, LinkUp, Priority1, Recover}
use Rattle.gptp_model.proofs.ActsByLemmas.{PortCallsKeep, ends_told, system_starts, systems_start}

-- ---- ports come up or go down

agrees_told : (input : ℕ → Input) → PortCallsKeep ⊥ input Agrees
agrees_told input place port w draws answer w' k of agrees =
    calls_agree place (input port) w draws answer w' k (agrees_but place w agrees)

-- ---- a system fails

fails_agree : (place : ℕ) (station : Station) (w : WorldState) → slice_get w.stations place ≡ Some station
    → Agrees w → Agrees (failed place station w)
fails_agree place station w here agrees =
    replaced_agrees place w station (record station { live = false }) here refl (agrees_but place w agrees)

fails_if_agree : (live : Bool) (place : ℕ) (station : Station) (w : WorldState) (draws : List Draw)
    (w' : WorldState) → slice_get w.stations place ≡ Some station → Agrees w
    → FailsIf live place station w draws w' → Agrees w'
fails_if_agree true place station w draws w' here agrees fails =
    subst Agrees (sym fails.1) (fails_agree place station w here agrees)
fails_if_agree false place station w draws w' here agrees fails = subst Agrees (sym fails.1) agrees

-- ---- a link changes

only_arrivals-on : (place : ℕ) (first second third : List Entry) → OnlyArrivals place first second
    → OnlyArrivals place second third → OnlyArrivals place first third
only_arrivals-on place first second third a b = record {
  timers = λ other timer. b.timers other timer ∙ a.timers other timer;
  arrivals = λ link direction apart. b.arrivals link direction apart ∙ a.arrivals link direction apart;
}

-- nothing of a link that goes down is pending
none_arrives : (place : ℕ) (direction : Direction) (es : List Entry)
    → times_of_item (Arrival place direction) (without (Arrival place FromB) (without (Arrival place FromA) es)) ≡ []
none_arrives place FromA es =
    times-without_other (Arrival place FromB) (Arrival place FromA) (without (Arrival place FromA) es) (other_way place)
    ∙ times-without_same (Arrival place FromA) es
none_arrives place FromB es = times-without_same (Arrival place FromB) (without (Arrival place FromA) es)

none_in_flight : (direction : Direction) (channel : Channel) → dues (world_queue direction (lost channel)) ≡ []
none_in_flight FromA channel = refl
none_in_flight FromB channel = refl

taken_down_agrees : (place : ℕ) (channel : Channel) (w : WorldState) → slice_get w.net.channels place ≡ Some channel
    → Agrees w → Agrees (record w { net = taken_down place channel w.net })
taken_down_agrees place channel w here agrees =
    let es : List Entry = w.net.pending in
    let first : List Entry = without (Arrival place FromA) es in
    let second : List Entry = without (Arrival place FromB) first in
    let only = only_arrivals-on place es first second
    (only_arrivals place FromA es first (λ i differ. times-without_other (Arrival place FromA) i es differ))
    (only_arrivals place FromB first second (λ i differ. times-without_other (Arrival place FromB) i first differ)) in
    relinked_agrees place w channel (lost channel) second here
    (λ direction. none_arrives place direction es ∙ sym (none_in_flight direction channel)) only agrees

-- a link changes, and what is in flight stays
with_channel_agrees : (place : ℕ) (w : WorldState) (old new : Channel) → slice_get w.net.channels place ≡ Some old
    → ((direction : Direction) → world_queue direction new ≡ world_queue direction old) → Agrees w
    → Agrees (record w { net = with_channel place new w.net })
with_channel_agrees place w old new here same agrees =
    relinked_agrees place w old new w.net.pending here
    (λ direction. agrees (Arrival place direction) ∙ ap (arriving direction) here ∙ ap dues (sym (same direction)))
    (record { timers = λ other timer. refl; arrivals = λ link direction apart. refl }) agrees

same_queues : (a b : PortId) (bounds other : Bounds) (up down : Bool) (x y : List Frame) (direction : Direction)
    → world_queue direction (record { a = a; b = b; bounds = bounds; up = up; from_a = x; from_b = y })
    ≡ world_queue direction (record { a = a; b = b; bounds = other; up = down; from_a = x; from_b = y })
same_queues a b bounds other up down x y FromA = refl
same_queues a b bounds other up down x y FromB = refl

brought_up_agrees : (place : ℕ) (channel : Channel) (w : WorldState) → slice_get w.net.channels place ≡ Some channel
    → Agrees w → Agrees (record w { net = brought_up place channel w.net })
brought_up_agrees place channel w here agrees =
    with_channel_agrees place w channel (record channel { up = true }) here
    (same_queues channel.a channel.b channel.bounds channel.bounds true channel.up channel.from_a channel.from_b) agrees

with_bounds_agrees : (bounds : Bounds) (place : ℕ) (channel : Channel) (w : WorldState)
    → slice_get w.net.channels place ≡ Some channel → Agrees w
    → Agrees (record w { net = with_bounds bounds place channel w.net })
with_bounds_agrees bounds place channel w here agrees =
    with_channel_agrees place w channel (record channel { bounds = bounds }) here
    (same_queues channel.a channel.b bounds channel.bounds channel.up channel.up channel.from_a channel.from_b) agrees

goes_down_if_agree : (up : Bool) (place : ℕ) (channel : Channel) (w : WorldState) (draws : List Draw)
    (w' : WorldState) → slice_get w.net.channels place ≡ Some channel → Agrees w
    → GoesDownIf up place channel w draws w' → Agrees w'
goes_down_if_agree false place channel w draws w' here agrees goes = subst Agrees (sym goes.1) agrees
goes_down_if_agree true place channel w draws w' here agrees goes =
    ends_told ⊥ Agrees PortDown (agrees_told PortDown) channel (record w { net = taken_down place channel w.net }) draws
    w' (λ none. absurd none) goes (taken_down_agrees place channel w here agrees)

comes_up_if_agree : (up : Bool) (place : ℕ) (channel : Channel) (w : WorldState) (draws : List Draw)
    (w' : WorldState) → slice_get w.net.channels place ≡ Some channel → Agrees w
    → ComesUpIf up place channel w draws w' → Agrees w'
comes_up_if_agree true place channel w draws w' here agrees comes = subst Agrees (sym comes.1) agrees
comes_up_if_agree false place channel w draws w' here agrees comes =
    ends_told ⊥ Agrees PortUp (agrees_told PortUp) channel (record w { net = brought_up place channel w.net }) draws w'
    (λ none. absurd none) comes (brought_up_agrees place channel w here agrees)

-- ---- a system starts

abbrev AgreesWithPorts : WorldState → Type 0
AgreesWithPorts w = Agrees w × HaveTheirPorts w

with_ports_told : PortCallsKeep ⊥ PortUp AgreesWithPorts
with_ports_told place port w draws answer w' k of is = (
  agrees_told PortUp place port w draws answer w' k of is.0,
  calls_have_ports place (PortUp port) w draws answer w' is.1 k,
)

with_ports_fresh : (place : ℕ) (station : Station) (w : WorldState) → slice_get w.stations place ≡ Some station
    → AgreesWithPorts w → AgreesWithPorts (replaced place (fresh w.time station) w)
with_ports_fresh place station w here is =
    let setup = station.setup in
    let count : length (fresh w.time station).system.ports ≡ length station.system.ports =
    length-new_ports (clock_of setup.identity) setup.params 1 setup.intervals.items ∙ sym (is.1 place station here) in (
      replaced_agrees place w station (fresh w.time station) here count (agrees_but place w is.0),
      fresh_has_ports place station w here is.1,
    )

recovers_agree : (live : Bool) (place : ℕ) (w : WorldState) (draws : List Draw) (w' : WorldState) → HaveTheirPorts w
    → Agrees w → RecoversIf live place w draws w' → Agrees w'
recovers_agree true place w draws w' have agrees recovers = subst Agrees (sym recovers.1) agrees
recovers_agree false place w draws w' have agrees k =
    (system_starts ⊥ AgreesWithPorts with_ports_told with_ports_fresh place w draws w' k (agrees, have)).0

pub starts_all_agree : (places : List ℕ) (w : WorldState) (draws : List Draw) (w' : WorldState) → HaveTheirPorts w
    → Agrees w → StartsAll places w draws w' → Agrees w'
starts_all_agree places w draws w' have agrees k =
    (systems_start ⊥ AgreesWithPorts with_ports_told with_ports_fresh places w draws w' k (agrees, have)).0

-- a world in which no system is live, and nothing in flight or pending
pub silent_agrees : (w : WorldState)
    → ((place : ℕ) (station : Station) → slice_get w.stations place ≡ Some station → station.live ≡ false)
    → ((link : ℕ) (direction : Direction) (channel : Channel) → slice_get w.net.channels link ≡ Some channel
    → world_queue direction channel ≡ [])
    → w.net.pending ≡ [] → Agrees w
silent_agrees w failed idle none (Expiry place timer) = by (slice_get w.stations place) refl
  where
    by : (here : Option Station) → slice_get w.stations place ≡ here
        → times_of_item (Expiry place timer) w.net.pending ≡ running timer (slice_get w.stations place)
    by None is = rw (none, is) refl
    by (Some station) is = let off = failed place station is in rw (none, is, off) refl
silent_agrees w failed idle none (Arrival link direction) = by (slice_get w.net.channels link) refl
  where
    by : (here : Option Channel) → slice_get w.net.channels link ≡ here
        → times_of_item (Arrival link direction) w.net.pending ≡ arriving direction (slice_get w.net.channels link)
    by None is = rw (none, is) refl
    by (Some channel) is = let empty = idle link direction channel is in rw (none, is, empty) refl

-- ---- what a system starts with

-- another stands for a system, with the same timers at the same times
same_due_agrees : (place : ℕ) (w : WorldState) (old new : Station) → slice_get w.stations place ≡ Some old
    → ((timer : Timer) → station_due timer new ≡ station_due timer old) → Agrees w → Agrees (with_station place new w)
same_due_agrees place w old new here same agrees (Arrival link direction) = agrees (Arrival link direction)
same_due_agrees place w old new here same agrees (Expiry other timer) = by (same_place other place)
  where
    by : (other ≡ place) ⊎ (other ≢ place)
        → times_of_item (Expiry other timer) w.net.pending ≡ running timer
        (slice_get (slice_set w.stations place new) other)
    by (inl there) =
        let now_here = get-set_same w.stations place old new here in
        rw (there, now_here) (agrees (Expiry place timer) ∙ ap (running timer) here ∙ ap timer_time (sym (same timer)))
    by (inr apart) =
        agrees (Expiry other timer) ∙ sym (ap (running timer) (get-set_other w.stations place other new apart))

prioritized_agrees : (value place : ℕ) (station : Station) (w : WorldState) (draws : List Draw) (w' : WorldState)
    → slice_get w.stations place ≡ Some station → Agrees w
    → CallsIfLive place (Priority value) (with_station place (with_setup value station) w) draws w' → Agrees w'
prioritized_agrees value place station w draws w' here agrees called = by called
  where
    set : WorldState
    set = with_station place (with_setup value station) w

    ready : Agrees set
    ready = same_due_agrees place w station (with_setup value station) here (λ timer. refl) agrees

    by : CallsIfLive place (Priority value) set draws w' → Agrees w'
    by (inl (answer, calls)) =
        calls_agree place (Priority value) set draws answer w' calls (agrees_but place set ready)
    by (inr (failed, none, is)) = subst Agrees (sym is) ready

-- ---- octets enter a link

injects_agree : (up : Bool) (from : PortId) (octets : List ℕ) (w : WorldState) (draws : List Draw) (w' : WorldState)
    → Agrees w → InjectsIf up from octets w draws w' → Agrees w'
injects_agree false from octets w draws w' agrees (none, is) = subst Agrees (sym is) agrees
injects_agree true from octets w draws w' agrees k =
    subst Agrees (sym k.is) (sends_one_agrees w.time from octets k.draw w k.net agrees k.sent)

-- ---- all acts

changes_agree : (change : Change) (w : WorldState) (draws : List Draw) (w' : WorldState) → HaveTheirPorts w → Agrees w
    → Changes change w draws w' → Agrees w'
changes_agree (LinkDown number port) w draws w' have agrees k =
    goes_down_if_agree k.channel.up k.place k.channel w draws w' k.is.here agrees k.so
changes_agree (LinkUp number port) w draws w' have agrees k =
    comes_up_if_agree k.channel.up k.place k.channel w draws w' k.is.here agrees k.so
changes_agree (LinkSet number port min max loss) w draws w' have agrees k =
    subst Agrees (sym k.so.1)
    (with_bounds_agrees (set_to min max loss k.channel) k.place k.channel w k.is.here agrees)
changes_agree (Fail number) w draws w' have agrees k =
    fails_if_agree k.station.live k.place k.station w draws w' k.is.here agrees k.so
changes_agree (Recover number) w draws w' have agrees k =
    recovers_agree k.station.live k.place w draws w' have agrees k.so
changes_agree (Priority1 number value) w draws w' have agrees k =
    prioritized_agrees value k.place k.station w draws w' k.is.here agrees k.so
changes_agree (Inject number port octets) w draws w' have agrees k =
    injects_agree k.channel.up (port_id number port) octets w draws w' agrees k.so

pub acts_agree : (act : Act) (w : WorldState) (draws : List Draw) (done : Done) (w' : WorldState) → HaveTheirPorts w
    → Agrees w → Acts act w draws done w' → Agrees w'
acts_agree (Deliver link direction) w draws done w' have agrees k =
    delivers_agree link direction k.octets w draws k.answer w' agrees k.delivers
acts_agree (Expire number timer) w draws done w' have agrees k = expires_agree k.1.place timer w draws w' agrees k.1.so
acts_agree (Changing change) w draws done w' have agrees k =
    changes_agree change (record w { last_change = w.time }) draws w' have (agrees_at w w.time w.time agrees) k.1
