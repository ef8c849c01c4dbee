-- What is pending agrees with the state, and calls, deliveries and expiries keep it so.
use Rattle.std.proofs.Common.{◌≡◌, ◌≢◌, ◌⊎◌, ℕ, Bool, true, false, List, [], ◌∷◌, ◌++◌, map, drop, length, Option, Some, None, slice_get, slice_set, refl, sym, ap, subst, ◌∙◌, inl, inr, arith}
use Rattle.std.specs.Option.{option_map_or}
use Rattle.std.proofs.lemmas.Bool.Decides.{nat_tests}
use Rattle.std.proofs.lemmas.List.{map-append}
use Rattle.gptp_vector.specs.declared.port.PortId.{PortId}
use Rattle.gptp_links.specs.declared.link.Direction.{Direction}
use Rattle.gptp_links.specs.declared.link.Direction.TheVariants.{FromA, FromB}
use Rattle.gptp_links.specs.Fate.{Draw}
use Rattle.gptp_links.specs.Queue.{frame, Frame, due_after}
use Rattle.gptp_system.specs.declared.answer.Answer.{Answer}
use Rattle.gptp_system.specs.declared.sending.Sending.{Sending}
use Rattle.gptp_setup.specs.declared.timer.Timer.{Timer}
use Rattle.gptp_system.specs.Input.{Input, Frame as FrameHeard, Expires as TimerExpires}
use Rattle.gptp_system.specs.State.{SystemState, own}
use Rattle.gptp_system.proofs.FactLemmas.{keeps_length}
use Rattle.gptp_system.proofs.StepLemmas.{steps_sound}
use Rattle.gptp_model.specs.declared.item.Item.{Item}
use Rattle.gptp_model.specs.declared.item.Item.TheVariants.{Expiry, Arrival}
use Rattle.gptp_model.specs.declared.station.Station.{Station}
use Rattle.gptp_model.specs.Item.{same_item}
use Rattle.gptp_model.specs.Pending.{Entry, times_of_item, put, without_first_entry, timer_time}
use Rattle.gptp_model.specs.World.{Channel, Net, WorldState, receiver, world_queue, with_queue, timers_from, station_due}
use Rattle.gptp_model.specs.Sends.{entered, written, SendsAll, SendsOne}
use Rattle.gptp_model.specs.Act.{all_timers, in_state, set_timers, Calls, Delivers, TimerRunsOut, Hears, TakesFrame}
use Rattle.gptp_model.specs.Changing.{with_station}
use Rattle.gptp_model.specs.Agrees.{stopped, Agrees, AgreesBut}
use Rattle.gptp_model.proofs.OwnTimerLemmas.{only_same_count, only_without_first, set_timers_is, station_timer, timers_agree}
use Rattle.gptp_model.proofs.PendingLemmas.{times-put_same, times-put_other, times-without_first_same, times-without_first_other}
use Rattle.gptp_lists.proofs.PlaceLemmas.{get-set_same, get-set_other, same_place}
use Rattle.gptp_model.proofs.TimerLemmas.{item_is, no_timer, other_system, times-set_all_arrival, times-set_all_elsewhere}

-- ---- what is expected

-- when a timer runs out of what stands at a place, if anything does
abbrev pub running : Timer → Option Station → List ℕ
running timer here = option_map_or (λ station. timer_time (station_due timer station)) here []

-- when frames are due
abbrev pub dues : List Frame → List ℕ
dues = map (λ (f : Frame). f.due)

-- when the frames in flight are due, on what stands at a place
abbrev pub arriving : Direction → Option Channel → List ℕ
arriving direction here = option_map_or (λ channel. dues (world_queue direction channel)) here []

-- only the systems and what is between them matter
pub agrees_same : (v w : WorldState) → w.stations ≡ v.stations → w.net ≡ v.net → Agrees v → Agrees w
agrees_same v w stations net agrees (Expiry place timer) = rw (stations, net) (agrees (Expiry place timer))
agrees_same v w stations net agrees (Arrival link direction) = rw net (agrees (Arrival link direction))

-- the time, and that of the last change, don't
pub agrees_at : (w : WorldState) (time last_change : ℕ) → Agrees w
    → Agrees (record w { time = time; last_change = last_change })
agrees_at w time last_change agrees =
    agrees_same w (record w { time = time; last_change = last_change }) refl refl agrees

-- what agrees agrees but for any one system
pub agrees_but : (place : ℕ) (w : WorldState) → Agrees w → AgreesBut place w
agrees_but place w agrees = record {
  arrivals = λ link direction. agrees (Arrival link direction);
  others = λ other timer apart. agrees (Expiry other timer);
  only = λ station here timer. elim (station_timer timer station) [
    | inl among ↦ inl among
    | inr none ↦ inr (agrees (Expiry place timer) ∙ ap (running timer) here ∙ ap timer_time none)
  ];
}

-- ---- a system becomes another, and its timers follow

-- another system stands at a place, and its timers are set
abbrev pub replaced : ℕ → Station → WorldState → WorldState
replaced place station w = record (with_station place station w) { net = all_timers place station w.net }

-- it has as many ports as the one before, whose timers may have been pending at any times
pub replaced_agrees : (place : ℕ) (w : WorldState) (old new : Station) → slice_get w.stations place ≡ Some old
    → length new.system.ports ≡ length old.system.ports → AgreesBut place w → Agrees (replaced place new w)
replaced_agrees place w old new here count but (Arrival link direction) =
    let ts = timers_from 1 new.system.ports in
    ap (times_of_item (Arrival link direction)) (set_timers_is place new ts w.net.pending)
    ∙ times-set_all_arrival (λ t. station_due t new) place link direction ts w.net.pending
    ∙ but.arrivals link direction
replaced_agrees place w old new here count but (Expiry other timer) = by (same_place other place)
  where
    by : (other ≡ place) ⊎ (other ≢ place)
        → times_of_item (Expiry other timer) (set_timers place new (timers_from 1 new.system.ports) w.net.pending)
        ≡ running timer (slice_get (slice_set w.stations place new) other)
    by (inl same) =
        let there = get-set_same w.stations place old new here in
        let only = only_same_count place old.system.ports new.system.ports w.net.pending count (but.only old here) in
        rw (same, there) (timers_agree place new w.net.pending timer only)
    by (inr apart) =
        let ts = timers_from 1 new.system.ports in
        ap (times_of_item (Expiry other timer)) (set_timers_is place new ts w.net.pending)
        ∙ times-set_all_elsewhere (λ t. station_due t new) place other timer ts w.net.pending apart
        ∙ but.others other timer apart
        ∙ sym (ap (running timer) (get-set_other w.stations place other new apart))

-- ---- what is on a link becomes other

-- nothing changes but the arrivals of one link
pub record OnlyArrivals (place : ℕ) (es es' : List Entry) : Type 0 where
  pub timers : (other : ℕ) (timer : Timer) → times_of_item (Expiry other timer) es' ≡ times_of_item
      (Expiry other timer) es
  pub arrivals : (link : ℕ) (direction : Direction) → link ≢ place
      → times_of_item (Arrival link direction) es' ≡ times_of_item (Arrival link direction) es

-- a timer is no arrival, and arrivals on different links or in different directions differ
pub no_arrival : (p : ℕ) (timer : Timer) (link : ℕ) (direction : Direction)
    → same_item (Expiry p timer) (Arrival link direction) ≡ false
no_arrival p timer link direction = by (same_item (Expiry p timer) (Arrival link direction)) refl
  where
    by : (b : Bool) → same_item (Expiry p timer) (Arrival link direction) ≡ b
        → same_item (Expiry p timer) (Arrival link direction) ≡ false
    by true same = absurd (grind (arith, item_is (Expiry p timer) (Arrival link direction) same))
    by false differ = differ

pub other_link : (k l : ℕ) (d e : Direction) → k ≢ l → same_item (Arrival k d) (Arrival l e) ≡ false
other_link k l d e apart = grind (arith, nat_tests)

pub other_way : (l : ℕ) → same_item (Arrival l FromA) (Arrival l FromB) ≡ false
other_way l = grind (arith, nat_tests)

pub back_way : (l : ℕ) → same_item (Arrival l FromB) (Arrival l FromA) ≡ false
back_way l = grind (arith, nat_tests)

-- where all other items are pending as before
pub only_arrivals : (place : ℕ) (direction : Direction) (es es' : List Entry)
    → ((i : Item) → same_item i (Arrival place direction) ≡ false → times_of_item i es' ≡ times_of_item i es)
    → OnlyArrivals place es es'
only_arrivals place direction es es' others = record {
  timers = λ other timer. others (Expiry other timer) (no_arrival other timer place direction);
  arrivals = λ link way apart. others (Arrival link way) (other_link link place way direction apart);
}

-- a link becomes another, and what is pending of it follows
pub relinked_agrees : (place : ℕ) (w : WorldState) (old new : Channel) (es : List Entry)
    → slice_get w.net.channels place ≡ Some old
    → ((direction : Direction) → times_of_item (Arrival place direction) es ≡ dues (world_queue direction new))
    → OnlyArrivals place w.net.pending es → Agrees w
    → Agrees (record w { net = record { channels = slice_set w.net.channels place new; pending = es } })
relinked_agrees place w old new es here own only agrees (Expiry other timer) =
    only.timers other timer ∙ agrees (Expiry other timer)
relinked_agrees place w old new es here own only agrees (Arrival link direction) = by (same_place link place)
  where
    by : (link ≡ place) ⊎ (link ≢ place)
        → times_of_item (Arrival link direction) es ≡ arriving direction
        (slice_get (slice_set w.net.channels place new) link)
    by (inl same) = let there = get-set_same w.net.channels place old new here in rw (same, there) (own direction)
    by (inr apart) =
        only.arrivals link direction apart ∙ agrees (Arrival link direction)
        ∙ sym (ap (arriving direction) (get-set_other w.net.channels place link new apart))

-- what is pending in both directions where the queue of one has changed
both_ways : (place : ℕ) (direction way : Direction) (channel : Channel) (frames : List Frame) (es es' : List Entry)
    → times_of_item (Arrival place direction) es' ≡ dues frames
    → ((i : Item) → same_item i (Arrival place direction) ≡ false → times_of_item i es' ≡ times_of_item i es)
    → ((d : Direction) → times_of_item (Arrival place d) es ≡ dues (world_queue d channel))
    → times_of_item (Arrival place way) es' ≡ dues (world_queue way (with_queue direction frames channel))
both_ways place FromA FromA channel frames es es' own others before = own
both_ways place FromA FromB channel frames es es' own others before =
    others (Arrival place FromB) (back_way place) ∙ before FromB
both_ways place FromB FromA channel frames es es' own others before =
    others (Arrival place FromA) (other_way place) ∙ before FromA
both_ways place FromB FromB channel frames es es' own others before = own

-- the frames in flight in one direction of a link become others, and what is pending of them follows
pub queue_agrees : (place : ℕ) (direction : Direction) (w : WorldState) (channel : Channel) (frames : List Frame)
    (es : List Entry) → slice_get w.net.channels place ≡ Some channel
    → times_of_item (Arrival place direction) es ≡ dues frames
    → ((i : Item) → same_item i (Arrival place direction) ≡ false → times_of_item i es ≡ times_of_item i w.net.pending)
    → Agrees w
    → Agrees (record w {
      net = record {
        channels = slice_set w.net.channels place (with_queue direction frames channel);
        pending = es;
      };
    })
queue_agrees place direction w channel frames es here own others agrees =
    relinked_agrees place w channel (with_queue direction frames channel) es here
    (λ way. both_ways place direction way channel frames w.net.pending es own others
    (λ d. agrees (Arrival place d) ∙ ap (arriving d) here))
    (only_arrivals place direction w.net.pending es others) agrees

-- ---- what a system sends

-- a frame is sent, or lost
pub entered_agrees : (place : ℕ) (direction : Direction) (channel : Channel) (now : ℕ) (octets : List ℕ)
    (answer : Option ℕ) (w : WorldState) → slice_get w.net.channels place ≡ Some channel → Agrees w
    → Agrees (record w { net = entered place direction channel now octets answer w.net })
entered_agrees place direction channel now octets None w here agrees = agrees
entered_agrees place direction channel now octets (Some delay) w here agrees =
    let at : ℕ = due_after (world_queue direction channel) now delay in
    let sent : Frame = frame at octets in
    let i : Item = Arrival place direction in
    let before : times_of_item i w.net.pending ≡ dues (world_queue direction channel) = agrees i
    ∙ ap (arriving direction) here in
    let after : times_of_item i (put at i w.net.pending) ≡ dues (world_queue direction channel ++ sent ∷ []) =
    times-put_same i at w.net.pending ∙ ap (λ ts. ts ++ at ∷ []) before
    ∙ sym (map-append (λ (f : Frame). f.due) (world_queue direction channel) (sent ∷ [])) in
    queue_agrees place direction w channel (world_queue direction channel ++ sent ∷ [])
    (put at i w.net.pending) here after
    (λ j differ. times-put_other i j at w.net.pending differ) agrees

pub sends_one_agrees : (now : ℕ) (from : PortId) (octets : List ℕ) (draw : Draw) (w : WorldState) (net' : Net)
    → Agrees w → SendsOne now from octets draw w.net net' → Agrees (record w { net = net' })
sends_one_agrees now from octets draw w net' agrees one =
    subst (λ n. Agrees (record w { net = n })) (sym one.after)
    (entered_agrees one.place one.direction one.channel now octets draw.answer w one.here agrees)

-- each send goes onto a link or nowhere
pub sends_agree : (now : ℕ) (s : SystemState) (xs : List Sending) (draws : List Draw) (w : WorldState) (net' : Net)
    → Agrees w → SendsAll now s xs draws w.net net' → Agrees (record w { net = net' })
sends_agree now s [] draws w net' agrees sends = subst (λ n. Agrees (record w { net = n })) (sym sends.1) agrees
sends_agree now s (x ∷ xs) draws w net' agrees (inl (draw, rest, between, is, one, sends)) =
    sends_agree now s xs rest (record w { net = between }) net'
    (sends_one_agrees now (own s x.port) (written s x) draw w between agrees one) sends
sends_agree now s (x ∷ xs) draws w net' agrees (inr (unlinked, sends)) = sends_agree now s xs draws w net' agrees sends

-- ---- one call of one system

-- After a call everything agrees, where before it everything did but the timers of that system.
pub calls_agree : (place : ℕ) (input : Input) (w : WorldState) (draws : List Draw) (answer : Answer) (w' : WorldState)
    → Calls place input w draws answer w' → AgreesBut place w → Agrees w'
calls_agree place input w draws answer w' calls but =
    let new : Station = in_state calls.after calls.station in
    let count = keeps_length calls.station.system calls.after
    (steps_sound input w.time calls.station.system calls.after calls.sends answer calls.steps).kept in
    subst Agrees (sym calls.is)
    (sends_agree w.time calls.after calls.sends draws (replaced place new w) calls.net
    (replaced_agrees place w calls.station new calls.here count but) calls.sent)

-- ---- a delivery

-- the oldest frame leaves
pub takes_agree : (place : ℕ) (direction : Direction) (now : ℕ) (octets : List ℕ) (channel : Channel) (w : WorldState)
    (net' : Net) → Agrees w → TakesFrame place direction now octets channel w.net net'
    → Agrees (record w { net = net' })
takes_agree place direction now octets channel w net' agrees takes =
    let i : Item = Arrival place direction in
    let before : times_of_item i w.net.pending ≡ dues (frame now octets ∷ takes.rest) =
    agrees i ∙ ap (arriving direction) takes.here ∙ ap dues takes.front in
    let after : times_of_item i (without_first_entry i w.net.pending) ≡ dues takes.rest =
    times-without_first_same i w.net.pending ∙ ap (drop 1) before in
    subst (λ n. Agrees (record w { net = n })) (sym takes.is)
    (queue_agrees place direction w channel takes.rest (without_first_entry i w.net.pending) takes.here after
    (λ j differ. times-without_first_other i j w.net.pending differ) agrees)

-- the receiver answers, or is silent
pub hears_agree : (place port : ℕ) (octets : List ℕ) (w : WorldState) (draws : List Draw) (answer : Option Answer)
    (w' : WorldState) → Agrees w → Hears place port octets w draws answer w' → Agrees w'
hears_agree place port octets w draws (Some answer) w' agrees hears =
    calls_agree place (FrameHeard port octets) w draws answer w' hears (agrees_but place w agrees)
hears_agree place port octets w draws None w' agrees hears = subst Agrees (sym hears.2) agrees

pub delivers_agree : (link : ℕ) (direction : Direction) (octets : List ℕ) (w : WorldState) (draws : List Draw)
    (answer : Option Answer) (w' : WorldState) → Agrees w → Delivers link direction octets w draws answer w' → Agrees w'
delivers_agree link direction octets w draws answer w' agrees delivers =
    hears_agree delivers.place (receiver direction delivers.channel).port octets (record w { net = delivers.net }) draws
    answer w' (takes_agree link direction w.time octets delivers.channel w delivers.net agrees delivers.takes)
    delivers.hears

-- ---- an expiry

-- a timer's entry is taken
pub stopped_agrees_but : (place : ℕ) (timer : Timer) (w : WorldState) → Agrees w
    → AgreesBut place (stopped place timer w)
stopped_agrees_but place timer w agrees =
    let i : Item = Expiry place timer in let es : List Entry = w.net.pending in record {
      arrivals = λ link direction.
          times-without_first_other i (Arrival link direction) es (no_timer link direction place timer)
          ∙ agrees (Arrival link direction);
      others = λ other t apart.
          times-without_first_other i (Expiry other t) es (other_system other place t timer apart)
          ∙ agrees (Expiry other t);
      only = λ station here.
          only_without_first place station.system.ports i es ((agrees_but place w agrees).only station here);
    }

-- and its system is called
pub expires_agree : (place : ℕ) (timer : Timer) (w : WorldState) (draws : List Draw) (w' : WorldState)
    → Agrees w → TimerRunsOut place timer w draws w' → Agrees w'
expires_agree place timer w draws w' agrees expires =
    calls_agree place (TimerExpires timer) (stopped place timer w) draws expires.answer w' expires.calls
    (stopped_agrees_but place timer w agrees)
