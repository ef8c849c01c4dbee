-- A call leaves a world on time: nothing is pending before its time. It leaves no more to do at that time.
use Rattle.std.proofs.Common.{◌≡◌, ◌≢◌, ◌⊎◌, ℕ, ◌+◌, ◌≤◌, ◌<◌, Bool, true, false, List, [], ◌∷◌, ◌++◌, length, Option, Some, None, slice_get, slice_set, refl, sym, ap, subst, ◌∙◌, inl, inr, arith}
use Rattle.std.specs.List.{AllByRecursion}
use Rattle.std.proofs.Math.Nat.{le-max_left}
use Rattle.std.proofs.lemmas.Option.{same_Some}
use Rattle.gptp_vector.specs.declared.port.PortId.{PortId}
use Rattle.gptp_links.specs.declared.link.Direction.{Direction}
use Rattle.gptp_links.specs.declared.link.Direction.TheVariants.{FromA, FromB}
use Rattle.gptp_links.specs.Bounds.{Fit, IsLawful}
use Rattle.gptp_links.specs.Fate.{Draw}
use Rattle.gptp_links.specs.Queue.{Frame, due_after, frame, newest_due}
use Rattle.gptp_system.specs.declared.answer.Answer.{Answer}
use Rattle.gptp_system.specs.declared.sending.Sending.{Sending}
use Rattle.gptp_setup.specs.declared.timer.Timer.{Timer}
use Rattle.gptp_system.specs.Input.{Input, IsTimely, Steps, PortUp, PortDown, Frame as FrameHeard, Expires, Priority}
use Rattle.gptp_system.specs.State.{SystemState, due, own}
use Rattle.gptp_system.proofs.FactLemmas.{keeps_length}
use Rattle.gptp_system.proofs.StartedLemmas.{ran_out_later, started_later}
use Rattle.gptp_system.proofs.StepLemmas.{steps_sound}
use Rattle.gptp_model.specs.declared.item.Item.TheVariants.{Arrival, Expiry}
use Rattle.gptp_model.specs.declared.station.Station.{Station}
use Rattle.gptp_model.specs.Act.{Calls, all_timers, in_state, set_timers}
use Rattle.gptp_model.specs.Ahead.{AreFit, ArePending, HasPorts, IsOnTime, IsSteady, IsWorldOnTime, NoneLate, due_by}
use Rattle.gptp_model.specs.Item.{same_item}
use Rattle.gptp_model.specs.Pending.{Entry, NothingBefore, timer_time, set_due, times_of_item}
use Rattle.gptp_model.specs.Sends.{SendsAll, SendsOne, entered, written}
use Rattle.gptp_model.specs.World.{Channel, Net, WorldState, world_queue, station_due, timers_from, with_queue}
use Rattle.gptp_model.proofs.DueByLemmas.{AreKeptOrLater, due_by-put, due_by-set_timers}
use Rattle.gptp_model.proofs.MomentLemmas.{IsNotBefore, nothing_before-put, nothing_before-set_due, times-all}
use Rattle.gptp_model.proofs.PendingLemmas.{same_itself}
use Rattle.gptp_lists.proofs.PlaceLemmas.{get-set_all, get-set_other, get-set_same, same_place}
use Rattle.gptp_model.proofs.SteadyLemmas.{steps_none_late, steps_steady}
use Rattle.gptp_model.proofs.TimerLemmas.{same_timer}

-- ---- what is pending, and when timers are due

-- where nothing is pending before a time, what is pending at one time alone isn't before it
first_late : (time place : ℕ) (timer : Timer) (es : List Entry) (t : ℕ) → NothingBefore time es
    → times_of_item (Expiry place timer) es ≡ t ∷ [] → time ≤ t
first_late time place timer es t none is =
    (subst (AllByRecursion (λ u. time ≤ u)) is (times-all (λ u. time ≤ u) (Expiry place timer) es none)).0

-- so timers that are pending when they are due aren't late
pub pending_none_late : (time place : ℕ) (s : SystemState) (es : List Entry) → NothingBefore time es
    → ((timer : Timer) → times_of_item (Expiry place timer) es ≡ timer_time (due timer s)) → NoneLate time s
pending_none_late time place s es none agree timer t is =
    first_late time place timer es t none (agree timer ∙ ap timer_time is)

-- a timer of a live system is due when it is due in its state
pub live_due : (station : Station) (timer : Timer) → station.live ≡ true
    → station_due timer station ≡ due timer station.system
live_due station timer live = rw live refl

due_late : (time : ℕ) (o : Option ℕ) → ((t : ℕ) → o ≡ Some t → time ≤ t) → IsNotBefore time o
due_late time None late = tt
due_late time (Some t) late = (late t refl, tt)

-- timers that aren't late are set, and nothing is pending before
pub nothing_before-set_timers : (time place : ℕ) (station : Station)
    → ((timer : Timer) (t : ℕ) → station_due timer station ≡ Some t → time ≤ t) → (ts : List Timer) (es : List Entry)
    → NothingBefore time es → NothingBefore time (set_timers place station ts es)
nothing_before-set_timers time place station late [] es none = none
nothing_before-set_timers time place station late (timer ∷ ts) es none =
    nothing_before-set_timers time place station late ts (set_due (Expiry place timer) (station_due timer station) es)
    (nothing_before-set_due time (Expiry place timer) (station_due timer station) es
    (due_late time (station_due timer station) (late timer)) none)

-- ---- sends

-- the bounds of all links are fit where one becomes another with fit bounds
pub relinked_fit : (channels : List Channel) (place : ℕ) (old new : Channel) → slice_get channels place ≡ Some old
    → Fit new.bounds → AreFit channels → AreFit (slice_set channels place new)
relinked_fit channels place old new here is fit =
    get-set_all (λ (c : Channel). Fit c.bounds) channels place old new here is fit

pub queue_bounds : (direction : Direction) (frames : List Frame) (channel : Channel)
    → (with_queue direction frames channel).bounds ≡ channel.bounds
queue_bounds FromA frames channel = refl
queue_bounds FromB frames channel = refl

-- the queue of a link becomes another
pub requeued_fit : (channels : List Channel) (place : ℕ) (direction : Direction) (frames : List Frame)
    (channel : Channel)
    → slice_get channels place ≡ Some channel → AreFit channels
    → AreFit (slice_set channels place (with_queue direction frames channel))
requeued_fit channels place direction frames channel here fit =
    relinked_fit channels place channel (with_queue direction frames channel) here
    (subst Fit (sym (queue_bounds direction frames channel)) (fit place channel here)) fit

-- frames went out that are due later than now
pub record SendsLater (now : ℕ) (net net' : Net) : Type 0 where
  pub links : AreFit net'.channels
  pub pending : NothingBefore now net.pending → NothingBefore now net'.pending
  pub due : due_by now net'.pending ≡ due_by now net.pending

nothing_sent : (now : ℕ) (net : Net) → AreFit net.channels → SendsLater now net net
nothing_sent now net fit = record { links = fit; pending = λ none. none; due = refl }

entered_later : (now place : ℕ) (direction : Direction) (channel : Channel) (octets : List ℕ) (answer : Option ℕ)
    (net : Net) → AreFit net.channels → slice_get net.channels place ≡ Some channel → IsLawful channel.bounds answer
    → SendsLater now net (entered place direction channel now octets answer net)
entered_later now place direction channel octets None net fit here lawful = nothing_sent now net fit
entered_later now place direction channel octets (Some delay) net fit here lawful =
    let time : ℕ = due_after (world_queue direction channel) now delay in
    let positive = (fit place channel here).positive in
    let least = lawful.0 in
    let most = le-max_left (now + delay) (newest_due (world_queue direction channel)) in
    let later : now < time = omega arith in
    let late : now ≤ time = omega arith in
    record {
      links = requeued_fit net.channels place direction
          (world_queue direction channel ++ frame time octets ∷ []) channel
          here fit;
      pending = nothing_before-put now time (Arrival place direction) net.pending late;
      due = due_by-put now time (Arrival place direction) net.pending later;
    }

pub sent_later : (now : ℕ) (from : PortId) (octets : List ℕ) (draw : Draw) (net net' : Net) → AreFit net.channels
    → SendsOne now from octets draw net net' → SendsLater now net net'
sent_later now from octets draw net net' fit k =
    subst (SendsLater now net) (sym k.after)
    (entered_later now k.place k.direction k.channel octets draw.answer net fit k.here
    (subst (λ b. IsLawful b draw.answer) k.bounds k.lawful))

-- all that a system sends
pub sends_later : (now : ℕ) (s : SystemState) (xs : List Sending) (draws : List Draw) (net net' : Net)
    → AreFit net.channels → SendsAll now s xs draws net net' → SendsLater now net net'
sends_later now s [] draws net net' fit (none, is) = subst (SendsLater now net) (sym is) (nothing_sent now net fit)
sends_later now s (x ∷ xs) draws net net' fit (inl (draw, rest, between, is, one, more)) =
    let first = sent_later now (own s x.port) (written s x) draw net between fit one in
    let then = sends_later now s xs rest between net' first.links more in
    record {
      links = then.links;
      pending = λ none. then.pending (first.pending none);
      due = then.due ∙ first.due;
    }
sends_later now s (x ∷ xs) draws net net' fit (inr (none, more)) = sends_later now s xs draws net net' fit more

-- ---- one step of a system

-- a timer that isn't the one that runs out
other_timer : (place : ℕ) (out timer : Timer) → same_item (Expiry place timer) (Expiry place out) ≡ false
    → Expires out ≢ Expires timer
other_timer place out timer differ e =
    let same : out ≡ timer = cc in
    let both : true ≡ false =
    sym (same_itself (Expiry place out)) ∙ ap (λ x. same_item (Expiry place x) (Expiry place out)) same ∙ differ in
    absurd cc

module _ (place now : ℕ) (s s' : SystemState) (sends : List Sending) (answer : Answer) (es : List Entry)
    (steady : IsSteady s) where
  other_ahead : (input : Input) → IsTimely s now input → Steps input now s s' sends answer
      → ArePending place input s es → (timer : Timer) → input ≢ Expires timer → (t : ℕ) → due timer s' ≡ Some t
      → (times_of_item (Expiry place timer) es ≡ t ∷ []) ⊎ (now < t)
  other_ahead input timely k pending timer other t is =
      by (started_later input now s s' sends answer steady.params steady.largest steady.logs timely steady.shown
      steady.rest k timer t
      is)
    where
      by : (due timer s ≡ Some t) ⊎ (now < t) → (times_of_item (Expiry place timer) es ≡ t ∷ []) ⊎ (now < t)
      by (inl before) = inl (pending timer other ∙ ap timer_time before)
      by (inr later) = inr later

  out_ahead : (out : Timer) → IsTimely s now (Expires out) → Steps (Expires out) now s s' sends answer
      → ArePending place (Expires out) s es → (timer : Timer) → (b : Bool)
      → same_item (Expiry place timer) (Expiry place out) ≡ b → (t : ℕ) → due timer s' ≡ Some t
      → (times_of_item (Expiry place timer) es ≡ t ∷ []) ⊎ (now < t)
  out_ahead out timely k pending timer true b t is =
      let both = same_timer place place timer out b in
      inr (ran_out_later out now s s' sends answer steady.params steady.logs timely steady.shown steady.rest k t
      (ap (λ x. due x s') (sym both.1) ∙ is))
  out_ahead out timely k pending timer false b t is =
      other_ahead (Expires out) timely k pending timer (other_timer place out timer b) t is

  -- each timer that runs after the step was pending at its time before it, or is due later
  pub step_ahead : (input : Input) → IsTimely s now input → Steps input now s s' sends answer
      → ArePending place input s es → (timer : Timer) (t : ℕ) → due timer s' ≡ Some t
      → (times_of_item (Expiry place timer) es ≡ t ∷ []) ⊎ (now < t)
  step_ahead (PortUp p) timely k pending timer t is =
      other_ahead (PortUp p) timely k pending timer (λ e. absurd cc) t is
  step_ahead (PortDown p) timely k pending timer t is =
      other_ahead (PortDown p) timely k pending timer (λ e. absurd cc) t is
  step_ahead (FrameHeard p octets) timely k pending timer t is =
      other_ahead (FrameHeard p octets) timely k pending timer (λ e. absurd cc) t is
  step_ahead (Expires out) timely k pending timer t is =
      out_ahead out timely k pending timer (same_item (Expiry place timer) (Expiry place out)) refl t is
  step_ahead (Priority value) timely k pending timer t is =
      other_ahead (Priority value) timely k pending timer (λ e. absurd cc) t is

-- ---- one call

module _ (place : ℕ) (input : Input) (w : WorldState) (draws : List Draw) (answer : Answer) (w' : WorldState)
    (k : Calls place input w draws answer w') where
  -- the station as the call leaves it
  abbrev called : Station
  called = in_state k.after k.station

  call_sends : AreFit w.net.channels → SendsLater w.time (all_timers place called w.net) k.net
  call_sends fit = sends_later w.time k.after k.sends draws (all_timers place called w.net) k.net fit k.sent

  call_before : AreFit w.net.channels → NoneLate w.time k.after → NothingBefore w.time w.net.pending
      → NothingBefore w.time k.net.pending
  call_before fit late none =
      (call_sends fit).pending
      (nothing_before-set_timers w.time place called
      (λ timer t is. late timer t (sym (live_due called timer k.live) ∙ is)) (timers_from 1 called.system.ports)
      w.net.pending none)

  -- Where each timer of the system is pending when it is due, a call leaves nothing pending before now.
  pub calls_nothing_before : IsSteady k.station.system → IsTimely k.station.system w.time input
      → AreFit w.net.channels → ArePending place input k.station.system w.net.pending
      → NothingBefore w.time w.net.pending → NothingBefore w.time w'.net.pending
  calls_nothing_before steady timely fit pending none =
      subst (λ (x : WorldState). NothingBefore w.time x.net.pending) (sym k.is) (call_before fit late none)
    where
      late : NoneLate w.time k.after
      late timer t is =
          by (step_ahead place w.time k.station.system k.after k.sends answer w.net.pending steady input timely k.steps
          pending timer t is)
        where
          by : (times_of_item (Expiry place timer) w.net.pending ≡ t ∷ []) ⊎ (w.time < t) → w.time ≤ t
          by (inl kept) = first_late w.time place timer w.net.pending t none kept
          by (inr later) = omega arith

  -- Where each timer of the system is pending when it is due, a call leaves no more to do by now.
  pub calls_due_by : IsSteady k.station.system → IsTimely k.station.system w.time input → AreFit w.net.channels
      → ArePending place input k.station.system w.net.pending
      → due_by w.time w'.net.pending ≤ due_by w.time w.net.pending
  calls_due_by steady timely fit pending =
      let ahead : AreKeptOrLater w.time place called w.net.pending =
      λ timer t is. step_ahead place w.time k.station.system k.after k.sends answer w.net.pending steady input timely
      k.steps pending timer t (sym (live_due called timer k.live) ∙ is) in
      let set = due_by-set_timers w.time place called (timers_from 1 called.system.ports) w.net.pending ahead in
      let sent = (call_sends fit).due in
      let end : due_by w.time w'.net.pending ≡ due_by w.time k.net.pending =
      ap (λ (x : WorldState). due_by w.time x.net.pending) k.is in
      omega arith

  -- A world that is on time stays so.
  pub calls_on_time : IsWorldOnTime w → IsTimely k.station.system w.time input → IsWorldOnTime w'
  calls_on_time on timely =
      let old = on.stations place k.station k.here in
      let late : NoneLate w.time k.after =
      steps_none_late input w.time k.station.system k.after k.sends answer old.steady timely k.steps
      (old.timers k.live) in
      let new : IsOnTime w.time called = record {
        setup = old.setup;
        steady = steps_steady input w.time k.station.system k.after k.sends answer old.steady k.steps;
        timers = λ live. late;
      } in
      subst IsWorldOnTime (sym k.is) (record {
        stations = get-set_all (IsOnTime w.time) w.stations place k.station called k.here new on.stations;
        links = (call_sends on.links).links;
        pending = call_before on.links late on.pending;
      })

  -- Every system keeps its number of ports.
  pub calls_ports : (other ports : ℕ) → HasPorts other ports w → HasPorts other ports w'
  calls_ports other ports has =
      subst (HasPorts other ports) (sym k.is) (λ station there. by station there (same_place other place))
    where
      by : (station : Station) → slice_get (slice_set w.stations place called) other ≡ Some station
          → (other ≡ place) ⊎ (other ≢ place) → length station.system.ports ≡ ports
      by station there (inl same) =
          let is : called ≡ station =
          same_Some called station
          (sym (get-set_same w.stations place k.station called k.here)
          ∙ (ap (slice_get (slice_set w.stations place called)) (sym same) ∙ there)) in
          let kept = (steps_sound input w.time k.station.system k.after k.sends answer k.steps).kept in
          ap (λ (x : Station). length x.system.ports) (sym is)
          ∙ keeps_length k.station.system k.after kept ∙ has k.station (ap (slice_get w.stations) same ∙ k.here)
      by station there (inr apart) =
          has station (sym (get-set_other w.stations place other called apart) ∙ there)
