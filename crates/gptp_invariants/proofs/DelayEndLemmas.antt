-- What a call makes of a port that measures: its part of the input, or nothing.
use Rattle.std.proofs.Common.{◌≡◌, ◌≢◌, ◌⊎◌, ◌+◌, ◌^◌, ◌<◌, ℕ, zero, suc, ℤ, Bool, true, false, List, Option, Some, None, length, slice_get, slice_set, refl, sym, ap, subst, ◌∙◌, inl, inr, arith, eqb-true}
use Rattle.std.specs.Prelude.{if◌then◌else◌, ◌==◌}
use Rattle.std.specs.Option.{option_map_or}
use Rattle.std.proofs.lemmas.Nat.{mod_below}
use Rattle.std.proofs.lemmas.Option.{none-some, same_Some, slice_get_within}
use Rattle.gptp_vector.specs.declared.port.PortId.{PortId}
use Rattle.gptp_messages.specs.declared.head.Head.{Head}
use Rattle.gptp_messages.specs.declared.message.Message.{Message}
use Rattle.gptp_messages.specs.declared.message.Message.TheVariants as messages
use Rattle.gptp_messages.specs.declared.peer_delay.PdelayResp.{PdelayResp}
use Rattle.gptp_messages.specs.declared.peer_delay.PdelayRespFollowUp.{PdelayRespFollowUp}
use Rattle.gptp_messages.specs.Grammar.{Reads}
use Rattle.gptp_links.specs.Fate.{Draw}
use Rattle.gptp_pdelay.specs.declared.exchange.Measurement.{Measurement}
use Rattle.gptp_pdelay.specs.declared.progress.Progress.{Progress}
use Rattle.gptp_pdelay.specs.declared.progress.Progress.TheVariants as progresses
use Rattle.gptp_pdelay.specs.Peer.{PeerState, after_follow_up, after_interval, after_response, answered_by, completed, is_open, loses_too_many, measured_by, reset_peer}
use Rattle.gptp_system.specs.declared.answer.Answer.{Answer}
use Rattle.gptp_system.specs.declared.port.Port.{Port}
use Rattle.gptp_system.specs.declared.sending.Sending.{Sending}
use Rattle.gptp_setup.specs.declared.setup.Params.{Params}
use Rattle.gptp_setup.specs.declared.setup.Setup.{Setup}
use Rattle.gptp_setup.specs.declared.timer.Timer.TheVariants as timers
use Rattle.gptp_system.specs.Facts.{Keeps}
use Rattle.gptp_system.specs.Input.{Input, Steps, PortUp, PortDown, Frame as FrameHeard, Expires, Priority}
use Rattle.gptp_setup.specs.Intervals.{interval_of}
use Rattle.gptp_system.specs.Measures.{IsPartAfter, Part, only_at, part_answered, part_asked, part_down, part_heard, measure_at, part_owing}
use Rattle.gptp_system.specs.State.{SystemState, clock, number, stamp_time}
use Rattle.gptp_system.proofs.MeasureLemmas.{steps_measure}
use Rattle.gptp_system.proofs.StepLemmas.{steps_sound}
use Rattle.gptp_model.specs.declared.station.Station.{Station}
use Rattle.gptp_model.specs.Act.{Calls, in_state}
use Rattle.gptp_model.specs.World.{WorldState}
use Rattle.gptp_lists.proofs.MappedLemmas.{same_there}
use Rattle.gptp_lists.proofs.PlaceLemmas.{get-set_other, get-set_same, member_there, same_place}
use Rattle.gptp_model.proofs.SteadyLemmas.{same_ports}
use Rattle.gptp_invariants.specs.DelayLinkView.{IsEndOf, IsMeasuring, RequestFits, RequestSaysWhatFits}
use Rattle.gptp_roles.specs.Selection.{clock_of}

-- ---- peers

-- what only the own timers and the requests that are heard change
record IsSamePeer (p q : PeerState) : Type 0 where
  own : q.own ≡ p.own
  allowed : q.allowed ≡ p.allowed
  threshold : q.threshold ≡ p.threshold
  window : q.window ≡ p.window
  next : q.next ≡ p.next
  waiting : q.waiting ≡ p.waiting

itself : (p : PeerState) → IsSamePeer p p
itself p = record { own = refl; allowed = refl; threshold = refl; window = refl; next = refl; waiting = refl }

interval_same : (p : PeerState) → IsSamePeer p (after_interval p)
interval_same p = go (is_open p.progress) (loses_too_many p)
  where
    go : (open_one too_many : Bool)
        → IsSamePeer p
        (if open_one
        then (if too_many then reset_peer p else record p { progress = progresses.Closed; lost = p.lost + 1 })
        else p)
    go true true = record { own = refl; allowed = refl; threshold = refl; window = refl; next = refl; waiting = refl }
    go true false = record { own = refl; allowed = refl; threshold = refl; window = refl; next = refl; waiting = refl }
    go false too_many = itself p

reset_same : (p : PeerState) → IsSamePeer p (reset_peer p)
reset_same p = record { own = refl; allowed = refl; threshold = refl; window = refl; next = refl; waiting = refl }

response_same : (m : PdelayResp) (t4 : ℤ) (p : PeerState) → IsSamePeer p (after_response m t4 p)
response_same m t4 p = go (answered_by m t4 p.own p.progress)
  where
    go : (o : Option Progress)
        → IsSamePeer p (option_map_or (λ (progress : Progress). record p { progress = progress }) o p)
    go None = itself p
    go (Some progress) =
        record { own = refl; allowed = refl; threshold = refl; window = refl; next = refl; waiting = refl }

follow_up_same : (m : PdelayRespFollowUp) (p : PeerState) → IsSamePeer p (after_follow_up m p)
follow_up_same m p = go (measured_by m p.own p.last p.past p.progress)
  where
    go : (o : Option Measurement) → IsSamePeer p (option_map_or (λ (one : Measurement). completed one p) o p)
    go None = itself p
    go (Some one) = record { own = refl; allowed = refl; threshold = refl; window = refl; next = refl; waiting = refl }

-- ---- parts

-- a step of the measuring that changes nothing else
stepped_measures : (params : Params) (port : PortId) (x : Part) (q : PeerState) → IsSamePeer x.peer q
    → IsMeasuring params port x → IsMeasuring params port (record x { peer = q })
stepped_measures params port x q same m = record {
  own = same.own ∙ m.own;
  allowed = same.allowed ∙ m.allowed;
  threshold = same.threshold ∙ m.threshold;
  window = same.window ∙ m.window;
  next = subst (λ n. n < 2 ^ 16) (sym same.next) m.next;
  asks = m.asks;
  owes = λ due runs. let (owed, waits, fits) = m.owes due runs in (owed, same.waiting ∙ waits, fits);
}

asked_measures : (s : SystemState) (now : ℕ) (port : PortId) (x : Part) (step : PeerState → PeerState)
    → IsSamePeer x.peer (step x.peer)
    → IsMeasuring s.params port x → IsMeasuring s.params port (part_asked s now step x)
asked_measures s now port x step same m = record {
  own = same.own ∙ m.own;
  allowed = same.allowed ∙ m.allowed;
  threshold = same.threshold ∙ m.threshold;
  window = same.window ∙ m.window;
  next = mod_below ((step x.peer).next + 1) 65536 (omega arith);
  asks = λ due runs.
      let same_due : now + interval_of s.params.pdelay ≡ due = same_Some (now + interval_of s.params.pdelay) due runs in
      omega arith;
  owes = λ due runs. let (owed, waits, fits) = m.owes due runs in (owed, same.waiting ∙ waits, fits);
}

down_measures : (params : Params) (port : PortId) (x : Part) → IsMeasuring params port x
    → IsMeasuring params port (part_down x)
down_measures params port x m = record {
  own = m.own;
  allowed = m.allowed;
  threshold = m.threshold;
  window = m.window;
  next = m.next;
  asks = λ due runs. absurd (none-some due runs);
  owes = λ due runs. absurd (none-some due runs);
}

answered_measures : (params : Params) (port : PortId) (x : Part) → IsMeasuring params port x
    → IsMeasuring params port (part_answered x)
answered_measures params port x m = record {
  own = m.own;
  allowed = m.allowed;
  threshold = m.threshold;
  window = m.window;
  next = m.next;
  asks = m.asks;
  owes = λ due runs. absurd (none-some due runs);
}

owing_measures : (s : SystemState) (now : ℕ) (head : Head) (port : PortId) (x : Part)
    → RequestFits head.source head.sequence
    → IsMeasuring s.params port x → IsMeasuring s.params port (part_owing s now head x)
owing_measures s now head port x fits m = record {
  own = m.own;
  allowed = m.allowed;
  threshold = m.threshold;
  window = m.window;
  next = m.next;
  asks = m.asks;
  owes = λ due runs. (
    record { requester = head.source; sequence = head.sequence; t2 = stamp_time s now },
    refl,
    fits,
  );
}

heard_measures : (s : SystemState) (now : ℕ) (m : Message) (octets : List ℕ) (port : PortId) (x : Part)
    → RequestSaysWhatFits octets → Reads octets m
    → IsMeasuring s.params port x → IsMeasuring s.params port (part_heard s now m x)
heard_measures s now (messages.Sync head) octets port x fit reads is = is
heard_measures s now (messages.PdelayReq head) octets port x fit reads is =
    owing_measures s now head port x (fit head reads) is
heard_measures s now (messages.PdelayResp m) octets port x fit reads is =
    stepped_measures s.params port x _ (response_same m (stamp_time s now) x.peer) is
heard_measures s now (messages.FollowUp m) octets port x fit reads is = is
heard_measures s now (messages.PdelayRespFollowUp m) octets port x fit reads is =
    stepped_measures s.params port x _ (follow_up_same m x.peer) is
heard_measures s now (messages.Announce a) octets port x fit reads is = is

-- ---- inputs

-- a frame that port n hears says what fits
abbrev pub HearsWhatFits : ℕ → Input → Type 0
HearsWhatFits n (FrameHeard p octets) = n ≡ p → RequestSaysWhatFits octets
HearsWhatFits n _ = Unit {0}

-- what happens at one port and at no other
at_or_not : (P : Part → Type 0) (p : ℕ) (f : Part → Part) (n : ℕ) (x x' : Part) → x' ≡ only_at p f n x
    → (n ≡ p → P (f x)) → P x
    → P x'
at_or_not P p f n x x' is done still = subst P (sym is) (go (n == p) refl)
  where
    go : (b : Bool) → (n == p) ≡ b → P (if b then f x else x)
    go true e = done (eqb-true n p e)
    go false e = still

pub part_measures : (s : SystemState) (now : ℕ) (input : Input) (n : ℕ) (port : PortId) (x x' : Part)
    → HearsWhatFits n input → IsPartAfter s now input n x x'
    → IsMeasuring s.params port x → IsMeasuring s.params port x'
part_measures s now (PortUp p) n port x x' given k is =
    at_or_not (IsMeasuring s.params port) p (part_asked s now reset_peer) n x x' k
    (λ here. asked_measures s now port x reset_peer (reset_same x.peer) is) is
part_measures s now (PortDown p) n port x x' given k is =
    at_or_not (IsMeasuring s.params port) p part_down n x x' k (λ here. down_measures s.params port x is) is
part_measures s now (FrameHeard p octets) n port x x' given (inl (m, reads, e)) is =
    at_or_not (IsMeasuring s.params port) p (part_heard s now m) n x x' e
    (λ here. heard_measures s now m octets port x (given here) reads is) is
part_measures s now (FrameHeard p octets) n port x x' given (inr (unread, e)) is =
    subst (IsMeasuring s.params port) (sym e) is
part_measures s now (Expires (timers.Pdelay p)) n port x x' given k is =
    at_or_not (IsMeasuring s.params port) p (part_asked s now after_interval) n x x' k
    (λ here. asked_measures s now port x after_interval (interval_same x.peer) is) is
part_measures s now (Expires (timers.Respond p)) n port x x' given k is =
    at_or_not (IsMeasuring s.params port) p part_answered n x x' k (λ here. answered_measures s.params port x is)
    is
part_measures s now (Expires (timers.Announce p)) n port x x' given k is = subst (IsMeasuring s.params port) (sym k) is
part_measures s now (Expires (timers.Age p)) n port x x' given k is = subst (IsMeasuring s.params port) (sym k) is
part_measures s now (Expires timers.Sync) n port x x' given k is = subst (IsMeasuring s.params port) (sym k) is
part_measures s now (Expires timers.Relay) n port x x' given k is = subst (IsMeasuring s.params port) (sym k) is
part_measures s now (Expires timers.Lapse) n port x x' given k is = subst (IsMeasuring s.params port) (sym k) is
part_measures s now (Priority value) n port x x' given k is = subst (IsMeasuring s.params port) (sym k) is

-- ---- ports

-- the port after a step
pub port_after : (input : Input) (now : ℕ) (s s' : SystemState) (sends : List Sending) (answer : Answer) (n : ℕ)
    (q : Port)
    → Steps input now s s' sends answer → number s.ports n ≡ Some q
    → (q' : Port) × (number s'.ports n ≡ Some q') × IsPartAfter s now input n (measure_at q) (measure_at q')
port_after input now s s' sends answer zero q k there = absurd (none-some q there)
port_after input now s s' sends answer (suc i) q k there =
    let long : length s'.ports ≡ length s.ports = same_ports input now s s' sends answer k in
    let inside = slice_get_within s.ports i q there in
    let (q', stands) = member_there s'.ports i (omega arith) in
    let (p, was, after) = steps_measure input now s s' sends answer k i q' stands in (
      q',
      stands,
      subst (λ (one : Port). IsPartAfter s now input (suc i) (measure_at one) (measure_at q'))
          (same_there s.ports i p q was there) after,
    )

-- ---- ends

-- An end under a name that its port has as well.
abbrev pub renamed : (place : ℕ) (p q : PortId) (w : WorldState) → p ≡ q → IsEndOf place p w → IsEndOf place q w
renamed place p q w same e = record {
  station = e.station;
  state = e.state;
  here = e.here;
  live = e.live;
  set_up = e.set_up;
  named = e.named ∙ ap (λ (x : PortId). x.clock) same;
  there = ap (λ (x : PortId). number e.station.system.ports x.port) (sym same) ∙ e.there;
  measures = subst (λ x. IsMeasuring e.station.setup.params x (measure_at e.state)) same e.measures;
}

-- What a system does at one place is a port's part of it there, and nothing elsewhere.
abbrev pub PartStep : ℕ → Input → ℕ → ℕ → SystemState → ℕ → Part → Part → Type 0
PartStep place input now other s n x x' =
    ((other ≡ place) × IsPartAfter s now input n x x') ⊎ ((other ≢ place) × (x' ≡ x))

-- the end after the call
pub record EndStep (place : ℕ) (input : Input) (w w' : WorldState) (other : ℕ) (port : PortId)
    (e : IsEndOf other port w) : Type 0 where
  pub after : IsEndOf other port w'
  pub setup : after.station.setup ≡ e.station.setup
  pub part : PartStep place input w.time other e.station.system port.port (measure_at e.state) (measure_at after.state)

module _ (place : ℕ) (input : Input) (w : WorldState) (draws : List Draw) (answer : Answer) (w' : WorldState)
    (k : Calls place input w draws answer w') (other : ℕ) (port : PortId) (e : IsEndOf other port w)
    (given : other ≡ place → HearsWhatFits port.port input) where
  abbrev new_station : Station
  new_station = in_state k.after k.station

  called_end : other ≡ place → EndStep place input w w' other port e
  called_end same =
      let one : k.station ≡ e.station =
      same_there w.stations place k.station e.station k.here (ap (slice_get w.stations) (sym same) ∙ e.here) in
      let old : SystemState = k.station.system in
      let is : old ≡ e.station.system = ap (λ (x : Station). x.system) one in
      let there : number old.ports port.port ≡ Some e.state =
      ap (λ (x : SystemState). number x.ports port.port) is ∙ e.there in
      let kept : Keeps old k.after = (steps_sound input w.time old k.after k.sends answer k.steps).kept in
      let (q', stands, part) = port_after input w.time old k.after k.sends answer port.port e.state k.steps there in
      let setups : k.station.setup ≡ e.station.setup = ap (λ (x : Station). x.setup) one in
      let as_set : old.params ≡ k.station.setup.params =
      ap (λ (x : SystemState). x.params) is ∙ e.set_up.params ∙ sym (ap (λ (x : Setup). x.params) setups) in
      let measures : IsMeasuring old.params port (measure_at e.state) =
      subst (λ p. IsMeasuring p port (measure_at e.state)) (sym (as_set ∙ ap (λ (x : Setup). x.params) setups))
      e.measures in
      let measures_on : IsMeasuring k.station.setup.params port (measure_at q') =
      subst (λ p. IsMeasuring p port (measure_at q')) as_set
      (part_measures old w.time input port.port port (measure_at e.state) (measure_at q') (given same) part measures) in
      record {
        after = record {
          station = new_station;
          state = q';
          here = ap (λ (v : WorldState). slice_get v.stations other) k.is
              ∙ ap (slice_get (slice_set w.stations place new_station)) same
              ∙ get-set_same w.stations place k.station new_station k.here;
          live = k.live;
          set_up = record {
            params = kept.params ∙ as_set;
            phase = kept.phase ∙ ap (λ (x : SystemState). x.phase) is ∙ e.set_up.phase
                ∙ sym (ap (λ (x : Setup). x.phase) setups);
            drift = kept.drift ∙ ap (λ (x : SystemState). x.drift) is ∙ e.set_up.drift
                ∙ sym (ap (λ (x : Setup). x.drift) setups);
            seed = kept.seed ∙ ap (λ (x : SystemState). x.seed) is ∙ e.set_up.seed
                ∙ sym (ap (λ (x : Setup). x.seed) setups);
            named = kept.same_clock ∙ ap clock is ∙ e.set_up.named
                ∙ sym (ap (λ (x : Setup). clock_of x.identity) setups);
          };
          named = kept.same_clock ∙ ap clock is ∙ e.named;
          there = stands;
          measures = measures_on;
        };
        setup = setups;
        part = inl (
          same,
          subst (λ (x : SystemState). IsPartAfter x w.time input port.port (measure_at e.state)
              (measure_at q')) is part,
        );
      }

  left_end : other ≢ place → EndStep place input w w' other port e
  left_end apart = record {
    after = record {
      station = e.station;
      state = e.state;
      here = ap (λ (v : WorldState). slice_get v.stations other) k.is
          ∙ get-set_other w.stations place other new_station apart ∙ e.here;
      live = e.live;
      set_up = e.set_up;
      named = e.named;
      there = e.there;
      measures = e.measures;
    };
    setup = refl;
    part = inr (apart, refl);
  }

  pub call_end : EndStep place input w w' other port e
  call_end = elim (same_place other place) [ inl same ↦ called_end same | inr apart ↦ left_end apart ]
