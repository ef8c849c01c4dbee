-- What a call makes of a link that loses nothing: the parts of its two ends, and what is sent onto it.
use Rattle.std.proofs.Common.{◌≡◌, ◌≢◌, ◌⊎◌, ◌+◌, ◌^◌, ◌<◌, ◌≤◌, ℕ, zero, suc, List, [], ◌∷◌, Some, length, slice_get, refl, sym, ap, subst, ◌∙◌, inl, inr, arith}
use Rattle.std.specs.Option.{option_map_or}
use Rattle.std.proofs.lemmas.Nat.{mod_below}
use Rattle.std.proofs.lemmas.Option.{none-some, slice_get_within}
use Rattle.gptp_lists.specs.Members.{In}
use Rattle.gptp_lists.proofs.SystemSpecLemmas.{In-parts}
use Rattle.gptp_vector.specs.declared.port.PortId.{PortId}
use Rattle.gptp_messages.specs.Frame.{PortFits}
use Rattle.gptp_links.specs.declared.bounds.Bounds.{Bounds}
use Rattle.gptp_links.specs.declared.link.Direction.{Direction}
use Rattle.gptp_links.specs.declared.link.Direction.TheVariants.{FromA, FromB}
use Rattle.gptp_links.specs.Fate.{Draw}
use Rattle.gptp_links.specs.Queue.{Frame}
use Rattle.gptp_pdelay.specs.Clock.{clock_stamp}
use Rattle.gptp_pdelay.specs.GoodLink.{IsGoodLink}
use Rattle.gptp_system.specs.declared.answer.Answer.{Answer}
use Rattle.gptp_system.specs.declared.port.Port.{Port}
use Rattle.gptp_system.specs.declared.sending.Sending.{Sending}
use Rattle.gptp_system.specs.Input.{Input, IsTimely}
use Rattle.gptp_setup.specs.declared.setup.Params.{Params}
use Rattle.gptp_setup.specs.Intervals.{AreParams, interval_of}
use Rattle.gptp_setup.specs.Stamping.{blur_of}
use Rattle.gptp_system.specs.Measures.{measure_at}
use Rattle.gptp_system.specs.Messages.{AreSent}
use Rattle.gptp_system.specs.State.{SystemState, clock, number, own, stamp_time}
use Rattle.gptp_system.proofs.SentLemmas.{steps_send}
use Rattle.gptp_model.specs.declared.station.Station.{Station}
use Rattle.gptp_model.specs.Act.{Calls, all_timers, in_state}
use Rattle.gptp_model.specs.Sound.{AreApart, HaveOwnClocks, HaveTheirSetups, IsSound}
use Rattle.gptp_model.specs.World.{Channel, Net, WorldState, world_queue, receiver, sender}
use Rattle.gptp_lists.proofs.MappedLemmas.{same_there}
use Rattle.gptp_lists.proofs.PlaceLemmas.{same_place}
use Rattle.gptp_model.proofs.SteadyLemmas.{same_clock}
use Rattle.gptp_model.proofs.StayLemmas.{JoinTheSame, begins_same, sender_same}
use Rattle.gptp_invariants.specs.DelayLinkView.{IsEndOf, IsLinkOf, LinkPlace, RequestFits, RequestSaysWhatFits, link_identity, other_direction, link_setting, IsAsSetUp, IsGoodBetween, setup_stamps}
use Rattle.gptp_invariants.proofs.DelayEndLemmas.{EndStep, HearsWhatFits, PartStep, call_end, renamed}
use Rattle.gptp_invariants.specs.ChoiceSaid.{said_at}
use Rattle.gptp_invariants.proofs.DelayLinkLaneLemmas.{Grows, GrowsIn, IsAlone, same_false, sends_grow}
use Rattle.gptp_invariants.proofs.DelaySentLemmas.{next_of, octets_of, sent_fits}

-- ---- what is used of a sound world

-- systems are their own, at each port there is one link at most, and all parameters are in their ranges
pub record IsOrderly (w : WorldState) : Type 0 where
  pub setups : HaveTheirSetups w
  pub clocks : HaveOwnClocks w
  pub apart : AreApart w
  pub params : (place : ℕ) (station : Station) → slice_get w.stations place ≡ Some station
      → AreParams station.system.params

pub sound_orderly : (w : WorldState) → IsSound w → IsOrderly w
sound_orderly w is = record {
  setups = is.wired.setups;
  clocks = is.wired.clocks;
  apart = is.wired.apart;
  params = λ place station here. (is.on_time.stations place station here).steady.params;
}

-- it stays so where what is between the systems changes, and the links join what they joined
pub net_orderly : (w : WorldState) (net : Net) → JoinTheSame w.net.channels net.channels → IsOrderly w
    → IsOrderly (record w { net = net })
net_orderly w net joins is = record {
  setups = is.setups;
  clocks = is.clocks;
  apart = λ link other direction way channel at here there same.
      let one = joins link channel here in
      let two = joins other at there in
      is.apart link other direction way one.old two.old one.here two.here
      (sym (begins_same w.net.channels link direction channel one) ∙ same
      ∙ begins_same w.net.channels other way at two);
  params = is.params;
}

-- ---- the ends of a link

pub receiver_same : (direction : Direction) (old new : Channel) → new.a ≡ old.a → new.b ≡ old.b
    → receiver direction new ≡ receiver direction old
receiver_same FromA old new a b = b
receiver_same FromB old new a b = a

pub sender_opposite : (direction : Direction) (channel : Channel)
    → sender (other_direction direction) channel ≡ receiver direction channel
sender_opposite FromA channel = refl
sender_opposite FromB channel = refl

-- a link whose ends are one port sends where it receives
pub one_end : (direction : Direction) (channel : Channel) → channel.a ≡ channel.b
    → sender direction channel ≡ receiver direction channel
one_end FromA channel e = e
one_end FromB channel e = sym e

-- the two ends of a link are of two clocks
pub clocks_apart : (at : LinkPlace) (w : WorldState) (l : IsLinkOf at w) → HaveOwnClocks w
    → (sender at.direction l.channel).clock ≢ (receiver at.direction l.channel).clock
clocks_apart at w l clocks e =
    l.apart (clocks at.asking at.answering l.asking.station l.answering.station l.asking.here l.answering.here
    (l.asking.named ∙ e ∙ sym l.answering.named))

ends_apart : (at : LinkPlace) (w : WorldState) (l : IsLinkOf at w) → HaveOwnClocks w → l.channel.a ≢ l.channel.b
ends_apart at w l clocks e =
    clocks_apart at w l clocks (ap (λ (p : PortId). p.clock) (one_end at.direction l.channel e))

-- a system stamps its clock as it is set up
pub stamped_as_set_up : (station : Station) → IsAsSetUp station → (t : ℕ)
    → stamp_time station.system t ≡ setup_stamps station.setup t
stamped_as_set_up station is t = λ i. clock_stamp
    (record {
      granularity = (is.params i).granularity;
      most_noise = (is.params i).noise;
      seed = is.seed i;
      clock = is.named i;
    }) (is.phase i) (is.drift i) t

-- a link that is good in a network is good between two of its systems
pub good_between : (most : ℕ) (p asking answering : Params) → asking ≡ p → answering ≡ p
    → IsGoodLink (most + blur_of p) p.turnaround p.threshold → IsGoodBetween most asking answering
good_between most p asking answering asks answers good =
    let alike : IsGoodBetween most p p = record { short = good; granularity = refl; noise = refl } in
    subst (λ q. IsGoodBetween most q answering) (sym asks) (subst (IsGoodBetween most p) (sym answers) alike)

-- each direction begins at an end
record BeginsAt (channel : Channel) (direction : Direction) (w : WorldState) : Type 0 where
  place : ℕ
  end : IsEndOf place (sender direction channel) w

begins_at : (channel : Channel) (w : WorldState) (asking answering : ℕ) (way direction : Direction)
    → IsEndOf asking (sender way channel) w → IsEndOf answering (receiver way channel) w
    → BeginsAt channel direction w
begins_at channel w asking answering FromA FromA x y = record { place = asking; end = x }
begins_at channel w asking answering FromA FromB x y = record { place = answering; end = y }
begins_at channel w asking answering FromB FromA x y = record { place = answering; end = y }
begins_at channel w asking answering FromB FromB x y = record { place = asking; end = x }

-- ---- ports

pub number_within : {X : Type 0} (xs : List X) (n : ℕ) (x : X) → number xs n ≡ Some x → n ≤ length xs
number_within xs zero x there = absurd (none-some x there)
number_within xs (suc i) x there = let within = slice_get_within xs i x there in omega arith

-- the port of an end, and the request that it would send, fit
pub end_fits : (place : ℕ) (port : PortId) (w : WorldState) → HaveTheirSetups w → (e : IsEndOf place port w)
    → PortFits port
end_fits place port w setups e =
    let its = setups place e.station e.here in
    let count : length e.station.system.ports ≡ e.station.setup.ports = its.ports in
    let few = its.few in
    let inside = number_within e.station.system.ports port.port e.state e.there in
    let small = mod_below e.station.system.identity (2 ^ 64) (omega arith) in
    let clocks : clock e.station.system ≡ port.clock = e.named in
    record { clock = subst (λ n. n < 2 ^ 64) clocks small; port = omega arith }

pub end_named : (place : ℕ) (port : PortId) (w : WorldState) (e : IsEndOf place port w)
    → own e.station.system port.port ≡ port
end_named place port w e = λ i. record { clock = e.named i; port = port.port }

pub end_next : (place : ℕ) (port : PortId) (w : WorldState) (e : IsEndOf place port w)
    → next_of e.station.system port.port ≡ e.state.peer.next
end_next place port w e = ap (λ o. option_map_or (λ (q : Port). q.peer.next) o 0) e.there

pub end_request : (place : ℕ) (port : PortId) (w : WorldState) → HaveTheirSetups w → (e : IsEndOf place port w)
    → RequestFits (own e.station.system port.port) (next_of e.station.system port.port)
end_request place port w setups e = record {
  from = subst PortFits (sym (end_named place port w e)) (end_fits place port w setups e);
  numbered = subst (λ n. n < 2 ^ 16) (sym (end_next place port w e)) e.measures.next;
}

-- a system sends nothing at the port of another clock
pub none_said : (s : SystemState) (port : PortId) (xs : List Sending) → clock s ≢ port.clock → said_at s port xs ≡ []
none_said s port [] other = refl
none_said s port (x ∷ xs) other =
    let off = same_false (own s x.port) port (λ e. other (ap (λ (p : PortId). p.clock) e)) in
    rw off (none_said s port xs other)

-- ---- the link after a call

pub record LinkStep (at : LinkPlace) (place : ℕ) (input : Input) (w w' : WorldState) (l : IsLinkOf at w)
    (s s' : SystemState) (sends : List Sending) : Type 0 where
  pub after : IsLinkOf at w'
  pub settled : link_setting at w' after ≡ link_setting at w l
  pub time : w'.time ≡ w.time
  pub asking : PartStep place input w.time at.asking l.asking.station.system
      (sender at.direction l.channel).port (measure_at l.asking.state) (measure_at after.asking.state)
  pub answering : PartStep place input w.time at.answering l.answering.station.system
      (receiver at.direction l.channel).port (measure_at l.answering.state) (measure_at after.answering.state)
  pub period : after.asking.station.setup ≡ l.asking.station.setup
  pub sent : AreSent s w.time input sends
  pub elsewhere : (other : ℕ) (port : PortId) → IsEndOf other port w → other ≢ place → said_at s' port sends ≡ []
  pub grows : Grows w.time l.channel (λ direction. said_at s' (sender direction l.channel) sends) after.channel

module _ (at : LinkPlace) (place : ℕ) (input : Input) (w : WorldState) (draws : List Draw) (answer : Answer)
    (w' : WorldState) (k : Calls place input w draws answer w') (timely : IsTimely k.station.system w.time input)
    (orderly : IsOrderly w) (l : IsLinkOf at w)
    (asker_given : at.asking ≡ place → HearsWhatFits (sender at.direction l.channel).port input)
    (answerer_given : at.answering ≡ place → HearsWhatFits (receiver at.direction l.channel).port input) where
  abbrev said : Direction → List (List ℕ)
  said direction = said_at k.after (sender direction l.channel) k.sends

  abbrev timers_net : Net
  timers_net = all_timers place (in_state k.after k.station) w.net

  alone : IsAlone at.link l.channel timers_net
  alone = record {
    here = l.here;
    only = λ other direction way one there same.
        orderly.apart other at.link way direction one l.channel there l.here same;
    ends = ends_apart at w l orderly.clocks;
  }

  grown : GrowsIn w.time at.link l.channel said k.net
  grown =
      sends_grow w.time k.after k.sends draws timers_net k.net at.link l.channel alone
      (record { up = l.up; lossless = l.lossless }) k.sent

  are_sent : AreSent k.station.system w.time input k.sends
  are_sent = steps_send input w.time k.station.system k.after k.sends answer timely k.steps

  -- the system sends nothing from the end of another
  none_elsewhere : (other : ℕ) (port : PortId) → IsEndOf other port w → other ≢ place
      → said_at k.after port k.sends ≡ []
  none_elsewhere other port e apart =
      let named : clock k.after ≡ clock k.station.system =
      same_clock input w.time k.station.system k.after k.sends answer k.steps in
      none_said k.after port k.sends
      (λ same. apart (orderly.clocks other place e.station k.station e.here k.here (e.named ∙ sym same ∙ named)))

  -- what the system sends at this end fits, where it is its own, and is nothing elsewhere
  said_fits : (direction : Direction) → BeginsAt l.channel direction w → (octets : List ℕ) → In octets (said direction)
      → RequestSaysWhatFits octets
  said_fits direction b octets member = by (same_place b.place place)
    where
      by : (b.place ≡ place) ⊎ (b.place ≢ place) → RequestSaysWhatFits octets
      by (inl same) =
          let port : PortId = sender direction l.channel in
          let one : k.station ≡ b.end.station =
          same_there w.stations place k.station b.end.station k.here
          (ap (slice_get w.stations) (sym same) ∙ b.end.here) in
          let fits : RequestFits (own k.station.system port.port) (next_of k.station.system port.port) =
          subst (λ (x : Station). RequestFits (own x.system port.port) (next_of x.system port.port)) (sym one)
          (end_request b.place port w orderly.setups b.end) in
          sent_fits k.station.system k.after w.time input k.sends port are_sent
          (orderly.params place k.station k.here).pdelay fits octets member
      by (inr apart) =
          absurd (subst (In octets) (none_elsewhere b.place (sender direction l.channel) b.end apart) member)

  fit : (direction : Direction) (f : Frame) → In f (world_queue direction grown.new) → RequestSaysWhatFits f.octets
  fit direction f member =
      by (In-parts f (world_queue direction l.channel) (grown.grows.news direction)
      (subst (In f) (grown.grows.queues direction) member))
    where
      among : (fs : List Frame) → In f fs → In f.octets (octets_of fs)
      among [] h = absurd h
      among (one ∷ fs) (inl here) = inl (ap (λ (x : Frame). x.octets) here)
      among (one ∷ fs) (inr later) = inr (among fs later)

      by : In f (world_queue direction l.channel) ⊎ In f (grown.grows.news direction) → RequestSaysWhatFits f.octets
      by (inl old) = l.fit direction f old
      by (inr added) =
          said_fits direction (begins_at l.channel w at.asking at.answering at.direction direction l.asking l.answering)
          f.octets (subst (In f.octets) (grown.grows.said direction) (among (grown.grows.news direction) added))

  asking_step : EndStep place input w w' at.asking (sender at.direction l.channel) l.asking
  asking_step =
      call_end place input w draws answer w' k at.asking (sender at.direction l.channel) l.asking asker_given

  answering_step : EndStep place input w w' at.answering (receiver at.direction l.channel) l.answering
  answering_step =
      call_end place input w draws answer w' k at.answering (receiver at.direction l.channel) l.answering
      answerer_given

  same_sender : sender at.direction grown.new ≡ sender at.direction l.channel
  same_sender = sender_same at.direction l.channel grown.new grown.grows.a grown.grows.b

  same_receiver : receiver at.direction grown.new ≡ receiver at.direction l.channel
  same_receiver = receiver_same at.direction l.channel grown.new grown.grows.a grown.grows.b

  most_same : grown.new.bounds.max ≡ l.channel.bounds.max
  most_same = ap (λ (b : Bounds). b.max) grown.grows.bounds

  good_on : IsGoodBetween grown.new.bounds.max asking_step.after.station.setup.params
      answering_step.after.station.setup.params
  good_on = rw (most_same, asking_step.setup, answering_step.setup) l.good

  abbrev link_after : IsLinkOf at w'
  link_after = record {
    channel = grown.new;
    here = ap (λ (v : WorldState). slice_get v.net.channels at.link) k.is ∙ grown.alone.here;
    up = grown.grows.up ∙ l.up;
    lossless = ap (λ (b : Bounds). b.loss) grown.grows.bounds ∙ l.lossless;
    asking = renamed at.asking (sender at.direction l.channel) (sender at.direction grown.new) w' (sym same_sender)
        asking_step.after;
    answering = renamed at.answering (receiver at.direction l.channel) (receiver at.direction grown.new) w'
        (sym same_receiver) answering_step.after;
    apart = l.apart;
    good = good_on;
    fit = fit;
  }

  pub link_called : LinkStep at place input w w' l k.station.system k.after k.sends
  link_called = record {
    after = link_after;
    settled = λ i. record {
      asking = link_identity (same_sender i);
      answering = link_identity (same_receiver i);
      most = most_same i;
      turnaround = (answering_step.setup i).params.turnaround;
      period = interval_of (asking_step.setup i).params.pdelay;
      allowed = (asking_step.setup i).params.lost;
      window = (asking_step.setup i).params.window;
      asking_clock = setup_stamps (asking_step.setup i);
      answering_clock = setup_stamps (answering_step.setup i);
    };
    time = ap (λ (v : WorldState). v.time) k.is;
    asking = asking_step.part;
    answering = answering_step.part;
    period = asking_step.setup;
    sent = are_sent;
    elsewhere = none_elsewhere;
    grows = grown.grows;
  }
