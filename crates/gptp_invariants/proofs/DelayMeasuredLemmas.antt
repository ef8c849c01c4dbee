-- Calls leave every port measuring and what is in flight fitting, and so does what happens between them.
use Rattle.std.proofs.Common.{◌≡◌, ◌⊎◌, ◌^◌, ◌<◌, ℕ, zero, suc, List, [], ◌∷◌, length, Option, Some, None, slice_get, slice_set, refl, sym, ap, subst, ◌∙◌, inl, inr, arith}
use Rattle.std.specs.Option.{option_map_or}
use Rattle.std.proofs.lemmas.Nat.{mod_below}
use Rattle.std.proofs.lemmas.Option.{none-some}
use Rattle.gptp_lists.specs.Members.{In}
use Rattle.gptp_lists.proofs.SystemSpecLemmas.{In-parts}
use Rattle.gptp_links.specs.declared.link.Direction.{Direction}
use Rattle.gptp_links.specs.declared.link.Direction.TheVariants.{FromA, FromB}
use Rattle.gptp_links.specs.Fate.{Draw}
use Rattle.gptp_links.specs.Queue.{Frame, due_after, frame}
use Rattle.gptp_system.specs.declared.answer.Answer.{Answer}
use Rattle.gptp_system.specs.declared.port.Port.{Port}
use Rattle.gptp_system.specs.declared.sending.Sending.{Sending}
use Rattle.gptp_setup.specs.declared.timer.Timer.TheVariants as timers
use Rattle.gptp_system.specs.Input.{Input, IsTimely, Steps, PortUp, Expires}
use Rattle.gptp_system.specs.Measures.{measure_at}
use Rattle.gptp_system.specs.Messages.{AreSent}
use Rattle.gptp_system.specs.State.{SystemState, due, number, own}
use Rattle.gptp_system.proofs.InTimeLemmas.{stays_in_time}
use Rattle.gptp_system.proofs.MeasureLemmas.{steps_measure}
use Rattle.gptp_system.proofs.SentLemmas.{port_there, steps_send}
use Rattle.gptp_system.proofs.StepLemmas.{steps_sound}
use Rattle.gptp_system.proofs.TimelyLemmas.{moment_of, port_stands}
use Rattle.gptp_model.specs.declared.station.Station.{Station}
use Rattle.gptp_model.specs.Act.{Calls, in_state}
use Rattle.gptp_model.specs.Ahead.{IsSteady}
use Rattle.gptp_model.specs.Sends.{entered, written, SendsAll}
use Rattle.gptp_model.specs.Sound.{HaveTheirSetups, IsItsSetup, IsSound}
use Rattle.gptp_model.specs.World.{Channel, Net, WorldState, world_queue, with_queue}
use Rattle.gptp_lists.proofs.PlaceLemmas.{get-set_all}
use Rattle.gptp_model.proofs.StayLemmas.{calls_stay, stays_setups}
use Rattle.gptp_model.proofs.SteadyLemmas.{steps_steady}
use Rattle.gptp_invariants.specs.DelayMeasured.{AllFit, LinkIsMeasured, IsStationMeasured}
use Rattle.gptp_invariants.specs.DelayLinkView.{IsMeasuring, RequestFits, RequestSaysWhatFits}
use Rattle.gptp_invariants.proofs.DelayEndLemmas.{HearsWhatFits, part_measures}
use Rattle.gptp_invariants.proofs.DelayLinkLemmas.{number_within}
use Rattle.gptp_invariants.proofs.DelaySentLemmas.{asking_input, next_of, written_fits}

-- ---- a system

-- each port of a system goes on measuring
ports_measure : (input : Input) (now : ℕ) (station : Station) (s' : SystemState) (sends : List Sending)
    (answer : Answer)
    → Steps input now station.system s' sends answer → ((n : ℕ) → HearsWhatFits n input)
    → IsStationMeasured now station
    → (n : ℕ) (q' : Port) → number s'.ports n ≡ Some q'
    → IsMeasuring station.setup.params (own s' n) (measure_at q')
ports_measure input now station s' sends answer k given is zero q' there = absurd (none-some q' there)
ports_measure input now station s' sends answer k given is (suc i) q' there =
    let s : SystemState = station.system in
    let (q, was, part) = steps_measure input now s s' sends answer k i q' there in
    let kept = (steps_sound input now s s' sends answer k).kept in
    let before : IsMeasuring s.params (own s (suc i)) (measure_at q) =
    subst (λ p. IsMeasuring p (own s (suc i)) (measure_at q)) (sym is.set_up.params) (is.ports (suc i) q was) in
    let after : IsMeasuring s.params (own s (suc i)) (measure_at q') =
    part_measures s now input (suc i) (own s (suc i)) (measure_at q) (measure_at q') (given (suc i)) part before in
    subst (λ p. IsMeasuring station.setup.params p (measure_at q'))
    (λ j. record { clock = sym kept.same_clock j; port = suc i })
    (subst (λ p. IsMeasuring p (own s (suc i)) (measure_at q')) is.set_up.params after)

step_measured : (input : Input) (now : ℕ) (station : Station) (s' : SystemState) (sends : List Sending)
    (answer : Answer)
    → IsTimely station.system now input → IsSteady station.system
    → Steps input now station.system s' sends answer → ((n : ℕ) → HearsWhatFits n input)
    → IsStationMeasured now station
    → IsStationMeasured now (in_state s' station)
step_measured input now station s' sends answer timely steady k given is =
    let kept = (steps_sound input now station.system s' sends answer k).kept in
    record {
      set_up = record {
        params = kept.params ∙ is.set_up.params;
        phase = kept.phase ∙ is.set_up.phase;
        drift = kept.drift ∙ is.set_up.drift;
        seed = kept.seed ∙ is.set_up.seed;
        named = kept.same_clock ∙ is.set_up.named;
      };
      in_time = stays_in_time input now station.system s' sends answer timely steady.shown steady.rest is.in_time k;
      ports = ports_measure input now station s' sends answer k given is;
    }

-- ---- what it sends

-- the request of a port fits
request_fits : (now : ℕ) (station : Station) → IsItsSetup station → IsStationMeasured now station → (p : ℕ) (q : Port)
    → number station.system.ports p ≡ Some q
    → RequestFits (own station.system p) (next_of station.system p)
request_fits now station its is p q there =
    let count : length station.system.ports ≡ station.setup.ports = its.ports in
    let few = its.few in
    let inside = number_within station.system.ports p q there in
    let small = mod_below station.system.identity (2 ^ 64) (omega arith) in
    let next : next_of station.system p ≡ q.peer.next =
    ap (λ o. option_map_or (λ (one : Port). one.peer.next) o 0) there in
    record {
      from = record { clock = small; port = omega arith };
      numbered = subst (λ n. n < 2 ^ 16) (sym next) (is.ports p q there).next;
    }

sends_fit : (input : Input) (now : ℕ) (station : Station) (s' : SystemState) (sends : List Sending) (answer : Answer)
    → IsTimely station.system now input → IsSteady station.system → IsItsSetup station
    → Steps input now station.system s' sends answer → IsStationMeasured now station
    → (x : Sending) → In x sends → RequestSaysWhatFits (written s' x)
sends_fit input now station s' sends answer timely steady its k is x member =
    written_fits station.system s' now input sends sent steady.params.pdelay x member
    (λ kind. fits (asking_input station.system now input sends sent x member kind))
  where
    sent : AreSent station.system now input sends
    sent = steps_send input now station.system s' sends answer timely k

    fits : (input ≡ Expires (timers.Pdelay x.port)) ⊎ (input ≡ PortUp x.port)
        → RequestFits (own station.system x.port) (next_of station.system x.port)
    fits (inl e) =
        let (t, runs, past) =
        moment_of (due (timers.Pdelay x.port) station.system) now (subst (IsTimely station.system now) e timely) in
        let (q, there) = port_there x.port t station.system runs in
        request_fits now station its is x.port q there
    fits (inr e) =
        let (q, there) = port_stands station.system x.port (subst (IsTimely station.system now) e timely) in
        request_fits now station its is x.port q there

-- ---- what is in flight

-- the frames in flight in one direction become others that fit
pub queue_fits : (channels : List Channel) (link : ℕ) (direction : Direction) (channel : Channel) (frames : List Frame)
    → slice_get channels link ≡ Some channel → ((f : Frame) → In f frames → RequestSaysWhatFits f.octets)
    → AllFit channels
    → AllFit (slice_set channels link (with_queue direction frames channel))
queue_fits channels link direction channel frames here fits all =
    get-set_all (λ (c : Channel). (way : Direction) (f : Frame) → In f (world_queue way c)
    → RequestSaysWhatFits f.octets)
    channels link
    channel (with_queue direction frames channel) here (by direction) all
  where
    by : (d way : Direction) (f : Frame) → In f (world_queue way (with_queue d frames channel))
        → RequestSaysWhatFits f.octets
    by FromA FromA f member = fits f member
    by FromA FromB f member = all link channel here FromB f member
    by FromB FromA f member = all link channel here FromA f member
    by FromB FromB f member = fits f member

pub entered_fits : (place : ℕ) (direction : Direction) (channel : Channel) (now : ℕ) (octets : List ℕ)
    (answer : Option ℕ) (net : Net) → slice_get net.channels place ≡ Some channel → RequestSaysWhatFits octets
    → AllFit net.channels → AllFit (entered place direction channel now octets answer net).channels
entered_fits place direction channel now octets None net here fits all = all
entered_fits place direction channel now octets (Some delay) net here fits all =
    queue_fits net.channels place direction channel _ here
    (λ f member. by f (In-parts f (world_queue direction channel) _ member)) all
  where
    by : (f : Frame) → In f (world_queue direction channel)
        ⊎ In f (frame (due_after (world_queue direction channel) now delay) octets ∷ []) → RequestSaysWhatFits f.octets
    by f (inl old) = all place channel here direction f old
    by f (inr (inl new)) = subst (λ (g : Frame). RequestSaysWhatFits g.octets) (sym new) fits
    by f (inr (inr none)) = absurd none

all_sent_fit : (now : ℕ) (s : SystemState) (xs : List Sending) (draws : List Draw) (net net' : Net)
    → ((x : Sending) → In x xs → RequestSaysWhatFits (written s x)) → AllFit net.channels
    → SendsAll now s xs draws net net'
    → AllFit net'.channels
all_sent_fit now s [] draws net net' fits all (none, same) =
    subst (λ (n : Net). AllFit n.channels) (sym same) all
all_sent_fit now s (x ∷ xs) draws net net' fits all (inl (draw, rest, between, is, one, more)) =
    all_sent_fit now s xs rest between net' (λ y member. fits y (inr member))
    (subst (λ (n : Net). AllFit n.channels) (sym one.after)
    (entered_fits one.place one.direction one.channel now (written s x) draw.answer net one.here (fits x (inl refl))
    all))
    more
all_sent_fit now s (x ∷ xs) draws net net' fits all (inr (none, more)) =
    all_sent_fit now s xs draws net net' (λ y member. fits y (inr member)) all more

-- ---- a call

-- all systems are steady and their own, and their ports measure
pub record IsKept (w : WorldState) : Type 0 where
  pub steady : (place : ℕ) (station : Station) → slice_get w.stations place ≡ Some station → IsSteady station.system
  pub setups : HaveTheirSetups w
  pub measured : LinkIsMeasured w

pub sound_kept : (w : WorldState) → IsSound w → LinkIsMeasured w → IsKept w
sound_kept w sound measured = record {
  steady = λ place station here. (sound.on_time.stations place station here).steady;
  setups = sound.wired.setups;
  measured = measured;
}

pub calls_kept : (place : ℕ) (input : Input) (w : WorldState) (draws : List Draw) (answer : Answer) (w' : WorldState)
    → (k : Calls place input w draws answer w') → IsTimely k.station.system w.time input
    → ((n : ℕ) → HearsWhatFits n input) → IsKept w → IsKept w'
calls_kept place input w draws answer w' k timely given is =
    let steady = is.steady place k.station k.here in
    let its = is.setups place k.station k.here in
    let old = is.measured.stations place k.station k.here in
    let new : Station = in_state k.after k.station in
    let all_steady = get-set_all (λ (x : Station). IsSteady x.system) w.stations place k.station new k.here
    (steps_steady input w.time k.station.system k.after k.sends answer steady k.steps) is.steady in
    let stations = get-set_all (IsStationMeasured w.time) w.stations place k.station new k.here
    (step_measured input w.time k.station k.after k.sends answer timely steady k.steps given old)
    is.measured.stations in
    let frames = all_sent_fit w.time k.after k.sends draws _ k.net
    (sends_fit input w.time k.station k.after k.sends answer timely steady its k.steps old) is.measured.frames k.sent in
    let setups = stays_setups w w' (calls_stay place input w draws answer w' is.setups k) in
    record {
      steady = subst (λ (v : WorldState). (other : ℕ) (x : Station) → slice_get v.stations other ≡ Some x
          → IsSteady x.system) (sym k.is) all_steady;
      setups = setups;
      measured = subst LinkIsMeasured (sym k.is) (record { stations = stations; frames = frames });
    }
