-- At time 0, as a network starts, nothing is measured or told, and nothing in flight is due: every act keeps it that
-- tells nothing.
use Rattle.std.specs.Prelude.{⊤}
use Rattle.std.proofs.Common.{◌≡◌, ◌≢◌, inl, inr, ◌≤◌, ◌+◌, ℕ, true, false, List, [], ◌∷◌, ◌++◌, length, Option, Some, None, slice_get, slice_set, refl, sym, ap, subst, ◌∙◌, arith, zero, suc}
use Rattle.std.specs.List.{range_with_len}
use Rattle.std.proofs.Math.Nat.{le-max_left}
use Rattle.std.proofs.lemmas.Option.{same_Some, none-some}
use Rattle.gptp_lists.specs.Members.{In}
use Rattle.gptp_lists.proofs.MappedLemmas.{mapped}
use Rattle.gptp_lists.proofs.PlaceLemmas.{get-set_all, get-set_other, get-set_same, same_place}
use Rattle.gptp_lists.proofs.SystemSpecLemmas.{In-parts}
use Rattle.gptp_vector.specs.declared.port.PortId.{PortId}
use Rattle.gptp_links.specs.declared.link.Direction.{Direction}
use Rattle.gptp_links.specs.declared.link.Direction.TheVariants.{FromA, FromB}
use Rattle.gptp_links.specs.declared.bounds.Bounds.{Bounds}
use Rattle.gptp_links.specs.Bounds.{IsLawful}
use Rattle.gptp_links.specs.Fate.{Draw}
use Rattle.gptp_links.specs.Queue.{Frame, due_after, frame, newest_due}
use Rattle.gptp_system.specs.declared.answer.Answer.{Answer}
use Rattle.gptp_system.specs.declared.sending.Sending.{Sending}
use Rattle.gptp_system.specs.Input.{Expires, Frame as FrameHeard, Input, IsTimely, PortDown, PortUp, Priority}
use Rattle.gptp_system.specs.State.{SystemState, own, trace, number, due}
use Rattle.gptp_system.proofs.SentLemmas.{steps_send}
use Rattle.gptp_system.proofs.TimelyLemmas.{moment_of}
use Rattle.gptp_setup.specs.declared.timer.Timer.TheVariants as timers
use Rattle.gptp_pdelay_machine.specs.Messages.{Reply}
use Rattle.gptp_scenario.specs.declared.change.Act.{Act}
use Rattle.gptp_scenario.specs.declared.change.Act.TheVariants.{Change as Changing}
use Rattle.gptp_scenario.specs.declared.network.LinkSpec.{LinkSpec}
use Rattle.gptp_scenario.specs.Network.{IsNetwork, NetworkState}
use Rattle.gptp_setup.specs.SettlingParams.{SettlingParams}
use Rattle.gptp_model.specs.Act.{Calls, all_timers, in_state}
use Rattle.gptp_model.specs.Changing.{brought_up, lost, taken_down, with_setup, fresh}
use Rattle.gptp_model.specs.Acts.{Acts}
use Rattle.gptp_model.specs.Course.{Begun}
use Rattle.gptp_model.specs.declared.done.Done.{Done}
use Rattle.gptp_model.specs.declared.station.Station.{Station}
use Rattle.gptp_model.specs.Initial.{channel_from, initial}
use Rattle.gptp_model.specs.Sends.{SendsAll, SendsOne, entered, written}
use Rattle.gptp_model.specs.Sound.{AreApart, IsSound}
use Rattle.gptp_model.specs.World.{Channel, Net, WorldState, sender, with_queue, world_queue}
use Rattle.gptp_model.proofs.StayLemmas.{Stays, calls_stay, stays_apart, taken_down_stays, brought_up_stays}
use Rattle.gptp_bmca_machine.specs.Frame.{Announce, AnnounceFrame, Lane}
use Rattle.gptp_invariants.specs.ChoiceSettlesAsMachine.{IsWorld}
use Rattle.gptp_invariants.specs.ChoiceView.{lane_place, lane_view, says_announce, view}
use Rattle.gptp_invariants.specs.DelayLinkView.{reads_as_reply, LinkPlace, other_direction}
use Rattle.gptp_invariants.specs.WorldEncodableLaws.{SetsAnOctet}
use Rattle.gptp_invariants.proofs.ChoiceSeenLaneLemmas.{lane_from, lane_there}
use Rattle.gptp_invariants.proofs.ChoiceTouchLemmas.{InputFits}
use Rattle.gptp_invariants.proofs.DelayLinkOctetLemmas.{replies_not}
use Rattle.gptp_invariants.proofs.DelaySentLemmas.{answering_input}
use Rattle.gptp_invariants.proofs.WorldActEncodableLemmas.{answering_kept, initial_encodable}
use Rattle.gptp_model.proofs.ActsByLemmas.{Elementary, IsGiven, SaysWhatIsKnown, acts_by, starts_by}
use Rattle.gptp_invariants.proofs.WorldAnsweringLemmas.{IsAnswering, sound_answers}
use Rattle.gptp_invariants.proofs.WorldSoundCallLemmas.{setups_of}
use Rattle.gptp_invariants.proofs.UnmeasuredLemmas.{unmeasured_off}
use Rattle.gptp_invariants.specs.FailedUnanswered.{IsOff, IsUnansweredAt, IsUnmeasured}
use Rattle.gptp_system.specs.declared.port.Port.{Port}
use Rattle.std.specs.Option.{option_and_then}
use Rattle.gptp_settling_time.specs.EventKinds.{TellsNothing}
use Rattle.gptp_settling_time.proofs.UntoldLemmas.{HasMeasuredNothing, IsUntold, MeasuresNothing, answering, call_untold, initial_untold, started_unmeasured}

-- ---- nothing in flight is due

-- octets say no reply to a request
abbrev pub SaysNoReply : List ℕ → Type 0
SaysNoReply octets = (r : Reply) → reads_as_reply octets r → ⊥

-- a frame takes time on the link, and none in flight on it is due at time 0, or is a reply
pub record IsAhead (channel : Channel) : Type 0 where
  pub least : 1 ≤ channel.bounds.min
  pub frames : (direction : Direction) (f : Frame) → In f (world_queue direction channel) → 1 ≤ f.due
  pub mute : (direction : Direction) (f : Frame) → In f (world_queue direction channel) → SaysNoReply f.octets

abbrev pub AreAhead : List Channel → Type 0
AreAhead channels = (link : ℕ) (channel : Channel) → slice_get channels link ≡ Some channel → IsAhead channel

more : (So : Frame → Type 0) (fs : List Frame) (g : Frame) → So g → ((f : Frame) → In f fs → So f) → (f : Frame)
    → In f (fs ++ g ∷ []) → So f
more So fs g so each f member = elim (In-parts f fs (g ∷ []) member) [
  | inl old ↦ each f old
  | inr new ↦ elim new [ inl same ↦ subst So (sym same) so | inr none ↦ absurd none ]
]

-- what is so of each frame, and of one more
queued_so : (So : Frame → Type 0) (direction : Direction) (g : Frame) (channel : Channel) → So g
    → ((way : Direction) (f : Frame) → In f (world_queue way channel) → So f) → (way : Direction) (f : Frame)
    → In f (world_queue way (with_queue direction (world_queue direction channel ++ g ∷ []) channel)) → So f
queued_so So FromA g channel so each FromA f member = more So channel.from_a g so (each FromA) f member
queued_so So FromA g channel so each FromB f member = each FromB f member
queued_so So FromB g channel so each FromA f member = each FromA f member
queued_so So FromB g channel so each FromB f member = more So channel.from_b g so (each FromB) f member

queued_ahead : (direction : Direction) (g : Frame) (channel : Channel) → 1 ≤ g.due → SaysNoReply g.octets
    → IsAhead channel → IsAhead (with_queue direction (world_queue direction channel ++ g ∷ []) channel)
queued_ahead direction g channel late mute is = record {
  least = subst (λ (b : Bounds). 1 ≤ b.min) (sym (same_bounds direction)) is.least;
  frames = queued_so (λ f. 1 ≤ f.due) direction g channel late is.frames;
  mute = queued_so (λ f. SaysNoReply f.octets) direction g channel mute is.mute;
}
  where
    same_bounds : (way : Direction)
        → (with_queue way (world_queue way channel ++ g ∷ []) channel).bounds ≡ channel.bounds
    same_bounds FromA = refl
    same_bounds FromB = refl

entered_ahead : (place : ℕ) (direction : Direction) (channel : Channel) (now : ℕ) (octets : List ℕ)
    (answer : Option ℕ) (net : Net) → slice_get net.channels place ≡ Some channel → IsLawful channel.bounds answer
    → SaysNoReply octets → AreAhead net.channels
    → AreAhead (entered place direction channel now octets answer net).channels
entered_ahead place direction channel now octets None net here lawful mute ahead = ahead
entered_ahead place direction channel now octets (Some delay) net here lawful mute ahead =
    let queue : List Frame = world_queue direction channel in
    let is = ahead place channel here in
    let least = is.least in
    let fits = lawful.0 in
    let after : now + delay ≤ due_after queue now delay = le-max_left (now + delay) (newest_due queue) in
    get-set_all IsAhead net.channels place channel
    (with_queue direction (queue ++ frame (due_after queue now delay) octets ∷ []) channel) here
    (queued_ahead direction (frame (due_after queue now delay) octets) channel (omega (arith, least, fits, after)) mute
    is)
    ahead

sent_ahead : (now : ℕ) (from : PortId) (octets : List ℕ) (draw : Draw) (net net' : Net)
    → SendsOne now from octets draw net net' → SaysNoReply octets → AreAhead net.channels → AreAhead net'.channels
sent_ahead now from octets draw net net' one mute ahead =
    subst (λ (n : Net). AreAhead n.channels) (sym one.after)
    (entered_ahead one.place one.direction one.channel now octets draw.answer net one.here
    (subst (λ b. IsLawful b draw.answer) one.bounds one.lawful) mute ahead)

all_ahead : (now : ℕ) (s : SystemState) (xs : List Sending) (draws : List Draw) (net net' : Net)
    → SendsAll now s xs draws net net' → ((x : Sending) → In x xs → SaysNoReply (written s x)) → AreAhead net.channels
    → AreAhead net'.channels
all_ahead now s [] draws net net' sends mute ahead = subst (λ (n : Net). AreAhead n.channels) (sym sends.1) ahead
all_ahead now s (x ∷ xs) draws net net' (inl (draw, rest, between, is, one, sends)) mute ahead =
    all_ahead now s xs rest between net' sends (λ y member. mute y (inr member))
    (sent_ahead now (own s x.port) (written s x) draw net between one (mute x (inl refl)) ahead)
all_ahead now s (x ∷ xs) draws net net' (inr (unlinked, sends)) mute ahead =
    all_ahead now s xs draws net net' sends (λ y member. mute y (inr member)) ahead

called_ahead : (place : ℕ) (input : Input) (w : WorldState) (draws : List Draw) (answer : Answer) (w' : WorldState)
    → (k : Calls place input w draws answer w') → IsTimely k.station.system w.time input
    → ((n : ℕ) → input ≢ Expires (timers.Respond n)) → AreAhead w.net.channels → AreAhead w'.net.channels
called_ahead place input w draws answer w' k timely other ahead =
    let sent = steps_send input w.time k.station.system k.after k.sends answer timely k.steps in
    subst (λ (v : WorldState). AreAhead v.net.channels) (sym k.is)
    (all_ahead w.time k.after k.sends draws (all_timers place (in_state k.after k.station) w.net) k.net k.sent
    (λ x member.
    replies_not (trace k.after) x.head x.body (λ kind.
    other x.port (answering_input k.station.system w.time input k.sends sent x member kind))) ahead)

-- ---- worlds at time 0 in which nothing is told, and each system can be called

record CanBeCalled (w : WorldState) : Type 0 where
  now : w.time ≡ 0
  answers : IsAnswering w
  apart : AreApart w
  untold : IsUntold w
  ahead : AreAhead w.net.channels

-- acts that tell nothing, and set an octet
abbrev pub SetsQuietly : Act → Type 0
SetsQuietly (Changing change) = SetsAnOctet (Changing change) × TellsNothing (Changing change)
SetsQuietly act = ⊤

-- no frame is heard
abbrev IsQuietlyGiven : Input → ℕ → SystemState → Type 0
IsQuietlyGiven input now s = IsGiven ⊤ SetsQuietly (λ octets. ⊥) input now s

measures_nothing : (input : Input) → SaysWhatIsKnown SetsQuietly (λ octets. ⊥) input → MeasuresNothing input
measures_nothing (PortUp p) says = tt
measures_nothing (PortDown p) says = tt
measures_nothing (FrameHeard p octets) says = absurd says
measures_nothing (Expires timer) says = tt
measures_nothing (Priority value) says = tt

sets_an_octet : (input : Input) → SaysWhatIsKnown SetsQuietly (λ octets. ⊥) input → InputFits input
sets_an_octet (PortUp p) says = tt
sets_an_octet (PortDown p) says = tt
sets_an_octet (FrameHeard p octets) says = absurd says
sets_an_octet (Expires timer) says = tt
sets_an_octet (Priority value) (number, (octet, tells)) = octet

-- no Respond timer runs where no request is to be answered
respond_stopped : (station : Station) (n now : ℕ) → HasMeasuredNothing station
    → due (timers.Respond n) station.system ≡ Some now → ⊥
respond_stopped station zero now nothing is = none-some now is
respond_stopped station (suc i) now nothing is = by (slice_get station.system.ports i) refl is
  where
    by : (o : Option Port) → slice_get station.system.ports i ≡ o
        → option_and_then (λ (q : Port). q.respond) o ≡ Some now → ⊥
    by None stands is_due = none-some now is_due
    by (Some q) stands is_due = none-some now (sym (nothing i q stands).1 ∙ is_due)

called_on : (place : ℕ) (input : Input) (w : WorldState) (draws : List Draw) (answer : Answer) (w' : WorldState)
    (k : Calls place input w draws answer w') → IsQuietlyGiven input w.time k.station.system → CanBeCalled w
    → CanBeCalled w'
called_on place input w draws answer w' k given can = record {
  now = ap (λ (v : WorldState). v.time) k.is ∙ can.now;
  answers = answering place input w draws answer w' k nothing timely fits can.answers can.apart can.untold;
  apart = stays_apart w w' (calls_stay place input w draws answer w' (setups_of w can.answers) k) can.apart;
  untold = call_untold place input w draws answer w' k nothing timely fits can.answers can.apart can.untold;
  ahead = called_ahead place input w draws answer w' k timely silent can.ahead;
}
  where
    nothing : MeasuresNothing input
    nothing = measures_nothing input given.says

    fits : InputFits input
    fits = sets_an_octet input given.says

    timely : IsTimely k.station.system w.time input
    timely = given.timely tt

    silent : (n : ℕ) → input ≢ Expires (timers.Respond n)
    silent n same =
        let (t, runs, past) = moment_of (due (timers.Respond n) k.station.system) w.time
        (subst (IsTimely k.station.system w.time) same timely) in
        respond_stopped k.station n t (can.untold.measured place k.station k.here) runs

-- ---- a link becomes another

-- a link becomes another on which no more is in flight
module _ (w : WorldState) (can : CanBeCalled w) (place : ℕ) (old new : Channel)
    (here : slice_get w.net.channels place ≡ Some old) (net : Net)
    (net_is : net.channels ≡ slice_set w.net.channels place new) (answers : IsAnswering (record w { net = net }))
    (fewer : (direction : Direction) (f : Frame) → In f (world_queue direction new)
    → In f (world_queue direction old))
    (seen : (direction : Direction) (f : AnnounceFrame) → In f (lane_view direction new).frames
    → In f (lane_view direction old).frames)
    (least : new.bounds.min ≡ old.bounds.min) (stays : Stays w (record w { net = net })) where
  abbrev other : WorldState
  other = record w { net = net }

  other_lanes : (j : ℕ) (l : Lane) (f : AnnounceFrame) (a : Announce) → slice_get (view other).lanes j ≡ Some l
      → In f l.frames → says_announce f.octets a → ⊥
  other_lanes j l f a there member said =
      let x = lane_from net.channels j l there in
      let among : In f (lane_view x.direction x.channel).frames = subst (λ (y : Lane). In f y.frames) x.is member in
      let stands : slice_get (slice_set w.net.channels place new) x.link ≡ Some x.channel =
      subst (λ cs. slice_get cs x.link ≡ Some x.channel) net_is x.here in
      elim (same_place x.link place) [
        | inl same ↦
            let one : x.channel ≡ new =
            same_Some x.channel new
            (sym stands ∙ ap (slice_get (slice_set w.net.channels place new)) same
            ∙ get-set_same w.net.channels place old new here) in
            can.untold.lanes (lane_place place x.direction) (lane_view x.direction old) f a
            (lane_there w.net.channels place x.direction old here)
            (seen x.direction f (subst (λ c. In f (lane_view x.direction c).frames) one among)) said
        | inr apart ↦
            can.untold.lanes (lane_place x.link x.direction) (lane_view x.direction x.channel) f a
            (lane_there w.net.channels x.link x.direction x.channel
            (sym (get-set_other w.net.channels place x.link new apart) ∙ stands))
            among said
      ]

  relinked : CanBeCalled other
  relinked = record {
    now = can.now;
    answers = answers;
    apart = stays_apart w other stays can.apart;
    untold = record { measured = can.untold.measured; lanes = other_lanes };
    ahead = subst AreAhead (sym net_is)
        (get-set_all IsAhead w.net.channels place old new here
        (let is = can.ahead place old here in
        let before = is.least in
        record {
          least = omega (arith, before, least);
          frames = λ direction f member. is.frames direction f (fewer direction f member);
          mute = λ direction f member. is.mute direction f (fewer direction f member);
        })
        can.ahead);
  }

none_in_flight : (direction : Direction) (channel : Channel) (f : Frame)
    → In f (world_queue direction (lost channel)) → ⊥
none_in_flight FromA channel f member = member
none_in_flight FromB channel f member = member

none_seen : (direction : Direction) (channel : Channel) (f : AnnounceFrame)
    → In f (lane_view direction (lost channel)).frames → ⊥
none_seen FromA channel f member = member
none_seen FromB channel f member = member

same_queue : (direction : Direction) (channel : Channel) (f : Frame)
    → In f (world_queue direction (record channel { up = true })) → In f (world_queue direction channel)
same_queue FromA channel f member = member
same_queue FromB channel f member = member

same_seen : (direction : Direction) (channel : Channel) (f : AnnounceFrame)
    → In f (lane_view direction (record channel { up = true })).frames → In f (lane_view direction channel).frames
same_seen FromA channel f member = member
same_seen FromB channel f member = member

-- ---- every elementary step

quiet_kept : Elementary ⊤ SetsQuietly (λ octets. ⊥) CanBeCalled
quiet_kept = record {
  system_called = called_on;
  frame_taken = λ link direction octets channel w net k can.
      let late = (can.ahead link channel k.here).frames direction (frame w.time octets)
      (subst (In (frame w.time octets)) (sym k.front) (inl refl)) in
      let now = can.now in
      absurd (omega (arith, late, now));
  timer_stopped = λ place timer w can. record {
    now = can.now;
    answers = answering_kept.timer_stopped place timer w can.answers;
    apart = can.apart;
    untold = record { measured = can.untold.measured; lanes = can.untold.lanes };
    ahead = can.ahead;
  };
  link_down = λ place channel w here can.
      relinked w can place channel (lost channel) here (taken_down place channel w.net) refl
      (answering_kept.link_down place channel w here can.answers)
      (λ direction f member. absurd (none_in_flight direction channel f member))
      (λ direction f member. absurd (none_seen direction channel f member)) refl
      (taken_down_stays place channel w here (setups_of w can.answers));
  link_up = λ place channel w here can.
      relinked w can place channel (record channel { up = true }) here (brought_up place channel w.net) refl
      (answering_kept.link_up place channel w here can.answers) (λ direction f. same_queue direction channel f)
      (λ direction f. same_seen direction channel f) refl
      (brought_up_stays place channel w here (setups_of w can.answers));
  link_set = λ number port least greatest loss place channel w here sets now can. absurd sets.1;
  system_failed = λ place station w here can. record {
    now = can.now;
    answers = answering_kept.system_failed place station w here can.answers;
    apart = can.apart;
    untold = record {
      measured = get-set_all HasMeasuredNothing w.stations place station (record station { live = false }) here
          (λ i q there. can.untold.measured place station here i q there) can.untold.measured;
      lanes = can.untold.lanes;
    };
    ahead = can.ahead;
  };
  system_started = λ place station w here can. record {
    now = can.now;
    answers = answering_kept.system_started place station w here can.answers;
    apart = can.apart;
    untold = record {
      measured = get-set_all HasMeasuredNothing w.stations place station (fresh w.time station) here
          (started_unmeasured station.setup w.time true) can.untold.measured;
      lanes = can.untold.lanes;
    };
    ahead = can.ahead;
  };
  priority_set = λ number value place station w here sets can. record {
    now = can.now;
    answers = answering_kept.priority_set number value place station w here sets.0 can.answers;
    apart = can.apart;
    untold = record {
      measured = get-set_all HasMeasuredNothing w.stations place station (with_setup value station) here
          (λ i q there. can.untold.measured place station here i q there) can.untold.measured;
      lanes = can.untold.lanes;
    };
    ahead = can.ahead;
  };
  octets_injected = λ number port octets w draws w' sets k can. absurd sets.1;
  change_counted = λ w can. record {
    now = can.now;
    answers = answering_kept.change_counted w can.answers;
    apart = can.apart;
    untold = record { measured = can.untold.measured; lanes = can.untold.lanes };
    ahead = can.ahead;
  };
}

-- ---- acts and starts

-- nothing is told, and nothing in flight is due at time 0
pub record IsQuietYet (w : WorldState) : Type 0 where
  pub untold : IsUntold w
  pub ahead : AreAhead w.net.channels

pub quiet_acts : (p : SettlingParams) (act : Act) (w : WorldState) (draws : List Draw) (done : Done) (w' : WorldState)
    → w.time ≡ 0 → SetsQuietly act → Acts act w draws done w' → IsWorld p w → IsQuietYet w → IsQuietYet w'
quiet_acts p act w draws done w' now sets k is quiet =
    let can = acts_by quiet_kept act w draws done w' (λ known. is.sound.wired) sets k (record {
      now = now;
      answers = sound_answers w is.sound is.encodable;
      apart = is.sound.wired.apart;
      untold = quiet.untold;
      ahead = quiet.ahead;
    }) in
    record { untold = can.untold; ahead = can.ahead }

initial_ahead : (n : NetworkState) → IsSound (initial n) → AreAhead (initial n).net.channels
initial_ahead n sound link channel here =
    let (wire, stood, made) = mapped channel_from n.links link channel here in
    record {
      least = (sound.on_time.links link channel here).positive;
      frames = λ direction f member.
          absurd (still wire direction f (subst (λ (c : Channel). In f (world_queue direction c)) (sym made) member));
      mute = λ direction f member.
          absurd (still wire direction f (subst (λ (c : Channel). In f (world_queue direction c)) (sym made) member));
    }
  where
    still : (wire : LinkSpec) (direction : Direction) (f : Frame) → In f (world_queue direction (channel_from wire)) → ⊥
    still wire FromA f member = member
    still wire FromB f member = member

-- the world of a network begins so
pub begun_quiet : {F : Type 0} (answers : Bounds → ℕ → F → Option ℕ → F → Type 0) (n : NetworkState)
    (fate fate_after : F) (w : WorldState) → IsNetwork n → IsSound (initial n) → Begun answers n fate fate_after w
    → IsQuietYet w
begun_quiet answers n fate fate_after w network sound k =
    let can = starts_by quiet_kept (range_with_len 0 (length n.systems)) (initial n) k.draws w k.starts (record {
      now = refl;
      answers = sound_answers (initial n) sound (initial_encodable n network);
      apart = sound.wired.apart;
      untold = initial_untold n;
      ahead = initial_ahead n sound;
    }) in
    record { untold = can.untold; ahead = can.ahead }

-- ---- beside failed systems

-- a port beside a failed system is off
pub starting_off : (w : WorldState) → IsQuietYet w → (at : LinkPlace) → IsUnansweredAt at w → IsOff at w
starting_off w quiet at l = record {
  link = l;
  mute = (quiet.ahead at.link l.channel l.here).mute (other_direction at.direction);
  off = unmeasured_off l.asking.state.peer (by (sender at.direction l.channel).port l.asking.there);
}
  where
    by : (n : ℕ) → number l.asking.station.system.ports n ≡ Some l.asking.state → IsUnmeasured l.asking.state.peer
    by zero there = absurd (none-some l.asking.state there)
    by (suc i) there =
        (quiet.untold.measured at.asking l.asking.station l.asking.here i l.asking.state there).0
