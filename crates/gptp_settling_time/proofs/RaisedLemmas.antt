-- A link that comes up: nothing of what is seen of systems and of other lanes is another, and nothing is told on it.
use Rattle.std.proofs.Common.{◌≡◌, ◌≢◌, ◌⊎◌, ℕ, zero, suc, true, false, List, [], map, Option, Some, None, slice_get, refl, sym, ap, subst, ◌∙◌, inl, inr, arith}
use Rattle.std.proofs.lemmas.Option.{same_Some}
use Rattle.gptp_lists.specs.Members.{In}
use Rattle.gptp_lists.proofs.MappedLemmas.{same_there}
use Rattle.gptp_lists.proofs.PlaceLemmas.{get-set_other, get-set_same, member_there, same_place}
use Rattle.gptp_graph.specs.Snapshot.{PortIdentity, port_of}
use Rattle.gptp_vector.specs.declared.port.PortId.{PortId}
use Rattle.gptp_links.specs.declared.link.Direction.{Direction}
use Rattle.gptp_links.specs.declared.link.Direction.TheVariants.{FromA, FromB}
use Rattle.gptp_links.specs.Fate.{Draw}
use Rattle.gptp_pdelay.specs.Peer.{is_capable}
use Rattle.gptp_setup.specs.SettlingParams.{SettlingParams}
use Rattle.gptp_system.specs.declared.answer.Answer.{Answer}
use Rattle.gptp_system.specs.declared.port.Port.{Port}
use Rattle.gptp_system.specs.Input.{PortUp}
use Rattle.gptp_system.specs.State.{clock, number}
use Rattle.gptp_system.specs.Steps.{HasPortNumber, IsUp}
use Rattle.gptp_system.specs.Measures.{Part, measure_at}
use Rattle.gptp_system.proofs.MeasureLemmas.{steps_measure}
use Rattle.gptp_model.specs.Sound.{HaveOwnClocks}
use Rattle.gptp_model.proofs.SteadyLemmas.{same_clock}
use Rattle.gptp_model.specs.Act.{Calls, in_state}
use Rattle.gptp_model.specs.Changing.{CallsIfLive, TellsEnds, brought_up}
use Rattle.gptp_model.specs.declared.station.Station.{Station}
use Rattle.gptp_model.specs.World.{Channel, WorldState, sender, world_queue}
use Rattle.gptp_model.proofs.StayLemmas.{brought_up_stays, stays_apart}
use Rattle.gptp_bmca_machine.specs.Frame.{Announce, AnnounceFrame, Lane}
use Rattle.gptp_invariants.specs.ChoiceSettlesAsMachine.{IsWorld}
use Rattle.gptp_invariants.specs.ChoiceView.{frame_view, lane_place, lane_view, lanes_view, port_identity_number, says_announce, touch_view, view}
use Rattle.gptp_bmca_machine.specs.Station.{Station as SeenStation}
use Rattle.gptp_invariants.proofs.ChoicePlaceLemmas.{station_from}
use Rattle.gptp_invariants.proofs.ChoiceSeenCallLemmas.{calls_seen}
use Rattle.gptp_invariants.proofs.ChoiceSeenLaneLemmas.{lane_from, lane_there}
use Rattle.gptp_invariants.proofs.ChoiceSendLemmas.{lanes_apart}
use Rattle.gptp_invariants.proofs.ChoiceTakeUpLemmas.{BeginApart, begin_apart}
use Rattle.gptp_invariants.proofs.WorldAnsweringLemmas.{IsAnswering, calls_answering}
use Rattle.gptp_invariants.proofs.WorldActEncodableLemmas.{answering_kept}
use Rattle.gptp_invariants.proofs.WorldAnsweringLemmas.{sound_answers}
use Rattle.gptp_invariants.proofs.DelayFirstUpLemmas.{sender_up}
use Rattle.gptp_invariants.specs.FailedUnanswered.{IsUnmeasured, is_answered}
use Rattle.gptp_invariants.proofs.UnmeasuredLemmas.{part_unmeasured, unmeasured_off}
use Rattle.gptp_settling_time.proofs.MasterLemmas.{BeginsAtMaster, WasOnLane, answered, master_capable}
use Rattle.gptp_settling_time.proofs.QuietUpLemmas.{RaisesAlone, raises}

-- ---- the ports of a link that is down have measured nothing

module _ (p : SettlingParams) (w : WorldState) (is : IsWorld p w) (place : ℕ) (channel : Channel)
    (here : slice_get w.net.channels place ≡ Some channel) (down : channel.up ≡ false) (direction : Direction) where
  abbrev end : PortId
  end = sender direction channel

  module _ (at : ℕ) (station : Station) (stands : slice_get w.stations at ≡ Some station)
      (live : station.live ≡ true) (named : clock station.system ≡ end.clock) where
    -- its Pdelay timer doesn't run
    not_up : IsUp station.system end.port → ⊥
    not_up up =
        let begins = is.known.links at station stands live end.port up in
        let own : sender begins.direction begins.channel ≡ end =
        begins.begins ∙ (λ i. record { clock = named i; port = end.port }) in
        let link : begins.link ≡ place =
        is.sound.wired.apart begins.link place begins.direction direction begins.channel channel begins.here here own in
        let same : begins.channel ≡ channel =
        same_there w.net.channels place begins.channel channel (ap (slice_get w.net.channels) (sym link) ∙ begins.here)
        here in
        let on : channel.up ≡ true = ap (λ (c : Channel). c.up) (sym same) ∙ begins.up in
        cc

    pub unmeasured_at : (i : ℕ) (q : Port) → end.port ≡ suc i → slice_get station.system.ports i ≡ Some q
        → IsUnmeasured q.peer
    unmeasured_at i q numbered there = by q.pdelay refl
      where
        by : (due : Option ℕ) → q.pdelay ≡ due → IsUnmeasured q.peer
        by None none =
            let idle = (is.known.measuring at station stands live i q there).idle none in
            (idle.last, ap is_answered idle.progress)
        by (Some t) runs =
            absurd (not_up (subst (IsUp station.system) (sym numbered) (rw (there, runs) refl)))

    -- there is such a port
    record IsThere : Type 0 where
      q : Port
      there : number station.system.ports end.port ≡ Some q
      none : q.peer.last ≡ None

    has_port : IsThere
    has_port = by end.port refl (is.sound.wired.ports place at direction channel station here stands named)
      where
        by : (n : ℕ) → end.port ≡ n → HasPortNumber station.system n → IsThere
        by zero is_n of = let least = of.least in absurd (omega arith)
        by (suc i) is_n of =
            let most = of.most in
            let (q, there) = member_there station.system.ports i (omega arith) in
            record {
              q = q;
              there = ap (number station.system.ports) is_n ∙ there;
              none = (unmeasured_at i q is_n there).0;
            }

  -- so none of them is a master port
  pub not_master : (l : Lane) → BeginsAtMaster (view w) l → l.from ≡ port_identity_number end → ⊥
  not_master l master begins =
      let port = master_capable w (λ at station there. (is.sound.on_time.stations at station there).steady.shown) l
      master in
      let from : port_of master.s.clock master.port ≡ port_identity_number end = sym master.from ∙ begins in
      let at = station_from w.stations master.place master.s master.here in
      let one : at.station ≡ port.station =
      same_there w.stations master.place at.station port.station at.here port.here in
      let live : port.station.live ≡ true =
      ap (λ (x : Station). x.live) (sym one) ∙ ap (λ (x : SeenStation). x.live) (sym at.is) ∙ master.live in
      let none = unmeasured_at master.place port.station port.here live
      (port.named ∙ ap (λ (x : PortIdentity). x.clock) from) port.at port.state
      (ap (λ (x : PortIdentity). x.port) (sym from) ∙ port.port_is) port.there in
      let off : is_capable port.state.peer ≡ false = unmeasured_off port.state.peer none in
      let on = port.capable in
      cc

-- ---- both ends are told

-- a call leaves the clock
same_call_clock : (place p : ℕ) (w : WorldState) (draws : List Draw) (answer : Answer) (w' : WorldState)
    → (k : Calls place (PortUp p) w draws answer w') → clock k.after ≡ clock k.station.system
same_call_clock place p w draws answer w' k =
    same_clock (PortUp p) w.time k.station.system k.after k.sends answer k.steps

-- nothing is told
raises_none : (from : PortIdentity) (w w' : WorldState) → w' ≡ w → RaisesAlone from w w'
raises_none from w w' same =
    subst (RaisesAlone from w) (sym same)
    (record { time = refl; stations = refl; lanes = λ j l' at other. at; begin = λ j l' at. (l', at, refl) })

-- what a call of an end tells on a lane comes from a master port
told_by_call : (place p : ℕ) (w : WorldState) (draws : List Draw) (answer : Answer) (w' : WorldState)
    → Calls place (PortUp p) w draws answer w' → IsAnswering w → BeginApart (lanes_view w.net.channels)
    → ((k : Calls place (PortUp p) w draws answer w') → HasPortNumber k.station.system p)
    → (j : ℕ) (l' : Lane) (f : AnnounceFrame) (a : Announce) → slice_get (view w').lanes j ≡ Some l' → In f l'.frames
    → says_announce f.octets a → WasOnLane (view w) j f ⊎ BeginsAtMaster (view w') l'
told_by_call place p w draws answer w' k is apart of j l' f a at member said =
    let old = is.stations place k.station k.here in
    let c = calls_seen place (PortUp p) w draws answer w' k old.steady old.its (of k)
    (is.encodable.stations place k.station k.here).system tt apart in
    answered says_announce j f a said (touch_view c.touch) (view w) (view w') c.call l' at member

-- What is seen of a link that came up, by its ends before: systems and other lanes are as they were, and nothing is
-- told on its own.
pub record IsRaised (channel : Channel) (w w' : WorldState) : Type 0 where
  pub time : w'.time ≡ w.time
  pub stations : (view w').stations ≡ (view w).stations
  pub lanes : (j : ℕ) (l' : Lane) → slice_get (view w').lanes j ≡ Some l'
      → ((direction : Direction) → l'.from ≢ port_identity_number (sender direction channel))
      → slice_get (view w).lanes j ≡ Some l'
  pub untold : (direction : Direction) (j : ℕ) (l' : Lane) (f : AnnounceFrame) (a : Announce)
      → slice_get (view w').lanes j ≡ Some l' → l'.from ≡ port_identity_number (sender direction channel)
      → In f l'.frames → says_announce f.octets a → ⊥

module _ (p : SettlingParams) (w : WorldState) (is : IsWorld p w) (place : ℕ) (channel : Channel)
    (here : slice_get w.net.channels place ≡ Some channel) (down : channel.up ≡ false) where
  abbrev new : Channel
  new = record channel { up = true }

  abbrev v : WorldState
  v = record w { net = brought_up place channel w.net; last_change = w.time }

  answering : IsAnswering v
  answering =
      answering_kept.link_up place channel (record w { last_change = w.time }) here
      (answering_kept.change_counted w (sound_answers w is.sound is.encodable))

  apart : BeginApart (lanes_view v.net.channels)
  apart =
      lanes_apart v
      (stays_apart w (record w { net = brought_up place channel w.net })
      (brought_up_stays place channel w here is.sound.wired.setups) is.sound.wired.apart)
      (λ link other there. (answering.encodable.links link other there).ends)

  -- the lane of another link stands as it did
  other_lanes : (j : ℕ) (l' : Lane) → slice_get (view v).lanes j ≡ Some l'
      → ((direction : Direction) → l'.from ≢ port_identity_number (sender direction channel))
      → slice_get (view w).lanes j ≡ Some l'
  other_lanes j l' at other =
      let x = lane_from v.net.channels j l' at in
      elim (same_place x.link place) [
        | inl same ↦
            let one : x.channel ≡ new =
            same_Some x.channel new
            (sym x.here ∙ ap (slice_get v.net.channels) same
            ∙ get-set_same w.net.channels place channel new here) in
            absurd (other x.direction (ap (λ (l : Lane). l.from) x.is
            ∙ ap (λ c. port_identity_number (sender x.direction c)) one
            ∙ ap port_identity_number (sender_up x.direction channel)))
        | inr apart_of ↦
            let stood : slice_get w.net.channels x.link ≡ Some x.channel =
            sym (get-set_other w.net.channels place x.link new apart_of) ∙ x.here in
            ap (slice_get (lanes_view w.net.channels)) x.at
            ∙ lane_there w.net.channels x.link x.direction x.channel stood
            ∙ ap (λ l. Some l) (sym x.is)
      ]

  -- nothing is in flight on its own
  none_flies : (direction : Direction) (j : ℕ) (l' : Lane) (f : AnnounceFrame) → slice_get (view v).lanes j ≡ Some l'
      → l'.from ≡ port_identity_number (sender direction channel) → In f l'.frames → ⊥
  none_flies direction j l' f at begins member =
      let place_there = get-set_same w.net.channels place channel new here in
      let its = lane_view direction new in
      let there = lane_there v.net.channels place direction new place_there in
      let same_lane : j ≡ lane_place place direction =
      apart j (lane_place place direction) l' its at there
      (begins ∙ ap port_identity_number (sym (sender_up direction channel))) in
      let one : l' ≡ its =
      same_Some l' its (sym at ∙ ap (slice_get (view v).lanes) same_lane ∙ there) in
      let empty = (is.sound.wired.flow place direction channel here).still down in
      nothing direction f empty (subst (λ (l : Lane). In f l.frames) one member)
    where
      nothing : (direction : Direction) (f : AnnounceFrame) → world_queue direction channel ≡ []
          → In f (lane_view direction new).frames → ⊥
      nothing FromA f empty member = absurd (subst (λ q. In f (map frame_view q)) empty member)
      nothing FromB f empty member = absurd (subst (λ q. In f (map frame_view q)) empty member)

  module _ (draws : List Draw) (w' : WorldState) (k : TellsEnds PortUp channel v draws w') where
    -- the ends are different systems
    ends_apart : k.place_a ≢ k.place_b
    ends_apart same =
        let one : k.station_a ≡ k.station_b =
        same_there w.stations k.place_b k.station_a k.station_b
        (ap (slice_get w.stations) (sym same) ∙ k.is_a.here) k.is_b.here in
        (is.between place channel here).apart
        (sym k.is_a.named ∙ ap (λ (x : Station). clock x.system) one ∙ k.is_b.named)

    -- a call of the first end
    module _ (answer : Answer) (c : Calls k.place_a (PortUp channel.a.port) v k.first answer k.between) where
      station_a : c.station ≡ k.station_a
      station_a = same_there w.stations k.place_a c.station k.station_a c.here k.is_a.here

      named_a : clock c.station.system ≡ channel.a.clock
      named_a = ap (λ (x : Station). clock x.system) station_a ∙ k.is_a.named

      port_a : IsThere p w is place channel here down FromA k.place_a c.station c.here c.live named_a
      port_a = has_port p w is place channel here down FromA k.place_a c.station c.here c.live named_a

      of_a : HasPortNumber c.station.system channel.a.port
      of_a = is.sound.wired.ports place k.place_a FromA channel c.station here c.here named_a

      raises_a : RaisesAlone (port_identity_number channel.a) v k.between
      raises_a =
          subst (λ n. RaisesAlone (port_of n channel.a.port) v k.between) named_a
          (raises k.place_a channel.a.port v k.first answer k.between c port_a.q port_a.there port_a.none apart)

      answering_a : IsAnswering k.between
      answering_a = calls_answering k.place_a (PortUp channel.a.port) v k.first answer k.between answering c of_a tt

      stands_b : slice_get k.between.stations k.place_b ≡ slice_get w.stations k.place_b
      stands_b =
          ap (λ (x : WorldState). slice_get x.stations k.place_b) c.is
          ∙ get-set_other w.stations k.place_a k.place_b (in_state c.after c.station) (λ same. ends_apart (sym same))

    -- what stands between
    record IsBetween : Type 0 where
      raised : RaisesAlone (port_identity_number channel.a) v k.between
      answers : IsAnswering k.between
      stands : slice_get k.between.stations k.place_b ≡ slice_get w.stations k.place_b
      told : (j : ℕ) (l' : Lane) (f : AnnounceFrame) (a : Announce) → slice_get (view k.between).lanes j ≡ Some l'
          → In f l'.frames → says_announce f.octets a → WasOnLane (view v) j f ⊎ BeginsAtMaster (view k.between) l'

    between : CallsIfLive k.place_a (PortUp channel.a.port) v k.first k.between → IsBetween
    between (inl (answer, c)) = record {
      raised = raises_a answer c;
      answers = answering_a answer c;
      stands = stands_b answer c;
      told = told_by_call k.place_a channel.a.port v k.first answer k.between c answering apart
          (λ other. subst (λ (x : Station). HasPortNumber x.system channel.a.port)
          (same_there w.stations k.place_a c.station other.station c.here other.here) (of_a answer c));
    }
    between (inr (failed, none, same)) = record {
      raised = raises_none (port_identity_number channel.a) v k.between same;
      answers = subst IsAnswering (sym same) answering;
      stands = ap (λ (x : WorldState). slice_get x.stations k.place_b) same;
      told = λ j l' f a at member said.
          inl (record {
            lane = l';
            there = ap (λ (x : WorldState). slice_get (view x).lanes j) (sym same) ∙ at;
            among = member;
          });
    }

    mid : IsBetween
    mid = between k.at_a

    mid_apart : BeginApart (lanes_view k.between.net.channels)
    mid_apart = begin_apart (lanes_view v.net.channels) (lanes_view k.between.net.channels) mid.raised.begin apart

    -- a call of the second end
    module _ (answer : Answer) (c : Calls k.place_b (PortUp channel.b.port) k.between k.second answer w') where
      here_b : slice_get w.stations k.place_b ≡ Some c.station
      here_b = sym mid.stands ∙ c.here

      station_b : c.station ≡ k.station_b
      station_b = same_there w.stations k.place_b c.station k.station_b here_b k.is_b.here

      named_b : clock c.station.system ≡ channel.b.clock
      named_b = ap (λ (x : Station). clock x.system) station_b ∙ k.is_b.named

      port_b : IsThere p w is place channel here down FromB k.place_b c.station here_b c.live named_b
      port_b = has_port p w is place channel here down FromB k.place_b c.station here_b c.live named_b

      of_b : HasPortNumber c.station.system channel.b.port
      of_b = is.sound.wired.ports place k.place_b FromB channel c.station here here_b named_b

      raises_b : RaisesAlone (port_identity_number channel.b) k.between w'
      raises_b =
          subst (λ n. RaisesAlone (port_of n channel.b.port) k.between w') named_b
          (raises k.place_b channel.b.port k.between k.second answer w' c port_b.q port_b.there port_b.none mid_apart)

    -- what stands at the end
    record IsEnd : Type 0 where
      raised : RaisesAlone (port_identity_number channel.b) k.between w'
      told : (j : ℕ) (l' : Lane) (f : AnnounceFrame) (a : Announce) → slice_get (view w').lanes j ≡ Some l'
          → In f l'.frames → says_announce f.octets a → WasOnLane (view k.between) j f ⊎ BeginsAtMaster (view w') l'

    ends : CallsIfLive k.place_b (PortUp channel.b.port) k.between k.second w' → IsEnd
    ends (inl (answer, c)) = record {
      raised = raises_b answer c;
      told = told_by_call k.place_b channel.b.port k.between k.second answer w' c mid.answers mid_apart
          (λ other. subst (λ (x : Station). HasPortNumber x.system channel.b.port)
          (same_there k.between.stations k.place_b c.station other.station c.here other.here) (of_b answer c));
    }
    ends (inr (failed, none, same)) = record {
      raised = raises_none (port_identity_number channel.b) k.between w' same;
      told = λ j l' f a at member said.
          inl (record {
            lane = l';
            there = ap (λ (x : WorldState). slice_get (view x).lanes j) (sym same) ∙ at;
            among = member;
          });
    }

    last : IsEnd
    last = ends k.at_b

    -- a master port of what is seen now was one before
    master_before : (u : WorldState) → (view u).stations ≡ (view w).stations → (l : Lane) → BeginsAtMaster (view u) l
        → BeginsAtMaster (view w) l
    master_before u same l m = record {
      place = m.place;
      s = m.s;
      here = ap (λ xs. slice_get xs m.place) (sym same) ∙ m.here;
      live = m.live;
      port = m.port;
      from = m.from;
      master = m.master;
    }

    none_told : (direction : Direction) (j : ℕ) (l' : Lane) (f : AnnounceFrame) (a : Announce)
        → slice_get (view w').lanes j ≡ Some l' → l'.from ≡ port_identity_number (sender direction channel)
        → In f l'.frames → says_announce f.octets a → ⊥
    none_told direction j l' f a at begins member said =
        elim (last.told j l' f a at member said) [
          | inl was ↦ earlier was
          | inr master ↦ not_master p w is place channel here down direction l'
              (master_before w' (last.raised.stations ∙ mid.raised.stations) l' master) begins
        ]
      where
        earlier : WasOnLane (view k.between) j f → ⊥
        earlier was =
            let (l, stood, from) = last.raised.begin j l' at in
            let one : was.lane ≡ l = same_Some was.lane l (sym was.there ∙ stood) in
            let begins_there : was.lane.from ≡ port_identity_number (sender direction channel) =
            ap (λ (x : Lane). x.from) one ∙ sym from ∙ begins in
            elim (mid.told j was.lane f a was.there was.among said) [
              | inl first ↦
                  let (m, at_first, from_first) = mid.raised.begin j was.lane was.there in
                  let same : first.lane ≡ m = same_Some first.lane m (sym first.there ∙ at_first) in
                  none_flies direction j first.lane f first.there
                  (ap (λ (x : Lane). x.from) same ∙ sym from_first ∙ begins_there) first.among
              | inr master ↦ not_master p w is place channel here down direction was.lane
                  (master_before k.between mid.raised.stations was.lane master) begins_there
            ]

    -- the ports of the link have measured nothing
    module _ (own : HaveOwnClocks w') where
      after_call : (direction : Direction) (place : ℕ) (u u' : WorldState) (draws : List Draw) (answer : Answer)
          → u.time ≡ w.time
          → (c : Calls place (PortUp (sender direction channel).port) u draws answer u')
          → (stands : slice_get w.stations place ≡ Some c.station)
          → (named : clock c.station.system ≡ (sender direction channel).clock)
          → (i : ℕ) (q : Port) → (sender direction channel).port ≡ suc i → slice_get c.after.ports i ≡ Some q
          → IsUnmeasured q.peer
      after_call direction at u u' draws answer same c stands named i q numbered there =
          let port = (sender direction channel).port in
          let (old, stood, part) = steps_measure (PortUp port) u.time c.station.system c.after c.sends answer c.steps
          i q
          there in
          let un = unmeasured_at p w is place channel here down direction at c.station stands c.live named i old
          numbered
          stood in
          subst IsUnmeasured (ap (λ (x : Part). x.peer) (sym part))
          (part_unmeasured c.station.system u.time port (suc i) (measure_at old) un)

      stands_a : (answer : Answer) (c : Calls k.place_a (PortUp channel.a.port) v k.first answer k.between)
          → slice_get w'.stations k.place_a ≡ Some (in_state c.after c.station)
      stands_a answer c = by k.at_b
        where
          now : slice_get k.between.stations k.place_a ≡ Some (in_state c.after c.station)
          now =
              ap (λ (x : WorldState). slice_get x.stations k.place_a) c.is
              ∙ get-set_same w.stations k.place_a c.station (in_state c.after c.station) c.here

          by : CallsIfLive k.place_b (PortUp channel.b.port) k.between k.second w'
              → slice_get w'.stations k.place_a ≡ Some (in_state c.after c.station)
          by (inl (other, d)) =
              ap (λ (x : WorldState). slice_get x.stations k.place_a) d.is
              ∙ get-set_other k.between.stations k.place_b k.place_a (in_state d.after d.station) ends_apart
              ∙ now
          by (inr (failed, none, same)) = ap (λ (x : WorldState). slice_get x.stations k.place_a) same ∙ now

      -- a failed end isn't live
      failed_a : slice_get w'.stations k.place_a ≡ slice_get k.between.stations k.place_a
      failed_a = by k.at_b
        where
          by : CallsIfLive k.place_b (PortUp channel.b.port) k.between k.second w'
              → slice_get w'.stations k.place_a ≡ slice_get k.between.stations k.place_a
          by (inl (other, d)) =
              ap (λ (x : WorldState). slice_get x.stations k.place_a) d.is
              ∙ get-set_other k.between.stations k.place_b k.place_a (in_state d.after d.station) ends_apart
          by (inr (failed, none, same)) = ap (λ (x : WorldState). slice_get x.stations k.place_a) same

      unmeasured_a : (at : ℕ) (station : Station) → slice_get w'.stations at ≡ Some station → station.live ≡ true
          → clock station.system ≡ channel.a.clock → (i : ℕ) (q : Port) → channel.a.port ≡ suc i
          → slice_get station.system.ports i ≡ Some q → IsUnmeasured q.peer
      unmeasured_a at station stands live named i q numbered there = by k.at_a
        where
          by : CallsIfLive k.place_a (PortUp channel.a.port) v k.first k.between → IsUnmeasured q.peer
          by (inl (answer, c)) =
              let now = stands_a answer c in
              let place_is : at ≡ k.place_a =
              own at k.place_a station (in_state c.after c.station) stands now
              (named ∙ sym (same_call_clock k.place_a channel.a.port v k.first answer k.between c ∙ named_a answer
              c)) in
              let one : station ≡ in_state c.after c.station =
              same_Some station (in_state c.after c.station) (sym stands ∙ ap (slice_get w'.stations) place_is ∙ now) in
              after_call FromA k.place_a v k.between k.first answer refl c c.here (named_a answer c) i q numbered
              (ap (λ (x : Station). slice_get x.system.ports i) (sym one) ∙ there)
          by (inr (failed, none, same)) =
              let stood : slice_get w'.stations k.place_a ≡ Some k.station_a =
              failed_a ∙ ap (λ (x : WorldState). slice_get x.stations k.place_a) same ∙ k.is_a.here in
              let place_is : at ≡ k.place_a =
              own at k.place_a station k.station_a stands stood (named ∙ sym k.is_a.named) in
              let one : station ≡ k.station_a =
              same_Some station k.station_a (sym stands ∙ ap (slice_get w'.stations) place_is ∙ stood) in
              let other : failed.station ≡ k.station_a =
              same_Some failed.station k.station_a (sym failed.here ∙ k.is_a.here) in
              let dead : station.live ≡ false = ap (λ (x : Station). x.live) (one ∙ sym other) ∙ failed.failed in
              absurd (let both = sym live ∙ dead in cc)

      unmeasured_b : (at : ℕ) (station : Station) → slice_get w'.stations at ≡ Some station → station.live ≡ true
          → clock station.system ≡ channel.b.clock → (i : ℕ) (q : Port) → channel.b.port ≡ suc i
          → slice_get station.system.ports i ≡ Some q → IsUnmeasured q.peer
      unmeasured_b at station stands live named i q numbered there = by k.at_b
        where
          by : CallsIfLive k.place_b (PortUp channel.b.port) k.between k.second w' → IsUnmeasured q.peer
          by (inl (answer, c)) =
              let now : slice_get w'.stations k.place_b ≡ Some (in_state c.after c.station) =
              ap (λ (x : WorldState). slice_get x.stations k.place_b) c.is
              ∙ get-set_same k.between.stations k.place_b c.station (in_state c.after c.station) c.here in
              let place_is : at ≡ k.place_b =
              own at k.place_b station (in_state c.after c.station) stands now
              (named ∙ sym (same_call_clock k.place_b channel.b.port k.between k.second answer w' c
              ∙ named_b answer c)) in
              let one : station ≡ in_state c.after c.station =
              same_Some station (in_state c.after c.station) (sym stands ∙ ap (slice_get w'.stations) place_is ∙ now) in
              after_call FromB k.place_b k.between w' k.second answer mid.raised.time c (here_b answer c)
              (named_b answer c) i q numbered (ap (λ (x : Station). slice_get x.system.ports i) (sym one) ∙ there)
          by (inr (failed, none, same)) =
              let stood : slice_get w'.stations k.place_b ≡ Some k.station_b =
              ap (λ (x : WorldState). slice_get x.stations k.place_b) same ∙ mid.stands ∙ k.is_b.here in
              let place_is : at ≡ k.place_b =
              own at k.place_b station k.station_b stands stood (named ∙ sym k.is_b.named) in
              let one : station ≡ k.station_b =
              same_Some station k.station_b (sym stands ∙ ap (slice_get w'.stations) place_is ∙ stood) in
              let other : failed.station ≡ k.station_b =
              same_Some failed.station k.station_b (sym failed.here ∙ mid.stands ∙ k.is_b.here) in
              let dead : station.live ≡ false = ap (λ (x : Station). x.live) (one ∙ sym other) ∙ failed.failed in
              absurd (let both = sym live ∙ dead in cc)

      pub unmeasured_then : (direction : Direction) (at : ℕ) (station : Station)
          → slice_get w'.stations at ≡ Some station → station.live ≡ true
          → clock station.system ≡ (sender direction channel).clock → (i : ℕ) (q : Port)
          → (sender direction channel).port ≡ suc i
          → slice_get station.system.ports i ≡ Some q → IsUnmeasured q.peer
      unmeasured_then FromA = unmeasured_a
      unmeasured_then FromB = unmeasured_b

    pub raised : IsRaised channel w w'
    raised = record {
      time = last.raised.time ∙ mid.raised.time;
      stations = last.raised.stations ∙ mid.raised.stations;
      lanes = λ j l' at other.
          other_lanes j l' (mid.raised.lanes j l' (last.raised.lanes j l' at (other FromB)) (other FromA)) other;
      untold = none_told;
    }
