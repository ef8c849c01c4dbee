-- A frame that is delivered arrives at a live system of the machine, or does nothing.
use Rattle.std.proofs.Common.{◌≡◌, ◌≢◌, ◌⊎◌, ℕ, suc, Bool, true, false, List, [], map, Option, Some, None, slice_get, refl, sym, ap, subst, ◌∙◌, inl, inr}
use Rattle.std.specs.Option.{option_map_or}
use Rattle.gptp_lists.specs.Members.{In}
use Rattle.gptp_links.specs.declared.link.Direction.{Direction}
use Rattle.gptp_links.specs.Fate.{Draw}
use Rattle.gptp_links.specs.Queue.{frame}
use Rattle.gptp_messages.specs.declared.announce.AnnounceView.{AnnounceView}
use Rattle.gptp_messages.specs.declared.message.Message.TheVariants as messages
use Rattle.gptp_messages.specs.Grammar.{Reads}
use Rattle.gptp_pdelay.specs.Peer.{is_capable}
use Rattle.gptp_receipt.specs.declared.held.Held.{Held}
use Rattle.gptp_system.specs.declared.answer.Answer.{Answer}
use Rattle.gptp_system.specs.declared.port.Port.{Port}
use Rattle.gptp_system.specs.Facts.{AreShown}
use Rattle.gptp_system.specs.Input.{Frame as FrameHeard}
use Rattle.gptp_system.specs.State.{SystemState, clock, is_capable_at, number}
use Rattle.gptp_system.specs.Touch.{Hear, Grow}
use Rattle.gptp_model.specs.declared.station.Station.{Station}
use Rattle.gptp_model.specs.Act.{Calls, Delivers, HasFailed, Hears, in_state}
use Rattle.gptp_model.specs.Sound.{IsSound}
use Rattle.gptp_model.specs.World.{Net, WorldState, receiver}
use Rattle.gptp_lists.proofs.MappedLemmas.{same_there}
use Rattle.gptp_bmca_machine.specs.Acts.{Arrives, Drops, Pops}
use Rattle.gptp_bmca_machine.specs.Frame.{Announce, Lane}
use Rattle.gptp_bmca_machine.specs.Station.{Disabled, Port as SeenPort, Station as SeenStation}
use Rattle.gptp_bmca_machine.specs.Touch as touches
use Rattle.gptp_invariants.specs.WorldEncodable.{IsEncodable}
use Rattle.gptp_invariants.specs.ChoiceView.{frame_view, held_view, lane_place, lane_view, lanes_view, said, says_announce, span_at, station_view, touch_view, view}
use Rattle.gptp_invariants.proofs.ChoiceSeenCallLemmas.{IsCallSeen, calls_seen}
use Rattle.gptp_invariants.proofs.ChoiceSeenLaneLemmas.{IsSetAt, StandsNow, lane_there, refilled, requeued_lanes}
use Rattle.gptp_invariants.proofs.ChoicePlaceLemmas.{IsPortAt, IsStationAt, port_from, station_from}
use Rattle.gptp_invariants.proofs.ChoiceTakeUpLemmas.{BeginApart, begin_apart}
use Rattle.gptp_invariants.proofs.ChoiceTouchLemmas.{capable_hears, frame_young, grow_back, hear_back, heard_in}
use Rattle.gptp_invariants.proofs.ChoiceSendLemmas.{world_apart}
use Rattle.gptp_model.proofs.ActsByLemmas.{reached_up}

-- a port that isn't Disabled is capable
capable_on : (s : SystemState) (i : ℕ) (h : Held) (q : Port) → AreShown s → slice_get s.held i ≡ Some h
    → slice_get s.ports i ≡ Some q → held_view (span_at s) h ≢ Disabled → is_capable_at s (suc i) ≡ true
capable_on s i h q shown held there on =
    ap (λ o. option_map_or (λ (x : Port). is_capable x.peer) o false) there ∙ by (is_capable q.peer) refl
  where
    by : (b : Bool) → is_capable q.peer ≡ b → b ≡ true
    by true e = refl
    by false e = absurd (on (ap (held_view (span_at s)) ((shown.each i h q held there).off e)))

-- a frame with these octets arrives at this port of this system, and leaves it in this state
pub record IsArrivalAt (station : Station) (after : SystemState) (mid : WorldState) (port : ℕ) (octets : List ℕ)
    (w w' : WorldState) : Type 0 where
  pub act : Arrives says_announce (view w) (view w')
  pub mid_is : act.mid ≡ view mid
  pub station_is : act.call.s ≡ station_view station
  pub after_is : act.call.s' ≡ station_view (in_state after station)
  pub port_is : act.l.to.port ≡ port
  pub octets_is : act.f.octets ≡ octets

-- a frame is delivered to a system that has failed
pub record IsDropAt (w w' : WorldState) : Type 0 where
  pub act : Drops says_announce (view w) (view w')
  pub failed : (i : ℕ) (m : SeenStation) → slice_get (view w).stations i ≡ Some m → m.clock ≡ act.l.to.clock
      → m.live ≡ true → ⊥

same_frame : (n p : ℕ) (x y : List ℕ) → FrameHeard n x ≡ FrameHeard p y → (n ≡ p) × (x ≡ y)
same_frame n p x y e = (cc, cc)

module _ (link : ℕ) (direction : Direction) (octets : List ℕ) (w : WorldState) (draws : List Draw)
    (answer : Option Answer) (w' : WorldState) (sound : IsSound w) (encodable : IsEncodable w)
    (k : Delivers link direction octets w draws answer w') where
  abbrev emptied : WorldState
  emptied = record w { net = k.net }

  abbrev lane : Lane
  lane = lane_view direction k.channel

  abbrev port : ℕ
  port = (receiver direction k.channel).port

  lane_set : IsSetAt (lane_place link direction) (refilled direction k.channel k.takes.rest)
      (lanes_view w.net.channels) (lanes_view k.net.channels)
  lane_set =
      subst
      (λ (n : Net). IsSetAt (lane_place link direction) (refilled direction k.channel k.takes.rest)
      (lanes_view w.net.channels) (lanes_view n.channels))
      (sym k.takes.is) (requeued_lanes w.net.channels link direction k.takes.rest k.channel k.takes.here)

  lane_pops : Pops (lane_place link direction) lane (frame_view (frame w.time octets)) (map frame_view k.takes.rest)
      (view w) (view emptied)
  lane_pops = record {
    here = lane_there w.net.channels link direction k.channel k.takes.here;
    frames = ap (map frame_view) k.takes.front;
    due = refl;
    time = refl;
    stations = λ i m there. there;
    lanes = lane_set;
  }

  pub emptied_apart : BeginApart (lanes_view k.net.channels)
  emptied_apart =
      begin_apart (lanes_view w.net.channels) (lanes_view k.net.channels) (λ j l' there. go j l' (lane_set j l' there))
      (world_apart w sound encodable)
    where
      stands : slice_get (lanes_view w.net.channels) (lane_place link direction) ≡ Some lane
      stands = lane_there w.net.channels link direction k.channel k.takes.here

      go : (j : ℕ) (l' : Lane)
          → StandsNow (lane_place link direction) (refilled direction k.channel k.takes.rest)
          (lanes_view w.net.channels) j l'
          → (l : Lane) × (slice_get (lanes_view w.net.channels) j ≡ Some l) × (l'.from ≡ l.from)
      go j l' (inl (here, is)) =
          (lane, ap (slice_get (lanes_view w.net.channels)) here ∙ stands, ap (λ (l : Lane). l.from) is)
      go j l' (inr (elsewhere, stood)) = (l', stood, refl)

  -- the receiver has failed
  pub failed_drops : HasFailed k.place emptied × (draws ≡ []) × (w' ≡ emptied) → IsDropAt w w'
  failed_drops (failed, none, is) = record {
    act = record {
      j = lane_place link direction;
      l = lane;
      f = frame_view (frame w.time octets);
      fs = map frame_view k.takes.rest;
      pops =
          subst
          (λ (v : WorldState). Pops (lane_place link direction) lane (frame_view (frame w.time octets))
          (map frame_view k.takes.rest) (view w) (view v))
          (sym is) lane_pops;
      unheard = inr (λ i m there named live. none_live i m live named (station_from w.stations i m there));
    };
    failed = λ i m there named live. none_live i m live named (station_from w.stations i m there);
  }
    where
      none_live : (i : ℕ) (m : SeenStation) → m.live ≡ true → m.clock ≡ lane.to.clock
          → IsStationAt w.stations i m → ⊥
      none_live i m live named x =
          let same = sound.wired.clocks i k.place x.station k.station x.here k.there
          (ap (λ (y : SeenStation). y.clock) (sym x.is) ∙ named ∙ sym k.is_end) in
          let stands = ap (slice_get w.stations) (sym same) ∙ x.here in
          let one = same_there w.stations k.place x.station failed.station stands failed.here in
          let was = ap (λ (y : SeenStation). y.live) x.is ∙ ap (λ (y : Station). y.live) one ∙ failed.failed in
          let both = sym live ∙ was in
          cc

  -- the receiver answers
  module _ (one : Answer) (c : Calls k.place (FrameHeard port octets) emptied draws one w') where
    same_station : k.station ≡ c.station
    same_station = same_there w.stations k.place k.station c.station k.there c.here

    receiver_shown : AreShown c.station.system
    receiver_shown = (sound.on_time.stations k.place c.station c.here).steady.shown

    receiver_call : IsCallSeen (FrameHeard port octets) c.station c.after emptied w'
    receiver_call =
        calls_seen k.place (FrameHeard port octets) emptied draws one w' c
        (sound.on_time.stations k.place c.station c.here).steady (sound.wired.setups k.place c.station c.here)
        (reached_up link direction octets w draws answer w' k sound.wired c.station c.here c.live)
        (encodable.stations k.place c.station c.here).system
        ((encodable.links link k.channel k.takes.here).frames direction (frame w.time octets)
        (subst (In (frame w.time octets)) (sym k.takes.front) (inl refl)))
        emptied_apart

    heard_says : (n : ℕ) (a : Announce) → (b : AnnounceView) × (receiver_call.touch ≡ Hear n b) × (a ≡ said b)
        → (n ≡ port) × says_announce octets a
    heard_says n a (b, heard, same) =
        let (frame_octets, is, reads) =
        heard_in c.station.system (FrameHeard port octets) receiver_call.touch receiver_call.seen n b heard in
        let both = same_frame port n octets frame_octets is in (
          sym both.0,
          (b, subst (λ x. Reads x (messages.Announce b)) (sym both.1) reads, same),
        )

    never_grows : (n : ℕ) → receiver_call.touch ≡ Grow n → ⊥
    never_grows = frame_young c.station.system port octets receiver_call.touch receiver_call.seen

    port_hears : (i : ℕ) (q : SeenPort) (a : Announce) → port ≡ suc i
        → slice_get (station_view c.station).ports i ≡ Some q → q.held ≢ Disabled → says_announce octets a
        → (b : Announce) × (touch_view receiver_call.touch ≡ touches.Hear port b)
    port_hears i q a number there on (m, reads, same) =
        go (port_from (span_at c.station.system) c.station.system.held c.station.system.ports i q there)
      where
        go : IsPortAt (span_at c.station.system) c.station.system.held c.station.system.ports i q
            → (b : Announce) × (touch_view receiver_call.touch ≡ touches.Hear port b)
        go p =
            let capable =
            capable_on c.station.system i p.held p.port receiver_shown p.held_there p.port_there
            (λ off. on (ap (λ (y : SeenPort). y.held) p.is ∙ off)) in
            let (b, heard) =
            capable_hears c.station.system port octets receiver_call.touch receiver_call.seen
            (ap (is_capable_at c.station.system) number ∙ capable) m reads in
            (said b, ap touch_view heard)

    pub receiver_arrives : IsArrivalAt c.station c.after emptied port octets w w'
    receiver_arrives = record {
      act = record {
        j = lane_place link direction;
        l = lane;
        f = frame_view (frame w.time octets);
        fs = map frame_view k.takes.rest;
        mid = view emptied;
        touch = touch_view receiver_call.touch;
        pops = lane_pops;
        call = receiver_call.call;
        owner = ap (λ (m : SeenStation). m.clock) receiver_call.station_is
            ∙ ap (λ (x : Station). clock x.system) (sym same_station) ∙ k.is_end;
        heard = λ n a heard. heard_says n a (hear_back receiver_call.touch n a heard);
        young = λ n grown. never_grows n (grow_back receiver_call.touch n grown);
        hears = λ i q a number there on says_it.
            port_hears i q a number
            (subst (λ (m : SeenStation). slice_get m.ports i ≡ Some q) receiver_call.station_is there) on says_it;
      };
      mid_is = refl;
      station_is = receiver_call.station_is;
      after_is = receiver_call.after_is;
      port_is = refl;
      octets_is = refl;
    }

  pub delivers_seen : Arrives says_announce (view w) (view w') ⊎ Drops says_announce (view w) (view w')
  delivers_seen = by answer k.hears
    where
      by : (o : Option Answer) → Hears k.place port octets emptied draws o w'
          → Arrives says_announce (view w) (view w') ⊎ Drops says_announce (view w) (view w')
      by None hears = inr (failed_drops hears).act
      by (Some one) hears = inl (receiver_arrives one hears).act
