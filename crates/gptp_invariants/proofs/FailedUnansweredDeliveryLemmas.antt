-- A delivery: the port hears an old frame, or nothing happens to its measuring.
use Rattle.std.proofs.Common.{◌≡◌, ◌≢◌, ◌⊎◌, ◌≤◌, ℕ, ℤ, Bool, true, false, List, Option, Some, None, slice_get, refl, sym, ap, subst, ◌∙◌, inl, inr, arith, eqb-true}
use Rattle.std.specs.Prelude.{if◌then◌else◌, ◌==◌}
use Rattle.std.specs.Option.{option_map_or}
use Rattle.gptp_lists.specs.Members.{In}
use Rattle.gptp_vector.specs.declared.port.PortId.{PortId}
use Rattle.gptp_messages.specs.declared.message.Message.{Message}
use Rattle.gptp_messages.specs.declared.message.Message.TheVariants as messages
use Rattle.gptp_messages.specs.declared.peer_delay.PdelayResp.{PdelayResp}
use Rattle.gptp_messages.specs.declared.peer_delay.PdelayRespFollowUp.{PdelayRespFollowUp}
use Rattle.gptp_links.specs.declared.link.Direction.{Direction}
use Rattle.gptp_links.specs.Fate.{Draw}
use Rattle.gptp_links.specs.Queue.{frame}
use Rattle.gptp_pdelay.specs.declared.exchange.Measurement.{Measurement}
use Rattle.gptp_pdelay.specs.declared.progress.Progress.{Progress}
use Rattle.gptp_pdelay.specs.Peer.{PeerState, after_follow_up, after_response, answered_by, completed, measured_by}
use Rattle.gptp_system.specs.declared.answer.Answer.{Answer}
use Rattle.gptp_system.specs.Input.{Frame as FrameHeard}
use Rattle.gptp_setup.specs.Intervals.{interval_of}
use Rattle.gptp_system.specs.Measures.{HearsPart, Part, part_heard, measure_at}
use Rattle.gptp_system.specs.State.{SystemState, clock, stamp_time}
use Rattle.gptp_model.specs.declared.station.Station.{Station}
use Rattle.gptp_model.specs.Act.{Calls, Delivers, Hears}
use Rattle.gptp_model.specs.Sound.{IsSound}
use Rattle.gptp_model.specs.World.{WorldState, world_queue, receiver, sender}
use Rattle.gptp_lists.proofs.MappedLemmas.{same_there}
use Rattle.gptp_pdelay_machine.specs.Asker.{Asker}
use Rattle.gptp_pdelay_machine.specs.Silence.{ActsInVain, HearsOld}
use Rattle.gptp_invariants.specs.DelayMeasured.{LinkIsMeasured}
use Rattle.gptp_invariants.specs.DelayLinkView.{LinkPlace, RequestSaysWhatFits, asked_at, asker_view, other_direction}
use Rattle.gptp_invariants.proofs.DelayLinkLemmas.{sender_opposite}
use Rattle.gptp_invariants.proofs.DelayPartLemmas.{heard_asked}
use Rattle.gptp_invariants.specs.FailedUnanswered.{IsOldBy, IsSeenUnanswered, IsUnansweredAt, silent_setting, silent_view}
use Rattle.gptp_invariants.proofs.FailedUnansweredCallLemmas.{CallStep, LaneShrinks, asker_is, call_seen, failed_apart, relinked, relinked_settled, same_sender, view_stays}
use Rattle.gptp_invariants.proofs.FailedUnansweredLaneLemmas.{takes_shrink}
use Rattle.gptp_invariants.proofs.DelayPoppedLemmas.{which_way}

-- ---- what is heard

-- hearing loses no request
response_lost : (m : PdelayResp) (t4 : ℤ) (p : PeerState) → (after_response m t4 p).lost ≤ p.lost
response_lost m t4 p = go (answered_by m t4 p.own p.progress)
  where
    go : (o : Option Progress)
        → (option_map_or (λ (progress : Progress). record p { progress = progress }) o p).lost ≤ p.lost
    go None = omega arith
    go (Some progress) = omega arith

follow_up_lost : (m : PdelayRespFollowUp) (p : PeerState) → (after_follow_up m p).lost ≤ p.lost
follow_up_lost m p = go (measured_by m p.own p.last p.past p.progress)
  where
    go : (o : Option Measurement) → (option_map_or (λ (one : Measurement). completed one p) o p).lost ≤ p.lost
    go None = omega arith
    go (Some one) = omega arith

-- a port has asked no more, and has lost no more
record AsksNoMore (x x' : Part) : Type 0 where
  asked : x'.pdelay ≡ x.pdelay
  lost : x'.peer.lost ≤ x.peer.lost

itself : (x : Part) → AsksNoMore x x
itself x = record { asked = refl; lost = omega arith }

message_heard : (s : SystemState) (now : ℕ) (m : Message) (x : Part) → AsksNoMore x (part_heard s now m x)
message_heard s now m x = record { asked = heard_asked s now m x; lost = by m }
  where
    by : (one : Message) → (part_heard s now one x).peer.lost ≤ x.peer.lost
    by (messages.Sync head) = omega arith
    by (messages.PdelayReq head) = omega arith
    by (messages.PdelayResp r) = response_lost r (stamp_time s now) x.peer
    by (messages.FollowUp r) = omega arith
    by (messages.PdelayRespFollowUp r) = follow_up_lost r x.peer
    by (messages.Announce a) = omega arith

-- what becomes of port n where octets reach port p: the one is the other, or nothing
octets_heard : (s : SystemState) (now p : ℕ) (octets : List ℕ) (n : ℕ) (x x' : Part) → HearsPart s now p octets n x x'
    → ((n ≡ p) × AsksNoMore x x') ⊎ (x' ≡ x)
octets_heard s now p octets n x x' (inr (unread, is)) = inr is
octets_heard s now p octets n x x' (inl (m, reads, is)) = go (n == p) refl is
  where
    go : (b : Bool) → (n == p) ≡ b → x' ≡ (if b then part_heard s now m x else x)
        → ((n ≡ p) × AsksNoMore x x') ⊎ (x' ≡ x)
    go true number heard = inl (eqb-true n p number, subst (AsksNoMore x) (sym heard) (message_heard s now m x))
    go false other left = inr left

-- ---- a delivery

module _ (gone : ℕ) (at : LinkPlace) (link : ℕ) (direction : Direction) (octets : List ℕ) (w : WorldState)
    (draws : List Draw) (answer : Option Answer) (w' : WorldState)
    (k : Delivers link direction octets w draws answer w') (sound : IsSound w) (measured : LinkIsMeasured w)
    (l : IsUnansweredAt at w) (old : IsOldBy gone at w l) where
  abbrev port : PortId
  port = receiver direction k.channel

  abbrev period : ℕ
  period = interval_of l.asking.station.setup.params.pdelay

  -- the world without the frame
  abbrev emptied : WorldState
  emptied = record w { net = k.net }

  pub lane : LaneShrinks at w emptied l
  lane =
      takes_shrink at.link (other_direction at.direction) link direction w.time octets k.channel w.net k.net
      l.channel l.here
      k.takes

  abbrev less : IsUnansweredAt at emptied
  less = relinked at w emptied l lane l.asking l.answering

  less_settled : silent_setting at emptied less ≡ silent_setting at w l
  less_settled = relinked_settled at w emptied l lane l.asking l.answering refl refl

  less_old : IsOldBy gone at emptied less
  less_old f member = old f (lane.shrinks.fewer f member)

  -- the frame is one of those in flight
  among : In (frame w.time octets) (world_queue direction k.channel)
  among = subst (In (frame w.time octets)) (sym k.takes.front) (inl refl)

  octets_fit : RequestSaysWhatFits octets
  octets_fit = measured.frames link k.channel k.takes.here direction (frame w.time octets) among

  -- ---- where it is an old one

  -- it arrives on the lane from the failed end
  abbrev Arrives : Type 0
  Arrives = (link ≡ at.link) × (direction ≡ other_direction at.direction)

  pub flies_there : Arrives → In (frame w.time octets) (world_queue (other_direction at.direction) l.channel)
  flies_there (same, way) =
      let one : k.channel ≡ l.channel =
      same_there w.net.channels link k.channel l.channel k.takes.here
      (ap (slice_get w.net.channels) same ∙ l.here) in
      subst (In (frame w.time octets)) (λ i. world_queue (way i) (one i)) among

  is_old : Arrives → w.time ≤ gone
  is_old here = old (frame w.time octets) (flies_there here)

  -- the two ends are of two clocks
  ends_apart : (sender at.direction l.channel).clock ≢ (receiver at.direction l.channel).clock
  ends_apart e =
      failed_apart at.asking at.answering (receiver at.direction l.channel).clock w l.asking.station l.asking.here
      l.asking.live l.answering
      (sound.wired.clocks at.answering at.asking l.answering.station l.asking.station l.answering.here l.asking.here
      (l.answering.named ∙ sym e ∙ sym l.asking.named))

  -- what reaches the port arrives there
  pub arrives : at.asking ≡ k.place → (sender at.direction l.channel).port ≡ port.port → Arrives
  arrives same number = (here, by (which_way direction at.direction))
    where
      own_station : k.station ≡ l.asking.station
      own_station =
          same_there w.stations k.place k.station l.asking.station k.there
          (ap (slice_get w.stations) (sym same) ∙ l.asking.here)

      named : (sender at.direction l.channel).clock ≡ port.clock
      named = sym l.asking.named ∙ ap (λ (x : Station). clock x.system) (sym own_station) ∙ k.is_end

      port_is : sender at.direction l.channel ≡ port
      port_is = λ i. record { clock = named i; port = number i }

      here : link ≡ at.link
      here =
          sound.wired.apart link at.link (other_direction direction) at.direction k.channel l.channel
          k.takes.here l.here
          (sender_opposite direction k.channel ∙ sym port_is)

      one : k.channel ≡ l.channel
      one =
          same_there w.net.channels link k.channel l.channel k.takes.here
          (ap (slice_get w.net.channels) here ∙ l.here)

      by : (direction ≡ at.direction) ⊎ (direction ≡ other_direction at.direction)
          → direction ≡ other_direction at.direction
      by (inl way) =
          absurd (ends_apart (ap (λ (p : PortId). p.clock) (port_is ∙ λ i. receiver (way i) (one i))))
      by (inr way) = way

  -- ---- what is seen

  module _ (told : Answer) (calls : Calls k.place (FrameHeard port.port octets) emptied draws told w') where
    pub step : CallStep k.place (FrameHeard port.port octets) gone at emptied w' less
    step =
        call_seen gone at k.place (FrameHeard port.port octets) emptied draws told w' calls sound.wired.clocks less
        less_old (λ same number. octets_fit)

    abbrev x : Part
    x = measure_at l.asking.state

    abbrev x' : Part
    x' = measure_at step.after.asking.state

    settled : silent_setting at w' step.after ≡ silent_setting at w l
    settled = step.settled ∙ less_settled

    pub number_same : (sender at.direction l.channel).port ≡ (sender at.direction lane.new).port
    number_same = ap (λ (p : PortId). p.port) (sym (same_sender at w emptied l lane l.asking l.answering))

    -- the port hears what arrives, or its measuring stays
    becomes : (Arrives × AsksNoMore x x') ⊎ (x' ≡ x)
    becomes = elim step.part [
      | inl called ↦ elim (octets_heard l.asking.station.system w.time port.port octets
          (sender at.direction lane.new).port x x' called.1) [
            | inl heard ↦ inl (arrives called.0 (number_same ∙ heard.0), heard.1)
            | inr left ↦ inr left
          ]
      | inr left ↦ inr left.1
    ]

    hears_old : Arrives → AsksNoMore x x' → HearsOld gone (silent_view at w l) (silent_view at w' step.after)
    hears_old here no_more = record {
      time = step.time;
      old = is_old here;
      asked = ap (λ (a : Asker). a.asked) (asker_is step) ∙ ap (asked_at period) no_more.asked;
      lost = no_more.lost;
    }

    one_act : ActsInVain (silent_setting at w l) gone (silent_view at w l) (silent_view at w' step.after)
    one_act = elim becomes [
      | inl heard ↦ inr (inl (hears_old heard.0 heard.1))
      | inr left ↦ inr (inr (view_stays step (ap (asker_view period) left)))
    ]

    called_seen : IsSeenUnanswered (λ k s s'. ActsInVain k gone s s') gone at w w' l
    called_seen = record { after = step.after; settled = settled; old = step.old; so = one_act }

    -- what arrives is heard, or leaves the measuring
    called_hears : Arrives → IsSeenUnanswered (λ k s s'. HearsOld gone s s') gone at w w' l
    called_hears here = record {
      after = step.after;
      settled = settled;
      old = step.old;
      so = hears_old here (elim becomes [
        | inl heard ↦ heard.1
        | inr left ↦ subst (AsksNoMore x) (sym left) (itself x)
      ]);
    }

  -- where nothing hears the frame the port measures on
  unheard_seen : IsSeenUnanswered (λ k s s'. ActsInVain k gone s s') gone at w emptied l
  unheard_seen = record { after = less; settled = less_settled; old = less_old; so = inr (inr refl) }

  unheard_hears : Arrives → IsSeenUnanswered (λ k s s'. HearsOld gone s s') gone at w emptied l
  unheard_hears here = record {
    after = less;
    settled = less_settled;
    old = less_old;
    so = record { time = refl; old = is_old here; asked = refl; lost = omega arith };
  }

  pub delivers_seen : IsSeenUnanswered (λ k s s'. ActsInVain k gone s s') gone at w w' l
  delivers_seen = by answer k.hears
    where
      by : (a : Option Answer) → Hears k.place port.port octets emptied draws a w'
          → IsSeenUnanswered (λ k s s'. ActsInVain k gone s s') gone at w w' l
      by (Some told) calls = called_seen told calls
      by None (failed, none, is) =
          subst (λ u. IsSeenUnanswered (λ k s s'. ActsInVain k gone s s') gone at w u l) (sym is) unheard_seen

  pub asker_hears_seen : Arrives → IsSeenUnanswered (λ k s s'. HearsOld gone s s') gone at w w' l
  asker_hears_seen here = by answer k.hears
    where
      by : (a : Option Answer) → Hears k.place port.port octets emptied draws a w'
          → IsSeenUnanswered (λ k s s'. HearsOld gone s s') gone at w w' l
      by (Some told) calls = called_hears told calls here
      by None (failed, none, is) =
          subst (λ u. IsSeenUnanswered (λ k s s'. HearsOld gone s s') gone at w u l) (sym is) (unheard_hears here)
