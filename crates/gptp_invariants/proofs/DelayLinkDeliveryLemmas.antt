-- A delivery, seen at a link: the port that asks hears, the port that answers hears, or others send.
use Rattle.std.proofs.Common.{◌≡◌, ◌≢◌, ◌+◌, ◌<◌, ◌≤◌, ◌*◌, ℕ, ℤ, Bool, true, false, List, [], ◌∷◌, ◌++◌, map, Option, Some, None, slice_get, slice_set, refl, sym, ap, subst, ◌∙◌, inl, inr, eq-eqb, eqb-true, arith}
use Rattle.std.specs.Prelude.{if◌then◌else◌, ◌==◌}
use Rattle.std.proofs.lemmas.List.{append-nil, map-append}
use Rattle.gptp_lists.specs.Members.{In}
use Rattle.gptp_lists.proofs.SystemSpecLemmas.{In-map}
use Rattle.gptp_vector.specs.declared.port.PortId.{PortId}
use Rattle.gptp_links.specs.declared.link.Direction.{Direction}
use Rattle.gptp_links.specs.Fate.{Draw}
use Rattle.gptp_links.specs.Queue.{frame}
use Rattle.gptp_pdelay.specs.GoodLink.{IsGoodLink}
use Rattle.gptp_system.specs.declared.answer.Answer.{Answer}
use Rattle.gptp_setup.specs.declared.setup.Params.{Params}
use Rattle.gptp_system.specs.Input.{Frame as FrameHeard}
use Rattle.gptp_setup.specs.Intervals.{interval_of}
use Rattle.gptp_system.specs.Measures.{IsPartAfter, Part, part_heard, measure_at}
use Rattle.gptp_system.specs.State.{SystemState, clock}
use Rattle.gptp_system.specs.Steps.{IsUp}
use Rattle.gptp_model.specs.declared.station.Station.{Station}
use Rattle.gptp_model.specs.Act.{Calls, Delivers, HasFailed, Hears}
use Rattle.gptp_model.specs.Sound.{IsSound}
use Rattle.gptp_model.specs.World.{Net, WorldState, world_queue, receiver, sender, with_queue}
use Rattle.gptp_lists.proofs.MappedLemmas.{same_there}
use Rattle.gptp_lists.proofs.PlaceLemmas.{get-set_other, get-set_same, same_place}
use Rattle.gptp_model.proofs.StayLemmas.{carry_join, takes_carry}
use Rattle.gptp_pdelay_machine.specs.Acts.{AskerHears, AnswererHears}
use Rattle.gptp_pdelay_machine.specs.Answerer.{Notes}
use Rattle.gptp_pdelay_machine.specs.Asker.{TakesReply}
use Rattle.gptp_pdelay_machine.specs.ExchangeLaws.{ReadsClocks}
use Rattle.gptp_pdelay.specs.Clock.{IsDrift, IsStampClock}
use Rattle.gptp_pdelay.proofs.ClockLemmas.{stamps_make_clock}
use Rattle.gptp_pdelay_machine.specs.Facts.{IsSentInTime, IsSentLate}
use Rattle.gptp_pdelay_machine.specs.Lanes.{LaneFrame as SeenFrame}
use Rattle.gptp_pdelay_machine.specs.Meter.{MeterActs, TakesMeasure, meter_heard, meter_hears, meter_rests}
use Rattle.gptp_invariants.specs.DelayLinkView.{IsEndOf, IsLinkOf, LinkPlace, RequestSaysWhatFits, asker_view, reads_as_request, link_frame_view, link_lane_view, least_delay, meter, other_direction, pair, reads_as_reply, link_setting, waits_view, setup_stamping, setup_stamps, kept_view}
use Rattle.gptp_invariants.specs.DelayLinkActs.{IsOneAct, IsSeenAtLink}
use Rattle.gptp_invariants.proofs.DelayLinkCallLemmas.{asker_is, back_in_time, back_is, back_late, back_mute, back_stays, others_send as others_seen, out_in_time, out_is, out_late, out_mute, out_stays, seen_from, sent_in_time, sent_late}
use Rattle.gptp_invariants.proofs.DelayPoppedLemmas.{carried, least_same, left_there, most_same, opposite_twice, popped_link, popped_receiver, popped_sender, popped_settled, queue_left, queue_set, receiver_opposite, which_way}
use Rattle.gptp_invariants.proofs.DelayEndLemmas.{PartStep}
use Rattle.gptp_invariants.proofs.DelayLinkExpiryLemmas.{clock_is}
use Rattle.gptp_invariants.proofs.DelayHearLemmas.{Hears as PartHears, hears_measure, hears_notes, hears_takes}
use Rattle.gptp_invariants.proofs.DelayLinkLaneLemmas.{IsDueSoon}
use Rattle.gptp_invariants.proofs.DelayPartLemmas.{AsksAsBefore, asks_still}
use Rattle.gptp_invariants.proofs.DelayLinkLemmas.{IsOrderly, LinkStep, clocks_apart, link_called, net_orderly, sender_opposite, sound_orderly}
use Rattle.gptp_setup.specs.Stamping.{behind_of, blur_of}
use Rattle.gptp_setup.specs.declared.setup.Setup.{Setup}

-- ---- what the receiver is given

module _ (link : ℕ) (direction : Direction) (octets : List ℕ) (w : WorldState) (draws : List Draw)
    (answer : Option Answer) (w' : WorldState) (k : Delivers link direction octets w draws answer w')
    (sound : IsSound w)
  where
    abbrev port : PortId
    port = receiver direction k.channel

    -- the world without the frame
    abbrev emptied : WorldState
    emptied = record w { net = k.net }

    channels_are : k.net.channels ≡ slice_set w.net.channels link (with_queue direction k.takes.rest k.channel)
    channels_are = ap (λ (n : Net). n.channels) k.takes.is

    orderly : IsOrderly emptied
    orderly =
        net_orderly w k.net
        (carry_join w.net.channels k.net.channels
        (takes_carry link direction w.time octets k.channel w.net k.net k.takes)) (sound_orderly w sound)

    -- the link is up, since a frame was in flight
    channel_up : k.channel.up ≡ true
    channel_up = go k.channel.up refl
      where
        go : (b : Bool) → k.channel.up ≡ b → k.channel.up ≡ true
        go true e = e
        go false e =
            let none : frame w.time octets ∷ k.takes.rest ≡ [] =
            sym k.takes.front ∙ (sound.wired.flow link direction k.channel k.takes.here).still e in
            absurd cc

    -- so the port that hears the frame is up
    is_up : (station : Station) → slice_get w.stations k.place ≡ Some station → station.live ≡ true
        → IsUp station.system port.port
    is_up station there live =
        let one : k.station ≡ station = same_there w.stations k.place k.station station k.there there in
        let begins : sender (other_direction direction) k.channel ≡ port = sender_opposite direction k.channel in
        subst (λ (p : PortId). IsUp station.system p.port) begins
        (sound.wired.linked link k.place (other_direction direction) k.channel station k.takes.here channel_up
        there live
        (ap (λ (x : Station). clock x.system) (sym one) ∙ k.is_end ∙ ap (λ (p : PortId). p.clock) (sym begins)))

    -- the station at an end of its clock is the one that hears
    place_is : (place : ℕ) (end : PortId) → (e : IsEndOf place end w) → end.clock ≡ port.clock → place ≡ k.place
    place_is place end e named =
        sound.wired.clocks place k.place e.station k.station e.here k.there (e.named ∙ named ∙ sym k.is_end)

    -- ---- a frame on another link

    module _ (at : LinkPlace) (l : IsLinkOf at w) (other : link ≢ at.link) where
      stands : slice_get k.net.channels at.link ≡ Some l.channel
      stands =
          ap (λ cs. slice_get cs at.link) channels_are
          ∙ get-set_other w.net.channels link at.link _ (λ e. other (sym e)) ∙ l.here

      abbrev left_link : IsLinkOf at emptied
      left_link = record {
        channel = l.channel;
        here = stands;
        up = l.up;
        lossless = l.lossless;
        asking = l.asking;
        answering = l.answering;
        apart = l.apart;
        good = l.good;
        fit = l.fit;
      }

      -- the port that hears isn't one of this link
      not_here : (way : Direction) → sender way l.channel ≢ port
      not_here way e =
          other (sound.wired.apart link at.link (other_direction direction) way k.channel l.channel k.takes.here l.here
          (sender_opposite direction k.channel ∙ sym e))

      not_asker : (place : ℕ) (end : PortId) (way : Direction) → sender way l.channel ≡ end → IsEndOf place end w
          → place ≡ k.place → end.port ≢ port.port
      not_asker place end way begins e same number =
          let one : k.station ≡ e.station =
          same_there w.stations k.place k.station e.station k.there (ap (slice_get w.stations) (sym same) ∙ e.here) in
          let named : end.clock ≡ port.clock =
          sym e.named ∙ ap (λ (x : Station). clock x.system) (sym one) ∙ k.is_end in
          not_here way (begins ∙ (λ i. record { clock = named i; port = number i }))

      -- where nothing hears it nothing is sent
      unheard : IsOneAct at w emptied l
      unheard = record {
        after = left_link;
        settled = refl;
        bounds = refl;
        so = record {
          acts = meter_rests (record {
            time = refl;
            asker = refl;
            waits = refl;
            ahead = [];
            behind = [];
            out = sym (append-nil (pair at w l).out);
            back = sym (append-nil (pair at w l).back);
            asks_nothing = λ f member. absurd member;
            replies_nothing = λ f member. absurd member;
          }) refl;
          out = λ f member. inl member;
          back = λ f member. inl member;
          out_late = λ f member. inl member;
          back_late = λ f member. inl member;
        };
      }

      part_left : (place : ℕ) (end : PortId) (way : Direction) → sender way l.channel ≡ end → (e : IsEndOf place end w)
          → (x x' : Part)
          → PartStep k.place (FrameHeard port.port octets) w.time place e.station.system end.port x x' → x' ≡ x
      part_left place end way begins e x x' (inr (apart, is)) = is
      part_left place end way begins e x x' (inl (same, inr (unread, is))) = is
      part_left place end way begins e x x' (inl (same, inl (m, reads, is))) =
          go (end.port == port.port) refl is
        where
          go : (b : Bool) → (end.port == port.port) ≡ b
              → x' ≡ (if b then part_heard e.station.system w.time m x else x) → x' ≡ x
          go true number is = absurd (not_asker place end way begins e same (eqb-true end.port port.port number))
          go false apart is = is

      heard_elsewhere : (told : Answer) → Calls k.place (FrameHeard port.port octets) emptied draws told w'
          → IsOneAct at w w' l
      heard_elsewhere told calls =
          let answerer_begins = sender_opposite at.direction l.channel in
          let step = link_called at k.place (FrameHeard port.port octets) emptied draws told w' calls
          (is_up calls.station calls.here calls.live) orderly left_link
          (λ same number. absurd (not_asker at.asking (sender at.direction l.channel) at.direction refl l.asking same
          number))
          (λ same number. absurd (not_asker at.answering (receiver at.direction l.channel)
          (other_direction at.direction)
          answerer_begins l.answering same number)) in
          let asker = part_left at.asking (sender at.direction l.channel) at.direction refl l.asking
          (measure_at l.asking.state) (measure_at step.after.asking.state) step.asking in
          let answerer = part_left at.answering (receiver at.direction l.channel) (other_direction at.direction)
          answerer_begins l.answering (measure_at l.answering.state)
          (measure_at step.after.answering.state) step.answering in
          record {
            after = step.after;
            settled = step.settled;
            bounds = step.grows.bounds;
            so = record {
              acts = others_seen step
                  (asks_still (interval_of l.asking.station.setup.params.pdelay) (measure_at l.asking.state)
                  (measure_at step.after.asking.state) asker) (ap waits_view answerer)
                  (out_mute step (λ same e. absurd cc) (λ p e. absurd cc))
                  (back_mute step (λ same e. absurd cc));
              out = out_in_time step;
              back = back_in_time step;
              out_late = out_late step;
              back_late = back_late step;
            };
          }

      elsewhere_seen : (told : Option Answer) → Hears k.place port.port octets emptied draws told w'
          → IsOneAct at w w' l
      elsewhere_seen (Some told) calls = heard_elsewhere told calls
      elsewhere_seen None (failed, none, is) = subst (λ u. IsOneAct at w u l) (sym is) unheard

    -- ---- a frame on this link

    module _ (at : LinkPlace) (l : IsLinkOf at w) (here : link ≡ at.link) where
      channel_is : k.channel ≡ l.channel
      channel_is =
          same_there w.net.channels link k.channel l.channel k.takes.here (ap (slice_get w.net.channels) here ∙ l.here)

      was : world_queue direction l.channel ≡ frame w.time octets ∷ k.takes.rest
      was = ap (world_queue direction) (sym channel_is) ∙ k.takes.front

      stands_now : slice_get k.net.channels at.link ≡ Some (with_queue direction k.takes.rest l.channel)
      stands_now =
          ap (λ cs. slice_get cs at.link) channels_are
          ∙ ap (λ c. slice_get (slice_set w.net.channels link (with_queue direction k.takes.rest c)) at.link) channel_is
          ∙ ap (λ n. slice_get (slice_set w.net.channels n (with_queue direction k.takes.rest l.channel)) at.link) here
          ∙ get-set_same w.net.channels at.link l.channel (with_queue direction k.takes.rest l.channel) l.here

      abbrev less : IsLinkOf at emptied
      less = popped_link at w l direction (frame w.time octets) k.takes.rest was k.net stands_now

      port_is : port ≡ receiver direction l.channel
      port_is = ap (receiver direction) channel_is

      -- what is heard is one of the frames in flight
      octets_fit : RequestSaysWhatFits octets
      octets_fit =
          l.fit direction (frame w.time octets)
          (subst (In (frame w.time octets)) (sym was) (inl refl))

      -- a live system hears it
      not_failed : (place : ℕ) (end : PortId) → IsEndOf place end w → place ≡ k.place → HasFailed k.place emptied → ⊥
      not_failed place end e same failed =
          let one : e.station ≡ failed.station =
          same_there w.stations place e.station failed.station e.here (ap (slice_get w.stations) same ∙ failed.here) in
          let live = sym e.live ∙ ap (λ (x : Station). x.live) one ∙ failed.failed in
          absurd cc

      module _ (told : Answer) (calls : Calls k.place (FrameHeard port.port octets) emptied draws told w') where
        step : LinkStep at k.place (FrameHeard port.port octets) emptied w' less calls.station.system calls.after
            calls.sends
        step =
            link_called at k.place (FrameHeard port.port octets) emptied draws told w' calls
            (is_up calls.station calls.here calls.live) orderly less (λ same number. octets_fit)
            (λ same number. octets_fit)

        settled : link_setting at w' step.after ≡ link_setting at w l
        settled =
            step.settled
            ∙ popped_settled at w l direction (frame w.time octets) k.takes.rest was k.net stands_now

        -- what a port hears that the frame reaches
        hears_here : (end : PortId) → (e : SystemState) → (x x' : Part) → end.port ≡ port.port
            → IsPartAfter e w.time (FrameHeard port.port octets) end.port x x' → PartHears e w.time octets x x'
        hears_here end e x x' number (inr (unread, is)) = inr (unread, is)
        hears_here end e x x' number (inl (m, reads, is)) =
            inl (
              m,
              reads,
              is ∙ ap (λ b. if b then part_heard e w.time m x else x) (eq-eqb end.port port.port number),
            )

        abbrev period : ℕ
        period = interval_of l.asking.station.setup.params.pdelay

        -- ---- at the port that answers

        module _ (way : direction ≡ at.direction) where
          port_answers : port ≡ receiver at.direction l.channel
          port_answers = port_is ∙ ap (λ d. receiver d l.channel) way

          answers_here : at.answering ≡ k.place
          answers_here =
              place_is at.answering (receiver at.direction l.channel) l.answering
              (ap (λ (p : PortId). p.clock) (sym port_answers))

          asks_elsewhere : at.asking ≢ k.place
          asks_elsewhere same = l.apart (same ∙ sym answers_here)

          asker_left : AsksAsBefore period (measure_at l.asking.state) (measure_at step.after.asking.state)
          asker_left = elim step.asking [
            | inl called ↦ absurd (asks_elsewhere called.0)
            | inr left ↦ asks_still period (measure_at l.asking.state) (measure_at step.after.asking.state) left.1
          ]

          request_noted : Notes (link_setting at w l) reads_as_request w.time octets
              (waits_view (measure_at l.answering.state))
              (waits_view (measure_at step.after.answering.state))
          request_noted = elim step.answering [
            | inl called ↦
                hears_notes (link_setting at w l) l.answering.station.system w.time octets
                (measure_at l.answering.state)
                (measure_at step.after.answering.state)
                (hears_here (receiver at.direction less.channel) l.answering.station.system
                (measure_at l.answering.state)
                (measure_at step.after.answering.state)
                (ap (λ (p : PortId). p.port)
                (popped_receiver at w l direction (frame w.time octets) k.takes.rest was k.net stands_now
                ∙ sym port_answers)) called.1)
                (clock_is at.answering (receiver at.direction l.channel) w l.answering w.time)
                (ap (λ (p : Params). p.turnaround) (sym l.answering.set_up.params))
            | inr left ↦ absurd (left.0 answers_here)
          ]

          answerer_seen : AnswererHears (link_setting at w l) reads_as_request reads_as_reply (pair at w l)
              (pair at w' step.after)
          answerer_seen = record {
            time = step.time;
            asker = asker_is step ∙ asker_left.0;
            front = link_frame_view (frame w.time octets);
            rest = map link_frame_view k.takes.rest;
            was = ap (map link_frame_view) (ap (λ d. world_queue d l.channel) (sym way) ∙ was);
            now = refl;
            out = out_stays step asks_elsewhere
                ∙ ap (map link_frame_view)
                (ap (λ d. world_queue d less.channel) (sym way) ∙ queue_set direction k.takes.rest l.channel);
            waits = request_noted;
            news = map link_frame_view (step.grows.news (other_direction at.direction));
            back = back_is step
                ∙ ap (λ fs. map link_frame_view fs ++ map link_frame_view
                (step.grows.news (other_direction at.direction)))
                (ap (λ d. world_queue (other_direction d) less.channel) (sym way)
                ∙ queue_left direction k.takes.rest l.channel
                ∙ ap (λ d. world_queue (other_direction d) l.channel) way);
            mute = back_mute step (λ same e. absurd cc);
          }

        -- ---- at the port that asks

        module _ (way : direction ≡ other_direction at.direction) where
          port_asks : port ≡ sender at.direction l.channel
          port_asks = port_is ∙ ap (λ d. receiver d l.channel) way ∙ receiver_opposite at.direction l.channel

          asks_here : at.asking ≡ k.place
          asks_here =
              place_is at.asking (sender at.direction l.channel) l.asking (ap (λ (p : PortId). p.clock) (sym port_asks))

          answers_elsewhere : at.answering ≢ k.place
          answers_elsewhere same = l.apart (asks_here ∙ sym same)

          waits_left : waits_view (measure_at step.after.answering.state) ≡ waits_view (measure_at l.answering.state)
          waits_left = elim step.answering [
            | inl called ↦ absurd (answers_elsewhere called.0)
            | inr left ↦ ap waits_view left.1
          ]

          abbrev blur : ℕ
          blur = blur_of l.asking.station.setup.params

          -- the two systems stamp time alike
          abbrev read_by : Params → ℕ → ℤ → (ℕ → ℤ) → Type 0
          read_by p phase drift stamps = IsStampClock (blur_of p) (behind_of p) phase drift stamps

          stamps_read : (setup : Setup) → IsDrift setup.drift → read_by setup.params setup.phase setup.drift
              (setup_stamps setup)
          stamps_read setup drift = stamps_make_clock (setup_stamping setup) setup.phase setup.drift drift

          stamps_alike : (p q : Params) (phase : ℕ) (drift : ℤ) (stamps : ℕ → ℤ) → q.granularity ≡ p.granularity
              → q.noise ≡ p.noise → read_by q phase drift stamps → read_by p phase drift stamps
          stamps_alike p q phase drift stamps granularity noise read =
              subst (λ g. IsStampClock (g + 2 * p.noise) (32768 * g) phase drift stamps) granularity
              (subst (λ n. IsStampClock (q.granularity + 2 * n) (32768 * q.granularity) phase drift stamps) noise read)

          clocks_read : ReadsClocks blur (link_setting at w l)
          clocks_read = record {
            behind = behind_of l.asking.station.setup.params;
            asking_phase = l.asking.station.setup.phase;
            asking_drift = l.asking.station.setup.drift;
            answering_phase = l.answering.station.setup.phase;
            answering_drift = l.answering.station.setup.drift;
            asking_limit = (sound.wired.setups at.asking l.asking.station l.asking.here).drift;
            answering_limit = (sound.wired.setups at.answering l.answering.station l.answering.here).drift;
            asking = stamps_read l.asking.station.setup
                (sound.wired.setups at.asking l.asking.station l.asking.here).drift;
            answering = stamps_alike l.asking.station.setup.params l.answering.station.setup.params
                l.answering.station.setup.phase l.answering.station.setup.drift (setup_stamps l.answering.station.setup)
                l.good.granularity l.good.noise
                (stamps_read l.answering.station.setup
                (sound.wired.setups at.answering l.answering.station l.answering.here).drift);
          }

          asker_hears : PartHears l.asking.station.system w.time octets (measure_at l.asking.state)
              (measure_at step.after.asking.state)
          asker_hears = elim step.asking [
            | inl called ↦
                hears_here (sender at.direction less.channel) l.asking.station.system (measure_at l.asking.state)
                (measure_at step.after.asking.state)
                (ap (λ (p : PortId). p.port)
                (popped_sender at w l direction (frame w.time octets) k.takes.rest was k.net stands_now
                ∙ sym port_asks)) called.1
            | inr left ↦ absurd (left.0 asks_here)
          ]

          good_here : IsGoodLink (l.channel.bounds.max + blur) l.answering.station.setup.params.turnaround
              l.asking.state.peer.threshold
          good_here =
              subst (IsGoodLink (l.channel.bounds.max + blur) l.answering.station.setup.params.turnaround)
              (sym l.asking.measures.threshold) l.good.short

          window_here : l.asking.state.peer.window ≡ (link_setting at w l).window
          window_here = l.asking.measures.window

          some_here : 0 < (link_setting at w l).window
          some_here =
              let params = orderly.params at.asking l.asking.station l.asking.here in
              let least = params.window-least in
              let same = ap (λ (p : Params). p.window) l.asking.set_up.params in
              omega (arith, least, same)

          reply_taken : TakesReply (link_setting at w l) reads_as_reply w.time octets
              (asker_view period (measure_at l.asking.state))
              (asker_view period (measure_at step.after.asking.state))
          reply_taken =
              hears_takes (link_setting at w l) l.asking.station.system w.time period octets (measure_at l.asking.state)
              (measure_at step.after.asking.state) asker_hears (sender at.direction l.channel)
              (receiver at.direction l.channel) refl refl
              (clock_is at.asking (sender at.direction l.channel) w l.asking w.time) l.asking.measures.own
              window_here some_here (clocks_apart at w l sound.wired.clocks) blur good_here clocks_read

          reply_measured : TakesMeasure (link_setting at w l) reads_as_reply octets
              (asker_view period (measure_at l.asking.state))
              (kept_view l.asking.state.peer) (kept_view step.after.asking.state.peer)
          reply_measured =
              hears_measure (link_setting at w l) l.asking.station.system w.time period octets
              (measure_at l.asking.state)
              (measure_at step.after.asking.state) asker_hears (sender at.direction l.channel)
              (receiver at.direction l.channel) refl refl
              (clock_is at.asking (sender at.direction l.channel) w l.asking w.time) l.asking.measures.own
              window_here some_here (clocks_apart at w l sound.wired.clocks) blur good_here clocks_read

          other_way : at.direction ≡ other_direction direction
          other_way = sym (opposite_twice at.direction) ∙ ap other_direction (sym way)

          asker_seen : AskerHears (link_setting at w l) reads_as_request reads_as_reply (pair at w l)
              (pair at w' step.after)
          asker_seen = record {
            time = step.time;
            waits = waits_left;
            front = link_frame_view (frame w.time octets);
            rest = map link_frame_view k.takes.rest;
            was = ap (map link_frame_view) (ap (λ d. world_queue d l.channel) (sym way) ∙ was);
            now = refl;
            back = back_stays step answers_elsewhere
                ∙ ap (map link_frame_view)
                (ap (λ d. world_queue d less.channel) (sym way) ∙ queue_set direction k.takes.rest l.channel);
            asker = subst (TakesReply (link_setting at w l) reads_as_reply w.time octets
                (asker_view period (measure_at l.asking.state)))
                (sym (asker_is step)) reply_taken;
            news = map link_frame_view (step.grows.news at.direction);
            out = out_is step
                ∙ ap (λ fs. map link_frame_view fs ++ map link_frame_view (step.grows.news at.direction))
                (ap (λ d. world_queue d less.channel) other_way ∙ queue_left direction k.takes.rest l.channel
                ∙ ap (λ d. world_queue d l.channel) (sym other_way));
            mute = out_mute step (λ same e. absurd cc) (λ p e. absurd cc);
          }

        heard_act : MeterActs (link_setting at w l) reads_as_request reads_as_reply (meter at w l)
            (meter at w' step.after)
        unfolding asker_seen
        heard_act = elim (which_way direction at.direction) [
          | inl way ↦ meter_heard (answerer_seen way) (asker_left way).1
          | inr way ↦ meter_hears (asker_seen way) (reply_measured way)
        ]

        -- what is left in a lane and what is sent onto it
        lane_is : (way : Direction) → link_lane_view way step.after.channel
            ≡ map link_frame_view (world_queue way less.channel) ++ map link_frame_view (step.grows.news way)
        lane_is way =
            ap (map link_frame_view) (step.grows.queues way)
            ∙ map-append link_frame_view (world_queue way less.channel) (step.grows.news way)

        lane_left : (way : Direction) (g : SeenFrame) → In g (map link_frame_view (world_queue way less.channel))
            → In g (link_lane_view way l.channel)
        lane_left way g member =
            let (f, among, is) = seen_from (world_queue way less.channel) g member in
            subst (λ x. In x (link_lane_view way l.channel)) (sym is)
            (In-map link_frame_view f (world_queue way l.channel)
            (left_there at w l direction (frame w.time octets) k.takes.rest was k.net stands_now way f among))

        -- what is sent is due in time, and takes the least delay or more, though a frame is gone
        lane_in_time : (way : Direction)
            → IsSentInTime (link_setting at w l) w.time (link_lane_view way l.channel)
            (link_lane_view way step.after.channel)
        lane_in_time way =
            sent_in_time (link_setting at w l) w.time (world_queue way less.channel) (step.grows.news way)
            (link_lane_view way l.channel) (link_lane_view way step.after.channel) (lane_is way) (lane_left way)
            (λ f member. subst (λ most. IsDueSoon w.time most (world_queue way less.channel) f)
            (most_same at w l direction (frame w.time octets) k.takes.rest was k.net stands_now)
            (step.grows.dues way f member))

        lane_late : (way : Direction)
            → IsSentLate (least_delay at w l) w.time (link_lane_view way l.channel)
            (link_lane_view way step.after.channel)
        lane_late way =
            sent_late (least_delay at w l) w.time (world_queue way less.channel) (step.grows.news way)
            (link_lane_view way l.channel) (link_lane_view way step.after.channel) (lane_is way) (lane_left way)
            (λ f member. subst (λ least. w.time + least ≤ f.due)
            (least_same at w l direction (frame w.time octets) k.takes.rest was k.net stands_now)
            (step.grows.lates way f member))

        bounds_stay : step.after.channel.bounds ≡ l.channel.bounds
        bounds_stay =
            step.grows.bounds
            ∙ (carried at w l direction (frame w.time octets) k.takes.rest was k.net stands_now).bounds

      -- one of the two stations hears it, and both are live
      no_one_failed : HasFailed k.place emptied → ⊥
      no_one_failed failed = elim (which_way direction at.direction) [
        | inl way ↦
            let same : port ≡ receiver at.direction l.channel = port_is ∙ ap (λ d. receiver d l.channel) way in
            not_failed at.answering (receiver at.direction l.channel) l.answering
            (place_is at.answering (receiver at.direction l.channel) l.answering
            (ap (λ (p : PortId). p.clock) (sym same))) failed
        | inr way ↦
            let same : port ≡ sender at.direction l.channel =
            port_is ∙ ap (λ d. receiver d l.channel) way ∙ receiver_opposite at.direction l.channel in
            not_failed at.asking (sender at.direction l.channel) l.asking
            (place_is at.asking (sender at.direction l.channel) l.asking (ap (λ (p : PortId). p.clock) (sym same)))
            failed
      ]

      here_seen : (told : Option Answer) → Hears k.place port.port octets emptied draws told w'
          → IsOneAct at w w' l
      here_seen (Some told) calls = record {
        after = (step told calls).after;
        settled = settled told calls;
        bounds = bounds_stay told calls;
        so = record {
          acts = heard_act told calls;
          out = lane_in_time told calls at.direction;
          back = lane_in_time told calls (other_direction at.direction);
          out_late = lane_late told calls at.direction;
          back_late = lane_late told calls (other_direction at.direction);
        };
      }
      here_seen None (failed, none, is) = absurd (no_one_failed failed)

    -- a frame on this link is heard by the port at its end
    pub answerer_hears_seen : (at : LinkPlace) (l : IsLinkOf at w) → link ≡ at.link → direction ≡ at.direction
        → IsSeenAtLink (λ k m m'. AnswererHears k reads_as_request reads_as_reply m.pair m'.pair) at w w' l
    answerer_hears_seen at l here way = go answer k.hears
      where
        go : (told : Option Answer) → Hears k.place port.port octets emptied draws told w'
            → IsSeenAtLink (λ k m m'. AnswererHears k reads_as_request reads_as_reply m.pair m'.pair) at w w' l
        go None (failed, none, is) = absurd (no_one_failed at l here failed)
        go (Some told) calls = record {
          after = (step at l here told calls).after;
          settled = settled at l here told calls;
          bounds = bounds_stay at l here told calls;
          so = answerer_seen at l here told calls way;
        }

    pub asker_hears_seen : (at : LinkPlace) (l : IsLinkOf at w) → link ≡ at.link
        → direction ≡ other_direction at.direction
        → IsSeenAtLink (λ k m m'. AskerHears k reads_as_request reads_as_reply m.pair m'.pair) at w w' l
    asker_hears_seen at l here way = go answer k.hears
      where
        go : (told : Option Answer) → Hears k.place port.port octets emptied draws told w'
            → IsSeenAtLink (λ k m m'. AskerHears k reads_as_request reads_as_reply m.pair m'.pair) at w w' l
        go None (failed, none, is) = absurd (no_one_failed at l here failed)
        go (Some told) calls = record {
          after = (step at l here told calls).after;
          settled = settled at l here told calls;
          bounds = bounds_stay at l here told calls;
          so = asker_seen at l here told calls way;
        }

    pub delivers_seen : (at : LinkPlace) (l : IsLinkOf at w) → IsOneAct at w w' l
    delivers_seen at l = elim (same_place link at.link) [
      | inl here ↦ here_seen at l here answer k.hears
      | inr other ↦ elsewhere_seen at l other answer k.hears
    ]
