-- What is told over the links of a world in which all asked first at one time comes in order, after what makes the port
-- that hears it capable.
use Rattle.std.proofs.Common.{◌≡◌, ◌≤◌, ◌<◌, ◌+◌, ◌*◌, ◌⊎◌, ℕ, suc, true, List, Some, slice_get, refl, sym, ap, subst, ◌∙◌, inl, inr, arith}
use Rattle.gptp_lists.specs.Members.{In}
use Rattle.gptp_lists.proofs.MappedLemmas.{same_there, some_same}
use Rattle.gptp_lists.proofs.SystemSpecLemmas.{In-map, from_map}
use Rattle.gptp_graph.specs.Snapshot.{PortIdentity, port_of}
use Rattle.gptp_vector.specs.declared.port.PortId.{PortId}
use Rattle.gptp_messages.specs.declared.message.Message.TheVariants as messages
use Rattle.gptp_messages.proofs.GrammarLemmas.{one_reading}
use Rattle.gptp_links.specs.declared.bounds.Bounds.{Bounds}
use Rattle.gptp_links.specs.declared.link.Direction.{Direction}
use Rattle.gptp_links.specs.Fate.{Draw}
use Rattle.gptp_links.specs.Queue.{Frame}
use Rattle.gptp_pdelay.specs.Peer.{is_capable}
use Rattle.gptp_setup.specs.declared.setup.Params.{Params}
use Rattle.gptp_setup.specs.Intervals.{interval_of}
use Rattle.gptp_setup.specs.SettlingParams.{SettlingParams}
use Rattle.gptp_scenario.specs.declared.change.Act.{Act}
use Rattle.gptp_system.specs.declared.port.Port.{Port}
use Rattle.gptp_system.specs.State.{clock, number}
use Rattle.gptp_model.specs.Acts.{Acts, at as at_time}
use Rattle.gptp_model.specs.declared.done.Done.{Done}
use Rattle.gptp_model.specs.declared.station.Station.{Station}
use Rattle.gptp_model.specs.Pending.{NothingBefore}
use Rattle.gptp_model.specs.Sound.{IsSound}
use Rattle.gptp_model.specs.World.{Channel, WorldState, sender, world_queue}
use Rattle.gptp_pdelay_machine.specs.Facts.{Facts}
use Rattle.gptp_pdelay_machine.specs.First.{InvFirst}
use Rattle.gptp_pdelay_machine.specs.FirstLaws.{exchange_span}
use Rattle.gptp_pdelay_machine.specs.Lanes.{LaneFrame}
use Rattle.gptp_pdelay_machine.specs.Messages.{Reply}
use Rattle.gptp_pdelay_machine.specs.Meter.{Meter, act_of}
use Rattle.gptp_pdelay_machine.specs.Order.{IsNotBefore, IsOrdered, least_exchange}
use Rattle.gptp_pdelay_machine.specs.Setting.{Setting}
use Rattle.gptp_pdelay_machine.proofs.FactLemmas.{facts_kept, facts_later}
use Rattle.gptp_pdelay_machine.proofs.FirstLemmas.{first_kept, first_later}
use Rattle.gptp_pdelay_machine.proofs.OrderLemmas.{not_before_kept, not_before_later, not_capable_before, order_kept}
use Rattle.gptp_bmca_machine.specs.Acts.{StationActs}
use Rattle.gptp_bmca_machine.specs.Frame.{Announce, AnnounceFrame, Lane}
use Rattle.gptp_invariants.specs.ChoiceSeenLaws.{IsNoChange}
use Rattle.gptp_invariants.specs.ChoiceSettlesAsMachine.{IsWorld}
use Rattle.gptp_invariants.specs.ChoiceView.{frame_view, lane_place, lane_view, port_identity_number, says_announce, view}
use Rattle.gptp_invariants.specs.DelayLinkActs.{IsOneAct}
use Rattle.gptp_invariants.specs.DelayLinkView.{IsLinkOf, LinkPlace, least_delay, link_frame_view, link_setting, meter, other_direction, pair, reads_as_reply, reads_as_request}
use Rattle.gptp_invariants.specs.DelayMeasured.{LinkStandsAt}
use Rattle.gptp_invariants.proofs.ChoiceSeenLaneLemmas.{lane_there}
use Rattle.gptp_invariants.proofs.DelayCapableKeptLemmas.{no_change}
use Rattle.gptp_invariants.proofs.DelayLinkActLemmas.{acts_seen}
use Rattle.gptp_invariants.proofs.DelayLinkFactLemmas.{nothing_late}
use Rattle.gptp_invariants.proofs.DelayLinkLemmas.{sender_opposite}
use Rattle.gptp_invariants.proofs.DelayPoppedLemmas.{receiver_opposite}
use Rattle.gptp_settling_time.proofs.MasterLemmas.{BeginsAtMaster, WasOnLane, acted, master_capable}
use Rattle.gptp_settling_time.proofs.ToldLemmas.{capable_on}

-- ---- Announces

-- octets tell where they say an Announce
abbrev pub tells : List ℕ → Type 0
tells octets = (a : Announce) × says_announce octets a

-- what tells is no reply
pub tells_no_reply : (octets : List ℕ) (reply : Reply) → tells octets → reads_as_reply octets reply → ⊥
tells_no_reply octets reply (a, (m, reads, is)) (inl (r, other, same)) =
    let one = one_reading octets (messages.Announce m) (messages.PdelayResp r) reads other in cc
tells_no_reply octets reply (a, (m, reads, is)) (inr (r, other, same)) =
    let one = one_reading octets (messages.Announce m) (messages.PdelayRespFollowUp r) reads other in cc

-- ---- a link since its port first asked

-- Exchanges are in their phases since the port that asks first asked, and it isn't capable before the second is full.
pub record IsTimelyAt (first : ℕ) (at : LinkPlace) (w : WorldState) : Type 0 where
  pub link : IsLinkOf at w
  pub short : exchange_span (link_setting at w link) < (link_setting at w link).period
  pub facts : Facts (link_setting at w link) first (pair at w link)
  pub inv : InvFirst (link_setting at w link) (least_delay at w link) reads_as_request reads_as_reply first
      (meter at w link)
  pub before : IsNotBefore (link_setting at w link) (least_delay at w link) first (pair at w link)

-- the greatest delay of a link is below twice the least: a neighbour's first Announce comes after what makes the port
-- capable
abbrev pub VariesLittle : Channel → Type 0
VariesLittle channel = channel.bounds.max < 2 * channel.bounds.min

-- and what is told to the port comes in order, where the link is so
pub record IsOrderedAt (first : ℕ) (at : LinkPlace) (w : WorldState) : Type 0 where
  pub timely : IsTimelyAt first at w
  pub order : VariesLittle timely.link.channel
      → IsOrdered (link_setting at w timely.link) tells reads_as_reply first (pair at w timely.link).asker
      (pair at w timely.link).back

-- the link in the other direction
abbrev pub opposite : LinkPlace → LinkPlace
opposite at = record {
  link = at.link;
  direction = other_direction at.direction;
  asking = at.answering;
  answering = at.asking;
}

pub turned : (p : SettlingParams) (w : WorldState) → IsWorld p w → (at : LinkPlace) → LinkStandsAt at w
    → LinkStandsAt (opposite at) w
turned p w is at s =
    let asks : s.asking.station.setup.params ≡ p.params =
    (is.known.set at.asking s.asking.station s.asking.here).starts.params in
    let answers : s.answering.station.setup.params ≡ p.params =
    (is.known.set at.answering s.answering.station s.answering.here).starts.params in
    let good = s.good in
    record {
      channel = s.channel;
      here = s.here;
      up = s.up;
      lossless = s.lossless;
      asking = record {
        station = s.answering.station;
        here = s.answering.here;
        live = s.answering.live;
        named = s.answering.named ∙ ap (λ (q : PortId). q.clock) (sym (sender_opposite at.direction s.channel));
      };
      answering = record {
        station = s.asking.station;
        here = s.asking.here;
        live = s.asking.live;
        named = s.asking.named ∙ ap (λ (q : PortId). q.clock) (sym (receiver_opposite at.direction s.channel));
      };
      apart = λ same. s.apart (sym same);
      good = rw (asks, answers) (rw (asks, answers) at good);
    }

-- ---- an act

module _ (at : LinkPlace) (first : ℕ) (w w' : WorldState) (x : IsTimelyAt first at w) (seen : IsOneAct at w w' x.link)
  where
    abbrev k : Setting
    k = link_setting at w x.link

    abbrev least : ℕ
    least = least_delay at w x.link

    abbrev m : Meter
    m = meter at w x.link

    abbrev m' : Meter
    m' = meter at w' seen.after

    pub facts' : Facts k first m'.pair
    facts' =
        facts_kept k first reads_as_request reads_as_reply m.pair m'.pair
        (act_of k reads_as_request reads_as_reply m m' seen.so.acts) seen.so.out seen.so.back x.facts

    pub same_least : least ≡ least_delay at w' seen.after
    same_least = ap (λ (b : Bounds). b.min) (sym seen.bounds)

    pub inv' : InvFirst k least reads_as_request reads_as_reply first m'
    inv' =
        first_kept k least reads_as_request reads_as_reply first first m m' x.short (omega arith) x.facts facts'
        seen.so.out_late seen.so.back_late seen.so.acts x.inv

    pub before' : IsNotBefore k least first m'.pair
    before' =
        not_before_kept k least reads_as_request reads_as_reply first first m m' x.short x.facts seen.so.acts x.inv
        x.before

    unfoldable pub timely_acted : IsTimelyAt first at w'
    timely_acted = record {
      link = seen.after;
      short = subst (λ (y : Setting). exchange_span y < y.period) (sym seen.settled) x.short;
      facts = subst (λ (y : Setting). Facts y first m'.pair) (sym seen.settled) facts';
      inv = subst (λ (y : Setting). InvFirst y (least_delay at w' seen.after) reads_as_request reads_as_reply first m')
          (sym seen.settled)
          (subst (λ (n : ℕ). InvFirst k n reads_as_request reads_as_reply first m') same_least inv');
      before = subst (λ (y : Setting). IsNotBefore y (least_delay at w' seen.after) first m'.pair) (sym seen.settled)
          (subst (λ (n : ℕ). IsNotBefore k n first m'.pair) same_least before');
    }

    -- it stays capable
    pub stays_capable : is_capable x.link.asking.state.peer ≡ true
        → is_capable seen.after.asking.state.peer ≡ true
    stays_capable =
        capable_on k least reads_as_request reads_as_reply first m m' first x.short x.facts seen.so.acts x.inv x.before

    -- from when on its neighbour tells
    abbrev from : ℕ
    from = first + k.period + least_exchange k least

    unfoldable pub order_acted : ((f : LaneFrame) → In f m'.pair.back → tells f.octets → In f m.pair.back ⊎
        (from ≤ w.time))
        → (VariesLittle x.link.channel → IsOrdered k tells reads_as_reply first m.pair.asker m.pair.back)
        → IsOrderedAt first at w'
    unfolding timely_acted
    order_acted sent order = record {
      timely = timely_acted;
      order = λ little.
          let was : x.link.channel.bounds.max < 2 * x.link.channel.bounds.min =
          subst (λ (b : Bounds). b.max < 2 * b.min) seen.bounds little in
          subst (λ (y : Setting). IsOrdered y tells reads_as_reply first m'.pair.asker m'.pair.back) (sym seen.settled)
          (order_kept k least reads_as_request reads_as_reply tells first first from m m' x.short (omega (arith, was))
          x.facts x.inv seen.so.acts sent (order was));
    }

-- a link whose port that asks is capable was so long after it first asked
capable_late : (p : SettlingParams) (first : ℕ) (at : LinkPlace) (w : WorldState) → IsWorld p w
    → (x : IsTimelyAt first at w)
    → is_capable x.link.asking.state.peer ≡ true
    → first + interval_of p.params.pdelay
    + (x.link.channel.bounds.min + p.params.turnaround + x.link.channel.bounds.min)
    ≤ w.time
capable_late p first at w is x capable =
    let l = x.link in
    let asks = (is.known.set at.asking l.asking.station l.asking.here).starts.params in
    let answers = (is.known.set at.answering l.answering.station l.answering.here).starts.params in
    let period : (link_setting at w l).period ≡ interval_of p.params.pdelay =
    ap (λ (y : Params). interval_of y.pdelay) asks in
    let turnaround : (link_setting at w l).turnaround ≡ p.params.turnaround =
    ap (λ (y : Params). y.turnaround) answers in
    let ordered = (is.sound.on_time.links at.link l.channel l.here).ordered in
    let late = not_capable_before (link_setting at w l) (least_delay at w l) reads_as_request reads_as_reply first first
    (meter at w l) ordered x.short x.facts x.inv x.before capable in
    omega (arith, late, period, turnaround)

pub link_seen : (act : Act) (w : WorldState) (draws : List Draw) (done : Done) (w' : WorldState) → IsNoChange act
    → Acts act w draws done w' → IsSound w → (at : LinkPlace) (l : IsLinkOf at w) → IsOneAct at w w' l
link_seen act w draws done w' none acts sound at l = acts_seen at act w w' draws done l sound (no_change act none) acts

-- the systems of a world act, and each link sees one act
module _ (p : SettlingParams) (first : ℕ) (w w' : WorldState) (is : IsWorld p w) (is' : IsWorld p w')
    (time_is : w'.time ≡ w.time) (steps : StationActs says_announce (view w) (view w'))
    (seen : (at : LinkPlace) (l : IsLinkOf at w) → IsOneAct at w w' l) where
  timely_on : (at : LinkPlace) → IsTimelyAt first at w → IsTimelyAt first at w'
  timely_on at x = timely_acted at first w w' x (seen at x.link)

  -- what is told now is told by a capable port
  module _ (at : LinkPlace) (x : IsTimelyAt first at w) (y : IsTimelyAt first (opposite at) w) where
    abbrev after : IsLinkOf at w'
    after = (seen at x.link).after

    abbrev back_way : Direction
    back_way = other_direction at.direction

    told_late : BeginsAtMaster (view w') (lane_view back_way after.channel)
        → from at first w w' x (seen at x.link) ≤ w.time
    told_late master =
        let port = master_capable w' (λ place station here.
        (is'.sound.on_time.stations place station here).steady.shown)
        (lane_view back_way after.channel) master in
        let z : IsTimelyAt first (opposite at) w' = timely_on (opposite at) y in
        let e = z.link.asking in
        let same_channel : z.link.channel ≡ after.channel =
        same_there w'.net.channels at.link z.link.channel after.channel z.link.here after.here in
        let begins : port_identity_number (sender back_way z.link.channel) ≡ port_of master.s.clock master.port =
        ap (λ c. port_identity_number (sender back_way c)) same_channel ∙ master.from in
        let named : clock e.station.system ≡ clock port.station.system =
        e.named ∙ ap (λ (q : PortIdentity). q.clock) begins ∙ sym port.named in
        let place : at.answering ≡ master.place =
        is'.sound.wired.clocks at.answering master.place e.station port.station e.here port.here named in
        let station : e.station ≡ port.station =
        same_there w'.stations master.place e.station port.station
        (ap (slice_get w'.stations) (sym place) ∙ e.here) port.here in
        let number_is : (sender back_way z.link.channel).port ≡ suc port.at =
        ap (λ (q : PortIdentity). q.port) begins ∙ port.port_is in
        let found : Some e.state ≡ Some port.state =
        sym e.there
        ∙ ap (number e.station.system.ports) number_is
        ∙ ap (λ (s : Station). slice_get s.system.ports port.at) station
        ∙ port.there in
        let capable : is_capable e.state.peer ≡ true =
        ap (λ (q : Port). is_capable q.peer) (some_same e.state port.state found) ∙ port.capable in
        let late = capable_late p first (opposite at) w' is' z capable in
        let bounds : z.link.channel.bounds ≡ x.link.channel.bounds =
        ap (λ (c : Channel). c.bounds) same_channel ∙ (seen at x.link).bounds in
        let least_is : z.link.channel.bounds.min ≡ x.link.channel.bounds.min = ap (λ (b : Bounds). b.min) bounds in
        let asks = (is.known.set at.asking x.link.asking.station x.link.asking.here).starts.params in
        let answers = (is.known.set at.answering x.link.answering.station x.link.answering.here).starts.params in
        let period : (link_setting at w x.link).period ≡ interval_of p.params.pdelay =
        ap (λ (q : Params). interval_of q.pdelay) asks in
        let turnaround : (link_setting at w x.link).turnaround ≡ p.params.turnaround =
        ap (λ (q : Params). q.turnaround) answers in
        let same_time = time_is in
        omega (arith, late, least_is, period, turnaround, same_time)

    pub sent_late : (f : LaneFrame) → In f (pair at w' after).back → tells f.octets
        → In f (pair at w x.link).back ⊎ (from at first w w' x (seen at x.link) ≤ w.time)
    sent_late f member (a, said) =
        let (frame, among, same) = from_map link_frame_view f (world_queue back_way after.channel) member in
        let seen_frame : AnnounceFrame = frame_view frame in
        let octets : f.octets ≡ seen_frame.octets = ap (λ (g : LaneFrame). g.octets) (sym same) in
        let place = lane_place at.link back_way in
        let now : In seen_frame (lane_view back_way after.channel).frames =
        In-map frame_view frame (world_queue back_way after.channel) among in
        elim (acted says_announce place seen_frame a (subst (λ (o : List ℕ). says_announce o a) octets said) (view w)
        (view w') steps (lane_view back_way after.channel)
        (lane_there w'.net.channels at.link back_way after.channel after.here) now) [
          | inl was ↦ inl (old frame same was)
          | inr master ↦ inr (told_late master)
        ]
      where
        old : (frame : Frame) → link_frame_view frame ≡ f → WasOnLane (view w) (lane_place at.link back_way)
            (frame_view frame)
            → In f (pair at w x.link).back
        old frame same was =
            let lane : was.lane ≡ lane_view back_way x.link.channel =
            same_there (view w).lanes (lane_place at.link back_way) was.lane (lane_view back_way x.link.channel)
            was.there
            (lane_there w.net.channels at.link back_way x.link.channel x.link.here) in
            let (g, g_in, g_same) = from_map frame_view (frame_view frame) (world_queue back_way x.link.channel)
            (subst (λ (l : Lane). In (frame_view frame) l.frames) lane was.among) in
            let one : link_frame_view g ≡ f =
            (λ i. record {
              due = ap (λ (h : AnnounceFrame). h.due) g_same i;
              octets = ap (λ (h : AnnounceFrame). h.octets) g_same i;
            })
            ∙ same in
            subst (λ h. In h (pair at w x.link).back) one
            (In-map link_frame_view g (world_queue back_way x.link.channel) g_in)

-- ---- time

unfoldable pub timely_later : (first : ℕ) (at : LinkPlace) (time : ℕ) (w : WorldState) → IsSound w → w.time ≤ time
    → NothingBefore time w.net.pending → IsTimelyAt first at w → IsTimelyAt first at (at_time time w)
timely_later first at time w sound later nothing t =
    let k = link_setting at w t.link in
    record {
      link = t.link;
      short = t.short;
      facts = facts_later k first time (pair at w t.link) later (nothing_late at time w t.link sound nothing) t.facts;
      inv = first_later k (least_delay at w t.link) reads_as_request reads_as_reply first (meter at w t.link) _
          (time, later, refl) t.inv;
      before = not_before_later k (least_delay at w t.link) reads_as_request reads_as_reply first (meter at w t.link) _
          (time, later, refl) t.before;
    }
