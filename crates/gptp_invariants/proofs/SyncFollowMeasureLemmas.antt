-- What ports have measured of their links is right of the links that are followed.
use Rattle.std.proofs.Common.{◌≡◌, ◌≤◌, ◌+◌, ◌-◌, ◌*◌, ℕ, zero, suc, ℤ, pos, Some, slice_get, refl, sym, ap, subst, ◌∙◌, arith}
use Rattle.std.specs.Option.{option_map, option_map_or}
use Rattle.std.proofs.lemmas.Nat.{mul-le}
use Rattle.gptp_graph.specs.Snapshot.{Joins, PortIdentity, Snapshot}
use Rattle.gptp_vector.specs.declared.port.PortId.{PortId}
use Rattle.gptp_lists.proofs.PlaceLemmas.{member_there}
use Rattle.gptp_pdelay.specs.GoodLink.{IsGoodLink}
use Rattle.gptp_pdelay.proofs.MeasurementLemmas.{rest_is_long}
use Rattle.gptp_pdelay.specs.Peer.{delay_of, rate_of_peer}
use Rattle.gptp_pdelay.specs.declared.exchange.Measurement.{Measurement}
use Rattle.gptp_setup.specs.declared.setup.Params.{Params}
use Rattle.gptp_setup.specs.Intervals.{interval_of}
use Rattle.gptp_setup.specs.Stamping.{blur_of, rate_interval}
use Rattle.gptp_setup.specs.SettlingParams.{SettlingParams}
use Rattle.gptp_system.specs.declared.port.Port.{Port}
use Rattle.gptp_system.specs.State.{SystemState, number, own}
use Rattle.gptp_system.specs.Syncing.{delay_at, root_rate_at, slave_delay, slave_rate}
use Rattle.gptp_model.specs.World.{Channel, WorldState, receiver, sender}
use Rattle.gptp_pdelay_machine.specs.Measured.{HasMeasured}
use Rattle.gptp_pdelay_machine.specs.Setting.{Setting as Measuring}
use Rattle.gptp_sync_machine.specs.Right.{IsMeasuredAt}
use Rattle.gptp_sync_machine.specs.Tree.{Parts}
use Rattle.gptp_sync_machine.specs.TreeLaws.{AreStampsOf, MeasuresParent}
use Rattle.gptp_sync_machine.proofs.RightLemmas.{exchanges_measure_right}
use Rattle.gptp_sync_machine.proofs.TreeLemmas.{parents_are_measured}
use Rattle.gptp_invariants.specs.SyncFollowers.{HasWay, IsFollower, follower_clock, parent_link, follower_parts, follower_state}
use Rattle.gptp_invariants.specs.DelayLinkView.{IsEndOf, LinkPlace, other_direction, link_setting, setup_stamps}
use Rattle.gptp_invariants.specs.DelayMeasuredLinks.{HasMeasuredLink, HaveMeasuredLinks}
use Rattle.gptp_invariants.specs.WorldStanding.{snapshot_of}
use Rattle.gptp_invariants.specs.SyncTimed.{AllMeasureRight, IsSettledFrom}
use Rattle.gptp_invariants.specs.ChoiceView.{port_identity_number}
use Rattle.gptp_invariants.proofs.SyncFollowPartLemmas.{bound_is, setup_read}
use Rattle.gptp_invariants.proofs.SyncFollowSettingLemmas.{fit, least_is}
use Rattle.gptp_invariants.proofs.SyncFollowTreeLemmas.{own_port, slave_is, steady}
use Rattle.gptp_invariants.proofs.DelayLinkLemmas.{sender_opposite}
use Rattle.gptp_invariants.proofs.WorldWayLemmas.{one_way}

-- the rate and the delay of a Slave port are those of its last measurement
rate_seen : (s : SystemState) (i : ℕ) (q : Port) (one : Measurement) → s.slave ≡ Some (suc i)
    → slice_get s.ports i ≡ Some q → q.peer.last ≡ Some one → slave_rate s ≡ one.rate
rate_seen s i q one slave there last =
    ap (λ o. option_map_or (root_rate_at s) o (pos 0)) slave
    ∙ ap (λ o. option_map_or (λ (y : Port). rate_of_peer y.peer) o (pos 0)) there
    ∙ ap (λ o. option_map_or (λ (y : Measurement). y.rate) o (pos 0)) last

delay_seen : (s : SystemState) (i : ℕ) (q : Port) (one : Measurement) → s.slave ≡ Some (suc i)
    → slice_get s.ports i ≡ Some q → q.peer.last ≡ Some one → slave_delay s ≡ one.delay
delay_seen s i q one slave there last =
    ap (λ o. option_map_or (delay_at s) o (pos 0)) slave
    ∙ ap (λ o. option_map_or (λ (y : Port). option_map_or (λ d. d) (delay_of y.peer) (pos 0)) o (pos 0)) there
    ∙ ap (λ o. option_map_or (λ d. d) (option_map (λ (y : Measurement). y.delay) o) (pos 0)) last

module _ (p : SettlingParams) (settled longest : ℕ) (w : WorldState) (is : IsSettledFrom p settled longest w)
    (at : LinkPlace)
    (f : IsFollower at w) (steps : ℕ) (h : HasWay p.params at w f steps) where
  abbrev x : Parts
  x = follower_parts p.params w

  abbrev g : Snapshot
  g = snapshot_of w

  abbrev s : SystemState
  s = follower_state at w f

  abbrev to : PortId
  to = receiver at.direction f.channel

  set_to : (place : ℕ) (port : PortId) (e : IsEndOf place port w) → e.station.setup.params ≡ p.params
  set_to place port e = (is.world.known.set place e.station e.here).starts.params

  -- an end of a link stamps the clock of the parts
  end_read : (place : ℕ) (port : PortId) (e : IsEndOf place port w)
      → AreStampsOf x port.clock (setup_stamps e.station.setup)
  end_read place port e =
      subst (λ n. AreStampsOf x n (setup_stamps e.station.setup)) e.named
      (setup_read p.params w is.world.sound.wired.clocks is.world.sound.wired.setups place e.station e.here
      (set_to place port e))

  -- the link that the port has measured is the one over which its system follows
  module _ (q : Port) (m : HasMeasuredLink w (port_identity_number to)
      (port_identity_number (sender at.direction f.channel)) q) where
    abbrev k : Measuring
    k = link_setting m.at w m.link

    same_channel : m.link.channel ≡ f.channel
    same_channel =
        (one_way w is.world.sound is.world.encodable m.at.link at.link m.at.direction (other_direction at.direction)
        m.link.channel f.channel m.link.here f.here
        (m.from_is ∙ sym (ap port_identity_number (sender_opposite at.direction f.channel)))).same_channel

    most : k.most ≡ x.most (port_identity_number to)
    most =
        ap (λ (c : Channel). c.bounds.max) same_channel
        ∙ sym (bound_is (λ b. b.max) w is.world.sound is.world.encodable at.link at.direction f.channel f.here f.used)

    least : x.least (port_identity_number to) ≡ f.channel.bounds.min
    least = bound_is (λ b. b.min) w is.world.sound is.world.encodable at.link at.direction f.channel f.here f.used

    turnaround : k.turnaround ≡ p.params.turnaround
    turnaround = ap (λ (y : Params). y.turnaround) (set_to m.at.answering _ m.link.answering)

    -- an exchange leaves so much to the next
    rested : 12 * x.blur ≤ x.interval - (2 * k.most + k.turnaround)
    rested =
        let good : IsGoodLink (k.most + blur_of p.params) k.turnaround p.params.threshold =
        subst (λ (q : Params). IsGoodLink (k.most + blur_of q) k.turnaround q.threshold)
        (set_to m.at.asking _ m.link.asking) m.link.good.short in
        let answered = is.pace.params.answered in
        let ranges = is.pace.params.ranges.params in
        let whole : 1 * interval_of p.params.pdelay ≤ p.params.window * interval_of p.params.pdelay =
        mul-le 1 (interval_of p.params.pdelay) p.params.window (interval_of p.params.pdelay) ranges.window-least
        (omega arith) in
        let fits = fit p settled longest w is at f steps h in
        let long = rest_is_long (blur_of p.params) k.most k.turnaround p.params.threshold x.interval good
        (omega (arith, answered, turnaround, whole)) fits.long fits.little in
        omega (arith, long)

    measures : MeasuresParent x (follower_clock at w f) (parent_link at.direction f.channel) k
    measures = record {
      least =
          let order = (is.world.sound.on_time.links at.link f.channel f.here).ordered in
          let up = ap (λ (c : Channel). c.bounds.max) same_channel in
          omega (arith, order, up, least);
      most = most;
      turnaround = turnaround;
      interval = ap rate_interval (set_to m.at.asking _ m.link.asking);
      rested = rested;
      asking = subst (λ (y : PortIdentity). AreStampsOf x y.clock k.asking_clock) m.from_is
          (end_read m.at.asking _ m.link.asking);
      answering = subst (λ (y : PortIdentity). AreStampsOf x y.clock k.answering_clock) m.to_is
          (end_read m.at.answering _ m.link.answering);
    }

    right : (one : Measurement) × (q.peer.last ≡ Some one) × IsMeasuredAt h.way steps one.rate one.delay
    right =
        exchanges_measure_right k h.way h.phase steps q.peer.last
        (parents_are_measured x g steps (follower_clock at w f) longest (parent_link at.direction f.channel) h.way
        h.phase k (fit p settled longest w is at f steps h) f.parent h.is measures)
        (subst (λ n. HasMeasured k n q.peer.last)
        (ap (λ (c : Channel). c.bounds.min) same_channel ∙ sym (least_is p settled longest w is at f steps h))
        m.measured)

  same_measured : (rate seen_rate delay seen_delay : ℤ) → rate ≡ seen_rate → delay ≡ seen_delay
      → IsMeasuredAt h.way steps seen_rate seen_delay → IsMeasuredAt h.way steps rate delay
  same_measured rate seen_rate delay seen_delay rates delays is_right =
      subst (λ r. IsMeasuredAt h.way steps r delay) (sym rates)
      (subst (IsMeasuredAt h.way steps seen_rate) (sym delays) is_right)

  -- so it is of its Slave port
  module _ (all : HaveMeasuredLinks w) where
    by_number : (n : ℕ) → to.port ≡ n → s.slave ≡ Some n → IsMeasuredAt h.way steps (slave_rate s) (slave_delay s)
    by_number zero number slave =
        let least = (own_port p settled longest w is at f).least in absurd (omega (arith, least, number))
    by_number (suc i) number slave =
        let most = (own_port p settled longest w is at f).most in
        let places = (steady p settled longest w is at f).shown.places in
        let (q, there) = member_there s.ports i (omega (arith, most, number)) in
        let (holds, held) = member_there s.held i (omega (arith, most, number, places)) in
        let itself : to ≡ own s (suc i) = λ j. record { clock = sym f.own.named j; port = number j } in
        let from = port_identity_number (sender at.direction f.channel) in
        let joins : Joins g (port_identity_number (own s (suc i))) from =
        subst (λ (y : PortId). Joins g (port_identity_number y) from) itself f.parent.nearer.joins in
        let m : HasMeasuredLink w (port_identity_number to) from q =
        subst (λ (y : PortId). HasMeasuredLink w (port_identity_number y) from q) (sym itself)
        (all at.answering f.own.station f.own.here f.own.live i holds q held there from joins) in
        let (one, last, is_right) = right q m in
        let rate = rate_seen s i q one slave there last in
        let delay = delay_seen s i q one slave there last in
        same_measured (slave_rate s) one.rate (slave_delay s) one.delay rate delay is_right

pub measured_right : (p : SettlingParams) (settled longest : ℕ) (w : WorldState) → IsSettledFrom p settled longest w
    → HaveMeasuredLinks w → AllMeasureRight p.params w
measured_right p settled longest w is all at f steps h =
    by_number p settled longest w is at f steps h all (receiver at.direction f.channel).port refl
    (slave_is p settled longest w is at f)
