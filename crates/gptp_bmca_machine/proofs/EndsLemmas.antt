-- The links of a calm network: what is known of their ends, once all that is held is sound.
use Rattle.std.proofs.Common.{◌≡◌, ◌≢◌, ◌⊎◌, ◌≤◌, ◌<◌, ◌+◌, ℕ, suc, true, Some, slice_get, refl, sym, ap, subst, ◌∙◌, inl, inr, arith}
use native.Mathlib.Decide.{dec_le}
use Rattle.gptp_lists.specs.Members.{In}
use Rattle.gptp_graph.specs.Order.{IsLower}
use Rattle.gptp_graph.specs.Snapshot.{System, PortIdentity, port_of, Joins, IsLinked, clocks}
use Rattle.gptp_graph.specs.Best.{IsBest}
use Rattle.gptp_graph.specs.Distance.{IsDistance}
use Rattle.gptp_graph.proofs.LinkLemmas.{Joins-sym, Joins-clock}
use Rattle.gptp_graph.proofs.SystemLemmas as systems
use Rattle.gptp_graph.proofs.BestLemmas.{IsBest-neighbour}
use Rattle.gptp_bmca_machine.specs.Frame.{Spelling, AnnounceFrame, Lane}
use Rattle.gptp_bmca_machine.specs.EarlyPorts.{EarlyPortsHear}
use Rattle.gptp_bmca_machine.specs.Facts.{station_system}
use Rattle.gptp_bmca_machine.specs.Station.{Reception, Disabled, Mine, Received, Port, Station, MachineState}
use Rattle.gptp_bmca_machine.specs.Vectors.{master}
use Rattle.gptp_bmca_machine.specs.Sound.{RunIsSound}
use Rattle.gptp_bmca_machine.specs.LinkStage.{Wiring}
use Rattle.gptp_bmca_machine.specs.Link.{final_vector, StandsAt, TellerIsReady, TellerIsSettled, HearsSettled, IsLaneOf, LaneIsOnTime, Ends, LapsesLater, HearsOn, StaysOn}
use Rattle.gptp_bmca_machine.specs.Network.{Network, IsTimed, IsSettlingNetwork, since, wiring}
use Rattle.gptp_bmca_machine.specs.Calm.{IsCalmPort, HasLane, Calm}
use Rattle.gptp_bmca_machine.specs.Lapsing.{FollowsFrom, NothingNearLapses}
use Rattle.gptp_bmca_machine.specs.Levels.{LeadsFarther}
use Rattle.gptp_bmca_machine.proofs.ClearLemmas.{tells_clear, weaker_clear}
use Rattle.gptp_bmca_machine.proofs.PlaceLemmas.{same_there}
use Rattle.gptp_bmca_machine.proofs.RestLemmas.{Chooses, IsClear, bounded, was_itself}

-- the systems at distance d have settled
abbrev pub AllChoose : Network → MachineState → ℕ → Type 0
AllChoose n w d = (v : ℕ) (best : System) (s : Station) → slice_get w.stations (n.place v) ≡ Some s
    → IsBest n.graph v best → IsDistance n.graph v d → Chooses s best d

module _ (n : Network) (net : IsSettlingNetwork n) (w : MachineState) (calm : Calm n w) (sound : RunIsSound n w) where
  -- a live system is at rest, and all it holds is sound
  pub clear_at : (i : ℕ) (s : Station) → slice_get w.stations i ≡ Some s → s.live ≡ true → n.sound ≤ w.time
      → IsClear n.graph s
  clear_at i s at live late = record {
    rest = (calm.stations i s at live).at_rest;
    known = was_itself n.graph (station_system s) (calm.facts.stations i s at live).known;
    held = λ place r holds. bounded n.graph s.clock (suc place) r (sound late i s place r at live holds);
  }

  -- where a system of the snapshot stands
  pub station_of : (v : ℕ) → In v (clocks n.graph)
      → (s : Station) × (slice_get w.stations (n.place v) ≡ Some s) × (s.live ≡ true) × (s.clock ≡ v)
  station_of v known =
      let (x, live, clock) = systems.system_of n.graph v known in
      let has = calm.there x live in (
        has.station,
        subst (λ c. slice_get w.stations (n.place c) ≡ Some has.station) clock has.there,
        has.live,
        ap (λ (y : System). y.clock) has.is ∙ clock,
      )

  pub is_station : (v : ℕ) (s : Station) → In v (clocks n.graph) → slice_get w.stations (n.place v) ≡ Some s
      → (s.live ≡ true) × (s.clock ≡ v)
  is_station v s known at =
      let (x, there, live, clock) = station_of v known in
      let same : x ≡ s = same_there w.stations (n.place v) x s there at in
      (subst (λ (y : Station). y.live ≡ true) same live, subst (λ (y : Station). y.clock ≡ v) same clock)

  pub stands : (v : ℕ) → In v (clocks n.graph) → StandsAt w v (n.place v)
  stands v known i m at = (
    λ here. (is_station v m known (subst (λ j. slice_get w.stations j ≡ Some m) here at)).1,
    λ clock. calm.placed i m at ∙ ap n.place clock,
  )

  module _ (d : ℕ) (best : System) (v p u q : ℕ) (near : d < 255) (leads : LeadsFarther n.graph d best v p u q)
      (settled : since n d ≤ w.time → AllChoose n w d) where
    k : Wiring
    k = wiring n d best v p u q

    from_known : In v (clocks n.graph)
    from_known = Joins-clock n.graph (port_of v (suc p)) (port_of u (suc q)) net.graph leads.joins

    back : Joins n.graph (port_of u (suc q)) (port_of v (suc p))
    back = Joins-sym n.graph (port_of v (suc p)) (port_of u (suc q)) leads.joins

    to_known : In u (clocks n.graph)
    to_known = Joins-clock n.graph (port_of u (suc q)) (port_of v (suc p)) net.graph back

    best_to : IsBest n.graph u best
    best_to = IsBest-neighbour n.graph v u best net.graph (suc p, suc q, leads.joins) leads.is_best

    has_lane : HasLane n w (port_of v (suc p)) (port_of u (suc q))
    has_lane = calm.lanes (port_of v (suc p)) (port_of u (suc q)) leads.joins

    lane_is : (l : Lane) → slice_get w.lanes (n.lane (port_of v (suc p))) ≡ Some l
        → IsLaneOf (wiring n d best v p u q) l
    lane_is l at =
        subst (IsLaneOf (wiring n d best v p u q))
        (same_there w.lanes (n.lane (port_of v (suc p))) has_lane.lane l has_lane.there at)
        (record { from = has_lane.from; to = has_lane.to; loss = has_lane.loss; is_up = has_lane.is_up })

    timed : IsTimed n d (port_of v (suc p)) (port_of u (suc q))
    timed = net.timed d (port_of v (suc p)) (port_of u (suc q)) leads.joins

    started : n.claimed d (port_of v (suc p)) ≤ w.time → n.start ≤ w.time
    started late = let begun : n.start ≤ n.claimed d (port_of v (suc p)) = timed.begun in omega arith

    by_then : n.claimed d (port_of v (suc p)) ≤ w.time → n.sound ≤ w.time
    by_then late = let sound : n.sound ≤ n.claimed d (port_of v (suc p)) = timed.sound in omega arith

    on_time : (l : Lane) (f : AnnounceFrame) → slice_get w.lanes (n.lane (port_of v (suc p))) ≡ Some l → In f l.frames
        → LaneIsOnTime (wiring n d best v p u q) w.time f
    on_time l f at h = record {
      left = calm.left (n.lane (port_of v (suc p))) l f at h;
      due = λ late. within (started late) (calm.facts.fresh (n.lane (port_of v (suc p))) l f at h
          (subst (λ x. Joins n.graph x l.to) (sym (lane_is l at).from)
          (subst (Joins n.graph (port_of v (suc p))) (sym (lane_is l at).to) leads.joins)));
    }
      where
        within : n.start ≤ w.time → (f.due ≤ w.time + n.most) ⊎ (f.due < n.start) → f.due ≤ w.time + n.most
        within begun (inl soon) = soon
        within begun (inr early) = omega arith

    -- the system that tells has settled
    pub tells_settled : n.sound ≤ w.time → (s : Station) (pv : Port) → slice_get w.stations (n.place v) ≡ Some s
        → slice_get s.ports p ≡ Some pv → TellerIsReady (wiring n d best v p u q) s pv
        → TellerIsSettled (wiring n d best v p u q) s pv
    tells_settled late s pv at port ready =
        let (live, clock) = is_station v s from_known at in
        tells_clear n.graph net.graph (wiring n d best v p u q) best refl leads.far best_to leads.there leads.farther s
        (clear_at (n.place v) s at live late)
        (λ place r holds. (sound late (n.place v) s place r at live holds).fits) clock leads.is_best
        (port_of u (suc q)) leads.joins refl
        (net.graph.apart (port_of v (suc p)) (port_of u (suc q)) leads.joins) near
        (calm.facts.stations (n.place v) s at live).follows pv port ready

    module _ (late : n.claimed d (port_of v (suc p)) ≤ w.time) where
      -- what the system that hears would announce itself is worse
      hears_weaker : (s : Station) (pu : Port) (root steps : ℕ) → slice_get w.stations (n.place u) ≡ Some s
          → slice_get s.ports q ≡ Some pu → pu.held ≡ Mine root steps
          → IsLower (final_vector (wiring n d best v p u q)) (master root steps u (suc q))
      hears_weaker s pu root steps at port mine =
          let (live, clock) = is_station u s to_known at in
          weaker_clear n.graph net.graph (wiring n d best v p u q) best refl leads.far best_to leads.there leads.farther
          s (clear_at (n.place u) s at live (by_then late)) clock pu port root steps mine

      -- the system that hears is ready
      hears_settled : (s : Station) (pu : Port) → slice_get w.stations (n.place u) ≡ Some s
          → slice_get s.ports q ≡ Some pu → HearsSettled (wiring n d best v p u q) pu
      hears_settled s pu at port = go (is_station u s to_known at)
        where
          go : (s.live ≡ true) × (s.clock ≡ u) → HearsSettled (wiring n d best v p u q) pu
          go (live, clock) = record {
            weaker = λ root steps mine. hears_weaker s pu root steps at port mine;
            source = source;
            long = λ r e log. is_port.long r (port_of v (suc p)) e leads.joins (source r e) log;
          }
            where
              is_port : IsCalmPort n w.time (port_of u (suc q)) pu
              is_port =
                  subst (λ c. IsCalmPort n w.time (port_of c (suc q)) pu) clock
                  ((calm.stations (n.place u) s at live).ports q pu port)

              source : (r : Reception) → pu.held ≡ Received r → r.said.source ≡ port_of v (suc p)
              source r e =
                  let came =
                  (sound (by_then late) (n.place u) s q r at live (pu, port, e)).over
                  (subst (λ c. IsLinked n.graph (port_of c (suc q))) (sym clock) (port_of v (suc p), back)) in
                  came.source
                  ∙ net.graph.one_link (port_of u (suc q)) came.from (port_of v (suc p))
                  (Joins-sym n.graph came.from (port_of u (suc q))
                  (subst (λ c. Joins n.graph came.from (port_of c (suc q))) clock came.joins)) back

    -- a port of a live system is on once it is capable
    pub capable_at : (c i : ℕ) (to : PortIdentity) (s : Station) (port : Port) → In c (clocks n.graph)
        → Joins n.graph (port_of c (suc i)) to → slice_get w.stations (n.place c) ≡ Some s
        → slice_get s.ports i ≡ Some port → n.ready (port_of c (suc i)) ≤ w.time → port.held ≢ Disabled
    capable_at c i to s port known joins at there ready =
        let (live, clock) = is_station c s known at in
        ((calm.stations (n.place c) s at live).ports i port there).capable
        (subst (λ x. n.ready (port_of x (suc i)) ≤ w.time) (sym clock) ready)
        (subst (λ x. IsLinked n.graph (port_of x (suc i))) (sym clock) (to, joins))

    -- a system that hasn't settled yet, or whose port isn't on yet, still has the time
    early : (s : Station) (pv : Port) → slice_get w.stations (n.place v) ≡ Some s → slice_get s.ports p ≡ Some pv
        → (TellerIsReady (wiring n d best v p u q) s pv → ⊥) → w.time + n.most < since n (suc d)
    early s pv at port not = elim (dec_le (since n d) w.time) [
      | no before ↦ let delay : n.most ≤ n.step = timed.delay in omega arith
      | yes late ↦ elim (dec_le (n.ready (port_of v (suc p))) w.time) [
        | no before ↦ let ready : n.ready (port_of v (suc p)) + n.most ≤ since n (suc d) = timed.ready in omega arith
        | yes ready ↦ let chooses = settled late v best s at leads.is_best leads.here in
            absurd (not (
              (chooses.root, chooses.steps),
              capable_at v p (port_of u (suc q)) s pv from_known leads.joins at port ready,
            ))
      ]
    ]

    -- the port that hears is on where it must be
    pub hears_on : (says : Spelling) (w' : MachineState) → EarlyPortsHear says n w w'
        → HearsOn says (wiring n d best v p u q) w
    hears_on says w' waking l f fs a s pu late lane_at frames due said at port =
        elim (dec_le (n.ready (port_of u (suc q))) w.time) [
          | yes ready ↦ capable_at u q (port_of v (suc p)) s pu to_known back at port ready
          | no before ↦ waking.hears d (port_of v (suc p)) u q leads.joins late (omega arith) l f fs a s pu lane_at
              frames
              due said at port
        ]

    pub stays_on : (says : Spelling) (w' : MachineState) → ((s' : Station) (pu' : Port)
        → slice_get w'.stations (n.place u) ≡ Some s' → slice_get s'.ports q ≡ Some pu'
        → n.ready (port_of u (suc q)) ≤ w.time → pu'.held ≢ Disabled) → EarlyPortsHear says n w w'
        → StaysOn (wiring n d best v p u q) w w'
    stays_on says w' after waking s s' pu pu' late at port at' port' on =
        elim (dec_le (n.ready (port_of u (suc q))) w.time) [
          | yes ready ↦ after s' pu' at' port' ready
          | no before ↦ waking.stays d (port_of v (suc p)) u q leads.joins late (omega arith) s s' pu pu' at port at'
              port'
              on
        ]

    -- what the machine keeps of a link holds of it
    pub ends : Ends (wiring n d best v p u q) w
    ends = record {
      in_time = timed.until;
      claimed = timed.claimed;
      entry = timed.entry;
      apart = net.graph.apart (port_of v (suc p)) (port_of u (suc q)) leads.joins;
      teller_stands = stands v from_known;
      hearer_stands = stands u to_known;
      hearer_lives = λ s at. (is_station u s to_known at).0;
      lane = lane_is;
      only_lane = λ j l at to. calm.apart j (n.lane (port_of v (suc p))) l has_lane.lane at has_lane.there
          (to ∙ sym has_lane.to);
      frames = on_time;
      teller = λ s pv at port.
          let (live, clock) = is_station v s from_known at in
          let is_port : IsCalmPort n w.time (port_of v (suc p)) pv =
          subst (λ c. IsCalmPort n w.time (port_of c (suc p)) pv) clock
          ((calm.stations (n.place v) s at live).ports p pv port) in
          record {
            log = is_port.log;
            interval = is_port.interval;
            timer = is_port.timer;
            own = λ root steps mine.
                (calm.stations (n.place v) s at live).at_rest.mine p pv root steps port mine;
            settled = λ late ready. tells_settled (by_then late) s pv at port ready;
            early = early s pv at port;
          };
      hearer = λ s pu at port late. hears_settled late s pu at port;
    }

    -- what the system that hears received over the link doesn't lapse, where nothing does
    pub lapses_later : NothingNearLapses n w → LapsesLater (wiring n d best v p u q) w
    lapses_later nothing s due at late slave lapse = go (is_station u s to_known at)
      where
        go : (s.live ≡ true) × (s.clock ≡ u) → w.time < due
        go (live, clock) = nothing (n.place u) s d due at live near follows late lapse
          where
            follows : FollowsFrom n.graph s d
            follows = record {
              port = suc q;
              slave = slave;
              from = port_of v (suc p);
              joins = subst (λ c. Joins n.graph (port_of v (suc p)) (port_of c (suc q))) (sym clock) leads.joins;
              there = leads.here;
            }
