-- The ends of a link of which claims are made at all times: what is known of them by what each of both systems holds.
use Rattle.std.proofs.Common.{◌≡◌, ◌≢◌, ◌⊎◌, ◌<◌, ◌≤◌, ◌+◌, ℕ, suc, Some, slice_get, sym, subst, ◌∙◌, inl, inr, arith}
use Rattle.gptp_lists.specs.Members.{In}
use Rattle.gptp_graph.specs.Order.{IsLower}
use Rattle.gptp_graph.specs.Snapshot.{IsWellFormed, Joins, Snapshot, System, clocks, port_of}
use Rattle.gptp_graph.proofs.LinkLemmas.{Joins-clock, Joins-sym}
use Rattle.gptp_bmca_machine.specs.Acts.{MachineSteps}
use Rattle.gptp_bmca_machine.specs.Calm.{HasLane, IsCalmPort}
use Rattle.gptp_bmca_machine.specs.Frame.{AnnounceFrame, Lane, Spelling}
use Rattle.gptp_bmca_machine.specs.Link.{Ends, HearsSettled, IsLaneOf, LaneIsOnTime, LinkSettles, TellerIsReady, TellerIsSettled, final_vector}
use Rattle.gptp_bmca_machine.specs.LinkStage.{Wiring}
use Rattle.gptp_bmca_machine.specs.LossLaws.{IsAfterLoss, IsWhatIsLeft}
use Rattle.gptp_bmca_machine.specs.Network.{Network}
use Rattle.gptp_bmca_machine.specs.Sound.{ReceivedFits}
use Rattle.gptp_bmca_machine.specs.Station.{Disabled, MachineState, Mine, Port, Received, Reception, Station}
use Rattle.gptp_bmca_machine.specs.Vectors.{master}
use Rattle.gptp_bmca_machine.proofs.LinkLemmas.{link_kept}
use Rattle.gptp_bmca_machine.proofs.PlaceLemmas.{same_there}
use Rattle.gptp_bmca_machine.proofs.StillLemmas.{capable_at, is_station, stands, still}

-- the link tells from the first on, and those that it leads to have settled by this time
abbrev pub telling : Network → ℕ → ℕ → System → ℕ → ℕ → ℕ → ℕ → Wiring
telling n before d best v p u q = record (still n d best v p u q) { before = before }

-- ---- what the machine keeps of it

module _ (g : Snapshot) (n : Network) (wf : IsWellFormed n.graph) (left : IsWhatIsLeft g n) (before d : ℕ)
    (best : System) (v p u q : ℕ) (joins : Joins n.graph (port_of v (suc p)) (port_of u (suc q)))
    (in_time : n.most ≤ before) where
  pub link_back : Joins n.graph (port_of u (suc q)) (port_of v (suc p))
  link_back = Joins-sym n.graph (port_of v (suc p)) (port_of u (suc q)) joins

  pub teller_known : In v (clocks n.graph)
  teller_known = Joins-clock n.graph (port_of v (suc p)) (port_of u (suc q)) wf joins

  pub hearer_known : In u (clocks n.graph)
  hearer_known = Joins-clock n.graph (port_of u (suc q)) (port_of v (suc p)) wf link_back

  -- what the teller and the hearer have to show
  pub record ShowEnds (w : MachineState) : Type 0 where
    pub settled : (s : Station) (pv : Port) → slice_get w.stations (n.place v) ≡ Some s
        → slice_get s.ports p ≡ Some pv → TellerIsReady (telling n before d best v p u q) s pv
        → TellerIsSettled (telling n before d best v p u q) s pv
    pub early : (s : Station) (pv : Port) → slice_get w.stations (n.place v) ≡ Some s → slice_get s.ports p ≡ Some pv
        → (TellerIsReady (telling n before d best v p u q) s pv → ⊥) → w.time + n.most < before
    pub weaker : (s : Station) (pu : Port) → slice_get w.stations (n.place u) ≡ Some s → slice_get s.ports q ≡ Some pu
        → (root steps : ℕ) → pu.held ≡ Mine root steps
        → IsLower (final_vector (telling n before d best v p u q)) (master root steps u (suc q))

  module _ (w : MachineState) (kept : IsAfterLoss n w) (fits : ReceivedFits g w) where
    pub teller_on : (s : Station) (pv : Port) → slice_get w.stations (n.place v) ≡ Some s
        → slice_get s.ports p ≡ Some pv → pv.held ≢ Disabled
    teller_on s pv at there =
        capable_at g n wf left w kept fits v p (port_of u (suc q)) s pv teller_known joins at there

    pub hearer_on : (s : Station) (pu : Port) → slice_get w.stations (n.place u) ≡ Some s
        → slice_get s.ports q ≡ Some pu → pu.held ≢ Disabled
    hearer_on s pu at there =
        capable_at g n wf left w kept fits u q (port_of v (suc p)) s pu hearer_known link_back at there

    has_lane : HasLane n w (port_of v (suc p)) (port_of u (suc q))
    has_lane = kept.calm.lanes (port_of v (suc p)) (port_of u (suc q)) joins

    lane_is : (l : Lane) → slice_get w.lanes (n.lane (port_of v (suc p))) ≡ Some l
        → IsLaneOf (telling n before d best v p u q) l
    lane_is l at =
        subst (IsLaneOf (telling n before d best v p u q))
        (same_there w.lanes (n.lane (port_of v (suc p))) has_lane.lane l has_lane.there at)
        (record { from = has_lane.from; to = has_lane.to; loss = has_lane.loss; is_up = has_lane.is_up })

    -- what is on its way comes within the greatest delay
    pub on_time : (l : Lane) (f : AnnounceFrame) → slice_get w.lanes (n.lane (port_of v (suc p))) ≡ Some l
        → In f l.frames → LaneIsOnTime (telling n before d best v p u q) w.time f
    on_time l f at h = record {
      left = kept.calm.left (n.lane (port_of v (suc p))) l f at h;
      due = λ since. within (kept.calm.facts.fresh (n.lane (port_of v (suc p))) l f at h
          (subst (λ x. Joins n.graph x l.to) (sym (lane_is l at).from)
          (subst (Joins n.graph (port_of v (suc p))) (sym (lane_is l at).to) joins)));
    }
      where
        within : (f.due ≤ w.time + n.most) ⊎ (f.due < n.start) → f.due ≤ w.time + n.most
        within (inl soon) = soon
        within (inr early) = let begun = kept.begun in omega (arith, early, begun)

    -- what a port at the link received came over it
    pub source_at : (s : Station) (pu : Port) (r : Reception) → slice_get w.stations (n.place u) ≡ Some s
        → slice_get s.ports q ≡ Some pu → pu.held ≡ Received r → r.said.source ≡ port_of v (suc p)
    source_at s pu r at there holds =
        let (live, clock) = is_station g n wf left w kept fits u s hearer_known at in
        let back = left.links (port_of u (suc q)) (port_of v (suc p)) link_back in
        let came = (fits (n.place u) s q r at live (pu, there, holds)).over
        (port_of v (suc p), subst (λ c. Joins g (port_of c (suc q)) (port_of v (suc p))) (sym clock) back) in
        came.source
        ∙ left.graph.one_link (port_of u (suc q)) came.from (port_of v (suc p))
        (Joins-sym g came.from (port_of u (suc q))
        (subst (λ c. Joins g came.from (port_of c (suc q))) clock came.joins)) back

    -- it stays longer than an interval and a delay
    pub long_at : (s : Station) (pu : Port) (r : Reception) → slice_get w.stations (n.place u) ≡ Some s
        → slice_get s.ports q ≡ Some pu → pu.held ≡ Received r → r.said.log ≡ n.log_of (port_of v (suc p))
        → n.interval_of (port_of v (suc p)) + n.most < r.span
    long_at s pu r at there holds log =
        let (live, clock) = is_station g n wf left w kept fits u s hearer_known at in
        let is_port : IsCalmPort n w.time (port_of u (suc q)) pu =
        subst (λ c. IsCalmPort n w.time (port_of c (suc q)) pu) clock
        ((kept.calm.stations (n.place u) s at live).ports q pu there) in
        is_port.long r (port_of v (suc p)) holds joins (source_at s pu r at there holds) log

    pub hears_by : (s : Station) (pu : Port) → slice_get w.stations (n.place u) ≡ Some s
        → slice_get s.ports q ≡ Some pu → ((root steps : ℕ) → pu.held ≡ Mine root steps
        → IsLower (final_vector (telling n before d best v p u q)) (master root steps u (suc q)))
        → HearsSettled (telling n before d best v p u q) pu
    hears_by s pu at there weaker = record {
      weaker = weaker;
      source = λ r holds. source_at s pu r at there holds;
      long = λ r holds log. long_at s pu r at there holds log;
    }

    pub ends_by : ShowEnds w → Ends (telling n before d best v p u q) w
    ends_by show = record {
      in_time = omega (arith, in_time);
      claimed = omega arith;
      entry = inl (λ i. 0);
      apart = wf.apart (port_of v (suc p)) (port_of u (suc q)) joins;
      teller_stands = stands g n wf left w kept fits v teller_known;
      hearer_stands = stands g n wf left w kept fits u hearer_known;
      hearer_lives = λ s at. (is_station g n wf left w kept fits u s hearer_known at).0;
      lane = lane_is;
      only_lane = λ j l at to. kept.calm.apart j (n.lane (port_of v (suc p))) l has_lane.lane at has_lane.there
          (to ∙ sym has_lane.to);
      frames = on_time;
      teller = λ s pv at there.
          let (live, clock) = is_station g n wf left w kept fits v s teller_known at in
          let is_port : IsCalmPort n w.time (port_of v (suc p)) pv =
          subst (λ c. IsCalmPort n w.time (port_of c (suc p)) pv) clock
          ((kept.calm.stations (n.place v) s at live).ports p pv there) in
          record {
            log = is_port.log;
            interval = is_port.interval;
            timer = is_port.timer;
            own = λ root steps mine.
                (kept.calm.stations (n.place v) s at live).at_rest.mine p pv root steps there mine;
            settled = λ since ready. show.settled s pv at there ready;
            early = show.early s pv at there;
          };
      hearer = λ s pu at there since. hears_by s pu at there (show.weaker s pu at there);
    }

  -- every step keeps such a link at its stages
  pub telling_kept : (says : Spelling) (w w' : MachineState) (kept : IsAfterLoss n w) (kept' : IsAfterLoss n w')
      (fits : ReceivedFits g w) (fits' : ReceivedFits g w') → ShowEnds w → ShowEnds w' → MachineSteps says w w'
      → LinkSettles says (telling n before d best v p u q) w → LinkSettles says (telling n before d best v p u q) w'
  telling_kept says w w' kept kept' fits fits' show show' step link =
      link_kept says (telling n before d best v p u q) w w' (ends_by w kept fits show) (ends_by w' kept' fits' show')
      (λ s due at since slave lapse. kept.lapses (n.place u) due s at lapse)
      (λ l f fs a s pu since at_l frames due said at there. hearer_on w kept fits s pu at there)
      (λ s s' pu pu' since at there at' there' on. hearer_on w' kept' fits' s' pu' at' there') step link
