-- After a loss unmoved systems keep their roots and steps, since what is held fits the snapshot of before.
use Rattle.std.proofs.Common.{◌≡◌, ◌≢◌, ◌⊎◌, ◌≤◌, ◌<◌, ◌+◌, ℕ, zero, suc, true, List, [], ◌∷◌, Some, length, slice_get, refl, sym, ap, subst, ◌∙◌, inl, inr, arith}
use native.Mathlib.Decide.{dec_lt}
use Rattle.gptp_lists.specs.Members.{In}
use Rattle.gptp_lists.proofs.PlaceLemmas.{member_there}
use Rattle.gptp_graph.specs.Order.{IsLower}
use Rattle.gptp_graph.specs.Snapshot.{System, PortIdentity, Snapshot, clocks, port_of, Joins, Adjacent, IsLinked, IsWellFormed}
use Rattle.gptp_graph.specs.Best.{IsBest}
use Rattle.gptp_graph.specs.Distance.{IsDistance}
use Rattle.gptp_graph.proofs.LinkLemmas.{Joins-sym, Joins-clock, Adjacent-sym}
use Rattle.gptp_graph.proofs.SystemLemmas as systems
use Rattle.gptp_graph.proofs.BestLemmas.{IsBest-neighbour, IsBest-unique}
use Rattle.gptp_graph.proofs.DistanceLemmas.{IsDistance-unique, IsDistance-neighbour, IsDistance-clock, IsDistance-best, best_at_zero, nearer_neighbour}
use Rattle.gptp_graph.proofs.ExistenceLemmas.{best_exists, distance_exists}
use Rattle.gptp_bmca_machine.specs.Frame.{Announce, Spelling, AnnounceFrame, Lane}
use Rattle.gptp_bmca_machine.specs.Station.{Reception, Held, Disabled, Mine, Received, Port, Station, MachineState, HoldsAt}
use Rattle.gptp_bmca_machine.specs.Vectors.{master}
use Rattle.gptp_bmca_machine.specs.Acts.{MachineSteps}
use Rattle.gptp_bmca_machine.specs.Facts.{station_system}
use Rattle.gptp_bmca_machine.specs.Sound.{ReceivedFits}
use Rattle.gptp_bmca_machine.specs.LinkStage.{Wiring, IsFinal, FinalAnnounceStays}
use Rattle.gptp_bmca_machine.specs.Link.{final_vector, StandsAt, TellerIsReady, TellerIsSettled, HearsSettled, IsLaneOf, LaneIsOnTime, Ends, Stand, LinkSettles}
use Rattle.gptp_bmca_machine.specs.Network.{Network, IsSettlingNetwork, wiring}
use Rattle.gptp_bmca_machine.specs.Calm.{IsCalmPort, HasLane, Calm}
use Rattle.gptp_bmca_machine.specs.Levels.{LeadsFarther}
use Rattle.gptp_bmca_machine.specs.Run.{last_state}
use Rattle.gptp_bmca_machine.specs.LossLaws.{EverythingFits, IsWhatIsLeft, IsLoss, Unmoved, IsAfterLoss, IsKeptRun}
use Rattle.gptp_bmca_machine.proofs.ClearLemmas.{tells_clear, weaker_clear}
use Rattle.gptp_bmca_machine.proofs.PlaceLemmas.{same_there}
use Rattle.gptp_bmca_machine.proofs.LinkLemmas.{link_kept, link_settled}
use Rattle.gptp_bmca_machine.proofs.RestLemmas.{Chooses, IsClear, bounded, zero_settles, suc_settles, was_there}
use Rattle.gptp_bmca_machine.proofs.LevelLemmas.{places_of}
use Rattle.gptp_bmca_machine.proofs.RestingLemmas.{links_stay, stays_so}
use Rattle.gptp_bmca_machine.proofs.LossLemmas.{fits_kept, loss_fits}

-- the link tells from the first on, and what is sent has come
abbrev pub still : Network → ℕ → System → ℕ → ℕ → ℕ → ℕ → Wiring
still n d best v p u q = record {
  teller = v;
  teller_place = n.place v;
  teller_port = p;
  hearer = u;
  hearer_place = n.place u;
  hearer_port = q;
  lane = n.lane (port_of v (suc p));
  log = n.log_of (port_of v (suc p));
  interval = n.interval_of (port_of v (suc p));
  most = n.most;
  root = best.identity;
  steps = d;
  from = 0;
  until = 0;
  before = n.most;
}

-- a link that is left, from an unmoved system to one that was farther, or as far with the higher clock
pub record LeadsOn (g : Snapshot) (n : Network) (d : ℕ) (best : System) (v p u q : ℕ) : Type 0 where
  pub unmoved : Unmoved g n v
  pub is_best : IsBest g v best
  pub here : IsDistance g v d
  pub joins : Joins n.graph (port_of v (suc p)) (port_of u (suc q))
  pub far : ℕ
  pub there : IsDistance g u far
  pub farther : (d < far) ⊎ ((d ≡ far) × (v < u))

-- each such link from distance d tells, and what it tells stays
abbrev pub StillSettles : Spelling → Snapshot → Network → ℕ → MachineState → Type 0
StillSettles says g n d w = (best : System) (v p u q : ℕ) → d < 255 → LeadsOn g n d best v p u q
    → LinkSettles says (still n d best v p u q) w

-- the unmoved systems at distance d have their roots and steps
abbrev pub StillChoose : Snapshot → Network → MachineState → ℕ → Type 0
StillChoose g n w d = (v : ℕ) (best : System) (s : Station) → slice_get w.stations (n.place v) ≡ Some s
    → Unmoved g n v → IsBest g v best → IsDistance g v d → Chooses s best d

-- ---- distances of unmoved systems

module _ (g : Snapshot) (n : Network) (wf : IsWellFormed n.graph) (left : IsWhatIsLeft g n) where
  pub adjacent_before : (v x : ℕ) → Adjacent n.graph v x → Adjacent g v x
  adjacent_before v x (m, k, joins) = (m, k, left.links (port_of v m) (port_of x k) joins)

  pub live_before : (v : ℕ) → In v (clocks n.graph) → In v (clocks g)
  live_before v known =
      let (s, here, clock) = systems.system_of n.graph v known in
      subst (λ c. In c (clocks g)) clock (was_there g s (left.systems s here))

  -- what is the best of an unmoved system was, and it was as far
  pub best_was : (v : ℕ) (c : System) → Unmoved g n v → IsBest n.graph v c → IsBest g v c
  best_was v c u is =
      let (f, was) = best_exists g v left.graph (live_before v u.live) in
      subst (IsBest g v) (IsBest-unique n.graph v f c wf (u.best f was) is) was

  pub far_was : (v far : ℕ) → Unmoved g n v → IsDistance n.graph v far → IsDistance g v far
  far_was v far u is =
      let (f, was) = distance_exists g v left.graph (live_before v u.live) in
      subst (IsDistance g v) (IsDistance-unique n.graph v f far wf (u.far f was) is) was

  -- no system was farther before
  pub nearer_before : (d x e : ℕ) (best : System) → IsBest g x best → IsBest n.graph x best → IsDistance n.graph x d
      → IsDistance g x e → e ≤ d
  nearer_before zero x e best was is here there =
      let clock : best.clock ≡ x = best_at_zero n.graph x best wf is here in
      let none : IsDistance g x 0 =
      subst (λ v. IsDistance g v 0) clock
      (IsDistance-best g best (subst (λ v. IsBest g v best) (sym clock) was)) in
      let same : e ≡ 0 = IsDistance-unique g x e 0 left.graph there none in
      omega arith
  nearer_before (suc d) x e best was is here there =
      go (λ y f. nearer_before d y f best) (nearer_neighbour n.graph x d wf here)
    where
      go : ((y f : ℕ) → IsBest g y best → IsBest n.graph y best → IsDistance n.graph y d → IsDistance g y f → f ≤ d)
          → ((y : ℕ) × Adjacent n.graph x y × IsDistance n.graph y d) → e ≤ suc d
      go ih (y, joined, y_here) = by (distance_exists g y left.graph
          (live_before y (IsDistance-clock n.graph y d wf y_here)))
        where
          by : ((f : ℕ) × IsDistance g y f) → e ≤ suc d
          by (f, f_there) =
              let less : f ≤ d =
              ih y f (IsBest-neighbour g x y best left.graph (adjacent_before x y joined) was)
              (IsBest-neighbour n.graph x y best wf joined is) y_here f_there in
              let near : e ≤ suc f =
              IsDistance-neighbour g y x f e left.graph
              (Adjacent-sym g x y (adjacent_before x y joined)) f_there there in
              omega arith

  -- an unmoved system has an unmoved neighbour that is nearer by one, on a link that is left
  pub nearer_unmoved : (v d : ℕ) (best : System) → Unmoved g n v → IsBest g v best → IsDistance g v (suc d)
      → (x : ℕ) × Adjacent n.graph v x × IsDistance g x d × Unmoved g n x
  nearer_unmoved v d best unmoved is_best here = go (nearer_neighbour n.graph v d wf (unmoved.far (suc d) here))
    where
      go : ((x : ℕ) × Adjacent n.graph v x × IsDistance n.graph x d)
          → (x : ℕ) × Adjacent n.graph v x × IsDistance g x d × Unmoved g n x
      go (x, joined, x_here) = by (distance_exists g x left.graph
          (live_before x (IsDistance-clock n.graph x d wf x_here)))
        where
          was : IsBest g x best
          was = IsBest-neighbour g v x best left.graph (adjacent_before v x joined) is_best

          is : IsBest n.graph x best
          is = IsBest-neighbour n.graph v x best wf joined (unmoved.best best is_best)

          same_far : (e : ℕ) → IsDistance g x e → e ≡ d
          same_far e there =
              let less : e ≤ d = nearer_before d x e best was is x_here there in
              let near : suc d ≤ suc e =
              IsDistance-neighbour g x v e (suc d) left.graph
              (Adjacent-sym g v x (adjacent_before v x joined)) there here in
              omega arith

          by : ((e : ℕ) × IsDistance g x e) → (x : ℕ) × Adjacent n.graph v x × IsDistance g x d × Unmoved g n x
          by (e, there) = (
            x,
            joined,
            subst (IsDistance g x) (same_far e there) there,
            record {
              live = IsDistance-clock n.graph x d wf x_here;
              best = λ b was_b.
                  IsBest-neighbour n.graph v x b wf joined
                  (unmoved.best b (IsBest-neighbour g x v b left.graph
                  (Adjacent-sym g v x (adjacent_before v x joined)) was_b));
              far = λ f f_there. subst (IsDistance n.graph x) (sym (same_far f f_there)) x_here;
            },
          )

-- ---- the ends of links

module _ (g : Snapshot) (n : Network) (wf : IsWellFormed n.graph) (left : IsWhatIsLeft g n) (w : MachineState)
    (kept : IsAfterLoss n w)
    (all : ReceivedFits g w) where
  calm : Calm n w
  calm = kept.calm

  pub clear_at : (i : ℕ) (s : Station) → slice_get w.stations i ≡ Some s → s.live ≡ true → IsClear g s
  clear_at i s at live = record {
    rest = (calm.stations i s at live).at_rest;
    known = left.systems (station_system s) (calm.facts.stations i s at live).known;
    held = λ place r holds. bounded g s.clock (suc place) r (all i s place r at live holds);
  }

  -- where a system of the snapshot stands
  pub station_of : (v : ℕ) → In v (clocks n.graph)
      → (s : Station) × (slice_get w.stations (n.place v) ≡ Some s) × (s.live ≡ true) × (s.clock ≡ v)
  station_of v known =
      let (x, live, clock) = systems.system_of n.graph v known in
      let has = calm.there x live in (
        has.station,
        subst (λ c. slice_get w.stations (n.place c) ≡ Some has.station) clock has.there,
        has.live,
        ap (λ (y : System). y.clock) has.is ∙ clock,
      )

  pub is_station : (v : ℕ) (s : Station) → In v (clocks n.graph) → slice_get w.stations (n.place v) ≡ Some s
      → (s.live ≡ true) × (s.clock ≡ v)
  is_station v s known at =
      let (x, there, live, clock) = station_of v known in
      let same : x ≡ s = same_there w.stations (n.place v) x s there at in
      (subst (λ (y : Station). y.live ≡ true) same live, subst (λ (y : Station). y.clock ≡ v) same clock)

  pub stands : (v : ℕ) → In v (clocks n.graph) → StandsAt w v (n.place v)
  stands v known i m at = (
    λ here. (is_station v m known (subst (λ j. slice_get w.stations j ≡ Some m) here at)).1,
    λ clock. calm.placed i m at ∙ ap n.place clock,
  )

  -- a port of a link is on
  pub capable_at : (c i : ℕ) (to : PortIdentity) (s : Station) (port : Port) → In c (clocks n.graph)
      → Joins n.graph (port_of c (suc i)) to → slice_get w.stations (n.place c) ≡ Some s
      → slice_get s.ports i ≡ Some port → port.held ≢ Disabled
  capable_at c i to s port known joins at there =
      let (live, clock) = is_station c s known at in
      let linked : IsLinked n.graph (port_of s.clock (suc i)) =
      subst (λ x. IsLinked n.graph (port_of x (suc i))) (sym clock) (to, joins) in
      ((calm.stations (n.place c) s at live).ports i port there).capable (kept.capable (port_of s.clock (suc i)) linked)
      linked

  -- a linked port of a live system stands at its place
  pub port_there : (v p : ℕ) (to : PortIdentity) (s : Station) → slice_get w.stations (n.place v) ≡ Some s
      → Joins n.graph (port_of v (suc p)) to → (q : Port) × (slice_get s.ports p ≡ Some q)
  port_there v p to s at joins = member_there s.ports p within
    where
      known : In v (clocks n.graph)
      known = Joins-clock n.graph (port_of v (suc p)) to wf joins

      within : p < length s.ports
      within =
          let (live, clock) = is_station v s known at in
          let (x, in_x, is_port) = wf.ends (port_of v (suc p)) to joins in
          let same : x ≡ station_system s =
          systems.same_clock n.graph x (station_system s) wf in_x (calm.facts.stations (n.place v) s at live).known
          (is_port.clock ∙ sym clock) in
          subst (λ (y : System). suc p ≤ y.ports) same is_port.last

  module _ (d : ℕ) (best : System) (v p u q : ℕ) (near : d < 255) (leads : LeadsOn g n d best v p u q)
      (settled : StillChoose g n w d) where
    before : Joins g (port_of v (suc p)) (port_of u (suc q))
    before = left.links (port_of v (suc p)) (port_of u (suc q)) leads.joins

    back_before : Joins g (port_of u (suc q)) (port_of v (suc p))
    back_before = Joins-sym g (port_of v (suc p)) (port_of u (suc q)) before

    from_known : In v (clocks n.graph)
    from_known = Joins-clock n.graph (port_of v (suc p)) (port_of u (suc q)) wf leads.joins

    back : Joins n.graph (port_of u (suc q)) (port_of v (suc p))
    back = Joins-sym n.graph (port_of v (suc p)) (port_of u (suc q)) leads.joins

    to_known : In u (clocks n.graph)
    to_known = Joins-clock n.graph (port_of u (suc q)) (port_of v (suc p)) wf back

    best_to : IsBest g u best
    best_to = IsBest-neighbour g v u best left.graph (suc p, suc q, before) leads.is_best

    has_lane : HasLane n w (port_of v (suc p)) (port_of u (suc q))
    has_lane = calm.lanes (port_of v (suc p)) (port_of u (suc q)) leads.joins

    lane_is : (l : Lane) → slice_get w.lanes (n.lane (port_of v (suc p))) ≡ Some l
        → IsLaneOf (still n d best v p u q) l
    lane_is l at =
        subst (IsLaneOf (still n d best v p u q))
        (same_there w.lanes (n.lane (port_of v (suc p))) has_lane.lane l has_lane.there at)
        (record { from = has_lane.from; to = has_lane.to; loss = has_lane.loss; is_up = has_lane.is_up })

    on_time : (l : Lane) (f : AnnounceFrame) → slice_get w.lanes (n.lane (port_of v (suc p))) ≡ Some l → In f l.frames
        → LaneIsOnTime (still n d best v p u q) w.time f
    on_time l f at h = record {
      left = calm.left (n.lane (port_of v (suc p))) l f at h;
      due = λ late. within (calm.facts.fresh (n.lane (port_of v (suc p))) l f at h
          (subst (λ x. Joins n.graph x l.to) (sym (lane_is l at).from)
          (subst (Joins n.graph (port_of v (suc p))) (sym (lane_is l at).to) leads.joins)));
    }
      where
        within : (f.due ≤ w.time + n.most) ⊎ (f.due < n.start) → f.due ≤ w.time + n.most
        within (inl soon) = soon
        within (inr early) = let begun : n.start ≤ w.time = kept.begun in omega arith

    -- the system that tells has settled
    tells_settled : (s : Station) (pv : Port) → slice_get w.stations (n.place v) ≡ Some s
        → slice_get s.ports p ≡ Some pv → TellerIsReady (still n d best v p u q) s pv
        → TellerIsSettled (still n d best v p u q) s pv
    tells_settled s pv at port ready =
        let (live, clock) = is_station v s from_known at in
        tells_clear g left.graph (still n d best v p u q) best refl leads.far best_to leads.there leads.farther s
        (clear_at (n.place v) s at live) (λ place r holds. (all (n.place v) s place r at live holds).fits) clock
        leads.is_best (port_of u (suc q)) before refl
        (wf.apart (port_of v (suc p)) (port_of u (suc q)) leads.joins) near
        (calm.facts.stations (n.place v) s at live).follows pv port ready

    -- what the system that hears would announce itself is worse
    hears_weaker : (s : Station) (pu : Port) (root steps : ℕ) → slice_get w.stations (n.place u) ≡ Some s
        → slice_get s.ports q ≡ Some pu → pu.held ≡ Mine root steps
        → IsLower (final_vector (still n d best v p u q)) (master root steps u (suc q))
    hears_weaker s pu root steps at port mine =
        let (live, clock) = is_station u s to_known at in
        weaker_clear g left.graph (still n d best v p u q) best refl leads.far best_to leads.there leads.farther s
        (clear_at (n.place u) s at live) clock pu port root steps mine

    -- the system that hears is ready
    pub hears_settled : (s : Station) (pu : Port) → slice_get w.stations (n.place u) ≡ Some s
        → slice_get s.ports q ≡ Some pu → HearsSettled (still n d best v p u q) pu
    hears_settled s pu at port = go (is_station u s to_known at)
      where
        go : (s.live ≡ true) × (s.clock ≡ u) → HearsSettled (still n d best v p u q) pu
        go (live, clock) = record {
          weaker = λ root steps mine. hears_weaker s pu root steps at port mine;
          source = source;
          long = λ r e log. is_port.long r (port_of v (suc p)) e leads.joins (source r e) log;
        }
          where
            is_port : IsCalmPort n w.time (port_of u (suc q)) pu
            is_port =
                subst (λ c. IsCalmPort n w.time (port_of c (suc q)) pu) clock
                ((calm.stations (n.place u) s at live).ports q pu port)

            source : (r : Reception) → pu.held ≡ Received r → r.said.source ≡ port_of v (suc p)
            source r e =
                let came =
                (all (n.place u) s q r at live (pu, port, e)).over
                (subst (λ c. IsLinked g (port_of c (suc q))) (sym clock) (port_of v (suc p), back_before)) in
                came.source
                ∙ left.graph.one_link (port_of u (suc q)) came.from (port_of v (suc p))
                (Joins-sym g came.from (port_of u (suc q))
                (subst (λ c. Joins g came.from (port_of c (suc q))) clock came.joins)) back_before

    -- what the machine keeps of a link holds of it
    pub ends : Ends (still n d best v p u q) w
    ends = record {
      in_time = omega arith;
      claimed = omega arith;
      entry = inl refl;
      apart = wf.apart (port_of v (suc p)) (port_of u (suc q)) leads.joins;
      teller_stands = stands v from_known;
      hearer_stands = stands u to_known;
      hearer_lives = λ s at. (is_station u s to_known at).0;
      lane = lane_is;
      only_lane = λ j l at to. calm.apart j (n.lane (port_of v (suc p))) l has_lane.lane at has_lane.there
          (to ∙ sym has_lane.to);
      frames = on_time;
      teller = λ s pv at port.
          let (live, clock) = is_station v s from_known at in
          let is_port : IsCalmPort n w.time (port_of v (suc p)) pv =
          subst (λ c. IsCalmPort n w.time (port_of c (suc p)) pv) clock
          ((calm.stations (n.place v) s at live).ports p pv port) in
          record {
            log = is_port.log;
            interval = is_port.interval;
            timer = is_port.timer;
            own = λ root steps mine.
                (calm.stations (n.place v) s at live).at_rest.mine p pv root steps port mine;
            settled = λ late ready. tells_settled s pv at port ready;
            early = λ not.
                let chooses = settled v best s at leads.unmoved leads.is_best leads.here in
                absurd (not (
                  (chooses.root, chooses.steps),
                  capable_at v p (port_of u (suc q)) s pv from_known leads.joins at port,
                ));
          };
      hearer = λ s pu at port late. hears_settled s pu at port;
    }

-- ---- by distance

module _ (says : Spelling) (g : Snapshot) (n : Network) (wf : IsWellFormed n.graph) (left : IsWhatIsLeft g n) where
  -- those that its links lead to hold what an unmoved system tells
  pub told : (w : MachineState) (kept : IsAfterLoss n w) (all : ReceivedFits g w) (d : ℕ) (best : System)
      (v p u q : ℕ) → d < 255
      → LeadsOn g n d best v p u q → StillChoose g n w d → LinkSettles says (still n d best v p u q) w
      → (s : Station) → slice_get w.stations (n.place u) ≡ Some s
      → (r : Reception) × HoldsAt s q r × IsFinal (still n d best v p u q) r.said
  told w kept all d best v p u q near leads settled link s at =
      by_port (station_of g n wf left w kept all v from_v)
    where
      from_v : In v (clocks n.graph)
      from_v = leads.unmoved.live

      by_port : ((v' : Station) × (slice_get w.stations (n.place v) ≡ Some v') × (v'.live ≡ true) × (v'.clock ≡ v))
          → (r : Reception) × HoldsAt s q r × IsFinal (still n d best v p u q) r.said
      by_port (v', v_at, live, clock) =
          let (pv, pv_at) = port_there g n wf left w kept all v p (port_of u (suc q)) v' v_at leads.joins in
          let (pu, pu_at) = port_there g n wf left w kept all u q (port_of v (suc p)) s at
          (Joins-sym n.graph (port_of v (suc p)) (port_of u (suc q)) leads.joins) in
          let has = kept.calm.lanes (port_of v (suc p)) (port_of u (suc q)) leads.joins in
          let stand : Stand (still n d best v p u q) w pv pu has.lane =
          record {
            v = v';
            u = s;
            teller = v_at;
            teller_port = pv_at;
            hearer = at;
            hearer_port = pu_at;
            lane = has.there;
          } in
          let chooses = settled v best v' v_at leads.unmoved leads.is_best leads.here in
          let (r, holds, final) = link_settled says (still n d best v p u q) w pv pu has.lane
          (ends g n wf left w kept all d best v p u q near leads settled) link stand (
            (chooses.root, chooses.steps),
            capable_at g n wf left w kept all v p (port_of u (suc q)) v' pv from_v leads.joins v_at pv_at,
          ) kept.late in
          (r, (pu, pu_at, holds), final)

  -- an unmoved system chooses as before
  pub chooses_still : (w : MachineState) (kept : IsAfterLoss n w) (all : ReceivedFits g w) (d : ℕ)
      → ((e : ℕ) → e < d → StillSettles says g n e w) → d < 255 → StillChoose g n w d
  chooses_still w kept all zero levels near v best s at unmoved is_best here =
      go (is_station g n wf left w kept all v s unmoved.live at)
    where
      go : (s.live ≡ true) × (s.clock ≡ v) → Chooses s best 0
      go (live, clock) =
          let one : best ≡ station_system s =
          systems.same_clock n.graph best (station_system s) wf (unmoved.best best is_best).live
          (kept.calm.facts.stations (n.place v) s at live).known
          (best_at_zero g v best left.graph is_best here ∙ sym clock) in
          zero_settles g left.graph s (clear_at g n wf left w kept all (n.place v) s at live) best
          (subst (λ c. IsBest g c best) (sym clock) is_best)
          (subst (λ (y : System). In y g.systems) one is_best.live)
          (subst (λ c. IsDistance g c 0) (sym clock) here)
  chooses_still w kept all (suc e) levels near v best s at unmoved is_best here =
      by_neighbour (nearer_unmoved g n wf left v e best unmoved is_best here)
      (chooses_still w kept all e (λ f below. levels f (omega arith)) (omega arith))
    where
      by_neighbour : ((x : ℕ) × Adjacent n.graph v x × IsDistance g x e × Unmoved g n x) → StillChoose g n w e
          → Chooses s best (suc e)
      by_neighbour (x, (m, k, joins), there, unmoved_x) ih = go (places_of n.graph v m x k wf joins)
          (is_station g n wf left w kept all v s unmoved.live at)
        where
          best_x : IsBest g x best
          best_x =
              IsBest-neighbour g v x best left.graph (m, k, left.links (port_of v m) (port_of x k) joins) is_best

          go : ((p : ℕ) × (q : ℕ) × (m ≡ suc p) × (k ≡ suc q)) → (s.live ≡ true) × (s.clock ≡ v)
              → Chooses s best (suc e)
          go (p, q, is_p, is_q) (live, clock) =
              let over : Joins n.graph (port_of v (suc p)) (port_of x (suc q)) =
              subst (λ j. Joins n.graph (port_of v (suc p)) (port_of x j)) is_q
              (subst (λ j. Joins n.graph (port_of v j) (port_of x k)) is_p joins) in
              let leads : LeadsOn g n e best x q v p =
              record {
                unmoved = unmoved_x;
                is_best = best_x;
                here = there;
                joins = Joins-sym n.graph (port_of v (suc p)) (port_of x (suc q)) over;
                far = suc e;
                there = here;
                farther = inl (omega arith);
              } in
              let (r, holds, final) =
              told w kept all e best x q v p (omega arith) leads ih
              (levels e (omega arith) best x q v p (omega arith) leads) s at in
              suc_settles g left.graph s (clear_at g n wf left w kept all (n.place v) s at live) best
              (subst (λ c. IsBest g c best) (sym clock) is_best) e p r
              (subst (λ c. IsDistance g c (suc e)) (sym clock) here) holds final.root final.steps

  -- each step keeps that
  module _ (w w' : MachineState) (kept : IsAfterLoss n w) (kept' : IsAfterLoss n w') (all : ReceivedFits g w)
      (all' : ReceivedFits g w')
      (step : MachineSteps says w w') (levels : (d : ℕ) → StillSettles says g n d w) where
    pub level_kept : (d : ℕ) → ((e : ℕ) → e < d → StillSettles says g n e w') → StillSettles says g n d w'
    level_kept d below best v p u q near leads =
        link_kept says (still n d best v p u q) w w'
        (ends g n wf left w kept all d best v p u q near leads
        (chooses_still w kept all d (λ e less. levels e) near))
        (ends g n wf left w' kept' all' d best v p u q near leads (chooses_still w' kept' all' d below near))
        (λ s due at late slave lapse. kept.lapses (n.place u) due s at lapse)
        (λ l f fs a s pu late lane_at frames due said at port.
        capable_at g n wf left w kept all u q (port_of v (suc p)) s pu to_u back at port)
        (λ s s' pu pu' late at port at' port' on.
        capable_at g n wf left w' kept' all' u q (port_of v (suc p)) s' pu' to_u back at' port')
        step (levels d best v p u q near leads)
      where
        back : Joins n.graph (port_of u (suc q)) (port_of v (suc p))
        back = Joins-sym n.graph (port_of v (suc p)) (port_of u (suc q)) leads.joins

        to_u : In u (clocks n.graph)
        to_u = Joins-clock n.graph (port_of u (suc q)) (port_of v (suc p)) wf back

    pub levels_below : (d e : ℕ) → e < d → StillSettles says g n e w'
    levels_below zero e h = absurd (omega arith)
    levels_below (suc d) e h = elim (dec_lt e d) [
      | yes less ↦ levels_below d e less
      | no not_less ↦ level_kept e (λ f below. levels_below d f (omega arith))
    ]

  first_kept : (w : MachineState) (ws : List MachineState) → IsKeptRun says n w ws → IsAfterLoss n w
  first_kept w [] run = run
  first_kept w (w' ∷ ws) run = run.0

  run_keeps : (w : MachineState) (ws : List MachineState) → IsKeptRun says n w ws → EverythingFits says g n w
      → ((d : ℕ) → StillSettles says g n d w)
      → IsAfterLoss n (last_state w ws) × EverythingFits says g n (last_state w ws)
      × ((d : ℕ) → StillSettles says g n d (last_state w ws))
  run_keeps w [] run all levels = (run, all, levels)
  run_keeps w (w' ∷ ws) (kept, step, rest) all levels =
      let kept' = first_kept w' ws rest in
      let all' = fits_kept says g n left w w' kept.calm kept'.calm step all in
      run_keeps w' ws rest all'
      (λ d. levels_below w w' kept kept' all.stations all'.stations step levels (suc d) d (omega arith))

-- ---- as the loss finds it

pub still_stays : (says : Spelling) (n : Network) (d : ℕ) (best : System) (v p u q announce : ℕ) (held : Held)
    (fs : List AnnounceFrame)
    → FinalAnnounceStays says (wiring n d best v p u q) announce held fs
    → FinalAnnounceStays says (still n d best v p u q) announce held fs
still_stays says n d best v p u q announce held fs stays = record {
  what = stays.what;
  holds = stays.holds;
  final = final_too stays.what.said stays.final;
  flight = λ f a at said. final_too a (stays.flight f a at said);
  next = stays.next;
}
  where
    final_too : (a : Announce) → IsFinal (wiring n d best v p u q) a → IsFinal (still n d best v p u q) a
    final_too a final = record {
      root = final.root;
      steps = final.steps;
      source = final.source;
      log = final.log;
      qualified = final.qualified;
    }

module _ (says : Spelling) (n n' : Network) (net : IsSettlingNetwork n) (wf : IsWellFormed n'.graph)
    (w w' : MachineState)
    (loss : IsLoss says n n' w w') (kept' : IsAfterLoss n' w') where
  all : EverythingFits says n.graph n' w'
  all = loss_fits says n n' w w' net loss

  pub levels_found : (d : ℕ) → StillSettles says n.graph n' d w'
  levels_found d best v p u q close leads from pv pu l stand ready =
      inr (inr (still_stays says n' d best v p u q pv.announce pu.held l.frames
      (stays_so says n n' loss.same d best best v p u q refl pv.announce pu.held l.frames
      (links_stay says n net w loss.rests.calm loss.rests.invariant loss.rests.late d best v p u q close before pv pu l
      stood))))
    where
      known_u : In u (clocks n'.graph)
      known_u =
          Joins-clock n'.graph (port_of u (suc q)) (port_of v (suc p)) wf
          (Joins-sym n'.graph (port_of v (suc p)) (port_of u (suc q)) leads.joins)

      before : LeadsFarther n.graph d best v p u q
      before = record {
        is_best = leads.is_best;
        here = leads.here;
        joins = loss.left.links (port_of v (suc p)) (port_of u (suc q)) leads.joins;
        far = leads.far;
        there = leads.there;
        farther = leads.farther;
      }

      stands_before : (x : ℕ) (s : Station) → In x (clocks n'.graph) → slice_get w'.stations (n'.place x) ≡ Some s
          → slice_get w.stations (n.place x) ≡ Some s
      stands_before x s known at =
          let (live, clock) = is_station n.graph n' wf loss.left w' kept' all.stations x s known at in
          subst (λ i. slice_get w.stations i ≡ Some s) (loss.same.place x) (loss.stations (n'.place x) s at live)

      stood : Stand (wiring n d best v p u q) w pv pu l
      stood = record {
        v = stand.v;
        u = stand.u;
        teller = stands_before v stand.v leads.unmoved.live stand.teller;
        teller_port = stand.teller_port;
        hearer = stands_before u stand.u known_u stand.hearer;
        hearer_port = stand.hearer_port;
        lane = loss.lanes (port_of v (suc p)) (port_of u (suc q)) l leads.joins
            (subst (λ i. slice_get w'.lanes i ≡ Some l) (loss.same.lane (port_of v (suc p))) stand.lane);
      }

pub unmoved_keep : (says : Spelling) (n n' : Network) (w w' : MachineState) (ws : List MachineState) (i : ℕ)
    (s : Station) (best : System)
    (d : ℕ) → IsSettlingNetwork n → IsWellFormed n'.graph → IsLoss says n n' w w' → IsKeptRun says n' w' ws
    → slice_get (last_state w' ws).stations i ≡ Some s → s.live ≡ true → Unmoved n.graph n' s.clock
    → IsBest n.graph s.clock best → IsDistance n.graph s.clock d → d < 255
    → (s.root ≡ best.identity) × (s.steps ≡ d)
unmoved_keep says n n' w w' ws i s best d net wf loss run at live unmoved is_best here near =
    let kept' = first_kept says n.graph n' wf loss.left w' ws run in
    let found = levels_found says n n' net wf w w' loss kept' in
    let (kept, all_fit, levels) =
    run_keeps says n.graph n' wf loss.left w' ws run (loss_fits says n n' w w' net loss) found in
    let chooses = chooses_still says n.graph n' wf loss.left (last_state w' ws) kept all_fit.stations d
    (λ e less. levels e) near s.clock best s
    (subst (λ j. slice_get (last_state w' ws).stations j ≡ Some s) (kept.calm.placed i s at) at) unmoved is_best here in
    (chooses.root, chooses.steps)
