-- A system that reacts in a network that has settled, after which all that is held is sound: each link is at a stage
-- then.
use Rattle.std.proofs.Common.{◌≡◌, ◌⊎◌, ◌≤◌, ◌<◌, ◌+◌, ℕ, suc, true, [], ◌∷◌, Some, slice_get, sym, subst, ◌∙◌, inl, inr, arith}
use native.Mathlib.Decide.{dec_le}
use Rattle.gptp_lists.specs.Members.{In}
use Rattle.gptp_graph.specs.Order.{IsLower}
use Rattle.gptp_graph.specs.Snapshot.{PortIdentity, System, clocks, port_of, Joins, IsLinked}
use Rattle.gptp_graph.specs.Best.{IsBest}
use Rattle.gptp_graph.specs.Distance.{IsDistance}
use Rattle.gptp_graph.specs.Path.{IsPath}
use Rattle.gptp_graph.proofs.LinkLemmas.{Joins-sym, Joins-clock}
use Rattle.gptp_graph.proofs.BestLemmas.{IsBest-neighbour}
use Rattle.gptp_graph.proofs.PathBoundLemmas.{IsDistance-within}
use Rattle.gptp_bmca_machine.specs.Frame.{Spelling, AnnounceFrame, Lane}
use Rattle.gptp_bmca_machine.specs.Station.{Reception, Mine, Received, Port, Station, MachineState}
use Rattle.gptp_bmca_machine.specs.Vectors.{master}
use Rattle.gptp_bmca_machine.specs.Touch.{Other}
use Rattle.gptp_bmca_machine.specs.Link.{final_vector, TellerIsReady, TellerIsSettled, IsTeller, HearsSettled, IsLaneOf, LaneIsOnTime, Ends, StaysOn, Stand, LinkSettles}
use Rattle.gptp_bmca_machine.specs.Network.{Network, IsTimed, IsSettlingNetwork, since, settled_from, wiring}
use Rattle.gptp_bmca_machine.specs.Calm.{IsCalmPort, HasLane, Calm}
use Rattle.gptp_bmca_machine.specs.Levels.{Invariant, LeadsFarther}
use Rattle.gptp_bmca_machine.specs.SoundLaws.{AllAreNear, HasNews, IsSoundOnLinks}
use Rattle.gptp_bmca_machine.specs.RestLaws.{SameWiring}
use Rattle.gptp_bmca_machine.specs.Acts.{StationAnswers}
use Rattle.gptp_bmca_machine.specs.LinkStage.{LinkStage}
use Rattle.gptp_bmca_machine.proofs.PlaceLemmas.{same_there}
use Rattle.gptp_bmca_machine.proofs.RestLemmas.{Chooses}
use Rattle.gptp_bmca_machine.proofs.EndsLemmas.{AllChoose, is_station, stands, tells_settled, ends}
use Rattle.gptp_bmca_machine.proofs.AnswerLemmas.{called}
use Rattle.gptp_bmca_machine.proofs.SoundLemmas.{received_fits, path_on}
use Rattle.gptp_bmca_machine.proofs.RestingLemmas.{all_choose, by_then_at, best_clock, links_stay, nearer_now, leads_before, stays_so}

module _ (says : Spelling) (n n' : Network) (net : IsSettlingNetwork n) (net' : IsSettlingNetwork n')
    (w w' : MachineState) (all_near : AllAreNear n.graph) (calm : Calm n w) (invariant : Invariant says n w)
    (late : settled_from n ≤ w.time) (call : StationAnswers says Other w w') (news : HasNews n.graph n'.graph)
    (links : (p q : PortIdentity) → Joins n'.graph p q → Joins n.graph p q) (same : SameWiring n n')
    (most_is : n'.most ≡ n.most) (early : w.time < since n' 0) (calm' : Calm n' w')
    (all_after : IsSoundOnLinks says n'.graph w')
    (stays_on : (d : ℕ) (best : System) (v p u q : ℕ) → d < 255 → LeadsFarther n'.graph d best v p u q
    → StaysOn (wiring n' d best v p u q) w w') where
  started : since n 0 ≤ w.time
  started = omega (arith, late)

  -- what a system of the first network has settled at
  record SettledAt (x : ℕ) (s : Station) : Type 0 where
    d : ℕ
    near : d < 255
    here : IsDistance n.graph x d
    chosen : Chooses s here.best d

  settled_at : (x : ℕ) (s : Station) → In x (clocks n.graph) → slice_get w.stations (n.place x) ≡ Some s → SettledAt x s
  settled_at x s known at =
      let (d, here, near) = all_near x known in
      record {
        d = d;
        near = near;
        here = here;
        chosen = all_choose says n net w calm invariant late d near
            (by_then_at says n net w calm invariant late d
            (IsDistance-within n.graph n.reach x d net.paths here)) x here.best s at here.is_best here;
      }

  -- a link is at its last stage before
  stage_before : (d : ℕ) (best : System) (v p u q : ℕ) → Joins n.graph (port_of v (suc p)) (port_of u (suc q))
      → LeadsFarther n'.graph d best v p u q → LinkSettles says (wiring n' d best v p u q) w
  stage_before d best v p u q joins leads from pv pu l stand ready =
      go (all_near v (Joins-clock n.graph (port_of v (suc p)) (port_of u (suc q)) net.graph joins))
    where
      at_v : slice_get w.stations (n.place v) ≡ Some stand.v
      at_v = subst (λ i. slice_get w.stations i ≡ Some stand.v) (same.place v) stand.teller

      go : ((e : ℕ) × IsDistance n.graph v e × (e < 255))
          → LinkStage says (wiring n' d best v p u q) pv.announce pu.held l.frames
      go (e, here, close) = inr (inr (stays_so says n n' same d here.best best v p u q root pv.announce pu.held l.frames
          (links_stay says n net w calm invariant late d here.best v p u q
          (subst (λ x. x < 255) (sym steps) close)
          (leads_before n.graph n'.graph net.graph net'.graph news d here.best best v p u q here.is_best
          (subst (IsDistance n.graph v) (sym steps) here) joins root leads) pv pu l stand_before)))
        where
          chosen : Chooses stand.v here.best e
          chosen =
              all_choose says n net w calm invariant late e close
              (by_then_at says n net w calm invariant late e
              (IsDistance-within n.graph n.reach v e net.paths here)) v
              here.best stand.v at_v here.is_best here

          root : best.identity ≡ here.best.identity
          root = sym ready.0.0 ∙ chosen.root

          steps : d ≡ e
          steps = sym ready.0.1 ∙ chosen.steps

          stand_before : Stand (wiring n d here.best v p u q) w pv pu l
          stand_before = record {
            v = stand.v;
            u = stand.u;
            teller = at_v;
            teller_port = stand.teller_port;
            hearer = subst (λ i. slice_get w.stations i ≡ Some stand.u) (same.place u) stand.hearer;
            hearer_port = stand.hearer_port;
            lane = subst (λ i. slice_get w.lanes i ≡ Some l) (same.lane (port_of v (suc p))) stand.lane;
          }

  module _ (d : ℕ) (b' : System) (v p u q : ℕ) (close : d < 255) (leads : LeadsFarther n'.graph d b' v p u q) where
    joins : Joins n.graph (port_of v (suc p)) (port_of u (suc q))
    joins = links (port_of v (suc p)) (port_of u (suc q)) leads.joins

    back : Joins n.graph (port_of u (suc q)) (port_of v (suc p))
    back = Joins-sym n.graph (port_of v (suc p)) (port_of u (suc q)) joins

    known_v : In v (clocks n.graph)
    known_v = Joins-clock n.graph (port_of v (suc p)) (port_of u (suc q)) net.graph joins

    known_u : In u (clocks n.graph)
    known_u = Joins-clock n.graph (port_of u (suc q)) (port_of v (suc p)) net.graph back

    best_u : IsBest n'.graph u b'
    best_u = IsBest-neighbour n'.graph v u b' net'.graph (suc p, suc q, leads.joins) leads.is_best

    at_place : (x : ℕ) (s : Station) → slice_get w.stations (n'.place x) ≡ Some s
        → slice_get w.stations (n.place x) ≡ Some s
    at_place x s at = subst (λ i. slice_get w.stations i ≡ Some s) (same.place x) at

    has_lane : HasLane n w (port_of v (suc p)) (port_of u (suc q))
    has_lane = calm.lanes (port_of v (suc p)) (port_of u (suc q)) joins

    lane_is : (l : Lane) → slice_get w.lanes (n'.lane (port_of v (suc p))) ≡ Some l
        → IsLaneOf (wiring n' d b' v p u q) l
    lane_is l at =
        subst (IsLaneOf (wiring n' d b' v p u q))
        (same_there w.lanes (n.lane (port_of v (suc p))) has_lane.lane l has_lane.there
        (subst (λ i. slice_get w.lanes i ≡ Some l) (same.lane (port_of v (suc p))) at))
        (record { from = has_lane.from; to = has_lane.to; loss = has_lane.loss; is_up = has_lane.is_up })

    on_time : (l : Lane) (f : AnnounceFrame) → slice_get w.lanes (n'.lane (port_of v (suc p))) ≡ Some l → In f l.frames
        → LaneIsOnTime (wiring n' d b' v p u q) w.time f
    on_time l f at flies = record {
      left = calm.left (n.lane (port_of v (suc p))) l f there flies;
      due = λ late. within (calm.facts.fresh (n.lane (port_of v (suc p))) l f there flies
          (subst (λ x. Joins n.graph x l.to) (sym (lane_is l at).from)
          (subst (Joins n.graph (port_of v (suc p))) (sym (lane_is l at).to) joins)));
    }
      where
        there : slice_get w.lanes (n.lane (port_of v (suc p))) ≡ Some l
        there = subst (λ i. slice_get w.lanes i ≡ Some l) (same.lane (port_of v (suc p))) at

        within : (f.due ≤ w.time + n.most) ⊎ (f.due < n.start) → f.due ≤ w.time + n'.most
        within (inl soon) = let most : n'.most ≡ n.most = most_is in omega arith
        within (inr before) = let begun : n.start ≤ since n 0 = net.begun in omega (arith, started)

    -- a teller that has settled had before
    tells_before : (s : Station) (pv : Port) → slice_get w.stations (n'.place v) ≡ Some s
        → slice_get s.ports p ≡ Some pv → TellerIsReady (wiring n' d b' v p u q) s pv
        → TellerIsSettled (wiring n' d b' v p u q) s pv
    tells_before s pv at port ready = go (settled_at v s known_v (at_place v s at))
      where
        go : SettledAt v s → TellerIsSettled (wiring n' d b' v p u q) s pv
        go x =
            let root : b'.identity ≡ x.here.best.identity = sym ready.0.0 ∙ x.chosen.root in
            let steps : d ≡ x.d = sym ready.0.1 ∙ x.chosen.steps in
            let here : IsDistance n.graph v d = subst (IsDistance n.graph v) (sym steps) x.here in
            let before : LeadsFarther n.graph d x.here.best v p u q =
            leads_before n.graph n'.graph net.graph net'.graph news d x.here.best b' v p u q x.here.is_best here joins
            root leads in
            let t : TellerIsSettled (wiring n d x.here.best v p u q) s pv =
            tells_settled n net w calm invariant.sound d x.here.best v p u q close before
            (λ by. all_choose says n net w calm invariant late d close by) (omega (arith, started)) s pv
            (at_place v s at) port ((ready.0.0 ∙ root, ready.0.1), ready.1) in
            record {
              mine = t.mine ∙ (λ i. Mine (sym root i) d);
              near = t.near;
              foreign = t.foreign;
              short = t.short;
            }

    -- what the hearer would announce is worse
    weaker_before : (s : Station) (pu : Port) (root steps : ℕ) → slice_get w.stations (n.place u) ≡ Some s
        → slice_get s.ports q ≡ Some pu → pu.held ≡ Mine root steps
        → IsLower (final_vector (wiring n' d b' v p u q)) (master root steps u (suc q))
    weaker_before s pu root steps at port mine = go (settled_at u s known_u at)
      where
        go : SettledAt u s → IsLower (final_vector (wiring n' d b' v p u q)) (master root steps u (suc q))
        go x = by_root own.0 own.1 x.chosen.root x.chosen.steps
          where
            own : (root ≡ s.root) × (steps ≡ s.steps)
            own =
                (calm.stations (n.place u) s at
                (is_station n net w calm invariant.sound u s known_u at).0).at_rest.mine q pu root steps port mine

            above : b'.identity ≤ x.here.best.identity
            above =
                let (s', live, clock, lower) = news.systems x.here.best x.here.is_best.live in
                let (us, path) = x.here.is_best.reached in
                let least : b'.identity ≤ s'.identity =
                best_u.least s' live (
                  us,
                  subst (λ c. IsPath n'.graph u c us) (sym clock)
                      (path_on n.graph n'.graph news u x.here.best.clock us path),
                ) in
                omega arith

            by_root : root ≡ s.root → steps ≡ s.steps → s.root ≡ x.here.best.identity → s.steps ≡ x.d
                → IsLower (final_vector (wiring n' d b' v p u q)) (master root steps u (suc q))
            by_root e f g h = elim (dec_le root b'.identity) [
              | no better ↦ inl (omega arith)
              | yes most ↦ inr (omega (arith, above), by_steps leads.farther (fewer (omega (arith, above))))
            ]
              where
                fewer : b'.identity ≡ x.here.best.identity → leads.far ≤ x.d
                fewer same =
                    nearer_now n.graph n'.graph net.graph net'.graph news u x.d leads.far x.here.best b'
                    x.here.is_best
                    best_u (best_clock n.graph n'.graph net.graph net'.graph news u x.here.best b' x.here.is_best
                    best_u
                    same) x.here leads.there

                by_steps : (d < leads.far) ⊎ ((d ≡ leads.far) × (v < u)) → leads.far ≤ x.d
                    → IsLower (d ∷ v ∷ suc p ∷ suc q ∷ []) (steps ∷ u ∷ suc q ∷ suc q ∷ [])
                by_steps (inl less) more = inl (omega arith)
                by_steps (inr (as_far, lower)) more = elim (dec_le steps d) [
                  | yes least ↦ inr (omega arith, inl lower)
                  | no over ↦ inl (omega arith)
                ]

    hears_before : (s : Station) (pu : Port) → slice_get w.stations (n'.place u) ≡ Some s
        → slice_get s.ports q ≡ Some pu → HearsSettled (wiring n' d b' v p u q) pu
    hears_before s pu at' port = record {
      weaker = λ root steps mine. weaker_before s pu root steps at port mine;
      source = source;
      long = λ r e log.
          let long : n.interval_of (port_of v (suc p)) + n.most < r.span =
          is_port.long r (port_of v (suc p)) e joins (source r e) (log ∙ same.log (port_of v (suc p))) in
          let interval : n'.interval_of (port_of v (suc p)) ≡ n.interval_of (port_of v (suc p)) =
          same.interval (port_of v (suc p)) in
          let most : n'.most ≡ n.most = most_is in
          omega arith;
    }
      where
        at : slice_get w.stations (n.place u) ≡ Some s
        at = at_place u s at'

        live : s.live ≡ true
        live = (is_station n net w calm invariant.sound u s known_u at).0

        clock : s.clock ≡ u
        clock = (is_station n net w calm invariant.sound u s known_u at).1

        is_port : IsCalmPort n w.time (port_of u (suc q)) pu
        is_port =
            subst (λ c. IsCalmPort n w.time (port_of c (suc q)) pu) clock
            ((calm.stations (n.place u) s at live).ports q pu port)

        source : (r : Reception) → pu.held ≡ Received r → r.said.source ≡ port_of v (suc p)
        source r e =
            let came =
            (invariant.sound (omega (arith, started)) (n.place u) s q r at live (pu, port, e)).over
            (subst (λ c. IsLinked n.graph (port_of c (suc q))) (sym clock) (port_of v (suc p), back)) in
            came.source
            ∙ net.graph.one_link (port_of u (suc q)) came.from (port_of v (suc p))
            (Joins-sym n.graph came.from (port_of u (suc q))
            (subst (λ c. Joins n.graph came.from (port_of c (suc q))) clock came.joins)) back

    ends_before : Ends (wiring n' d b' v p u q) w
    ends_before = record {
      in_time = timed.until;
      claimed = timed.claimed;
      entry = timed.entry;
      apart = net'.graph.apart (port_of v (suc p)) (port_of u (suc q)) leads.joins;
      teller_stands = λ i m at.
          let (one, two) = stands n net w calm invariant.sound v known_v i m at in
          ((λ e. one (e ∙ same.place v)), (λ e. two e ∙ sym (same.place v)));
      hearer_stands = λ i m at.
          let (one, two) = stands n net w calm invariant.sound u known_u i m at in
          ((λ e. one (e ∙ same.place u)), (λ e. two e ∙ sym (same.place u)));
      hearer_lives = λ s at. (is_station n net w calm invariant.sound u s known_u (at_place u s at)).0;
      lane = lane_is;
      only_lane = λ j l at to.
          calm.apart j (n.lane (port_of v (suc p))) l has_lane.lane at has_lane.there (to ∙ sym has_lane.to)
          ∙ sym (same.lane (port_of v (suc p)));
      frames = on_time;
      teller = λ s pv at port. teller s pv at port;
      hearer = λ s pu at port late. hears_before s pu at port;
    }
      where
        timed : IsTimed n' d (port_of v (suc p)) (port_of u (suc q))
        timed = net'.timed d (port_of v (suc p)) (port_of u (suc q)) leads.joins

        teller : (s : Station) (pv : Port) → slice_get w.stations (n'.place v) ≡ Some s → slice_get s.ports p ≡ Some pv
            → IsTeller (wiring n' d b' v p u q) w.time s pv
        teller s pv at port =
            let there = at_place v s at in
            let (live, clock) = is_station n net w calm invariant.sound v s known_v there in
            let is_port : IsCalmPort n w.time (port_of v (suc p)) pv =
            subst (λ c. IsCalmPort n w.time (port_of c (suc p)) pv) clock
            ((calm.stations (n.place v) s there live).ports p pv port) in
            let same_interval : n'.interval_of (port_of v (suc p)) ≡ n.interval_of (port_of v (suc p)) =
            same.interval (port_of v (suc p)) in
            record {
              log = is_port.log ∙ sym (same.log (port_of v (suc p)));
              interval = is_port.interval ∙ sym same_interval;
              timer = λ root steps mine. let (left, soon) = is_port.timer root steps mine in (left, omega arith);
              own = λ root steps mine. (calm.stations (n.place v) s there live).at_rest.mine p pv root steps port mine;
              settled = λ late ready. tells_before s pv at port ready;
              early = λ not.
                  let soon : w.time < since n' 0 = early in
                  let delay : n'.most ≤ n'.step = timed.delay in
                  omega arith;
            }

    -- the link is at a stage after the reaction
    pub stage_after : LinkSettles says (wiring n' d b' v p u q) w'
    stage_after from =
        called says (wiring n' d b' v p u q) Other w w' call ends_before ends_after
        (subst (λ t. n'.claimed d (port_of v (suc p)) ≤ t) call.time from) (stays_on d b' v p u q close leads)
        (stage_before d b' v p u q joins leads)
        (λ a here touched. absurd cc) (λ port r here grown. absurd cc) from
      where
        settled : since n' d ≤ w'.time → AllChoose n' w' d
        settled by = absurd (
            let soon : w.time < since n' 0 = early in
            let time : w'.time ≡ w.time = call.time in
            omega arith)

        ends_after : Ends (wiring n' d b' v p u q) w'
        ends_after = ends n' net' w' calm' (λ by. received_fits says n'.graph w' net'.graph all_after) d b' v p u q
            close
            leads settled
