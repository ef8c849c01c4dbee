-- A system that reacts where all is claimed always, after which all that is held is sound: each link is at a stage
-- then, whether the network has settled or not.
use Rattle.std.proofs.Common.{◌≡◌, ◌⊎◌, ◌≤◌, ◌<◌, ◌+◌, ℕ, suc, true, [], ◌∷◌, Some, slice_get, sym, subst, ◌∙◌, inl, inr, arith}
use native.Mathlib.Decide.{dec_le}
use Rattle.gptp_lists.specs.Members.{In}
use Rattle.gptp_graph.specs.Best.{IsBest}
use Rattle.gptp_graph.specs.Distance.{IsDistance}
use Rattle.gptp_graph.specs.Order.{IsLower}
use Rattle.gptp_graph.specs.Path.{IsPath}
use Rattle.gptp_graph.specs.Snapshot.{IsLinked, Joins, PortIdentity, System, clocks, port_of}
use Rattle.gptp_graph.proofs.BestLemmas.{IsBest-neighbour}
use Rattle.gptp_graph.proofs.ExistenceLemmas.{best_exists, distance_exists}
use Rattle.gptp_graph.proofs.LinkLemmas.{Joins-clock, Joins-sym}
use Rattle.gptp_bmca_machine.specs.Acts.{StationAnswers}
use Rattle.gptp_bmca_machine.specs.Calm.{Calm, HasLane, IsCalmPort}
use Rattle.gptp_bmca_machine.specs.Frame.{AnnounceFrame, Lane, Spelling}
use Rattle.gptp_bmca_machine.specs.Levels.{Invariant, LeadsFarther}
use Rattle.gptp_bmca_machine.specs.Link.{Ends, HearsSettled, IsLaneOf, IsTeller, LaneIsOnTime, LinkSettles, StaysOn, TellerIsReady, TellerIsSettled, final_vector}
use Rattle.gptp_bmca_machine.specs.Network.{IsSettlingNetwork, IsTimed, Network, since, wiring}
use Rattle.gptp_bmca_machine.specs.RestLaws.{SameWiring}
use Rattle.gptp_bmca_machine.specs.SoundLaws.{HasNews, IsSoundOnLinks}
use Rattle.gptp_bmca_machine.specs.Station.{MachineState, Mine, Port, Received, Reception, Station}
use Rattle.gptp_bmca_machine.specs.Touch.{Other}
use Rattle.gptp_bmca_machine.specs.Vectors.{master}
use Rattle.gptp_bmca_machine.proofs.AnswerLemmas.{called}
use Rattle.gptp_bmca_machine.proofs.EndsLemmas.{AllChoose, ends, is_station, stands, tells_settled}
use Rattle.gptp_bmca_machine.proofs.LevelLemmas.{chooses}
use Rattle.gptp_bmca_machine.proofs.PlaceLemmas.{same_there}
use Rattle.gptp_bmca_machine.proofs.RestingLemmas.{best_clock, nearer_now}
use Rattle.gptp_bmca_machine.proofs.SettledLemmas.{systems_bounded}
use Rattle.gptp_bmca_machine.proofs.SoundLemmas.{path_on, received_fits}
use Rattle.gptp_settling_time.proofs.GainStageLemmas.{ClaimsAlways, led_before, stage_kept}

module _ (says : Spelling) (n n' : Network) (net : IsSettlingNetwork n) (net' : IsSettlingNetwork n')
    (w w' : MachineState) (calm : Calm n w) (invariant : Invariant says n w) (always : ClaimsAlways n)
    (call : StationAnswers says Other w w') (news : HasNews n.graph n'.graph)
    (links : (p q : PortIdentity) → Joins n'.graph p q → Joins n.graph p q) (same : SameWiring n n')
    (most_is : n'.most ≡ n.most) (later : (d : ℕ) → since n (suc d) ≤ since n' (suc d)) (early : w.time < since n' 0)
    (calm' : Calm n' w') (all_after : IsSoundOnLinks says n'.graph w')
    (stays_on : (d : ℕ) (best : System) (v p u q : ℕ) → d < 255 → LeadsFarther n'.graph d best v p u q
    → StaysOn (wiring n' d best v p u q) w w') where
  zero_sound : n.sound ≡ 0
  zero_sound = always.sound

  now_sound : n.sound ≤ w.time
  now_sound = omega (arith, zero_sound)

  module _ (d : ℕ) (b' : System) (v p u q : ℕ) (close : d < 255) (leads : LeadsFarther n'.graph d b' v p u q) where
    abbrev tells : PortIdentity
    tells = port_of v (suc p)

    abbrev hears : PortIdentity
    hears = port_of u (suc q)

    joins : Joins n.graph tells hears
    joins = links tells hears leads.joins

    back : Joins n.graph hears tells
    back = Joins-sym n.graph tells hears joins

    known_v : In v (clocks n.graph)
    known_v = Joins-clock n.graph tells hears net.graph joins

    known_u : In u (clocks n.graph)
    known_u = Joins-clock n.graph hears tells net.graph back

    best_u : IsBest n'.graph u b'
    best_u = IsBest-neighbour n'.graph v u b' net'.graph (suc p, suc q, leads.joins) leads.is_best

    at_place : (x : ℕ) (s : Station) → slice_get w.stations (n'.place x) ≡ Some s
        → slice_get w.stations (n.place x) ≡ Some s
    at_place x s at = subst (λ i. slice_get w.stations i ≡ Some s) (same.place x) at

    -- ---- the lane

    has_lane : HasLane n w tells hears
    has_lane = calm.lanes tells hears joins

    lane_at : (l : Lane) → slice_get w.lanes (n'.lane tells) ≡ Some l → slice_get w.lanes (n.lane tells) ≡ Some l
    lane_at l at = subst (λ i. slice_get w.lanes i ≡ Some l) (same.lane tells) at

    lane_is : (l : Lane) → slice_get w.lanes (n'.lane tells) ≡ Some l → IsLaneOf (wiring n' d b' v p u q) l
    lane_is l at =
        subst (IsLaneOf (wiring n' d b' v p u q))
        (same_there w.lanes (n.lane tells) has_lane.lane l has_lane.there (lane_at l at))
        (record { from = has_lane.from; to = has_lane.to; loss = has_lane.loss; is_up = has_lane.is_up })

    -- nothing was in flight before the network began
    due_soon : (f : AnnounceFrame) → (f.due ≤ w.time + n.most) ⊎ (f.due < n.start) → f.due ≤ w.time + n'.most
    due_soon f (inl soon) = omega (arith, soon, most_is)
    due_soon f (inr before) =
        let begun : n.start ≤ n.claimed d tells = (net.timed d tells hears joins).begun in
        let zero : n.claimed d tells ≡ 0 = always.claimed d p v in
        absurd (omega (arith, before, begun, zero))

    on_time : (l : Lane) (f : AnnounceFrame) → slice_get w.lanes (n'.lane tells) ≡ Some l → In f l.frames
        → LaneIsOnTime (wiring n' d b' v p u q) w.time f
    on_time l f at flies = record {
      left = calm.left (n.lane tells) l f (lane_at l at) flies;
      due = λ late. due_soon f (calm.facts.fresh (n.lane tells) l f (lane_at l at) flies
          (subst (λ x. Joins n.graph x l.to) (sym (lane_is l at).from)
          (subst (Joins n.graph tells) (sym (lane_is l at).to) joins)));
    }

    -- ---- the teller

    -- one that has settled had before
    tells_before : (s : Station) (pv : Port) → slice_get w.stations (n'.place v) ≡ Some s
        → slice_get s.ports p ≡ Some pv → TellerIsReady (wiring n' d b' v p u q) s pv
        → TellerIsSettled (wiring n' d b' v p u q) s pv
    tells_before s pv at port ready =
        let (old, root, led) = led_before says n n' net net' w calm invariant always news d b' v p u q joins leads s
        (at_place v s at) ready.0 in
        let t : TellerIsSettled (wiring n d old v p u q) s pv =
        tells_settled n net w calm invariant.sound d old v p u q close led
        (λ by. chooses says n net w calm invariant.sound d (λ e less. invariant.levels e) close by) now_sound s pv
        (at_place v s at) port ((ready.0.0 ∙ root, ready.0.1), ready.1) in
        record {
          mine = t.mine ∙ (λ i. Mine (sym root i) d);
          near = t.near;
          foreign = t.foreign;
          short = t.short;
        }

    teller_before : (s : Station) (pv : Port) → slice_get w.stations (n'.place v) ≡ Some s
        → slice_get s.ports p ≡ Some pv → IsTeller (wiring n' d b' v p u q) w.time s pv
    teller_before s pv at port =
        let there = at_place v s at in
        let (live, clock) = is_station n net w calm invariant.sound v s known_v there in
        let station = calm.stations (n.place v) s there live in
        let is_port : IsCalmPort n w.time tells pv =
        subst (λ c. IsCalmPort n w.time (port_of c (suc p)) pv) clock (station.ports p pv port) in
        let interval : n'.interval_of tells ≡ n.interval_of tells = same.interval tells in
        let delay : n'.most ≤ n'.step = (net'.timed d tells hears leads.joins).delay in
        let soon = early in
        record {
          log = is_port.log ∙ sym (same.log tells);
          interval = is_port.interval ∙ sym interval;
          timer = λ root steps mine.
              (let (left, due) = is_port.timer root steps mine in (left, omega (arith, due, interval)));
          own = λ root steps mine. station.at_rest.mine p pv root steps port mine;
          settled = λ late ready. tells_before s pv at port ready;
          early = λ not. omega (arith, delay, soon);
        }

    -- ---- the hearer

    was_best : (best : System) × IsBest n.graph u best
    was_best = best_exists n.graph u net.graph known_u

    above : b'.identity ≤ was_best.0.identity
    above =
        let (x, live, clock, lower) = news.systems was_best.0 was_best.1.live in
        let (us, path) = was_best.1.reached in
        let least : b'.identity ≤ x.identity =
        best_u.least x live (
          us,
          subst (λ c. IsPath n'.graph u c us) (sym clock) (path_on n.graph n'.graph news u was_best.0.clock us path),
        ) in
        omega (arith, least, lower)

    -- no distance has grown, where the best is as good as it was
    nearer : (far : ℕ) → IsDistance n.graph u far → b'.identity ≡ was_best.0.identity → leads.far ≤ far
    nearer far there as_good =
        nearer_now n.graph n'.graph net.graph net'.graph news u far leads.far was_best.0 b' was_best.1 best_u
        (best_clock n.graph n'.graph net.graph net'.graph news u was_best.0 b' was_best.1 best_u as_good) there
        leads.there

    lower_steps : (steps : ℕ) → (d < leads.far) ⊎ ((d ≡ leads.far) × (v < u)) → leads.far ≤ steps
        → IsLower (d ∷ v ∷ suc p ∷ suc q ∷ []) (steps ∷ u ∷ suc q ∷ suc q ∷ [])
    lower_steps steps (inl less) more = inl (omega (arith, less, more))
    lower_steps steps (inr (as_far, lower)) more = elim (dec_le steps d) [
      | yes least ↦ inr (omega (arith, as_far, more, least), inl lower)
      | no over ↦ inl (omega arith)
    ]

    -- what the hearer would announce is worse
    weaker_before : (s : Station) (pu : Port) (root steps : ℕ) → slice_get w.stations (n'.place u) ≡ Some s
        → slice_get s.ports q ≡ Some pu → pu.held ≡ Mine root steps
        → IsLower (final_vector (wiring n' d b' v p u q)) (master root steps u (suc q))
    weaker_before s pu root steps at port mine = elim (dec_le root b'.identity) [
      | no better ↦ inl (omega arith)
      | yes most ↦ inr (best_is most, lower_steps steps leads.farther (no_nearer most))
    ]
      where
        there : slice_get w.stations (n.place u) ≡ Some s
        there = at_place u s at

        is : (s.live ≡ true) × (s.clock ≡ u)
        is = is_station n net w calm invariant.sound u s known_u there

        own : (root ≡ s.root) × (steps ≡ s.steps)
        own = (calm.stations (n.place u) s there is.0).at_rest.mine q pu root steps port mine

        bounds : (was_best.0.identity ≤ s.root)
            × ((far : ℕ) → IsDistance n.graph s.clock far → s.root ≡ was_best.0.identity → far ≤ s.steps)
        bounds =
            systems_bounded says n w (n.place u) s was_best.0 net calm invariant there is.0
            (subst (λ c. IsBest n.graph c was_best.0) (sym is.1) was_best.1) now_sound

        best_is : root ≤ b'.identity → b'.identity ≡ root
        best_is most =
            let least = bounds.0 in
            let good = above in
            let root_is = own.0 in
            omega (arith, most, least, good, root_is)

        no_nearer : root ≤ b'.identity → leads.far ≤ steps
        no_nearer most =
            let (far, at_far) = distance_exists n.graph u net.graph known_u in
            let least = bounds.0 in
            let good = above in
            let root_is = own.0 in
            let steps_are = own.1 in
            let as_good : b'.identity ≡ was_best.0.identity = omega (arith, most, least, good, root_is) in
            let fewer : leads.far ≤ far = nearer far at_far as_good in
            let more : far ≤ s.steps =
            bounds.1 far (subst (λ c. IsDistance n.graph c far) (sym is.1) at_far)
            (omega (arith, most, least, good, root_is)) in
            omega (arith, fewer, more, steps_are)

    hears_before : (s : Station) (pu : Port) → slice_get w.stations (n'.place u) ≡ Some s
        → slice_get s.ports q ≡ Some pu → HearsSettled (wiring n' d b' v p u q) pu
    hears_before s pu at port = record {
      weaker = λ root steps mine. weaker_before s pu root steps at port mine;
      source = source;
      long = λ r e log.
          let span : n.interval_of tells + n.most < r.span =
          is_port.long r tells e joins (source r e) (log ∙ same.log tells) in
          let interval : n'.interval_of tells ≡ n.interval_of tells = same.interval tells in
          let delay : n'.most ≡ n.most = most_is in
          omega (arith, span, interval, delay);
    }
      where
        there : slice_get w.stations (n.place u) ≡ Some s
        there = at_place u s at

        is : (s.live ≡ true) × (s.clock ≡ u)
        is = is_station n net w calm invariant.sound u s known_u there

        is_port : IsCalmPort n w.time hears pu
        is_port =
            subst (λ c. IsCalmPort n w.time (port_of c (suc q)) pu) is.1
            ((calm.stations (n.place u) s there is.0).ports q pu port)

        source : (r : Reception) → pu.held ≡ Received r → r.said.source ≡ tells
        source r e =
            let came =
            (invariant.sound now_sound (n.place u) s q r there is.0 (pu, port, e)).over
            (subst (λ c. IsLinked n.graph (port_of c (suc q))) (sym is.1) (tells, back)) in
            came.source
            ∙ net.graph.one_link hears came.from tells
            (Joins-sym n.graph came.from hears
            (subst (λ c. Joins n.graph came.from (port_of c (suc q))) is.1 came.joins)) back

    -- ---- both

    timed : IsTimed n' d tells hears
    timed = net'.timed d tells hears leads.joins

    ends_before : Ends (wiring n' d b' v p u q) w
    ends_before = record {
      in_time = timed.until;
      claimed = timed.claimed;
      entry = timed.entry;
      apart = net'.graph.apart tells hears leads.joins;
      teller_stands = λ i m at.
          let (one, two) = stands n net w calm invariant.sound v known_v i m at in
          ((λ e. one (e ∙ same.place v)), (λ e. two e ∙ sym (same.place v)));
      hearer_stands = λ i m at.
          let (one, two) = stands n net w calm invariant.sound u known_u i m at in
          ((λ e. one (e ∙ same.place u)), (λ e. two e ∙ sym (same.place u)));
      hearer_lives = λ s at. (is_station n net w calm invariant.sound u s known_u (at_place u s at)).0;
      lane = lane_is;
      only_lane = λ j l at to.
          calm.apart j (n.lane tells) l has_lane.lane at has_lane.there (to ∙ sym has_lane.to) ∙ sym (same.lane tells);
      frames = on_time;
      teller = teller_before;
      hearer = λ s pu at port late. hears_before s pu at port;
    }

    stage_before : LinkSettles says (wiring n' d b' v p u q) w
    stage_before =
        stage_kept says n n' net net' w w calm invariant always news same later v p u q joins
        (record { teller = λ s at. at; hearer = λ s at. at; lane = λ l at. at }) d b' close leads

    -- no system has to have settled yet
    none_settled : since n' d ≤ w'.time → AllChoose n' w' d
    none_settled by =
        let soon = early in
        let time : w'.time ≡ w.time = call.time in
        absurd (omega (arith, by, soon, time))

    ends_after : Ends (wiring n' d b' v p u q) w'
    ends_after =
        ends n' net' w' calm' (λ by. received_fits says n'.graph w' net'.graph all_after) d b' v p u q close leads
        none_settled

    -- the link is at a stage after the reaction
    pub stage_reacted : LinkSettles says (wiring n' d b' v p u q) w'
    stage_reacted from =
        called says (wiring n' d b' v p u q) Other w w' call ends_before ends_after
        (subst (λ t. n'.claimed d tells ≤ t) call.time from) (stays_on d b' v p u q close leads) stage_before
        (λ a here touched. absurd cc) (λ port r here grown. absurd cc) from
