-- In a network that has settled each link that leads farther is at rest, and each system has its settled choice.
use Rattle.std.proofs.Common.{◌≡◌, ◌≢◌, ◌<◌, ◌≤◌, ℕ, suc, arith}
use Rattle.gptp_lists.specs.Members.{In}
use Rattle.gptp_graph.specs.Snapshot.{System, clocks, port_of}
use Rattle.gptp_graph.proofs.LinkLemmas.{Joins-clock, Joins-sym}
use Rattle.gptp_graph.proofs.PathBoundLemmas.{IsDistance-within}
use Rattle.gptp_bmca_machine.specs.Calm.{Calm}
use Rattle.gptp_bmca_machine.specs.Frame.{Lane, Spelling}
use Rattle.gptp_bmca_machine.specs.Levels.{Invariant, LeadsFarther}
use Rattle.gptp_bmca_machine.specs.Link.{Ends, HasSettled, IsTeller, Stand}
use Rattle.gptp_bmca_machine.specs.LinkStage.{Wiring}
use Rattle.gptp_bmca_machine.specs.Network.{IsSettlingNetwork, Network, settled_from, since, wiring}
use Rattle.gptp_bmca_machine.specs.SoundLaws.{AllAreNear}
use Rattle.gptp_bmca_machine.specs.Station.{Disabled, MachineState, Mine, Port}
use Rattle.gptp_bmca_machine.proofs.EndsLemmas.{AllChoose, capable_at, ends, station_of}
use Rattle.gptp_bmca_machine.proofs.LevelLemmas.{port_there}
use Rattle.gptp_bmca_machine.proofs.RestLemmas.{Chooses}
use Rattle.gptp_bmca_machine.proofs.RestingLemmas.{all_choose, by_then_at, links_stay}
use Rattle.gptp_settling_time.proofs.AtRestLemmas.{LinkAtRest, LinkFacts, LinksAreAtRest, few}
use Rattle.gptp_settling_time.proofs.UnlinkedLemmas.{far_holds_none}

module _ (says : Spelling) (n : Network) (net : IsSettlingNetwork n) (w : MachineState) (calm : Calm n w)
    (invariant : Invariant says n w) (late : settled_from n ≤ w.time) where
  module _ (d : ℕ) (best : System) (v p u q : ℕ) (close : d < 255) (leads : LeadsFarther n.graph d best v p u q) where
    abbrev k : Wiring
    k = wiring n d best v p u q

    known : In v (clocks n.graph)
    known = Joins-clock n.graph (port_of v (suc p)) (port_of u (suc q)) net.graph leads.joins

    passed : since n (suc d) ≤ w.time
    passed = by_then_at says n net w calm invariant late (suc d) (few n net.graph net.paths d best v p u q leads)

    choose : AllChoose n w d
    choose =
        all_choose says n net w calm invariant late d close
        (by_then_at says n net w calm invariant late d
        (let less = few n net.graph net.paths d best v p u q leads in omega (arith, less)))

    claimed : n.claimed d (port_of v (suc p)) ≤ w.time
    claimed =
        let by = (net.timed d (port_of v (suc p)) (port_of u (suc q)) leads.joins).claimed in
        let late = passed in
        omega (arith, by, late)

    module _ (pv pu : Port) (l : Lane) (stand : Stand k w pv pu l) where
      k_ends : Ends k w
      k_ends = ends n net w calm invariant.sound d best v p u q close leads (λ at. choose)

      teller : IsTeller k w.time stand.v pv
      teller = k_ends.teller stand.v pv stand.teller stand.teller_port

      on : pv.held ≢ Disabled
      on =
          capable_at n net w calm invariant.sound d best v p u q close leads (λ at. choose) v p (port_of u (suc q))
          stand.v pv known leads.joins stand.teller stand.teller_port
          (let ready = (net.timed d (port_of v (suc p)) (port_of u (suc q)) leads.joins).ready in
          let late = passed in
          omega (arith, ready, late))

      has : HasSettled k stand.v
      has =
          let chosen : Chooses stand.v best d = choose v best stand.v stand.teller leads.is_best leads.here in
          (chosen.root, chosen.steps)

      mine : pv.held ≡ Mine best.identity d
      mine = (teller.settled claimed (has, on)).mine

      settled_facts : LinkFacts says k w pv pu l
      settled_facts = record {
        teller_stands = k_ends.teller_stands;
        hearer_stands = k_ends.hearer_stands;
        hearer_lives = k_ends.hearer_lives;
        lane = k_ends.lane;
        only_lane = k_ends.only_lane;
        frames = λ f among.
            let on_time = k_ends.frames l f stand.lane among in (on_time.left, on_time.due claimed);
        mine = mine;
        timer = teller.timer best.identity d mine;
        hears = k_ends.hearer stand.u pu stand.hearer stand.hearer_port claimed;
        stays = links_stay says n net w calm invariant late d best v p u q close leads pv pu l stand;
      }

    settled_link : LinkAtRest says k w
    settled_link =
        let back = Joins-sym n.graph (port_of v (suc p)) (port_of u (suc q)) leads.joins in
        let known_u = Joins-clock n.graph (port_of u (suc q)) (port_of v (suc p)) net.graph back in
        let (sv, at_v, live_v, clock_v) = station_of n net w calm invariant.sound v known in
        let (su, at_u, live_u, clock_u) = station_of n net w calm invariant.sound u known_u in
        let (pv, there_v) = port_there says n net w calm invariant.sound v p (port_of u (suc q)) sv at_v leads.joins in
        let (pu, there_u) = port_there says n net w calm invariant.sound u q (port_of v (suc p)) su at_u back in
        let has_lane = calm.lanes (port_of v (suc p)) (port_of u (suc q)) leads.joins in
        let stand : Stand k w pv pu has_lane.lane =
        record {
          v = sv;
          u = su;
          teller = at_v;
          teller_port = there_v;
          hearer = at_u;
          hearer_port = there_u;
          lane = has_lane.there;
        } in
        record {
          pv = pv;
          pu = pu;
          lane = has_lane.lane;
          stand = stand;
          facts = settled_facts pv pu has_lane.lane stand;
        }

  -- each link is at rest
  pub settled_rest : AllAreNear n.graph → LinksAreAtRest says n w
  settled_rest near = record {
    chooses = λ d close v best s at is_best here.
        all_choose says n net w calm invariant late d close
        (by_then_at says n net w calm invariant late d (IsDistance-within n.graph n.reach v d net.paths here)) v best s
        at is_best here;
    links = settled_link;
    farther = far_holds_none says n net w calm invariant late;
  }
