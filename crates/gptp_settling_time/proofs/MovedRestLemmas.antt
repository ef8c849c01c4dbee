-- Once trees that a loss moved have settled each link that leads farther is at rest: within a moved tree, and between
-- systems that aren't moved. What is held may name ways of before, until traces are told anew.
use Rattle.std.proofs.Common.{◌≡◌, ◌⊎◌, ◌<◌, ◌≤◌, ◌+◌, ℕ, suc, true, Some, slice_get, sym, subst, ◌∙◌, inr, arith}
use Rattle.gptp_lists.specs.Members.{In}
use Rattle.gptp_graph.specs.Best.{IsBest}
use Rattle.gptp_graph.specs.Distance.{IsDistance}
use Rattle.gptp_graph.specs.PathBound.{BoundsPaths}
use Rattle.gptp_graph.specs.Snapshot.{IsWellFormed, Joins, PortIdentity, Snapshot, System, clocks, port_of}
use Rattle.gptp_graph.proofs.BestLemmas.{IsBest-unique}
use Rattle.gptp_graph.proofs.LinkLemmas.{Joins-clock, Joins-sym}
use Rattle.gptp_graph.proofs.PathBoundLemmas.{IsDistance-within}
use Rattle.gptp_bmca_machine.specs.Calm.{Calm}
use Rattle.gptp_bmca_machine.specs.Frame.{Lane, Spelling}
use Rattle.gptp_bmca_machine.specs.Levels.{LeadsFarther}
use Rattle.gptp_bmca_machine.specs.Link.{Ends, IsTeller, LinkSettles, Stand, TellerIsReady, TellerIsSettled}
use Rattle.gptp_bmca_machine.specs.LinkStage.{FinalAnnounceStays, Wiring}
use Rattle.gptp_bmca_machine.specs.LossLaws.{EverythingFits, IsAfterLoss, IsWhatIsLeft}
use Rattle.gptp_bmca_machine.specs.Network.{Network, wiring}
use Rattle.gptp_bmca_machine.specs.Station.{Disabled, HoldsAt, MachineState, Mine, Port, Received, Reception, Station}
use Rattle.gptp_bmca_machine.proofs.EndsLemmas.{AllChoose}
use Rattle.gptp_bmca_machine.proofs.FallLemmas.{IsAftermath, IsFalling}
use Rattle.gptp_bmca_machine.proofs.FallLevelLemmas.{show}
use Rattle.gptp_bmca_machine.proofs.LinkEndsLemmas.{ends_by, teller_on, telling}
use Rattle.gptp_bmca_machine.proofs.LinkStageLemmas.{settled}
use Rattle.gptp_bmca_machine.proofs.LinkStepLemmas.{lives_at}
use Rattle.gptp_bmca_machine.proofs.MovedEndLemmas.{choose, in_time}
use Rattle.gptp_bmca_machine.proofs.MovedLevelLemmas.{LevelSettles, Times, ToldIn, delay, has_left}
use Rattle.gptp_bmca_machine.proofs.MovedTreeLemmas.{MovesTree}
use Rattle.gptp_bmca_machine.proofs.RestLemmas.{Chooses, is_master}
use Rattle.gptp_bmca_machine.proofs.StillEndLemmas.{Follows}
use Rattle.gptp_bmca_machine.proofs.StillLemmas.{LeadsOn, StillSettles, capable_at, chooses_still, ends, port_there, station_of}
use Rattle.gptp_settling_time.proofs.AtRestLemmas.{LinkAtRest, LinksAreAtRest}

-- A link that tells what has settled is at rest once those that it leads to have settled too.
pub link_rests : (says : Spelling) (n : Network) (before d : ℕ) (best : System) (v p u q : ℕ) (w : MachineState)
    → Ends (telling n before d best v p u q) w → LinkSettles says (telling n before d best v p u q) w
    → before ≤ w.time → (pv pu : Port) (l : Lane) → (stand : Stand (telling n before d best v p u q) w pv pu l)
    → TellerIsReady (telling n before d best v p u q) stand.v pv → LinkAtRest says (wiring n d best v p u q) w
link_rests says n before d best v p u q w e link late pv pu l stand ready = record {
  pv = pv;
  pu = pu;
  lane = l;
  stand = record {
    v = stand.v;
    u = stand.u;
    teller = stand.teller;
    teller_port = stand.teller_port;
    hearer = stand.hearer;
    hearer_port = stand.hearer_port;
    lane = stand.lane;
  };
  facts = record {
    teller_stands = e.teller_stands;
    hearer_stands = e.hearer_stands;
    hearer_lives = e.hearer_lives;
    lane = λ m at.
        let is = e.lane m at in record { from = is.from; to = is.to; loss = is.loss; is_up = is.is_up };
    only_lane = e.only_lane;
    frames = λ f among.
        let on_time = e.frames l f stand.lane among in (on_time.left, on_time.due (omega arith));
    mine = tells.mine;
    timer = timer;
    hears =
        let is = e.hearer stand.u pu stand.hearer stand.hearer_port (omega arith) in
        record { weaker = is.weaker; source = is.source; long = is.long };
    stays = record {
      what = stays.what;
      holds = stays.holds;
      final =
          let is = stays.final in
          record {
            root = is.root;
            steps = is.steps;
            source = is.source;
            log = is.log;
            qualified = is.qualified;
          };
      flight = λ f a among said.
          let is = stays.flight f a among said in
          record {
            root = is.root;
            steps = is.steps;
            source = is.source;
            log = is.log;
            qualified = is.qualified;
          };
      next = stays.next;
    };
  };
}
  where
    k : Wiring
    k = telling n before d best v p u q

    teller : IsTeller k w.time stand.v pv
    teller = e.teller stand.v pv stand.teller stand.teller_port

    tells : TellerIsSettled k stand.v pv
    tells = teller.settled (omega arith) ready

    timer : (w.time ≤ pv.announce) × (pv.announce ≤ w.time + k.interval)
    timer = teller.timer best.identity d tells.mine

    stays : FinalAnnounceStays says k pv.announce pu.held l.frames
    stays =
        settled says k w.time pv.announce pu.held l.frames timer.0
        (λ f among. (e.frames l f stand.lane among).left) e.in_time late (link (omega arith) pv pu l stand ready)

-- ---- links since a loss

module _ (says : Spelling) (g : Snapshot) (n : Network) (well : IsWellFormed n.graph) (left : IsWhatIsLeft g n)
    (w : MachineState) (kept : IsAfterLoss n w) (fits : EverythingFits says g n w) where
  -- one that tells what has settled, by where it stands, and that its teller is ready
  pub stands_rests : (before d : ℕ) (c : System) (v p u q : ℕ)
      → Joins n.graph (port_of v (suc p)) (port_of u (suc q))
      → ((s : Station) → slice_get w.stations (n.place v) ≡ Some s → Chooses s c d)
      → Ends (telling n before d c v p u q) w → LinkSettles says (telling n before d c v p u q) w → before ≤ w.time
      → LinkAtRest says (wiring n d c v p u q) w
  stands_rests before d c v p u q joins chosen e link by_now =
      let (sv, at_v, live_v, clock_v) = station_of g n well left w kept fits.stations v known in
      let (su, at_u, live_u, clock_u) = station_of g n well left w kept fits.stations u
      (Joins-clock n.graph (port_of u (suc q)) (port_of v (suc p)) well over_back) in
      let (pv, there_v) = port_there g n well left w kept fits.stations v p (port_of u (suc q)) sv at_v joins in
      let (pu, there_u) = port_there g n well left w kept fits.stations u q (port_of v (suc p)) su at_u over_back in
      let has = kept.calm.lanes (port_of v (suc p)) (port_of u (suc q)) joins in
      let chose = chosen sv at_v in
      link_rests says n before d c v p u q w e link by_now pv pu has.lane
      (record {
        v = sv;
        u = su;
        teller = at_v;
        teller_port = there_v;
        hearer = at_u;
        hearer_port = there_u;
        lane = has.there;
      }) (
        (chose.root, chose.steps),
        capable_at g n well left w kept fits.stations v p (port_of u (suc q)) sv pv known joins at_v there_v,
      )
    where
      known : In v (clocks n.graph)
      known = Joins-clock n.graph (port_of v (suc p)) (port_of u (suc q)) well joins

      over_back : Joins n.graph (port_of u (suc q)) (port_of v (suc p))
      over_back = Joins-sym n.graph (port_of v (suc p)) (port_of u (suc q)) joins

  -- one from a system that isn't moved
  pub still_rests : ((f : ℕ) → StillSettles says g n f w) → (d : ℕ) (c : System) (v p u q : ℕ) → d < 255
      → LeadsOn g n d c v p u q → LinkAtRest says (wiring n d c v p u q) w
  still_rests still d c v p u q close on =
      let choose = chooses_still says g n well left w kept fits.stations d (λ e less. still e) close in
      stands_rests n.most d c v p u q on.joins (λ s at. choose v c s at on.unmoved on.is_best on.here)
      (ends g n well left w kept fits.stations d c v p u q close on choose) (still d c v p u q close on) kept.late

-- one within a moved tree, once that has settled
module _ (says : Spelling) (g : Snapshot) (n : Network) (Tree : ℕ → Type 0) (Out : ℕ → ℕ → Type 0) (top : ℕ)
    (best next : System) (base : ℕ) (depth : ℕ → ℕ) (t : MovesTree g n Tree Out top best next base depth)
    (paths : BoundsPaths n.graph n.reach) (few : n.reach ≤ 255) (start over : ℕ) (before : ℕ → ℕ)
    (times : Times says g n Tree Out top best next base depth t paths few start over before) (w : MachineState)
    (is : IsAftermath says g n w) (falling : IsFalling says g n Tree Out top best next base depth t start w)
    (way : ToldIn says g n Tree Out top best next base depth t paths few start over before times w)
    (levels : (f : ℕ) → LevelSettles says g n Tree Out top best next base depth t paths few start over before times f w)
    (late : (e : ℕ) → suc (suc e) ≤ n.reach → before e ≤ w.time) (past : over < w.time) where
  pub moved_rests : (d v p u q : ℕ) → d < 255 → Tree v → Tree u → LeadsFarther n.graph d next v p u q
      → LinkAtRest says (wiring n d next v p u q) w
  moved_rests d v p u q close in_v in_u leads =
      stands_rests says g n t.well t.left w is.kept is.fits (before d) d next v p u q leads.joins chosen
      (ends_by g n t.well t.left (before d) d next v p u q leads.joins wait w is.kept is.fits.stations
      (show says g n Tree Out top best next base depth t start before d v p u q close in_v in_u leads wait w is falling
      (λ s pv at there not.
      let chose = chosen s at in
      absurd (not (
        (chose.root, chose.steps),
        teller_on g n t.well t.left (before d) d next v p u q leads.joins wait w is.kept is.fits.stations s pv at
            there,
      )))
      (inr (has_left says g n Tree Out top best next base depth t paths few start over before times w is falling u in_u
      past)))) (levels d v p u q close in_v in_u leads)
      (in_time says g n Tree Out top best next base depth t paths few start over before times w is falling way levels
      late past d v p u q next leads)
    where
      wait : n.most ≤ before d
      wait = delay says g n Tree Out top best next base depth t paths few start over before times d

      chosen : (s : Station) → slice_get w.stations (n.place v) ≡ Some s → Chooses s next d
      chosen s at =
          choose says g n Tree Out top best next base depth t paths few start over before times w is falling way levels
          late past d (IsDistance-within n.graph n.reach v d paths leads.here) v s at in_v leads.here

-- ---- all links

-- They are at rest where each system follows its best and each link that leads farther is.
module _ (says : Spelling) (n : Network) (well : IsWellFormed n.graph) (w : MachineState) (calm : Calm n w)
    (follows : (i : ℕ) (s : Station) → slice_get w.stations i ≡ Some s → s.live ≡ true → (d : ℕ)
    → (here : IsDistance n.graph s.clock d) → d < 255 → Follows n.graph s d here) where
  follow_chooses : (d : ℕ) → d < 255 → AllChoose n w d
  follow_chooses d close v c s at is_best here =
      let (live, clock) = lives_at n w calm v is_best.reached.1.begins s at in
      let here_s : IsDistance n.graph s.clock d = subst (λ x. IsDistance n.graph x d) (sym clock) here in
      let one : here_s.best ≡ c =
      IsBest-unique n.graph s.clock here_s.best c well here_s.is_best
      (subst (λ x. IsBest n.graph x c) (sym clock) is_best) in
      subst (λ b. Chooses s b d) one (follows (n.place v) s at live d here_s close).chosen

  follow_farther : (i : ℕ) (s : Station) (place : ℕ) (r : Reception) (from : PortIdentity) (d far : ℕ)
      → slice_get w.stations i ≡ Some s → s.live ≡ true → HoldsAt s place r
      → Joins n.graph (port_of s.clock (suc place)) from → IsDistance n.graph s.clock d → d < 255
      → IsDistance n.graph from.clock far → (d < far) ⊎ ((d ≡ far) × (s.clock < from.clock)) → ⊥
  follow_farther i s place r from d far at live (q, there, holds) joins here close beyond nearer =
      let is = follows i s at live d here close in
      let mine = is_master n.graph well s is.clear here.best here.is_best d far place q from is.chosen there
      (λ off. absurd (let both : Received r ≡ Disabled = sym holds ∙ off in cc)) joins beyond nearer in
      absurd (let both : Received r ≡ Mine here.best.identity d = sym holds ∙ mine in cc)

  pub all_rest : ((d : ℕ) (c : System) (v p u q : ℕ) → d < 255 → LeadsFarther n.graph d c v p u q
      → LinkAtRest says (wiring n d c v p u q) w) → LinksAreAtRest says n w
  all_rest links = record { chooses = follow_chooses; links = links; farther = follow_farther }
