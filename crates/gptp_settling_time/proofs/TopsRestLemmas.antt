-- Once a tree with one or two tops that a failure cut off has settled each of its links that leads farther is at rest.
use Rattle.std.proofs.Common.{◌≡◌, ◌<◌, ◌≤◌, ℕ, suc, Some, slice_get, sym, subst, arith}
use Rattle.gptp_graph.specs.Best.{IsBest}
use Rattle.gptp_graph.specs.Distance.{IsDistance}
use Rattle.gptp_graph.specs.Snapshot.{Joins, Snapshot, System, port_of}
use Rattle.gptp_graph.proofs.BestLemmas.{IsBest-unique}
use Rattle.gptp_graph.proofs.LinkLemmas.{Joins-sym}
use Rattle.gptp_graph.proofs.PathBoundLemmas.{IsDistance-within}
use Rattle.gptp_bmca_machine.specs.Frame.{Spelling}
use Rattle.gptp_bmca_machine.specs.Levels.{LeadsFarther}
use Rattle.gptp_bmca_machine.specs.Network.{Network, wiring}
use Rattle.gptp_bmca_machine.specs.Station.{MachineState, Station}
use Rattle.gptp_bmca_machine.specs.TwoTops.{Side, CutsOffTwice}
use Rattle.gptp_bmca_machine.proofs.FailureEndLemmas.{TopsTimes}
use Rattle.gptp_bmca_machine.proofs.FallLemmas.{IsAftermath}
use Rattle.gptp_bmca_machine.proofs.LinkStepLemmas.{lives_at}
use Rattle.gptp_bmca_machine.proofs.LinkTellsLemmas.{ends_so}
use Rattle.gptp_bmca_machine.proofs.RestLemmas.{Chooses}
use Rattle.gptp_bmca_machine.proofs.StaleLevelLemmas.{FallsFromTops, falls_follows, settles_now}
use Rattle.gptp_bmca_machine.proofs.StaleSettleLemmas.{IsHeardState, shows_new}
use Rattle.gptp_bmca_machine.proofs.StaleStepLemmas.{IsTelling}
use Rattle.gptp_bmca_machine.proofs.StaleTellLemmas.{heard_so}
use Rattle.gptp_bmca_machine.proofs.StandsLemmas.{port_on, port_stands, stands_there}
use Rattle.gptp_bmca_machine.proofs.TwoTopsLemmas.{beside}
use Rattle.gptp_settling_time.proofs.AtRestLemmas.{LinkAtRest, few}
use Rattle.gptp_settling_time.proofs.MovedRestLemmas.{stands_rests}

module _ (says : Spelling) (g : Snapshot) (n : Network) (top : Side → ℕ) (best next : System) (base : ℕ)
    (depth : Side → ℕ → ℕ) (c : CutsOffTwice g n top best next base depth) (start over : ℕ) (before : ℕ → ℕ)
    (times : TopsTimes n start over before) (w : MachineState) (is : IsAftermath says g n w)
    (falls : FallsFromTops says n next top depth c.tree best.identity base c.worse c.near start over (before 0)
    times.begun (times.soon 0) times.reached before times.soon times.grows w)
    (late : (e : ℕ) → suc (suc e) ≤ n.reach → before e ≤ w.time) (past : over < w.time) where
  -- each system of the tree chooses its best by its distance
  chosen : (x e : ℕ) → IsBest n.graph x next → IsDistance n.graph x e → e < 255 → (s : Station)
      → slice_get w.stations (n.place x) ≡ Some s → Chooses s next e
  chosen x e in_x here close s at =
      let (live, clock) = lives_at n w is.kept.calm x in_x.reached.1.begins s at in
      let in_s = subst (λ y. IsBest n.graph y next) (sym clock) in_x in
      let here_s = subst (λ y. IsDistance n.graph y e) (sym clock) here in
      subst (λ b. Chooses s b e) (IsBest-unique n.graph s.clock here_s.best next c.tree.well here_s.is_best in_s)
      (falls_follows says n next top depth c.tree best.identity base c.worse c.near start over (before 0) times.begun
      (times.soon 0) times.reached before times.soon times.grows w falls.stale falls.strong falls.tells n.reach
      (λ f less. falls.settles f) (omega arith) late past (n.place x) s at live e here_s close in_s).chosen

  heard : IsHeardState says n next top depth c.tree best.identity base c.worse c.near before w
  heard = record {
    kept = falls.stale.kept;
    dark = falls.stale.dark;
    mixed = falls.stale.mixed;
    heard = heard_so says n next top depth c.tree best.identity base c.worse c.near start over (before 0)
        (times.soon 0) times.reached w falls.stale falls.strong falls.tells;
  }

  module _ (d v p u q : ℕ) (close : d < 255) (in_v : IsBest n.graph v next)
      (leads : LeadsFarther n.graph d next v p u q) where
    in_u : IsBest n.graph u next
    in_u = beside n next top depth c.tree v u in_v (suc p, suc q, leads.joins)

    back : Joins n.graph (port_of u (suc q)) (port_of v (suc p))
    back = Joins-sym n.graph (port_of v (suc p)) (port_of u (suc q)) leads.joins

    wait : n.most ≤ before d
    wait = let more = times.soon d in omega (arith, more)

    -- the other end tells nothing that is stale
    none_tells : IsTelling says n next top depth c.tree best.identity base c.worse u q w → ⊥
    none_tells tells = by (stands_there n c.tree.well w is.kept u in_u.reached.1.begins)
      where
        by : ((s : Station) × (slice_get w.stations (n.place u) ≡ Some s)) → ⊥
        by (s, at) =
            let (pu, there) = port_stands n c.tree.well w is.kept u q (port_of v (suc p)) s at back in
            let within = IsDistance-within n.graph n.reach u leads.far c.tree.paths leads.there in
            let short = c.tree.few in
            let new = (chosen u leads.far in_u leads.there (omega (arith, within, short)) s at).root in
            let old = (tells s pu at there).0 in
            let worse = c.worse in
            omega (arith, new, old, worse)

    pub tops_rest : LinkAtRest says (wiring n d next v p u q) w
    tops_rest =
        stands_rests says g n c.tree.well c.left w is.kept is.fits (before d) d next v p u q leads.joins
        (chosen v d in_v leads.here close)
        (ends_so says n c.tree.well (before d) d next v p u q leads.joins wait w
        (shows_new says n next top depth c.tree best.identity base c.worse c.near before d v p u q close in_v leads wait
        w heard none_tells (λ s pv at there not.
        let chose = chosen v d in_v leads.here close s at in
        absurd (not (
          (chose.root, chose.steps),
          port_on n c.tree.well w is.kept v p (port_of u (suc q)) s pv at there leads.joins,
        )))))
        (settles_now says n next top depth c.tree best.identity base c.worse c.near start over (before 0) times.begun
        (times.soon 0) times.reached before times.soon times.grows w falls.stale falls.strong falls.tells (suc d)
        (λ f less. falls.settles f) past d v p u q (omega arith) close in_v leads)
        (late d (few n c.tree.well c.tree.paths d next v p u q leads))
