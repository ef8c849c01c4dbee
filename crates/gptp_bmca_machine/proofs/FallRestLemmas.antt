-- A tree that a loss is about to move, in a network at rest: what its systems hold and tell.
use Rattle.std.proofs.Common.{◌≡◌, ◌≢◌, ◌<◌, ◌≤◌, ◌+◌, ℕ, suc, true, Some, slice_get, refl, sym, subst, ◌∙◌, inl, inr, arith}
use Rattle.gptp_graph.specs.Best.{IsBest}
use Rattle.gptp_graph.specs.Snapshot.{Joins, Snapshot, System, port_of}
use Rattle.gptp_graph.proofs.LinkLemmas.{Joins-sym}
use Rattle.gptp_graph.proofs.PathBoundLemmas.{IsDistance-within}
use Rattle.gptp_bmca_machine.specs.Calm.{Calm}
use Rattle.gptp_bmca_machine.specs.Frame.{Spelling}
use Rattle.gptp_bmca_machine.specs.Levels.{Invariant, LeadsFarther}
use Rattle.gptp_bmca_machine.specs.Network.{IsSettlingNetwork, Network, settled_from}
use Rattle.gptp_bmca_machine.specs.RestLaws.{LinkStays, SameWiring}
use Rattle.gptp_bmca_machine.specs.Station.{Disabled, MachineState, Mine, Port, Received, Reception, Station}
use Rattle.gptp_bmca_machine.proofs.MovedTreeLemmas.{LeadsDown, MovesTree, child_leads}
use Rattle.gptp_bmca_machine.proofs.EndsLemmas.{clear_at, is_station}
use Rattle.gptp_bmca_machine.proofs.RestLemmas.{Chooses, is_master}
use Rattle.gptp_bmca_machine.proofs.RestingLemmas.{all_choose, by_then_at, links_stay, stays_so}
use Rattle.gptp_bmca_machine.proofs.StillLemmas.{live_before, still, still_stays}

module _ (says : Spelling) (n0 n : Network) (Tree : ℕ → Type 0) (Out : ℕ → ℕ → Type 0) (top : ℕ)
    (best next : System) (base : ℕ) (depth : ℕ → ℕ) (t : MovesTree n0.graph n Tree Out top best next base depth)
    (net0 : IsSettlingNetwork n0) (w : MachineState) (calm0 : Calm n0 w) (invariant0 : Invariant says n0 w)
    (late0 : settled_from n0 ≤ w.time) (same : SameWiring n0 n) where
  abbrev g : Snapshot
  g = n0.graph

  module _ (x : ℕ) (in_x : Tree x) (s : Station) (at : slice_get w.stations (n.place x) ≡ Some s) where
    at0 : slice_get w.stations (n0.place x) ≡ Some s
    at0 = subst (λ i. slice_get w.stations i ≡ Some s) (same.place x) at

    pub was_x : (s.live ≡ true) × (s.clock ≡ x)
    was_x =
        is_station n0 net0 w calm0 invariant0.sound x s
        (live_before g n t.well t.left x (t.lives x in_x)) at0

    pub chosen : Chooses s best (base + depth x)
    chosen =
        all_choose says n0 net0 w calm0 invariant0 late0 (base + depth x) (t.near x in_x)
        (by_then_at says n0 net0 w calm0 invariant0 late0 (base + depth x)
        (IsDistance-within g n0.reach x (base + depth x) net0.paths (t.was x in_x))) x best s at0 (t.was_best x in_x)
        (t.was x in_x)

    -- a port of a link that leads down is master
    pub masters : (i : ℕ) (q : Port) (u : ℕ) (k : ℕ) → slice_get s.ports i ≡ Some q → q.held ≢ Disabled
        → Joins n.graph (port_of x (suc i)) (port_of u k) → LeadsDown g Tree Out base depth x u
        → q.held ≡ Mine best.identity (base + depth x)
    masters i q u k there on joins leads =
        is_master g net0.graph s (clear_at n0 net0 w calm0 invariant0.sound (n.place x) s at was_x.0
        (omega (arith, late0))) best (subst (λ c. IsBest g c best) (sym was_x.1) (t.was_best x in_x)) (base + depth x)
        leads.far i q (port_of u k) chosen there on
        (subst (λ c. Joins g (port_of c (suc i)) (port_of u k)) (sym was_x.1)
        (t.left.links (port_of x (suc i)) (port_of u k) joins)) leads.there (elim leads.farther [
          | inl less ↦ inl less
          | inr (as_far, lower) ↦ inr (as_far, subst (λ c. c < u) (sym was_x.1) lower)
        ])

  -- what was told before is held, and stays
  pub stays0 : (v p u q : ℕ) → Tree v → (joins : Joins n.graph (port_of v (suc p)) (port_of u (suc q)))
      → LeadsDown g Tree Out base depth v u → LinkStays says (still n (base + depth v) best v p u q) w
  stays0 v p u q in_v joins down pv pu l stand =
      still_stays says n (base + depth v) best v p u q pv.announce pu.held l.frames
      (stays_so says n0 n same (base + depth v) best best v p u q refl pv.announce pu.held l.frames
      (links_stay says n0 net0 w calm0 invariant0 late0 (base + depth v) best v p u q (t.near v in_v) leads pv pu l
      (record {
        v = stand.v;
        u = stand.u;
        teller = subst (λ i. slice_get w.stations i ≡ Some stand.v) (same.place v) stand.teller;
        teller_port = stand.teller_port;
        hearer = subst (λ i. slice_get w.stations i ≡ Some stand.u) (same.place u) stand.hearer;
        hearer_port = stand.hearer_port;
        lane = subst (λ i. slice_get w.lanes i ≡ Some l) (same.lane (port_of v (suc p))) stand.lane;
      })))
    where
      leads : LeadsFarther g (base + depth v) best v p u q
      leads = record {
        is_best = t.was_best v in_v;
        here = t.was v in_v;
        joins = t.left.links (port_of v (suc p)) (port_of u (suc q)) joins;
        far = down.far;
        there = down.there;
        farther = down.farther;
      }

  module _ (v p u q : ℕ) (in_v : Tree v) (in_u : Tree u)
      (joins : Joins n.graph (port_of v (suc p)) (port_of u (suc q))) (higher : depth v ≡ suc (depth u)) where
    back : Joins n.graph (port_of u (suc q)) (port_of v (suc p))
    back = Joins-sym n.graph (port_of v (suc p)) (port_of u (suc q)) joins

    -- a port towards one that is deeper holds nothing
    pub held_before : (s : Station) (pu : Port) (r : Reception) → slice_get w.stations (n.place u) ≡ Some s
        → slice_get s.ports q ≡ Some pu → pu.held ≡ Received r → ⊥
    held_before s pu r at there holds =
        let mine = masters u in_u s at q pu v (suc p) there
        (λ off. absurd (let both : Received r ≡ Disabled = sym holds ∙ off in cc)) back
        (child_leads g n Tree Out top best next base depth t u v in_v higher) in
        absurd (let both : Received r ≡ Mine best.identity (base + depth u) = sym holds ∙ mine in cc)
