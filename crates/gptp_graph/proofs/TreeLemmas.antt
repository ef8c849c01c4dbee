-- Slave ports form a tree: following parents leads to the best, and each parent's port is a master port.
use Rattle.std.proofs.Common.{◌≡◌, ◌≢◌, ℕ, zero, suc, refl, sym, ap, subst, ◌∙◌, arith}
use Rattle.gptp_graph.specs.Once.{ExistsOnce}
use Rattle.gptp_graph.specs.Snapshot.{System, Snapshot, IsWellFormed, port_of}
use Rattle.gptp_graph.specs.Best.{IsBest}
use Rattle.gptp_graph.specs.Distance.{IsDistance}
use Rattle.gptp_graph.specs.Parent.{ParentLink, IsParent, Climbs}
use Rattle.gptp_graph.specs.SettledRole.{Slave, IsSettledRole}
use Rattle.gptp_graph.proofs.BestLemmas.{IsBest-neighbour}
use Rattle.gptp_graph.proofs.DistanceLemmas.{IsDistance-best, best_at_zero}
use Rattle.gptp_graph.proofs.ExistenceLemmas.{distance_exists}
use Rattle.gptp_graph.proofs.ParentLemmas.{LeadsNearer-distance, parent_exists, IsParent-unique, no_parent_at_zero}

-- following parents leads to the best in as many steps as the distance says
pub climbs : (g : Snapshot) (v d : ℕ) (best : System) → IsWellFormed g → IsBest g v best → IsDistance g v d
    → Climbs g v best.clock d
climbs g v zero best wf is here = sym (best_at_zero g v best wf is here)
climbs g v (suc d) best wf is here =
    let (l, parent) = parent_exists g v d wf here in
    let e : suc d ≡ suc parent.nearer.distance = LeadsNearer-distance g v (suc d) l wf here parent.nearer in
    let there : IsDistance g l.clock d = subst (IsDistance g l.clock)
    (let same : parent.nearer.distance ≡ d = omega arith in same) parent.nearer.there in (
      l,
      parent,
      climbs g l.clock d best wf
          (IsBest-neighbour g v l.clock best wf (l.own_port, l.port, parent.nearer.joins) is) there,
    )

-- the best of its own component has no parent
pub best_has_no_parent : (g : Snapshot) (v : ℕ) (best : System) (l : ParentLink) → IsWellFormed g
    → IsBest g v best → best.clock ≡ v → IsParent g v l → ⊥
best_has_no_parent g v best l wf is e p =
    let own : IsBest g best.clock best = subst (λ w. IsBest g w best) (sym e) is in
    no_parent_at_zero g v l wf (subst (λ w. IsDistance g w 0) e (IsDistance-best g best own)) p

-- every other system has a parent
pub parent_of_other : (g : Snapshot) (v : ℕ) (best : System) → IsWellFormed g → IsBest g v best → best.clock ≢ v
    → (l : ParentLink) × IsParent g v l
parent_of_other g v best wf is other = by_distance (distance_exists g v wf is.reached.1.begins)
  where
    by_distance : ((d : ℕ) × IsDistance g v d) → (l : ParentLink) × IsParent g v l
    by_distance (zero, here) = absurd (other (best_at_zero g v best wf is here))
    by_distance (suc d, here) = parent_exists g v d wf here

-- the own port of the parent is a slave port
pub parent_is_slave : (g : Snapshot) (v : ℕ) (l : ParentLink) → IsParent g v l
    → IsSettledRole g (port_of v l.own_port) Slave
parent_is_slave g v l p = ((port_of l.clock l.port, p.nearer.joins), (l, p, refl))

-- every other system has one slave port
pub slave_exists_once : (g : Snapshot) (v : ℕ) (best : System) → IsWellFormed g → IsBest g v best
    → best.clock ≢ v → ExistsOnce (λ (n : ℕ). IsSettledRole g (port_of v n) Slave)
slave_exists_once g v best wf is other =
    let (l, parent) = parent_of_other g v best wf is other in (
      l.own_port,
      parent_is_slave g v l parent,
      λ n (linked, (k, is_parent, own)). sym own ∙ ap
          (λ (x : ParentLink). x.own_port) (IsParent-unique g v k l is_parent parent),
    )
