-- The best of a component is one system, and the same for all of its members.
use Rattle.std.proofs.Common.{◌≡◌, ◌≤◌, ℕ, arith}
use Rattle.gptp_graph.specs.Snapshot.{System, Snapshot, IsWellFormed, Adjacent}
use Rattle.gptp_graph.specs.Path.{Reaches}
use Rattle.gptp_graph.specs.Best.{IsBest}
use Rattle.gptp_graph.proofs.SystemLemmas.{same_identity}
use Rattle.gptp_graph.proofs.PathLemmas.{Reaches-sym, Reaches-trans, Reaches-neighbour}

-- a component has one best
pub IsBest-unique : (g : Snapshot) (v : ℕ) (a b : System) → IsWellFormed g → IsBest g v a → IsBest g v b → a ≡ b
IsBest-unique g v a b wf h k =
    let below : a.identity ≤ b.identity = h.least b k.live k.reached in
    let above : b.identity ≤ a.identity = k.least a h.live h.reached in
    same_identity g a b wf h.live k.live (omega arith)

-- what v reaches has the same best
pub IsBest-reached : (g : Snapshot) (v w : ℕ) (b : System) → IsWellFormed g → Reaches g v w → IsBest g v b
    → IsBest g w b
IsBest-reached g v w b wf r h = record {
  live = h.live;
  reached = Reaches-trans g w v b.clock (Reaches-sym g v w wf r) h.reached;
  least = λ s live at. h.least s live (Reaches-trans g v w s.clock r at);
}

-- neighbours have the same best
pub IsBest-neighbour : (g : Snapshot) (v w : ℕ) (b : System) → IsWellFormed g → Adjacent g v w → IsBest g v b
    → IsBest g w b
IsBest-neighbour g v w b wf a h = IsBest-reached g v w b wf (Reaches-neighbour g v w wf a) h

-- the two bests of neighbours are one
pub IsBest-agree : (g : Snapshot) (v w : ℕ) (a b : System) → IsWellFormed g → Adjacent g v w → IsBest g v a
    → IsBest g w b → a ≡ b
IsBest-agree g v w a b wf at h k = IsBest-unique g w a b wf (IsBest-neighbour g v w a wf at h) k
