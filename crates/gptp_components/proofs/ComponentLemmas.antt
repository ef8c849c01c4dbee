-- Components and their bests.
use Rattle.std.proofs.Common.{◌≡◌, ◌∙◌, ℕ, ap, subst, sym}
use Rattle.gptp_graph.specs.Path.{Reaches}
use Rattle.gptp_graph.specs.SettledChoice.{IsBestIdentity}
use Rattle.gptp_graph.specs.Snapshot.{Snapshot, System, IsWellFormed, Adjacent}
use Rattle.gptp_graph.proofs.BestLemmas.{IsBest-reached, IsBest-unique}
use Rattle.gptp_graph.proofs.PathLemmas.{Reaches-neighbour, Reaches-sym, Reaches-trans}
use Rattle.gptp_graph.proofs.SystemLemmas.{same_identity}

-- a system has one best identity
pub one_best : (g : Snapshot) (v a b : ℕ) → IsWellFormed g → IsBestIdentity g v a → IsBestIdentity g v b → a ≡ b
one_best g v a b wf (s, is, same) (t, also, other) =
    same ∙ ap (λ (u : System). u.identity) (IsBest-unique g v s t wf is also) ∙ sym other

-- two systems are of one component exactly where their bests are one
pub same_best : (g : Snapshot) (v w root : ℕ) → IsWellFormed g → IsBestIdentity g v root → Reaches g v w
    → IsBestIdentity g w root
same_best g v w root wf (s, is, same) reached = (s, IsBest-reached g v w s wf reached is, same)

pub reaches_by_best : (g : Snapshot) (v w root : ℕ) → IsWellFormed g → IsBestIdentity g v root
    → IsBestIdentity g w root → Reaches g v w
reaches_by_best g v w root wf (s, is, same) (t, also, other) =
    let one : s ≡ t = same_identity g s t wf is.live also.live (sym same ∙ other) in
    Reaches-trans g v s.clock w is.reached
    (Reaches-sym g w s.clock wf (subst (λ (u : System). Reaches g w u.clock) (sym one) also.reached))

-- neighbours have one best
pub neighbours_best : (g : Snapshot) (v w root : ℕ) → IsWellFormed g → Adjacent g v w → IsBestIdentity g v root
    → IsBestIdentity g w root
neighbours_best g v w root wf adjacent is = same_best g v w root wf is (Reaches-neighbour g v w wf adjacent)
