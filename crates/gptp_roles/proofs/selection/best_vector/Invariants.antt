use Rattle.std.proofs.Common.{◌∷◌, drop}
use Rattle.gptp_vector.specs.declared.vector.Vector.{Vector}
use Rattle.gptp_roles.specs.Choice.{IsChosen, IsLeast, path_vectors}
use Rattle.gptp_roles.proofs.selection.best_vector.Given as goal

abbrev pub invariant-loop-one : goal.invariant-loop-one
invariant-loop-one l = (v : Vector) → IsLeast (l.best ∷ path_vectors (drop l.one-index l.held)) v
    → IsChosen l.fn.identity l.held v
