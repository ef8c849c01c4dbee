-- Draws of a fate, one after another.
use Rattle.std.proofs.Common.{ℕ, List, [], ◌∷◌, ◌++◌, Option, subst}
use Rattle.gptp_links.specs.declared.bounds.Bounds.{Bounds}
use Rattle.gptp_links.specs.Fate.{Draw, Draws}

pub draws-append : {F : Type 0} (answers : Bounds → ℕ → F → Option ℕ → F → Type 0) (first second third : F)
    (ds es : List Draw)
    → Draws answers first ds second → Draws answers second es third → Draws answers first (ds ++ es) third
draws-append {F} answers first second third [] es front back = subst (λ (s : F). Draws answers s es third) front back
draws-append answers first second third (d ∷ ds) es front back =
    (front.0, front.1, draws-append answers front.0 second third ds es front.2 back)
