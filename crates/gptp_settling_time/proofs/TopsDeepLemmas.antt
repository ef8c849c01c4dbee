-- A tree that is cut off has a path that leads from each of its systems to a top: so none is deeper than paths are
-- long.
use Rattle.std.proofs.Common.{◌≡◌, ◌⊎◌, ◌<◌, ◌≤◌, ◌+◌, ℕ, suc, List, [], ◌∷◌, length, ap, inl, inr, arith}
use Rattle.gptp_graph.specs.Best.{IsBest}
use Rattle.gptp_graph.specs.Path.{Route}
use Rattle.gptp_graph.specs.PathBound.{BoundsPaths}
use Rattle.gptp_graph.specs.Snapshot.{Adjacent, IsWellFormed, Snapshot, System}
use Rattle.gptp_graph.proofs.BestLemmas.{IsBest-neighbour}
use Rattle.gptp_graph.proofs.PathLemmas.{Reaches-sym, Reaches-trans}

module _ (g : Snapshot) (well : IsWellFormed g) (next : System) (depth : ℕ → ℕ) (top : ℕ) (in_top : IsBest g top next)
    (first : depth top ≡ 0) (steps : (v u : ℕ) → IsBest g v next → Adjacent g v u
    → (depth u ≡ suc (depth v)) ⊎ (depth v ≡ suc (depth u))) where
  -- a route has a link at least for each that it leads up
  long_enough : (v end : ℕ) (us : List ℕ) → IsBest g v next → Route g v end us → depth v ≤ depth end + length us
  long_enough v end [] in_v same = let e = ap depth same in omega (arith, e)
  long_enough v end (u ∷ us) in_v (joined, route) =
      let more = long_enough u end us (IsBest-neighbour g v u next well joined in_v) route in
      elim (steps v u in_v joined) [
        | inl down ↦ omega (arith, more, down)
        | inr up ↦ omega (arith, more, up)
      ]

  pub tops_deep : (m : ℕ) → BoundsPaths g m → (v : ℕ) → IsBest g v next → depth v < m
  tops_deep m bounds v in_v =
      let (us, path) = Reaches-trans g v next.clock top in_v.reached
      (Reaches-sym g top next.clock well in_top.reached) in
      let short = bounds v top us path in
      let far = long_enough v top us in_v path.route in
      omega (arith, short, far, first)
