-- A tree that is cut off has a path that leads up it from each of its systems: so none is deeper than paths are long.
use Rattle.std.proofs.Common.{◌≡◌, ◌⊎◌, ◌<◌, ◌+◌, ℕ, zero, suc, List, [], ◌∷◌, length, refl, sym, ap, subst, ◌∙◌, inl, inr, arith}
use Rattle.gptp_lists.specs.Members.{Different, In}
use Rattle.gptp_graph.specs.Best.{IsBest}
use Rattle.gptp_graph.specs.Distance.{IsDistance}
use Rattle.gptp_graph.specs.Path.{Route}
use Rattle.gptp_graph.specs.PathBound.{BoundsPaths}
use Rattle.gptp_graph.specs.Snapshot.{Adjacent, IsWellFormed, Snapshot, System}
use Rattle.gptp_graph.proofs.BestLemmas.{IsBest-neighbour}
use Rattle.gptp_graph.proofs.DistanceLemmas.{IsDistance-unique, nearer_neighbour}
use Rattle.gptp_settling_time.specs.TreeLosses.{IsCutTree}

module _ (g g' : Snapshot) (well : IsWellFormed g) (well' : IsWellFormed g') (top : ℕ) (next : System) (base : ℕ)
    (depth : ℕ → ℕ) (first : depth top ≡ 0) (was : (v : ℕ) → IsBest g' v next → IsDistance g v (base + depth v))
    (lost : (v u : ℕ) → IsBest g' v next → Adjacent g v u → Adjacent g' v u ⊎ (v ≡ top)) where
  -- a path of so many links, each of whose systems is less deep
  record LeadsUp (v : ℕ) : Type 0 where
    us : List ℕ
    end : ℕ
    route : Route g' v end us
    long : length us ≡ depth v
    less : (x : ℕ) → In x us → depth x < depth v
    different : Different us

  leads_up : (d v : ℕ) → depth v ≡ d → IsBest g' v next → LeadsUp v
  leads_up zero v deep in_v = record {
    us = [];
    end = v;
    route = refl;
    long = sym deep;
    less = λ x none. absurd none;
    different = tt;
  }
  leads_up (suc d) v deep in_v =
      go (nearer_neighbour g v (base + d) well
      (subst (IsDistance g v) (let e : base + depth v ≡ suc (base + d) = omega (arith, deep) in e) (was v in_v)))
      (λ u is in_u. leads_up d u is in_u)
    where
      go : ((u : ℕ) × Adjacent g v u × IsDistance g u (base + d))
          → ((u : ℕ) → depth u ≡ d → IsBest g' u next → LeadsUp u) → LeadsUp v
      go (u, joined, there) above = elim (lost v u in_v joined) [
        | inr is_top ↦ absurd (let none = ap depth is_top ∙ first in omega (arith, deep, none))
        | inl left ↦
            let in_u = IsBest-neighbour g' v u next well' left in_v in
            let far = IsDistance-unique g u (base + depth u) (base + d) well (was u in_u) there in
            let deep_u : depth u ≡ d = omega (arith, far) in
            let up = above u deep_u in_u in
            let long = up.long in
            record {
              us = u ∷ up.us;
              end = up.end;
              route = (left, up.route);
              long = omega (arith, long, deep_u, deep);
              less = λ x among. elim among [
                | inl same ↦ let e = ap depth same in omega (arith, e, deep_u, deep)
                | inr behind ↦ let below = up.less x behind in omega (arith, below, deep_u, deep)
              ];
              different = ((λ again. let below = up.less u again in absurd (omega (arith, below))), up.different);
            }
      ]

  pub deep_by : (m : ℕ) → BoundsPaths g' m → (v : ℕ) → IsBest g' v next → depth v < m
  deep_by m bounds v in_v =
      let up = leads_up (depth v) v refl in_v in
      let long = up.long in
      let short = bounds v up.end up.us (record {
        begins = in_v.reached.1.begins;
        route = up.route;
        different = ((λ again. let below = up.less v again in absurd (omega (arith, below))), up.different);
      }) in
      omega (arith, long, short)

pub deep_within : (g g' : Snapshot) → IsWellFormed g → IsWellFormed g' → (top other : ℕ) (best next : System)
    (base : ℕ) (depth : ℕ → ℕ) → IsCutTree g g' top other best next base depth → (m : ℕ) → BoundsPaths g' m
    → (v : ℕ) → IsBest g' v next
    → depth v < m
deep_within g g' well well' top other best next base depth t =
    deep_by g g' well well' top next base depth t.first t.was t.lost
