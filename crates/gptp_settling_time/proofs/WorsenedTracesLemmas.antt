-- The best of a tree gets a worse identity. Ways between others lead through others alone, so what others say is sound
-- still.
use Rattle.std.proofs.Common.{◌≡◌, ◌⊎◌, ℕ, List, [], ◌∷◌, subst, inl, inr}
use Rattle.gptp_lists.specs.Members.{In}
use Rattle.gptp_graph.specs.Best.{IsBest}
use Rattle.gptp_graph.specs.Path.{IsPath, Route}
use Rattle.gptp_graph.specs.Snapshot.{Adjacent, IsWellFormed, Snapshot, System, clocks}
use Rattle.gptp_graph.proofs.BestLemmas.{IsBest-reached, IsBest-unique}
use Rattle.gptp_graph.proofs.ExistenceLemmas.{best_exists}
use Rattle.gptp_settling_time.specs.Losses.{IsUnmoved}
use Rattle.gptp_settling_time.proofs.TreeBeginsLemmas.{StaysOutside}

module _ (g g' : Snapshot) (well : IsWellFormed g) (well' : IsWellFormed g') (top : ℕ) (next : System)
    (in_top : IsBest g' top next)
    (others : (v : ℕ) → In v (clocks g') → (IsBest g' v next → ⊥) → IsUnmoved g g' v)
    (systems : (s : System) → In s g.systems → In s g'.systems ⊎ (s.clock ≡ top))
    (lives : (v : ℕ) → In v (clocks g) → In v (clocks g'))
    (links : (v u : ℕ) → Adjacent g v u → Adjacent g' v u) where
  -- a way of before is one still
  route_on : (v end : ℕ) (us : List ℕ) → Route g v end us → Route g' v end us
  route_on v end [] same = same
  route_on v end (u ∷ us) (joined, route) = (links v u joined, route_on u end us route)

  path_on : (v end : ℕ) (us : List ℕ) → IsPath g v end us → IsPath g' v end us
  path_on v end us way = record {
    begins = lives v way.begins;
    route = route_on v end us way.route;
    different = way.different;
  }

  -- the best of who isn't of the tree was so before
  was_so : (v : ℕ) (b : System) → (IsBest g' v next → ⊥) → In v (clocks g) → IsBest g' v b → IsBest g v b
  was_so v b out known is =
      let (c, was) = best_exists g v well known in
      let still = (others v (lives v known) out).best c was in
      subst (IsBest g v) (IsBest-unique g' v c b well' still is) was

  -- who has a way to the top is of the tree
  in_tree : (v : ℕ) (us : List ℕ) → IsPath g' v top us → IsBest g' v next
  in_tree v us way =
      let (b, is) = best_exists g' v well' way.begins in
      let reached = IsBest-reached g' v top b well' (us, way) is in
      subst (IsBest g' v) (IsBest-unique g' top b next well' reached in_top) is

  pub worsened_stays : StaysOutside g g' next
  worsened_stays v c out known (inl worse) = inl (λ b is. worse b (was_so v b out known is))
  worsened_stays v c out known (inr whole) =
      let way = path_on v whole.first.clock whole.others whole.way in
      elim (systems whole.first whole.known) [
        | inl still ↦ inr (record {
          others = whole.others;
          first = whole.first;
          is = whole.is;
          way = way;
          known = still;
          root = whole.root;
          steps = whole.steps;
        })
        | inr is_top ↦
            absurd (out (in_tree v whole.others (subst (λ end. IsPath g' v end whole.others) is_top way)))
      ]
