-- Routes and paths over the links of a snapshot, and the components that they make.
use Rattle.std.specs.Prelude.{◌≡◌, ℕ, List, [], ◌∷◌}
use Rattle.gptp_lists.specs.Members.{In, Different}
use Rattle.gptp_graph.specs.Snapshot.{Snapshot, clocks, Adjacent}

-- from v over the systems of the list in turn, each joined by a link to the one before it, the last of them w;
-- systems may come again, and the empty list stays at v
abbrev pub Route : Snapshot → ℕ → ℕ → List ℕ → Type 0
Route g v w [] = v ≡ w
Route g v w (u ∷ us) = Adjacent g v u × Route g u w us

-- v and the systems of the list are a path from v to w: different systems, neighbours in the list joined by a link.
-- The path's length is that of the list, since v stands before it.
pub record IsPath (g : Snapshot) (v w : ℕ) (us : List ℕ) : Type 0 where
  pub begins : In v (clocks g)
  pub route : Route g v w us
  pub different : Different (v ∷ us)

-- the component of v has w: a path from v reaches it
abbrev pub Reaches : Snapshot → ℕ → ℕ → Type 0
Reaches g v w = (us : List ℕ) × IsPath g v w us
