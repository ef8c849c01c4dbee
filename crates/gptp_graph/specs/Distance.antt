-- The distance of a system from the best of its component: the stepsRemoved that it settles at.
use Rattle.std.specs.Prelude.{◌≡◌, ◌<◌, ◌≤◌, ℕ, List, length}
use Rattle.gptp_graph.specs.Snapshot.{System, Snapshot}
use Rattle.gptp_graph.specs.Path.{IsPath}
use Rattle.gptp_graph.specs.Best.{IsBest}

-- d is the least length of a path from b to v
pub record IsDistanceFrom (g : Snapshot) (b v d : ℕ) : Type 0 where
  pub path : (us : List ℕ) × IsPath g b v us × (length us ≡ d)
  pub least : (us : List ℕ) → IsPath g b v us → d ≤ length us

-- d is the distance of v: the least length of a path from the best of its component to v
-- (stepsRemoved, IEEE 802.1AS-2020, 10.3.3)
pub record IsDistance (g : Snapshot) (v d : ℕ) : Type 0 where
  pub best : System
  pub is_best : IsBest g v best
  pub from_best : IsDistanceFrom g best.clock v d

-- v is near: its distance is below 255, so that what its parent announces is qualified (IEEE 802.1AS-2020,
-- 10.3.11.2.1)
abbrev pub IsNear : Snapshot → ℕ → Type 0
IsNear g v = (d : ℕ) × IsDistance g v d × (d < 255)
