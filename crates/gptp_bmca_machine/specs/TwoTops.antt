-- A tree of systems that lost what was above it at one or two of them.
use Rattle.std.specs.Prelude.{◌≡◌, ◌⊎◌, ◌<◌, ◌≤◌, ◌+◌, ℕ, suc, min}
use Rattle.gptp_graph.specs.Snapshot.{System, PortIdentity, Snapshot, port_of, Joins, Adjacent, IsWellFormed}
use Rattle.gptp_graph.specs.Best.{IsBest}
use Rattle.gptp_graph.specs.Distance.{IsDistance}
use Rattle.gptp_graph.specs.PathBound.{BoundsPaths}
use Rattle.gptp_bmca_machine.specs.Network.{Network}
use Rattle.gptp_bmca_machine.specs.LossLaws.{IsWhatIsLeft}

-- which of its two tops; where it has one, both are the same
pub data Side : Type 0 where
  First Second : Side

-- The systems whose best is `next` are a tree. `depth` says how many links lead from either top to a system: over a
-- link one more or one less, and each system has one link to one that is less deep by one.
pub record IsTreeOfTops (n : Network) (next : System) (top : Side → ℕ) (depth : Side → ℕ → ℕ) : Type 0 where
  pub well : IsWellFormed n.graph
  pub deep : (side : Side) (v : ℕ) → IsBest n.graph v next → depth side v < n.reach
  pub first : (side : Side) → depth side (top side) ≡ 0
  pub steps : (side : Side) (v u : ℕ) → IsBest n.graph v next → Adjacent n.graph v u
      → (depth side u ≡ suc (depth side v)) ⊎ (depth side v ≡ suc (depth side u))
  pub single : (side : Side) (v p q : ℕ) (t u : PortIdentity) → IsBest n.graph v next → Joins n.graph (port_of v p) t
      → Joins n.graph (port_of v q) u → depth side v ≡ suc (depth side t.clock)
      → depth side v ≡ suc (depth side u.clock)
      → p ≡ q
  pub paths : BoundsPaths n.graph n.reach
  pub few : n.reach ≤ 255

-- Of what is left of a snapshot the systems whose best is `next` are such a tree, cut off. The best of those systems
-- was another before, with the lower identity. Each was as far from it as the nearer top leads to it, from `base` on;
-- links to others were at the tops alone. By way of either top it would be near.
pub record CutsOffTwice (g : Snapshot) (n : Network) (top : Side → ℕ) (best next : System) (base : ℕ)
    (depth : Side → ℕ → ℕ) : Type 0 where
  pub tree : IsTreeOfTops n next top depth
  pub left : IsWhatIsLeft g n
  pub worse : best.identity < next.identity
  pub was_best : (v : ℕ) → IsBest n.graph v next → IsBest g v best
  pub was : (v : ℕ) → IsBest n.graph v next → IsDistance g v (base + min (depth First v) (depth Second v))
  pub near : (side : Side) (v : ℕ) → IsBest n.graph v next → base + depth side v < 255
  pub lost : (v u : ℕ) → IsBest n.graph v next → Adjacent g v u
      → Adjacent n.graph v u ⊎ ((side : Side) × (v ≡ top side))

-- such a tree: its tops, its best, how far its tops were from the best of before, and how many links lead from either
-- top to a system
pub record TopsTree : Type 0 where
  pub top : Side → ℕ
  pub next : System
  pub base : ℕ
  pub depth : Side → ℕ → ℕ
