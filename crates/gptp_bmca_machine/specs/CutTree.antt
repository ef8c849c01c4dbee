-- A tree of systems that the loss of a link cuts off from the best of before.
use Rattle.std.specs.Prelude.{◌≡◌, ◌⊎◌, ◌<◌, ◌≤◌, ◌+◌, ℕ, suc}
use Rattle.gptp_lists.specs.Members.{In}
use Rattle.gptp_graph.specs.Snapshot.{System, PortIdentity, Snapshot, clocks, port_of, Joins, Adjacent, IsWellFormed}
use Rattle.gptp_graph.specs.Best.{IsBest}
use Rattle.gptp_graph.specs.Distance.{IsDistance}
use Rattle.gptp_graph.specs.PathBound.{BoundsPaths}
use Rattle.gptp_bmca_machine.specs.Network.{Network}
use Rattle.gptp_bmca_machine.specs.LossLaws.{IsWhatIsLeft, Unmoved}

-- Of what is left of a snapshot the systems whose best is `next` are cut off, a tree, and all others are unmoved. The
-- best of those systems was another before, with the lower identity. Each was as far from it as the depth says, from
-- `base` on: the one at the top had its link to a nearer system, or was the best and got a worse identity. Each other
-- has one link to one that was nearer by one. No link leads to a system that was as far.
pub record CutsTree (g : Snapshot) (n : Network) (top : ℕ) (best next : System) (base : ℕ) (depth : ℕ → ℕ)
    : Type 0 where
  pub well : IsWellFormed n.graph
  pub left : IsWhatIsLeft g n
  pub stand : (s : System) → In s n.graph.systems → In s g.systems ⊎ (s.clock ≡ top)
  pub others : (v : ℕ) → In v (clocks n.graph) → (IsBest n.graph v next → ⊥) → Unmoved g n v
  pub worse : best.identity < next.identity
  pub was_best : (v : ℕ) → IsBest n.graph v next → IsBest g v best
  pub was : (v : ℕ) → IsBest n.graph v next → IsDistance g v (base + depth v)
  pub near : (v : ℕ) → IsBest n.graph v next → base + depth v < 255
  pub deep : (v : ℕ) → IsBest n.graph v next → depth v < n.reach
  pub first : depth top ≡ 0
  pub lost : (v u : ℕ) → IsBest n.graph v next → Adjacent g v u → Adjacent n.graph v u ⊎ (v ≡ top)
  pub steps : (v u : ℕ) → IsBest n.graph v next → Adjacent n.graph v u
      → (depth u ≡ suc (depth v)) ⊎ (depth v ≡ suc (depth u))
  pub single : (v p q : ℕ) (t u : PortIdentity) → Joins n.graph (port_of v p) t → Joins n.graph (port_of v q) u
      → depth v ≡ suc (depth t.clock) → depth v ≡ suc (depth u.clock)
      → p ≡ q
  pub paths : BoundsPaths n.graph n.reach
  pub few : n.reach ≤ 255

-- Of what is left of a snapshot the systems whose best is `next` are such a tree, whatever becomes of others.
pub record CutsOff (g : Snapshot) (n : Network) (top : ℕ) (best next : System) (base : ℕ) (depth : ℕ → ℕ)
    : Type 0 where
  pub well : IsWellFormed n.graph
  pub left : IsWhatIsLeft g n
  pub stand : (s : System) → In s n.graph.systems → In s g.systems ⊎ (s.clock ≡ top)
  pub worse : best.identity < next.identity
  pub was_best : (v : ℕ) → IsBest n.graph v next → IsBest g v best
  pub was : (v : ℕ) → IsBest n.graph v next → IsDistance g v (base + depth v)
  pub near : (v : ℕ) → IsBest n.graph v next → base + depth v < 255
  pub deep : (v : ℕ) → IsBest n.graph v next → depth v < n.reach
  pub first : depth top ≡ 0
  pub lost : (v u : ℕ) → IsBest n.graph v next → Adjacent g v u → Adjacent n.graph v u ⊎ (v ≡ top)
  pub steps : (v u : ℕ) → IsBest n.graph v next → Adjacent n.graph v u
      → (depth u ≡ suc (depth v)) ⊎ (depth v ≡ suc (depth u))
  pub single : (v p q : ℕ) (t u : PortIdentity) → Joins n.graph (port_of v p) t → Joins n.graph (port_of v q) u
      → depth v ≡ suc (depth t.clock) → depth v ≡ suc (depth u.clock)
      → p ≡ q
  pub paths : BoundsPaths n.graph n.reach
  pub few : n.reach ≤ 255

-- such a tree: its top, its best, how far its top was from the best of before, and how much farther each system was
pub record Tree : Type 0 where
  pub top : ℕ
  pub next : System
  pub base : ℕ
  pub depth : ℕ → ℕ

-- The snapshot loses one system, and no link between two others. The others stand as they did.
pub record LosesSystem (g : Snapshot) (n : Network) (lost : ℕ) : Type 0 where
  pub dead : In lost (clocks n.graph) → ⊥
  pub systems : (s : System) → In s n.graph.systems → In s g.systems
  pub others : (v : ℕ) → In v (clocks g) → In v (clocks n.graph) ⊎ (v ≡ lost)
  pub links : (p q : PortIdentity) → Joins g p q → In p.clock (clocks n.graph) → In q.clock (clocks n.graph)
      → Joins n.graph p q
