-- A tree of systems that the loss of a link moves, with one way out: it turns to the best by that.
use Rattle.std.specs.Prelude.{◌≡◌, ◌⊎◌, ◌<◌, ◌≤◌, ◌+◌, ℕ, suc, List}
use Rattle.gptp_lists.specs.Members.{In}
use Rattle.gptp_graph.specs.Snapshot.{System, PortIdentity, Snapshot, clocks, port_of, Joins, Adjacent, IsWellFormed}
use Rattle.gptp_graph.specs.Best.{IsBest}
use Rattle.gptp_graph.specs.Distance.{IsDistance}
use Rattle.gptp_graph.specs.PathBound.{BoundsPaths}
use Rattle.gptp_bmca_machine.specs.Network.{Network}
use Rattle.gptp_bmca_machine.specs.LossLaws.{IsWhatIsLeft, Unmoved}

-- What is told since a loss has its ways in this snapshot: it has all that is left, nothing that wasn't there before,
-- each system as it was, and of links at systems of the tree those alone that are left. Where a link was lost alone it
-- is what is left. Where a system failed it has that too, with its links to systems that aren't of the tree: what it
-- told last is told on.
pub record HasWays (g : Snapshot) (n : Network) (tree : List ℕ) (ways : Snapshot) : Type 0 where
  pub well : IsWellFormed ways
  pub left : IsWhatIsLeft ways n
  pub were : IsWhatIsLeft g (record n { graph = ways })
  pub stands : (s : System) → In s n.graph.systems → In s ways.systems
  pub stood : (s : System) → In s ways.systems → In s g.systems
  pub at_tree : (v i : ℕ) (q : PortIdentity) → In v tree → Joins ways (port_of v i) q → Joins n.graph (port_of v i) q
  pub reach : ℕ
  pub paths : BoundsPaths ways reach
  pub few : reach ≤ 256

-- Of what is left of a snapshot these systems are moved. Their best is the same, and each is farther from it. Before,
-- each was as far as the depth says, from `base` on. The one at the top lost its links to another; none of them lost
-- another link. Within the tree a link leads one deeper or less deep by one, and each system has one link to one
-- that is less deep. One link leads out of it, from `last` to `out`, which is unmoved.
pub record TurnsTree (g : Snapshot) (n : Network) (tree : List ℕ) (top other last out : ℕ) (best : System) (base : ℕ)
    (depth : ℕ → ℕ) : Type 0 where
  pub well : IsWellFormed n.graph
  pub left : IsWhatIsLeft g n
  pub lives : (v : ℕ) → In v tree → In v (clocks n.graph)
  pub was_best : (v : ℕ) → In v tree → IsBest g v best
  pub is_best : (v : ℕ) → In v tree → IsBest n.graph v best
  pub was : (v : ℕ) → In v tree → IsDistance g v (base + depth v)
  pub farther : (v far : ℕ) → In v tree → IsDistance n.graph v far → base + depth v < far
  pub first : depth top ≡ 0
  pub lost : (v u : ℕ) → In v tree → Adjacent g v u → Adjacent n.graph v u ⊎ ((v ≡ top) × (u ≡ other))
  pub ways : Snapshot
  pub told : HasWays g n tree ways
  pub kept : (v u : ℕ) → (In v tree → ⊥) → (In u tree → ⊥) → Adjacent g v u → Adjacent ways v u
  pub steps : (v u : ℕ) → In v tree → In u tree → Adjacent n.graph v u
      → (depth u ≡ suc (depth v)) ⊎ (depth v ≡ suc (depth u))
  pub single : (v p q : ℕ) (t u : PortIdentity) → In v tree → In t.clock tree → In u.clock tree
      → Joins n.graph (port_of v p) t → Joins n.graph (port_of v q) u
      → depth v ≡ suc (depth t.clock) → depth v ≡ suc (depth u.clock)
      → p ≡ q
  pub leaves : (v u : ℕ) → In v tree → Adjacent n.graph v u → In u tree ⊎ ((v ≡ last) × (u ≡ out))
  pub in_last : In last tree
  pub outside : In out tree → ⊥
  pub unmoved : Unmoved g n out
  pub joined : Adjacent n.graph last out
  pub one_way : (p q k m : ℕ) → Joins n.graph (port_of last p) (port_of out k)
      → Joins n.graph (port_of last q) (port_of out m)
      → p ≡ q
  pub way_stood : (p k : ℕ) → Joins g (port_of last p) (port_of out k) → Joins n.graph (port_of last p) (port_of out k)
  pub paths : BoundsPaths n.graph n.reach
  pub few : n.reach ≤ 255
