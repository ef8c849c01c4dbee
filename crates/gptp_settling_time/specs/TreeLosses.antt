-- Events that move a tree of systems: a link goes down, by which it is cut off from the best or turns to its one way
-- out; the best gets a worse identity; or a system fails, which moves any number of them.
use Rattle.std.specs.Prelude.{◌≡◌, ◌⊎◌, ◌<◌, ◌≤◌, ◌+◌, ℕ, suc, min, List, [], ◌∷◌, ◌++◌, Some, slice_get}
use Rattle.gptp_lists.specs.Members.{In}
use Rattle.gptp_graph.specs.Best.{IsBest}
use Rattle.gptp_graph.specs.Distance.{IsDistance}
use Rattle.gptp_graph.specs.Snapshot.{Adjacent, IsLinked, Joins, PortIdentity, Snapshot, System, clocks, port_of}
use Rattle.gptp_bmca_machine.specs.CutTree.{Tree}
use Rattle.gptp_bmca_machine.specs.FailureTrees.{Turning}
use Rattle.gptp_bmca_machine.specs.TwoTops.{First, Second, Side, TopsTree}
use Rattle.gptp_network.specs.Snapshot.{StandsAfter}
use Rattle.gptp_scenario.specs.Calm.{IsLive, IsUsed}
use Rattle.gptp_scenario.specs.Change.{link_after}
use Rattle.gptp_scenario.specs.Network.{IsEnd, NetworkState}
use Rattle.gptp_scenario.specs.SyncWait.{sync_paths}
use Rattle.gptp_scenario.specs.declared.change.Act.TheVariants.{Change as Changing}
use Rattle.gptp_scenario.specs.declared.change.Change.TheVariants.{Fail, LinkDown, Priority1}
use Rattle.gptp_scenario.specs.declared.change.Timed.{Timed}
use Rattle.gptp_scenario.specs.declared.network.LinkSpec.{LinkSpec}
use Rattle.gptp_model.specs.World.{port_id}
use Rattle.gptp_settling_time.specs.Losses.{IsUnmoved}

-- From the first snapshot to the second a tree of systems is cut off, those whose best is `next` then, and all others
-- are unmoved. Before, its systems had another best, with the lower identity. Each was as far from it as its depth
-- says, from `base` on. The one at the top lost its link to the other; each link that the others had they have still. A
-- link leads one deeper or less deep by one, and each system has one link at most to such as are less deep.
pub record IsCutTree (g g' : Snapshot) (top other : ℕ) (best next : System) (base : ℕ) (depth : ℕ → ℕ) : Type 0 where
  pub in_top : IsBest g' top next
  pub outside : IsBest g' other next → ⊥
  pub others : (v : ℕ) → In v (clocks g') → (IsBest g' v next → ⊥) → IsUnmoved g g' v
  pub worse : best.identity < next.identity
  pub was_best : (v : ℕ) → IsBest g' v next → IsBest g v best
  pub was : (v : ℕ) → IsBest g' v next → IsDistance g v (base + depth v)
  pub first : depth top ≡ 0
  pub lost : (v u : ℕ) → IsBest g' v next → Adjacent g v u → Adjacent g' v u ⊎ (v ≡ top)
  pub steps : (v u : ℕ) → IsBest g' v next → Adjacent g' v u
      → (depth u ≡ suc (depth v)) ⊎ (depth v ≡ suc (depth u))
  pub single : (v p q : ℕ) (t u : PortIdentity) → Joins g' (port_of v p) t → Joins g' (port_of v q) u
      → depth v ≡ suc (depth t.clock) → depth v ≡ suc (depth u.clock)
      → p ≡ q

-- after these events this one so cuts off a tree with this system at its top, which loses its link to the other
abbrev pub CutsTreeFrom : NetworkState → List Timed → Timed → ℕ → ℕ → Type 0
CutsTreeFrom n before event top other = (g g' : Snapshot) → StandsAfter n before g
    → StandsAfter n (before ++ event ∷ []) g'
    → (best : System) × (next : System) × (base : ℕ) × (depth : ℕ → ℕ) × IsCutTree g g' top other best next base depth

-- After these events this one takes down a link in use and so cuts off a tree, the top of which is at one of its ends.
-- The greatest delay of a link in use gets no greater, and no path longer. None had more than 255 systems.
pub record LowersTree (n : NetworkState) (before : List Timed) (event : Timed) : Type 0 where
  pub clock : ℕ
  pub port : ℕ
  pub act : event.act ≡ Changing (LinkDown clock port)
  pub used : (place : ℕ) (v : LinkSpec) → slice_get n.links place ≡ Some v
      → IsEnd (port_id clock port) (link_after before v)
      → IsUsed n.systems before (link_after before v)
  pub top : ℕ
  pub other : ℕ
  pub ends : (place : ℕ) (v : LinkSpec) → slice_get n.links place ≡ Some v
      → IsEnd (port_id clock port) (link_after before v)
      → (((link_after before v).a.clock ≡ top) × ((link_after before v).b.clock ≡ other))
      ⊎ (((link_after before v).b.clock ≡ top) × ((link_after before v).a.clock ≡ other))
  pub cuts : CutsTreeFrom n before event top other
  pub delay : (sync_paths n (before ++ event ∷ [])).delay ≤ (sync_paths n before).delay
  pub paths : (sync_paths n (before ++ event ∷ [])).systems ≤ (sync_paths n before).systems
  pub few : (sync_paths n before).systems ≤ 255

-- From the first snapshot to the second the best of a tree of systems gets a worse identity: their best is `next` then,
-- and all others are unmoved. Each was as far from the best of before, at the top, as its depth says. A link leads one
-- deeper or less deep by one, and each system has one link at most to such as are less deep.
pub record IsWorsenedTree (g g' : Snapshot) (top : ℕ) (best next : System) (depth : ℕ → ℕ) : Type 0 where
  pub in_top : IsBest g' top next
  pub others : (v : ℕ) → In v (clocks g') → (IsBest g' v next → ⊥) → IsUnmoved g g' v
  pub worse : best.identity < next.identity
  pub was_best : (v : ℕ) → IsBest g' v next → IsBest g v best
  pub was : (v : ℕ) → IsBest g' v next → IsDistance g v (depth v)
  pub first : depth top ≡ 0
  pub steps : (v u : ℕ) → IsBest g' v next → Adjacent g' v u
      → (depth u ≡ suc (depth v)) ⊎ (depth v ≡ suc (depth u))
  pub single : (v p q : ℕ) (t u : PortIdentity) → Joins g' (port_of v p) t → Joins g' (port_of v q) u
      → depth v ≡ suc (depth t.clock) → depth v ≡ suc (depth u.clock)
      → p ≡ q

-- after these events this one so worsens the best of a tree, the system with this clock
abbrev pub WorsensTreeFrom : NetworkState → List Timed → Timed → ℕ → Type 0
WorsensTreeFrom n before event top = (g g' : Snapshot) → StandsAfter n before g
    → StandsAfter n (before ++ event ∷ []) g'
    → (best : System) × (next : System) × (depth : ℕ → ℕ) × IsWorsenedTree g g' top best next depth

-- After these events this one sets the priority1 of a live system and so worsens the best of a tree. The greatest delay
-- of a link in use gets no greater, and no path longer. None had more than 255 systems.
pub record WorsensTree (n : NetworkState) (before : List Timed) (event : Timed) : Type 0 where
  pub clock : ℕ
  pub value : ℕ
  pub act : event.act ≡ Changing (Priority1 clock value)
  pub octet : value < 256
  pub live : IsLive n.systems before clock
  pub worsens : WorsensTreeFrom n before event clock
  pub delay : (sync_paths n (before ++ event ∷ [])).delay ≤ (sync_paths n before).delay
  pub paths : (sync_paths n (before ++ event ∷ [])).systems ≤ (sync_paths n before).systems
  pub few : (sync_paths n before).systems ≤ 255

-- a tree so falls back: a link is lost by which it is cut off, or its best gets worse
abbrev pub FallsTree : NetworkState → List Timed → Timed → Type 0
FallsTree n before event = LowersTree n before event ⊎ WorsensTree n before event

-- From the first snapshot to the second these systems are moved, and all others are unmoved. They have the best that
-- they had, and each is farther from it. Before, each was as far as its depth says, from `base` on. The one at the top
-- lost its link to a system that was nearer; no other link was lost. Within the tree a link leads one deeper or less
-- deep by one, and each system has one link at most to such as are less deep. One link leads out of it, from `last` to
-- `out`.
pub record IsTurnedTree (g g' : Snapshot) (tree : List ℕ) (top other last out : ℕ) (best : System) (base : ℕ)
    (depth : ℕ → ℕ) : Type 0 where
  pub in_top : In top tree
  pub lives : (v : ℕ) → In v tree → In v (clocks g')
  pub others : (v : ℕ) → In v (clocks g') → (In v tree → ⊥) → IsUnmoved g g' v
  pub was_best : (v : ℕ) → In v tree → IsBest g v best
  pub is_best : (v : ℕ) → In v tree → IsBest g' v best
  pub was : (v : ℕ) → In v tree → IsDistance g v (base + depth v)
  pub farther : (v far : ℕ) → In v tree → IsDistance g' v far → base + depth v < far
  pub first : depth top ≡ 0
  pub nearer : (far : ℕ) → IsDistance g other far → far < base
  pub lost : (v u : ℕ) → In v tree → Adjacent g v u → Adjacent g' v u ⊎ ((v ≡ top) × (u ≡ other))
  pub kept : (v u : ℕ) → (In v tree → ⊥) → (In u tree → ⊥) → Adjacent g v u → Adjacent g' v u
  pub steps : (v u : ℕ) → In v tree → In u tree → Adjacent g' v u
      → (depth u ≡ suc (depth v)) ⊎ (depth v ≡ suc (depth u))
  pub single : (v p q : ℕ) (t u : PortIdentity) → In v tree → In t.clock tree → In u.clock tree
      → Joins g' (port_of v p) t → Joins g' (port_of v q) u
      → depth v ≡ suc (depth t.clock) → depth v ≡ suc (depth u.clock)
      → p ≡ q
  pub leaves : (v u : ℕ) → In v tree → Adjacent g' v u → In u tree ⊎ ((v ≡ last) × (u ≡ out))
  pub in_last : In last tree
  pub outside : In out tree → ⊥
  pub joined : Adjacent g' last out
  pub one_way : (p q k m : ℕ) → Joins g' (port_of last p) (port_of out k) → Joins g' (port_of last q) (port_of out m)
      → p ≡ q

-- after these events this one so turns a tree with this system at its top, which loses its link to the other
abbrev pub TurnsTreeFrom : NetworkState → List Timed → Timed → ℕ → ℕ → Type 0
TurnsTreeFrom n before event top other = (g g' : Snapshot) → StandsAfter n before g
    → StandsAfter n (before ++ event ∷ []) g'
    → (tree : List ℕ) × (last : ℕ) × (out : ℕ) × (best : System) × (base : ℕ) × (depth : ℕ → ℕ)
    × IsTurnedTree g g' tree top other last out best base depth

-- After these events this one takes down a link in use and so turns a tree, the top of which is at one of its ends. The
-- greatest delay of a link in use gets no greater, and no path longer. None had more than 255 systems.
pub record TurnsTreeLink (n : NetworkState) (before : List Timed) (event : Timed) : Type 0 where
  pub clock : ℕ
  pub port : ℕ
  pub act : event.act ≡ Changing (LinkDown clock port)
  pub used : (place : ℕ) (v : LinkSpec) → slice_get n.links place ≡ Some v
      → IsEnd (port_id clock port) (link_after before v)
      → IsUsed n.systems before (link_after before v)
  pub top : ℕ
  pub other : ℕ
  pub ends : (place : ℕ) (v : LinkSpec) → slice_get n.links place ≡ Some v
      → IsEnd (port_id clock port) (link_after before v)
      → (((link_after before v).a.clock ≡ top) × ((link_after before v).b.clock ≡ other))
      ⊎ (((link_after before v).b.clock ≡ top) × ((link_after before v).a.clock ≡ other))
  pub turns : TurnsTreeFrom n before event top other
  pub delay : (sync_paths n (before ++ event ∷ [])).delay ≤ (sync_paths n before).delay
  pub paths : (sync_paths n (before ++ event ∷ [])).systems ≤ (sync_paths n before).systems
  pub few : (sync_paths n before).systems ≤ 255

-- ---- failures

-- From the first snapshot to the second a tree of systems is cut off, those whose best is that of the tree then.
-- Before, its systems had another best, with the lower identity. Each was as far from it as its depth says, from the
-- base on. The one at the top lost its links to others; each link that the others had they have still. A link leads one
-- deeper or less deep by one, and each system has one link at most to such as are less deep.
pub record IsTreeCutOff (g g' : Snapshot) (best : System) (t : Tree) : Type 0 where
  pub in_top : IsBest g' t.top t.next
  pub worse : best.identity < t.next.identity
  pub was_best : (v : ℕ) → IsBest g' v t.next → IsBest g v best
  pub was : (v : ℕ) → IsBest g' v t.next → IsDistance g v (t.base + t.depth v)
  pub first : t.depth t.top ≡ 0
  pub lost : (v u : ℕ) → IsBest g' v t.next → Adjacent g v u → Adjacent g' v u ⊎ (v ≡ t.top)
  pub steps : (v u : ℕ) → IsBest g' v t.next → Adjacent g' v u
      → (t.depth u ≡ suc (t.depth v)) ⊎ (t.depth v ≡ suc (t.depth u))
  pub single : (v p q : ℕ) (a b : PortIdentity) → Joins g' (port_of v p) a → Joins g' (port_of v q) b
      → t.depth v ≡ suc (t.depth a.clock) → t.depth v ≡ suc (t.depth b.clock)
      → p ≡ q

-- From the first snapshot to the second a tree of systems is so cut off that lost its links to others at one or two of
-- them, its tops. Each was as far from the best of before as the nearer top says, from the base on; and by way of
-- either top it would have been near. Seen from either a link leads one deeper or less deep by one, and each system has
-- one link at most to such as are less deep.
pub record IsTreeCutTwice (g g' : Snapshot) (best : System) (t : TopsTree) : Type 0 where
  pub in_top : (side : Side) → IsBest g' (t.top side) t.next
  pub worse : best.identity < t.next.identity
  pub was_best : (v : ℕ) → IsBest g' v t.next → IsBest g v best
  pub was : (v : ℕ) → IsBest g' v t.next → IsDistance g v (t.base + min (t.depth First v) (t.depth Second v))
  pub near : (side : Side) (v : ℕ) → IsBest g' v t.next → t.base + t.depth side v < 255
  pub first : (side : Side) → t.depth side (t.top side) ≡ 0
  pub lost : (v u : ℕ) → IsBest g' v t.next → Adjacent g v u → Adjacent g' v u ⊎ ((side : Side) × (v ≡ t.top side))
  pub steps : (side : Side) (v u : ℕ) → IsBest g' v t.next → Adjacent g' v u
      → (t.depth side u ≡ suc (t.depth side v)) ⊎ (t.depth side v ≡ suc (t.depth side u))
  pub single : (side : Side) (v p q : ℕ) (a b : PortIdentity) → IsBest g' v t.next → Joins g' (port_of v p) a
      → Joins g' (port_of v q) b
      → t.depth side v ≡ suc (t.depth side a.clock) → t.depth side v ≡ suc (t.depth side b.clock)
      → p ≡ q

-- From the first snapshot to the second these systems are moved. They have the best that they had, and each is farther
-- from it. Before, each was as far as its depth says, from the base on. The one at the top lost its links to others;
-- each link that the others had they have still. Within the tree a link leads one deeper or less deep by one, and each
-- system has one link at most to such as are less deep. One link leads out of it, to a system that is unmoved.
pub record IsTreeTurned (g g' : Snapshot) (best : System) (t : Turning) : Type 0 where
  pub in_top : In t.top t.tree
  pub lives : (v : ℕ) → In v t.tree → In v (clocks g')
  pub was_best : (v : ℕ) → In v t.tree → IsBest g v best
  pub is_best : (v : ℕ) → In v t.tree → IsBest g' v best
  pub was : (v : ℕ) → In v t.tree → IsDistance g v (t.base + t.depth v)
  pub farther : (v far : ℕ) → In v t.tree → IsDistance g' v far → t.base + t.depth v < far
  pub first : t.depth t.top ≡ 0
  pub lost : (v u : ℕ) → In v t.tree → Adjacent g v u → Adjacent g' v u ⊎ (v ≡ t.top)
  pub steps : (v u : ℕ) → In v t.tree → In u t.tree → Adjacent g' v u
      → (t.depth u ≡ suc (t.depth v)) ⊎ (t.depth v ≡ suc (t.depth u))
  pub single : (v p q : ℕ) (a b : PortIdentity) → In v t.tree → In a.clock t.tree → In b.clock t.tree
      → Joins g' (port_of v p) a → Joins g' (port_of v q) b
      → t.depth v ≡ suc (t.depth a.clock) → t.depth v ≡ suc (t.depth b.clock)
      → p ≡ q
  pub leaves : (v u : ℕ) → In v t.tree → Adjacent g' v u → In u t.tree ⊎ ((v ≡ t.last) × (u ≡ t.out))
  pub in_last : In t.last t.tree
  pub outside : In t.out t.tree → ⊥
  pub unmoved : IsUnmoved g g' t.out
  pub joined : Adjacent g' t.last t.out
  pub one_way : (p q k m : ℕ) → Joins g' (port_of t.last p) (port_of t.out k)
      → Joins g' (port_of t.last q) (port_of t.out m)
      → p ≡ q

-- the system is unmoved, or in a tree that is so cut off from this best, with one top or two, or in one that turns
abbrev pub IsUnmovedOrInTree : Snapshot → Snapshot → System → ℕ → Type 0
IsUnmovedOrInTree g g' best v = IsUnmoved g g' v
    ⊎ (((t : Tree) × IsTreeCutOff g g' best t × IsBest g' v t.next)
    ⊎ (((t : Turning) × IsTreeTurned g g' best t × In v t.tree)
    ⊎ ((t : TopsTree) × IsTreeCutTwice g g' best t × IsBest g' v t.next)))

-- after these events this one so moves trees that had one best, and no other system
abbrev pub MovesTreesFrom : NetworkState → List Timed → Timed → Type 0
MovesTreesFrom n before event = (g g' : Snapshot) → StandsAfter n before g
    → StandsAfter n (before ++ event ∷ []) g'
    → (best : System) × ((v : ℕ) → In v (clocks g') → IsUnmovedOrInTree g g' best v)

-- From the first snapshot to the second each live system is unmoved, or one of a tree that is cut off, maybe with two
-- tops.
-- None is unmoved that lost its link to one that was nearer to the best, or as near with the lower clock.
pub record CutsAllBeyond (g g' : Snapshot) : Type 0 where
  pub each : (v : ℕ) → In v (clocks g') → IsUnmoved g g' v
      ⊎ (((best : System) × (t : Tree) × IsTreeCutOff g g' best t × IsBest g' v t.next)
      ⊎ ((best : System) × (t : TopsTree) × IsTreeCutTwice g g' best t × IsBest g' v t.next))
  pub beyond : (from to : PortIdentity) → Joins g from to → In to.clock (clocks g') → (IsLinked g' to → ⊥)
      → ((near far : ℕ) → IsDistance g from.clock near → IsDistance g to.clock far
      → (near < far) ⊎ ((near ≡ far) × (from.clock < to.clock))) → IsUnmoved g g' to.clock → ⊥

-- so it is from after the first of these events to after the second
abbrev pub CutsAllBeyondFrom : NetworkState → List Timed → List Timed → Type 0
CutsAllBeyondFrom n before events = (g g' : Snapshot) → StandsAfter n before g → StandsAfter n events g'
    → CutsAllBeyond g g'

-- From the first snapshot to the second no live system is moved. None lost its link to one that was nearer to the best,
-- or as near with the lower clock.
pub record LosesFarther (g g' : Snapshot) : Type 0 where
  pub each : (v : ℕ) → In v (clocks g') → IsUnmoved g g' v
  pub beyond : (from to : PortIdentity) → Joins g from to → In to.clock (clocks g') → (IsLinked g' to → ⊥)
      → ((near far : ℕ) → IsDistance g from.clock near → IsDistance g to.clock far
      → (near < far) ⊎ ((near ≡ far) × (from.clock < to.clock))) → ⊥

-- so it is from after the first of these events to after the second
abbrev pub LosesFartherFrom : NetworkState → List Timed → List Timed → Type 0
LosesFartherFrom n before events = (g g' : Snapshot) → StandsAfter n before g → StandsAfter n events g'
    → LosesFarther g g'

-- In the second snapshot no system has a link. In the first each that lives in the second had one at most.
pub record LeavesAlone (g g' : Snapshot) : Type 0 where
  pub none : (from to : PortIdentity) → Joins g' from to → ⊥
  pub one : (v p q : ℕ) (t u : PortIdentity) → In v (clocks g') → Joins g (port_of v p) t → Joins g (port_of v q) u
      → p ≡ q

-- so it is from after the first of these events to after the second
abbrev pub LeavesAloneFrom : NetworkState → List Timed → List Timed → Type 0
LeavesAloneFrom n before events = (g g' : Snapshot) → StandsAfter n before g → StandsAfter n events g'
    → LeavesAlone g g'

-- After these events this one lets a live system fail, and so moves trees: they are cut off, or turn to their way out.
-- The greatest delay of a link in use gets no greater, and no path longer. None had more than 255 systems.
pub record FailsTrees (n : NetworkState) (before : List Timed) (event : Timed) : Type 0 where
  pub clock : ℕ
  pub act : event.act ≡ Changing (Fail clock)
  pub live : IsLive n.systems before clock
  pub moves : MovesTreesFrom n before event
  pub delay : (sync_paths n (before ++ event ∷ [])).delay ≤ (sync_paths n before).delay
  pub paths : (sync_paths n (before ++ event ∷ [])).systems ≤ (sync_paths n before).systems
  pub few : (sync_paths n before).systems ≤ 255
