-- Which systems an event of a document moves between its snapshots, it moves between worlds that stand as planned.
use Rattle.std.proofs.Common.{◌≡◌, ◌⊎◌, inl, inr, ◌≤◌, ◌+◌, ℕ, List, [], ◌∷◌, ◌++◌, ap, subst, min, arith}
use Rattle.gptp_lists.specs.Members.{In}
use Rattle.gptp_graph.specs.Best.{IsBest}
use Rattle.gptp_graph.specs.PathBound.{path_bound}
use Rattle.gptp_graph.specs.Snapshot.{Link, Snapshot, clocks, port_of, Adjacent, Joins, PortIdentity, System}
use Rattle.gptp_graph.proofs.ExistenceLemmas.{distance_exists}
use Rattle.gptp_graph.proofs.PathBoundLemmas.{IsDistance-within, paths_within}
use Rattle.gptp_scenario.specs.SyncWait.{sync_paths}
use Rattle.gptp_scenario.specs.declared.change.Timed.{Timed}
use Rattle.gptp_scenario.specs.declared.sync_wait.SyncPaths.{SyncPaths}
use Rattle.gptp_model.specs.World.{WorldState}
use Rattle.gptp_network.specs.Document.{DocumentState}
use Rattle.gptp_network.specs.Snapshot.{StandsAfter}
use Rattle.gptp_network.proofs.ExistenceLemmas.{stands_after}
use Rattle.gptp_bmca_machine.specs.CutTree.{Tree}
use Rattle.gptp_bmca_machine.specs.SoundLaws.{AllAreNear}
use Rattle.gptp_bmca_machine.specs.TwoTops.{First, Second, TopsTree}
use Rattle.gptp_invariants.specs.WorldStanding.{snapshot_of}
use Rattle.gptp_invariants.proofs.WorldStandsLemmas.{stands_well}
use Rattle.gptp_theorem.specs.PlayedLaws.{IsPlayable}
use Rattle.gptp_theorem.specs.AlikeLaws.{AreAlike}
use Rattle.gptp_theorem.proofs.AlikeLemmas.{clock_among, turned, best as alike_best, distance as alike_distance}
use Rattle.gptp_theorem.proofs.SnapshotLemmas.{snapshots_stand}
use Rattle.gptp_theorem.proofs.SyncPathLemmas.{paths_stand}
use Rattle.gptp_settling_time.specs.Losses.{IsCutOff, IsFarEnd, IsTurned, IsUnmoved, IsUnmovedOrCutOff, MovesNone, MovesNoneJoined, TurnsSystem}
use Rattle.gptp_settling_time.specs.TreeLosses.{CutsAllBeyond, IsTreeCutOff, IsTreeCutTwice, LeavesAlone, LosesFarther}
use Rattle.gptp_settling_time.proofs.KeptToLemmas.{KeepsTo}

-- a system is unmoved between two snapshots that is so between others of the same systems and links
pub unmoved_alike : (g h g' h' : Snapshot) → AreAlike g h → AreAlike g' h' → (v : ℕ) → IsUnmoved h h' v
    → IsUnmoved g g' v
unmoved_alike g h g' h' before now v unmoved =
    let back = turned g' h' now in
    record {
      best = λ b was. alike_best h' g' back v b (unmoved.best b (alike_best g h before v b was));
      far = λ far was. alike_distance h' g' back v far (unmoved.far far (alike_distance g h before v far was));
    }

-- so are links
pub joins_alike : (g h : Snapshot) → AreAlike g h → (p q : PortIdentity) → Joins g p q → Joins h p q
joins_alike g h alike_is p q =
    subst (λ (ls : List Link). In (record { a = p; b = q }) ls ⊎ In (record { a = q; b = p }) ls) alike_is.links

pub adjacent_alike : (g h : Snapshot) → AreAlike g h → (v u : ℕ) → Adjacent g v u → Adjacent h v u
adjacent_alike g h alike_is v u (m, q, joins) =
    (m, q, joins_alike g h alike_is (port_of v m) (port_of u q) joins)

-- a tree is so cut off between two snapshots where it is between others of the same systems and links
pub cut_off_alike : (g h g' h' : Snapshot) → AreAlike g h → AreAlike g' h' → (best : System) (t : Tree)
    → IsTreeCutOff h h' best t → IsTreeCutOff g g' best t
cut_off_alike g h g' h' before now best t cut = record {
  in_top = alike_best h' g' (turned g' h' now) t.top t.next cut.in_top;
  worse = cut.worse;
  was_best = λ v in_v. alike_best h g back v best (cut.was_best v (to_h v in_v));
  was = λ v in_v. alike_distance h g back v (t.base + t.depth v) (cut.was v (to_h v in_v));
  first = cut.first;
  lost = λ v u in_v joined. elim (cut.lost v u (to_h v in_v) (adjacent_alike g h before v u joined)) [
    | inl left ↦ inl (adjacent_alike h' g' (turned g' h' now) v u left)
    | inr is_top ↦ inr is_top
  ];
  steps = λ v u in_v joined. cut.steps v u (to_h v in_v) (adjacent_alike g' h' now v u joined);
  single = λ v p q a b one two.
      cut.single v p q a b (joins_alike g' h' now (port_of v p) a one) (joins_alike g' h' now (port_of v q) b two);
}
  where
    back : AreAlike h g
    back = turned g h before

    to_h : (v : ℕ) → IsBest g' v t.next → IsBest h' v t.next
    to_h v is = alike_best g' h' now v t.next is

-- so it is that no system is moved, and none lost its link to a nearer one
pub farther_alike : (g h g' h' : Snapshot) → AreAlike g h → AreAlike g' h' → LosesFarther h h' → LosesFarther g g'
farther_alike g h g' h' before now loses = record {
  each = λ v known. unmoved_alike g h g' h' before now v (loses.each v (clock_among g' h' now v known));
  beyond = λ from to joins known bare nearer.
      loses.beyond from to (joins_alike g h before from to joins) (clock_among g' h' now to.clock known)
      (λ (u, link). bare (u, joins_alike h' g' (turned g' h' now) to u link))
      (λ near far from_near to_far.
      nearer near far (alike_distance h g (turned g h before) from.clock near from_near)
      (alike_distance h g (turned g h before) to.clock far to_far));
}

-- a tree with two tops is so cut off between two snapshots where it is between others of the same systems and links
pub twice_alike : (g h g' h' : Snapshot) → AreAlike g h → AreAlike g' h' → (best : System) (t : TopsTree)
    → IsTreeCutTwice h h' best t → IsTreeCutTwice g g' best t
twice_alike g h g' h' before now best t cut = record {
  in_top = λ side. alike_best h' g' (turned g' h' now) (t.top side) t.next (cut.in_top side);
  worse = cut.worse;
  was_best = λ v in_v. alike_best h g back v best (cut.was_best v (to_h v in_v));
  was = λ v in_v.
      alike_distance h g back v (t.base + min (t.depth First v) (t.depth Second v)) (cut.was v (to_h v in_v));
  near = λ side v in_v. cut.near side v (to_h v in_v);
  first = cut.first;
  lost = λ v u in_v joined. elim (cut.lost v u (to_h v in_v) (adjacent_alike g h before v u joined)) [
    | inl left ↦ inl (adjacent_alike h' g' (turned g' h' now) v u left)
    | inr is_top ↦ inr is_top
  ];
  steps = λ side v u in_v joined. cut.steps side v u (to_h v in_v) (adjacent_alike g' h' now v u joined);
  single = λ side v p q a b in_v one two.
      cut.single side v p q a b (to_h v in_v) (joins_alike g' h' now (port_of v p) a one)
      (joins_alike g' h' now (port_of v q) b two);
}
  where
    back : AreAlike h g
    back = turned g h before

    to_h : (v : ℕ) → IsBest g' v t.next → IsBest h' v t.next
    to_h v is = alike_best g' h' now v t.next is

-- and so is all beyond a failed system
pub beyond_alike : (g h g' h' : Snapshot) → AreAlike g h → AreAlike g' h' → CutsAllBeyond h h' → CutsAllBeyond g g'
beyond_alike g h g' h' before now cuts = record {
  each = λ v known. elim (cuts.each v (clock_among g' h' now v known)) [
    | inl unmoved ↦ inl (unmoved_alike g h g' h' before now v unmoved)
    | inr (inl (best, t, is, in_v)) ↦ inr (inl (
      best,
      t,
      cut_off_alike g h g' h' before now best t is,
      alike_best h' g' back v t.next in_v,
    ))
    | inr (inr (best, t, is, in_v)) ↦ inr (inr (
      best,
      t,
      twice_alike g h g' h' before now best t is,
      alike_best h' g' back v t.next in_v,
    ))
  ];
  beyond = λ from to joins known bare nearer stays.
      cuts.beyond from to (joins_alike g h before from to joins) (clock_among g' h' now to.clock known)
      (λ (u, link). bare (u, joins_alike h' g' back to u link))
      (λ near far from_near to_far.
      nearer near far (alike_distance h g (turned g h before) from.clock near from_near)
      (alike_distance h g (turned g h before) to.clock far to_far))
      (unmoved_alike h g h' g' (turned g h before) back to.clock stays);
}
  where
    back : AreAlike h' g'
    back = turned g' h' now

-- and where each live system is left alone
pub leaves_alike : (g h g' h' : Snapshot) → AreAlike g h → AreAlike g' h' → LeavesAlone h h' → LeavesAlone g g'
leaves_alike g h g' h' before now leaves = record {
  none = λ from to joins. leaves.none from to (joins_alike g' h' now from to joins);
  one = λ v p q t u known first second.
      leaves.one v p q t u (clock_among g' h' now v known) (joins_alike g h before (port_of v p) t first)
      (joins_alike g h before (port_of v q) u second);
}

far_alike : (g h : Snapshot) → AreAlike g h → (v : ℕ) → IsFarEnd h v → IsFarEnd g v
far_alike g h alike_is v is_far u far near joined away close =
    is_far u far near (adjacent_alike g h alike_is v u joined) (alike_distance g h alike_is v far away)
    (alike_distance g h alike_is u near close)

-- and a system that is moved
turned_alike : (g h g' h' : Snapshot) → AreAlike g h → AreAlike g' h' → (x d e : ℕ) (best : System)
    → IsTurned h h' x d e best → IsTurned g g' x d e best
turned_alike g h g' h' before now x d e best t = record {
  others = λ v known apart. unmoved_alike g h g' h' before now v (t.others v (clock_among g' h' now v known) apart);
  was_best = alike_best h g (turned g h before) x best t.was_best;
  is_best = alike_best h' g' (turned g' h' now) x best t.is_best;
  was = alike_distance h g (turned g h before) x d t.was;
  is = alike_distance h' g' (turned g' h' now) x e t.is;
  more = t.more;
  lost = λ u far joined there.
      elim (t.lost u far (adjacent_alike g h before x u joined) (alike_distance g h before u far there)) [
        | inl still ↦ inl (adjacent_alike h' g' (turned g' h' now) x u still)
        | inr nearer ↦ inr nearer
      ];
  far = far_alike g' h' now x t.far;
  single = λ p q p' q' y one other.
      t.single p q p' q' y (joins_alike g' h' now (port_of x p) (port_of y q) one)
      (joins_alike g' h' now (port_of x p') (port_of y q') other);
  tells = elim t.tells [
    | inl next ↦ inl next
    | inr fars ↦ inr (λ y joined. far_alike g h before y (fars y (adjacent_alike g' h' now x y joined)))
  ];
}

-- a world of a document has the systems and links that its events leave
module _ (d : DocumentState) (playable : IsPlayable d) (events : List Timed) (w : WorldState)
    (keeps : KeepsTo d events w) where
  pub alike_so : (g : Snapshot) → StandsAfter d.network events g → AreAlike (snapshot_of w) g
  alike_so g stands =
      let (systems, links) = snapshots_stand d.network events w g keeps.stands keeps.claim.world.sound stands in
      record { systems = systems; links = links }

  pub near_so : (sync_paths d.network events).systems ≤ 255 → AllAreNear (snapshot_of w)
  near_so few v known =
      let world = keeps.claim.world in
      let wf = stands_well w world.sound world.between world.encodable in
      let (far, there) = distance_exists (snapshot_of w) v wf known in
      let less = IsDistance-within (snapshot_of w) (path_bound (snapshot_of w)) v far (paths_within (snapshot_of w) wf)
      there in
      let systems : (sync_paths d.network events).systems ≡ path_bound (snapshot_of w) =
      ap (λ (x : SyncPaths). x.systems) (paths_stand d.network events w playable.network keeps.stands world.sound) in
      (far, there, omega (arith, few, less, systems))

  -- what is the far end of its links then is so in it
  pub far_end_so : (number : ℕ) → ((g : Snapshot) → StandsAfter d.network events g → IsFarEnd g number)
      → IsFarEnd (snapshot_of w) number
  far_end_so number is_far =
      let (g, stands) = stands_after d.network events playable.network in
      far_alike (snapshot_of w) g (alike_so g stands) number (is_far g stands)

  -- so is what is cut off
  pub cut_off_so : (number : ℕ) → ((g : Snapshot) → StandsAfter d.network events g → IsCutOff g number)
      → IsCutOff (snapshot_of w) number
  cut_off_so number is_cut u joined =
      let (g, stands) = stands_after d.network events playable.network in
      is_cut g stands u (adjacent_alike (snapshot_of w) g (alike_so g stands) number u joined)

-- so it is of two worlds, before an event and after it
module _ (d : DocumentState) (playable : IsPlayable d) (made : List Timed) (event : Timed) (then w' : WorldState)
    (keeps : KeepsTo d made then) (after : KeepsTo d (made ++ event ∷ []) w') where
  pub stays_unmoved : MovesNone d.network made event → (v : ℕ) → In v (clocks (snapshot_of w'))
      → IsUnmoved (snapshot_of then) (snapshot_of w') v
  stays_unmoved none v known =
      let (g, stands) = stands_after d.network made playable.network in
      let (g', stands') = stands_after d.network (made ++ event ∷ []) playable.network in
      let now = alike_so d playable (made ++ event ∷ []) w' after g' stands' in
      unmoved_alike (snapshot_of then) g (snapshot_of w') g' (alike_so d playable made then keeps g stands) now v
      (none g g' v stands stands' (clock_among (snapshot_of w') g' now v known))

  -- it is unmoved or cut off
  pub stays_joined : MovesNoneJoined d.network made event → (v : ℕ) → In v (clocks (snapshot_of w'))
      → IsUnmovedOrCutOff (snapshot_of then) (snapshot_of w') v
  stays_joined none v known =
      let (g, stands) = stands_after d.network made playable.network in
      let (g', stands') = stands_after d.network (made ++ event ∷ []) playable.network in
      let now = alike_so d playable (made ++ event ∷ []) w' after g' stands' in
      elim (none g g' v stands stands' (clock_among (snapshot_of w') g' now v known)) [
        | inl unmoved ↦ inl (unmoved_alike (snapshot_of then) g (snapshot_of w') g'
            (alike_so d playable made then keeps g stands) now v unmoved)
        | inr cut ↦ inr (λ u joined. cut u (adjacent_alike (snapshot_of w') g' now v u joined))
      ]

  -- it turns alone
  pub turns_so : (x : ℕ) → TurnsSystem d.network made event x
      → (was : ℕ) × (far : ℕ) × (best : System) × IsTurned (snapshot_of then) (snapshot_of w') x was far best
  turns_so x turns =
      let (g, stands) = stands_after d.network made playable.network in
      let (g', stands') = stands_after d.network (made ++ event ∷ []) playable.network in
      let (was, far, best, is) = turns g g' stands stands' in (
        was,
        far,
        best,
        turned_alike (snapshot_of then) g (snapshot_of w') g' (alike_so d playable made then keeps g stands)
            (alike_so d playable (made ++ event ∷ []) w' after g' stands') x was far best is,
      )
