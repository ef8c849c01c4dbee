-- Trees that the failure of a system moved settle, each from its best on, or from its way out; then each near system
-- has settled.
use Rattle.std.proofs.Common.{◌≡◌, ◌⊎◌, ◌<◌, ◌≤◌, ◌+◌, ℕ, suc, true, Some, slice_get, inl, inr, arith}
use Rattle.gptp_lists.specs.Members.{In}
use Rattle.gptp_graph.specs.Best.{IsBest}
use Rattle.gptp_graph.specs.Distance.{IsDistance}
use Rattle.gptp_graph.specs.Snapshot.{Joins, Snapshot, System, clocks, port_of}
use Rattle.gptp_graph.proofs.BestLemmas.{IsBest-neighbour}
use Rattle.gptp_graph.proofs.ExistenceLemmas.{distance_exists}
use Rattle.gptp_graph.proofs.PathBoundLemmas.{IsDistance-within}
use Rattle.gptp_graph.proofs.SystemLemmas.{In-clocks}
use Rattle.gptp_bmca_machine.specs.Acts.{MachineSteps}
use Rattle.gptp_bmca_machine.specs.CutTree.{Tree}
use Rattle.gptp_bmca_machine.specs.Facts.{station_system}
use Rattle.gptp_bmca_machine.specs.FailureTrees.{FailureMoves, Turning}
use Rattle.gptp_bmca_machine.specs.Frame.{Spelling}
use Rattle.gptp_bmca_machine.specs.LossLaws.{IsAfterLoss, Unmoved}
use Rattle.gptp_bmca_machine.specs.Network.{Network}
use Rattle.gptp_bmca_machine.specs.Run.{NearHaveSettled}
use Rattle.gptp_bmca_machine.specs.Station.{HoldsAt, MachineState, Reception, Station}
use Rattle.gptp_bmca_machine.specs.TwoTops.{TopsTree}
use Rattle.gptp_bmca_machine.proofs.CutTreeLemmas.{IsCutOff, LeadsNowhere, moves_off}
use Rattle.gptp_bmca_machine.proofs.FailureTreesLemmas.{FallBack, turns_back}
use Rattle.gptp_bmca_machine.proofs.UnlinkedLemmas.{UnlinkedDrop}
use Rattle.gptp_bmca_machine.proofs.FallLemmas.{falls_by, is_moved}
use Rattle.gptp_bmca_machine.proofs.MovedEndLemmas.{tree_follows}
use Rattle.gptp_bmca_machine.proofs.MovedLevelLemmas.{LevelSettles, Times as MovedTimes, ToldIn, levels_on}
use Rattle.gptp_bmca_machine.proofs.RestLemmas.{IsClear}
use Rattle.gptp_bmca_machine.proofs.StaleLevelLemmas.{FallsFromTops, falls_follows}
use Rattle.gptp_bmca_machine.proofs.StillEndLemmas.{Follows, has_settled, still_follows}
use Rattle.gptp_bmca_machine.proofs.TopsAfterLemmas.{bare_drop, bare_none, bare_stale, tops_moved}
use Rattle.gptp_bmca_machine.proofs.TurnEndLemmas.{beyond_tree, holds_none_of, turned_follows}
use Rattle.gptp_bmca_machine.proofs.TurnLevelLemmas.{Times, TurnSettles, settles_on}
use Rattle.gptp_bmca_machine.proofs.TurnTreeLemmas.{IsOf, LeadsOut, turns_moves}
use Rattle.gptp_bmca_machine.proofs.TwoTopsFallLemmas.{falls_from_tops_on}

-- the times of trees with two tops
pub record TopsTimes (n : Network) (start over : ℕ) (before : ℕ → ℕ) : Type 0 where
  pub begun : start ≤ over
  pub reached : (d : ℕ) → suc (suc d) ≤ n.reach → falls_by n start (suc d) ≤ over
  pub soon : (e : ℕ) → over + n.most < before e
  pub grows : (e : ℕ) → before e + n.most ≤ before (suc e)

module _ (says : Spelling) (g : Snapshot) (n : Network) (lost : ℕ) (best : System) (IsCut : Tree → Type 0)
    (IsTurned : Turning → Type 0) (IsTwice : TopsTree → Type 0)
    (moves : FailureMoves g n lost best IsCut IsTurned IsTwice) (start over : ℕ) (before : ℕ → ℕ)
    (cut_times : (t : Tree) → (is : IsCut t) → MovedTimes says g n (IsCutOff n t.next) LeadsNowhere t.top best t.next
    t.base t.depth
    (moves_off g n t.top best t.next t.base t.depth (moves.cut t is)) moves.paths moves.few start over before)
    (turned_times : (t : Turning) → (is : IsTurned t) → Times says g n t.tree t.top lost t.last t.out best t.base
    t.depth (moves.turned t is)
    start over before) (tops_times : TopsTimes n start over before) where
  -- what is known of a tree with two tops
  abbrev pub TwiceFalls : (t : TopsTree) → IsTwice t → MachineState → Type 0
  TwiceFalls t is =
      FallsFromTops says n t.next t.top t.depth (moves.twice t is).tree best.identity t.base (moves.twice t is).worse
      (moves.twice t is).near start over (before 0) tops_times.begun (tops_times.soon 0) tops_times.reached before
      tops_times.soon tops_times.grows

  -- what is known of the links of each tree
  pub record FailureSettles (w : MachineState) : Type 0 where
    pub cut : (t : Tree) → (is : IsCut t) → (f : ℕ) → LevelSettles says g n (IsCutOff n t.next) LeadsNowhere t.top
        best t.next t.base t.depth
        (moves_off g n t.top best t.next t.base t.depth (moves.cut t is)) moves.paths moves.few start over before
        (cut_times t is) f w
    pub turned : (t : Turning) → (is : IsTurned t) → TurnSettles says g n t.tree t.top lost t.last t.out best t.base
        t.depth (moves.turned t is)
        start over before (turned_times t is) w
    pub twice : (t : TopsTree) → (is : IsTwice t) → TwiceFalls t is w

  abbrev Back : MachineState → Type 0
  Back = FallBack says g n lost best IsCut IsTurned IsTwice moves start

  -- no way leads into a tree that is cut off
  told_none : (w : MachineState) (t : Tree) → (is : IsCut t)
      → ToldIn says g n (IsCutOff n t.next) LeadsNowhere t.top best t.next t.base t.depth
      (moves_off g n t.top best t.next t.base t.depth (moves.cut t is)) moves.paths moves.few start over before
      (cut_times t is) w
  told_none w t is v x q p e in_v none = absurd none

  -- every step keeps it
  pub settle_on : (w w' : MachineState) → Back w → Back w' → MachineSteps says w w' → UnlinkedDrop g n w w'
      → FailureSettles w → FailureSettles w'
  settle_on w w' back back' step drops settles = record {
    cut = λ t is.
        levels_on says g n (IsCutOff n t.next) LeadsNowhere t.top best t.next t.base t.depth
        (moves_off g n t.top best t.next t.base t.depth (moves.cut t is)) moves.paths moves.few start over before
        (cut_times t is) w w' back.after back'.after (back.cut t is)
        (back'.cut t is) step drops (told_none w t is) (told_none w' t is) (settles.cut t is);
    turned = λ t is.
        settles_on says g n t.tree t.top lost t.last t.out best t.base t.depth (moves.turned t is)
        start over before (turned_times t is) w w'
        (turns_back says g n lost best IsCut IsTurned IsTwice moves start w back t is)
        (turns_back says g n lost best IsCut IsTurned IsTwice moves start w' back' t is) step
        drops (settles.turned t is);
    twice = λ t is.
        falls_from_tops_on says n t.next t.top t.depth (moves.twice t is).tree best.identity t.base
        (moves.twice t is).worse (moves.twice t is).near start over (before 0) tops_times.begun (tops_times.soon 0)
        tops_times.reached before tops_times.soon tops_times.grows w w' (settles.twice t is) back'.after.kept
        (bare_stale says g n t.top best t.next t.base t.depth (moves.twice t is) w' back'.after)
        (bare_none says g n t.top best t.next t.base t.depth (moves.twice t is) start w' back'.after.kept back'.none)
        (bare_drop says g n t.top best t.next t.base t.depth (moves.twice t is) w w' back'.after.kept drops) step;
  }

  -- ---- in the end

  module _ (w : MachineState) (back : Back w) (settles : FailureSettles w)
      (late : (e : ℕ) → suc (suc e) ≤ n.reach → before e ≤ w.time) (past : over < w.time) where
    -- one of a tree
    abbrev Moved : ℕ → Type 0
    Moved v = ((t : Tree) × IsCut t × IsBest n.graph v t.next)
        ⊎ (((t : Turning) × IsTurned t × In v t.tree) ⊎ ((t : TopsTree) × IsTwice t × IsBest n.graph v t.next))

    none_moved : (c : ℕ) → Unmoved g n c → Moved c → ⊥
    none_moved c u (inl (t, is, in_c)) =
        is_moved says g n (IsCutOff n t.next) LeadsNowhere t.top best t.next t.base t.depth
        (moves_off g n t.top best t.next t.base t.depth (moves.cut t is)) start c in_c u
    none_moved c u (inr (inr (t, is, in_c))) =
        tops_moved says g n t.top best t.next t.base t.depth (moves.twice t is) c in_c u
    none_moved c u (inr (inl (t, is, in_c))) =
        is_moved says g n (IsOf t.tree) (LeadsOut t.last t.out) t.top best best t.base t.depth
        (turns_moves g n t.tree t.top lost t.last t.out best t.base t.depth (moves.turned t is)) start c in_c u

    -- a link leads from none that is cut off to an unmoved one
    cut_apart : (t : Tree) → IsCut t → (v c i k : ℕ) → IsBest n.graph v t.next → Unmoved g n c
        → Joins n.graph (port_of v i) (port_of c k) → ⊥
    cut_apart t is v c i k in_v u joins =
        none_moved c u (inl (t, is, IsBest-neighbour n.graph v c t.next moves.well (i, k, joins) in_v))

    twice_apart : (t : TopsTree) → IsTwice t → (v c i k : ℕ) → IsBest n.graph v t.next → Unmoved g n c
        → Joins n.graph (port_of v i) (port_of c k) → ⊥
    twice_apart t is v c i k in_v u joins =
        none_moved c u (inr (inr (t, is, IsBest-neighbour n.graph v c t.next moves.well (i, k, joins) in_v)))

    beyond : (v c i k : ℕ) → Moved v → Unmoved g n c → Joins n.graph (port_of v i) (port_of c k) → (e d : ℕ)
        → IsDistance n.graph v e → IsDistance n.graph c d → d < e
    beyond v c i k (inl (t, is, in_v)) u joins e d here there = absurd (cut_apart t is v c i k in_v u joins)
    beyond v c i k (inr (inr (t, is, in_v))) u joins e d here there = absurd (twice_apart t is v c i k in_v u joins)
    beyond v c i k (inr (inl (t, is, in_v))) u joins e d here there =
        beyond_tree says g n t.tree t.top lost t.last t.out best t.base t.depth (moves.turned t is)
        start over before (turned_times t is) w (turns_back says g n lost best IsCut IsTurned
        IsTwice moves start w back t is)
        (settles.turned t is) late v c i k in_v (λ in_c. none_moved c u (inr (inl (t, is, in_c)))) joins e d here there

    holds_none : (v i c place : ℕ) → Moved v → Unmoved g n c → Joins n.graph (port_of v i) (port_of c (suc place))
        → (s : Station) (r : Reception) → slice_get w.stations (n.place c) ≡ Some s → HoldsAt s place r → ⊥
    holds_none v i c place (inl (t, is, in_v)) u joins s r at holds = cut_apart t is v c i (suc place) in_v u joins
    holds_none v i c place (inr (inr (t, is, in_v))) u joins s r at holds =
        twice_apart t is v c i (suc place) in_v u joins
    holds_none v i c place (inr (inl (t, is, in_v))) u joins s r at holds =
        holds_none_of says g n t.tree t.top lost t.last t.out best t.base t.depth (moves.turned t is)
        start over before (turned_times t is) w (turns_back says g n lost best IsCut IsTurned
        IsTwice moves start w back t is)
        (settles.turned t is) late v i c place in_v (λ in_c. none_moved c u
        (inr (inl (t, is, in_c)))) joins s r at holds

    module _ (i : ℕ) (s : Station) (at : slice_get w.stations i ≡ Some s) (live : s.live ≡ true) (d : ℕ)
        (here : IsDistance n.graph s.clock d) (near : d < 255) where
      known : In s.clock (clocks n.graph)
      known = In-clocks n.graph (station_system s) (back.after.kept.calm.facts.stations i s at live).known

      pub system_follows : Follows n.graph s d here
      system_follows = elim (moves.all s.clock known) [
        | inl u ↦ still_follows says g n moves.well moves.left w back.after.kept back.after.fits back.still Moved
            moves.all beyond holds_none i s at live d here near u
        | inr (inl (t, is, in_s)) ↦
            tree_follows says g n (IsCutOff n t.next) LeadsNowhere t.top best t.next t.base t.depth
            (moves_off g n t.top best t.next t.base t.depth (moves.cut t is)) moves.paths moves.few start over before
            (cut_times t is) w back.after (back.cut t is)
            (told_none w t is) (settles.cut t is) late past i s at live d here near in_s
        | inr (inr (inr (t, is, in_s))) ↦
            let falls = settles.twice t is in
            falls_follows says n t.next t.top t.depth (moves.twice t is).tree best.identity t.base
            (moves.twice t is).worse (moves.twice t is).near start over (before 0) tops_times.begun (tops_times.soon 0)
            tops_times.reached before tops_times.soon tops_times.grows w falls.stale falls.strong falls.tells n.reach
            (λ f less. falls.settles f) (omega arith) late past i s at live d here near in_s
        | inr (inr (inl (t, is, in_s))) ↦
            turned_follows says g n t.tree t.top lost t.last t.out best t.base t.depth (moves.turned t is)
            start over before (turned_times t is) w
            (turns_back says g n lost best IsCut IsTurned IsTwice moves start w back t is)
            (settles.turned t is) late i s at
            live d here near in_s
      ]

    -- each near system has settled, whenever ports without a link hold nothing, or are off
    pub near_have_settled : (bare off : ℕ) → IsAfterLoss (record n { bare = bare; off = off }) w → bare ≤ off
        → NearHaveSettled (record n { bare = bare; off = off }) w
    near_have_settled bare off kept less i s at live (d, here, near) =
        has_settled (record n { bare = bare; off = off }) moves.well w kept i s at live d here near less
        (system_follows i s at live d here near)

    -- and what any holds respects what is left; all are near
    pub system_clear : (i : ℕ) (s : Station) → slice_get w.stations i ≡ Some s → s.live ≡ true → IsClear n.graph s
    system_clear i s at live =
        let (d, here) = distance_exists n.graph s.clock moves.well (In-clocks n.graph (station_system s)
        (back.after.kept.calm.facts.stations i s at live).known) in
        let within = IsDistance-within n.graph n.reach s.clock d moves.paths here in
        let few = moves.few in
        (system_follows i s at live d here (omega (arith, within, few))).clear
