-- Where the tests of a tree with two tops hold, the systems with their root are such a tree from one snapshot to the
-- other.
use Rattle.std.proofs.Common.{◌≡◌, ◌<◌, ◌⊎◌, inl, inr, ◌+◌, ℕ, Bool, true, false, List, Option, Some, None, length, slice_get, refl, sym, ap, subst, ◌∙◌, arith}
use Rattle.std.specs.Prelude.{◌==◌, ◌&&◌, max, min, nat_lt, not}
use Rattle.std.specs.List.{list_all, range_with_len}
use Rattle.std.proofs.lemmas.Bool.{and_parts, eqb-true, or_cases}
use Rattle.std.proofs.lemmas.Bool.Decides.{nat_tests}
use Rattle.gptp_lists.specs.Members.{In}
use Rattle.gptp_bmca_machine.specs.TwoTops.{First, Second, Side, TopsTree}
use Rattle.gptp_graph.specs.Best.{IsBest}
use Rattle.gptp_graph.specs.Distance.{IsDistance}
use Rattle.gptp_graph.specs.Snapshot.{Adjacent, IsWellFormed, Snapshot, System, clocks, port_of}
use Rattle.gptp_graph.proofs.BestLemmas.{IsBest-unique}
use Rattle.gptp_graph.proofs.LinkLemmas.{Adjacent-clock}
use Rattle.gptp_network.specs.Snapshot.{StandsAfter}
use Rattle.gptp_scenario.specs.Network.{IsNetwork, NetworkState}
use Rattle.gptp_scenario.specs.declared.change.Timed.{Timed}
use Rattle.gptp_topology.specs.After.{systems_after}
use Rattle.gptp_topology.specs.declared.nodes.System as ours
use Rattle.gptp_how_soon.specs.Chosen.{chosen_after, lost_ends, used_ends}
use Rattle.gptp_how_soon.specs.Tree.{chose_itself, has_better_root, has_no_more_steps, has_one_nearer, has_same_root, is_below, leads_one_on}
use Rattle.gptp_how_soon.specs.TurnedTree.{falls_at}
use Rattle.gptp_how_soon.specs.TwoTops.{chosen_from, is_below_both, is_both_or_apart, is_by_nearer}
use Rattle.gptp_how_soon.specs.declared.chosen.Chosen.{Chosen}
use Rattle.gptp_how_soon.specs.declared.chosen.Ends.{Ends}
use Rattle.gptp_how_soon.proofs.ChosenLemmas.{IsAt, at_clock, one_clock}
use Rattle.gptp_settling_time.specs.TreeLosses.{IsTreeCutTwice}
use Rattle.gptp_how_soon_laws.proofs.FailedLemmas.{each_is}
use Rattle.gptp_how_soon_laws.proofs.LivesOnLemmas.{LivesOn, on_at, on_of}
use Rattle.gptp_how_soon_laws.proofs.LostEndLemmas.{at_end, moved_lives}
use Rattle.gptp_how_soon_laws.proofs.LostLinkLemmas.{joins_or_lost, lost_at}
use Rattle.gptp_how_soon_laws.proofs.MovedTreesTestLemmas.{TwoTops, falls_moves, in_tops, is_top_there, of_tops, same_on, same_turned, top_parts, tops_there}
use Rattle.gptp_how_soon_laws.proofs.TreeByLemmas.{IsOfTree, depth, depth_there, single_so, steps_of, steps_so}
use Rattle.gptp_how_soon_laws.proofs.TreeTestLemmas.{better_so, same_back, same_so}
use Rattle.gptp_how_soon_laws.proofs.UnmovedLemmas.{asked_of}
use Rattle.gptp_how_soon_laws.proofs.WorseningLemmas.{same_system}

-- two that have one root have chosen
own_of : (a b : Option Chosen) → has_same_root a b ≡ true → (c : Chosen) × (b ≡ Some c)
own_of None b is = absurd cc
own_of (Some a) None is = absurd cc
own_of (Some a) (Some b) is = (b, refl)

-- what the tests of steps say
by_steps : (t o f s : Chosen) → is_by_nearer (Some t) (Some o) (Some f) (Some s) ≡ true
    → (o.steps ≡ t.steps + min f.steps s.steps) × (t.steps + max f.steps s.steps < 255)
by_steps t o f s is =
    let (own, near) = and_parts (o.steps == t.steps + min f.steps s.steps)
    (nat_lt (t.steps + max f.steps s.steps) 255) is in
    (eqb-true o.steps (t.steps + min f.steps s.steps) own, below (t.steps + max f.steps s.steps) near)
  where
    below : (a : ℕ) → nat_lt a 255 ≡ true → a < 255
    below a test = grind (arith, nat_tests)

module _ (n : NetworkState) (network : IsNetwork n) (made events : List Timed) where
  abbrev before : List Chosen
  before = chosen_after n made

  abbrev now : List Chosen
  now = chosen_after n events

  abbrev systems : List ours.System
  systems = systems_after n events

  abbrev links : List Ends
  links = used_ends n events

  abbrev lost : List Ends
  lost = lost_ends n made events

  abbrev falls_there : ℕ → Bool
  falls_there = falls_at systems before now

  abbrev from_top : ℕ → List Chosen
  from_top = chosen_from systems links

  module _ (place : ℕ) (t : TwoTops n network made events place) where
    abbrev in_tree : ℕ → Bool
    in_tree i = has_same_root (slice_get now t.first) (slice_get now i)

    pub side_place : Side → ℕ
    side_place First = t.first
    side_place Second = t.second

    abbrev below_there : ℕ → Bool
    below_there = is_below_both links before now (from_top t.first) (from_top t.second) t.first t.second

    -- whoever has the root of the tops falls, below both
    moved_so : (i v : ℕ) → IsAt n i v → in_tree i ≡ true → (falls_there i ≡ true) × (below_there i ≡ true)
    moved_so i v at inside =
        elim (or_cases (not (in_tree i)) (falls_there i && below_there i)
        (each_is (is_both_or_apart systems links before now (from_top t.first) (from_top t.second) t.first t.second)
        (range_with_len 0 (length systems)) i t.all (asked_of n events i at.system at.there))) [
          | inl apart ↦ let no : false ≡ true = ap not (sym inside) ∙ apart in absurd cc
          | inr both ↦ and_parts (falls_there i) (below_there i) both
        ]

    -- what that says
    record Below (i : ℕ) : Type 0 where
      by : (side : Side) → is_below links (from_top (side_place side)) now (side_place side) i ≡ true
      root : has_same_root (slice_get before t.first) (slice_get before i) ≡ true
      steps : is_by_nearer (slice_get before t.first) (slice_get before i) (slice_get (from_top t.first) i)
          (slice_get (from_top t.second) i) ≡ true

    below_so : (i : ℕ) → below_there i ≡ true → Below i
    unfolding side_place
    below_so i is =
        let first_test : Bool = is_below links (from_top t.first) now t.first i in
        let second_test : Bool = is_below links (from_top t.second) now t.second i in
        let root_test : Bool = has_same_root (slice_get before t.first) (slice_get before i) in
        let (three, steps) = and_parts (first_test && second_test && root_test)
        (is_by_nearer (slice_get before t.first) (slice_get before i) (slice_get (from_top t.first) i)
        (slice_get (from_top t.second) i)) is in
        let (two, root) = and_parts (first_test && second_test) root_test three in
        let (first, second) = and_parts first_test second_test two in
        record { by = λ side. sides first second side; root = root; steps = steps }
      where
        sides : is_below links (from_top t.first) now t.first i ≡ true
            → is_below links (from_top t.second) now t.second i ≡ true → (side : Side)
            → is_below links (from_top (side_place side)) now (side_place side) i ≡ true
        sides first second First = first
        sides first second Second = second

    in_below : (i v : ℕ) → IsAt n i v → in_tree i ≡ true → Below i
    in_below i v at inside = below_so i (moved_so i v at inside).1

    listed : (side : Side) → In (side_place side) (tops_there n network made events place)
    unfolding side_place
    listed First = subst (In t.first) (sym t.tops) (inl refl)
    listed Second = subst (In t.second) (sym t.tops) (inr (inl refl))

    -- each top is one, and has the root of the first
    top_is : (side : Side) → is_top_there n network made events (side_place side) ≡ true
    top_is side = (of_tops n network made events place (side_place side) (listed side)).0

    pub top_inside : (side : Side) → in_tree (side_place side) ≡ true
    unfolding side_place
    top_inside side =
        let first = (of_tops n network made events place t.first (listed First)).1 in
        let own = (of_tops n network made events place (side_place side) (listed side)).1 in
        same_on (slice_get now t.first) (slice_get now place) (slice_get now (side_place side))
        (same_turned (slice_get now place) (slice_get now t.first) first) own

    -- a link is lost at them alone
    is_top : (i v : ℕ) → IsAt n i v → in_tree i ≡ true → (e : Ends) → In e lost → (e.a ≡ i) ⊎ (e.b ≡ i)
        → (side : Side) × (i ≡ side_place side)
    unfolding side_place
    is_top i v at inside e ended end =
        let falls = (moved_so i v at inside).0 in
        elim (subst (In i) t.tops
        (in_tops n network made events place t.first i v (listed First) at falls
        (record { ends = e; listed = ended; end = end }) inside)) [
          | inl first ↦ (First, first)
          | inr behind ↦ elim behind [ inl second ↦ (Second, second) | inr none ↦ absurd none ]
        ]

    -- ---- between two snapshots

    module _ (g h : Snapshot) (stands : StandsAfter n made g) (stands' : StandsAfter n events h)
        (well : IsWellFormed g) (well' : IsWellFormed h) (lived : (v : ℕ) → In v (clocks h) → In v (clocks g)) where
      abbrev On : ℕ → ℕ → Type 0
      On = LivesOn n network made events g h stands stands' well well' lived

      on : (v : ℕ) → In v (clocks h) → (i : ℕ) × On i v
      on = on_of n network made events g h stands stands' well well' lived

      abbrev top_at : (side : Side) → (v : ℕ) × IsAt n (side_place side) v
      top_at side =
          at_end n network made events g h stands stands' well well' (side_place side)
          (top_parts n network made events (side_place side) (top_is side)).0

      top_lives : (side : Side) → In (top_at side).0 (clocks h)
      top_lives side =
          moved_lives n network made events g h stands stands' well well' (side_place side) (top_at side).0
          (top_at side).1
          (falls_moves n network made events (side_place side)
          (top_parts n network made events (side_place side) (top_is side)).1)

      pub top_clock : Side → ℕ
      top_clock side = (top_at side).0

      pub first_on : On t.first (top_clock First)
      unfolding side_place top_clock
      first_on =
          on_at n network made events g h stands stands' well well' lived t.first (top_clock First) (top_at First).1
          (top_lives First)

      abbrev pub best : System
      best = first_on.chose.best

      abbrev next : System
      next = first_on.chooses.best

      abbrev base : ℕ
      base = first_on.was.steps

      -- ---- who is of the tree

      inside_so : (i v : ℕ) (s : On i v) → IsBest h v next → in_tree i ≡ true
      inside_so i v s in_v = same_back now t.first i first_on.is s.is first_on.is_there s.is_there one
        where
          one : first_on.is.root ≡ s.is.root
          one =
              let same : next ≡ s.chooses.best = IsBest-unique h v next s.chooses.best well' in_v s.chooses.is_best in
              first_on.chooses.root ∙ ap (λ (b : System). b.identity) same ∙ sym s.chooses.root

      best_so : (i v : ℕ) (s : On i v) → in_tree i ≡ true → IsBest h v next
      best_so i v s inside =
          let root = same_so now t.first i first_on.is s.is first_on.is_there s.is_there inside in
          let one : s.chooses.best ≡ next =
          same_system n network events events h h stands' stands' s.chooses.best next s.chooses.is_best.live
          first_on.chooses.is_best.live (sym s.chooses.root ∙ sym root ∙ first_on.chooses.root) in
          subst (IsBest h v) one s.chooses.is_best

      below_of : (i v : ℕ) (s : On i v) → IsBest h v next → Below i
      below_of i v s in_v = in_below i v s.at (inside_so i v s in_v)

      of_tree : (side : Side) (i v : ℕ) → IsAt n i v → IsBest h v next
          → IsOfTree n network events h stands' well' next (from_top (side_place side)) i
      of_tree side i v at in_v =
          let cs : List Chosen = from_top (side_place side) in
          let top : ℕ = side_place side in
          let root_test : Bool = has_same_root (slice_get cs top) (slice_get cs i) in
          let steps_test : Bool = has_no_more_steps (slice_get cs top) (slice_get cs i) in
          let same_test : Bool = has_same_root (slice_get now top) (slice_get now i) in
          let single_test : Bool = has_one_nearer cs links i in
          let on_test : Bool = list_all (leads_one_on cs i) links in
          let s = on_at n network made events g h stands stands' well well' lived i v at in_v.reached.1.begins in
          let b = below_of i v s in_v in
          let (four, on_so) = and_parts (root_test && steps_test && same_test && single_test) on_test (b.by side) in
          let (three, single) = and_parts (root_test && steps_test && same_test) single_test four in
          let two = (and_parts (root_test && steps_test) same_test three).0 in
          let (own, there) = own_of (slice_get cs top) (slice_get cs i) (and_parts root_test steps_test two).0 in
          record { own = own; there = there; single = single; on = on_so }

      abbrev deep : Side → ℕ → ℕ
      deep side = depth n network events h stands' well' next (from_top (side_place side))

      in_top : (side : Side) → IsBest h (top_clock side) next
      unfolding top_clock
      in_top side =
          best_so (side_place side) (top_clock side)
          (on_at n network made events g h stands stands' well well' lived (side_place side) (top_clock side)
          (top_at side).1 (top_lives side)) (top_inside side)

      -- ---- steps

      record Steps (v : ℕ) : Type 0 where
        was : IsDistance g v (base + min (deep First v) (deep Second v))
        near : base + max (deep First v) (deep Second v) < 255

      steps_at : (v : ℕ) → IsBest h v next → Steps v
      unfolding side_place
      steps_at v in_v =
          let (i, s) = on v in_v.reached.1.begins in
          let f = of_tree First i v s.at in_v in
          let z = of_tree Second i v s.at in_v in
          let (own, near) = by_steps first_on.was s.was f.own z.own
          ((λ k. is_by_nearer (sym first_on.was_there k) (sym s.was_there k) (sym f.there k) (sym z.there k))
          ∙ (below_of i v s in_v).steps) in
          let first_is : deep First v ≡ f.own.steps = deep_is First i v s.at f in
          let second_is : deep Second v ≡ z.own.steps = deep_is Second i v s.at z in
          record {
            was = subst (IsDistance g v) (let one : s.was.steps ≡ base + min (deep First v) (deep Second v) =
                omega (arith, own, first_is, second_is) in one) s.chose.far;
            near = omega (arith, near, first_is, second_is);
          }
        where
          deep_is : (side : Side) (i w : ℕ) → IsAt n i w
              → (o : IsOfTree n network events h stands' well' next (from_top (side_place side)) i)
              → deep side w ≡ o.own.steps
          deep_is side i w at o =
              depth_there n network events h stands' well' next (from_top (side_place side)) i w at
              ∙ ap steps_of o.there

      -- ---- the tree

      abbrev tree : TopsTree
      tree = record { top = top_clock; next = next; base = base; depth = deep }

      -- a link is lost at the tops alone
      lost_so : (v u : ℕ) → IsBest h v next → Adjacent g v u
          → Adjacent h v u ⊎ ((side : Side) × (v ≡ top_clock side))
      unfolding top_clock
      lost_so v u in_v (p, q, joins) =
          let (i, s) = on v in_v.reached.1.begins in
          let known_u = Adjacent-clock g v u well (p, q, joins) in
          let (j, at_u) = at_clock n network made g stands well u known_u in
          elim (joins_or_lost n network made g stands well events h stands' well' i j (port_of v p) (port_of u q) s.at
          at_u joins) [
            | inl still ↦ inl (p, q, still)
            | inr x ↦ inr (only i s x.ends x.listed
                (lost_at n network made g stands well events h stands' well' i j x))
          ]
        where
          only : (i : ℕ) (s : On i v) (e : Ends) → In e lost → (e.a ≡ i) ⊎ (e.b ≡ i)
              → (side : Side) × (v ≡ top_clock side)
          only i s e listed end =
              let (side, is) = is_top i v s.at (inside_so i v s in_v) e listed end in (
                side,
                one_clock n network made g stands well (side_place side) v (top_clock side)
                    (subst (λ k. IsAt n k v) is s.at) (top_at side).1,
              )

      first_zero : (side : Side) → deep side (top_clock side) ≡ 0
      unfolding top_clock side_place
      first_zero side =
          depth_there n network events h stands' well' next (from_top (side_place side)) (side_place side)
          (top_clock side) (top_at side).1
          ∙ zero_so (slice_get (from_top (side_place side)) (side_place side)) (itself side)
        where
          itself : (s : Side) → chose_itself (slice_get (from_top (side_place s)) (side_place s)) ≡ true
          itself First = t.first_itself
          itself Second = t.second_itself

          zero_so : (a : Option Chosen) → chose_itself a ≡ true → steps_of a ≡ 0
          zero_so None is = absurd cc
          zero_so (Some a) is = eqb-true a.steps 0 is

      worse : best.identity < next.identity
      worse =
          let so = better_so first_on.was first_on.is
          ((λ k. has_better_root (sym first_on.was_there k) (sym first_on.is_there k)) ∙ t.worse) in
          let first = first_on.chose.root in
          let last = first_on.chooses.root in
          omega (arith, so, first, last)

      was_best : (v : ℕ) → IsBest h v next → IsBest g v best
      was_best v in_v =
          let (i, s) = on v in_v.reached.1.begins in
          let root =
          same_so before t.first i first_on.was s.was first_on.was_there s.was_there (below_of i v s in_v).root in
          let one : s.chose.best ≡ best =
          same_system n network made made g g stands stands s.chose.best best s.chose.is_best.live
          first_on.chose.is_best.live (sym s.chose.root ∙ sym root ∙ first_on.chose.root) in
          subst (IsBest g v) one s.chose.is_best

      near_side : (side : Side) (v : ℕ) → IsBest h v next → base + deep side v < 255
      near_side First v in_v = let near = (steps_at v in_v).near in omega (arith, near)
      near_side Second v in_v = let near = (steps_at v in_v).near in omega (arith, near)

      cut_twice : IsTreeCutTwice g h best tree
      cut_twice = record {
        in_top = in_top;
        worse = worse;
        was_best = was_best;
        was = λ v in_v. (steps_at v in_v).was;
        near = near_side;
        first = first_zero;
        lost = lost_so;
        steps = λ side v u in_v joined.
            steps_so n network events h stands' well' next (from_top (side_place side)) (of_tree side) v u in_v joined;
        single = λ side v p q a b in_v first second less less'.
            single_so n network events h stands' well' next (from_top (side_place side)) (of_tree side) v p q a b in_v
            first second less less';
      }

      -- a system with the root of the tops is of such a tree
      pub in_twice : (b : System) → best ≡ b → (i v : ℕ) → On i v → in_tree i ≡ true
          → (x : TopsTree) × IsTreeCutTwice g h b x × IsBest h v x.next
      in_twice b same i v s inside =
          (tree, subst (λ c. IsTreeCutTwice g h c tree) same cut_twice, best_so i v s inside)
