-- Systems that get one root together, below one of them at the top by what all had chosen, are a tree that is cut off
-- from one snapshot to the other.
use Rattle.std.proofs.Common.{◌≡◌, ◌<◌, ◌≤◌, ◌⊎◌, inl, inr, ◌-◌, ◌+◌, ℕ, suc, Bool, true, false, List, [], slice_get, refl, sym, ap, subst, ◌∙◌, arith}
use Rattle.std.specs.Prelude.{◌&&◌, if◌then◌else◌}
use Rattle.std.specs.List.{list_all}
use Rattle.std.proofs.lemmas.Bool.{and_parts}
use Rattle.gptp_lists.specs.Members.{In}
use Rattle.gptp_bmca_machine.specs.CutTree.{Tree}
use Rattle.gptp_graph.specs.Best.{IsBest}
use Rattle.gptp_graph.specs.Distance.{IsDistance}
use Rattle.gptp_graph.specs.Snapshot.{Adjacent, IsWellFormed, Joins, PortIdentity, Snapshot, System, clocks, port_of}
use Rattle.gptp_graph.proofs.BestLemmas.{IsBest-neighbour, IsBest-unique}
use Rattle.gptp_graph.proofs.LinkLemmas.{Adjacent-clock, Joins-clock}
use Rattle.gptp_network.specs.Snapshot.{StandsAfter}
use Rattle.gptp_scenario.specs.Network.{IsNetwork, NetworkState}
use Rattle.gptp_scenario.specs.declared.change.Timed.{Timed}
use Rattle.gptp_topology.specs.After.{systems_after}
use Rattle.gptp_how_soon.specs.Chosen.{chosen_after, lost_ends, place_of, used_ends}
use Rattle.gptp_how_soon.specs.Tree.{has_better_root, has_no_more_steps, has_one_nearer, has_same_root, is_below, leads_one_on}
use Rattle.gptp_how_soon.specs.declared.chosen.Chosen.{Chosen}
use Rattle.gptp_how_soon.specs.declared.chosen.Ends.{Ends}
use Rattle.gptp_how_soon.proofs.ChosenLemmas.{IsAt, at_clock, one_clock, place_is}
use Rattle.gptp_settling_time.specs.TreeLosses.{IsTreeCutOff}
use Rattle.gptp_how_soon_laws.proofs.TreeTestLemmas.{better_so, no_more_so, same_back, same_so}
use Rattle.gptp_how_soon_laws.proofs.WorseningLemmas.{same_system}
use Rattle.gptp_how_soon_laws.proofs.LivesOnLemmas.{LivesOn, on_at, on_of}
use Rattle.gptp_how_soon_laws.proofs.TreeByLemmas.{steps_of}
use Rattle.gptp_how_soon_laws.proofs.TreeByLemmas as tree_by
use Rattle.gptp_how_soon_laws.proofs.LostLinkLemmas.{joins_or_lost, lost_at}

module _ (n : NetworkState) (network : IsNetwork n) (made events : List Timed) where
  abbrev pub before : List Chosen
  before = chosen_after n made

  abbrev pub now : List Chosen
  now = chosen_after n events

  abbrev pub links : List Ends
  links = used_ends n events

  -- between two snapshots, where who lives in the second lived in the first
  module _ (g h : Snapshot) (stands : StandsAfter n made g) (stands' : StandsAfter n events h)
      (well : IsWellFormed g) (well' : IsWellFormed h) (lived : (v : ℕ) → In v (clocks h) → In v (clocks g)) where
    -- a system that lives at both times
    abbrev pub On : ℕ → ℕ → Type 0
    On = LivesOn n network made events g h stands stands' well well' lived

    on : (v : ℕ) → In v (clocks h) → (i : ℕ) × On i v
    on = on_of n network made events g h stands stands' well well' lived

    -- who is below another has the same root now
    pub below_same : (top i : ℕ) → is_below links before now top i ≡ true
        → has_same_root (slice_get now top) (slice_get now i) ≡ true
    below_same top i is =
        let root_test : Bool = has_same_root (slice_get before top) (slice_get before i) in
        let steps_test : Bool = has_no_more_steps (slice_get before top) (slice_get before i) in
        let same_test : Bool = has_same_root (slice_get now top) (slice_get now i) in
        let single_test : Bool = has_one_nearer before links i in
        let four =
        and_parts (root_test && steps_test && same_test && single_test) (list_all (leads_one_on before i) links) is in
        let three = and_parts (root_test && steps_test && same_test) single_test four.0 in
        (and_parts (root_test && steps_test) same_test three.0).1

    -- The systems that have the root of a system now are below it: it is at the top of a tree, which has a worse root
    -- than before. Of their ends of links that are lost only its own is in the tree.
    pub record IsTop (top top_clock : ℕ) : Type 0 where
      pub at : IsAt n top top_clock
      pub known : In top_clock (clocks h)
      pub worse : has_better_root (slice_get before top) (slice_get now top) ≡ true
      pub below : (i v : ℕ) → IsAt n i v → In v (clocks h)
          → has_same_root (slice_get now top) (slice_get now i) ≡ true → is_below links before now top i ≡ true
      pub lost : (i v : ℕ) → IsAt n i v → In v (clocks h)
          → has_same_root (slice_get now top) (slice_get now i) ≡ true → (e : Ends) → In e (lost_ends n made events)
          → (e.a ≡ i) ⊎ (e.b ≡ i) → i ≡ top

    module _ (top top_clock : ℕ) (is_top : IsTop top top_clock) where
      abbrev top_is : On top top_clock
      top_is =
          on_at n network made events g h stands stands' well well' lived top top_clock is_top.at is_top.known

      abbrev pub best : System
      best = top_is.chose.best

      abbrev pub next : System
      next = top_is.chooses.best

      abbrev pub base : ℕ
      base = top_is.was.steps

      -- ---- who is of the tree

      abbrev pub in_tree : ℕ → Bool
      in_tree i = has_same_root (slice_get now top) (slice_get now i)

      record Below (i : ℕ) : Type 0 where
        root : has_same_root (slice_get before top) (slice_get before i) ≡ true
        steps : has_no_more_steps (slice_get before top) (slice_get before i) ≡ true
        single : has_one_nearer before links i ≡ true
        on : list_all (leads_one_on before i) links ≡ true

      below : (i v : ℕ) (s : On i v) → in_tree i ≡ true → Below i
      below i v s inside =
          let root_test : Bool = has_same_root (slice_get before top) (slice_get before i) in
          let steps_test : Bool = has_no_more_steps (slice_get before top) (slice_get before i) in
          let single_test : Bool = has_one_nearer before links i in
          let on_test : Bool = list_all (leads_one_on before i) links in
          let (four, on) =
          and_parts (root_test && steps_test && in_tree i && single_test) on_test
          (is_top.below i v s.at s.known inside) in
          let (three, single) = and_parts (root_test && steps_test && in_tree i) single_test four in
          let (two, same) = and_parts (root_test && steps_test) (in_tree i) three in
          let (root, steps) = and_parts root_test steps_test two in
          record { root = root; steps = steps; single = single; on = on }

      pub inside_so : (i v : ℕ) (s : On i v) → IsBest h v next → in_tree i ≡ true
      inside_so i v s in_v = same_back now top i top_is.is s.is top_is.is_there s.is_there one
        where
          one : top_is.is.root ≡ s.is.root
          one =
              let same : next ≡ s.chooses.best = IsBest-unique h v next s.chooses.best well' in_v s.chooses.is_best in
              top_is.chooses.root ∙ ap (λ (b : System). b.identity) same ∙ sym s.chooses.root

      pub best_so : (i v : ℕ) (s : On i v) → in_tree i ≡ true → IsBest h v next
      best_so i v s inside =
          let root = same_so now top i top_is.is s.is top_is.is_there s.is_there inside in
          let one : s.chooses.best ≡ next =
          same_system n network events events h h stands' stands' s.chooses.best next s.chooses.is_best.live
          top_is.chooses.is_best.live (sym s.chooses.root ∙ sym root ∙ top_is.chooses.root) in
          subst (IsBest h v) one s.chooses.is_best

      in_below : (i v : ℕ) (s : On i v) → IsBest h v next → Below i
      in_below i v s in_v = below i v s (inside_so i v s in_v)

      no_nearer : (i v : ℕ) (s : On i v) → IsBest h v next → base ≤ s.was.steps
      no_nearer i v s in_v =
          no_more_so before top i top_is.was s.was top_is.was_there s.was_there (in_below i v s in_v).steps

      abbrev depth_at : ℕ → ℕ
      depth_at i = if in_tree i then steps_of (slice_get before i) - base else 0

      pub depth : ℕ → ℕ
      depth v = depth_at (place_of (systems_after n []) v)

      depth_there : (i v : ℕ) → IsAt n i v → depth v ≡ depth_at i
      unfolding depth
      depth_there i v at = ap depth_at (place_is n network made g stands well [] i v at)

      depth_is : (i v : ℕ) (s : On i v) → IsBest h v next → base + depth v ≡ s.was.steps
      depth_is i v s in_v =
          let inside = inside_so i v s in_v in
          let least = no_nearer i v s in_v in
          let is : depth v ≡ s.was.steps - base =
          depth_there i v s.at ∙ ap (λ b. if b then steps_of (slice_get before i) - base else 0) inside
          ∙ ap (λ o. steps_of o - base) s.was_there in
          omega (arith, least, is)

      -- ---- links

      -- a system of the tree at one that is lost is the top
      only_top : (i v : ℕ) (s : On i v) → IsBest h v next → (e : Ends) → In e (lost_ends n made events)
          → (e.a ≡ i) ⊎ (e.b ≡ i) → v ≡ top_clock
      only_top i v s in_v e listed end =
          one_clock n network made g stands well top v top_clock
          (subst (λ k. IsAt n k v) (is_top.lost i v s.at s.known (inside_so i v s in_v) e listed end) s.at) is_top.at

      lost_so : (v u : ℕ) → IsBest h v next → Adjacent g v u → Adjacent h v u ⊎ (v ≡ top_clock)
      lost_so v u in_v (p, q, joins) =
          let (i, s) = on v in_v.reached.1.begins in
          let known_u = Adjacent-clock g v u well (p, q, joins) in
          let (j, at_u) = at_clock n network made g stands well u known_u in
          elim (joins_or_lost n network made g stands well events h stands' well' i j (port_of v p) (port_of u q) s.at
          at_u joins) [
            | inl still ↦ inl (p, q, still)
            | inr x ↦ inr (only_top i v s in_v x.ends x.listed
                (lost_at n network made g stands well events h stands' well' i j x))
          ]

      -- ---- by their steps before they are a tree

      of_tree : (i v : ℕ) → IsAt n i v → IsBest h v next
          → tree_by.IsOfTree n network events h stands' well' next before i
      of_tree i v at in_v =
          let s = on_at n network made events g h stands stands' well well' lived i v at in_v.reached.1.begins in
          let b = in_below i v s in_v in
          record { own = s.was; there = s.was_there; single = b.single; on = b.on }

      abbrev steps_before : ℕ → ℕ
      steps_before = tree_by.depth n network events h stands' well' next before

      steps_are : (v : ℕ) → IsBest h v next → steps_before v ≡ base + depth v
      steps_are v in_v =
          let (i, s) = on v in_v.reached.1.begins in
          tree_by.depth_there n network events h stands' well' next before i v s.at
          ∙ ap steps_of s.was_there
          ∙ sym (depth_is i v s in_v)

      steps_so : (v u : ℕ) → IsBest h v next → Adjacent h v u → (depth u ≡ suc (depth v)) ⊎ (depth v ≡ suc (depth u))
      steps_so v u in_v joined =
          let v_is = steps_are v in_v in
          let u_is = steps_are u (IsBest-neighbour h v u next well' joined in_v) in
          elim (tree_by.steps_so n network events h stands' well' next before of_tree v u in_v joined) [
            | inl more ↦ inl (omega (arith, v_is, u_is, more))
            | inr more ↦ inr (omega (arith, v_is, u_is, more))
          ]

      single_so : (v p q : ℕ) (a b : PortIdentity) → Joins h (port_of v p) a → Joins h (port_of v q) b
          → depth v ≡ suc (depth a.clock) → depth v ≡ suc (depth b.clock) → p ≡ q
      single_so v p q a b first second near near' =
          let (i, s) = on v (Joins-clock h (port_of v p) a well' first) in by i s (in_tree i) refl
        where
          by : (i : ℕ) (s : On i v) (inside : Bool) → in_tree i ≡ inside → p ≡ q
          by i s true inside =
              let in_v = best_so i v s inside in
              let v_is = steps_are v in_v in
              let a_is = steps_are a.clock (IsBest-neighbour h v a.clock next well' (p, a.port, first) in_v) in
              let b_is = steps_are b.clock (IsBest-neighbour h v b.clock next well' (q, b.port, second) in_v) in
              tree_by.single_so n network events h stands' well' next before of_tree v p q a b in_v first second
              (omega (arith, v_is, a_is, near)) (omega (arith, v_is, b_is, near'))
          by i s false none =
              let zero : depth v ≡ 0 =
              depth_there i v s.at ∙ ap (λ b. if b then steps_of (slice_get before i) - base else 0) none in
              absurd (omega (arith, zero, near))

      -- ---- the tree

      worse : best.identity < next.identity
      worse =
          let so = better_so top_is.was top_is.is
          ((λ k. has_better_root (sym top_is.was_there k) (sym top_is.is_there k)) ∙ is_top.worse) in
          let first = top_is.chose.root in
          let last = top_is.chooses.root in
          omega (arith, so, first, last)

      was_best : (v : ℕ) → IsBest h v next → IsBest g v best
      was_best v in_v =
          let (i, s) = on v in_v.reached.1.begins in
          let root =
          same_so before top i top_is.was s.was top_is.was_there s.was_there (in_below i v s in_v).root in
          let one : s.chose.best ≡ best =
          same_system n network made made g g stands stands s.chose.best best s.chose.is_best.live
          top_is.chose.is_best.live (sym s.chose.root ∙ sym root ∙ top_is.chose.root) in
          subst (IsBest g v) one s.chose.is_best

      was_far : (v : ℕ) → IsBest h v next → IsDistance g v (base + depth v)
      was_far v in_v =
          let (i, s) = on v in_v.reached.1.begins in
          subst (IsDistance g v) (sym (depth_is i v s in_v)) s.chose.far

      first_so : depth top_clock ≡ 0
      first_so =
          let is = depth_is top top_clock top_is top_is.chooses.is_best in
          let same : base ≡ top_is.was.steps = refl in
          omega (arith, is, same)

      abbrev pub tree : Tree
      tree = record { top = top_clock; next = next; base = base; depth = depth }

      pub cut_off : IsTreeCutOff g h best tree
      cut_off = record {
        in_top = top_is.chooses.is_best;
        worse = worse;
        was_best = was_best;
        was = was_far;
        first = first_so;
        lost = lost_so;
        steps = steps_so;
        single = single_so;
      }
