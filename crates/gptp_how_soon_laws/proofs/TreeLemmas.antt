-- Where the tests of a tree that falls off hold, it does from one snapshot to the other.
use Rattle.std.proofs.Common.{◌≡◌, ◌⊎◌, inl, inr, ℕ, Bool, true, false, List, [], ◌∷◌, refl, sym, ap, ◌∙◌}
use Rattle.std.specs.Prelude.{not}
use Rattle.std.proofs.lemmas.Bool.{and_parts}
use Rattle.gptp_lists.specs.Members.{In}
use Rattle.gptp_graph.specs.Best.{IsBest}
use Rattle.gptp_graph.specs.Snapshot.{IsWellFormed, Snapshot, System, clocks}
use Rattle.gptp_network.specs.Snapshot.{StandsAfter}
use Rattle.gptp_scenario.specs.Network.{IsNetwork, NetworkState}
use Rattle.gptp_scenario.specs.declared.change.Timed.{Timed}
use Rattle.gptp_topology.specs.After.{systems_after}
use Rattle.gptp_topology.specs.declared.nodes.System as ours
use Rattle.gptp_how_soon.specs.Chosen.{chosen_after, lost_ends, used_ends}
use Rattle.gptp_how_soon.specs.Tree.{cuts_below, cuts_tree, cuts_tree_after, falls_below}
use Rattle.gptp_how_soon.specs.declared.chosen.Chosen.{Chosen}
use Rattle.gptp_how_soon.specs.declared.chosen.Ends.{Ends}
use Rattle.gptp_how_soon.proofs.ChosenLemmas.{IsAt}
use Rattle.gptp_settling_time.specs.TreeLosses.{IsCutTree}
use Rattle.gptp_how_soon_laws.proofs.FallsBelowLemmas.{FallsBelow, below_so, in_tree, is_moved_there, is_top, moved_below, others}
use Rattle.gptp_how_soon_laws.proofs.LivesOnLemmas.{on_at}
use Rattle.gptp_how_soon_laws.proofs.OneLostLemmas.{OneLost, OneLostBy, at_other, at_top, known_ends, lost_between, one_lost}
use Rattle.gptp_how_soon_laws.proofs.TreeBelowLemmas.{IsTop, best, cut_off, inside_so, next, tree}

module _ (n : NetworkState) (network : IsNetwork n) (made events : List Timed) where
  abbrev before : List Chosen
  before = chosen_after n made

  abbrev now : List Chosen
  now = chosen_after n events

  abbrev systems : List ours.System
  systems = systems_after n events

  abbrev links : List Ends
  links = used_ends n events

  abbrev moved_at : ℕ → Bool
  moved_at = is_moved_there n network made events

  -- a link is lost from the top of a tree
  pub record Cuts : Type 0 where
    pub one : OneLost n network made events
    pub falls : FallsBelow n network made events one.top
    pub stays : not (moved_at one.other) ≡ true

  pub cuts : cuts_tree_after n made events ≡ true → Cuts
  cuts is = by (lost_ends n made events) refl is
    where
      of_one : OneLostBy n network made events (cuts_below systems links before now) → Cuts
      of_one x =
          let falls_test : Bool = falls_below systems links before now x.one.top in
          let (falls, stays) = and_parts falls_test (not (moved_at x.one.other)) x.so in
          record { one = x.one; falls = below_so n network made events x.one.top falls; stays = stays }

      by : (es : List Ends) → lost_ends n made events ≡ es → cuts_tree systems es links before now ≡ true → Cuts
      by [] same is = absurd cc
      by (e ∷ []) same is = of_one (one_lost n network made events (cuts_below systems links before now) e same is)
      by (e ∷ f ∷ es) same is = absurd cc

  -- ---- between two snapshots

  module _ (t : Cuts) (g h : Snapshot) (stands : StandsAfter n made g) (stands' : StandsAfter n events h)
      (well : IsWellFormed g) (well' : IsWellFormed h) (lived : (v : ℕ) → In v (clocks h) → In v (clocks g))
      (lives : (v : ℕ) → In v (clocks g) → In v (clocks h)) where
    abbrev top : ℕ
    top = t.one.top

    abbrev inside_of : ℕ → Bool
    inside_of = in_tree n network made events top t.falls

    -- a system of the tree at a link that is lost is the top
    only_top : (i v : ℕ) → IsAt n i v → inside_of i ≡ true → (e : Ends) → In e (lost_ends n made events)
        → (e.a ≡ i) ⊎ (e.b ≡ i) → i ≡ top
    only_top i v at inside e listed end = elim places [
      | inl is ↦ is
      | inr other ↦
          let moved : moved_at t.one.other ≡ true =
          ap moved_at (sym other) ∙ (moved_below n network made events top t.falls i v at inside).0 in
          let no : false ≡ true = ap not (sym moved) ∙ t.stays in
          absurd cc
    ]
      where
        places : (i ≡ top) ⊎ (i ≡ t.one.other)
        places = elim (lost_between n network made events t.one e listed) [
          | inl (a, b) ↦ elim end [ inl is ↦ inl (sym is ∙ a) | inr is ↦ inr (sym is ∙ b) ]
          | inr (b, a) ↦ elim end [ inl is ↦ inr (sym is ∙ a) | inr is ↦ inl (sym is ∙ b) ]
        ]

    at : IsAt n top t.one.top_clock
    at = at_top n network made events t.one g stands well

    known : In t.one.top_clock (clocks h)
    known = lives t.one.top_clock (known_ends n network made events t.one g stands well).0

    abbrev tops : IsTop n network made events g h stands stands' well well' lived top t.one.top_clock
    tops =
        is_top n network made events top t.falls g h stands stands' well well' lived t.one.top_clock at known only_top

    abbrev last : System
    last = next n network made events g h stands stands' well well' lived top t.one.top_clock tops

    outside : IsBest h t.one.other_clock last → ⊥
    outside in_other =
        let s = on_at n network made events g h stands stands' well well' lived t.one.other t.one.other_clock
        (at_other n network made events t.one g stands well) in_other.reached.1.begins in
        let inside =
        inside_so n network made events g h stands stands' well well' lived top t.one.top_clock tops t.one.other
        t.one.other_clock s in_other in
        let moved = (moved_below n network made events top t.falls t.one.other t.one.other_clock s.at inside).0 in
        let no : false ≡ true = ap not (sym moved) ∙ t.stays in
        absurd cc

    -- the tree
    pub cut_so : (best : System) × (next : System) × (base : ℕ) × (depth : ℕ → ℕ)
        × IsCutTree g h t.one.top_clock t.one.other_clock best next base depth
    cut_so =
        let c = cut_off n network made events g h stands stands' well well' lived top t.one.top_clock tops in
        let x = tree n network made events g h stands stands' well well' lived top t.one.top_clock tops in (
          best n network made events g h stands stands' well well' lived top t.one.top_clock tops,
          x.next,
          x.base,
          x.depth,
          record {
            in_top = c.in_top;
            outside = outside;
            others = others n network made events top t.falls g h stands stands' well well' lived t.one.top_clock at
                known only_top;
            worse = c.worse;
            was_best = c.was_best;
            was = c.was;
            first = c.first;
            lost = c.lost;
            steps = c.steps;
            single = c.single;
          },
        )
