-- Where the tests of a tree that turns hold, it does from one snapshot to the other.
use Rattle.std.proofs.Common.{◌≡◌, ◌<◌, ◌⊎◌, inl, inr, ℕ, Bool, true, false, List, Some, length, refl, sym, ap, subst, ◌∙◌, arith}
use Rattle.std.specs.Prelude.{not}
use Rattle.std.specs.List.{range_with_len}
use Rattle.std.proofs.lemmas.Bool.{not-true, or_cases}
use Rattle.gptp_lists.specs.Members.{In}
use Rattle.gptp_bmca_machine.specs.FailureTrees.{Turning}
use Rattle.gptp_graph.specs.Distance.{IsDistance}
use Rattle.gptp_graph.specs.Snapshot.{Adjacent, IsWellFormed, Snapshot, System, clocks, port_of}
use Rattle.gptp_graph.proofs.DistanceLemmas.{IsDistance-unique}
use Rattle.gptp_graph.proofs.LinkLemmas.{Adjacent-clock, Adjacent-sym}
use Rattle.gptp_network.specs.Snapshot.{StandsAfter}
use Rattle.gptp_scenario.specs.Network.{IsNetwork, NetworkState}
use Rattle.gptp_scenario.specs.declared.change.Timed.{Timed}
use Rattle.gptp_topology.specs.After.{systems_after}
use Rattle.gptp_topology.specs.declared.nodes.System as ours
use Rattle.gptp_how_soon.specs.Chosen.{chosen_after, is_moved_at}
use Rattle.gptp_how_soon.specs.Turned.{has_fewer_steps}
use Rattle.gptp_how_soon.specs.TurnedTree.{is_in_part, stays_or_is_in_part}
use Rattle.gptp_how_soon.specs.declared.chosen.Chosen.{Chosen}
use Rattle.gptp_how_soon.specs.declared.chosen.Ends.{Ends}
use Rattle.gptp_how_soon.proofs.ChosenLemmas.{IsAt, at_clock, chosen_there, one_clock, settled_choice}
use Rattle.gptp_settling_time.specs.Losses.{IsUnmoved}
use Rattle.gptp_settling_time.specs.TreeLosses.{IsTurnedTree}
use Rattle.gptp_how_soon_laws.proofs.FailedLemmas.{each_is}
use Rattle.gptp_how_soon_laws.proofs.UnmovedLemmas.{asked_of, unmoved_at}
use Rattle.gptp_how_soon_laws.proofs.LivesOnLemmas.{LivesOn, on_at, on_of}
use Rattle.gptp_how_soon_laws.proofs.LostLinkLemmas.{IsLostBetween, joins_or_lost}
use Rattle.gptp_how_soon_laws.proofs.OneLostLemmas.{at_other, at_top, known_ends, lost_between}
use Rattle.gptp_how_soon_laws.proofs.TurnedTreeTestLemmas.{Turns, less_so, part_turns, turned_moves}
use Rattle.gptp_how_soon_laws.proofs.TurnsBelowLemmas as below

module _ (n : NetworkState) (network : IsNetwork n) (made events : List Timed) where
  abbrev before : List Chosen
  before = chosen_after n made

  abbrev now : List Chosen
  now = chosen_after n events

  abbrev systems : List ours.System
  systems = systems_after n events

  abbrev moved : ℕ → Bool
  moved = is_moved_at systems before now

  -- ---- between two snapshots

  module _ (t : Turns n network made events) (g h : Snapshot) (stands : StandsAfter n made g)
      (stands' : StandsAfter n events h) (well : IsWellFormed g) (well' : IsWellFormed h)
      (lived : (v : ℕ) → In v (clocks h) → In v (clocks g))
      (lives : (v : ℕ) → In v (clocks g) → In v (clocks h)) where
    abbrev top : ℕ
    top = t.one.top

    -- all that turn have one root, which names them
    abbrev turned : ℕ → Bool
    turned = is_in_part systems before now now top

    abbrev top_clock : ℕ
    top_clock = t.one.top_clock

    abbrev other : ℕ
    other = t.one.other

    abbrev other_clock : ℕ
    other_clock = t.one.other_clock

    top_at : IsAt n top top_clock
    top_at = at_top n network made events t.one g stands well

    other_at : IsAt n other other_clock
    other_at = at_other n network made events t.one g stands well

    abbrev On : ℕ → ℕ → Type 0
    On = LivesOn n network made events g h stands stands' well well' lived

    on : (v : ℕ) → In v (clocks h) → (i : ℕ) × On i v
    on = on_of n network made events g h stands stands' well well' lived

    abbrev top_is : On top top_clock
    top_is =
        on_at n network made events g h stands stands' well well' lived top top_clock
        (at_top n network made events t.one g stands well)
        (lives top_clock (known_ends n network made events t.one g stands well).0)

    abbrev best : System
    best = top_is.chose.best

    abbrev base : ℕ
    base = top_is.was.steps

    -- ---- the tree

    abbrev turning : Turning
    turning =
        below.turning n network made events now top top_clock t.tree g h stands stands' well well' lived top_is

    abbrev tree : List ℕ
    tree = turning.tree

    abbrev has : below.HasTurned n turned g h best turning
    has = below.has_turned n network made events now top top_clock t.tree g h stands stands' well well' lived top_is

    in_tree : (v : ℕ) → In v tree → (i : ℕ) × (s : On i v) × (turned i ≡ true)
    in_tree v listed = let (i, s) = on v (has.lives v listed) in (i, s, has.turned_of i v s.at listed)

    nearer : (far : ℕ) → IsDistance g other_clock far → far < base
    nearer far far_is =
        let known = (known_ends n network made events t.one g stands well).1 in
        let (e, e_there) = chosen_there n network made g stands well other other_clock other_at in
        let chose = settled_choice n network made g stands well other other_clock other_at known e e_there in
        let same = IsDistance-unique g other_clock far e.steps well far_is chose.far in
        let told : has_fewer_steps (Some e) (Some top_is.was) ≡ true =
        (λ k. has_fewer_steps (sym e_there k) (sym top_is.was_there k)) ∙ t.nearer in
        let less = less_so e.steps top_is.was.steps told in
        omega (arith, same, less)

    -- who isn't of it isn't moved
    others : (v : ℕ) → In v (clocks h) → (In v tree → ⊥) → IsUnmoved g h v
    others v known out = let (i, s) = on v known in by i s (turned i) refl
      where
        by : (i : ℕ) (s : On i v) (test : Bool) → turned i ≡ test → IsUnmoved g h v
        by i s true is = absurd (out (has.member i v s.at s.known is))
        by i s false is =
            unmoved_at n network made events g h stands stands' well well' v (lived v known) known i s.at
            (elim (or_cases (not (moved i)) (turned i)
            (each_is (stays_or_is_in_part systems before now now top) (range_with_len 0 (length systems)) i t.all
            (asked_of n events i s.at.system s.at.there))) [
              | inl apart ↦ not-true (moved i) apart
              | inr turns ↦ let no : true ≡ false = sym turns ∙ is in absurd cc
            ])

    -- ---- links of before

    -- one stands still, or it is the one that is lost
    abbrev IsLostPair : ℕ → ℕ → Type 0
    IsLostPair i j = ((i ≡ top) × (j ≡ other)) ⊎ ((i ≡ other) × (j ≡ top))

    lost_pair : (i j : ℕ) → IsLostBetween n network made g stands well events h stands' well' i j → IsLostPair i j
    lost_pair i j lost = elim lost.between [
      | inl same ↦
          let a = ap (λ (e : Ends). e.a) same in
          let b = ap (λ (e : Ends). e.b) same in
          elim (lost_between n network made events t.one lost.ends lost.listed) [
            | inl (x, y) ↦ inl (sym a ∙ x, sym b ∙ y)
            | inr (y, x) ↦ inr (sym a ∙ x, sym b ∙ y)
          ]
      | inr same ↦
          let a = ap (λ (e : Ends). e.a) same in
          let b = ap (λ (e : Ends). e.b) same in
          elim (lost_between n network made events t.one lost.ends lost.listed) [
            | inl (x, y) ↦ inr (sym b ∙ y, sym a ∙ x)
            | inr (y, x) ↦ inl (sym b ∙ y, sym a ∙ x)
          ]
    ]

    adjacent_still : (v u i j : ℕ) → IsAt n i v → IsAt n j u → Adjacent g v u → Adjacent h v u ⊎ IsLostPair i j
    adjacent_still v u i j at at' (p, q, joins) =
        elim (joins_or_lost n network made g stands well events h stands' well' i j (port_of v p) (port_of u q) at at'
        joins) [
          | inl still ↦ inl (p, q, still)
          | inr lost ↦ inr (lost_pair i j lost)
        ]

    at_its_top : (i v : ℕ) → IsAt n i v → i ≡ top → v ≡ top_clock
    at_its_top i v at same =
        one_clock n network made g stands well top v top_clock (subst (λ k. IsAt n k v) same at) top_at

    lost : (v u : ℕ) → In v tree → Adjacent g v u → Adjacent h v u ⊎ ((v ≡ top_clock) × (u ≡ other_clock))
    lost v u listed adjacent =
        let (i, s, is) = in_tree v listed in
        let (j, at_u) = at_clock n network made g stands well u (Adjacent-clock g v u well adjacent) in
        elim (adjacent_still v u i j s.at at_u adjacent) [
          | inl still ↦ inl still
          | inr which ↦ elim which [
            | inl (a, b) ↦ inr (
              at_its_top i v s.at a,
              one_clock n network made g stands well other u other_clock (subst (λ k. IsAt n k u) b at_u) other_at,
            )
            | inr (a, b) ↦
                let moves = turned_moves n network made events i (part_turns n network made events now top i is) in
                let no : false ≡ true = ap not (sym (ap moved (sym a) ∙ moves)) ∙ t.stays in
                absurd cc
          ]
        ]

    kept_beside : (v u : ℕ) → (In v tree → ⊥) → (In u tree → ⊥) → Adjacent g v u → Adjacent h v u
    kept_beside v u out out' adjacent =
        let (i, at) =
        at_clock n network made g stands well v (Adjacent-clock g u v well (Adjacent-sym g v u adjacent)) in
        let (j, at') = at_clock n network made g stands well u (Adjacent-clock g v u well adjacent) in
        elim (adjacent_still v u i j at at' adjacent) [
          | inl still ↦ still
          | inr which ↦ elim which [
            | inl (a, b) ↦ absurd (out (subst (λ c. In c tree) (sym (at_its_top i v at a)) has.in_top))
            | inr (a, b) ↦ absurd (out' (subst (λ c. In c tree) (sym (at_its_top j u at' b)) has.in_top))
          ]
        ]

    pub turned_so : (tree : List ℕ) × (last : ℕ) × (out : ℕ) × (best : System) × (base : ℕ) × (depth : ℕ → ℕ)
        × IsTurnedTree g h tree top_clock other_clock last out best base depth
    turned_so = (
      tree,
      turning.last,
      turning.out,
      best,
      base,
      turning.depth,
      record {
        in_top = has.in_top;
        lives = has.lives;
        others = others;
        was_best = has.was_best;
        is_best = has.is_best;
        was = has.was;
        farther = has.farther;
        first = has.first;
        nearer = nearer;
        lost = lost;
        kept = kept_beside;
        steps = has.steps;
        single = has.single;
        leaves = has.leaves;
        in_last = has.in_last;
        outside = has.outside;
        joined = has.joined;
        one_way = has.one_way;
      },
    )
