-- A failure that cuts off all that it moves, and all far ends of lost links, does so from one snapshot to the other.
use Rattle.std.proofs.Common.{◌≡◌, ◌<◌, ◌⊎◌, inl, inr, ℕ, Bool, true, false, List, [], ◌∷◌, ◌++◌, Some, append-nil, length, slice_get, refl, sym, ap, subst, ◌∙◌, arith}
use Rattle.std.specs.Prelude.{◌==◌, ◌&&◌, nat_lt, not}
use Rattle.std.specs.List.{list_all, range_with_len}
use Rattle.std.proofs.Math.Bool.{and-false}
use Rattle.std.proofs.lemmas.Bool.{and_from, and_parts, eq-eqb, eqb-true, or_cases}
use Rattle.gptp_lists.specs.Members.{In}
use Rattle.gptp_lists.proofs.MappedLemmas.{mapped_there}
use Rattle.gptp_lists.proofs.SystemSpecLemmas.{from_map}
use Rattle.gptp_bmca_machine.specs.CutTree.{Tree}
use Rattle.gptp_bmca_machine.specs.TwoTops.{TopsTree}
use Rattle.gptp_graph.specs.Best.{IsBest}
use Rattle.gptp_graph.specs.Distance.{IsDistance}
use Rattle.gptp_graph.specs.Snapshot.{IsLinked, IsWellFormed, Joins, PortIdentity, Snapshot, System, clocks}
use Rattle.gptp_graph.proofs.BestLemmas.{IsBest-unique}
use Rattle.gptp_graph.proofs.DistanceLemmas.{IsDistance-unique}
use Rattle.gptp_graph.proofs.LinkLemmas.{Joins-clock, Joins-sym}
use Rattle.gptp_network.specs.Snapshot.{StandsAfter}
use Rattle.gptp_scenario.specs.Network.{IsNetwork, NetworkState}
use Rattle.gptp_scenario.specs.declared.change.Timed.{Timed}
use Rattle.gptp_topology.specs.After.{system_then, systems_after}
use Rattle.gptp_topology.specs.declared.nodes.System as ours
use Rattle.gptp_how_soon.specs.Chosen.{chosen_after, differs, is_moved, is_moved_at, lost_ends, moves_some}
use Rattle.gptp_how_soon.specs.Far.{is_nearer_at}
use Rattle.gptp_how_soon.specs.MovedTrees.{cuts_all_after, far_end_moves, far_ends_move_after, is_moved_if_far, moves_trees_after, stays_or_gets_worse}
use Rattle.gptp_how_soon.specs.Silent.{hears, is_live}
use Rattle.gptp_how_soon.specs.Tree.{has_better_root}
use Rattle.gptp_how_soon.specs.TurnedTree.{is_turned_at}
use Rattle.gptp_how_soon.specs.Turned.{goes_farther}
use Rattle.gptp_how_soon.specs.declared.chosen.Chosen.{Chosen}
use Rattle.gptp_how_soon.specs.declared.chosen.Ends.{Ends}
use Rattle.gptp_how_soon.proofs.ChosenLemmas.{IsAt, at_clock}
use Rattle.gptp_settling_time.specs.HowSoon.{EachEvent, FailsTreesFirst, IsDownToo, IsTakenToo, TakesSeveral}
use Rattle.gptp_settling_time.specs.Losses.{IsUnmoved, LosesAny}
use Rattle.gptp_settling_time.specs.TreeLosses.{CutsAllBeyond, CutsAllBeyondFrom, IsTreeCutOff, IsTreeCutTwice, LosesFarther, LosesFartherFrom}
use Rattle.gptp_how_soon_laws.proofs.FailedLemmas.{each_is}
use Rattle.gptp_how_soon_laws.proofs.LiveEndsLemmas.{nearer_at}
use Rattle.gptp_how_soon_laws.proofs.LivesOnLemmas.{LivesOn, clock_lived, on_of}
use Rattle.gptp_how_soon_laws.proofs.LostLinkLemmas.{joins_or_lost}
use Rattle.gptp_how_soon_laws.proofs.MovedTreesLemmas.{cut_there}
use Rattle.gptp_how_soon_laws.proofs.TakenAwayLemmas.{all_lived}
use Rattle.gptp_how_soon_laws.proofs.TreeTestLemmas.{better_so}
use Rattle.gptp_how_soon_laws.proofs.UnmovedLemmas.{AreWell, asked_of, unmoved_all, unmoved_at}
use Rattle.gptp_how_soon_laws.proofs.WorseningLemmas.{lives_of}

module _ (n : NetworkState) (network : IsNetwork n) (made events : List Timed) where
  abbrev before : List Chosen
  before = chosen_after n made

  abbrev now : List Chosen
  now = chosen_after n events

  abbrev systems : List ours.System
  systems = systems_after n events

  abbrev lost : List Ends
  lost = lost_ends n made events

  abbrev moves_there : ℕ → Bool
  moves_there = is_moved_at systems before now

  -- ---- between two snapshots, where each live far end of a link that is lost is moved

  module _ (far : list_all (far_end_moves systems before now) lost ≡ true) (g h : Snapshot)
      (stands : StandsAfter n made g) (stands' : StandsAfter n events h) (well : IsWellFormed g)
      (well' : IsWellFormed h) (lived : (v : ℕ) → In v (clocks h) → In v (clocks g)) where
    abbrev On : ℕ → ℕ → Type 0
    On = LivesOn n network made events g h stands stands' well well' lived

    -- one that is unmoved isn't moved at its place
    stays_at : (i v : ℕ) (s : On i v) → IsUnmoved g h v → moves_there i ≡ false
    stays_at i v s stays =
        let best = IsBest-unique h v s.chose.best s.chooses.best well' (stays.best s.chose.best s.chose.is_best)
        s.chooses.is_best in
        let root : s.was.root ≡ s.is.root = s.chose.root ∙ ap (λ (b : System). b.identity) best ∙ sym s.chooses.root in
        let steps = IsDistance-unique h v s.was.steps s.is.steps well' (stays.far s.was.steps s.chose.far)
        s.chooses.far in
        let none : differs s.was s.is ≡ false =
        ap not (and_from (s.was.root == s.is.root) (s.was.steps == s.is.steps) (eq-eqb s.was.root s.is.root root)
        (eq-eqb s.was.steps s.is.steps steps)) in
        let o : ours.System = system_then events s.at.system in
        let there : slice_get systems i ≡ Some o =
        mapped_there (system_then events) n.systems i s.at.system s.at.there in
        (λ k. is_moved (there k) (s.was_there k) (s.is_there k))
        ∙ ap (λ test. o.lives && test) none
        ∙ and-false o.lives

    -- the one lives, and was the far end of a link with the other
    hears_so : (i v j u : ℕ) (s : On i v) → IsAt n j u → In u (clocks g)
        → ((near far : ℕ) → IsDistance g u near → IsDistance g v far → (near < far) ⊎ ((near ≡ far) × (u < v)))
        → hears systems before i j ≡ true
    hears_so i v j u s at_u known_u order =
        let (x, live, named) = from_map (λ (t : System). t.clock) v h.systems s.known in
        let lives = lives_of n network events h stands' x live i s.at.system s.at.there (s.at.clock ∙ sym named) in
        and_from (is_live (slice_get systems i)) (is_nearer_at systems before j i)
        (ap is_live (mapped_there (system_then events) n.systems i s.at.system s.at.there) ∙ lives)
        (nearer_at n network made events g stands well j u i v at_u s.at known_u (lived v s.known) order)

    -- one at a link that is lost is moved, if it was its far end
    far_moves : (i j : ℕ) (e : Ends) → In e lost
        → (e ≡ record { a = i; b = j }) ⊎ (e ≡ record { a = j; b = i })
        → hears systems before i j ≡ true → moves_there i ≡ true
    far_moves i j e listed ends hears_is = by ends
      where
        two : (is_moved_if_far systems before now e.a e.b ≡ true) × (is_moved_if_far systems before now e.b e.a ≡ true)
        two =
            and_parts (is_moved_if_far systems before now e.a e.b) (is_moved_if_far systems before now e.b e.a)
            (each_is (far_end_moves systems before now) lost e far listed)

        moved : is_moved_if_far systems before now i j ≡ true → moves_there i ≡ true
        moved is = elim (or_cases (not (hears systems before i j)) (moves_there i) is) [
          | inl none ↦ let no : false ≡ true = ap not (sym hears_is) ∙ none in absurd cc
          | inr moves ↦ moves
        ]

        by : (e ≡ record { a = i; b = j }) ⊎ (e ≡ record { a = j; b = i }) → moves_there i ≡ true
        by (inl same) = moved ((λ k. is_moved_if_far systems before now (sym same k).a (sym same k).b) ∙ two.0)
        by (inr same) = moved ((λ k. is_moved_if_far systems before now (sym same k).b (sym same k).a) ∙ two.1)

    pub beyond : (from to : PortIdentity) → Joins g from to → In to.clock (clocks h) → (IsLinked h to → ⊥)
        → ((near far : ℕ) → IsDistance g from.clock near → IsDistance g to.clock far
        → (near < far) ⊎ ((near ≡ far) × (from.clock < to.clock))) → IsUnmoved g h to.clock → ⊥
    beyond from to joins known apart order stays =
        let (i, s) = on_of n network made events g h stands stands' well well' lived to.clock known in
        let near_known = Joins-clock g from to well joins in
        let (j, at_from) = at_clock n network made g stands well from.clock near_known in
        let hears_is = hears_so i to.clock j from.clock s at_from near_known order in
        let none = stays_at i to.clock s stays in
        let moves : moves_there i ≡ true =
        elim (joins_or_lost n network made g stands well events h stands' well' i j to from s.at at_from
        (Joins-sym g from to joins)) [
          | inl still ↦ absurd (apart (from, still))
          | inr x ↦ far_moves i j x.ends x.listed x.between hears_is
        ] in
        let no : true ≡ false = sym moves ∙ none in
        cc

    -- so none lost its link to a nearer one where none is moved
    pub loses_farther : moves_some n made events ≡ false → LosesFarther g h
    loses_farther none = record {
      each = stays;
      beyond = λ from to joins known apart order. beyond from to joins known apart order (stays to.clock known);
    }
      where
        stays : (v : ℕ) → In v (clocks h) → IsUnmoved g h v
        stays v known =
            unmoved_all n network made events g h stands stands' well well' v (lived v known) known none

  -- ---- and each that is moved has a worse root

  module _ (trees : moves_trees_after n made events ≡ true) (cuts : cuts_all_after n made events ≡ true)
      (g h : Snapshot) (stands : StandsAfter n made g) (stands' : StandsAfter n events h) (well : IsWellFormed g)
      (well' : IsWellFormed h) (lived : (v : ℕ) → In v (clocks h) → In v (clocks g)) where
    abbrev Standing : ℕ → ℕ → Type 0
    Standing = LivesOn n network made events g h stands stands' well well' lived

    abbrev worse_test : Bool
    worse_test = list_all (stays_or_gets_worse systems before now) (range_with_len 0 (length systems))

    both : (worse_test ≡ true) × (list_all (far_end_moves systems before now) lost ≡ true)
    both = and_parts worse_test (list_all (far_end_moves systems before now) lost) cuts

    -- one that is moved has a worse root
    worse_at : (i v : ℕ) → IsAt n i v → moves_there i ≡ true
        → has_better_root (slice_get before i) (slice_get now i) ≡ true
    worse_at i v at moved =
        elim (or_cases (not (moves_there i)) (has_better_root (slice_get before i) (slice_get now i))
        (each_is (stays_or_gets_worse systems before now) (range_with_len 0 (length systems)) i both.0
        (asked_of n events i at.system at.there))) [
          | inl still ↦ let no : false ≡ true = ap not (sym moved) ∙ still in absurd cc
          | inr worse ↦ worse
        ]

    -- so it doesn't turn
    turns_none : (i v : ℕ) (s : Standing i v) → moves_there i ≡ true → is_turned_at systems before now i ≡ true → ⊥
    turns_none i v s moved turns =
        let less = better_so s.was s.is
        ((λ k. has_better_root (sym s.was_there k) (sym s.is_there k)) ∙ worse_at i v s.at moved) in
        let farther = (and_parts (moves_there i) (goes_farther (slice_get before i) (slice_get now i)) turns).1 in
        let told : goes_farther (Some s.was) (Some s.is) ≡ true =
        (λ k. goes_farther (sym s.was_there k) (sym s.is_there k)) ∙ farther in
        let same = eqb-true s.was.root s.is.root
        (and_parts (s.was.root == s.is.root) (nat_lt s.was.steps s.is.steps) told).0 in
        absurd (omega (arith, less, same))

    abbrev StaysOrIsCut : ℕ → Type 0
    StaysOrIsCut v = IsUnmoved g h v
        ⊎ (((best : System) × (t : Tree) × IsTreeCutOff g h best t × IsBest h v t.next)
        ⊎ ((best : System) × (t : TopsTree) × IsTreeCutTwice g h best t × IsBest h v t.next))

    each : (v : ℕ) → In v (clocks h) → StaysOrIsCut v
    each v known =
        let (i, s) = on_of n network made events g h stands stands' well well' lived v known in
        by i s (moves_there i) refl (is_turned_at systems before now i) refl
      where
        by : (i : ℕ) (s : Standing i v) (moves : Bool) → moves_there i ≡ moves → (turns : Bool)
            → is_turned_at systems before now i ≡ turns → StaysOrIsCut v
        by i s false none turns is =
            inl (unmoved_at n network made events g h stands stands' well well' v (lived v s.known) s.known i s.at none)
        by i s true moved true turns = absurd (turns_none i v s moved turns)
        by i s true moved false none =
            let (best, is) = cut_there n network made events trees g h stands stands' well well' lived i v s.at s.known
            (and_from (moves_there i) (not (is_turned_at systems before now i)) moved (ap not none)) in
            elim is [
              | inl (t, cut, in_v) ↦ inr (inl (best, t, cut, in_v))
              | inr (t, cut, in_v) ↦ inr (inr (best, t, cut, in_v))
            ]

    pub cuts_beyond : CutsAllBeyond g h
    cuts_beyond = record { each = each; beyond = beyond both.1 g h stands stands' well well' lived }

-- ---- the events of a time

module _ (n : NetworkState) (network : IsNetwork n) where
  taken_too : (made now : List Timed) → EachEvent (IsDownToo n) made now → EachEvent (IsTakenToo n) made now
  taken_too made [] each = tt
  taken_too made (event ∷ now) (one, each) = (inr one, taken_too (made ++ event ∷ []) now each)

  -- by the first of them a system fails
  first_taken : (made now : List Timed) → FailsTreesFirst n made now → EachEvent (IsTakenToo n) made now
  first_taken made [] none = absurd none
  first_taken made (event ∷ now) (fails, each) = (
    inl (
      subst (LosesAny n made) (sym fails.act) fails.live,
      λ number value act. let no = sym fails.act ∙ act in absurd cc,
    ),
    taken_too (made ++ event ∷ []) now each,
  )

  pub all_beyond : (made now : List Timed) → AreWell n (made ++ now) → FailsTreesFirst n made now
      → moves_trees_after n made (made ++ now) ≡ true → cuts_all_after n made (made ++ now) ≡ true
      → CutsAllBeyondFrom n made (made ++ now)
  all_beyond made now well fails trees cuts g h stands stands' =
      cuts_beyond n network made (made ++ now) trees cuts g h stands stands' (well made now refl g stands)
      (well (made ++ now) [] (append-nil (made ++ now)) h stands')
      (clock_lived n network made (made ++ now) (all_lived n network made now (first_taken made now fails)) g h stands
      stands')

  -- or several are taken away
  several_too : (made now : List Timed) → TakesSeveral n made now → EachEvent (IsTakenToo n) made now
  several_too made [] none = absurd none
  several_too made (event ∷ []) none = absurd none
  several_too made (event ∷ other ∷ now) (any, each) = (inl any, each)

  pub all_farther : (made now : List Timed) → AreWell n (made ++ now) → TakesSeveral n made now
      → moves_some n made (made ++ now) ≡ false → far_ends_move_after n made (made ++ now) ≡ true
      → LosesFartherFrom n made (made ++ now)
  all_farther made now well takes none far g h stands stands' =
      loses_farther n network made (made ++ now) far g h stands stands' (well made now refl g stands)
      (well (made ++ now) [] (append-nil (made ++ now)) h stands')
      (clock_lived n network made (made ++ now) (all_lived n network made now (several_too made now takes)) g h stands
      stands') none
