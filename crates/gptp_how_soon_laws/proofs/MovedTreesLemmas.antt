-- Where the tests of trees that are moved as a system fails hold, they are so from one snapshot to the other.
use Rattle.std.proofs.Common.{◌≡◌, ◌≤◌, ◌⊎◌, inl, inr, ℕ, Bool, true, false, List, [], ◌∷◌, ◌++◌, slice_get, refl, sym, ap, subst, ◌∙◌, append-nil, arith}
use Rattle.std.specs.Prelude.{not}
use Rattle.std.proofs.lemmas.Bool.{and_from, and_parts}
use Rattle.gptp_lists.specs.Members.{In}
use Rattle.gptp_lists.proofs.SystemSpecLemmas.{In-map}
use Rattle.gptp_bmca_machine.specs.CutTree.{Tree}
use Rattle.gptp_bmca_machine.specs.FailureTrees.{Turning}
use Rattle.gptp_bmca_machine.specs.TwoTops.{First, TopsTree}
use Rattle.gptp_graph.specs.Best.{IsBest}
use Rattle.gptp_graph.specs.Snapshot.{Adjacent, IsWellFormed, Snapshot, System, clocks, port_of}
use Rattle.gptp_graph.proofs.BestLemmas.{IsBest-neighbour, IsBest-unique}
use Rattle.gptp_graph.proofs.LinkLemmas.{Adjacent-clock}
use Rattle.gptp_network.specs.Snapshot.{StandsAfter}
use Rattle.gptp_scenario.specs.Network.{IsNetwork, NetworkState}
use Rattle.gptp_scenario.specs.SyncWait.{sync_paths}
use Rattle.gptp_scenario.specs.declared.change.Timed.{Timed}
use Rattle.gptp_topology.specs.After.{systems_after}
use Rattle.gptp_topology.specs.declared.nodes.System as ours
use Rattle.gptp_how_soon.specs.Chosen.{chosen_after, ends_of, is_moved_at, used_ends}
use Rattle.gptp_how_soon.specs.Losses.{fails_first}
use Rattle.gptp_how_soon.specs.MovedTrees.{moves_trees_after}
use Rattle.gptp_how_soon.specs.Times.{told_of}
use Rattle.gptp_how_soon.specs.Tree.{has_better_root, has_same_root}
use Rattle.gptp_how_soon.specs.TurnedTree.{falls_at, is_turned_at}
use Rattle.gptp_how_soon.specs.declared.chosen.Chosen.{Chosen}
use Rattle.gptp_how_soon.specs.declared.chosen.Ends.{Ends}
use Rattle.gptp_how_soon.proofs.ChosenLemmas.{IsAt, at_clock, one_clock}
use Rattle.gptp_settling_time.specs.HowSoon.{FailsTreesFirst}
use Rattle.gptp_settling_time.specs.Losses.{IsUnmoved}
use Rattle.gptp_settling_time.specs.TreeLosses.{IsTreeCutOff, IsTreeCutTwice, IsTreeTurned, IsUnmovedOrInTree, MovesTreesFrom}
use Rattle.gptp_how_soon_laws.proofs.FailedLemmas.{Fails, clock_before, fails, first_delay, first_paths, others, parts, stands_on}
use Rattle.gptp_how_soon_laws.proofs.ToldLemmas.{loss_fails}
use Rattle.gptp_how_soon_laws.proofs.TreeBelowLemmas.{IsTop, best_so, cut_off, tree}
use Rattle.gptp_how_soon_laws.proofs.LivesOnLemmas.{LivesOn, on_at, on_of}
use Rattle.gptp_how_soon_laws.proofs.LostEndLemmas as lost_ends
use Rattle.gptp_how_soon_laws.proofs.LostLinkLemmas.{joined_by, joins_or_lost, lost_at, used_links}
use Rattle.gptp_how_soon_laws.proofs.MovedTreesTestLemmas as tests
use Rattle.gptp_how_soon_laws.proofs.TreeTestLemmas.{better_so, same_so}
use Rattle.gptp_how_soon_laws.proofs.TurnedTreeTestLemmas.{TurnsAt, part_turns, turned_moves, turns_at}
use Rattle.gptp_how_soon_laws.proofs.TwoTopsLemmas as two_tops
use Rattle.gptp_how_soon_laws.proofs.TurnsBelowLemmas.{HasTurned, has_turned, turning}
use Rattle.gptp_how_soon_laws.proofs.UnmovedLemmas.{AreWell, unmoved_at}
use Rattle.gptp_how_soon_laws.proofs.WorseningLemmas.{same_system}

module _ (n : NetworkState) (network : IsNetwork n) (made events : List Timed) where
  abbrev before : List Chosen
  before = chosen_after n made

  abbrev now : List Chosen
  now = chosen_after n events

  abbrev systems : List ours.System
  systems = systems_after n events

  abbrev links : List Ends
  links = used_ends n events

  abbrev is_moved_there : ℕ → Bool
  is_moved_there = is_moved_at systems before now

  abbrev turns_there : ℕ → Bool
  turns_there = is_turned_at systems before now

  abbrev falls_there : ℕ → Bool
  falls_there = falls_at systems before now

  abbrev names : List Chosen
  names = tests.names n network made events

  abbrev part_there : ℕ → ℕ → Bool
  part_there = tests.part_there n network made events

  turns_moves : (i : ℕ) → turns_there i ≡ true → is_moved_there i ≡ true
  turns_moves = turned_moves n network made events

  part_is_turned : (top i : ℕ) → part_there top i ≡ true → turns_there i ≡ true
  part_is_turned = part_turns n network made events names

  falls_moves : (i : ℕ) → falls_there i ≡ true → is_moved_there i ≡ true
  falls_moves = tests.falls_moves n network made events

  abbrev IsLostEnd : ℕ → Type 0
  IsLostEnd = tests.IsLostEnd n network made events

  abbrev is_top_there : ℕ → Bool
  is_top_there = tests.is_top_there n network made events

  abbrev OneTop : ℕ → Type 0
  OneTop = tests.OneTop n network made events

  abbrev TwoTops : ℕ → Type 0
  TwoTops = tests.TwoTops n network made events

  -- a top falls, at an end of a link that is lost
  top_parts : (top : ℕ) → is_top_there top ≡ true → IsLostEnd top × (falls_there top ≡ true)
  top_parts = tests.top_parts n network made events

  top_moves : (top : ℕ) → is_top_there top ≡ true → is_moved_there top ≡ true
  top_moves top is = falls_moves top (top_parts top is).1

  module _ (splits : moves_trees_after n made events ≡ true) where
    abbrev Agree : ℕ → ℕ → Type 0
    Agree = tests.Agree n network made events splits

    moved_agree : (i j : ℕ) → IsLostEnd i → IsLostEnd j → is_moved_there i ≡ true → is_moved_there j ≡ true → Agree i j
    moved_agree = tests.moved_agree n network made events splits

    under : (i v : ℕ) → IsAt n i v → falls_there i ≡ true → tests.Under n network made events splits i
    under = tests.under n network made events splits

    tree_at : (top v : ℕ) → IsAt n top v → is_top_there top ≡ true → OneTop top ⊎ TwoTops top
    tree_at = tests.tree_at n network made events splits

    -- ---- between two snapshots

    module _ (g h : Snapshot) (stands : StandsAfter n made g) (stands' : StandsAfter n events h)
        (well : IsWellFormed g) (well' : IsWellFormed h) (lived : (v : ℕ) → In v (clocks h) → In v (clocks g)) where
      abbrev On : ℕ → ℕ → Type 0
      On = LivesOn n network made events g h stands stands' well well' lived

      on : (v : ℕ) → In v (clocks h) → (i : ℕ) × On i v
      on = on_of n network made events g h stands stands' well well' lived

      abbrev on_there : (i v : ℕ) → IsAt n i v → In v (clocks h) → On i v
      on_there = on_at n network made events g h stands stands' well well' lived

      moved_lives : (i v : ℕ) → IsAt n i v → is_moved_there i ≡ true → In v (clocks h)
      moved_lives = lost_ends.moved_lives n network made events g h stands stands' well well'

      at_end : (i : ℕ) → IsLostEnd i → (v : ℕ) × IsAt n i v
      at_end = lost_ends.at_end n network made events g h stands stands' well well'

      abbrev IsTopOf : ℕ → ℕ → Type 0
      IsTopOf = IsTop n network made events g h stands stands' well well' lived

      is_top : (place : ℕ) (o : OneTop place) (clock : ℕ) → IsAt n o.top clock → In clock (clocks h)
          → IsTopOf o.top clock
      is_top place o clock at known = record {
        at = at;
        known = known;
        worse = o.worse;
        below = λ i w here known_w same. (tests.below_one n network made events place o i w here same).1;
        lost = λ i w here known_w same e listed end.
            tests.only_one n network made events place o i w here same
            (record { ends = e; listed = listed; end = end });
      }

      -- ---- the best of before

      -- two that had one root had one best
      same_best : (i j v u : ℕ) (a : On i v) (b : On j u)
          → has_same_root (slice_get before i) (slice_get before j) ≡ true → a.chose.best ≡ b.chose.best
      same_best i j v u a b is =
          let same = same_so before i j a.was b.was a.was_there b.was_there is in
          same_system n network made made g g stands stands a.chose.best b.chose.best a.chose.is_best.live
          b.chose.is_best.live (sym a.chose.root ∙ same ∙ b.chose.root)

      -- a system that is moved at an end of a link that is lost
      record TopOf : Type 0 where
        top : ℕ
        clock : ℕ
        at : IsAt n top clock
        known : In clock (clocks h)
        lost_end : IsLostEnd top
        moves : is_moved_there top ≡ true

      abbrev on_top_of : (t : TopOf) → On t.top t.clock
      on_top_of t = on_there t.top t.clock t.at t.known

      abbrev best_of : TopOf → System
      best_of t = (on_top_of t).chose.best

      top_of : (top : ℕ) → IsLostEnd top → is_moved_there top ≡ true → TopOf
      top_of top x moves =
          let (clock, at) = at_end top x in
          let known = moved_lives top clock at moves in
          record { top = top; clock = clock; at = at; known = known; lost_end = x; moves = moves }

      cut_top : (top : ℕ) → is_top_there top ≡ true → TopOf
      cut_top top is = top_of top (top_parts top is).0 (top_moves top is)

      -- one at which a tree turns
      record TurnedTop : Type 0 where
        of : TopOf
        turns : TurnsAt n network made events names of.top

      -- all had one best
      one_best : (t u : TopOf) → best_of t ≡ best_of u
      one_best t u =
          same_best t.top u.top t.clock u.clock (on_top_of t) (on_top_of u)
          (moved_agree t.top u.top t.lost_end u.lost_end t.moves u.moves).root

      -- ---- trees that are cut off

      -- a system is in one, with one top or two
      abbrev IsCutAt : System → ℕ → Type 0
      IsCutAt b v = ((s : Tree) × IsTreeCutOff g h b s × IsBest h v s.next)
          ⊎ ((s : TopsTree) × IsTreeCutTwice g h b s × IsBest h v s.next)

      -- the roots of the system and of the tops, by that of the place at which these were asked for
      root_back : (i place top : ℕ) → has_same_root (slice_get now i) (slice_get now place) ≡ true
          → has_same_root (slice_get now place) (slice_get now top) ≡ true
          → has_same_root (slice_get now top) (slice_get now i) ≡ true
      root_back i place top own with_top =
          tests.same_turned (slice_get now i) (slice_get now top)
          (tests.same_on (slice_get now i) (slice_get now place) (slice_get now top) own with_top)

      in_one : (place : ℕ) (o : OneTop place) (i v : ℕ) → On i v
          → has_same_root (slice_get now i) (slice_get now place) ≡ true → (b : System) → ((t : TopOf) → best_of t ≡ b)
          → (s : Tree) × IsTreeCutOff g h b s × IsBest h v s.next
      unfolding cut_top top_of is_top
      in_one place o i v s own b tops =
          let (is, same) = tests.of_tops n network made events place o.top
          (subst (In o.top) (sym o.tops) (inl refl)) in
          let t = cut_top o.top is in
          let x : IsTopOf o.top t.clock = is_top place o t.clock t.at t.known in (
            tree n network made events g h stands stands' well well' lived o.top t.clock x,
            subst (λ c. IsTreeCutOff g h c
                (tree n network made events g h stands stands' well well' lived o.top t.clock x)) (tops t)
                (cut_off n network made events g h stands stands' well well' lived o.top t.clock x),
            best_so n network made events g h stands stands' well well' lived o.top t.clock x i v s
                (root_back i place o.top own same),
          )

      in_two : (place : ℕ) (t : TwoTops place) (i v : ℕ) → On i v
          → has_same_root (slice_get now i) (slice_get now place) ≡ true → (b : System) → ((u : TopOf) → best_of u ≡ b)
          → (s : TopsTree) × IsTreeCutTwice g h b s × IsBest h v s.next
      unfolding cut_top top_of
      in_two place t i v s own b tops =
          let (is, same) = tests.of_tops n network made events place t.first
          (subst (In t.first) (sym t.tops) (inl refl)) in
          let u = cut_top t.first is in
          let clock : ℕ =
          two_tops.top_clock n network made events place t g h stands stands' well well' lived First in
          let first : On t.first clock =
          two_tops.first_on n network made events place t g h stands stands' well well' lived in
          let lost = (top_parts t.first is).0 in
          let moves = top_moves t.first is in
          let one : first.chose.best ≡ best_of u =
          same_best t.first t.first clock u.clock first (on_top_of u)
          (moved_agree t.first t.first lost lost moves moves).root in
          two_tops.in_twice n network made events place t g h stands stands' well well' lived b (one ∙ tops u) i v s
          (root_back i place t.first own same)

      cut_at : (i v : ℕ) → IsAt n i v → In v (clocks h) → falls_there i ≡ true → (b : System)
          → ((t : TopOf) → best_of t ≡ b) → IsCutAt b v
      cut_at i v at known falls b tops =
          let u = under i v at falls in
          elim (tree_at u.top (at_end u.top (top_parts u.top u.is_top).0).0
          (at_end u.top (top_parts u.top u.is_top).0).1 u.is_top) [
            | inl one ↦ inl (in_one u.top one i v (on_there i v at known) u.same b tops)
            | inr two ↦ inr (in_two u.top two i v (on_there i v at known) u.same b tops)
          ]

      -- one that falls is in such a tree
      pub cut_there : (i v : ℕ) → IsAt n i v → In v (clocks h) → falls_there i ≡ true → (b : System) × IsCutAt b v
      cut_there i v at known falls =
          let u = under i v at falls in
          let t = cut_top u.top u.is_top in
          (best_of t, cut_at i v at known falls (best_of t) (λ other. one_best other t))

      -- who is moved has one
      top_for : (i v : ℕ) → IsAt n i v → is_moved_there i ≡ true → TopOf
      top_for i v at moves = by (turns_there i) refl
        where
          by : (turns : Bool) → turns_there i ≡ turns → TopOf
          by true turns =
              let w = tests.has_end n network made events splits i v at turns in
              top_of w.top w.lost_end (turns_moves w.top w.turns)
          by false none =
              let u = under i v at (and_from (is_moved_there i) (not (turns_there i)) moves (ap not none)) in
              cut_top u.top u.is_top

      -- some top is known, or no system is moved
      first_top : (vs : List ℕ) → ((v : ℕ) → In v vs → In v (clocks h))
          → TopOf ⊎ ((v : ℕ) → In v vs → (i : ℕ) → IsAt n i v → is_moved_there i ≡ false)
      first_top [] within = inr (λ v none. absurd none)
      first_top (v ∷ vs) within =
          let (i, s) = on v (within v (inl refl)) in
          by i s.at (is_moved_there i) refl (first_top vs (λ u member. within u (inr member)))
        where
          by : (i : ℕ) (at : IsAt n i v) (moves : Bool) → is_moved_there i ≡ moves
              → TopOf ⊎ ((u : ℕ) → In u vs → (j : ℕ) → IsAt n j u → is_moved_there j ≡ false)
              → TopOf ⊎ ((u : ℕ) → In u (v ∷ vs) → (j : ℕ) → IsAt n j u → is_moved_there j ≡ false)
          by i at true is rest = inl (top_for i v at is)
          by i at false is (inl t) = inl t
          by i at false is (inr none) = inr (λ u member j there. elim member [
            | inl same ↦
                let own = subst (IsAt n j) same there in
                let one : j ≡ i =
                network.clocks j i own.system at.system own.there at.there (own.clock ∙ sym at.clock) in
                ap is_moved_there one ∙ is
            | inr behind ↦ none u behind j there
          ])

      -- ---- the tree that turns

      module _ (x : TurnedTop) where
        abbrev top : ℕ
        top = x.of.top

        abbrev on_top : On top x.of.clock
        on_top = on_top_of x.of

        abbrev own : Turning
        own =
            turning n network made events names top x.of.clock x.turns g h stands stands' well well' lived on_top

        abbrev had : System
        had = on_top.chose.best

        abbrev has : HasTurned n (part_there top) g h had own
        has =
            has_turned n network made events names top x.of.clock x.turns g h stands stands' well well' lived on_top

        -- a system of it has its best
        keeps_root : (i v : ℕ) (s : On i v) → IsBest h v had → s.is.root ≡ had.identity
        keeps_root i v s is_best =
            let one = IsBest-unique h v had s.chooses.best well' is_best s.chooses.is_best in
            s.chooses.root ∙ ap (λ (b : System). b.identity) (sym one)

        -- of it the top alone is at an end of a link that is lost
        only_top : (i v : ℕ) (s : On i v) → In v own.tree → IsLostEnd i → v ≡ x.of.clock
        only_top i v s in_v end =
            let inside = has.turned_of i v s.at in_v in
            let moves = turns_moves i (part_is_turned top i inside) in
            let top_turns = part_is_turned top top x.turns.turns in
            let one = (moved_agree top i x.of.lost_end end x.of.moves moves).one top_turns inside in
            one_clock n network made g stands well top v x.of.clock (subst (λ k. IsAt n k v) (sym one) s.at) x.of.at

        lost_so : (v u : ℕ) → In v own.tree → Adjacent g v u → Adjacent h v u ⊎ (v ≡ x.of.clock)
        lost_so v u in_v (p, q, joins) =
            let (i, s) = on v (has.lives v in_v) in
            let (j, at_u) =
            at_clock n network made g stands well u (Adjacent-clock g v u well (p, q, joins)) in
            elim (joins_or_lost n network made g stands well events h stands' well' i j (port_of v p) (port_of u q) s.at
            at_u joins) [
              | inl still ↦ inl (p, q, still)
              | inr lost ↦ inr (only_top i v s in_v (record {
                ends = lost.ends;
                listed = lost.listed;
                end = lost_at n network made g stands well events h stands' well' i j lost;
              }))
            ]

        -- no system with the best of it falls: all tops had that, and what falls has a worse one
        falls_apart : (i v : ℕ) (s : On i v) → IsBest h v had → falls_there i ≡ true → ⊥
        unfolding cut_top top_of
        falls_apart i v s is_best falls =
            let u = under i v s.at falls in
            let (clock, at) = at_end u.top (top_parts u.top u.is_top).0 in
            let m = tests.main_top n network made events u.top (tree_at u.top clock at u.is_top) in
            let t = cut_top m.top m.is_top in
            apart t m.worse (root_back i u.top m.top u.same m.same)
          where
            apart : (t : TopOf) → has_better_root (slice_get before t.top) (slice_get now t.top) ≡ true
                → has_same_root (slice_get now t.top) (slice_get now i) ≡ true → ⊥
            apart t worse same =
                let o = on_top_of t in
                let less = better_so o.was o.is
                ((λ k. has_better_root (sym o.was_there k) (sym o.is_there k)) ∙ worse) in
                let first = same_so before t.top top o.was on_top.was o.was_there on_top.was_there
                (moved_agree t.top top t.lost_end x.of.lost_end t.moves x.of.moves).root in
                let last = same_so now t.top i o.is s.is o.is_there s.is_there same in
                let here = keeps_root i v s is_best in
                let there = on_top.chose.root in
                absurd (omega (arith, less, first, last, here, there))

        out_unmoved : IsUnmoved g h own.out
        out_unmoved =
            let known = Adjacent-clock h own.last own.out well' has.joined in
            let (i, s) = on own.out known in
            by i s (is_moved_there i) refl (turns_there i) refl
          where
            -- if it turned it would be of this part
            of_part : (i : ℕ) (s : On i own.out) → turns_there i ≡ true → part_there top i ≡ true
            of_part i s turns =
                let (p, q, joins) = has.joined in
                let (j, r) = on own.last (has.lives own.last has.in_last) in
                let inside = has.turned_of j own.last r.at has.in_last in
                let last_turns = part_is_turned top j inside in
                let link = joined_by n network made g stands well events h stands' well' j i (port_of own.last p)
                (port_of own.out q) r.at s.at joins in
                let listed = In-map (ends_of n) link.wire (used_links n events) link.among in
                let named : has_same_root (slice_get names j) (slice_get names i) ≡ true = elim link.by [
                  | inl (ends, is) ↦ at_ends j i (ends_of n link.wire) listed ends last_turns turns
                  | inr (ends, is) ↦ tests.same_turned (slice_get names i) (slice_get names j)
                      (at_ends i j (ends_of n link.wire) listed ends turns last_turns)
                ] in
                let with_top = (and_parts (turns_there j) (has_same_root (slice_get names top) (slice_get names j))
                inside).1 in
                and_from (turns_there i) (has_same_root (slice_get names top) (slice_get names i)) turns
                (tests.same_on (slice_get names top) (slice_get names j) (slice_get names i) with_top named)
              where
                at_ends : (a b : ℕ) (e : Ends) → In e links → e ≡ record { a = a; b = b } → turns_there a ≡ true
                    → turns_there b ≡ true → has_same_root (slice_get names a) (slice_get names b) ≡ true
                at_ends a b e listed same is is' =
                    tests.same_part n network made events splits (record { a = a; b = b })
                    (subst (λ d. In d links) same listed) is is'

            out_best : IsBest h own.out had
            out_best = IsBest-neighbour h own.last own.out had well' has.joined (has.is_best own.last has.in_last)

            by : (i : ℕ) (s : On i own.out) (moves : Bool) → is_moved_there i ≡ moves → (turns : Bool)
                → turns_there i ≡ turns → IsUnmoved g h own.out
            by i s false none turns is =
                unmoved_at n network made events g h stands stands' well well' own.out (lived own.out s.known) s.known i
                s.at none
            by i s true moves true turns = absurd (has.outside (has.member i own.out s.at s.known (of_part i s turns)))
            by i s true moves false none =
                absurd (falls_apart i own.out s out_best
                (and_from (is_moved_there i) (not (turns_there i)) moves (ap not none)))

        is_turned : IsTreeTurned g h had own
        is_turned = record {
          in_top = has.in_top;
          lives = has.lives;
          was_best = has.was_best;
          is_best = has.is_best;
          was = has.was;
          farther = has.farther;
          first = has.first;
          lost = lost_so;
          steps = has.steps;
          single = has.single;
          leaves = has.leaves;
          in_last = has.in_last;
          outside = has.outside;
          unmoved = out_unmoved;
          joined = has.joined;
          one_way = has.one_way;
        }

        in_turned : (i v : ℕ) → IsAt n i v → In v (clocks h) → part_there top i ≡ true → (b : System) → had ≡ b
            → (t : Turning) × IsTreeTurned g h b t × In v t.tree
        in_turned i v at known inside b same =
            (own, subst (λ c. IsTreeTurned g h c own) same is_turned, has.member i v at known inside)

      -- who turns is in such a tree
      turned_at : (i v : ℕ) → IsAt n i v → In v (clocks h) → turns_there i ≡ true → (b : System)
          → ((t : TopOf) → best_of t ≡ b) → (t : Turning) × IsTreeTurned g h b t × In v t.tree
      unfolding top_of
      turned_at i v at known turns b tops =
          let w = tests.has_end n network made events splits i v at turns in
          by w.inside (top_of w.top w.lost_end (turns_moves w.top w.turns)) refl
          (turns_at n network made events names w.top
          (tests.tree_below n network made events splits w.top w.lost_end w.turns))
        where
          by : {top : ℕ} → part_there top i ≡ true → (t : TopOf) → t.top ≡ top → TurnsAt n network made events names top
              → (t : Turning) × IsTreeTurned g h b t × In v t.tree
          by inside t same below =
              in_turned (record { of = t; turns = subst (TurnsAt n network made events names) (sym same) below }) i v at
              known (subst (λ k. part_there k i ≡ true) (sym same) inside) b (tops t)

      -- ---- all

      each_by : (b : System) → ((t : TopOf) → best_of t ≡ b) → (v : ℕ) → In v (clocks h) → IsUnmovedOrInTree g h b v
      each_by b tops v known = let (i, s) = on v known in by i s (is_moved_there i) refl (turns_there i) refl
        where
          by : (i : ℕ) (s : On i v) (moves : Bool) → is_moved_there i ≡ moves → (turns : Bool)
              → turns_there i ≡ turns → IsUnmovedOrInTree g h b v
          by i s false none turns is =
              inl (unmoved_at n network made events g h stands stands' well well' v (lived v known) known i s.at none)
          by i s true moves true turns = inr (inr (inl (turned_at i v s.at known turns b tops)))
          by i s true moves false none =
              let falls = and_from (is_moved_there i) (not (turns_there i)) moves (ap not none) in
              elim (cut_at i v s.at known falls b tops) [
                | inl cut ↦ inr (inl cut)
                | inr twice ↦ inr (inr (inr twice))
              ]

      pub split_so : (b : System) × ((v : ℕ) → In v (clocks h) → IsUnmovedOrInTree g h b v)
      split_so = by (first_top (clocks h) (λ v member. member))
        where
          by : TopOf ⊎ ((v : ℕ) → In v (clocks h) → (i : ℕ) → IsAt n i v → is_moved_there i ≡ false)
              → (b : System) × ((v : ℕ) → In v (clocks h) → IsUnmovedOrInTree g h b v)
          by (inl t) = (best_of t, each_by (best_of t) (λ u. one_best u t))
          by (inr none) =
              let b : System = record { clock = 0; identity = 0; ports = 0 } in (
                b,
                each_by b (λ t.
                    let no : true ≡ false = sym t.moves ∙ none t.clock t.known t.top t.at in absurd cc),
              )

-- ---- the events of a time

pub fails_trees_first : (n : NetworkState) (network : IsNetwork n) (made now : List Timed) → AreWell n (made ++ now)
    → moves_trees_after n made (made ++ now) ≡ true
    → (sync_paths n (made ++ now)).delay ≤ (sync_paths n made).delay
    → (sync_paths n (made ++ now)).systems ≤ (sync_paths n made).systems
    → (sync_paths n made).systems ≤ 255
    → fails_first (told_of n made now) ≡ true
    → FailsTreesFirst n made now
fails_trees_first n network made [] well moves delay paths few is = absurd cc
fails_trees_first n network made (event ∷ events) well moves delay paths few is =
    let failing = (parts n network made event events delay paths few is).0 in
    let x : Fails n network made event = fails n network made event failing in (
      record {
        clock = x.clock;
        act = x.act;
        live = loss_fails n network made x.clock x.loss;
        moves = moves_from;
        delay = first_delay n network made event events delay paths few is;
        paths = first_paths n network made event events delay paths few is;
        few = few;
      },
      others n network made event events delay paths few is,
    )
  where
    moves_from : MovesTreesFrom n made event
    moves_from g h stands stands' =
        let failing = (parts n network made event events delay paths few is).0 in
        let x : Fails n network made event = fails n network made event failing in
        let last = stands_on n network made event events delay paths few is h stands' in
        let all : List Timed = made ++ event ∷ events in
        let well_g = well made (event ∷ events) refl g stands in
        let well_h = well all [] (append-nil all) h last in
        let lived = clock_before n network made event x g h stands stands' in
        split_so n network made all moves g h stands last well_g well_h lived
