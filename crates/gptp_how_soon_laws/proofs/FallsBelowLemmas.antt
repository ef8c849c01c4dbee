-- Where a system gets a worse root, and each other is moved below it or has another root, a tree falls back from one
-- snapshot to the other.
use Rattle.std.proofs.Common.{◌≡◌, ◌⊎◌, ℕ, Bool, true, false, List, length, slice_get, refl, sym, ap, ◌∙◌}
use Rattle.std.specs.Prelude.{◌&&◌, not, if◌then◌else◌}
use Rattle.std.specs.List.{list_all, range_with_len}
use Rattle.std.proofs.lemmas.Bool.{and_parts}
use Rattle.gptp_lists.specs.Members.{In}
use Rattle.gptp_graph.specs.Best.{IsBest}
use Rattle.gptp_graph.specs.Snapshot.{IsWellFormed, Snapshot, System, clocks}
use Rattle.gptp_network.specs.Snapshot.{StandsAfter}
use Rattle.gptp_scenario.specs.Network.{IsNetwork, NetworkState}
use Rattle.gptp_scenario.specs.declared.change.Timed.{Timed}
use Rattle.gptp_topology.specs.After.{systems_after}
use Rattle.gptp_topology.specs.declared.nodes.System as ours
use Rattle.gptp_how_soon.specs.Chosen.{chosen_after, is_moved_at, lost_ends, used_ends}
use Rattle.gptp_how_soon.specs.Tree.{falls_below, has_better_root, has_same_root, is_below, is_below_or_apart}
use Rattle.gptp_how_soon.specs.declared.chosen.Chosen.{Chosen}
use Rattle.gptp_how_soon.specs.declared.chosen.Ends.{Ends}
use Rattle.gptp_how_soon.proofs.ChosenLemmas.{IsAt}
use Rattle.gptp_settling_time.specs.Losses.{IsUnmoved}
use Rattle.gptp_how_soon_laws.proofs.FailedLemmas.{each_is}
use Rattle.gptp_how_soon_laws.proofs.UnmovedLemmas.{asked_of, unmoved_at}
use Rattle.gptp_how_soon_laws.proofs.LivesOnLemmas.{LivesOn, on_of}
use Rattle.gptp_how_soon_laws.proofs.TreeBelowLemmas.{IsTop, below_same, best_so, next}

module _ (n : NetworkState) (network : IsNetwork n) (made events : List Timed) where
  abbrev before : List Chosen
  before = chosen_after n made

  abbrev now : List Chosen
  now = chosen_after n events

  abbrev systems : List ours.System
  systems = systems_after n events

  abbrev links : List Ends
  links = used_ends n events

  abbrev pub is_moved_there : ℕ → Bool
  is_moved_there = is_moved_at systems before now

  -- the tests hold of a top
  pub record FallsBelow (top : ℕ) : Type 0 where
    pub moved : is_moved_there top ≡ true
    pub worse : has_better_root (slice_get before top) (slice_get now top) ≡ true
    pub all : list_all (is_below_or_apart systems links before now top) (range_with_len 0 (length systems)) ≡ true

  pub below_so : (top : ℕ) → falls_below systems links before now top ≡ true → FallsBelow top
  below_so top is =
      let moved_test : Bool = is_moved_there top in
      let worse_test : Bool = has_better_root (slice_get before top) (slice_get now top) in
      let all_test : Bool =
      list_all (is_below_or_apart systems links before now top) (range_with_len 0 (length systems)) in
      let (two, all) = and_parts (moved_test && worse_test) all_test is in
      let (moved, worse) = and_parts moved_test worse_test two in
      record { moved = moved; worse = worse; all = all }

  module _ (top : ℕ) (t : FallsBelow top) where
    abbrev pub in_tree : ℕ → Bool
    in_tree i = has_same_root (slice_get now top) (slice_get now i)

    -- by whether the system at a place is moved
    told_by : (i v : ℕ) → IsAt n i v → (moved : Bool) → is_moved_there i ≡ moved
        → (if moved then is_below links before now top i else not (in_tree i)) ≡ true
    told_by i v at moved is =
        ap (λ b. if b then is_below links before now top i else not (in_tree i)) (sym is)
        ∙ each_is (is_below_or_apart systems links before now top) (range_with_len 0 (length systems)) i t.all
        (asked_of n events i at.system at.there)

    pub moved_below : (i v : ℕ) → IsAt n i v → in_tree i ≡ true
        → (is_moved_there i ≡ true) × (is_below links before now top i ≡ true)
    moved_below i v at inside = by (is_moved_there i) refl
      where
        by : (moved : Bool) → is_moved_there i ≡ moved
            → (is_moved_there i ≡ true) × (is_below links before now top i ≡ true)
        by true is = (is, told_by i v at true is)
        by false is = let no : false ≡ true = ap not (sym inside) ∙ told_by i v at false is in absurd cc

    -- ---- between two snapshots, where none of the tree but the top is at an end of a link that is lost

    module _ (g h : Snapshot) (stands : StandsAfter n made g) (stands' : StandsAfter n events h)
        (well : IsWellFormed g) (well' : IsWellFormed h) (lived : (v : ℕ) → In v (clocks h) → In v (clocks g))
        (clock : ℕ) (at : IsAt n top clock) (known : In clock (clocks h))
        (only_top : (i v : ℕ) → IsAt n i v → in_tree i ≡ true → (e : Ends) → In e (lost_ends n made events)
        → (e.a ≡ i) ⊎ (e.b ≡ i) → i ≡ top) where
      pub is_top : IsTop n network made events g h stands stands' well well' lived top clock
      is_top = record {
        at = at;
        known = known;
        worse = t.worse;
        below = λ i v at_v known_v inside. (moved_below i v at_v inside).1;
        lost = λ i v at_v known_v inside e listed end. only_top i v at_v inside e listed end;
      }

      abbrev last : System
      last = next n network made events g h stands stands' well well' lived top clock is_top

      pub others : (v : ℕ) → In v (clocks h) → (IsBest h v last → ⊥) → IsUnmoved g h v
      others v known_v out =
          let (i, s) = on_of n network made events g h stands stands' well well' lived v known_v in
          by i s (is_moved_there i) refl
        where
          by : (i : ℕ) (s : LivesOn n network made events g h stands stands' well well' lived i v) (moved : Bool)
              → is_moved_there i ≡ moved → IsUnmoved g h v
          by i s true moved =
              absurd (out (best_so n network made events g h stands stands' well well' lived top clock is_top i v s
              (below_same n network made events g h stands stands' well well' lived top i
              (told_by i v s.at true moved))))
          by i s false moved =
              unmoved_at n network made events g h stands stands' well well' v (lived v known_v) known_v i s.at moved
