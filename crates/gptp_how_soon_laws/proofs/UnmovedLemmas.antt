-- Where no system is moved by the events of a time, of which no other than a priority1 makes something of what stands,
-- none is moved by any of them: identities only rise, and links stay.
use Rattle.std.proofs.Common.{◌≡◌, ◌<◌, ◌≤◌, inl, inr, ◌+◌, ◌^◌, ◌%◌, ℕ, true, false, suc, List, [], ◌∷◌, ◌++◌, zero, Some, length, slice_get, refl, sym, ap, subst, ◌∙◌, append-nil, append_assoc, arith}
use Rattle.std.specs.Prelude.{◌==◌, ◌&&◌}
use Rattle.std.specs.List.{list_all, range_with_len}
use Rattle.std.proofs.lemmas.Bool.{and_parts, eqb-true, not-false}
use Rattle.gptp_lists.specs.Members.{In}
use Rattle.gptp_lists.proofs.MappedLemmas.{mapped_there}
use Rattle.gptp_lists.proofs.PlaceLemmas.{same_place}
use Rattle.gptp_lists.proofs.SystemSpecLemmas.{from_map}
use Rattle.gptp_graph.specs.Best.{IsBest}
use Rattle.gptp_graph.specs.Path.{Reaches}
use Rattle.gptp_graph.specs.Snapshot.{IsWellFormed, Snapshot, System, clocks}
use Rattle.gptp_graph.specs.Distance.{IsDistance}
use Rattle.gptp_graph.proofs.BestLemmas.{IsBest-unique}
use Rattle.gptp_graph.proofs.DistanceLemmas.{IsDistance-unique}
use Rattle.gptp_graph.proofs.SystemLemmas.{In-clocks}
use Rattle.gptp_scenario.specs.Change.{system_after}
use Rattle.gptp_scenario.specs.Network.{IsNetwork, NetworkState}
use Rattle.gptp_scenario.specs.SyncWait.{sync_paths}
use Rattle.gptp_scenario.specs.declared.change.Timed.{Timed}
use Rattle.gptp_scenario.specs.declared.network.SystemSpec.{SystemSpec}
use Rattle.gptp_scenario.specs.declared.sync_wait.SyncPaths.{SyncPaths}
use Rattle.gptp_network.specs.Snapshot.{StandsAfter}
use Rattle.gptp_network.proofs.ExistenceLemmas.{stands_after}
use Rattle.gptp_topology.specs.After.{system_then, systems_after}
use Rattle.gptp_topology.specs.declared.nodes.System as ours
use Rattle.gptp_how_soon.specs.Chosen.{chosen_after, differs, is_joined, is_joined_moved_at, is_moved, is_moved_at, moves_joined, moves_some, used_ends}
use Rattle.gptp_how_soon.specs.Kinds.{leaves_links}
use Rattle.gptp_how_soon.specs.Times.{told_at, told_of}
use Rattle.gptp_how_soon.specs.declared.chosen.Chosen.{Chosen}
use Rattle.gptp_how_soon.proofs.ChosenLemmas.{IsAt, IsSettledChoice, at_clock, chosen_there, settled_choice}
use Rattle.gptp_settling_time.specs.HowSoon.{EachEvent, IsStillEvent}
use Rattle.gptp_settling_time.specs.Losses.{IsUnmoved, MovesNone}
use Rattle.gptp_settling_time.proofs.SameBestLemmas.{HaveSameBests, distance_over}
use Rattle.gptp_settling_time.proofs.SamePathsLemmas.{StandAlike, paths_same}
use Rattle.gptp_how_soon_laws.proofs.ReadyLemmas.{none_any}
use Rattle.gptp_how_soon_laws.proofs.WorseningLemmas.{IsKind, OnlyWorsen, alike_back, clock_over, joins_over, kind_is, lives_of, reach_over, rises_over, same_system, worsen_all, worsen_both, worsen_none, worsen_one}

-- ---- what a system chose at first and at last

-- the place is among the first ones
in_range : (first count place : ℕ) → first ≤ place → place < first + count → In place (range_with_len first count)
in_range first zero place least most = absurd (omega (arith, least, most))
in_range first (suc count) place least most = elim (same_place place first) [
  | inl same ↦ inl same
  | inr apart ↦ inr (in_range (first + 1) count place (omega (arith, least, apart)) (omega (arith, most)))
]

-- the place of each member of a list is one of those that are asked
pub place_in_range : {X : Type 0} (xs : List X) (i : ℕ) (x : X) → slice_get xs i ≡ Some x
    → In i (range_with_len 0 (length xs))
place_in_range {X} xs i x there =
    let less = bound xs i there in in_range 0 (length xs) i (omega arith) (omega (arith, less))
  where
    bound : (ys : List X) (place : ℕ) → slice_get ys place ≡ Some x → place < length ys
    bound [] place is = absurd cc
    bound (y ∷ ys) zero is = omega arith
    bound (y ∷ ys) (suc place) is = let rest = bound ys place is in omega (arith, rest)

-- so is that of each system
pub asked_of : (n : NetworkState) (all : List Timed) (i : ℕ) (m : SystemSpec) → slice_get n.systems i ≡ Some m
    → In i (range_with_len 0 (length (systems_after n all)))
asked_of n all i m there =
    place_in_range (systems_after n all) i (system_then all m) (mapped_there (system_then all) n.systems i m there)

-- where none is moved none is so there; nor is one that isn't cut off, where none of these is
none_there : (n : NetworkState) (first all : List Timed) → moves_some n first all ≡ false → (i : ℕ) (m : SystemSpec)
    → slice_get n.systems i ≡ Some m
    → is_moved_at (systems_after n all) (chosen_after n first) (chosen_after n all) i ≡ false
none_there n first all unmoved i m there =
    none_any (is_moved_at (systems_after n all) (chosen_after n first) (chosen_after n all))
    (range_with_len 0 (length (systems_after n all))) i unmoved (asked_of n all i m there)

pub none_joined_there : (n : NetworkState) (first all : List Timed) → moves_joined n first all ≡ false → (i : ℕ)
    (m : SystemSpec) → slice_get n.systems i ≡ Some m → is_joined (used_ends n all) i ≡ true
    → is_moved_at (systems_after n all) (chosen_after n first) (chosen_after n all) i ≡ false
none_joined_there n first all unmoved i m there joined =
    let none = none_any
    (is_joined_moved_at (systems_after n all) (used_ends n all) (chosen_after n first) (chosen_after n all))
    (range_with_len 0 (length (systems_after n all))) i unmoved (asked_of n all i m there) in
    ap (λ b. b && is_moved_at (systems_after n all) (chosen_after n first) (chosen_after n all) i) (sym joined) ∙ none

module _ (n : NetworkState) (network : IsNetwork n) (first all : List Timed) (g0 gk : Snapshot)
    (stands0 : StandsAfter n first g0) (standsk : StandsAfter n all gk) (well0 : IsWellFormed g0)
    (wellk : IsWellFormed gk) (v : ℕ) (known0 : In v (clocks g0)) (known : In v (clocks gk)) where
  -- it is the same
  pub record ChoosesSo : Type 0 where
    pub before : Chosen
    pub now : Chosen
    pub was : IsSettledChoice n network first g0 stands0 well0 v before
    pub is : IsSettledChoice n network all gk standsk wellk v now
    pub root : before.root ≡ now.root
    pub steps : before.steps ≡ now.steps

  lives_at : (i : ℕ) (at : IsAt n i v) → (system_after all at.system).live ≡ true
  lives_at i at =
      let (s, live, named) = from_map (λ (t : System). t.clock) v gk.systems known in
      lives_of n network all gk standsk s live i at.system at.there (at.clock ∙ sym named)

  both_stay : (o : ours.System) (before now : Chosen) → (o.lives && differs before now) ≡ false → o.lives ≡ true
      → (before.root ≡ now.root) × (before.steps ≡ now.steps)
  both_stay o before now none live =
      let same : differs before now ≡ false =
      ap (λ b. b && differs before now) (sym live) ∙ none in
      let both = not-false ((before.root == now.root) && (before.steps == now.steps)) same in
      let (root, steps) = and_parts (before.root == now.root) (before.steps == now.steps) both in
      (eqb-true before.root now.root root, eqb-true before.steps now.steps steps)

  -- where it isn't moved
  chooses_at : (i : ℕ) (at : IsAt n i v)
      → is_moved_at (systems_after n all) (chosen_after n first) (chosen_after n all) i ≡ false → ChoosesSo
  chooses_at i at none =
      let (b, there0) = chosen_there n network first g0 stands0 well0 i v at in
      let (c, therek) = chosen_there n network all gk standsk wellk i v at in
      let o : ours.System = system_then all at.system in
      let there : slice_get (systems_after n all) i ≡ Some o =
      mapped_there (system_then all) n.systems i at.system at.there in
      let here : (o.lives && differs b c) ≡ false =
      (λ k. is_moved (sym there k) (sym there0 k) (sym therek k)) ∙ none in
      let (root, steps) = both_stay o b c here (lives_at i at) in
      record {
        before = b;
        now = c;
        was = settled_choice n network first g0 stands0 well0 i v at known0 b there0;
        is = settled_choice n network all gk standsk wellk i v at known c therek;
        root = root;
        steps = steps;
      }

  chooses_so : moves_some n first all ≡ false → ChoosesSo
  chooses_so unmoved =
      let (i, at) = at_clock n network all gk standsk wellk v known in
      chooses_at i at (none_there n first all unmoved i at.system at.there)

  unmoved_so : ChoosesSo → IsUnmoved g0 gk v
  unmoved_so c =
      let one = same_system n network first all g0 gk stands0 standsk c.was.best c.is.best c.was.is_best.live
      c.is.is_best.live (sym c.was.root ∙ c.root ∙ c.is.root) in
      record {
        best = λ b is. subst (IsBest gk v)
            (sym (IsBest-unique g0 v b c.was.best well0 is c.was.is_best ∙ one)) c.is.is_best;
        far = λ d far. subst (IsDistance gk v)
            (sym (IsDistance-unique g0 v d c.before.steps well0 far c.was.far ∙ c.steps)) c.is.far;
      }

  pub unmoved_at : (i : ℕ) (at : IsAt n i v)
      → is_moved_at (systems_after n all) (chosen_after n first) (chosen_after n all) i ≡ false → IsUnmoved g0 gk v
  unmoved_at i at none = unmoved_so (chooses_at i at none)

  -- so it is of all where none is moved
  pub unmoved_all : moves_some n first all ≡ false → IsUnmoved g0 gk v
  unmoved_all unmoved = unmoved_so (chooses_so unmoved)

  pub is_unmoved : moves_some n first all ≡ false → IsUnmoved g0 gk v
  is_unmoved unmoved = unmoved_so (chooses_so unmoved)

-- ---- where no system is moved between first and last

module _ (n : NetworkState) (network : IsNetwork n) (first all : List Timed) (worsen : OnlyWorsen n first all)
    (unmoved : moves_some n first all ≡ false) (g0 gk : Snapshot) (stands0 : StandsAfter n first g0)
    (standsk : StandsAfter n all gk) (well0 : IsWellFormed g0) (wellk : IsWellFormed gk) where
  -- the best of a system is so at first and at last
  pub record Stays (v : ℕ) : Type 0 where
    pub best : System
    pub is_best : IsBest g0 v best
    pub last : System
    pub last_lives : In last gk.systems
    pub same : best.identity ≡ last.identity

  stays : (v : ℕ) → In v (clocks gk) → Stays v
  stays v known =
      let known0 =
      clock_over n network all first (alike_back n first all worsen.alike).systems gk g0 standsk stands0 v known in
      let x = chooses_so n network first all g0 gk stands0 standsk well0 wellk v known0 known unmoved in
      record {
        best = x.was.best;
        is_best = x.was.is_best;
        last = x.is.best;
        last_lives = x.is.is_best.live;
        same = sym x.was.root ∙ x.root ∙ x.is.root;
      }

  -- so it is in between
  module _ (events : List Timed) (before : OnlyWorsen n first events) (after : OnlyWorsen n events all) (g : Snapshot)
      (stands : StandsAfter n events g) (well : IsWellFormed g) where
    pub record HasBest (v : ℕ) : Type 0 where
      pub best : System
      pub is_best : IsBest g v best
      pub first_best : System
      pub was_best : IsBest g0 v first_best
      pub same : best.identity ≡ first_best.identity

    keeps : (v : ℕ) (x : Stays v) (s : System) → In s g.systems → s.clock ≡ x.best.clock
        → s.identity ≡ x.best.identity
    keeps v x s live clock =
        let up =
        rises_over n network first events g0 g stands0 stands before x.best s x.is_best.live live (sym clock) in
        let last_clock : s.clock ≡ x.last.clock =
        clock ∙ sym (well0.identified x.best x.is_best.live).clock ∙ ap (λ i. i % 2 ^ 64) x.same
        ∙ (wellk.identified x.last x.last_lives).clock in
        let down = rises_over n network events all g gk stands standsk after s x.last live x.last_lives last_clock in
        let same = x.same in
        omega (arith, up, down, same)

    pub has_best : (v : ℕ) → In v (clocks g) → HasBest v
    has_best v member =
        let known = clock_over n network events all after.alike.systems g gk stands standsk v member in
        let x = stays v known in
        let b = x.best in
        let back_alike = alike_back n first events before.alike in
        let over = clock_over n network first events before.alike.systems g0 g stands0 stands in
        let back = clock_over n network events first back_alike.systems g g0 stands stands0 in
        let links = joins_over n network first events before.alike g0 g stands0 stands well in
        let links_back = joins_over n network events first back_alike g g0 stands stands0 well0 in
        let (s, live, clock) = from_map (λ (t : System). t.clock) b.clock g.systems
        (over b.clock (In-clocks g0 b x.is_best.live)) in
        let identity : s.identity ≡ b.identity = keeps v x s live clock in
        record {
          best = s;
          is_best = record {
            live = live;
            reached = subst (Reaches g v) (sym clock) (reach_over g0 g over links v b.clock x.is_best.reached);
            least = λ t there reached.
                let (u, lived, name) = from_map (λ (r : System). r.clock) t.clock g0.systems
                (back t.clock (In-clocks g t there)) in
                let least = x.is_best.least u lived
                (subst (Reaches g0 v) (sym name) (reach_over g g0 back links_back v t.clock reached)) in
                let more = rises_over n network first events g0 g stands0 stands before u t lived there name in
                omega (arith, least, more, identity);
          };
          first_best = b;
          was_best = x.is_best;
          same = identity;
        }

  -- an event in between moves none
  module _ (made : List Timed) (event : Timed) (before : OnlyWorsen n first made)
      (one : OnlyWorsen n made (made ++ event ∷ [])) (after : OnlyWorsen n (made ++ event ∷ []) all)
      (well : (g : Snapshot) → StandsAfter n made g → IsWellFormed g)
      (well' : (g : Snapshot) → StandsAfter n (made ++ event ∷ []) g → IsWellFormed g) where
    abbrev later : List Timed
    later = made ++ event ∷ []

    pub moves_none : MovesNone n made event
    moves_none g h v stands stands' known =
        record { best = same.best v; far = distance_over g h (well g stands) (well' h stands') same v }
      where
        back : StandAlike n later made
        back = alike_back n made later one.alike

        best : (u : ℕ) (b : System) → IsBest g u b → IsBest h u b
        best u b is =
            let here = is.reached.1.begins in
            let there = clock_over n network made later one.alike.systems g h stands stands' u here in
            let x = has_best made before (worsen_both n made later all one after) g stands (well g stands) u here in
            let begun = worsen_both n first made later before one in
            let y = has_best later begun after h stands' (well' h stands') u there in
            let first_same : x.first_best ≡ y.first_best =
            IsBest-unique g0 u x.first_best y.first_best well0 x.was_best y.was_best in
            let same : x.best ≡ y.best =
            same_system n network made later g h stands stands' x.best y.best x.is_best.live y.is_best.live
            (x.same ∙ ap (λ (s : System). s.identity) first_same ∙ sym y.same) in
            let is_x : x.best ≡ b = IsBest-unique g u x.best b (well g stands) x.is_best is in
            subst (IsBest h u) (sym same ∙ is_x) y.is_best

        same : HaveSameBests g h
        same = record {
          clocks = clock_over n network made later one.alike.systems g h stands stands';
          links = joins_over n network made later one.alike g h stands stands' (well' h stands');
          links_back = joins_over n network later made back h g stands' stands (well g stands);
          best = best;
        }

-- ---- the events of a time

-- what stands after the first of these events, however many, is well formed
abbrev pub AreWell : NetworkState → List Timed → Type 0
AreWell n all = (events left : List Timed) → events ++ left ≡ all → (g : Snapshot) → StandsAfter n events g
    → IsWellFormed g

module _ (n : NetworkState) (network : IsNetwork n) (first now : List Timed) (well : AreWell n (first ++ now))
    (few : (sync_paths n first).systems ≤ 255) (unmoved : moves_some n first (first ++ now) ≡ false)
    (leaves : list_all leaves_links (told_of n first now) ≡ true) where
  abbrev all : List Timed
  all = first ++ now

  still_each : (made left : List Timed) → made ++ left ≡ all → OnlyWorsen n first made
      → list_all leaves_links (told_of n made left) ≡ true → EachEvent (IsStillEvent n) made left
  still_each made [] are before rest = tt
  still_each made (event ∷ left) are before rest =
      let (one, others) =
      and_parts (leaves_links (told_at n made event.act)) (list_all leaves_links (told_of n (made ++ event ∷ []) left))
      rest in
      let kind = kind_is n network made event one in
      let worsens = worsen_one n network made event kind in
      let are_more : (made ++ event ∷ []) ++ left ≡ all = append_assoc made (event ∷ []) left ∙ are in
      let worse = worsen_both n first made (made ++ event ∷ []) before worsens in
      (still kind worsens others are_more, still_each (made ++ event ∷ []) left are_more worse others)
    where
      still : IsKind n network made event → OnlyWorsen n made (made ++ event ∷ [])
          → list_all leaves_links (told_of n (made ++ event ∷ []) left) ≡ true → (made ++ event ∷ []) ++ left ≡ all
          → IsStillEvent n made event
      still (inl idle) worsens others are_more = inl (inl idle)
      still (inr (inl turns)) worsens others are_more = inl (inr turns)
      still (inr (inr x)) worsens others are_more =
          let (g0, stands0) = stands_after n first network in
          let (gk, standsk) = stands_after n all network in
          let w = x.worsens in
          inr (record {
            clock = x.number;
            value = x.value;
            act = x.act;
            live = record { place = w.place; system = w.system; there = w.there; clock = w.clock; live = w.live };
            moves = moves_none n network first all (worsen_all n network first now leaves) unmoved g0 gk stands0 standsk
                (well first now refl g0 stands0) (well all [] (append-nil all) gk standsk) made event before worsens
                (subst (OnlyWorsen n (made ++ event ∷ [])) are_more
                (worsen_all n network (made ++ event ∷ []) left others))
                (well made (event ∷ left) are) (well (made ++ event ∷ []) left are_more);
            few = subst (λ (p : SyncPaths). p.systems ≤ 255)
                (sym (paths_same n first made before.alike)) few;
          })

  pub all_still_unmoved : EachEvent (IsStillEvent n) first now
  all_still_unmoved = still_each first now refl (worsen_none n first) leaves
