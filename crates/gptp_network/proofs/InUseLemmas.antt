-- The systems of a network that live after events, and the links between two of them, are those of its snapshot, so as
-- many systems have two neighbours.
use Rattle.std.proofs.Common.{◌≡◌, ◌≢◌, ◌+◌, ◌⊎◌, ℕ, Bool, true, false, ◌==◌, ◌&&◌, not, min, cond, List, [], ◌∷◌, length, map, Some, None, refl, sym, ap, ap₂, subst, ◌∙◌, inl, inr, arith}
use Rattle.std.specs.List.{cons_option, count_by, filter_map, list_any}
use Rattle.std.proofs.lemmas.Bool.{and_from, and_parts, eq-eqb, eqb-true, eqb-false, ne_eqb, not-true, not_from_false}
use Rattle.std.proofs.lemmas.List.{length-map}
use Rattle.std.proofs.lemmas.List.Sorted.{IsPermutation-map, IsPermutation-sym, length_permutation, sum_by-IsPermutation}
use Rattle.std.proofs.lemmas.Option.{cond_some}
use Rattle.gptp_lists.specs.Members.{In}
use Rattle.gptp_lists.proofs.SystemSpecLemmas.{In-map, from_map, slice_get-In}
use Rattle.gptp_graph.specs.PathBound as paths
use Rattle.gptp_graph.specs.Snapshot.{Adjacent, Link, Snapshot, System, clocks, port_of}
use Rattle.gptp_graph.proofs.PathBoundLemmas.{adjacent_joined, two_from}
use Rattle.gptp_roles.specs.Selection.{clock_of}
use Rattle.gptp_vector.specs.declared.port.PortId.{PortId}
use Rattle.gptp_scenario.specs.Change.{joined_after, link_after, live_after, system_after}
use Rattle.gptp_scenario.specs.InUse.{any_differ, far_clock, is_used, lives, lives_between, neighbour, neighbours, path_systems}
use Rattle.gptp_scenario.specs.InUse as plans
use Rattle.gptp_scenario.specs.Network.{IsNetwork, NetworkState}
use Rattle.gptp_scenario.specs.declared.change.Timed.{Timed}
use Rattle.gptp_scenario.specs.declared.network.SystemSpec.{SystemSpec}
use Rattle.gptp_scenario.specs.declared.network.LinkSpec.{LinkSpec}
use Rattle.gptp_scenario.proofs.AfterLemmas.{after_keeps}
use Rattle.gptp_network.specs.Snapshot.{StandsAfter, has_clock, joins_two, link_of, live_systems, system_of}
use Rattle.gptp_network.proofs.PassLemmas.{count_alike, count_more, given, kept, passes, passes_at, same_tests}
use Rattle.gptp_network.proofs.SnapshotLemmas.{In-permutation, clock_after, from_filter, from_filter_map, with_clock}

-- ---- two that differ

several_from : (xs : List ℕ) → any_differ xs ≡ true → (x y : ℕ) × In x xs × In y xs × (x ≢ y)
several_from [] is = absurd cc
several_from (x ∷ xs) is =
    let (y, member, other) = passes (λ y. not (y == x)) xs is in
    (x, y, inl refl, inr member, λ same. eqb-false y x (not-true (y == x) other) (sym same))

several_back : (xs : List ℕ) (x y : ℕ) → In x xs → In y xs → (x ≢ y) → any_differ xs ≡ true
several_back [] x y member other apart = absurd member
several_back (z ∷ zs) x y (inl first) (inl second) apart = absurd (apart (first ∙ sym second))
several_back (z ∷ zs) x y (inl first) (inr member) apart =
    passes_at (λ y. not (y == z)) zs y member
    (not_from_false (y == z) (ne_eqb y z (λ same. apart (first ∙ sym same))))
several_back (z ∷ zs) x y (inr member) (inl second) apart =
    passes_at (λ y. not (y == z)) zs x member
    (not_from_false (x == z) (ne_eqb x z (λ same. apart (same ∙ sym second))))
several_back (z ∷ zs) x y (inr one) (inr other) apart = by (x == z) refl
  where
    by : (test : Bool) → (x == z) ≡ test → list_any (λ y. not (y == z)) zs ≡ true
    by true same =
        passes_at (λ y. not (y == z)) zs y other
        (not_from_false (y == z) (ne_eqb y z (λ is. apart (eqb-true x z same ∙ sym is))))
    by false differs = passes_at (λ y. not (y == z)) zs x one (not_from_false (x == z) differs)

-- ---- the other end

-- an end of the link is at the system, and the other at that
abbrev Ends : ℕ → ℕ → LinkSpec → Type 0
Ends clock far w = ((w.a.clock ≡ clock) × (w.b.clock ≡ far)) ⊎ ((w.b.clock ≡ clock) × (w.a.clock ≡ far))

far_from : (clock far : ℕ) (w : LinkSpec) → far_clock clock w ≡ Some far → Ends clock far w
far_from clock far w is = by (w.a.clock == clock) refl (w.b.clock == clock) refl is
  where
    by : (one : Bool) → (w.a.clock == clock) ≡ one → (two : Bool) → (w.b.clock == clock) ≡ two
        → cond one (Some w.b.clock) (cond two (Some w.a.clock) None) ≡ Some far → Ends clock far w
    by true one two other is = let same : w.b.clock ≡ far = cc in inl (eqb-true w.a.clock clock one, same)
    by false one true two is = let same : w.a.clock ≡ far = cc in inr (eqb-true w.b.clock clock two, same)
    by false one false two is = absurd cc

far_back : (clock far : ℕ) (w : LinkSpec) → (w.a.clock ≢ w.b.clock) → Ends clock far w → far_clock clock w ≡ Some far
far_back clock far w apart (inl (here, there)) = rw (eq-eqb w.a.clock clock here) (ap Some there)
far_back clock far w apart (inr (here, there)) =
    rw (ne_eqb w.a.clock clock (λ same. apart (same ∙ sym here)), eq-eqb w.b.clock clock here) (ap Some there)

module _ (n : NetworkState) (network : IsNetwork n) (events : List Timed) (g : Snapshot)
    (stands : StandsAfter n events g) where
  -- ---- systems

  pub live_there : (clock : ℕ) → lives n.systems events clock ≡ true → has_clock g.systems clock ≡ true
  live_there clock live =
      let (m, among, both) =
      passes (λ m. clock_of m.identity == clock && (system_after events m).live) n.systems live in
      let (named, lives) = and_parts (clock_of m.identity == clock) (system_after events m).live both in
      let pair : ℕ × ℕ = ((system_after events m).identity, m.ports) in
      let there : live_after events m ≡ Some pair =
      ap (λ test. cond test (Some ((system_after events m).identity, m.ports)) None) lives in
      let listed = given (live_after events) m pair n.systems among there in
      let member = In-permutation (system_of pair) (live_systems n.systems events) g.systems stands.systems
      (In-map system_of pair (filter_map (live_after events) n.systems) listed) in
      passes_at (λ (s : System). s.clock == clock) g.systems (system_of pair) member
      (eq-eqb (clock_of pair.0) clock (clock_after events m ∙ eqb-true (clock_of m.identity) clock named))

  pub there_live : (clock : ℕ) → has_clock g.systems clock ≡ true → lives n.systems events clock ≡ true
  there_live clock has =
      let (s, member, is) = with_clock g.systems clock has in
      let listed = In-permutation s g.systems (live_systems n.systems events)
      (IsPermutation-sym (live_systems n.systems events) g.systems stands.systems) member in
      let (pair, at, seen) = from_map system_of s (filter_map (live_after events) n.systems) listed in
      let (m, among, lives) = from_filter_map (live_after events) pair n.systems at in
      let both = cond_some (system_after events m).live ((system_after events m).identity, m.ports) pair lives in
      let named : clock_of m.identity ≡ clock =
      sym (clock_after events m) ∙ ap (λ (p : ℕ × ℕ). clock_of p.0) both.1
      ∙ ap (λ (s : System). s.clock) seen ∙ is in
      passes_at (λ m. clock_of m.identity == clock && (system_after events m).live) n.systems m among
      (and_from (clock_of m.identity == clock) (system_after events m).live
      (eq-eqb (clock_of m.identity) clock named) both.0)

  -- ---- links

  abbrev is_used_after : LinkSpec → Bool
  is_used_after w = is_used n.systems events (link_after events w)

  used_parts : (w : LinkSpec) → is_used_after w ≡ true
      → ((link_after events w).up ≡ true) × (lives n.systems events w.a.clock ≡ true)
      × (lives n.systems events w.b.clock ≡ true)
  used_parts w is =
      let v = link_after events w in
      let ends = after_keeps events w in
      let (front, b) = and_parts (v.up && lives n.systems events v.a.clock) (lives n.systems events v.b.clock) is in
      let (up, a) = and_parts v.up (lives n.systems events v.a.clock) front in (
        up,
        subst (λ (p : PortId). lives n.systems events p.clock ≡ true) ends.a a,
        subst (λ (p : PortId). lives n.systems events p.clock ≡ true) ends.b b,
      )

  used_by : (w : LinkSpec) → (link_after events w).up ≡ true → lives n.systems events w.a.clock ≡ true
      → lives n.systems events w.b.clock ≡ true
      → is_used_after w ≡ true
  used_by w up a b =
      let v = link_after events w in
      let ends = after_keeps events w in
      and_from (v.up && lives n.systems events v.a.clock) (lives n.systems events v.b.clock)
      (and_from v.up (lives n.systems events v.a.clock) up
      (subst (λ (p : PortId). lives n.systems events p.clock ≡ true) (sym ends.a) a))
      (subst (λ (p : PortId). lives n.systems events p.clock ≡ true) (sym ends.b) b)

  -- a link of the snapshot is one of the network that is in use
  pub record Runs (l : Link) : Type 0 where
    pub wire : LinkSpec
    pub member : In wire n.links
    pub is : link_of (wire.a, wire.b) ≡ l
    pub up : (link_after events wire).up ≡ true
    pub used : is_used n.systems events (link_after events wire) ≡ true
    pub to : has_clock g.systems l.b.clock ≡ true
    pub from : has_clock g.systems l.a.clock ≡ true

  pub runs : (l : Link) → In l g.links → Runs l
  runs l member =
      let (listed, both) =
      from_filter (joins_two g.systems) l (map link_of (filter_map (joined_after events) n.links))
      (subst (In l) stands.links member) in
      let (pair, at, seen) = from_map link_of l (filter_map (joined_after events) n.links) listed in
      let (w, among, up) = from_filter_map (joined_after events) pair n.links at in
      let parts = cond_some (link_after events w).up (w.a, w.b) pair up in
      let is : link_of (w.a, w.b) ≡ l = ap link_of parts.1 ∙ seen in
      let (from, to) = and_parts (has_clock g.systems l.a.clock) (has_clock g.systems l.b.clock) both in
      record {
        wire = w;
        member = among;
        is = is;
        up = parts.0;
        used = used_by w parts.0
            (there_live w.a.clock (ap (λ (k : Link). has_clock g.systems k.a.clock) is ∙ from))
            (there_live w.b.clock (ap (λ (k : Link). has_clock g.systems k.b.clock) is ∙ to));
        to = to;
        from = from;
      }

  -- and each that is in use is one of the snapshot
  stays : (w : LinkSpec) → In w n.links → is_used_after w ≡ true → In (link_of (w.a, w.b)) g.links
  stays w member is =
      let (up, a, b) = used_parts w is in
      let joined : joined_after events w ≡ Some (w.a, w.b) = ap (λ test. cond test (Some (w.a, w.b)) None) up in
      subst (In (link_of (w.a, w.b))) (sym stands.links)
      (kept (joins_two g.systems) (link_of (w.a, w.b)) (map link_of (filter_map (joined_after events) n.links))
      (In-map link_of (w.a, w.b) (filter_map (joined_after events) n.links)
      (given (joined_after events) w (w.a, w.b) n.links member joined))
      (and_from (has_clock g.systems w.a.clock) (has_clock g.systems w.b.clock) (live_there w.a.clock a)
      (live_there w.b.clock b)))

  -- ---- neighbours

  neighbour_of : (clock x : ℕ) (w : LinkSpec) → In w n.links → is_used_after w ≡ true → Ends clock x w
      → In x (neighbours n.systems n.links events clock)
  neighbour_of clock x w member used ends =
      let (place, there) = slice_get-In w n.links member in
      let far = far_back clock x w (network.links place w there).apart ends in
      given (neighbour n.systems events clock) w x n.links member (rw used far)

  adjacent_in : (clock x : ℕ) → Adjacent g clock x → In x (neighbours n.systems n.links events clock)
  adjacent_in clock x (m, k, inl there) =
      let r = runs (record { a = port_of clock m; b = port_of x k }) there in
      neighbour_of clock x r.wire r.member r.used
      (inl (ap (λ (l : Link). l.a.clock) r.is, ap (λ (l : Link). l.b.clock) r.is))
  adjacent_in clock x (m, k, inr there) =
      let r = runs (record { a = port_of x k; b = port_of clock m }) there in
      neighbour_of clock x r.wire r.member r.used
      (inr (ap (λ (l : Link). l.b.clock) r.is, ap (λ (l : Link). l.a.clock) r.is))

  in_adjacent : (clock x : ℕ) → In x (neighbours n.systems n.links events clock) → Adjacent g clock x
  in_adjacent clock x member =
      let (w, among, is) = from_filter_map (neighbour n.systems events clock) x n.links member in
      let (used, far) = parts w (is_used_after w) is in
      let there = stays w among used in
      elim (far_from clock x w far) [
        | inl (here, other) ↦ (
          w.a.port,
          w.b.port,
          inl (subst (λ (l : Link). In l g.links)
              (λ i. record { a = port_of (here i) w.a.port; b = port_of (other i) w.b.port }) there),
        )
        | inr (here, other) ↦ (
          w.b.port,
          w.a.port,
          inr (subst (λ (l : Link). In l g.links)
              (λ i. record { a = port_of (other i) w.a.port; b = port_of (here i) w.b.port }) there),
        )
      ]
    where
      parts : (w : LinkSpec) (used : Bool) → cond used (far_clock clock w) None ≡ Some x
          → (used ≡ true) × (far_clock clock w ≡ Some x)
      parts w true is = (refl, is)
      parts w false is = absurd cc

  clock_stands : (clock x : ℕ) → Adjacent g clock x → In x (clocks g)
  clock_stands clock x (m, k, joins) =
      let has : has_clock g.systems x ≡ true = elim joins [
        | inl there ↦ (runs (record { a = port_of clock m; b = port_of x k }) there).to
        | inr there ↦ (runs (record { a = port_of x k; b = port_of clock m }) there).from
      ] in
      let (s, member, is) = with_clock g.systems x has in
      subst (λ c. In c (clocks g)) is (In-map (λ (s : System). s.clock) s g.systems member)

  has_two : (clock : ℕ) → paths.HasTwoNeighbours g clock → paths.has_two_neighbours g clock ≡ true
  has_two clock (x, y, to_x, to_y, apart) =
      passes_at
      (λ x. list_any (λ y. not (x == y) && (paths.are_joined g clock x && paths.are_joined g clock y)) (clocks g))
      (clocks g) x (clock_stands clock x to_x)
      (passes_at (λ y. not (x == y) && (paths.are_joined g clock x && paths.are_joined g clock y)) (clocks g) y
      (clock_stands clock y to_y)
      (and_from (not (x == y)) (paths.are_joined g clock x && paths.are_joined g clock y)
      (not_from_false (x == y) (ne_eqb x y apart))
      (and_from (paths.are_joined g clock x) (paths.are_joined g clock y) (adjacent_joined g clock x to_x)
      (adjacent_joined g clock y to_y))))

  two_is : (clock : ℕ) → any_differ (neighbours n.systems n.links events clock) ≡ paths.has_two_neighbours g clock
  two_is clock =
      let xs = neighbours n.systems n.links events clock in
      same_tests (any_differ xs) (paths.has_two_neighbours g clock)
      (λ is. let (x, y, one, other, apart) = several_from xs is in
      has_two clock (x, y, in_adjacent clock x one, in_adjacent clock y other, apart))
      (λ is. let (x, y, to_x, to_y, apart) = two_from g clock is in
      several_back xs x y (adjacent_in clock x to_x) (adjacent_in clock y to_y) apart)

  -- ---- how many systems

  live_length : (ms : List SystemSpec)
      → length (filter_map (live_after events) ms) ≡ count_by (λ m. (system_after events m).live) ms
  live_length [] = refl
  live_length (m ∷ ms) =
      by (live_length ms) (system_after events m).live
      ∙ sym (count_more (λ m. (system_after events m).live) m ms)
    where
      by : length (filter_map (live_after events) ms) ≡ count_by (λ m. (system_after events m).live) ms
          → (test : Bool)
          → length (cons_option (cond test (Some ((system_after events m).identity, m.ports)) None)
          (filter_map (live_after events) ms))
          ≡ cond test 1 0 + count_by (λ m. (system_after events m).live) ms
      by rest true = omega (arith, rest)
      by rest false = omega (arith, rest)

  systems_are : plans.count_live n.systems events ≡ length g.systems
  systems_are =
      let moved = length_permutation (live_systems n.systems events) g.systems stands.systems in
      let all = length-map (filter_map (live_after events) n.systems) system_of in
      let listed = live_length n.systems in
      omega (arith, moved, all, listed)

  count_live : (p : ℕ → Bool) (ms : List SystemSpec)
      → count_by p (map (λ (s : System). s.clock) (map system_of (filter_map (live_after events) ms)))
      ≡ count_by (λ m. (system_after events m).live && p (clock_of m.identity)) ms
  count_live p [] = refl
  count_live p (m ∷ ms) =
      by (count_live p ms) (system_after events m).live
      ∙ sym (count_more (λ m. (system_after events m).live && p (clock_of m.identity)) m ms)
    where
      by : count_by p (map (λ (s : System). s.clock) (map system_of (filter_map (live_after events) ms)))
          ≡ count_by (λ m. (system_after events m).live && p (clock_of m.identity)) ms → (test : Bool)
          → count_by p (map (λ (s : System). s.clock) (map system_of (cons_option
          (cond test (Some ((system_after events m).identity, m.ports)) None) (filter_map (live_after events) ms))))
          ≡ cond (test && p (clock_of m.identity)) 1 0
          + count_by (λ m. (system_after events m).live && p (clock_of m.identity)) ms
      by rest true =
          count_more p (clock_of (system_after events m).identity)
          (map (λ (s : System). s.clock) (map system_of (filter_map (live_after events) ms)))
          ∙ ap₂ (λ c k. cond (p c) 1 0 + k) (clock_after events m) rest
      by rest false = omega (arith, rest)

  between_are : count_by (lives_between n.systems n.links events) n.systems ≡ paths.with_two_neighbours g
  between_are =
      count_alike (lives_between n.systems n.links events)
      (λ (m : SystemSpec). (system_after events m).live && paths.has_two_neighbours g (clock_of m.identity)) n.systems
      (λ (m : SystemSpec). ap (λ b. (system_after events m).live && b) (two_is (clock_of m.identity)))
      ∙ sym (count_live (paths.has_two_neighbours g) n.systems)
      ∙ sym (sum_by-IsPermutation (λ c. cond (paths.has_two_neighbours g c) 1 0)
      (map (λ (s : System). s.clock) (live_systems n.systems events)) (clocks g)
      (IsPermutation-map (λ (s : System). s.clock) (live_systems n.systems events) g.systems stands.systems))

  -- a path has as many systems at most as one of the snapshot
  pub paths_are : path_systems n.systems n.links events ≡ paths.path_bound g
  unfolding path_systems
  paths_are = ap₂ (λ a b. min (a + 2) b) between_are systems_are
