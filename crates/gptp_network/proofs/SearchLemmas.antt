-- What a binary search finds among members by rising key.
use Rattle.std.proofs.Common.{◌≡◌, ◌<◌, ◌≤◌, ℕ, zero, suc, List, [], ◌∷◌, length, map, get_or, slice_get, Option, Some, None, Result, Ok, Err, IfNone, IfSome, option_map, refl, sym, ap, subst, ◌∙◌, inl, inr, arith}
use Rattle.std.specs.Cmp.{IsTotalOrder, tied_itself, nat_cmp_total}
use Rattle.std.specs.List.{HoldsAt}
use Rattle.std.specs.List.Sorted.{IsBinarySearchResult, IsNonDecreasingBy, IsPartitionPoint, IsSearchInRange}
use Rattle.std.specs.Ordering.{nat_cmp, ordering_index, ordering_then}
use Rattle.std.specs.Result.{result_ok}
use Rattle.std.specs.declared.cmp.Ordering.{Ordering}
use Rattle.std.specs.declared.cmp.Ordering.TheVariants.{Less, Equal, Greater}
use Rattle.std.proofs.lemmas.Bool.{cases_lt}
use Rattle.std.proofs.lemmas.Bool.Decides.{nat_tests}
use Rattle.std.proofs.lemmas.Cmp.{ranked, on_total, then_total}
use Rattle.std.proofs.lemmas.List.Sorted.{searchable_from_sorted}
use Rattle.std.proofs.lemmas.Option.{get_or_from_slice_get, slice_get-get_or, slice_get-map, slice_get_within, same_Some}
use Rattle.gptp_lists.specs.Members.{In}
use Rattle.gptp_graph.specs.Order.{IsRising}
use Rattle.gptp_graph.specs.Snapshot.{System, Snapshot, IsLinked, Joins}
use Rattle.gptp_lists.proofs.SystemSpecLemmas.{In-map, In-slice_get, slice_get-In}
use Rattle.gptp_roles.specs.Selection.{clock_of}
use Rattle.gptp_vector.specs.declared.port.PortId.{PortId}
use Rattle.gptp_network.specs.Snapshot.{port_identity, system_of}
use Rattle.gptp_network.specs.SnapshotTables.{AreEnds, HasClock, RisesByClock, RisesByPort, port_order, seen_systems}
use Rattle.gptp_network.specs.declared.snapshot.LinkEnd.{LinkEnd}
use Rattle.gptp_network.specs.declared.snapshot.LiveSystem.{LiveSystem}

-- what holds at a place holds of the member that stands there
there : {X : Type 0} (P : X → Type 0) (xs : List X) (place : ℕ) → place < length xs → HoldsAt P xs place
    → (x : X) × (slice_get xs place ≡ Some x) × P x
there P [] place within holds = absurd (omega arith)
there P (x ∷ xs) zero within holds = (x, refl, holds x)
there P (x ∷ xs) (suc place) within holds = there P xs place (omega arith) holds

module _ {K X : Type 0} {R : K → K → Ordering} (total : IsTotalOrder R) (key : X → K) (xs : List X) (k : K) where
  -- the place that a search ends at has a member that ties with the key
  pub found : (place : ℕ) → place < length xs → HoldsAt (λ y. R (key y) k ≡ Equal) xs place
      → (x : X) × (slice_get xs place ≡ Some x) × (R (key x) k ≡ Equal)
  found place = there (λ x. R (key x) k ≡ Equal) xs place

  -- no member has the key where all are lower or higher
  pub missing : (gap : ℕ) → IsPartitionPoint (λ y. R (key y) k ≡ Less) (λ y. R (key y) k ≡ Greater) xs gap
      → (x : X) → In x xs → key x ≡ k → ⊥
  missing gap (lower, higher) x member is =
      let (place, at) = slice_get-In x xs member in
      let read : get_or xs place x ≡ x = get_or_from_slice_get xs place x x at in
      let tied : R (key (get_or xs place x)) k ≡ Equal =
      ap (λ y. R (key y) k) read ∙ ap (λ j. R j k) is ∙ tied_itself total k in
      elim (cases_lt place gap) [
        | inl below ↦ (let less = lower place x (omega arith) below in absurd cc)
        | inr above ↦ (let greater = higher place x above (slice_get_within xs place x at) in absurd cc)
      ]

-- ---- rising numbers as keys

module _ {X : Type 0} (key : X → ℕ) where
  -- keys that rise don't fall
  rises : (xs : List X) → IsRising (map key xs) → IsNonDecreasingBy key xs
  rises [] h i j d le lt = absurd (omega arith)
  rises (x ∷ xs) h zero zero d le lt = omega arith
  rises (x ∷ xs) h zero (suc j) d le lt =
      let member = In-slice_get (get_or xs j d) xs j (slice_get-get_or xs j d (omega arith)) in
      let low = h.0 (key (get_or xs j d)) (In-map key (get_or xs j d) xs member) in
      omega arith
  rises (x ∷ xs) h (suc i) zero d le lt = absurd (omega arith)
  rises (x ∷ xs) h (suc i) (suc j) d le lt = rises xs h.1 i j d (omega arith) (omega arith)

  compared : (n a b : ℕ) → a ≤ b → ordering_index (nat_cmp a n) ≤ ordering_index (nat_cmp b n)
  compared n a b le = grind (arith, nat_tests)

  -- so do their comparisons with a number
  pub comparisons_rise : (xs : List X) (n : ℕ) → IsRising (map key xs)
      → IsNonDecreasingBy (λ y. ordering_index (nat_cmp (key y) n)) xs
  comparisons_rise xs n h i j d le lt = compared n (key (get_or xs i d)) (key (get_or xs j d)) (rises xs h i j d le lt)

  -- two places with one key are one
  pub same_place : (xs : List X) (i j : ℕ) (x y : X) → IsRising (map key xs) → slice_get xs i ≡ Some x
      → slice_get xs j ≡ Some y → key x ≡ key y → i ≡ j
  same_place [] i j x y h a b e = absurd cc
  same_place (z ∷ xs) zero zero x y h a b e = refl
  same_place (z ∷ xs) zero (suc j) x y h a b e =
      let low = h.0 (key y) (In-map key y xs (In-slice_get y xs j b)) in
      let is : key z ≡ key x = ap key (same_Some z x a) in
      absurd (omega arith)
  same_place (z ∷ xs) (suc i) zero x y h a b e =
      let low = h.0 (key x) (In-map key x xs (In-slice_get x xs i a)) in
      let is : key z ≡ key y = ap key (same_Some z y b) in
      absurd (omega arith)
  same_place (z ∷ xs) (suc i) (suc j) x y h a b e = ap suc (same_place xs i j x y h.1 a b e)

-- numbers that tie are one
same_number : (a b : ℕ) → nat_cmp a b ≡ Equal → a ≡ b
same_number a b e = ranked a b Equal (sym e)

-- ---- systems by clock

abbrev pub clock_of_live : LiveSystem → ℕ
clock_of_live s = clock_of s.identity

-- the clocks that are seen are those of the identities
pub same_clocks : (systems : List LiveSystem)
    → map (λ (s : System). s.clock) (seen_systems systems) ≡ map clock_of_live systems
same_clocks [] = refl
same_clocks (s ∷ systems) = ap (λ (cs : List ℕ). clock_of s.identity ∷ cs) (same_clocks systems)

-- a system that is seen is kept
kept : (systems : List LiveSystem) (place : ℕ) (seen : System) → slice_get (seen_systems systems) place ≡ Some seen
    → (s : LiveSystem) × (slice_get systems place ≡ Some s) × (system_of (s.identity, s.ports) ≡ seen)
kept [] place seen e = absurd cc
kept (s ∷ systems) zero seen e = (s, refl, same_Some _ _ e)
kept (s ∷ systems) (suc place) seen e = kept systems place seen e

module _ (systems : List LiveSystem) (clock : ℕ) (rising : RisesByClock systems) where
  rising_kept : IsRising (map clock_of_live systems)
  rising_kept = subst IsRising (same_clocks systems) rising

  -- a search by clock ends at the system with that clock
  pub clock_found : (r : Result ℕ ℕ) → IsSearchInRange r (length systems)
      → IsBinarySearchResult (λ s. nat_cmp (clock_of_live s) clock) systems r
      → IfSome (result_ok r) (HasClock (seen_systems systems) clock)
  clock_found (Ok place) within is =
      let (s, at, tied) = found nat_cmp_total clock_of_live systems clock place within is in
      record {
        system = system_of (s.identity, s.ports);
        there =
            slice_get-map _ systems place
            ∙ ap (option_map (λ (t : LiveSystem). system_of (t.identity, t.ports))) at;
        is = same_number (clock_of s.identity) clock tied;
      }
  clock_found (Err gap) within is = tt

  -- where a system has that clock, a search ends at its place
  pub clock_once : (r : Result ℕ ℕ) → IsSearchInRange r (length systems)
      → IsBinarySearchResult (λ s. nat_cmp (clock_of_live s) clock) systems r
      → (place : ℕ) → HasClock (seen_systems systems) clock place → result_ok r ≡ Some place
  clock_once (Ok other) within is place has =
      let (s, at, tied) = found nat_cmp_total clock_of_live systems clock other within is in
      let (t, here, same) = kept systems place has.system has.there in
      let clocks : clock_of s.identity ≡ clock_of t.identity =
      same_number (clock_of s.identity) clock tied ∙ sym (ap (λ (u : System). u.clock) same ∙ has.is) in
      ap Some (same_place clock_of_live systems other place s t rising_kept at here clocks)
  clock_once (Err gap) within is place has =
      let (t, here, same) = kept systems place has.system has.there in
      let parted = is (comparisons_rise clock_of_live systems clock rising_kept) in
      let member = In-slice_get t systems place here in
      absurd (missing nat_cmp_total clock_of_live systems clock gap parted t member
      (ap (λ (u : System). u.clock) same ∙ has.is))

-- ---- ends by port

port_order_total : IsTotalOrder port_order
port_order_total =
    then_total (on_total (λ (p : PortId). p.clock) nat_cmp_total) (on_total (λ (p : PortId). p.port) nat_cmp_total)

both_equal : (a b : Ordering) → ordering_then a b ≡ Equal → (a ≡ Equal) × (b ≡ Equal)
both_equal Less b e = absurd cc
both_equal Equal b e = (refl, e)
both_equal Greater b e = absurd cc

-- ports that tie are one
same_port : (p q : PortId) → port_order p q ≡ Equal → p ≡ q
same_port p q e =
    let parts = both_equal (nat_cmp p.clock q.clock) (nat_cmp p.port q.port) e in
    let clock = same_number p.clock q.clock parts.0 in
    let port = same_number p.port q.port parts.1 in
    λ i. record { clock = clock i; port = port i }

module _ (ends : List LinkEnd) (port : PortId) where
  -- a search by port ends at an end of that port
  pub end_found : (place : ℕ) (d : LinkEnd) → place < length ends
      → HoldsAt (λ (x : LinkEnd). port_order x.here port ≡ Equal) ends place
      → In (record { here = port; there = (get_or ends place d).there }) ends
  end_found place d within is =
      let (x, at, tied) = found port_order_total (λ (y : LinkEnd). y.here) ends port place within is in
      let here : x.here ≡ port = same_port x.here port tied in
      let there : x.there ≡ (get_or ends place d).there =
      ap (λ (y : LinkEnd). y.there) (sym (get_or_from_slice_get ends place x d at)) in
      let whole : x ≡ record { here = port; there = (get_or ends place d).there } =
      λ i. record { here = here i; there = there i } in
      subst (λ (y : LinkEnd). In y ends) whole (In-slice_get x ends place at)

  -- where it ends at none, no end is of that port
  pub end_missing : RisesByPort ends → (gap : ℕ)
      → IsBinarySearchResult (λ (x : LinkEnd). port_order x.here port) ends (Err gap)
      → (other : PortId) → In (record { here = port; there = other }) ends → ⊥
  end_missing rising gap is other member =
      missing port_order_total (λ (y : LinkEnd). y.here) ends port gap
      (is (searchable_from_sorted port_order_total (λ (y : LinkEnd). y.here) ends port rising))
      (record { here = port; there = other }) member refl

module _ (g : Snapshot) (ends : List LinkEnd) (are : AreEnds g.links ends) (port : PortId) where
  -- the other end that was found is joined
  pub joined : (r : Option PortId) → IfSome r (λ other. In (record { here = port; there = other }) ends)
      → IfSome r (λ other. Joins g (port_identity port) (port_identity other))
  joined None h = tt
  joined (Some other) h = (are.all port other).1 h

  -- where none was found, no link is at the port
  pub unlinked : (r : Option PortId)
      → IfNone r ((other : PortId) → In (record { here = port; there = other }) ends → ⊥)
      → IfNone r (IsLinked g (port_identity port) → ⊥)
  unlinked None h = λ (q, joins).
      let other : PortId = record { clock = q.clock; port = q.port } in h other ((are.all port other).0 joins)
  unlinked (Some other) h = tt
