-- Links of a document that are up between two live systems are links of its snapshot.
use Rattle.std.proofs.Common.{◌≡◌, ◌⊎◌, ◌==◌, ◌&&◌, ◌||◌, ℕ, Bool, true, false, cond, List, [], ◌∷◌, filter, map, Option, Some, None, eq-eqb, refl, sym, ap, ap₂, subst, ◌∙◌, inl, inr}
use Rattle.std.specs.List.{cons_option, filter_map}
use Rattle.gptp_lists.specs.Members.{In}
use Rattle.gptp_lists.proofs.SystemSpecLemmas.{In-map, from_map}
use Rattle.gptp_graph.specs.Snapshot.{Snapshot, System, clocks}
use Rattle.gptp_vector.specs.declared.port.PortId.{PortId}
use Rattle.gptp_scenario.specs.Change.{joined_after, link_after}
use Rattle.gptp_scenario.specs.declared.change.Timed.{Timed}
use Rattle.gptp_scenario.specs.declared.network.LinkSpec.{LinkSpec}
use Rattle.gptp_network.specs.Snapshot.{has_clock, joins_two, link_of, used_links}

kept_one : {X : Type 0} (p : X → Bool) (x y : X) (xs : List X) (t : Bool) → p y ≡ t
    → (In x xs → In x (filter p xs)) → p x ≡ true → In x (y ∷ xs) → In x (cond t (y ∷ filter p xs) (filter p xs))
kept_one p x y xs true is rest passes (inl same) = inl same
kept_one p x y xs true is rest passes (inr member) = inr (rest member)
kept_one p x y xs false is rest passes (inl same) =
    let no : true ≡ false = sym passes ∙ ap p same ∙ is in absurd cc
kept_one p x y xs false is rest passes (inr member) = rest member

-- a member that passes is kept
kept : {X : Type 0} (p : X → Bool) (x : X) (xs : List X) → p x ≡ true → In x xs → In x (filter p xs)
kept p x [] passes member = member
kept p x (y ∷ xs) passes member = kept_one p x y xs (p y) refl (kept p x xs passes) passes member

given_one : {X Y : Type 0} (f : X → Option Y) (x z : X) (y : Y) (xs : List X) (o : Option Y) → f z ≡ o
    → f x ≡ Some y → (In x xs → In y (filter_map f xs)) → In x (z ∷ xs) → In y (cons_option o (filter_map f xs))
given_one f x z y xs None is some rest (inl same) =
    let no : Some y ≡ None = sym some ∙ ap f same ∙ is in absurd cc
given_one f x z y xs None is some rest (inr member) = rest member
given_one f x z y xs (Some w) is some rest (inl same) =
    let one : Some y ≡ Some w = sym some ∙ ap f same ∙ is in inl cc
given_one f x z y xs (Some w) is some rest (inr member) = inr (rest member)

-- what is given of a member is there
given : {X Y : Type 0} (f : X → Option Y) (x : X) (y : Y) (xs : List X) → f x ≡ Some y → In x xs
    → In y (filter_map f xs)
given f x y [] some member = member
given f x y (z ∷ xs) some member = given_one f x z y xs (f z) refl some (given f x y xs some) member

or_true : (s t : Bool) → (s ≡ true) ⊎ (t ≡ true) → (s || t) ≡ true
or_true true t h = refl
or_true false t (inl is) = absurd cc
or_true false t (inr is) = is

has_one : (systems : List System) (s : System) → In s systems → has_clock systems s.clock ≡ true
has_one [] s member = absurd member
has_one (t ∷ systems) s (inl same) =
    or_true (t.clock == s.clock) (has_clock systems s.clock)
    (inl (eq-eqb t.clock s.clock (ap (λ (u : System). u.clock) (sym same))))
has_one (t ∷ systems) s (inr rest) =
    or_true (t.clock == s.clock) (has_clock systems s.clock) (inr (has_one systems s rest))

-- a clock of the snapshot is told to be there
pub clock_there : (g : Snapshot) (v : ℕ) → In v (clocks g) → has_clock g.systems v ≡ true
clock_there g v member =
    let (s, live, is) = from_map (λ (s : System). s.clock) v g.systems member in
    subst (λ w. has_clock g.systems w ≡ true) is (has_one g.systems s live)

-- so is a link that is up
pub joined_up : (events : List Timed) (w : LinkSpec) (a b : PortId) → w.a ≡ a → w.b ≡ b
    → (link_after events w).up ≡ true → joined_after events w ≡ Some (a, b)
joined_up events w a b is_a is_b up = rw up (ap₂ (λ (p q : PortId). Some (p, q)) is_a is_b)

-- and where both its ends live, it is one of the snapshot
pub in_used : (links : List LinkSpec) (events : List Timed) (systems : List System) (w : LinkSpec) (a b : PortId)
    → In w links → joined_after events w ≡ Some (a, b) → has_clock systems a.clock ≡ true
    → has_clock systems b.clock ≡ true → In (link_of (a, b)) (used_links links events systems)
in_used links events systems w a b one joined here over =
    kept (joins_two systems) (link_of (a, b)) (map link_of (filter_map (joined_after events) links))
    (ap₂ (λ (s t : Bool). s && t) here over)
    (In-map link_of (a, b) (filter_map (joined_after events) links)
    (given (joined_after events) w (a, b) links joined one))
