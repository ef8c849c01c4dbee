-- Going through the ports of a system tells whether it has two neighbours.
use Rattle.std.proofs.Common.{◌≡◌, ◌<◌, ◌≤◌, ◌+◌, ◌==◌, ℕ, Bool, true, false, Some, None, cond, length, take, get_or, slice_get, refl, sym, ap, subst, ◌∙◌, arith}
use native.Mathlib.Decide.{ℕ_discrete}
use Rattle.std.specs.List.{count_by}
use Rattle.std.proofs.lemmas.Bool.{eqb-true, eqb-false}
use Rattle.std.proofs.lemmas.List.{length-map, take_all}
use Rattle.std.proofs.lemmas.List.Sums.{count_by_more_no, count_by_more_yes}
use Rattle.std.proofs.lemmas.Option.{get_or_from_slice_get, none-some}
use Rattle.gptp_lists.specs.Members.{In}
use Rattle.gptp_lists.proofs.SystemSpecLemmas.{In-slice_get}
use Rattle.gptp_lists.proofs.MappedLemmas.{mapped_there}
use Rattle.gptp_lists.proofs.PlaceLemmas.{member_there}
use Rattle.gptp_graph.specs.PathBound.{HasTwoNeighbours, has_two_neighbours, with_two_neighbours}
use Rattle.gptp_graph.specs.Snapshot.{IsLinked, clocks, IsWellFormed, Joins, PortIdentity, Snapshot, System, port_of}
use Rattle.gptp_graph.proofs.PathBoundLemmas.{two_back, two_from}
use Rattle.gptp_graph.proofs.SystemLemmas.{same_clock}
use Rattle.gptp_network.specs.PathBound.{NeighboursAreKnown, are_several, with_neighbour}
use Rattle.gptp_network.specs.declared.path_bound.Neighbours.{Neighbours}
use Rattle.gptp_network.specs.declared.path_bound.Neighbours.TheVariants.{Nobody, One, Several}

module _ (g : Snapshot) (wf : IsWellFormed g) (v : ℕ) where
  -- ports are numbered from 1
  pub known_at_first : NeighboursAreKnown g v 1 Nobody
  known_at_first m below (q, joins) =
      let (s, live, is) = wf.ends (port_of v m) q joins in
      let first : 1 ≤ m = is.first in
      absurd (omega arith)

  -- the port that is next leads nowhere
  pub known_none : (n : ℕ) (known : Neighbours) → NeighboursAreKnown g v n known → (IsLinked g (port_of v n) → ⊥)
      → NeighboursAreKnown g v (n + 1) known
  known_none n Nobody before none = λ m below linked. elim (ℕ_discrete m n) [
    | yes same ↦ none (subst (λ k. IsLinked g (port_of v k)) same linked)
    | no other ↦ before m (omega arith) linked
  ]
  known_none n (One w) (joined, all) none = (
    joined,
    λ m q below joins. elim (ℕ_discrete m n) [
      | yes same ↦ absurd (none (subst (λ k. IsLinked g (port_of v k)) same (q, joins)))
      | no other ↦ all m q (omega arith) joins
    ],
  )
  known_none n Several two none = two

  -- it leads to a system
  pub known_some : (n : ℕ) (known : Neighbours) (other : PortIdentity) → NeighboursAreKnown g v n known
      → Joins g (port_of v n) other → NeighboursAreKnown g v (n + 1) (with_neighbour known other.clock)
  known_some n Nobody other before there = (
    (n, other.port, there),
    λ m q below joins. elim (ℕ_discrete m n) [
      | yes same ↦ ap (λ (p : PortIdentity). p.clock)
          (wf.one_link (port_of v n) q other (subst (λ k. Joins g (port_of v k) q) same joins) there)
      | no differs ↦ absurd (before m (omega arith) (q, joins))
    ],
  )
  known_some n (One w) other (joined, all) there = by (w == other.clock) refl
    where
      by : (b : Bool) → (w == other.clock) ≡ b → NeighboursAreKnown g v (n + 1) (with_neighbour (One w) other.clock)
      by true same = rw same (
        joined,
        λ m q below joins. elim (ℕ_discrete m n) [
          | yes here ↦ ap (λ (p : PortIdentity). p.clock)
              (wf.one_link (port_of v n) q other (subst (λ k. Joins g (port_of v k) q) here joins) there)
              ∙ sym (eqb-true w other.clock same)
          | no differs ↦ all m q (omega arith) joins
        ],
      )
      by false apart = rw apart (w, other.clock, joined, (n, other.port, there), eqb-false w other.clock apart)
  known_some n Several other two there = two

  -- all ports of the system have been gone through
  pub known_all : (s : System) (known : Neighbours) → In s g.systems → s.clock ≡ v
      → NeighboursAreKnown g v (s.ports + 1) known
      → are_several known ≡ has_two_neighbours g v
  known_all s known live named are = by (has_two_neighbours g v) refl
    where
      within : (m : ℕ) (q : PortIdentity) → Joins g (port_of v m) q → m < s.ports + 1
      within m q joins =
          let (t, there, is) = wf.ends (port_of v m) q joins in
          let same : t ≡ s = same_clock g t s wf there live (is.clock ∙ sym named) in
          let last : m ≤ t.ports = is.last in
          let ports : t.ports ≡ s.ports = ap (λ (u : System). u.ports) same in
          omega arith

      not_two : (known : Neighbours) → NeighboursAreKnown g v (s.ports + 1) known → HasTwoNeighbours g v
          → are_several known ≡ true
      not_two Nobody none (x, y, (m, k, joins), other, apart) =
          absurd (none m (within m (port_of x k) joins) (port_of x k, joins))
      not_two (One w) (joined, all) (x, y, (m, k, to_x), (n, l, to_y), apart) =
          absurd (apart (all m (port_of x k) (within m (port_of x k) to_x) to_x
          ∙ sym (all n (port_of y l) (within n (port_of y l) to_y) to_y)))
      not_two Several two more = refl

      not_one : (known : Neighbours) → NeighboursAreKnown g v (s.ports + 1) known → (HasTwoNeighbours g v → ⊥)
          → are_several known ≡ false
      not_one Nobody none less = refl
      not_one (One w) one less = refl
      not_one Several two less = absurd (less two)

      by : (b : Bool) → has_two_neighbours g v ≡ b → are_several known ≡ has_two_neighbours g v
      by true is = not_two known are (two_from g v is) ∙ sym is
      by false is =
          not_one known are (λ two. absurd (let x : true ≡ false = sym (two_back g v wf two) ∙ is in cc)) ∙ sym is

-- so the neighbours of the system at a place are known
pub known_at : (g : Snapshot) (place : ℕ) (s : System) (known : Neighbours) → IsWellFormed g
    → Some s ≡ slice_get g.systems place → NeighboursAreKnown g s.clock (s.ports + 1) known
    → are_several known ≡ has_two_neighbours g (get_or (clocks g) place 0)
known_at g place s known wf there are =
    let at : slice_get (clocks g) place ≡ Some s.clock =
    mapped_there (λ (t : System). t.clock) g.systems place s (sym there) in
    known_all g wf s.clock s known (In-slice_get s g.systems place (sym there)) refl are
    ∙ ap (has_two_neighbours g) (sym (get_or_from_slice_get (clocks g) place s.clock 0 at))

-- a place below the number of systems has one
pub nobody_there : {A : Type 0} (g : Snapshot) (place : ℕ) → place < length g.systems
    → None ≡ slice_get g.systems place → A
nobody_there g place within none =
    let (s, there) = member_there g.systems place within in
    absurd (none-some s (none ∙ there))

-- ---- how many have two

-- one system more is counted
pub counted : (g : Snapshot) (place count : ℕ) (two : Bool) → place < length g.systems
    → two ≡ has_two_neighbours g (get_or (clocks g) place 0)
    → count ≡ count_by (has_two_neighbours g) (take place (clocks g))
    → count + cond two 1 0 ≡ count_by (has_two_neighbours g) (take (place + 1) (clocks g))
counted g place count two within is so_far =
    let all = length-map g.systems (λ (s : System). s.clock) in
    let here : place < length (clocks g) = omega arith in
    by here two is
  where
    by : place < length (clocks g) → (b : Bool) → b ≡ has_two_neighbours g (get_or (clocks g) place 0)
        → count + cond b 1 0 ≡ count_by (has_two_neighbours g) (take (place + 1) (clocks g))
    by here true has =
        let more = count_by_more_yes (has_two_neighbours g) (clocks g) place 0 here (sym has) in
        ap (λ n. n + 1) so_far ∙ sym more
    by here false has =
        let same = count_by_more_no (has_two_neighbours g) (clocks g) place 0 here (sym has) in
        omega (arith, so_far, same)

-- all have been
pub all_counted : (g : Snapshot) (count : ℕ)
    → count ≡ count_by (has_two_neighbours g) (take (length g.systems) (clocks g)) → count ≡ with_two_neighbours g
all_counted g count is =
    let all = length-map g.systems (λ (s : System). s.clock) in
    is ∙ ap (count_by (has_two_neighbours g)) (take_all (length g.systems) (clocks g) (omega arith))
