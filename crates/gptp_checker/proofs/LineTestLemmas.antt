-- A test of a certificate passes exactly where it passes for each line, port or link.
use Rattle.std.proofs.Common.{Bool, IsTrue, ◌≡◌, ◌↔◌, ◌<◌, ◌≤◌, ◌+◌, ℕ, zero, suc, false, List, refl, sym, subst, inl, inr, arith}
use Rattle.std.specs.List.{range_with_len}
use Rattle.gptp_lists.specs.Members.{In}
use Rattle.gptp_graph.specs.Snapshot.{Snapshot, PortIdentity, Link, port_of, Joins, Adjacent, IsWellFormed}
use Rattle.gptp_graph.specs.Parent.{ParentLink}
use Rattle.gptp_graph.specs.Labelling.{PortLine, SystemLine, HasItsSystems}
use Rattle.gptp_graph.specs.LocalTests.{PassesTooFar, PassesRoot, PassesSteps, PassesParent, PassesLink, PassesIdentity, PassesTie, PassesRole}
use Rattle.gptp_lists.proofs.SystemSpecLemmas.{from_map}
use Rattle.gptp_graph.proofs.StatementLemmas.{near_with_parent}
use Rattle.gptp_certificate_text.specs.Certificate.{IsVersion}
use Rattle.gptp_checker.specs.LineTests.{HasNearer, IsNoLower, EndLeadsNearer, PassesLine, PassesEachLine, AgreeAcross, AgreeOver}
use Rattle.gptp_checker.specs.declared.line_test.LineTest.{LineTest}
use Rattle.gptp_checker.specs.declared.line_test.LineTest.TheVariants.{TooFar, Root, Steps, Parent, Identity, Tie, Role}

-- a number from a on, of n numbers
In-range : (a n k : ℕ) → a ≤ k → k < a + n → In k (range_with_len a n)
In-range a zero k low high = absurd (omega arith)
In-range a (suc n) k low high = elim (native.Mathlib.Decide.ℕ_discrete k a) [
  | yes e ↦ inl e
  | no other ↦ inr (In-range (a + 1) n k (omega arith) (omega arith))
]

-- a version that isn't 2
pub first_version : (version : ℕ) → IsVersion version → (version ≡ 2 → ⊥) → version ≡ 1
first_version version (inl e) other = e
first_version version (inr e) other = absurd (other e)

-- the same test
pub same_test : (one two : LineTest) (g : Snapshot) (lines : List SystemLine) (line : SystemLine) (b : Bool) → one ≡ two
    → (IsTrue b ↔ PassesLine two g lines line) → IsTrue b ↔ PassesLine one g lines line
same_test one two g lines line b e h = subst (λ test. IsTrue b ↔ PassesLine test g lines line) (sym e) h

module _ (g : Snapshot) (lines : List SystemLine) where
  pub too_far_by_line : PassesEachLine TooFar g lines ↔ PassesTooFar lines
  too_far_by_line = ((λ h. h), (λ h. h))

  pub root_by_line : PassesEachLine Root g lines ↔ PassesRoot g lines
  root_by_line = (
    (λ h s line of. h line of.stated s (record { live = of.live; has = sym of.clock })),
    (λ h line stated s at. h s line (record { live = at.live; stated = stated; clock = sym at.has })),
  )

  pub steps_by_line : PassesEachLine Steps g lines ↔ PassesSteps lines
  steps_by_line = (
    (λ h. record {
      none = λ line stated. (h line stated).none;
      some = λ line l stated. (h line stated).some l;
      near = λ line stated. (h line stated).near;
      far = λ line stated. (h line stated).far;
    }),
    (λ h line stated. record {
      none = h.none line stated;
      some = λ l. h.some line l stated;
      near = h.near line stated;
      far = h.far line stated;
    }),
  )

  pub parent_by_line : PassesEachLine Parent g lines ↔ PassesParent g lines
  parent_by_line = (
    (λ h. record {
      near = λ line l stated e. let f = (h line stated).near l e in (f.joins, f.less);
      far = λ line stated. (h line stated).far;
    }),
    (λ h line stated. record {
      near = λ l e. let f = h.near line l stated e in record { joins = f.0; less = f.1 };
      far = h.far line stated;
    }),
  )

  pub identity_by_line : PassesEachLine Identity g lines ↔ PassesIdentity g lines
  identity_by_line = (
    (λ h s line of. h line of.stated s (record { live = of.live; has = sym of.clock })),
    (λ h line stated s at. h s line (record { live = at.live; stated = stated; clock = sym at.has })),
  )

  pub role_by_line : PassesEachLine Role g lines ↔ PassesRole g lines
  role_by_line = ((λ h line port stated. h line stated port), (λ h line stated port. h line port stated))

  -- a link of a line's system is at one of the line's ports, where it isn't far
  port_of_link : IsWellFormed g → HasItsSystems g lines → (line : SystemLine) (n : ℕ) (other : PortIdentity)
      → In line lines → line.far ≡ false → Joins g (port_of line.clock n) other
      → (port : PortLine) × In port line.ports × (port.number ≡ n)
  port_of_link wf has line n other stated near joins =
      let (s, live, end) = wf.ends (port_of line.clock n) other joins in
      let numbers = has.ports s line (record { live = live; stated = stated; clock = sym end.clock }) near in
      let first : 1 ≤ n = end.first in
      let last : n ≤ s.ports = end.last in
      from_map (λ (p : PortLine). p.number) n line.ports
      (subst (In n) (sym numbers) (In-range 1 s.ports n first (omega arith)))

  pub tie_by_line : IsWellFormed g → HasItsSystems g lines → PassesEachLine Tie g lines ↔ PassesTie g lines
  tie_by_line wf has = (forward, back)
    where
      forward : PassesEachLine Tie g lines → PassesTie g lines
      forward h line l other d stated parent joins there less lower =
          let end = port_of other.clock other.port in
          let near = near_with_parent g lines line l has stated parent in
          let (port, listed, e) = port_of_link wf has line other.own_port end stated near joins in
          subst (λ n. IsNoLower g lines line l n) e (h line stated l parent port listed) end d joins there less lower

      back : PassesTie g lines → PassesEachLine Tie g lines
      back h line stated l parent port listed other d joins there less lower =
          let end : ParentLink = record { own_port = port.number; clock = other.clock; port = other.port } in
          h line l end d stated parent joins there less lower

  -- a system has a neighbour one step nearer where one of the links leads there
  pub nearer_by_link : (line : SystemLine)
      → ((link : Link) × In link g.links × EndLeadsNearer lines line link) ↔ HasNearer g lines line
  nearer_by_link line = (forward, back)
    where
      forward : (link : Link) × In link g.links × EndLeadsNearer lines line link → HasNearer g lines line
      forward (link, at, inl (here, less)) =
          let e : link ≡ record { a = port_of line.clock link.a.port; b = link.b } =
          λ i. record { a = port_of (here i) link.a.port; b = link.b } in
          (link.b.clock, (link.a.port, link.b.port, inl (subst (λ l. In l g.links) e at)), less)
      forward (link, at, inr (here, less)) =
          let e : link ≡ record { a = link.a; b = port_of line.clock link.b.port } =
          λ i. record { a = link.a; b = port_of (here i) link.b.port } in
          (link.a.clock, (link.b.port, link.a.port, inr (subst (λ l. In l g.links) e at)), less)

      back : HasNearer g lines line → (link : Link) × In link g.links × EndLeadsNearer lines line link
      back (w, (m, n, inl at), less) = (record { a = port_of line.clock m; b = port_of w n }, at, inl (refl, less))
      back (w, (m, n, inr at), less) = (record { a = port_of w n; b = port_of line.clock m }, at, inr (refl, less))

  -- over each link
  abbrev pub PassesEachLink : Type 0
  PassesEachLink = (l : Link) → In l g.links → AgreeOver lines l.a.clock l.b.clock

  -- seen from the other end
  pub turned : (one other : SystemLine) → AgreeAcross one other → AgreeAcross other one
  turned one other a = record { roots = sym a.roots; here = a.there; there = a.here }

  pub link_by_link : PassesEachLink ↔ PassesLink g lines
  link_by_link = (forward, back)
    where
      agree : PassesEachLink → (one other : SystemLine) → In one lines → In other lines → (m n : ℕ)
          → Joins g (port_of one.clock m) (port_of other.clock n) → AgreeAcross one other
      agree h one other a b m n (inl k) =
          h (record { a = port_of one.clock m; b = port_of other.clock n }) k one other
          (record { stated = a; has = refl }) (record { stated = b; has = refl })
      agree h one other a b m n (inr k) =
          turned other one (h (record { a = port_of other.clock n; b = port_of one.clock m }) k other one
          (record { stated = b; has = refl }) (record { stated = a; has = refl }))

      forward : PassesEachLink → PassesLink g lines
      forward h one other a b (m, n, joins) =
          let c = agree h one other a b m n joins in (c.roots, c.here, c.there)

      back : PassesLink g lines → PassesEachLink
      back h l k one other at there =
          let near : Adjacent g one.clock other.clock = (
            l.a.port,
            l.b.port,
            inl (subst (λ v. In (record { a = port_of v l.a.port; b = port_of other.clock l.b.port }) g.links)
                (sym at.has) (subst (λ w. In (record { a = l.a; b = port_of w l.b.port }) g.links) (sym there.has) k)),
          ) in
          let c = h one other at.stated there.stated near in
          record { roots = c.0; here = c.1; there = c.2 }
