-- A fault of a certificate has one first place.
use Rattle.std.proofs.Common.{◌≡◌, ◌<◌, ℕ, List, inl, inr, sym, ap, subst, ◌∙◌, arith}
use Rattle.gptp_lists.proofs.MappedLemmas.{some_same}
use Rattle.gptp_lists.proofs.SystemSpecLemmas.{same_image}
use Rattle.gptp_graph.specs.Labelling.{PortLine, SystemLine, line_clocks}
use Rattle.gptp_graph.specs.LocalTests.{HasStatedRole}
use Rattle.gptp_graph.specs.Order.{IsRising}
use Rattle.gptp_graph.specs.Parent.{ParentLink}
use Rattle.gptp_graph.specs.Snapshot.{IsWellFormed, Joins, PortIdentity, Snapshot}
use Rattle.gptp_graph.proofs.RisingLemmas.{Different-rising}
use Rattle.gptp_network.specs.Snapshot.{port_identity}
use Rattle.gptp_vector.specs.declared.port.PortId.{PortId}
use Rattle.gptp_checker.specs.LineTests.{IsNoLower}
use Rattle.gptp_checker.specs.Located.{DiffersAt, IsAtLine, IsAtParent, IsBefore, IsFirstEnd, IsFirstLine, IsFirstLower, IsFirstPort, IsFirstRole, IsLeastSuch, IsLocation, IsLowerWay, own_end, parent_end}
use Rattle.gptp_checker.specs.declared.fault.Fault.{Fault}
use Rattle.gptp_checker.specs.declared.fault.Fault.TheVariants as faults
use Rattle.gptp_checker.specs.declared.line_test.LineTest.{LineTest}
use Rattle.gptp_checker.specs.declared.line_test.LineTest.TheVariants as tests
use Rattle.gptp_checker.specs.declared.location.Location.{Location}
use Rattle.gptp_checker.specs.declared.location.Location.TheVariants.{System, Link, Port}

-- numbers of which neither is less are one
if_neither : (m n : ℕ) → (m < n → ⊥) → (n < m → ⊥) → m ≡ n
if_neither m n f g = elim (native.Mathlib.Decide.dec_lt m n) [
  | yes less ↦ absurd (f less)
  | no over ↦ elim (native.Mathlib.Decide.dec_lt n m) [ yes more ↦ absurd (g more) | no under ↦ omega arith ]
]

one_least : (P : ℕ → Type 0) (m n : ℕ) → IsLeastSuch P m → IsLeastSuch P n → m ≡ n
one_least P m n (p, low) (q, lower) = if_neither m n (λ less. lower m less p) (λ less. low n less q)

-- ---- lines

module _ (g : Snapshot) (lines : List SystemLine) where
  one_clock : (test : LineTest) (line other : SystemLine) → IsFirstLine test g lines line
      → IsFirstLine test g lines other → line.clock ≡ other.clock
  one_clock test line other x y =
      if_neither line.clock other.clock (λ less. x.fails (y.first line x.stated less))
      (λ less. y.fails (x.first other y.stated less))

  one_line : (test : LineTest) (line other : SystemLine) → IsRising (line_clocks lines)
      → IsFirstLine test g lines line → IsFirstLine test g lines other → line ≡ other
  one_line test line other rising x y =
      same_image (λ (l : SystemLine). l.clock) line other lines (Different-rising (line_clocks lines) rising) x.stated
      y.stated (one_clock test line other x y)

  one_at_line : (test : LineTest) (a b : Location) → IsAtLine test g lines a → IsAtLine test g lines b → a ≡ b
  one_at_line test a b (line, x, e) (other, y, f) =
      e ∙ ap (λ (clock : ℕ). System clock) (one_clock test line other x y) ∙ sym f

-- a line has one parent, or none
one_parent : (line : SystemLine) (a b : Location) → IsAtParent line a → IsAtParent line b → a ≡ b
one_parent line a b (inl (l, is, e)) (inl (m, also, f)) =
    e ∙ ap (λ (x : ParentLink). Link (own_end line x) (parent_end x)) (some_same l m (sym is ∙ also)) ∙ sym f
one_parent line a b (inl (l, is, e)) (inr (none, f)) = absurd (let both = sym is ∙ none in cc)
one_parent line a b (inr (none, e)) (inl (m, also, f)) = absurd (let both = sym none ∙ also in cc)
one_parent line a b (inr (none, e)) (inr (_, f)) = e ∙ sym f

-- ---- ports

abbrev port_id : ℕ → ℕ → PortId
port_id clock port = record { clock = clock; port = port }

same_port : (p q : PortId) → p.clock ≡ q.clock → p.port ≡ q.port → p ≡ q
same_port p q clock port = ap (λ (v : ℕ). port_id v p.port) clock ∙ ap (λ (n : ℕ). port_id q.clock n) port

-- ports of which neither is before the other are one
one_port : (p q : PortId) → (IsBefore p q → ⊥) → (IsBefore q p → ⊥) → p ≡ q
one_port p q f g =
    let clock = if_neither p.clock q.clock (λ less. f (inl less)) (λ less. g (inl less)) in
    let port = if_neither p.port q.port (λ less. f (inr (clock, less))) (λ less. g (inr (sym clock, less))) in
    same_port p q clock port

-- a port has one other end
other_end : (g : Snapshot) (p q r : PortId) → IsWellFormed g → Joins g (port_identity p) (port_identity q)
    → Joins g (port_identity p) (port_identity r) → q ≡ r
other_end g p q r wf j k =
    let same = wf.one_link (port_identity p) (port_identity q) (port_identity r) j k in
    same_port q r (ap (λ (x : PortIdentity). x.clock) same) (ap (λ (x : PortIdentity). x.port) same)

-- two links from one port are one
one_link : (g : Snapshot) (p q r s : PortId) → IsWellFormed g → p ≡ r → Joins g (port_identity p) (port_identity q)
    → Joins g (port_identity r) (port_identity s) → Link p q ≡ Link r s
one_link g p q r s wf same j k =
    let From : PortId → Type 0 = λ (x : PortId). Joins g (port_identity x) (port_identity q) in
    ap (λ (x : PortId). Link x q) same ∙ ap (λ (x : PortId). Link r x) (other_end g r q s wf (subst From same j) k)

one_end : (g : Snapshot) (lines : List SystemLine) (p q r s : PortId) → IsWellFormed g → IsFirstEnd g lines p q
    → IsFirstEnd g lines r s → Link p q ≡ Link r s
one_end g lines p q r s wf x y =
    one_link g p q r s wf (one_port p r (y.first p q x.disagrees) (x.first r s y.disagrees)) x.disagrees.0 y.disagrees.0

-- a line has one first port
one_number : (Passes : PortLine → Type 0) (line : SystemLine) (a b : PortLine) (m n : ℕ) → a.number ≡ m
    → b.number ≡ n → IsFirstPort Passes line a → IsFirstPort Passes line b → m ≡ n
one_number Passes line a b m n e f x y =
    let same = if_neither a.number b.number (λ less. x.fails (y.first a x.stated less))
    (λ less. y.fails (x.first b y.stated less)) in
    sym e ∙ same ∙ f

module _ (g : Snapshot) (lines : List SystemLine) (line : SystemLine) where
  one_lower : (l : ParentLink) (m n : ℕ) → IsFirstLower g lines line l m → IsFirstLower g lines line l n → m ≡ n
  one_lower l m n (a, e, x) (b, f, y) =
      one_number (λ (other : PortLine). IsNoLower g lines line l other.number) line a b m n e f x y

  one_way : (p q r s : PortId) → IsWellFormed g → IsLowerWay g lines line p q → IsLowerWay g lines line r s
      → Link p q ≡ Link r s
  one_way p q r s wf (l, is, e, lower, j) (m, also, f, least, k) =
      let parent : m ≡ l = some_same m l (sym also ∙ is) in
      let number =
      one_lower l p.port r.port lower (subst (λ (x : ParentLink). IsFirstLower g lines line x r.port) parent least) in
      one_link g p q r s wf (same_port p r (e ∙ sym f) number) j k

  one_role : (p q : PortId) → p.clock ≡ line.clock → q.clock ≡ line.clock → IsFirstRole g lines line p.port
      → IsFirstRole g lines line q.port → p ≡ q
  one_role p q e f (a, is, x) (b, also, y) =
      same_port p q (e ∙ sym f)
      (one_number (λ (other : PortLine). HasStatedRole g lines line other.number other.role) line a b p.port q.port is
      also x y)

-- ---- all faults

pub one_location : (fault : Fault) (g : Snapshot) (lines : List SystemLine) (one other : Location) → IsWellFormed g
    → IsRising (line_clocks lines) → IsLocation fault g lines one → IsLocation fault g lines other → one ≡ other
one_location faults.Systems g lines a b wf rising (m, x, e) (n, y, f) =
    e ∙ ap (λ (clock : ℕ). System clock) (one_least (DiffersAt g lines) m n x y) ∙ sym f
one_location faults.TooFar g lines a b wf rising x y = one_at_line g lines tests.TooFar a b x y
one_location faults.Root g lines a b wf rising x y = one_at_line g lines tests.Root a b x y
one_location faults.Steps g lines a b wf rising x y = one_at_line g lines tests.Steps a b x y
one_location faults.Identity g lines a b wf rising x y = one_at_line g lines tests.Identity a b x y
one_location faults.Parent g lines a b wf rising (line, x, at) (other, y, also) =
    let same = one_line g lines tests.Parent line other rising x y in
    one_parent other a b (subst (λ (l : SystemLine). IsAtParent l a) same at) also
one_location faults.Link g lines a b wf rising (p, q, x, e) (r, s, y, f) =
    e ∙ one_end g lines p q r s wf x y ∙ sym f
one_location faults.Tie g lines a b wf rising (line, p, q, x, way, e) (other, r, s, y, also, f) =
    let same = one_line g lines tests.Tie line other rising x y in
    let there = subst (λ (l : SystemLine). IsLowerWay g lines l p q) same way in
    e ∙ one_way g lines other p q r s wf there also ∙ sym f
one_location faults.Role g lines a b wf rising (line, p, x, c, at, e) (other, q, y, d, also, f) =
    let same = one_line g lines tests.Role line other rising x y in
    let clock = c ∙ ap (λ (l : SystemLine). l.clock) same in
    let there = subst (λ (l : SystemLine). IsFirstRole g lines l p.port) same at in
    e ∙ ap (λ (port : PortId). Port port) (one_role g lines other p q clock d there also) ∙ sym f
