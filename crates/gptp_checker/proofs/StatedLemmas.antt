-- Tests of one line, from what is found of its clock and of its parent's.
use Rattle.std.proofs.Common.{◌≡◌, ◌↔◌, ◌⊎◌, ◌<◌, ◌≤◌, ◌+◌, ℕ, Bool, true, List, [], ◌∷◌, Option, Some, None, IsTrue, not, nat_eq, nat_cmp, is_le, is_some, option_map, ◌&&◌, false, refl, sym, ap, subst, ◌∙◌, arith}
use Rattle.std.proofs.lemmas.Bool.{eqb-true, eq-eqb}
use Rattle.std.proofs.lemmas.Bool.Decides.{nat_tests}
use Rattle.gptp_lists.specs.Members.{In}
use Rattle.gptp_graph.specs.Snapshot.{System, PortIdentity, Snapshot, port_of, Joins, IsWellFormed, clocks}
use Rattle.gptp_graph.specs.Order.{IsLower}
use Rattle.gptp_graph.specs.Parent.{ParentLink, key, JoinsAt}
use Rattle.gptp_graph.specs.SettledRole.{Passive}
use Rattle.gptp_graph.specs.Labelling.{SystemLine, HasItsSystems}
use Rattle.gptp_graph.specs.LocalTests.{StatesSteps, StatesSlave, StatesMaster, HasStatedRole}
use Rattle.gptp_graph.proofs.SystemLemmas.{system_of}
use Rattle.gptp_graph.proofs.StatementLemmas.{same_line}
use Rattle.gptp_graph.proofs.Sure.{and_true}
use Rattle.gptp_checker.specs.Places.{IsLineAt, IsSystemAt}
use Rattle.gptp_checker.specs.LineTests.{FollowsParent, HasLowRoot, HasOwnRoot, IsNearer, IsNoLower, AgreeAcross, AgreeOver}

-- this is the identity of the clock, if it has one
abbrev pub OnlyIdentity : Snapshot → ℕ → Option ℕ → Type 0
OnlyIdentity g v o = (s : System) → IsSystemAt g.systems v s → o ≡ Some s.identity

-- these are the steps of the clock, if it has any
abbrev pub OnlySteps : List SystemLine → ℕ → Option ℕ → Type 0
OnlySteps lines v o = (d : ℕ) → StatesSteps lines v d → o ≡ Some d

-- what is in two options that are one
pub same_number : (m n : ℕ) → Some m ≡ Some n → m ≡ n
same_number m n e = cc

-- a parent is one that is stated
pub same_parent : (o : Option ParentLink) (l k : ParentLink) → o ≡ Some l → o ≡ Some k → l ≡ k
same_parent o l k a b = cc

-- two numbers that are compared
pub equal_by : (m n : ℕ) (b : Bool) → b ≡ nat_eq m n → IsTrue b ↔ (m ≡ n)
equal_by m n b e = ((λ t. eqb-true m n (sym e ∙ t)), (λ s. e ∙ eq-eqb m n s))

pub at_most_by : (m n : ℕ) (b : Bool) → b ≡ is_le (nat_cmp m n) → IsTrue b ↔ (m ≤ n)
at_most_by m n b e = (below, above)
  where
    below : IsTrue b → m ≤ n
    below t = grind (arith, nat_tests)

    above : m ≤ n → IsTrue b
    above h = grind (arith, nat_tests)

-- what isn't so
pub not_by : {A : Type 0} (b : Bool) → (IsTrue b ↔ A) → IsTrue (not b) ↔ (A → ⊥)
not_by true test = ((λ t. absurd cc), (λ f. absurd (f (test.0 refl))))
not_by false test = ((λ t a. let u = test.1 a in absurd cc), (λ f. refl))

-- two ports that are compared
ports_equal : (p q : PortIdentity) (b : Bool) → b ≡ (nat_eq p.clock q.clock && nat_eq p.port q.port)
    → IsTrue b ↔ (p ≡ q)
ports_equal p q b e = (forward, back)
  where
    forward : IsTrue b → p ≡ q
    forward t =
        let h = and_true (nat_eq p.clock q.clock) (nat_eq p.port q.port) (sym e ∙ t) in
        let clock = eqb-true p.clock q.clock h.0 in
        let port = eqb-true p.port q.port h.1 in
        λ i. record { clock = clock i; port = port i }

    back : p ≡ q → IsTrue b
    back s =
        let clock = eq-eqb p.clock q.clock (ap (λ (r : PortIdentity). r.clock) s) in
        let port = eq-eqb p.port q.port (ap (λ (r : PortIdentity). r.port) s) in
        e ∙ rw (clock, port) refl

-- whether a link joins a port to this one, from the other end of the link at it
pub joins_by : (g : Snapshot) (p q r : PortIdentity) (b : Bool) → IsWellFormed g → Joins g p q
    → b ≡ (nat_eq q.clock r.clock && nat_eq q.port r.port) → IsTrue b ↔ Joins g p r
joins_by g p q r b wf joins e =
    let equal = ports_equal q r b e in (
      (λ t. subst (Joins g p) (equal.0 t) joins),
      (λ k. equal.1 (wf.one_link p q r joins k)),
    )

-- of the parent that is stated, and of no other
pub of_parent : (o : Option ParentLink) (l : ParentLink) (P : ParentLink → Type 0) (b : Bool) → o ≡ Some l
    → (IsTrue b ↔ P l) → IsTrue b ↔ ((k : ParentLink) → o ≡ Some k → P k)
of_parent o l P b e test = ((λ t k f. subst P (same_parent o l k e f) (test.0 t)), (λ h. test.1 (h l e)))

-- none where there is none
pub image_of_none : {X Y : Type 0} (f : X → Y) (o : Option X) → false ≡ is_some o → option_map f o ≡ None
image_of_none f None e = refl
image_of_none f (Some x) e = absurd cc

-- a clock of the snapshot is a system's
pub system_at_clock : (g : Snapshot) (v : ℕ) → In v (clocks g) → (s : System) × IsSystemAt g.systems v s
system_at_clock g v h = let s = system_of g v h in (s.0, record { live = s.1; has = s.2 })

-- a clock of the snapshot has an identity
pub has_identity : {A : Type 0} (g : Snapshot) (v : ℕ) → In v (clocks g) → OnlyIdentity g v None → A
has_identity g v h only = let s = system_at_clock g v h in let e = only s.0 s.1 in absurd cc

-- a root by the identity of its clock
pub own_root_by : (g : Snapshot) (line : SystemLine) (n : ℕ) (b : Bool) → In line.clock (clocks g)
    → OnlyIdentity g line.clock (Some n) → line.far ≡ false → line.parent ≡ None → (IsTrue b ↔ (line.root ≡ n))
    → IsTrue b ↔ HasOwnRoot g line
own_root_by g line n b h only near none test = (
  (λ t s at e f. test.0 t ∙ same_number n s.identity (only s at)),
  (λ own.
      let s = system_at_clock g line.clock h in
      test.1 (own s.0 s.1 near none ∙ sym (same_number n s.0.identity (only s.0 s.1)))),
)

-- a root that isn't above the identity of its clock
pub low_root_by : (g : Snapshot) (line : SystemLine) (n : ℕ) (b : Bool) → In line.clock (clocks g)
    → OnlyIdentity g line.clock (Some n) → (IsTrue b ↔ (line.root ≤ n)) → IsTrue b ↔ HasLowRoot g line
low_root_by g line n b h only test = (
  (λ t s at. subst (λ m. line.root ≤ m) (same_number n s.identity (only s at)) (test.0 t)),
  (λ low. let s = system_at_clock g line.clock h in
      test.1 (subst (λ m. line.root ≤ m) (sym (same_number n s.0.identity (only s.0 s.1))) (low s.0 s.1))),
)

-- a parent by its link and the steps that are stated of it
pub follows_by : (g : Snapshot) (lines : List SystemLine) (v steps d : ℕ) (l : ParentLink) (b : Bool) → JoinsAt g v l
    → StatesSteps lines l.clock d → OnlySteps lines l.clock (Some d) → (IsTrue b ↔ (d + 1 ≡ steps))
    → IsTrue b ↔ FollowsParent g lines v steps l
follows_by g lines v steps d l b joins there only test = (
  (λ t. record { joins = joins; less = (d, there, test.0 t) }),
  (λ f. let (k, at, less) = f.less in test.1 (ap (λ n. n + 1) (same_number d k (only k at)) ∙ less)),
)

-- a parent of which nothing is stated
pub follows_nothing : {A : Type 0} (g : Snapshot) (lines : List SystemLine) (v steps : ℕ) (l : ParentLink)
    → OnlySteps lines l.clock None → FollowsParent g lines v steps l → A
follows_nothing g lines v steps l only f = let (k, at, less) = f.less in let e = only k at in absurd cc

-- the own port of the parent
pub slave_by : (line : SystemLine) (l : ParentLink) (n : ℕ) (b : Bool) → line.parent ≡ Some l
    → (IsTrue b ↔ (l.own_port ≡ n)) → IsTrue b ↔ StatesSlave line n
slave_by line l n b e test = (
  (λ t. (l, e, test.0 t)),
  (λ (k, is, own). test.1 (ap (λ (x : ParentLink). x.own_port) (same_parent line.parent l k e is) ∙ own)),
)

-- nearer, by the steps that are stated at the other end
pub nearer_by : (lines : List SystemLine) (line : SystemLine) (v d : ℕ) (b : Bool) → StatesSteps lines v d
    → OnlySteps lines v (Some d)
    → (IsTrue b ↔ ((line.steps < d) ⊎ ((line.steps ≡ d) × (line.clock < v)))) → IsTrue b ↔ IsNearer lines line v
nearer_by lines line v d b there only test = (
  (λ t. record { there = d; is_there = there; nearer = test.0 t }),
  (λ n. test.1 (subst (λ k. (line.steps < k) ⊎ ((line.steps ≡ k) × (line.clock < v)))
      (sym (same_number d n.there (only n.there n.is_there))) n.nearer)),
)

pub no_nearer : {A : Type 0} (lines : List SystemLine) (line : SystemLine) (v : ℕ) → OnlySteps lines v None
    → IsNearer lines line v → A
no_nearer lines line v only n = let e = only n.there n.is_there in absurd cc

-- at a port that is linked with this one
module _ (g : Snapshot) (lines : List SystemLine) (line : SystemLine) (n : ℕ) (other : PortIdentity)
    (wf : IsWellFormed g) (joins : Joins g (port_of line.clock n) other) where
  -- a master is nearer
  nearer_of_master : StatesMaster g lines line n → IsNearer lines line other.clock
  nearer_of_master m =
      let e = wf.one_link (port_of line.clock n) m.other other m.joins joins in
      subst (λ (o : PortIdentity). IsNearer lines line o.clock) e
      (record { there = m.there; is_there = m.is_there; nearer = m.nearer })

  -- a linked port that is neither slave nor nearer
  pub passive_role : (StatesSlave line n → ⊥) → (IsNearer lines line other.clock → ⊥)
      → HasStatedRole g lines line n Passive
  passive_role s m = ((other, joins), s, (λ h. m (nearer_of_master h)))

  -- no link that goes before that of the parent
  pub no_lower_by : (l : ParentLink) (d : ℕ) (b : Bool) → StatesSteps lines other.clock d
      → OnlySteps lines other.clock (Some d) → d + 1 ≡ line.steps
      → (IsTrue b ↔ (IsLower (other.clock ∷ other.port ∷ n ∷ []) (key l) → ⊥)) → IsTrue b ↔ IsNoLower g lines line l n
  no_lower_by l d b there only less test = (
    (λ t o k j at e lower.
        test.0 t (subst (λ (p : PortIdentity). IsLower (p.clock ∷ p.port ∷ n ∷ []) (key l))
        (wf.one_link (port_of line.clock n) o other j joins) lower)),
    (λ h. test.1 (λ lower. h other d joins there less lower)),
  )

  -- where the steps there aren't one less, there is none
  pub no_lower_elsewhere : (l : ParentLink) (o : Option ℕ) → OnlySteps lines other.clock o
      → ((d : ℕ) → o ≡ Some d → d + 1 ≡ line.steps → ⊥) → IsNoLower g lines line l n
  no_lower_elsewhere l o only never p d j at e lower =
      never d (only d (subst (λ (q : PortIdentity). StatesSteps lines q.clock d)
      (wf.one_link (port_of line.clock n) p other j joins) at)) e

-- across a link, by the lines of its two clocks
pub agree_by : (g : Snapshot) (lines : List SystemLine) (v w : ℕ) (here there : SystemLine) (b : Bool)
    → HasItsSystems g lines → IsLineAt lines v here → IsLineAt lines w there → (IsTrue b ↔ AgreeAcross here there)
    → IsTrue b ↔ AgreeOver lines v w
agree_by g lines v w here there b has at far test =
    ((λ t one other i j. put (test.0 t) one other i j), (λ h. test.1 (h here there at far)))
  where
    put : AgreeAcross here there → (one other : SystemLine) → IsLineAt lines v one → IsLineAt lines w other
        → AgreeAcross one other
    put a one other i j =
        let e = same_line g lines here one has at.stated i.stated (at.has ∙ sym i.has) in
        let f = same_line g lines there other has far.stated j.stated (far.has ∙ sym j.has) in
        subst (λ x. AgreeAcross x other) e (subst (λ y. AgreeAcross here y) f a)
