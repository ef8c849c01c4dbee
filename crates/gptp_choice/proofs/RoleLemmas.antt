-- The role of a port.
use Rattle.std.proofs.Common.{◌≡◌, ◌↔◌, ◌⊎◌, ◌<◌, ◌≤◌, ◌+◌, ◌++◌, ◌∙◌, ℕ, zero, suc, List, [], ◌∷◌, map, Some, None, IsTrue, Bool, refl, sym, ap, subst, inl, inr, arith}
use Rattle.std.specs.List.{range_with_len}
use Rattle.gptp_lists.specs.Members.{In}
use Rattle.gptp_lists.proofs.SystemSpecLemmas.{In-parts}
use Rattle.gptp_graph.specs.Distance.{IsDistance}
use Rattle.gptp_graph.specs.Labelling.{PortLine}
use Rattle.gptp_graph.specs.Order.{IsRising}
use Rattle.gptp_graph.specs.Parent.{ParentLink}
use Rattle.gptp_graph.specs.SettledChoice.{IsParentIfAny}
use Rattle.gptp_graph.specs.SettledRole.{IsMasterPort, IsSettledRole, IsSlavePort}
use Rattle.gptp_graph.specs.Snapshot.{PortIdentity, Snapshot, IsWellFormed, Joins, clocks, port_of}
use Rattle.gptp_graph.proofs.DistanceLemmas.{IsDistance-unique}
use Rattle.gptp_graph.proofs.LinkLemmas.{Joins-clock, Joins-sym}
use Rattle.gptp_graph.proofs.ParentLemmas.{IsParent-unique}
use Rattle.gptp_roles.specs.declared.role.Role as ports
use Rattle.gptp_certificate_text.specs.Certificate.{port_line_of, role_of}
use Rattle.gptp_choice.specs.Lines.{AreRoles}

-- ---- Slave

pub slave_by_parent : (g : Snapshot) (p : PortIdentity) (l : ParentLink) (b : Bool) → IsParentIfAny g p.clock (Some l)
    → (IsTrue b ↔ (l.own_port ≡ p.port)) → IsTrue b ↔ IsSlavePort g p
slave_by_parent g p l b is test = (
  (λ t. (l, is, test.0 t)),
  (λ (k, also, port). test.1 (ap (λ (m : ParentLink). m.own_port) (IsParent-unique g p.clock l k is also) ∙ port)),
)

pub no_slave : (g : Snapshot) (p : PortIdentity) → IsParentIfAny g p.clock None → IsSlavePort g p → ⊥
no_slave g p none (l, is, port) = none l is

-- ---- Master

module _ (g : Snapshot) (wf : IsWellFormed g) (p q : PortIdentity) (joins : Joins g p q) (here : ℕ)
    (is_here : IsDistance g p.clock here) where
  pub master_by : (there : ℕ) (b : Bool) → IsDistance g q.clock there
      → (IsTrue b ↔ ((here < there) ⊎ ((here ≡ there) × (p.clock < q.clock)))) → IsTrue b ↔ IsMasterPort g p
  master_by there b is_there test = (
    (λ t. record {
      other = q;
      joins = joins;
      here = here;
      there = there;
      is_here = is_here;
      is_there = is_there;
      nearer = test.0 t;
    }),
    (λ is. test.1 (nearer is)),
  )
    where
      nearer : IsMasterPort g p → (here < there) ⊎ ((here ≡ there) × (p.clock < q.clock))
      nearer is =
          let end : is.other ≡ q = wf.one_link p is.other q is.joins joins in
          let dd : is.here ≡ here = IsDistance-unique g p.clock is.here here wf is.is_here is_here in
          let ee : is.there ≡ there =
          IsDistance-unique g q.clock is.there there wf
          (subst (λ (r : PortIdentity). IsDistance g r.clock is.there) end is.is_there) is_there in
          subst (λ x. (x < there) ⊎ ((x ≡ there) × (p.clock < q.clock))) dd
          (subst (λ x. (is.here < x) ⊎ ((is.here ≡ x) × (p.clock < q.clock))) ee
          (subst (λ (r : PortIdentity). (is.here < is.there) ⊎ ((is.here ≡ is.there) × (p.clock < r.clock))) end
          is.nearer))

  -- the other end is a system's
  pub other_lives : In q.clock (clocks g)
  other_lives = Joins-clock g q p wf (Joins-sym g p q joins)

-- ---- all ports

pub no_roles : (g : Snapshot) (v : ℕ) → AreRoles g v 0 []
no_roles g v = record { numbers = refl; settled = λ port member. absurd member }

pub range_last : (a n : ℕ) → range_with_len a (suc n) ≡ range_with_len a n ++ (a + n) ∷ []
range_last a zero = ap (λ m. m ∷ []) (omega arith)
range_last a (suc n) =
    ap (λ ns. a ∷ ns) (range_last (a + 1) n
    ∙ ap (λ m. range_with_len (a + 1) n ++ m ∷ []) (omega arith))

pub one_role : (g : Snapshot) (v count : ℕ) (ports : List PortLine) (port : PortLine) → AreRoles g v count ports
    → port.number ≡ suc count → IsSettledRole g (port_of v port.number) port.role
    → AreRoles g v (suc count) (ports ++ port ∷ [])
one_role g v count ports port before number role = record {
  numbers = numbers ports ∙ ap (λ ns. ns ++ port.number ∷ []) before.numbers
      ∙ ap (λ n. range_with_len 1 count ++ n ∷ []) (number ∙ next) ∙ sym (range_last 1 count);
  settled = λ other member. elim (In-parts other ports (port ∷ []) member) [
    | inl early ↦ before.settled other early
    | inr last ↦ elim last [
      | inl same ↦ subst (λ (o : PortLine). IsSettledRole g (port_of v o.number) o.role) (sym same) role
      | inr none ↦ absurd none
    ]
  ];
}
  where
    next : suc count ≡ 1 + count
    next = omega arith

    numbers : (xs : List PortLine) → map (λ (p : PortLine). p.number) (xs ++ port ∷ [])
        ≡ map (λ (p : PortLine). p.number) xs ++ port.number ∷ []
    numbers [] = refl
    numbers (x ∷ xs) = ap (λ ns. x.number ∷ ns) (numbers xs)

-- the same, as it is pushed
pub pushed_role : (g : Snapshot) (v count : ℕ) (before after : List (ℕ × ports.Role)) (number : ℕ) (role : ports.Role)
    → AreRoles g v count (map port_line_of before) → after ≡ before ++ (number, role) ∷ [] → number ≡ count + 1
    → IsSettledRole g (port_of v number) (role_of role) → AreRoles g v (count + 1) (map port_line_of after)
pushed_role g v count before after number role so_far is next settled =
    let more : suc count ≡ count + 1 = omega arith in
    subst (λ n. AreRoles g v n (map port_line_of after)) more
    (subst (AreRoles g v (suc count)) (sym (ap (map port_line_of) is ∙ joined before))
    (one_role g v count (map port_line_of before) (port_line_of (number, role)) so_far (omega arith) settled))
  where
    joined : (xs : List (ℕ × ports.Role)) → map port_line_of (xs ++ (number, role) ∷ [])
        ≡ map port_line_of xs ++ port_line_of (number, role) ∷ []
    joined [] = refl
    joined (x ∷ xs) = ap (λ ys. port_line_of x ∷ ys) (joined xs)

-- the numbers of ports rise
pub range_rises : (a n : ℕ) → IsRising (range_with_len a n)
range_rises a zero = tt
range_rises a (suc n) =
    ((λ m member. let over : a + 1 ≤ m = above (a + 1) n m member in omega arith), range_rises (a + 1) n)
  where
    above : (b k m : ℕ) → In m (range_with_len b k) → b ≤ m
    above b zero m member = absurd member
    above b (suc k) m (inl same) = omega arith
    above b (suc k) m (inr member) = let more = above (b + 1) k m member in omega arith
