-- The first end of the links across which what is stated doesn't agree.
use Rattle.std.proofs.Common.{◌≡◌, ◌⊎◌, ◌<◌, ◌≤◌, ◌+◌, ℕ, List, length, Option, Some, None, IfSome, IfNone, slice_get, refl, sym, ap, subst, ◌∙◌, inl, inr, arith}
use Rattle.std.proofs.lemmas.Option.{slice_get_within}
use Rattle.gptp_lists.proofs.MappedLemmas.{same_there, some_same}
use Rattle.gptp_lists.proofs.SystemSpecLemmas.{In-slice_get, slice_get-In}
use Rattle.gptp_graph.specs.Labelling.{SystemLine}
use Rattle.gptp_graph.specs.LocalTests.{PassesLink}
use Rattle.gptp_graph.specs.Snapshot.{Link, Snapshot, Joins}
use Rattle.gptp_network.specs.Snapshot.{link_of, port_identity}
use Rattle.gptp_vector.specs.declared.port.PortId.{PortId}
use Rattle.gptp_checker.specs.LineTests.{AgreeOver}
use Rattle.gptp_checker.specs.Located.{Disagrees, IsBefore, IsEarliest, IsFirstEnd, IsFirstUpTo}
use Rattle.gptp_checker.proofs.LineTestLemmas.{link_by_link, turned}

-- ---- ports by their order

before_itself : (p : PortId) → IsBefore p p → ⊥
before_itself p (inl clock) = omega arith
before_itself p (inr (same, port)) = omega arith

before_each_other : (p q : PortId) → IsBefore p q → IsBefore q p → ⊥
before_each_other p q (inl a) (inl b) = omega arith
before_each_other p q (inl a) (inr (same, b)) = omega arith
before_each_other p q (inr (same, a)) (inl b) = omega arith
before_each_other p q (inr (same, a)) (inr (also, b)) = omega arith

-- one that isn't before another comes after it, or is the same
not_before : (p q : PortId) → (IsBefore p q → ⊥) → (q.clock < p.clock) ⊎ ((q.clock ≡ p.clock) × (q.port ≤ p.port))
not_before p q none = elim (native.Mathlib.Decide.dec_lt q.clock p.clock) [
  | yes lower ↦ inl lower
  | no over ↦ elim (native.Mathlib.Decide.dec_lt p.clock q.clock) [
    | yes before ↦ absurd (none (inl before))
    | no above ↦ elim (native.Mathlib.Decide.dec_lt p.port q.port) [
      | yes before ↦ absurd (none (inr (omega arith, before)))
      | no behind ↦ inr (omega arith, omega arith)
    ]
  ]
]

-- what isn't before one that isn't before a third isn't before that
none_before : (p q r : PortId) → (IsBefore p q → ⊥) → (IsBefore q r → ⊥) → IsBefore p r → ⊥
none_before p q r one two before = put (not_before p q one) (not_before q r two) before
  where
    put : (q.clock < p.clock) ⊎ ((q.clock ≡ p.clock) × (q.port ≤ p.port))
        → (r.clock < q.clock) ⊎ ((r.clock ≡ q.clock) × (r.port ≤ q.port)) → IsBefore p r → ⊥
    put (inl a) (inl b) (inl c) = omega arith
    put (inl a) (inl b) (inr (e, c)) = omega arith
    put (inl a) (inr (f, b)) (inl c) = omega arith
    put (inl a) (inr (f, b)) (inr (e, c)) = omega arith
    put (inr (d, a)) (inl b) (inl c) = omega arith
    put (inr (d, a)) (inl b) (inr (e, c)) = omega arith
    put (inr (d, a)) (inr (f, b)) (inl c) = omega arith
    put (inr (d, a)) (inr (f, b)) (inr (e, c)) = omega arith

-- of two ends neither is before the earlier one
neither_before : (first second ends : PortId × PortId) → IsEarliest (Some first) second ends
    → (IsBefore first.0 ends.0 → ⊥) × (IsBefore second.0 ends.0 → ⊥)
neither_before first second ends (inl (e, none)) = (
  (λ b. before_itself first.0 (subst (λ (x : PortId × PortId). IsBefore first.0 x.0) e b)),
  (λ b. none (subst (λ (x : PortId × PortId). IsBefore second.0 x.0) e b)),
)
neither_before first second ends (inr (e, before)) = (
  (λ b. before_each_other first.0 second.0 (subst (λ (x : PortId × PortId). IsBefore first.0 x.0) e b) before),
  (λ b. before_itself second.0 (subst (λ (x : PortId × PortId). IsBefore second.0 x.0) e b)),
)

-- what holds of both holds of it
of_earlier : (P : PortId × PortId → Type 0) (first second ends : PortId × PortId) → IsEarliest (Some first) second ends
    → P first → P second → P ends
of_earlier P first second ends (inl (e, none)) one two = subst P (sym e) one
of_earlier P first second ends (inr (e, before)) one two = subst P (sym e) two

-- ---- links

agree_turned : (g : Snapshot) (lines : List SystemLine) (v w : ℕ) → AgreeOver lines v w → AgreeOver lines w v
agree_turned g lines v w h one other i j = turned g lines other one (h other one j i)

-- of the link that stands there
pub agree_there : (lines : List SystemLine) (one other : Link) → Some one ≡ Some other
    → AgreeOver lines one.a.clock one.b.clock → AgreeOver lines other.a.clock other.b.clock
agree_there lines one other e =
    subst (λ (link : Link). AgreeOver lines link.a.clock link.b.clock) (some_same one other e)

same_links : (a b r s : PortId) (l : Link) → l ≡ link_of (a, b) → l ≡ link_of (r, s) → (r ≡ a) × (s ≡ b)
same_links a b r s l e f =
    let same : link_of (r, s) ≡ link_of (a, b) = sym f ∙ e in
    let one_clock = ap (λ (x : Link). x.a.clock) same in
    let one_port = ap (λ (x : Link). x.a.port) same in
    let other_clock = ap (λ (x : Link). x.b.clock) same in
    let other_port = ap (λ (x : Link). x.b.port) same in
    (λ i. record { clock = one_clock i; port = one_port i }, λ i. record { clock = other_clock i; port = other_port i })

module _ (g : Snapshot) (lines : List SystemLine) (n : ℕ) where
  -- the ends of a link at a place
  abbrev EndsAt : ℕ → PortId → PortId → Type 0
  EndsAt i r s = (slice_get g.links i ≡ Some (link_of (r, s))) ⊎ (slice_get g.links i ≡ Some (link_of (s, r)))

  at_this : (i : ℕ) (r s : PortId) → i ≡ n → EndsAt i r s → EndsAt n r s
  at_this i r s e at = subst (λ k. EndsAt k r s) e at

  -- what is stated agrees across a link, from either end
  agrees : (i : ℕ) (r s : PortId) → ((link : Link) → slice_get g.links i ≡ Some link
      → AgreeOver lines link.a.clock link.b.clock) → EndsAt i r s → AgreeOver lines r.clock s.clock
  agrees i r s h (inl at) = h (link_of (r, s)) at
  agrees i r s h (inr at) = agree_turned g lines s.clock r.clock (h (link_of (s, r)) at)

  -- one more link across which it agrees, or none
  pub up_to_next : (first : Option (PortId × PortId)) → IsFirstUpTo g lines n first
      → ((link : Link) → slice_get g.links n ≡ Some link → AgreeOver lines link.a.clock link.b.clock)
      → IsFirstUpTo g lines (n + 1) first
  up_to_next None h here = λ i link below at. elim (native.Mathlib.Decide.dec_lt i n) [
    | yes before ↦ h i link before at
    | no over ↦ here link (let e : i ≡ n = omega arith in subst (λ k. slice_get g.links k ≡ Some link) e at)
  ]
  up_to_next (Some ends) h here = (
    h.0,
    λ r s i below at differs before. elim (native.Mathlib.Decide.dec_lt i n) [
      | yes earlier ↦ h.1 r s i earlier at differs before
      | no over ↦ let e : i ≡ n = omega arith in differs (agrees n r s here (at_this i r s e at))
    ],
  )

  -- one more link across which it doesn't agree, by both its ends
  module _ (a b : PortId) (first : Option (PortId × PortId)) (one two : PortId × PortId)
      (there : slice_get g.links n ≡ Some (link_of (a, b))) (differs : AgreeOver lines a.clock b.clock → ⊥)
      (known : IsFirstUpTo g lines n first) (is_one : IsEarliest first (a, b) one)
      (is_two : IsEarliest (Some one) (b, a) two) where
    abbrev IsApart : PortId × PortId → Type 0
    IsApart ends = Disagrees g lines ends.0 ends.1

    here : IsApart (a, b)
    here = (inl (In-slice_get (link_of (a, b)) g.links n there), differs)

    there_too : IsApart (b, a)
    there_too = (
      inr (In-slice_get (link_of (a, b)) g.links n there),
      (λ agree. differs (agree_turned g lines b.clock a.clock agree)),
    )

    -- the ends before, and the first end of this link
    one_of : (o : Option (PortId × PortId)) → IsFirstUpTo g lines n o → IsEarliest o (a, b) one
        → IsApart one × ((r s : PortId) (i : ℕ) → i < n → EndsAt i r s → (AgreeOver lines r.clock s.clock → ⊥)
        → IsBefore r one.0 → ⊥) × (IsBefore a one.0 → ⊥)
    one_of None h e = (
      subst IsApart (sym e) here,
      (λ r s i below at apart before. apart (agrees i r s (λ link. h i link below) at)),
      (λ before. before_itself a (subst (λ (x : PortId × PortId). IsBefore a x.0) e before)),
    )
    one_of (Some ends) h e =
        let neither = neither_before ends (a, b) one e in (
          of_earlier IsApart ends (a, b) one e h.0 here,
          (λ r s i below at apart. none_before r ends.0 one.0 (h.1 r s i below at apart) neither.0),
          neither.1,
        )

    -- both ends of this link
    not_at_this : (r s : PortId) → EndsAt n r s → IsBefore r two.0 → ⊥
    not_at_this r s (inl at) before =
        let same = same_links a b r s (link_of (a, b)) refl
        (same_there g.links n (link_of (a, b)) (link_of (r, s)) there at) in
        none_before a one.0 two.0 (one_of first known is_one).2 (neither_before one (b, a) two is_two).0
        (subst (λ (p : PortId). IsBefore p two.0) same.0 before)
    not_at_this r s (inr at) before =
        let same = same_links a b s r (link_of (a, b)) refl
        (same_there g.links n (link_of (a, b)) (link_of (s, r)) there at) in
        (neither_before one (b, a) two is_two).1 (subst (λ (p : PortId). IsBefore p two.0) same.1 before)

    pub up_to_this : IsFirstUpTo g lines (n + 1) (Some two)
    up_to_this = (
      of_earlier IsApart one (b, a) two is_two (one_of first known is_one).0 there_too,
      (λ r s i below at apart before. elim (native.Mathlib.Decide.dec_lt i n) [
        | yes earlier ↦ none_before r one.0 two.0 ((one_of first known is_one).1 r s i earlier at apart)
            (neither_before one (b, a) two is_two).0 before
        | no over ↦ let e : i ≡ n = omega arith in not_at_this r s (at_this i r s e at) before
      ]),
    )

  -- of all links
  pub first_of_all : (first : Option (PortId × PortId)) → length g.links ≤ n → IsFirstUpTo g lines n first
      → IfSome first (λ ends. IsFirstEnd g lines ends.0 ends.1)
  first_of_all None all h = tt
  first_of_all (Some ends) all h = record { disagrees = h.0; first = λ r s apart. at_place r s apart.1 apart.0 }
    where
      at_place : (r s : PortId) → (AgreeOver lines r.clock s.clock → ⊥) → Joins g (port_identity r) (port_identity s)
          → IsBefore r ends.0 → ⊥
      at_place r s apart (inl member) =
          let (i, at) = slice_get-In (link_of (r, s)) g.links member in
          let within = slice_get_within g.links i (link_of (r, s)) at in
          h.1 r s i (omega arith) (inl at) apart
      at_place r s apart (inr member) =
          let (i, at) = slice_get-In (link_of (s, r)) g.links member in
          let within = slice_get_within g.links i (link_of (s, r)) at in
          h.1 r s i (omega arith) (inr at) apart

  pub all_agree : (first : Option (PortId × PortId)) → length g.links ≤ n → IsFirstUpTo g lines n first
      → IfNone first (PassesLink g lines)
  all_agree None all h = (link_by_link g lines).0 (λ link member.
      let (i, at) = slice_get-In link g.links member in
      let within = slice_get_within g.links i link at in
      h i link (omega arith) at)
  all_agree (Some ends) all h = tt
