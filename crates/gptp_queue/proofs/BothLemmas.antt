-- Two lists of parts: what is in either, and the least of both.
use Rattle.std.proofs.Common.{◌≡◌, ◌⊎◌, ◌+◌, Bool, true, false, List, [], ◌∷◌, ◌++◌, length, Option, Some, None, IsSome, IfSome, if◌then◌else◌, refl, subst, inl, inr, arith}
use Prim.Native.Nat.{zero, suc}
use Rattle.std.proofs.lemmas.List.Sums.{sum_by-append}
use Rattle.gptp_queue.specs.Order.{comes_first, first_of_both, is_before, size_of, AddsTo, IsLeastOf, Sweeps, TakesLeast, Within}
use Rattle.gptp_queue.specs.Entry.{Entry}
use Rattle.gptp_queue.proofs.OrderLemmas.{no_later, sooner, through}

pub in_one : (ps qs : List (List Entry)) (e : Entry) → Within ps e → Within (ps ++ qs) e
in_one [] qs e there = absurd (omega (arith, there.1.1))
in_one (p ∷ ps) qs e (zero, there) = (0, there)
in_one (p ∷ ps) qs e (suc k, there) = let rest = in_one ps qs e (k, there) in (suc rest.0, rest.1)

pub in_other : (ps qs : List (List Entry)) (e : Entry) → Within qs e → Within (ps ++ qs) e
in_other [] qs e there = there
in_other (p ∷ ps) qs e there = let rest = in_other ps qs e there in (suc rest.0, rest.1)

pub in_either : (ps qs : List (List Entry)) (e : Entry) → Within (ps ++ qs) e → Within ps e ⊎ Within qs e
in_either [] qs e there = inr there
in_either (p ∷ ps) qs e (zero, there) = inl (0, there)
in_either (p ∷ ps) qs e (suc k, there) = elim (in_either ps qs e (k, there)) [
  | inl one ↦ inl (suc one.0, one.1)
  | inr other ↦ inr other
]

-- ---- the least

module _ (ps qs : List (List Entry)) where
  pub least_of_both : (one other : Option Entry) → IsLeastOf (Within ps) one → IsLeastOf (Within qs) other
      → IsLeastOf (Within (ps ++ qs)) (first_of_both one other)
  least_of_both None None none least = λ e there. elim (in_either ps qs e there) [
    | inl mine ↦ none e mine
    | inr yours ↦ least e yours
  ]
  least_of_both None (Some f) none least = record {
    member = in_other ps qs f least.member;
    least = λ e there. elim (in_either ps qs e there) [
      | inl mine ↦ absurd (none e mine)
      | inr yours ↦ least.least e yours
    ];
  }
  least_of_both (Some d) None least none = record {
    member = in_one ps qs d least.member;
    least = λ e there. elim (in_either ps qs e there) [
      | inl mine ↦ least.least e mine
      | inr yours ↦ absurd (none e yours)
    ];
  }
  least_of_both (Some d) (Some f) one other = by (is_before d f) refl where
    by : (t : Bool) → is_before d f ≡ t → IsLeastOf (Within (ps ++ qs)) (if t then Some d else Some f)
    by true h = record {
      member = in_one ps qs d one.member;
      least = λ e there. elim (in_either ps qs e there) [
        | inl mine ↦ one.least e mine
        | inr yours ↦ through d f e (sooner f d h) (other.least e yours)
      ];
    }
    by false h = record {
      member = in_other ps qs f other.member;
      least = λ e there. elim (in_either ps qs e there) [
        | inl mine ↦ through f d e (no_later f d h) (one.least e mine)
        | inr yours ↦ other.least e yours
      ];
    }

-- ---- one of both changes

module _ (ps qs ns : List (List Entry)) (d : Entry) where
  pub adds_one : AddsTo (Within ps) (Within ns) d → AddsTo (Within (ps ++ qs)) (Within (ns ++ qs)) d
  adds_one adds = record {
    kept = λ e there. elim (in_either ps qs e there) [
      | inl mine ↦ in_one ns qs e (adds.kept e mine)
      | inr yours ↦ in_other ns qs e yours
    ];
    here = in_one ns qs d adds.here;
    from = λ e there. elim (in_either ns qs e there) [
      | inl mine ↦ elim (adds.from e mine) [ inl old ↦ inl (in_one ps qs e old) | inr is ↦ inr is ]
      | inr yours ↦ inl (in_other ps qs e yours)
    ];
  }

  pub adds_other : AddsTo (Within qs) (Within ns) d → AddsTo (Within (ps ++ qs)) (Within (ps ++ ns)) d
  adds_other adds = record {
    kept = λ e there. elim (in_either ps qs e there) [
      | inl mine ↦ in_one ps ns e mine
      | inr yours ↦ in_other ps ns e (adds.kept e yours)
    ];
    here = in_other ps ns d adds.here;
    from = λ e there. elim (in_either ps ns e there) [
      | inl mine ↦ inl (in_one ps qs e mine)
      | inr yours ↦ elim (adds.from e yours) [ inl old ↦ inl (in_other ps qs e old) | inr is ↦ inr is ]
    ];
  }

  sizes : (xs ys : List (List Entry)) → size_of (xs ++ ys) ≡ size_of xs + size_of ys
  sizes xs ys = sum_by-append (λ (p : List Entry). length p) xs ys

  pub takes_one : TakesLeast ps ns d → TakesLeast (ps ++ qs) (ns ++ qs) d
  takes_one takes = record {
    taken = record {
      kept = λ e there. elim (in_either ps qs e there) [
        | inl mine ↦ elim (takes.taken.kept e mine) [ inl left ↦ inl (in_one ns qs e left) | inr is ↦ inr is ]
        | inr yours ↦ inl (in_other ns qs e yours)
      ];
      from = λ e there. elim (in_either ns qs e there) [
        | inl mine ↦ in_one ps qs e (takes.taken.from e mine)
        | inr yours ↦ in_other ps qs e yours
      ];
    };
    fewer = let a = sizes ps qs in let b = sizes ns qs in let less = takes.fewer in omega (arith, a, b, less);
  }

  pub takes_other : TakesLeast qs ns d → TakesLeast (ps ++ qs) (ps ++ ns) d
  takes_other takes = record {
    taken = record {
      kept = λ e there. elim (in_either ps qs e there) [
        | inl mine ↦ inl (in_one ps ns e mine)
        | inr yours ↦ elim (takes.taken.kept e yours) [ inl left ↦ inl (in_other ps ns e left) | inr is ↦ inr is ]
      ];
      from = λ e there. elim (in_either ps ns e there) [
        | inl mine ↦ in_one ps qs e mine
        | inr yours ↦ in_other ps qs e (takes.taken.from e yours)
      ];
    };
    fewer = let a = sizes ps qs in let b = sizes ps ns in let less = takes.fewer in omega (arith, a, b, less);
  }

-- the others were swept
pub sweeps_other : (es : List Entry) (ps qs ns : List (List Entry)) → Sweeps es (Within qs) (Within ns)
    → Sweeps es (Within (ps ++ qs)) (Within (ps ++ ns))
sweeps_other es ps qs ns sweeps = record {
  kept = λ e is there. elim (in_either ps qs e there) [
    | inl mine ↦ in_one ps ns e mine
    | inr yours ↦ in_other ps ns e (sweeps.kept e is yours)
  ];
  from = λ e there. elim (in_either ps ns e there) [
    | inl mine ↦ in_one ps qs e mine
    | inr yours ↦ in_other ps qs e (sweeps.from e yours)
  ];
}

-- ---- which of both is taken

pub one_taken : (ps qs ns : List (List Entry)) (one other : Option Entry) → comes_first one other ≡ true
    → IfSome one (λ d. TakesLeast ps ns d)
    → IfSome (first_of_both one other) (λ d. TakesLeast (ps ++ qs) (ns ++ qs) d)
one_taken ps qs ns None other h takes = absurd (grind (arith, h))
one_taken ps qs ns (Some d) other h takes = rw h (takes_one ps qs ns d takes)

pub other_taken : (ps qs ns : List (List Entry)) (one other : Option Entry) → comes_first one other ≡ false
    → IfSome other (λ d. TakesLeast qs ns d)
    → IfSome (first_of_both one other) (λ d. TakesLeast (ps ++ qs) (ps ++ ns) d)
other_taken ps qs ns one None h takes = rw h tt
other_taken ps qs ns one (Some d) h takes = rw h (takes_other ps qs ns d takes)

pub one_some : (one other : Option Entry) → comes_first one other ≡ true → IsSome one
one_some None other h = absurd (grind (arith, h))
one_some (Some d) other h = refl

pub other_some : (one other : Option Entry) → comes_first one other ≡ false → IsSome (first_of_both one other)
    → IsSome other
other_some one other h some = rw h at some

module _ (ps qs : List (List Entry)) (one other : Option Entry) (least : IsLeastOf (Within ps) one)
    (least_other : IsLeastOf (Within qs) other) where
  pub least_if : comes_first one other ≡ true → IsLeastOf (Within (ps ++ qs)) one
  least_if h =
      let is : first_of_both one other ≡ one = rw h refl in
      let P : Option Entry → Type 0 = IsLeastOf (Within (ps ++ qs)) in
      subst P is (least_of_both ps qs one other least least_other)

  pub least_unless : comes_first one other ≡ false → IsLeastOf (Within (ps ++ qs)) other
  least_unless h =
      let is : first_of_both one other ≡ other = rw h refl in
      let P : Option Entry → Type 0 = IsLeastOf (Within (ps ++ qs)) in
      subst P is (least_of_both ps qs one other least least_other)
