-- Entries in order of time: the least of them, runs, and what is left where some are dropped.
use Rattle.std.proofs.Common.{◌≡◌, ◌⊎◌, ℕ, ◌-◌, ◌<◌, Bool, true, false, List, [], ◌∷◌, ◌++◌, length, get_or, refl, sym, ap, ◌∙◌, arith, inl, inr}
use Rattle.std.proofs.Common.{Option, Some, None, IsSome, IfSome, not, filter, map}
use Prim.Native.Nat.{zero, suc}
use Rattle.std.proofs.HeapSift.{greatest}
use Rattle.std.proofs.lemmas.Bool.Decides.{nat_tests}
use Rattle.std.proofs.lemmas.Cmp.{back_total, nat_cmp_total, on_total, then_total}
use Rattle.std.proofs.lemmas.List.{get_or_default}
use Rattle.std.proofs.lemmas.List.Elements.{All-append, All-cons, All-contains, All-filter, All-from_recursion, All-map, All-nil, Contains-append_cases, Contains-append_left, Contains-append_right, filter_passes}
use Rattle.std.proofs.lemmas.List.Sorted.{Contains-permutation, IsPermutation-filter_both, IsPermutation-map, IsPermutation-sym, length_permutation}
use Rattle.std.specs.BinaryHeap.{IsHeap, lt_by_cmp}
use Rattle.std.specs.Cmp.{IsTotalOrder}
use Rattle.std.specs.List.{All, Contains}
use Rattle.std.specs.List.Sorted.{IsPermutation}
use Rattle.std.specs.Prelude.{Result, Ok, Err, IsOk, OnOk, IfNone}
use Rattle.std.specs.declared.cmp.Reverse.{Reverse}
use Rattle.gptp_queue.specs.Waiting.{is_current, IsNoLater}
use Rattle.gptp_queue.specs.Order.{among, due_first, first_and, first_of, is_before, rest_of, Adds, IsLeastOf, IsRun, IsSwept, Rise, Sweeps, Takes, TakesFrom}
use Rattle.gptp_queue.specs.Entry.{Entry}

-- ---- two of them

pub itself : (d : Entry) → IsNoLater d d
itself d = record { by_time = omega arith; by_number = λ same. omega arith }

pub through : (d e f : Entry) → IsNoLater d e → IsNoLater e f → IsNoLater d f
through d e f a b = record {
  by_time = omega (arith, a.by_time, b.by_time);
  by_number = λ same.
      let first = a.by_number (omega (arith, a.by_time, b.by_time, same)) in
      let second = b.by_number (omega (arith, a.by_time, b.by_time, same)) in
      omega (arith, first, second);
}

pub no_later : (d e : Entry) → is_before e d ≡ false → IsNoLater d e
no_later d e h = record { by_time = grind (arith, nat_tests); by_number = λ same. grind (arith, nat_tests) }

pub sooner : (d e : Entry) → is_before e d ≡ true → IsNoLater e d
sooner d e h = record { by_time = grind (arith, nat_tests); by_number = λ same. grind (arith, nat_tests) }

-- what is no later than another isn't after it
pub not_both : (d e : Entry) → is_before d e ≡ true → IsNoLater e d → ⊥
not_both d e h later =
    let time = later.by_time in let number = later.by_number in grind (arith, nat_tests, h, time, number)

-- ---- runs

all_through : (d e : Entry) (es : List Entry) → IsNoLater d e → All (IsNoLater e) es → All (IsNoLater d) es
all_through d e es h all = λ i x within. through d e (get_or es i x) h (all i x within)

-- the first is no later than the last
first_last : (d : Entry) (es : List Entry) → Rise (d ∷ es) → IsNoLater d (get_or (d ∷ es) (length es) d)
first_last d [] rises = itself d
first_last d (e ∷ es) rises = rises.0 (length es) d (omega arith)

pub rise_push : (es : List Entry) (d : Entry) → Rise es
    → ((x : Entry) → 0 < length es → IsNoLater (get_or es (length es - 1) x) d) → Rise (es ++ d ∷ [])
rise_push [] d rises after = (All-nil (IsNoLater d), tt)
rise_push (e ∷ es) d rises after = (
  All-append (IsNoLater e) es (d ∷ []) rises.0 (All-cons (IsNoLater e) d [] before (All-nil (IsNoLater e))),
  rise_push es d rises.1 (λ x some. rw (← further es x some) (after x (omega arith))),
) where
  further : (es : List Entry) (x : Entry) → 0 < length es
      → get_or (e ∷ es) (length (e ∷ es) - 1) x ≡ get_or es (length es - 1) x
  further [] x some = absurd (omega (arith, some))
  further (f ∷ es) x some =
      let one : suc (suc (length es)) - 1 ≡ suc (length es) = omega arith in
      let other : suc (length es) - 1 ≡ length es = omega arith in
      rw (one, other) refl

  before : IsNoLater e d
  before =
      let at : suc (length es) - 1 ≡ length es = omega arith in
      through e _ d (first_last e es rises) (rw at at (after e (omega arith)))

pub rise_filter : (p : Entry → Bool) (es : List Entry) → Rise es → Rise (filter p es)
rise_filter p [] rises = tt
rise_filter p (d ∷ es) rises = by (rise_filter p es rises.1) (p d) refl where
  by : Rise (filter p es) → (t : Bool) → p d ≡ t → Rise (filter p (d ∷ es))
  by rest true h = rw h (All-filter p (IsNoLater d) es rises.0, rest)
  by rest false h = rw h rest

-- behind the last, as that is looked up
pub rise_after : (first : Option Entry) (rest : List Entry) (last d : Entry) → IsRun first rest
    → 0 < length rest → last ≡ get_or rest (length rest - 1) last → is_before d last ≡ false
    → Rise (first_and first rest ++ d ∷ [])
rise_after None rest last d run some is h = absurd (omega (arith, some, ap length (run.behind refl)))
rise_after (Some e) rest last d run some is h =
    rise_push (e ∷ rest) d run.rise (λ x any.
    let at : suc (length rest) - 1 ≡ length rest = omega arith in
    let back : get_or (e ∷ rest) (length rest) x ≡ last = behind rest x last some is in
    rw (at, back) (no_later last d h))
  where
    behind : (rest : List Entry) (x last : Entry) → 0 < length rest → last ≡ get_or rest (length rest - 1) last
        → get_or (e ∷ rest) (length rest) x ≡ last
    behind [] x last some is = absurd (omega (arith, some))
    behind (f ∷ rest) x last some is =
        let at : suc (length rest) - 1 ≡ length rest = omega arith in
        let here : last ≡ get_or (f ∷ rest) (length rest) last = rw at at is in
        get_or_default (f ∷ rest) (length rest) x last (omega arith) ∙ sym here

-- the first of a run is its least
pub first_least : (es : List Entry) → Rise es → IsLeastOf (among es) (first_of es)
first_least [] rises = λ e there. omega (arith, there.1)
first_least (d ∷ es) rises = record {
  member = (0, omega arith, refl);
  least = λ e there. All-contains (IsNoLater d) (d ∷ es) e (All-cons (IsNoLater d) d es (itself d) rises.0) there;
}

-- ---- what is left

module _ (es : List Entry) where
  pub swept_same : (has : Entry → Type 0) → Sweeps es has has
  swept_same has = record { kept = λ d is there. there; from = λ d there. there }

  pub swept_filter : (all : List Entry) → IsSwept es all (filter (is_current es) all)
  swept_filter all = record {
    kept = λ d is there. by d is (Contains-append_cases (filter (is_current es) all) (filter gone all) d
        (Contains-permutation all _ d parts there));
    from = λ d there. Contains-permutation _ all d (IsPermutation-sym all _ parts)
        (Contains-append_left (filter (is_current es) all) (filter gone all) d there);
  } where
    gone : Entry → Bool
    gone d = not (is_current es d)

    parts : IsPermutation all (filter (is_current es) all ++ filter gone all)
    parts = IsPermutation-filter_both (is_current es) gone (λ _. refl) all

    by : (d : Entry) → is_current es d ≡ true → Contains (filter (is_current es) all) d ⊎ Contains (filter gone all) d
        → Contains (filter (is_current es) all) d
    by d is (inl kept) = kept
    by d is (inr dropped) =
        let out : not (is_current es d) ≡ true =
        All-contains (λ x. not (is_current es x) ≡ true) _ d (filter_passes gone all) dropped in
        absurd (grind (arith, is, out))

  pub swept_behind : (first : Option Entry) (rest after : List Entry) → IsSwept es rest after
      → IsSwept es (first_and first rest) (first_and first after)
  swept_behind None rest after swept = swept
  swept_behind (Some e) rest after swept = record {
    kept = λ d is there. kept d is (Contains-append_cases (e ∷ []) rest d there);
    from = λ d there. from d (Contains-append_cases (e ∷ []) after d there);
  } where
    kept : (d : Entry) → is_current es d ≡ true → Contains (e ∷ []) d ⊎ Contains rest d → Contains (e ∷ after) d
    kept d is (inl there) = Contains-append_left (e ∷ []) after d there
    kept d is (inr there) = Contains-append_right (e ∷ []) after d (swept.kept d is there)

    from : (d : Entry) → Contains (e ∷ []) d ⊎ Contains after d → Contains (e ∷ rest) d
    from d (inl there) = Contains-append_left (e ∷ []) rest d there
    from d (inr there) = Contains-append_right (e ∷ []) rest d (swept.from d there)

-- ---- a heap

-- what the heap has
abbrev pub of_heap : List (Reverse Entry) → List Entry
of_heap heap = map (λ (d : Reverse Entry). d.0) heap

among_heap : (heap : List (Reverse Entry)) (i : ℕ) (d : Reverse Entry) → i < length heap → get_or heap i d ≡ d
    → Contains (of_heap heap) d.0
among_heap [] i d within is = absurd (omega (arith, within))
among_heap (x ∷ heap) zero d within is = (0, omega arith, ap (λ (x : Reverse Entry). x.0) is)
among_heap (x ∷ heap) (suc i) d within is =
    Contains-append_right (x.0 ∷ []) (of_heap heap) d.0 (among_heap heap i d (omega (arith, within)) is)

total : IsTotalOrder due_first
total = back_total (then_total (then_total
    (on_total (λ (d : Reverse Entry). d.0.time) nat_cmp_total)
    (on_total (λ (d : Reverse Entry). d.0.number) nat_cmp_total))
    (on_total (λ (d : Reverse Entry). d.0.place) nat_cmp_total))

-- what isn't below another in the heap isn't due after it
top_no_later : (d e : Reverse Entry) → lt_by_cmp due_first d e ≡ false → IsNoLater d.0 e.0
top_no_later d e h = record { by_time = grind (arith, nat_tests); by_number = λ same. grind (arith, nat_tests) }

-- what is on top is the least
pub top_least : (heap : List (Reverse Entry)) → IsHeap due_first heap
    → IsLeastOf (among (of_heap heap)) (first_of (of_heap heap))
top_least [] ordered = λ e there. omega (arith, there.1)
top_least (d ∷ heap) ordered = record {
  member = (0, omega arith, refl);
  least = λ e there. All-contains (IsNoLater d.0) (of_heap (d ∷ heap)) e all there;
} where
  all : All (IsNoLater d.0) (of_heap (d ∷ heap))
  all = All-map (IsNoLater d.0) (λ (x : Reverse Entry). x.0) (d ∷ heap)
      (λ i x within. top_no_later d (get_or (d ∷ heap) i x)
      (All-from_recursion (λ (e : Reverse Entry). lt_by_cmp due_first d e ≡ false) (d ∷ heap)
      (greatest total (d ∷ heap) d refl ordered) i x within))

module _ (es : List Entry) where
  abbrev pub stands_in_heap : Reverse Entry → Bool
  stands_in_heap d = is_current es d.0

  of_filtered : (heap : List (Reverse Entry))
      → of_heap (filter stands_in_heap heap) ≡ filter (is_current es) (of_heap heap)
  of_filtered [] = refl
  of_filtered (d ∷ heap) = by (of_filtered heap) (is_current es d.0) refl where
    by : of_heap (filter stands_in_heap heap) ≡ filter (is_current es) (of_heap heap) → (t : Bool)
        → is_current es d.0 ≡ t
        → of_heap (filter stands_in_heap (d ∷ heap)) ≡ filter (is_current es) (of_heap (d ∷ heap))
    by rest true h = rw h (ap (λ (xs : List Entry). d.0 ∷ xs) rest)
    by rest false h = rw h rest

  -- what a heap keeps of its own, in another order
  pub swept_heap : (heap after : List (Reverse Entry)) → IsPermutation (filter stands_in_heap heap) after
      → IsSwept es (of_heap heap) (of_heap after)
  swept_heap heap after same =
      let moved : IsPermutation (filter (is_current es) (of_heap heap)) (of_heap after) =
      rw (of_filtered heap) at (IsPermutation-map (λ (d : Reverse Entry). d.0) _ after same) in
      let swept = swept_filter es (of_heap heap) in record {
        kept = λ d is there. Contains-permutation _ _ d moved (swept.kept d is there);
        from = λ d there. swept.from d (Contains-permutation _ _ d (IsPermutation-sym _ _ moved) there);
      }

among_one : (d e : Entry) → Contains (d ∷ []) e → e ≡ d
among_one d e (zero, within, is) = sym is
among_one d e (suc k, within, is) = absurd (omega (arith, within))

-- an entry more in another order
pub adds_moved : (old new : List Entry) (d : Entry) → IsPermutation (d ∷ old) new → Adds old new d
adds_moved old new d same = record {
  kept = λ e there. Contains-permutation _ new e same (Contains-append_right (d ∷ []) old e there);
  here = Contains-permutation _ new d same (0, omega arith, refl);
  from = λ e there. by e (Contains-append_cases (d ∷ []) old e
      (Contains-permutation new _ e (IsPermutation-sym _ _ same) there));
} where
  by : (e : Entry) → Contains (d ∷ []) e ⊎ Contains old e → Contains old e ⊎ (e ≡ d)
  by e (inl first) = inr (among_one d e first)
  by e (inr other) = inl other

pub takes_moved : (old new : List Entry) (d : Entry) → IsPermutation old (d ∷ new) → TakesFrom (among old) (among new) d
takes_moved old new d same = record {
  kept = λ e there. by e (Contains-append_cases (d ∷ []) new e (Contains-permutation old _ e same there));
  from = λ e there. Contains-permutation _ old e (IsPermutation-sym _ _ same)
      (Contains-append_right (d ∷ []) new e there);
} where
  by : (e : Entry) → Contains (d ∷ []) e ⊎ Contains new e → Contains new e ⊎ (e ≡ d)
  by e (inl first) = inr (among_one d e first)
  by e (inr other) = inl other

-- what is popped is the first
pub popped : (heap smaller : List (Reverse Entry)) (m n : ℕ) (r : Option (Reverse Entry)) → n ≡ length heap
    → (0 < n → IsSome r) → IfSome r (λ x. x ≡ get_or heap 0 x) → IfSome r (λ x. IsPermutation heap (x ∷ smaller))
    → IfNone r ((smaller ≡ heap) × (m ≡ n)) → Takes (of_heap heap) (of_heap smaller) (first_of (of_heap heap))
popped [] smaller m n None l some top same none = sym (ap of_heap none.0)
popped (x ∷ heap) smaller m n None l some top same none =
    let is : IsSome {T = Reverse Entry} None = some (omega (arith, l)) in absurd (grind (arith, is))
popped [] smaller m n (Some y) l some top same none = absurd (omega (arith, length_permutation _ _ same))
popped (x ∷ heap) smaller m n (Some y) l some top same none =
    let moved : IsPermutation (of_heap (x ∷ heap)) (y.0 ∷ of_heap smaller) =
    IsPermutation-map (λ (d : Reverse Entry). d.0) (x ∷ heap) (y ∷ smaller) same in
    let first : y.0 ≡ x.0 = ap (λ (d : Reverse Entry). d.0) top in
    let here : IsPermutation (of_heap (x ∷ heap)) (x.0 ∷ of_heap smaller) = rw first at moved in
    let lengths = length_permutation _ _ here in
    (takes_moved (of_heap (x ∷ heap)) (of_heap smaller) x.0 here, omega (arith, lengths))

pub run_filter : (p : Entry → Bool) (first : Option Entry) (rest : List Entry) → IsRun first rest
    → IsRun first (filter p rest)
run_filter p None rest run =
    let none = run.behind refl in
    let same : filter p rest ≡ [] = ap (filter p) none in record { behind = λ is. same; rise = rw same tt }
run_filter p (Some e) rest run = record {
  behind = λ is. absurd (grind (arith, is));
  rise = (All-filter p (IsNoLater e) rest run.rise.0, rise_filter p rest run.rise.1);
}

pub ok_on : {X E : Type 0} (r : Result X E) (P : Type 0) → IsOk r → OnOk r P → P
ok_on (Ok x) P ok p = p
ok_on (Err e) P ok p = absurd (grind (arith, ok))

pub top_is : (heap : List (Reverse Entry)) (n : ℕ) (d : Reverse Entry) → n ≡ length heap → 0 < n → d ≡ get_or heap 0 d
    → Some d.0 ≡ first_of (of_heap heap)
top_is [] n d l some is = absurd (omega (arith, l, some))
top_is (x ∷ heap) n d l some is = ap (λ (y : Reverse Entry). Some y.0) is

pub takes_rest : (es : List Entry) → Takes es (rest_of es) (first_of es)
takes_rest [] = refl
takes_rest (d ∷ es) = (
  record {
    kept = λ e there. elim (Contains-append_cases (d ∷ []) es e there) [
      | inl first ↦ inr (among_one d e first)
      | inr other ↦ inl other
    ];
    from = λ e there. Contains-append_right (d ∷ []) es e there;
  },
  omega arith,
)

pub swept_twice : (es before between after : List Entry) → IsSwept es before between → IsSwept es between after
    → IsSwept es before after
swept_twice es before between after one other = record {
  kept = λ d is there. other.kept d is (one.kept d is there);
  from = λ d there. one.from d (other.from d there);
}
