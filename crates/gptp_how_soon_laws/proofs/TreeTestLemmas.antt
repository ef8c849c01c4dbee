-- What the tests of a tree that falls off say of two systems at their places, and of links.
use Rattle.std.proofs.Common.{◌≡◌, ◌<◌, ◌≤◌, ◌⊎◌, inl, inr, ◌-◌, ◌+◌, ℕ, suc, Bool, true, false, cond, List, [], ◌∷◌, map, Some, slice_get, refl, sym, ap, subst, ◌∙◌, arith}
use Rattle.std.specs.Prelude.{◌==◌, ◌&&◌, ◌||◌, nat_le, nat_lt, not}
use Rattle.std.specs.List.{count_by}
use Rattle.std.proofs.lemmas.Bool.{and_from, and_parts, eq-eqb, eqb-true, or_cases, or_left, or_right}
use Rattle.std.proofs.lemmas.Bool.Decides.{nat_tests}
use Rattle.std.proofs.lemmas.List.Sums.{sum_by-cons}
use Rattle.gptp_lists.specs.Members.{In}
use Rattle.gptp_how_soon.specs.Tree.{has_better_root, has_no_more_steps, has_same_root, is_one_apart, leads_one_on}
use Rattle.gptp_how_soon.specs.Turned.{has_fewer_steps, leads_nearer}
use Rattle.gptp_how_soon.specs.declared.chosen.Chosen.{Chosen}
use Rattle.gptp_how_soon.specs.declared.chosen.Ends.{Ends}

-- ---- at most one of a list

module _ {X : Type 0} (f : Ends → Bool) (ends : X → Ends) where
  abbrev pub times : List X → ℕ
  times xs = count_by f (map ends xs)

  counted : (x : X) (xs : List X) → times (x ∷ xs) ≡ cond (f (ends x)) 1 0 + times xs
  counted x xs = sum_by-cons (λ e. cond (f e) 1 0) (ends x) (map ends xs)

  times_here : (x : X) (xs : List X) → f (ends x) ≡ true → times (x ∷ xs) ≡ suc (times xs)
  times_here x xs is = counted x xs ∙ ap (λ b. cond b 1 0 + times xs) is ∙ omega arith

  times_more : (x : X) (xs : List X) → times xs ≤ times (x ∷ xs)
  times_more x xs = let more = counted x xs in omega (arith, more)

  times_some : (x : X) (xs : List X) → In x xs → f (ends x) ≡ true → 1 ≤ times xs
  times_some x [] member is = absurd member
  times_some x (y ∷ xs) (inl same) is =
      let here = times_here x xs is in subst (λ z. 1 ≤ times (z ∷ xs)) same (omega (arith, here))
  times_some x (y ∷ xs) (inr member) is =
      let some = times_some x xs member is in let more = times_more y xs in omega (arith, some, more)

  pub one_same : (xs : List X) (x y : X) → times xs ≤ 1 → In x xs → In y xs → f (ends x) ≡ true → f (ends y) ≡ true
      → x ≡ y
  one_same [] x y most a b x_is y_is = absurd a
  one_same (z ∷ xs) x y most (inl a) (inl b) x_is y_is = a ∙ sym b
  one_same (z ∷ xs) x y most (inl a) (inr b) x_is y_is =
      let here = times_here x xs x_is in
      let all : times (x ∷ xs) ≤ 1 = subst (λ v. times (v ∷ xs) ≤ 1) (sym a) most in
      let some = times_some y xs b y_is in
      absurd (omega (arith, here, all, some))
  one_same (z ∷ xs) x y most (inr a) (inl b) x_is y_is =
      let here = times_here y xs y_is in
      let all : times (y ∷ xs) ≤ 1 = subst (λ v. times (v ∷ xs) ≤ 1) (sym b) most in
      let some = times_some x xs a x_is in
      absurd (omega (arith, here, all, some))
  one_same (z ∷ xs) x y most (inr a) (inr b) x_is y_is =
      let more = times_more z xs in one_same xs x y (omega (arith, more, most)) a b x_is y_is

-- ---- what two systems chose

module _ (cs : List Chosen) (i j : ℕ) (c d : Chosen) (there : slice_get cs i ≡ Some c)
    (there' : slice_get cs j ≡ Some d) where
  pub same_so : has_same_root (slice_get cs i) (slice_get cs j) ≡ true → c.root ≡ d.root
  same_so is = eqb-true c.root d.root ((λ k. has_same_root (sym there k) (sym there' k)) ∙ is)

  pub same_back : c.root ≡ d.root → has_same_root (slice_get cs i) (slice_get cs j) ≡ true
  same_back same = (λ k. has_same_root (there k) (there' k)) ∙ eq-eqb c.root d.root same

  pub no_more_so : has_no_more_steps (slice_get cs i) (slice_get cs j) ≡ true → c.steps ≤ d.steps
  no_more_so is = least c.steps d.steps ((λ k. has_no_more_steps (sym there k) (sym there' k)) ∙ is)
    where
      least : (a b : ℕ) → nat_le a b ≡ true → a ≤ b
      least a b test = grind (arith, nat_tests)

  pub fewer_back : c.steps < d.steps → has_fewer_steps (slice_get cs i) (slice_get cs j) ≡ true
  fewer_back less = (λ k. has_fewer_steps (there k) (there' k)) ∙ below c.steps d.steps less
    where
      below : (a b : ℕ) → a < b → nat_lt a b ≡ true
      below a b under = grind (arith, nat_tests)

  pub apart_so : is_one_apart (slice_get cs i) (slice_get cs j) ≡ true
      → (c.steps ≡ suc d.steps) ⊎ (d.steps ≡ suc c.steps)
  apart_so is =
      let told : is_one_apart (Some c) (Some d) ≡ true = (λ k. is_one_apart (sym there k) (sym there' k)) ∙ is in
      elim (or_cases (c.steps - d.steps == 1) (d.steps - c.steps == 1) told) [
        | inl one ↦ let by_one = eqb-true (c.steps - d.steps) 1 one in inl (omega (arith, by_one))
        | inr one ↦ let by_one = eqb-true (d.steps - c.steps) 1 one in inr (omega (arith, by_one))
      ]

pub better_so : (c d : Chosen) → has_better_root (Some c) (Some d) ≡ true → c.root < d.root
better_so c d is = below c.root d.root is
  where
    below : (a b : ℕ) → nat_lt a b ≡ true → a < b
    below a b test = grind (arith, nat_tests)

-- ---- a link at a place

or_second : (a b : Bool) → a ≡ false → (a || b) ≡ true → b ≡ true
or_second a b none is = ap (λ c. c || b) (sym none) ∙ is

module _ (cs : List Chosen) (i j : ℕ) where
  pub one_on_first : leads_one_on cs i (record { a = i; b = j }) ≡ true
      → is_one_apart (slice_get cs i) (slice_get cs j) ≡ true
  one_on_first is =
      let apart : Bool = is_one_apart (slice_get cs i) (slice_get cs j) in
      let back : Bool = not (j == i) || is_one_apart (slice_get cs i) (slice_get cs i) in
      or_second (not (i == i)) apart (ap not (eq-eqb i i refl)) (and_parts (not (i == i) || apart) back is).0

  pub one_on_second : leads_one_on cs i (record { a = j; b = i }) ≡ true
      → is_one_apart (slice_get cs i) (slice_get cs j) ≡ true
  one_on_second is =
      let apart : Bool = is_one_apart (slice_get cs i) (slice_get cs j) in
      let back : Bool = not (j == i) || is_one_apart (slice_get cs i) (slice_get cs i) in
      or_second (not (i == i)) apart (ap not (eq-eqb i i refl)) (and_parts back (not (i == i) || apart) is).1

  pub nearer_at_first : has_fewer_steps (slice_get cs j) (slice_get cs i) ≡ true
      → leads_nearer cs i (record { a = i; b = j }) ≡ true
  nearer_at_first fewer =
      or_left ((i == i) && has_fewer_steps (slice_get cs j) (slice_get cs i))
      ((j == i) && has_fewer_steps (slice_get cs i) (slice_get cs i))
      (and_from (i == i) (has_fewer_steps (slice_get cs j) (slice_get cs i)) (eq-eqb i i refl) fewer)

  pub nearer_at_second : has_fewer_steps (slice_get cs j) (slice_get cs i) ≡ true
      → leads_nearer cs i (record { a = j; b = i }) ≡ true
  nearer_at_second fewer =
      or_right ((j == i) && has_fewer_steps (slice_get cs i) (slice_get cs i))
      ((i == i) && has_fewer_steps (slice_get cs j) (slice_get cs i))
      (and_from (i == i) (has_fewer_steps (slice_get cs j) (slice_get cs i)) (eq-eqb i i refl) fewer)
