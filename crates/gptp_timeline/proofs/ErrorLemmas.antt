-- The greatest error of the receipts of a system, act by act.
use Rattle.std.proofs.Common.{◌≡◌, ◌≤◌, ◌==◌, ◌&&◌, ℕ, ℤ, Bool, true, false, nat_le, List, [], ◌∷◌, ◌++◌, Option, Some, None, IfSome, if◌then◌else◌, option_map, option_and_then, unsigned_abs, inl, inr, refl, sym, ap, subst, ◌∙◌, arith}
use Rattle.std.specs.Prelude.{nat_lt}
use Rattle.std.specs.List.{AllByRecursion, cons_option, filter, filter_map}
use Rattle.std.specs.Option.{option_map_or}
use Rattle.std.proofs.lemmas.Bool.{and_parts}
use Rattle.std.proofs.lemmas.Bool.Decides.{nat_tests}
use Rattle.std.proofs.lemmas.List.Elements.{filter-append, filter_map-append}
use Rattle.gptp_lists.specs.Members.{In}
use Rattle.gptp_world.specs.Transitions.{ActTrace}
use Rattle.gptp_timeline.specs.Laws.{ErrorIsWithin}
use Rattle.gptp_timeline.specs.Measures.{better_if, greatest, greatest_from, one_at}
use Rattle.gptp_timeline.specs.Receipts.{received_by}
use Rattle.gptp_timeline.specs.Stretch.{at_of, counts_for, error_at, error_from, error_in, receives}
use Rattle.gptp_timeline.specs.Watch.{counts_from, error_after}
use Rattle.gptp_timeline.specs.declared.measures.Greatest.{Greatest}
use Rattle.gptp_timeline.proofs.MeasureLemmas.{greatest_both, greatest_within}
use Rattle.gptp_timeline.proofs.StepLemmas.{errors_next}

abbrev amount_in : Option Greatest → Option ℕ
amount_in = option_map (λ (g : Greatest). g.amount)

both_false : (b : Bool) → b && false ≡ false
both_false true = refl
both_false false = refl

both_true : (b : Bool) → b && true ≡ b
both_true true = refl
both_true false = refl

picked : (t : Bool) (x y : Greatest)
    → amount_in (if t then Some x else Some y) ≡ (if t then Some x.amount else Some y.amount)
picked true x y = refl
picked false x y = refl

module _ (name : ℕ) (from : Option ℕ) (t : ActTrace) where
  -- its own receipt counts, if it does
  alone : (best : Option Greatest) (test : Bool) (error : Option Greatest) → counts_for name from t ≡ test
      → error_in t ≡ error
      → greatest_from best (filter_map error_in (filter (counts_for name from) (t ∷ [])))
      ≡ (if test then better_if best error else best)
  alone best false error counts is = rw counts refl
  alone best true None counts is = rw (counts, is) refl
  alone best true (Some one) counts is = rw (counts, is) refl

  -- by its amount
  amount_after : (best : Option Greatest) (counts : Bool) (error : Option ℤ)
      → amount_in (if counts then better_if best (option_map (λ e. one_at name (unsigned_abs e)) error) else best)
      ≡ error_after counts (amount_in best) (option_map unsigned_abs error)
  amount_after best true None = refl
  amount_after best false None = refl
  amount_after best false (Some e) = refl
  amount_after None true (Some e) = refl
  amount_after (Some best) true (Some e) =
      picked (nat_lt best.amount (unsigned_abs e)) (one_at name (unsigned_abs e)) best

  -- the error of the receipt is that of the system that receives
  own_error : (received : Option ℕ) → received_by t.told.done ≡ received → receives name t ≡ true
      → error_in t ≡ option_map (λ e. one_at name (unsigned_abs e)) (error_at name t)
  own_error None is own =
      let no : false ≡ true = sym (ap (λ r. option_map_or (λ clock. clock == name) r false) is) ∙ own in
      absurd cc
  own_error (Some clock) is own =
      let test : clock == name ≡ true = sym (ap (λ r. option_map_or (λ c. c == name) r false) is) ∙ own in
      let same : clock ≡ name = grind (arith, nat_tests) in
      ap (option_and_then (λ n. option_map (λ e. one_at n (unsigned_abs e)) (error_at n t))) is
      ∙ ap (λ n. option_map (λ e. one_at n (unsigned_abs e)) (error_at n t)) same

  one_more : (best : Option Greatest) (receives_it : Bool) → receives name t ≡ receives_it
      → amount_in (greatest_from best (filter_map error_in (filter (counts_for name from) (t ∷ []))))
      ≡ (if receives_it
      then error_after (counts_from from (at_of t)) (amount_in best) (option_map unsigned_abs (error_at name t))
      else amount_in best)
  one_more best true is =
      ap amount_in (alone best (counts_from from (at_of t)) (error_in t)
      (ap (λ r. counts_from from (at_of t) && r) is ∙ both_true (counts_from from (at_of t))) refl)
      ∙ ap (λ e. amount_in (if counts_from from (at_of t) then better_if best e else best))
      (own_error (received_by t.told.done) refl is)
      ∙ amount_after best (counts_from from (at_of t)) (error_at name t)
  one_more best false is =
      ap amount_in (alone best false (error_in t)
      (ap (λ r. counts_from from (at_of t) && r) is ∙ both_false (counts_from from (at_of t))) refl)

  -- after one act more
  pub errors_more : (ts : List ActTrace)
      → error_from name from (ts ++ t ∷ []) ≡ errors_next from t (λ n. error_from n from ts) name
  errors_more ts =
      ap (λ us. amount_in (greatest (filter_map error_in us))) (filter-append (counts_for name from) ts (t ∷ []))
      ∙ ap (λ gs. amount_in (greatest gs))
      (filter_map-append error_in (filter (counts_for name from) ts) (filter (counts_for name from) (t ∷ [])))
      ∙ ap amount_in (greatest_both None (filter_map error_in (filter (counts_for name from) ts))
      (filter_map error_in (filter (counts_for name from) (t ∷ []))))
      ∙ one_more (greatest (filter_map error_in (filter (counts_for name from) ts))) (receives name t) refl

  -- where it doesn't receive time
  pub errors_stay : (errors : ℕ → Option ℕ) → receives name t ≡ false → errors_next from t errors name ≡ errors name
  errors_stay errors quiet =
      ap (λ r. if r
      then error_after (counts_from from (at_of t)) (errors name) (option_map unsigned_abs (error_at name t))
      else errors name) quiet

-- ---- errors within a bound

module _ (name from bound : ℕ) where
  abbrev IsBelow : Greatest → Type 0
  IsBelow g = g.amount ≤ bound

  -- where the errors of the receipts of a system are, so are those that count for the greatest of them
  counted_within : (ts : List ActTrace) → ((t : ActTrace) → In t ts → ErrorIsWithin name from bound t)
      → AllByRecursion IsBelow (filter_map error_in (filter (counts_for name (Some from)) ts))
  counted_within [] each = tt
  counted_within (t ∷ ts) each =
      by (counts_for name (Some from) t) refl (counted_within ts (λ u member. each u (inr member)))
    where
      rest : List Greatest
      rest = filter_map error_in (filter (counts_for name (Some from)) ts)

      put : (one : Option Greatest) → IfSome one IsBelow → AllByRecursion IsBelow rest
          → AllByRecursion IsBelow (cons_option one rest)
      put None below all = all
      put (Some g) below all = (below, all)

      one : (error : Option ℤ) → error_at name t ≡ error → from ≤ at_of t → receives name t ≡ true
          → IfSome (option_map (λ e. one_at name (unsigned_abs e)) error) IsBelow
      one None is late own = tt
      one (Some e) is late own = each t (inl refl) e late own is

      by : (test : Bool) → counts_for name (Some from) t ≡ test → AllByRecursion IsBelow rest
          → AllByRecursion IsBelow (filter_map error_in (filter (counts_for name (Some from)) (t ∷ ts)))
      by false is all = rw is all
      by true is all =
          let (early, own) = and_parts (nat_le from (at_of t)) (receives name t) is in
          let late : from ≤ at_of t = grind (arith, nat_tests) in
          rw is (put (error_in t)
          (subst (λ o. IfSome o IsBelow) (sym (own_error name (Some from) t (received_by t.told.done) refl own))
          (one (error_at name t) refl late own))
          all)

  pub errors_within : (ts : List ActTrace) → ((t : ActTrace) → In t ts → ErrorIsWithin name from bound t)
      → IfSome (error_from name (Some from) ts) (λ amount. amount ≤ bound)
  errors_within ts each =
      amount (greatest (filter_map error_in (filter (counts_for name (Some from)) ts)))
      (greatest_within bound None (filter_map error_in (filter (counts_for name (Some from)) ts)) tt
      (counted_within ts each))
    where
      amount : (g : Option Greatest) → IfSome g IsBelow → IfSome (amount_in g) (λ a. a ≤ bound)
      amount None below = tt
      amount (Some g) below = below
