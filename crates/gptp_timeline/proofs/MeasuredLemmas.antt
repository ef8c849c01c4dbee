-- What is measured, act by act.
use Rattle.std.proofs.Common.{◌≡◌, ◌||◌, ℕ, zero, suc, Bool, true, false, not, List, [], ◌∷◌, ◌++◌, Option, Some, None, if◌then◌else◌, slice_get, refl, sym, ap, ◌∙◌, append_assoc, append-nil, arith}
use Rattle.std.specs.List.{filter_map, list_any}
use Rattle.std.specs.Option.{option_or}
use Rattle.std.proofs.lemmas.List.Elements.{filter_map-append}
use Rattle.std.proofs.lemmas.Option.{same_Some}
use Rattle.gptp_world.specs.Transitions.{ActTrace}
use Rattle.gptp_timeline.specs.Measures.{better_if, greatest, greatest_from, last_if}
use Rattle.gptp_timeline.specs.Stretch.{at_of, ended, ended_in, error_in, last_at, waits, waits_after, worst_error}
use Rattle.gptp_timeline.specs.declared.measures.Greatest.{Greatest}
use Rattle.gptp_timeline.proofs.MeasureLemmas.{greatest_both}

-- ---- the last act that passes a test

last_alone : (passes : Bool) (at : ℕ)
    → option_or None (if passes then Some at else None) ≡ last_if (not passes) at None
last_alone true at = refl
last_alone false at = refl

last_before : (passes : Bool) (at : ℕ) (last other : Option ℕ)
    → option_or (last_if (not passes) at last) other ≡ last_if (not passes) at (option_or last other)
last_before true at last other = refl
last_before false at last other = refl

-- after one act more
pub last_more : (test : ActTrace → Bool) (ts : List ActTrace) (t : ActTrace)
    → last_at test (ts ++ t ∷ []) ≡ last_if (not (test t)) (at_of t) (last_at test ts)
last_more test [] t = last_alone (test t) (at_of t)
last_more test (u ∷ us) t =
    ap (λ last. option_or last (if test u then Some (at_of u) else None)) (last_more test us t)
    ∙ last_before (test t) (at_of t) (last_at test us) (if test u then Some (at_of u) else None)

-- ---- a test of several names

pub any_none : (test : ℕ → Bool) (names : List ℕ) → ((i n : ℕ) → slice_get names i ≡ Some n → test n ≡ false)
    → list_any test names ≡ false
any_none test [] none = refl
any_none test (n ∷ ns) none = rw (none 0 n refl, any_none test ns (λ i m at. none (suc i) m at)) refl

or_false : (b : Bool) → b || false ≡ b
or_false true = refl
or_false false = refl

-- which no name passes but one
pub any_one : (test : ℕ → Bool) (names : List ℕ) (place name : ℕ) → slice_get names place ≡ Some name
    → ((i n : ℕ) → slice_get names i ≡ Some n → (i ≡ place → ⊥) → test n ≡ false)
    → list_any test names ≡ test name
any_one test [] place name there none = absurd cc
any_one test (n ∷ ns) zero name there none =
    ap (λ b. test n || b) (any_none test ns (λ i m at. none (suc i) m at (λ e. absurd (omega arith))))
    ∙ or_false (test n) ∙ ap test (same_Some n name there)
any_one test (n ∷ ns) (suc place) name there none =
    ap (λ b. b || list_any test ns) (none 0 n refl (λ e. absurd (omega arith)))
    ∙ any_one test ns place name there (λ i m at apart. none (suc i) m at (λ e. apart (omega arith)))

-- ---- what several names give

pub given_none : {X : Type 0} (f : ℕ → Option X) (names : List ℕ)
    → ((i n : ℕ) → slice_get names i ≡ Some n → f n ≡ None) → filter_map f names ≡ []
given_none f [] none = refl
given_none f (n ∷ ns) none = rw (none 0 n refl) (given_none f ns (λ i m at. none (suc i) m at))

better_given : (f : ℕ → Option Greatest) (n : ℕ) (o : Option Greatest) (best : Option Greatest) → f n ≡ o
    → greatest_from best (filter_map f (n ∷ [])) ≡ better_if best o
better_given f n None best is = rw is refl
better_given f n (Some x) best is = rw is refl

-- where no name gives anything but one, the greatest is the better of it
pub better_one : (f : ℕ → Option Greatest) (names : List ℕ) (place name : ℕ) (best : Option Greatest)
    → slice_get names place ≡ Some name
    → ((i n : ℕ) → slice_get names i ≡ Some n → (i ≡ place → ⊥) → f n ≡ None)
    → greatest_from best (filter_map f names) ≡ better_if best (f name)
better_one f [] place name best there none = absurd cc
better_one f (n ∷ ns) zero name best there none =
    first (f n) refl ∙ ap (λ m. better_if best (f m)) (same_Some n name there)
  where
    rest : filter_map f ns ≡ []
    rest = given_none f ns (λ i m at. none (suc i) m at (λ e. absurd (omega arith)))

    first : (o : Option Greatest) → f n ≡ o → greatest_from best (filter_map f (n ∷ ns)) ≡ better_if best (f n)
    first None is = rw (is, rest) refl
    first (Some x) is = rw (is, rest) refl
better_one f (n ∷ ns) (suc place) name best there none =
    rw (none 0 n refl (λ e. absurd (omega arith)))
    (better_one f ns place name best there (λ i m at apart. none (suc i) m at (λ e. apart (omega arith))))

-- ---- waits and errors after one act more

pub ended_more : (names : List ℕ) (since : ℕ → Option ℕ) (ts us : List ActTrace)
    → ended names since (ts ++ us) ≡ ended names since ts ++ ended names (waits ts since) us
ended_more names since [] us = refl
ended_more names since (t ∷ ts) us =
    ap (λ rest. ended_in names since t ++ rest) (ended_more names (waits_after t since) ts us)
    ∙ sym (append_assoc (ended_in names since t) (ended names (waits_after t since) ts)
    (ended names (waits ts (waits_after t since)) us))

pub waits_more : (ts us : List ActTrace) (since : ℕ → Option ℕ) → waits (ts ++ us) since ≡ waits us (waits ts since)
waits_more [] us since = refl
waits_more (t ∷ ts) us since = waits_more ts us (waits_after t since)

pub longest_more : (names : List ℕ) (since : ℕ → Option ℕ) (ts : List ActTrace) (t : ActTrace)
    → greatest (ended names since (ts ++ t ∷ []))
    ≡ greatest_from (greatest (ended names since ts)) (ended_in names (waits ts since) t)
longest_more names since ts t =
    ap greatest (ended_more names since ts (t ∷ []))
    ∙ ap (λ rest. greatest (ended names since ts ++ rest)) (append-nil (ended_in names (waits ts since) t))
    ∙ greatest_both None (ended names since ts) (ended_in names (waits ts since) t)

error_alone : (best : Option Greatest) (t : ActTrace) (o : Option Greatest) → error_in t ≡ o
    → greatest_from best (filter_map error_in (t ∷ [])) ≡ better_if best (error_in t)
error_alone best t None is = rw is refl
error_alone best t (Some x) is = rw is refl

pub worst_more : (ts : List ActTrace) (t : ActTrace)
    → worst_error (ts ++ t ∷ []) ≡ better_if (worst_error ts) (error_in t)
worst_more ts t =
    ap greatest (filter_map-append error_in ts (t ∷ []))
    ∙ greatest_both None (filter_map error_in ts) (filter_map error_in (t ∷ []))
    ∙ error_alone (worst_error ts) t (error_in t) refl
