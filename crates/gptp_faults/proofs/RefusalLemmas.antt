-- Where the document is refused with no case and none is late, each comes back and each run ends in time.
use Rattle.std.proofs.Common.{◌≡◌, ◌≤◌, ◌<◌, ◌+◌, ◌-◌, ◌||◌, ℕ, zero, suc, Bool, true, false, nat_lt, List, [], ◌∷◌, length, map, Option, Some, None, slice_get, refl, sym, ap, ◌∙◌, arith}
use Rattle.std.specs.List.{list_any, range_with_len}
use Rattle.std.proofs.lemmas.Bool.Decides.{nat_tests}
use Rattle.gptp_network.specs.declared.keys.TheConstants.{LATEST_EVENT}
use Rattle.gptp_setup.specs.Intervals.{IsMoment}
use Rattle.gptp_network.specs.Document.{DocumentState}
use Rattle.gptp_network.specs.declared.fault.DocumentFault.{DocumentFault}
use Rattle.gptp_scenario.specs.Calm.{last_change}
use Rattle.gptp_faults.specs.CaseEvents.{count_events, EventsState}
use Rattle.gptp_faults.specs.Refusals.{any_late, case_events, fault_before, first_some, is_late, is_late_at, refusal_at, refusal_of}
use Rattle.gptp_faults.specs.Stays.{end_at, return_at}
use Rattle.gptp_faults.specs.Times.{moment}
use Rattle.gptp_faults.specs.declared.cases.Case.{Case}
use Rattle.gptp_faults.specs.declared.options.FaultsOptions.{FaultsOptions}
use Rattle.gptp_faults.specs.declared.times.Times.{Times}

pub neither : (a b : Bool) → (a || b) ≡ false → (a ≡ false) × (b ≡ false)
neither false false none = (refl, refl)
neither false true none = absurd cc
neither true b none = absurd cc

-- ---- whether one of several numbers passes a test

module _ (test : ℕ → Bool) where
  pub range_first : (number count : ℕ) → number < count
      → range_with_len number (count - number) ≡ number ∷ range_with_len (number + 1) (count - (number + 1))
  range_first number count below =
      let more : count - number ≡ suc (count - (number + 1)) = omega (arith, below) in rw more refl

  -- the first of those that are left doesn't
  pub passes_later : (number count : ℕ) → number < count → test number ≡ false
      → list_any test (range_with_len number (count - number))
      ≡ list_any test (range_with_len (number + 1) (count - (number + 1)))
  passes_later number count below fails =
      ap (list_any test) (range_first number count below) ∙ rw fails refl

  -- it does
  pub passes_here : (number count : ℕ) → number < count → test number ≡ true
      → list_any test (range_with_len number (count - number)) ≡ true
  passes_here number count below passes = ap (list_any test) (range_first number count below) ∙ rw passes refl

  -- none is left
  pub passes_none : (number count : ℕ) → count ≤ number
      → list_any test (range_with_len number (count - number)) ≡ false
  passes_none number count past = let none : count - number ≡ 0 = omega (arith, past) in rw none refl

  -- where none passes, this one doesn't
  fails_at : (count start number : ℕ) → list_any test (range_with_len start count) ≡ false → start ≤ number
      → number < start + count → test number ≡ false
  fails_at zero start number none from below = absurd (omega (arith, from, below))
  fails_at (suc count) start number none from below =
      let rest = neither (test start) (list_any test (range_with_len (start + 1) count)) none in
      by (nat_lt start number) refl rest.0
      (λ above. fails_at count (start + 1) number rest.1 above (omega (arith, below)))
    where
      by : (t : Bool) → nat_lt start number ≡ t → test start ≡ false → (start + 1 ≤ number → test number ≡ false)
          → test number ≡ false
      by true is here later =
          let above : start < number = grind (arith, nat_tests) in later (omega (arith, above))
      by false is here later =
          let past : number ≤ start = grind (arith, nat_tests) in
          let same : start ≡ number = omega (arith, from, past) in ap test (sym same) ∙ here

-- ---- the first refusal

module _ {X : Type 0} (refuses : X → Option DocumentFault) where
  -- the first of those that are left refuses, or doesn't
  pub first_here : (x : X) (xs : List X) (fault : DocumentFault) → refuses x ≡ Some fault
      → first_some (map refuses (x ∷ xs)) ≡ Some fault
  first_here x xs fault is = rw is refl

  pub first_later : (x : X) (xs : List X) → refuses x ≡ None
      → first_some (map refuses (x ∷ xs)) ≡ first_some (map refuses xs)
  first_later x xs is = rw is refl

  -- where the first doesn't and none of the others does
  both_none : (x : X) (xs : List X) → first_some (map refuses (x ∷ xs)) ≡ None
      → (refuses x ≡ None) × (first_some (map refuses xs) ≡ None)
  both_none x xs none = by (refuses x) refl
    where
      by : (o : Option DocumentFault) → refuses x ≡ o
          → (refuses x ≡ None) × (first_some (map refuses xs) ≡ None)
      by None is = (is, sym (first_later x xs is) ∙ none)
      by (Some fault) is = absurd (let some = sym none ∙ first_here x xs fault is in cc)

  -- where none does, this one doesn't
  pub none_refuses : (xs : List X) → first_some (map refuses xs) ≡ None → (place : ℕ) (x : X)
      → slice_get xs place ≡ Some x → refuses x ≡ None
  none_refuses [] none place x there = absurd cc
  none_refuses (y ∷ ys) none zero x there =
      let same : y ≡ x = cc in ap refuses (sym same) ∙ (both_none y ys none).0
  none_refuses (y ∷ ys) none (suc place) x there = none_refuses ys (both_none y ys none).1 place x there

module _ (refuses : ℕ → Option DocumentFault) where
  -- of the numbers that are left the first refuses, or doesn't
  pub number_here : (number count : ℕ) (fault : DocumentFault) → number < count → refuses number ≡ Some fault
      → first_some (map refuses (range_with_len number (count - number))) ≡ Some fault
  number_here number count fault below is =
      ap (λ ns. first_some (map refuses ns)) (range_first (λ n. true) number count below)
      ∙ first_here refuses number (range_with_len (number + 1) (count - (number + 1))) fault is

  pub number_later : (number count : ℕ) → number < count → refuses number ≡ None
      → first_some (map refuses (range_with_len number (count - number)))
      ≡ first_some (map refuses (range_with_len (number + 1) (count - (number + 1))))
  number_later number count below is =
      ap (λ ns. first_some (map refuses ns)) (range_first (λ n. true) number count below)
      ∙ first_later refuses number (range_with_len (number + 1) (count - (number + 1))) is

  pub number_none : (number count : ℕ) → count ≤ number
      → first_some (map refuses (range_with_len number (count - number))) ≡ None
  number_none number count past = let none : count - number ≡ 0 = omega (arith, past) in rw none refl

  -- where none does, this one doesn't
  pub none_at : (count start number : ℕ) → first_some (map refuses (range_with_len start count)) ≡ None → start ≤ number
      → number < start + count → refuses number ≡ None
  none_at zero start number none from below = absurd (omega (arith, from, below))
  none_at (suc count) start number none from below =
      let rest = both_none refuses start (range_with_len (start + 1) count) none in
      by (nat_lt start number) refl rest.0
      (λ above. none_at count (start + 1) number rest.1 above (omega (arith, below)))
    where
      by : (t : Bool) → nat_lt start number ≡ t → refuses start ≡ None → (start + 1 ≤ number → refuses number ≡ None)
          → refuses number ≡ None
      by true is here later =
          let above : start < number = grind (arith, nat_tests) in later (omega (arith, above))
      by false is here later =
          let past : number ≤ start = grind (arith, nat_tests) in
          let same : start ≡ number = omega (arith, from, past) in ap refuses (sym same) ∙ here

-- ---- cases

-- a case that fails at a moment at which the document isn't refused
pub record IsInTime (d : DocumentState) (asked : Option ℕ) (e : EventsState) (at : ℕ) : Type 0 where
  pub early : at ≤ LATEST_EVENT
  pub behind_last : last_change d.events ≤ at
  pub returns : return_at d asked e at ≤ LATEST_EVENT

module _ (d : DocumentState) (asked : Option ℕ) where
  pub in_time_at : (e : EventsState) (at : ℕ) → refusal_at d asked e at ≡ None → IsInTime d asked e at
  in_time_at e at none =
      by (nat_lt LATEST_EVENT at) refl (nat_lt at (last_change d.events)) refl
      (nat_lt LATEST_EVENT (return_at d asked e at)) refl
    where
      by : (a : Bool) → nat_lt LATEST_EVENT at ≡ a → (b : Bool) → nat_lt at (last_change d.events) ≡ b → (c : Bool)
          → nat_lt LATEST_EVENT (return_at d asked e at) ≡ c → IsInTime d asked e at
      by true a b k c l = absurd (let no = rw a at none in cc)
      by false a true k c l = absurd (let no = rw (a, k) at none in cc)
      by false a false k true l = absurd (let no = rw (a, k, l) at none in cc)
      by false a false k false l = record {
        early = grind (arith, nat_tests);
        behind_last = grind (arith, nat_tests);
        returns = grind (arith, nat_tests);
      }

  -- a case with which it isn't refused is in time at each of its moments
  pub in_time_of : (t : Times) (e : EventsState) (number : ℕ) → refusal_of d asked t e ≡ None → number < t.moments
      → IsInTime d asked e (moment t number)
  in_time_of t e number none below = by (nat_lt 4096 (length d.events + count_events e)) refl
    where
      by : (many : Bool) → nat_lt 4096 (length d.events + count_events e) ≡ many → IsInTime d asked e (moment t number)
      by true is = absurd (let no = rw is at none in cc)
      by false is =
          let rest : first_some (map (λ n. refusal_at d asked e (moment t n)) (range_with_len 0 t.moments)) ≡ None =
          rw is at none in
          in_time_at e (moment t number)
          (none_at (λ n. refusal_at d asked e (moment t n)) t.moments 0 number rest (omega arith)
          (omega (arith, below)))

  pub ends_early : (e : EventsState) (at : ℕ) → is_late_at d asked e at ≡ false → IsMoment (end_at d asked e at)
  ends_early e at none = grind (arith, nat_tests)

  -- a case that is late at no moment isn't at this one
  pub not_late_at : (t : Times) (e : EventsState) (number : ℕ) → is_late d asked t e ≡ false → number < t.moments
      → is_late_at d asked e (moment t number) ≡ false
  not_late_at t e number none below =
      fails_at (λ n. is_late_at d asked e (moment t n)) t.moments 0 number none (omega arith) (omega (arith, below))

-- of several cases of which none is late none is
pub not_late : (d : DocumentState) (options : FaultsOptions) (t : Times) (cases : List Case)
    → any_late d options t cases ≡ false → (place : ℕ) (c : Case)
    → slice_get cases place ≡ Some c → is_late d options.hold t (case_events d options c) ≡ false
not_late d options t [] none place c there = absurd cc
not_late d options t (x ∷ xs) none zero c there =
    let same : x ≡ c = cc in
    ap (λ y. is_late d options.hold t (case_events d options y)) (sym same)
    ∙ (neither (is_late d options.hold t (case_events d options x)) (any_late d options t xs) none).0
not_late d options t (x ∷ xs) none (suc place) c there =
    not_late d options t xs (neither (is_late d options.hold t (case_events d options x)) (any_late d options t xs)
    none).1 place c there

-- and none is refused with
pub not_refused : (d : DocumentState) (options : FaultsOptions) (t : Times) (cases : List Case)
    → fault_before d options t cases ≡ None → (place : ℕ) (c : Case) → slice_get cases place ≡ Some c
    → refusal_of d options.hold t (case_events d options c) ≡ None
not_refused d options t cases none place c there =
    none_refuses (λ x. refusal_of d options.hold t (case_events d options x)) cases none place c there
