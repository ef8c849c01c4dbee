-- Events behind those of a document, from which its run goes on.
use Rattle.std.proofs.Common.{◌≡◌, ◌<◌, ◌≤◌, ℕ, zero, suc, true, nat_le, nat_lt, ◌&&◌, drop, length, List, [], ◌∷◌, ◌++◌, Option, Some, None, slice_get, refl, ap, sym, subst, ◌∙◌, arith}
use Rattle.std.proofs.lemmas.Bool.{and_parts}
use Rattle.std.proofs.lemmas.Bool.Decides.{nat_tests}
use Rattle.std.proofs.lemmas.List.{take-append-drop}
use Rattle.std.proofs.lemmas.Option.{same_Some}
use Rattle.std.specs.List.{AllByRecursion}
use Rattle.gptp_lists.specs.Members.{In}
use Rattle.gptp_network.specs.Adding.{with_first}
use Rattle.gptp_network.specs.Document.{DocumentState}
use Rattle.gptp_network.specs.Events.{AreInOrder}
use Rattle.gptp_network.proofs.SnapshotLemmas.{from_filter}
use Rattle.gptp_network.proofs.TakingLemmas.{all_in}
use Rattle.gptp_scenario.specs.Calm.{last_change}
use Rattle.gptp_scenario.specs.declared.change.Timed.{Timed}
use Rattle.gptp_timeline.specs.Passing.{first_time}
use Rattle.gptp_timeline.specs.RunSoFar.{GoesOn}
use Rattle.gptp_timeline.specs.Timeline.{later_than}
use Rattle.gptp_timeline.proofs.EventLemmas.{all_now, last_latest, not_before_first, rest_in_order}
use Rattle.gptp_faults.specs.Runs.{are_between, go_on}

-- where none is later than a time, the last isn't
last_by : (time : ℕ) (xs : List Timed) → AllByRecursion (λ (x : Timed). x.at ≤ time) xs → last_change xs ≤ time
last_by time [] by = omega arith
last_by time (x ∷ []) by = by.0
last_by time (x ∷ (y ∷ ys)) by = last_by time (y ∷ ys) by.1

-- those that come later than a time which the last comes after
record HasLater (time : ℕ) (xs : List Timed) : Type 0 where
  second : ℕ
  comes : first_time (later_than time xs) ≡ Some second

some_later : (time : ℕ) (xs : List Timed) → time < last_change xs → HasLater time xs
some_later time xs late = by (later_than time xs) refl
  where
    by : (ys : List Timed) → later_than time xs ≡ ys → HasLater time xs
    by (y ∷ ys) is = record { second = y.at; comes = ap first_time is }
    by [] none =
        let soon : AllByRecursion (λ (x : Timed). x.at ≤ time) xs =
        all_in (λ (x : Timed). x.at ≤ time) xs (λ x member.
        let (there, test) = from_filter (λ (e : Timed). nat_le e.at time) x xs
        (subst (In x) (sym (all_now time xs none)) member) in
        grind (arith, nat_tests)) in
        let last = last_by time xs soon in absurd (omega (arith, last, late))

-- all of them come from a time to another
not_before : (from at : ℕ) (xs : List Timed) → from ≤ at → AllByRecursion (λ (x : Timed). at ≤ x.at) xs
    → AllByRecursion (λ (x : Timed). from ≤ x.at) xs
not_before from at [] less all = tt
not_before from at (x ∷ xs) less all =
    let first = all.0 in
    (omega (arith, first, less), not_before from at xs less all.1)

not_after : (until at : ℕ) (xs : List Timed) → at ≤ until → AllByRecursion (λ (x : Timed). x.at ≤ at) xs
    → AllByRecursion (λ (x : Timed). x.at ≤ until) xs
not_after until at [] less all = tt
not_after until at (x ∷ xs) less all =
    let first = all.0 in
    (omega (arith, first, less), not_after until at xs less all.1)

order_dropped : (count : ℕ) (xs : List Timed) → AreInOrder xs → AreInOrder (drop count xs)
order_dropped zero xs order = order
order_dropped (suc count) [] order = tt
order_dropped (suc count) (x ∷ xs) order = order_dropped count xs (rest_in_order x xs order)

last_dropped : (count : ℕ) (xs : List Timed) → count < length xs → last_change (drop count xs) ≡ last_change xs
last_dropped zero xs less = refl
last_dropped (suc count) [] less = absurd (omega (arith, less))
last_dropped (suc count) (x ∷ []) less = absurd (omega (arith, less))
last_dropped (suc count) (x ∷ (y ∷ ys)) less = last_dropped count (y ∷ ys) (omega (arith, less))

within : (count : ℕ) (xs : List Timed) (first : Timed) → slice_get xs count ≡ Some first → count < length xs
within zero [] first is = absurd cc
within (suc count) [] first is = absurd cc
within zero (x ∷ xs) first is = omega arith
within (suc count) (x ∷ xs) first is = let rest = within count xs first is in omega (arith, rest)

first_dropped : (count : ℕ) (xs : List Timed) (first : Timed) → slice_get xs count ≡ Some first
    → first_time (drop count xs) ≡ Some first.at
first_dropped zero [] first is = absurd cc
first_dropped zero (x ∷ xs) first is = ap (λ (y : Timed). Some y.at) (same_Some x first is)
first_dropped (suc count) [] first is = absurd cc
first_dropped (suc count) (x ∷ xs) first is = first_dropped count xs first is

first_least : (xs : List Timed) (time : ℕ) → AreInOrder xs → first_time xs ≡ Some time
    → AllByRecursion (λ (x : Timed). time ≤ x.at) xs
first_least [] time order is = tt
first_least (x ∷ xs) time order is =
    let same = same_Some x.at time is in
    subst (λ t. AllByRecursion (λ (y : Timed). t ≤ y.at) (x ∷ xs)) same (omega arith, not_before_first x xs order)

-- where the events behind those of a document can go on from a time, a document with them does from one without
pub goes_on : (d e : DocumentState) (from until count : ℕ) → AreInOrder e.events → with_first count e ≡ d
    → go_on from until count e.events ≡ true → GoesOn d from until e
goes_on d e from until count order is can = by (slice_get e.events count) refl can
  where
    by : (first : Option Timed) → slice_get e.events count ≡ first
        → are_between from until first (last_change e.events) ≡ true → GoesOn d from until e
    by None none does = absurd cc
    by (Some first) there does =
        let last = last_change e.events in
        let (both, ends) = and_parts (nat_le from first.at && nat_lt first.at last) (nat_le last until) does in
        let (begins, differ) = and_parts (nat_le from first.at) (nat_lt first.at last) both in
        let late : from ≤ first.at = grind (arith, nat_tests) in
        let apart : first.at < last_change e.events = grind (arith, nat_tests) in
        let due : last_change e.events ≤ until = grind (arith, nat_tests) in
        let same = last_dropped count e.events (within count e.events first there) in
        let ordered = order_dropped count e.events order in
        let comes = first_dropped count e.events first there in
        let later =
        some_later first.at (drop count e.events) (subst (λ time. first.at < time) (sym same) apart) in record {
          network = ap (λ (x : DocumentState). x.network) is;
          more = drop count e.events;
          events = sym (take-append-drop count e.events)
              ∙ ap (λ (x : DocumentState). x.events ++ drop count e.events) is;
          late = not_before from first.at (drop count e.events) late
              (first_least (drop count e.events) first.at ordered comes);
          due = not_after until (last_change (drop count e.events)) (drop count e.events)
              (subst (λ time. time ≤ until) (sym same) due) (last_latest (drop count e.events) ordered);
          first = first.at;
          comes = comes;
          second = later.second;
          comes_then = later.comes;
        }
