-- Events that come later than a time, and those of a stretch.
use Rattle.std.proofs.Common.{◌≡◌, ◌≢◌, ◌≤◌, ◌<◌, ◌++◌, ℕ, zero, suc, Bool, true, false, nat_le, nat_lt, List, [], ◌∷◌, length, drop, Some, None, slice_get, refl, ap, subst, arith}
use Rattle.std.specs.List.{AllByRecursion, filter}
use Rattle.std.specs.List.Sorted.{IsPartitionPoint}
use Rattle.std.proofs.lemmas.Bool.Decides.{nat_tests}
use Rattle.std.proofs.lemmas.Option.{same_Some}
use Rattle.gptp_model.specs.Prompt.{AllDelaysFitIntervals, DelaysFitIntervals}
use Rattle.gptp_model.specs.World.{WorldState}
use Rattle.gptp_model.proofs.PromptLemmas.{stay_prompt}
use Rattle.gptp_model.proofs.StayLemmas.{Stays}
use Rattle.gptp_lists.proofs.SystemSpecLemmas.{In-right, In-slice_get, slice_get-In}
use Rattle.gptp_network.specs.Events.{AreInOrder}
use Rattle.gptp_network.specs.Snapshot.{events_by}
use Rattle.gptp_network.proofs.SnapshotLemmas.{from_filter}
use Rattle.gptp_network.proofs.TakingLemmas.{all_in, in_all}
use Rattle.gptp_scenario.specs.Calm.{last_change}
use Rattle.gptp_scenario.specs.Allowed.{AreAllowed, IsAllowed}
use Rattle.gptp_scenario.specs.declared.change.Timed.{Timed}
use Rattle.gptp_timeline.specs.Passing.{first_time, MayPass}
use Rattle.gptp_timeline.specs.Timeline.{end_before, later_than, now_of}

abbrev by_then : ℕ → Timed → Bool
by_then time t = nat_le t.at time

-- where all that follow a front are later, and all of it isn't, what follows it are those that are later
pub behind_front : (time : ℕ) (xs : List Timed) (count : ℕ) → count ≤ length xs
    → IsPartitionPoint (λ y. by_then time y ≡ true) (λ y. by_then time y ≡ false) xs count
    → drop count xs ≡ later_than time xs
behind_front time [] zero within (pass, fail) = refl
behind_front time [] (suc count) within (pass, fail) = refl
behind_front time (x ∷ xs) zero within (pass, fail) =
    let fails : by_then time x ≡ false = fail zero x (omega arith) (omega arith) in
    let later : nat_lt time x.at ≡ true = grind (arith, nat_tests) in
    let rest =
    behind_front time xs zero (omega arith)
    (λ k d le lt. absurd (omega arith), λ k d le lt. fail (suc k) d (omega arith) (omega arith)) in
    rw (later, ← rest) refl
behind_front time (x ∷ xs) (suc count) within (pass, fail) =
    let passes : by_then time x ≡ true = pass zero x (omega arith) (omega arith) in
    let early : nat_lt time x.at ≡ false = grind (arith, nat_tests) in
    let rest =
    behind_front time xs count (omega arith) (
      λ k d le lt. pass (suc k) d (omega arith) (omega arith),
      λ k d le lt. fail (suc k) d (omega arith) (omega arith),
    ) in
    rw early rest

-- ---- events that pass a test, of events in order

-- what is so at each place
abbrev pub Each : (Timed → Type 0) → List Timed → Type 0
Each P xs = (place : ℕ) (x : Timed) → slice_get xs place ≡ Some x → P x

-- is so of those that pass a test
pub filter_each : (P : Timed → Type 0) (test : Timed → Bool) (xs : List Timed) → Each P xs → Each P (filter test xs)
filter_each P test xs each place x there =
    let (passed, is) = from_filter test x xs (In-slice_get x (filter test xs) place there) in
    let (other, here) = slice_get-In x xs passed in
    each other x here

-- and each of them passes it
pub filter_passes : (test : Timed → Bool) (xs : List Timed) → Each (λ x. test x ≡ true) (filter test xs)
filter_passes test xs place x there = (from_filter test x xs (In-slice_get x (filter test xs) place there)).1

-- none is before a time
abbrev pub NotBefore : ℕ → List Timed → Type 0
NotBefore time = AllByRecursion (λ (x : Timed). time ≤ x.at)

pub not_before_first : (x : Timed) (xs : List Timed) → AreInOrder (x ∷ xs) → NotBefore x.at xs
not_before_first x [] order = tt
not_before_first x (y ∷ ys) order = (order.0, earlier x.at y.at ys order.0 (not_before_first y ys order.1))
  where
    earlier : (time later : ℕ) (zs : List Timed) → time ≤ later → NotBefore later zs → NotBefore time zs
    earlier time later [] le not = tt
    earlier time later (z ∷ zs) le not = let first = not.0 in (omega arith, earlier time later zs le not.1)

filter_not_before : (time : ℕ) (test : Timed → Bool) (xs : List Timed) → NotBefore time xs
    → NotBefore time (filter test xs)
filter_not_before time test [] not = tt
filter_not_before time test (x ∷ xs) not = by (test x) refl (filter_not_before time test xs not.1)
  where
    by : (t : Bool) → test x ≡ t → NotBefore time (filter test xs) → NotBefore time (filter test (x ∷ xs))
    by true is rest = rw is (not.0, rest)
    by false is rest = rw is rest

behind_in_order : (x : Timed) (xs : List Timed) → NotBefore x.at xs → AreInOrder xs → AreInOrder (x ∷ xs)
behind_in_order x [] not order = tt
behind_in_order x (y ∷ ys) not order = (not.0, order)

pub rest_in_order : (x : Timed) (xs : List Timed) → AreInOrder (x ∷ xs) → AreInOrder xs
rest_in_order x [] order = tt
rest_in_order x (y ∷ ys) order = order.1

-- they are in order too
pub filter_in_order : (test : Timed → Bool) (xs : List Timed) → AreInOrder xs → AreInOrder (filter test xs)
filter_in_order test [] order = tt
filter_in_order test (x ∷ xs) order = by (test x) refl (filter_in_order test xs (rest_in_order x xs order))
  where
    by : (t : Bool) → test x ≡ t → AreInOrder (filter test xs) → AreInOrder (filter test (x ∷ xs))
    by true is rest =
        rw is (behind_in_order x (filter test xs)
        (filter_not_before x.at test xs (not_before_first x xs order)) rest)
    by false is rest = rw is rest

-- ---- the events of a stretch

-- those up to a time are up to a later one
pub now_by : (from to : ℕ) (xs : List Timed) → from ≤ to → events_by to (now_of from xs) ≡ now_of from xs
now_by from to [] le = refl
now_by from to (x ∷ xs) le = by (nat_le x.at from) refl (now_by from to xs le)
  where
    by : (t : Bool) → nat_le x.at from ≡ t → events_by to (now_of from xs) ≡ now_of from xs
        → events_by to (now_of from (x ∷ xs)) ≡ now_of from (x ∷ xs)
    by true is rest =
        let later : nat_le x.at to ≡ true = grind (arith, nat_tests) in
        rw (is, later) (ap (λ ys. x ∷ ys) rest)
    by false is rest = rw is rest

-- where none comes later, all are there
pub all_now : (time : ℕ) (xs : List Timed) → later_than time xs ≡ [] → now_of time xs ≡ xs
all_now time [] none = refl
all_now time (x ∷ xs) none = by (nat_lt time x.at) refl (all_now time xs)
  where
    by : (t : Bool) → nat_lt time x.at ≡ t → (later_than time xs ≡ [] → now_of time xs ≡ xs)
        → now_of time (x ∷ xs) ≡ x ∷ xs
    by true is rest = let some : x ∷ later_than time xs ≡ [] = rw is at none in absurd cc
    by false is rest =
        let early : nat_le x.at time ≡ true = grind (arith, nat_tests) in
        let none_behind : later_than time xs ≡ [] = rw is at none in
        rw early (ap (λ ys. x ∷ ys) (rest none_behind))

-- the first of some events
record HasFirst (xs : List Timed) (time : ℕ) : Type 0 where
  first : Timed
  rest : List Timed
  are : xs ≡ first ∷ rest
  at_is : first.at ≡ time

first_of : (xs : List Timed) (time : ℕ) → first_time xs ≡ Some time → HasFirst xs time
first_of [] time is = absurd cc
first_of (x ∷ xs) time is = record { first = x; rest = xs; are = refl; at_is = same_Some x.at time is }

-- when a stretch ends after which others come, and where none do
pub ends_before : (until : ℕ) (xs : List Timed) (time : ℕ) → first_time xs ≡ Some time → end_before until xs ≡ time
ends_before until [] time is = absurd cc
ends_before until (x ∷ xs) time is = same_Some x.at time is

pub ends_first : (until : ℕ) (xs : List Timed) → xs ≢ [] → first_time xs ≡ Some (end_before until xs)
ends_first until [] some = absurd (some refl)
ends_first until (x ∷ xs) some = refl

-- it ends by the end
pub first_due : (until time : ℕ) (xs : List Timed) → Each (λ (x : Timed). nat_le x.at until ≡ true) xs
    → first_time xs ≡ Some time → time ≤ until
first_due until time [] due is = absurd cc
first_due until time (x ∷ xs) due is =
    let first : nat_le x.at until ≡ true = due 0 x refl in
    let at : x.at ≡ time = same_Some x.at time is in grind (arith, nat_tests)

pub some_left : (xs : List Timed) (time : ℕ) → first_time xs ≡ Some time → xs ≢ []
some_left [] time is none = absurd cc
some_left (x ∷ xs) time is none = absurd cc

pub none_left : (xs : List Timed) → first_time xs ≡ None → xs ≡ []
none_left [] is = refl
none_left (x ∷ xs) is = absurd cc

-- less come later than the first of them
shorter : (test : Timed → Bool) (xs : List Timed) → length (filter test xs) ≤ length xs
shorter test [] = omega arith
shorter test (x ∷ xs) = by (test x) refl (shorter test xs)
  where
    by : (t : Bool) → test x ≡ t → length (filter test xs) ≤ length xs
        → length (filter test (x ∷ xs)) ≤ length (x ∷ xs)
    by true is rest = rw is (omega arith)
    by false is rest = rw is (omega arith)

pub fewer_later : (xs : List Timed) (time : ℕ) → first_time xs ≡ Some time → length (later_than time xs) < length xs
fewer_later [] time is = absurd cc
fewer_later (x ∷ xs) time is =
    let at : x.at ≡ time = same_Some x.at time is in
    let not : nat_lt time x.at ≡ false = grind (arith, nat_tests) in
    let rest = shorter (λ (e : Timed). nat_lt time e.at) xs in
    rw not (omega arith)

-- ---- what lets stretches pass

pub may_begin : (until : ℕ) (events : List Timed) (w : WorldState) → AreInOrder events → AreAllowed events
    → AllDelaysFitIntervals w events → MayPass until 0 (events_by until events) w
may_begin until events w order allowed prompt =
    let test : Timed → Bool = λ (e : Timed). nat_le e.at until in record {
      order = filter_in_order test events order;
      due = filter_passes test events;
      within = omega arith;
      allowed = filter_each IsAllowed test events allowed;
      prompt = filter_each (λ (e : Timed). DelaysFitIntervals w e.act) test events prompt;
    }

-- after a stretch with its events
pub may_next : (until from to : ℕ) (left : List Timed) (w w' : WorldState) → MayPass until from left w → Stays w w'
    → first_time (later_than from left) ≡ Some to → MayPass until to (later_than from left) w'
may_next until from to left w w' may stays is =
    let test : Timed → Bool = λ (e : Timed). nat_lt from e.at in
    let due : Each (λ (e : Timed). nat_le e.at until ≡ true) (later_than from left) =
    filter_each (λ (e : Timed). nat_le e.at until ≡ true) test left may.due in
    record {
      order = filter_in_order test left may.order;
      due = due;
      within = first_due until to (later_than from left) due is;
      allowed = filter_each IsAllowed test left may.allowed;
      prompt = stay_prompt (later_than from left) w w' stays
          (filter_each (λ (e : Timed). DelaysFitIntervals w e.act) test left may.prompt);
    }

-- a stretch ends no earlier than it begins
pub ends_later : (from to : ℕ) (left : List Timed) → first_time (later_than from left) ≡ Some to → from ≤ to
ends_later from to left is =
    let next = first_of (later_than from left) to is in
    let test : Timed → Bool = λ (e : Timed). nat_lt from e.at in
    let first : nat_lt from next.first.at ≡ true =
    filter_passes test left 0 next.first (ap (λ xs. slice_get xs 0) next.are) in
    let at : next.first.at ≡ to = next.at_is in grind (arith, nat_tests)

-- and by the end
pub ends_in_time : (until from to : ℕ) (left : List Timed) (w : WorldState) → MayPass until from left w
    → first_time (later_than from left) ≡ Some to → to ≤ until
ends_in_time until from to left w may is =
    first_due until to (later_than from left)
    (filter_each (λ (e : Timed). nat_le e.at until ≡ true) (λ (e : Timed). nat_lt from e.at) left may.due) is

-- ---- events of two documents, of which one has more

-- what is so of all is so at each place
pub each_in : (P : Timed → Type 0) (xs : List Timed) → AllByRecursion P xs → Each P xs
each_in P xs all place x there = in_all P x xs all (In-slice_get x xs place there)

-- and at each place of those behind
pub each_behind : (P : Timed → Type 0) (xs ys : List Timed) → Each P (xs ++ ys) → Each P ys
each_behind P xs ys each place x there =
    let (other, here) = slice_get-In x (xs ++ ys) (In-right x xs ys (In-slice_get x ys place there)) in
    each other x here

pub filter_all : (P : Timed → Type 0) (test : Timed → Bool) (xs : List Timed) → AllByRecursion P xs
    → AllByRecursion P (filter test xs)
filter_all P test xs all = all_in P (filter test xs) (λ x member. in_all P x xs all (from_filter test x xs member).0)

-- those that are later than a time are later than an earlier one
pub later_by : (from at : ℕ) (xs : List Timed) → from < at → AllByRecursion (λ (x : Timed). at ≤ x.at) xs
    → AllByRecursion (λ (x : Timed). from < x.at) xs
later_by from at [] less late = tt
later_by from at (x ∷ xs) less late =
    let first = late.0 in
    (omega (arith, less, first), later_by from at xs less late.1)

-- where all are later than a time
pub all_later : (time : ℕ) (xs : List Timed) → AllByRecursion (λ (x : Timed). time < x.at) xs
    → (now_of time xs ≡ []) × (later_than time xs ≡ xs)
all_later time [] late = (refl, refl)
all_later time (x ∷ xs) late =
    let first = late.0 in
    let later : nat_lt time x.at ≡ true = grind (arith, nat_tests) in
    let early : nat_le x.at time ≡ false = grind (arith, nat_tests) in
    let rest = all_later time xs late.1 in
    (rw early rest.0, rw later (ap (λ ys. x ∷ ys) rest.1))

-- where none is later than a time
pub all_due : (until : ℕ) (xs : List Timed) → AllByRecursion (λ (x : Timed). x.at ≤ until) xs
    → events_by until xs ≡ xs
all_due until [] due = refl
all_due until (x ∷ xs) due =
    let first = due.0 in
    let soon : nat_le x.at until ≡ true = grind (arith, nat_tests) in
    rw soon (ap (λ ys. x ∷ ys) (all_due until xs due.1))

-- none is later than the last
pub last_latest : (xs : List Timed) → AreInOrder xs → AllByRecursion (λ (x : Timed). x.at ≤ last_change xs) xs
last_latest [] order = tt
last_latest (x ∷ []) order = (omega arith, tt)
last_latest (x ∷ (y ∷ ys)) order =
    let rest = last_latest (y ∷ ys) order.1 in let soon = rest.0 in let first = order.0 in
    (omega (arith, first, soon), rest)

pub order_front : (xs ys : List Timed) → AreInOrder (xs ++ ys) → AreInOrder xs
order_front [] ys order = tt
order_front (x ∷ []) ys order = tt
order_front (x ∷ (z ∷ zs)) ys order = (order.0, order_front (z ∷ zs) ys order.1)

pub order_behind : (xs ys : List Timed) → AreInOrder (xs ++ ys) → AreInOrder ys
order_behind [] ys order = order
order_behind (x ∷ xs) ys order = order_behind xs ys (rest_in_order x (xs ++ ys) order)

-- the first is the same with more behind
pub first_both : (xs ys : List Timed) (time : ℕ) → first_time xs ≡ Some time → first_time (xs ++ ys) ≡ Some time
first_both [] ys time is = absurd cc
first_both (x ∷ xs) ys time is = is

-- what is so of the times of all is so of the first
pub first_so : (P : ℕ → Type 0) (xs : List Timed) (time : ℕ) → AllByRecursion (λ (x : Timed). P x.at) xs
    → first_time xs ≡ Some time → P time
first_so P [] time all is = absurd cc
first_so P (x ∷ xs) time all is = subst P (same_Some x.at time is) all.0

-- what is due at each place is so of all
pub due_all : (until : ℕ) (xs : List Timed) → Each (λ (x : Timed). nat_le x.at until ≡ true) xs
    → events_by until xs ≡ xs
due_all until xs due =
    all_due until xs (all_in (λ (x : Timed). x.at ≤ until) xs (λ x member.
    let (place, there) = slice_get-In x xs member in
    let soon : nat_le x.at until ≡ true = due place x there in grind (arith, nat_tests)))

-- all events of a document can be made before a time that isn't before the last
pub may_before : (until : ℕ) (events : List Timed) (w : WorldState) → AreInOrder events → AreAllowed events
    → AllDelaysFitIntervals w events → last_change events ≤ until → MayPass until 0 events w
may_before until events w order allowed prompt last =
    let late : (x : Timed) → x.at ≤ last_change events → nat_le x.at until ≡ true =
    λ x soon. grind (arith, nat_tests) in
    let all = last_latest events order in record {
      order = order;
      due = λ place x there. late x (each_in (λ (y : Timed). y.at ≤ last_change events) events all place x there);
      within = omega arith;
      allowed = allowed;
      prompt = prompt;
    }
