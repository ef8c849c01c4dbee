-- Events up to a time, of several in order.
use Rattle.std.proofs.Common.{◌≡◌, ◌≤◌, ℕ, Bool, true, false, nat_le, List, [], ◌∷◌, ◌++◌, if◌then◌else◌, refl, ap, arith}
use Rattle.std.specs.List.{AllByRecursion}
use Rattle.std.proofs.lemmas.Bool.Decides.{nat_tests}
use Rattle.gptp_network.specs.Events.{AreInOrder}
use Rattle.gptp_network.specs.Snapshot.{events_by}
use Rattle.gptp_scenario.specs.Calm.{last_change}
use Rattle.gptp_scenario.specs.declared.change.Timed.{Timed}
use Rattle.gptp_timeline.specs.Timeline.{now_of}

abbrev pub PastBy : ℕ → List Timed → Type 0
PastBy time = AllByRecursion (λ (e : Timed). e.at ≤ time)

pub past_later : (time later : ℕ) (es : List Timed) → time ≤ later → PastBy time es → PastBy later es
past_later time later [] le past = tt
past_later time later (e ∷ es) le past = let first = past.0 in (omega arith, past_later time later es le past.1)

now_past : (time : ℕ) (es : List Timed) → PastBy time (now_of time es)
now_past time [] = tt
now_past time (e ∷ es) = by (nat_le e.at time) refl (now_past time es)
  where
    by : (early : Bool) → nat_le e.at time ≡ early → PastBy time (now_of time es) → PastBy time (now_of time (e ∷ es))
    by true test rest = let first : e.at ≤ time = grind (arith, nat_tests) in rw test (first, rest)
    by false test rest = rw test rest

pub past_both : (time : ℕ) (before left : List Timed) → PastBy time before → PastBy time (before ++ now_of time left)
past_both time [] left past = now_past time left
past_both time (e ∷ es) left past = (past.0, past_both time es left past.1)

-- the last of them is
pub last_past : (time : ℕ) (es : List Timed) → PastBy time es → last_change es ≤ time
last_past time [] past = omega arith
last_past time (e ∷ []) past = past.0
last_past time (e ∷ (f ∷ es)) past = last_past time (f ∷ es) past.1

-- where the last of several in order is, all are
pub all_past : (time : ℕ) (es : List Timed) → AreInOrder es → last_change es ≤ time → PastBy time es
all_past time [] order last = tt
all_past time (e ∷ []) order last = (last, tt)
all_past time (e ∷ (f ∷ es)) order last =
    let rest = all_past time (f ∷ es) order.1 last in
    let first = rest.0 in let step = order.0 in (omega (arith, first, step), rest)

pub by_past : (time : ℕ) (before left : List Timed) → PastBy time before
    → events_by time (before ++ left) ≡ before ++ now_of time left
by_past time [] left past = refl
by_past time (e ∷ es) left past =
    let first = past.0 in
    let early : nat_le e.at time ≡ true = grind (arith, nat_tests) in
    rw early (ap (λ fs. e ∷ fs) (by_past time es left past.1))

pub by_sooner : (time until : ℕ) (es : List Timed) → time ≤ until
    → events_by time (events_by until es) ≡ events_by time es
by_sooner time until [] le = refl
by_sooner time until (e ∷ es) le = by (nat_le e.at until) refl (by_sooner time until es le)
  where
    by : (due : Bool) → nat_le e.at until ≡ due → events_by time (events_by until es) ≡ events_by time es
        → events_by time (events_by until (e ∷ es)) ≡ events_by time (e ∷ es)
    by true test rest = rw test (ap (λ fs. if nat_le e.at time then e ∷ fs else fs) rest)
    by false test rest =
        let late : nat_le e.at time ≡ false = grind (arith, nat_tests) in rw (test, late) rest
