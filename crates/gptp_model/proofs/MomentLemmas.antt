-- When what is pending is due: nothing before the next, as entries are put and taken.
use Rattle.std.proofs.Common.{◌≡◌, ℕ, ◌<◌, ◌≤◌, not, Bool, true, false, List, [], ◌∷◌, ◌++◌, Option, Some, None, refl, sym, ap, ◌∙◌, arith}
use Rattle.std.specs.List.{All, AllByRecursion}
use Rattle.std.proofs.lemmas.List.Elements.{All-append, All-cons, All-filter, All-head, All-push, All-tail, All-weaker}
use Rattle.gptp_model.specs.declared.item.Item.{Item}
use Rattle.gptp_model.specs.Item.{same_item}
use Rattle.gptp_model.specs.Pending.{Entry, pending_entry, times_of_item, put, put_if, without, without_first_entry, timer_time, same_times, set_due, IsNext, NothingBefore}
use Rattle.gptp_model.proofs.PendingLemmas.{same_itself, times-append}

-- ---- nothing before a time

pub nothing_before-put : (time due : ℕ) (i : Item) (es : List Entry) → time ≤ due → NothingBefore time es
    → NothingBefore time (put due i es)
nothing_before-put time due i es late none = All-push (λ (e : Entry). time ≤ e.time) es (pending_entry due i) none late

pub nothing_before-without : (time : ℕ) (i : Item) (es : List Entry) → NothingBefore time es
    → NothingBefore time (without i es)
nothing_before-without time i es none =
    All-filter (λ (e : Entry). not (same_item i e.item)) (λ (e : Entry). time ≤ e.time) es none

without_first-step : (time : ℕ) (i : Item) (e : Entry) (es : List Entry) → NothingBefore time (e ∷ es)
    → NothingBefore time (without_first_entry i es) → (t : Bool) → same_item i e.item ≡ t
    → NothingBefore time (without_first_entry i (e ∷ es))
without_first-step time i e es none ih true t = rw t (All-tail (λ (x : Entry). time ≤ x.time) e es none)
without_first-step time i e es none ih false t =
    rw t (All-cons (λ (x : Entry). time ≤ x.time) e (without_first_entry i es)
    (All-head (λ (x : Entry). time ≤ x.time) e es none) ih)

pub nothing_before-without_first : (time : ℕ) (i : Item) (es : List Entry) → NothingBefore time es
    → NothingBefore time (without_first_entry i es)
nothing_before-without_first time i [] none = none
nothing_before-without_first time i (e ∷ es) none =
    without_first-step time i e es none
    (nothing_before-without_first time i es (All-tail (λ (x : Entry). time ≤ x.time) e es none))
    (same_item i e.item) refl

-- a timer is due at this time or later, where it runs
abbrev pub IsNotBefore : ℕ → Option ℕ → Type 0
IsNotBefore time due = AllByRecursion (λ u. time ≤ u) (timer_time due)

put_if-step : (time : ℕ) (i : Item) (due : Option ℕ) (es : List Entry) → IsNotBefore time due → NothingBefore time es
    → NothingBefore time (put_if i due es)
put_if-step time i None es late none = none
put_if-step time i (Some u) es late none = nothing_before-put time u i es late.0 none

set_due-step : (time : ℕ) (i : Item) (due : Option ℕ) (es : List Entry) → IsNotBefore time due → NothingBefore time es
    → (t : Bool) → same_times (times_of_item i es) (timer_time due) ≡ t → NothingBefore time (set_due i due es)
set_due-step time i due es late none true t = rw t none
set_due-step time i due es late none false t =
    rw t (put_if-step time i due (without i es) late (nothing_before-without time i es none))

pub nothing_before-set_due : (time : ℕ) (i : Item) (due : Option ℕ) (es : List Entry) → IsNotBefore time due
    → NothingBefore time es → NothingBefore time (set_due i due es)
nothing_before-set_due time i due es late none =
    set_due-step time i due es late none (same_times (times_of_item i es) (timer_time due)) refl

-- ---- the next

-- nothing is before the next
pub nothing_before-next : (es : List Entry) (time : ℕ) (i : Item) → IsNext es time i → NothingBefore time es
nothing_before-next es time i next =
    let before : All (λ (e : Entry). time ≤ e.time) next.before =
    All-weaker (λ (e : Entry). time < e.time) (λ (e : Entry). time ≤ e.time)
    (λ e h. omega arith) next.before next.later in
    let here : time ≤ time = omega arith in
    rw next.is
    (All-append (λ (e : Entry). time ≤ e.time) next.before (pending_entry time i ∷ next.after) before
    (All-cons (λ (e : Entry). time ≤ e.time) (pending_entry time i) next.after here next.not_before))

times-all_step : (P : ℕ → Type 0) (i : Item) (e : Entry) (es : List Entry) → P e.time
    → AllByRecursion P (times_of_item i es)
    → (t : Bool) → same_item i e.item ≡ t → AllByRecursion P (times_of_item i (e ∷ es))
times-all_step P i e es here rest true t = rw t (here, rest)
times-all_step P i e es here rest false t = rw t rest

-- what holds of all times holds of those of an item
pub times-all : (P : ℕ → Type 0) (i : Item) (es : List Entry) → All (λ (e : Entry). P e.time) es
    → AllByRecursion P (times_of_item i es)
times-all P i [] all = tt
times-all P i (e ∷ es) all =
    times-all_step P i e es (All-head (λ (x : Entry). P x.time) e es all)
    (times-all P i es (All-tail (λ (x : Entry). P x.time) e es all)) (same_item i e.item) refl

-- the next is pending at its time, and before that only later
pub times-next : (es : List Entry) (time : ℕ) (i : Item) → IsNext es time i
    → (front : List ℕ) × (rest : List ℕ) × (times_of_item i es ≡ front ++ time ∷ rest)
    × AllByRecursion (λ u. time < u) front
times-next es time i next =
    let same = same_itself i in
    let here : times_of_item i (pending_entry time i ∷ next.after) ≡ time ∷ times_of_item i next.after = rw
    same refl in (
      times_of_item i next.before,
      times_of_item i next.after,
      ap (times_of_item i) next.is ∙ times-append i next.before (pending_entry time i ∷ next.after)
          ∙ ap (λ us. times_of_item i next.before ++ us) here,
      times-all (λ u. time < u) i next.before next.later,
    )

least_of : (t u : ℕ) (us rest : List ℕ) → AllByRecursion (λ v. t ≤ v) (us ++ u ∷ rest) → t ≤ u
least_of t u [] rest all = all.0
least_of t u (v ∷ us) rest all = least_of t u us rest all.1

first-step : (front rest : List ℕ) (time t : ℕ) (ts : List ℕ) → front ++ time ∷ rest ≡ t ∷ ts
    → AllByRecursion (λ u. time < u) front → AllByRecursion (λ u. t ≤ u) ts → t ≡ time
first-step [] rest time t ts is later least = cc
first-step (f ∷ fs) rest time t ts is later least =
    let head : f ≡ t = cc in
    let tail : fs ++ time ∷ rest ≡ ts = cc in
    let behind : AllByRecursion (λ u. t ≤ u) (fs ++ time ∷ rest) = rw tail least in
    let here = later.0 in
    let low = least_of t time fs rest behind in absurd (omega arith)

-- where the times of an item don't fall, the next is the first of them
pub next-first : (es : List Entry) (time : ℕ) (i : Item) → IsNext es time i → (t : ℕ) (ts : List ℕ)
    → times_of_item i es ≡ t ∷ ts → AllByRecursion (λ u. t ≤ u) ts → t ≡ time
next-first es time i next t ts is least =
    let found = times-next es time i next in
    first-step found.0 found.1 time t ts (sym found.2 ∙ is) found.3 least

some-step : (front rest : List ℕ) (time : ℕ) → front ++ time ∷ rest ≡ [] → ⊥
some-step [] rest time is = absurd (grind (arith, is))
some-step (f ∷ fs) rest time is = absurd (grind (arith, is))

-- a timer that is next is due then
pub next-due : (es : List Entry) (time : ℕ) (i : Item) (due : Option ℕ) → IsNext es time i
    → times_of_item i es ≡ timer_time due
    → due ≡ Some time
next-due es time i None next is =
    let found = times-next es time i next in absurd (some-step found.0 found.1 time (sym found.2 ∙ is))
next-due es time i (Some u) next is = ap Some (next-first es time i next u [] is tt)
