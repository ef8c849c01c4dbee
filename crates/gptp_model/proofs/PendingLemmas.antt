-- What is pending of an item, as entries are put and taken.
use Rattle.std.proofs.Common.{◌≡◌, ℕ, ◌≤◌, Bool, true, false, if◌then◌else◌, List, [], ◌∷◌, ◌++◌, drop, length, Option, Some, None, refl, sym, ap, ◌∙◌, arith}
use lib.Dec.{eqb}
use Rattle.std.specs.Option.{option_eq}
use Rattle.std.proofs.lemmas.Bool.Decides.{nat_tests}
use Rattle.std.proofs.lemmas.List.{append-nil}
use Rattle.gptp_model.specs.declared.item.Item.{Item}
use Rattle.gptp_model.specs.Item.{same_item}
use Rattle.gptp_model.specs.Pending.{Entry, pending_entry, times_of_item, put, put_if, without, without_first_entry, timer_time, same_times, set_due, KeepsArrivalRoom, PendingState}

-- ---- items

pub same_itself : (i : Item) → same_item i i ≡ true
same_itself i = grind (arith, nat_tests)

-- what is the same as one of two different items is different from the other
pub other_item : (i j k : Item) → same_item j i ≡ false → same_item i k ≡ true → same_item j k ≡ false
other_item i j k differ same = grind (arith, nat_tests)

-- ---- the times of an item

pub times-append : (i : Item) (es fs : List Entry)
    → times_of_item i (es ++ fs) ≡ times_of_item i es ++ times_of_item i fs
times-append i [] fs = refl
times-append i (e ∷ es) fs = by_test (same_item i e.item) refl (times-append i es fs)
  where
    by_test : (t : Bool) → same_item i e.item ≡ t
        → times_of_item i (es ++ fs) ≡ times_of_item i es ++ times_of_item i fs
        → times_of_item i ((e ∷ es) ++ fs) ≡ times_of_item i (e ∷ es) ++ times_of_item i fs
    by_test true t ih = rw t (ap (λ ts. e.time ∷ ts) ih)
    by_test false t ih = rw t ih

pub times-put_same : (i : Item) (time : ℕ) (es : List Entry)
    → times_of_item i (put time i es) ≡ times_of_item i es ++ time ∷ []
times-put_same i time es =
    let same = same_itself i in let one : times_of_item i (pending_entry time i ∷ []) ≡ time ∷ [] = rw same refl in
    times-append i es (pending_entry time i ∷ []) ∙ ap (λ ts. times_of_item i es ++ ts) one

pub times-put_other : (i j : Item) (time : ℕ) (es : List Entry) → same_item j i ≡ false
    → times_of_item j (put time i es) ≡ times_of_item j es
times-put_other i j time es differ =
    let none : times_of_item j (pending_entry time i ∷ []) ≡ [] = rw differ refl in
    times-append j es (pending_entry time i ∷ []) ∙ ap (λ ts. times_of_item j es ++ ts) none
    ∙ append-nil (times_of_item j es)

pub times-without_same : (i : Item) (es : List Entry) → times_of_item i (without i es) ≡ []
times-without_same i [] = refl
times-without_same i (e ∷ es) = by_test (same_item i e.item) refl (times-without_same i es)
  where
    by_test : (t : Bool) → same_item i e.item ≡ t → times_of_item i (without i es) ≡ []
        → times_of_item i (without i (e ∷ es)) ≡ []
    by_test true t ih = rw t ih
    by_test false t ih = rw t (rw t ih)

pub times-without_other : (i j : Item) (es : List Entry) → same_item j i ≡ false
    → times_of_item j (without i es) ≡ times_of_item j es
times-without_other i j [] differ = refl
times-without_other i j (e ∷ es) differ = by_test (same_item i e.item) refl (times-without_other i j es differ)
  where
    by_test : (t : Bool) → same_item i e.item ≡ t → times_of_item j (without i es) ≡ times_of_item j es
        → times_of_item j (without i (e ∷ es)) ≡ times_of_item j (e ∷ es)
    by_test true t ih = let other = other_item i j e.item differ t in rw (t, other) ih
    by_test false t ih = let h : times_of_item j (e ∷ without i es) ≡ times_of_item j (e ∷ es) =
        ap (λ ts. if same_item j e.item then e.time ∷ ts else ts) ih in rw t h

pub times-without_first_same : (i : Item) (es : List Entry)
    → times_of_item i (without_first_entry i es) ≡ drop 1 (times_of_item i es)
times-without_first_same i [] = refl
times-without_first_same i (e ∷ es) = by_test (same_item i e.item) refl (times-without_first_same i es)
  where
    by_test : (t : Bool) → same_item i e.item ≡ t
        → times_of_item i (without_first_entry i es) ≡ drop 1 (times_of_item i es)
        → times_of_item i (without_first_entry i (e ∷ es)) ≡ drop 1 (times_of_item i (e ∷ es))
    by_test true t ih = rw t refl
    by_test false t ih = rw t (rw t ih)

pub times-without_first_other : (i j : Item) (es : List Entry) → same_item j i ≡ false
    → times_of_item j (without_first_entry i es) ≡ times_of_item j es
times-without_first_other i j [] differ = refl
times-without_first_other i j (e ∷ es) differ = by_test (same_item i e.item) refl
    (times-without_first_other i j es differ)
  where
    by_test : (t : Bool) → same_item i e.item ≡ t → times_of_item j (without_first_entry i es) ≡ times_of_item j es
        → times_of_item j (without_first_entry i (e ∷ es)) ≡ times_of_item j (e ∷ es)
    by_test true t ih = let other = other_item i j e.item differ t in rw (t, other) refl
    by_test false t ih = let h : times_of_item j (e ∷ without_first_entry i es) ≡ times_of_item j (e ∷ es) =
        ap (λ ts. if same_item j e.item then e.time ∷ ts else ts) ih in rw t h

-- ---- entries cancelled

is_empty : {X : Type 0} (xs : List X) → length xs ≤ 0 → xs ≡ []
is_empty [] none = refl
is_empty (x ∷ xs) none = absurd (omega arith)

pub without-none : (i : Item) (es : List Entry) → times_of_item i es ≡ [] → without i es ≡ es
without-none i [] none = refl
without-none i (e ∷ es) none = by_test (same_item i e.item) refl (without-none i es)
  where
    by_test : (t : Bool) → same_item i e.item ≡ t → (times_of_item i es ≡ [] → without i es ≡ es)
        → without i (e ∷ es) ≡ e ∷ es
    by_test true t ih = let some : e.time ∷ times_of_item i es ≡ [] = rw t at none in absurd (grind (arith, some))
    by_test false t ih = let rest : times_of_item i es ≡ [] = rw t at none in rw t (ap (λ xs. e ∷ xs) (ih rest))

pub without_first-none : (i : Item) (es : List Entry) → times_of_item i es ≡ [] → without_first_entry i es ≡ es
without_first-none i [] none = refl
without_first-none i (e ∷ es) none = by_test (same_item i e.item) refl (without_first-none i es)
  where
    by_test : (t : Bool) → same_item i e.item ≡ t → (times_of_item i es ≡ [] → without_first_entry i es ≡ es)
        → without_first_entry i (e ∷ es) ≡ e ∷ es
    by_test true t ih = let some : e.time ∷ times_of_item i es ≡ [] = rw t at none in absurd (grind (arith, some))
    by_test false t ih = let rest : times_of_item i es ≡ [] = rw t at none in rw t (ap (λ xs. e ∷ xs) (ih rest))

-- where an item is pending at most once, to cancel all is to cancel the first
pub without-once : (i : Item) (es : List Entry) → length (times_of_item i es) ≤ 1
    → without i es ≡ without_first_entry i es
without-once i [] once = refl
without-once i (e ∷ es) once = by_test (same_item i e.item) refl (without-once i es)
  where
    by_test : (t : Bool) → same_item i e.item ≡ t
        → (length (times_of_item i es) ≤ 1 → without i es ≡ without_first_entry i es)
        → without i (e ∷ es) ≡ without_first_entry i (e ∷ es)
    by_test true t ih =
        let least : length (e.time ∷ times_of_item i es) ≤ 1 = rw t at once in
        let none : times_of_item i es ≡ [] = is_empty (times_of_item i es) (omega arith)
        in rw t (without-none i es none)
    by_test false t ih = let rest : length (times_of_item i es) ≤ 1 = rw t at once in rw t (ap (λ xs. e ∷ xs) (ih rest))

pub without-first : (i : Item) (es : List Entry) → without i (without_first_entry i es) ≡ without i es
without-first i [] = refl
without-first i (e ∷ es) = by_test (same_item i e.item) refl (without-first i es)
  where
    by_test : (t : Bool) → same_item i e.item ≡ t → without i (without_first_entry i es) ≡ without i es
        → without i (without_first_entry i (e ∷ es)) ≡ without i (e ∷ es)
    by_test true t ih = rw t refl
    by_test false t ih = rw t (rw t (ap (λ xs. e ∷ xs) ih))

-- ---- a timer's time

pub same_times-refl : (ts : List ℕ) → same_times ts ts ≡ true
same_times-refl [] = refl
same_times-refl (t ∷ ts) = grind (arith, nat_tests, same_times-refl ts)

pub same_times-is : (ts us : List ℕ) → same_times ts us ≡ true → ts ≡ us
same_times-is [] [] same = refl
same_times-is [] (u ∷ us) same = absurd (grind (arith, same))
same_times-is (t ∷ ts) [] same = absurd (grind (arith, same))
same_times-is (t ∷ ts) (u ∷ us) same =
    let head : t ≡ u = grind (arith, nat_tests) in
    let tail : same_times ts us ≡ true = grind (arith, nat_tests) in
    ap (λ x. x ∷ ts) head ∙ ap (λ xs. u ∷ xs) (same_times-is ts us tail)

-- where a timer is pending at its time, its entry stays
pub set_due-kept : (i : Item) (due : Option ℕ) (es : List Entry) → times_of_item i es ≡ timer_time due
    → set_due i due es ≡ es
set_due-kept i due es is =
    let same : same_times (times_of_item i es) (timer_time due) ≡ true = rw is (same_times-refl (timer_time due))
    in rw same refl

set_due-moved_step : (i : Item) (due : Option ℕ) (es : List Entry) → (times_of_item i es ≡ timer_time due → ⊥)
    → (t : Bool)
    → same_times (times_of_item i es) (timer_time due) ≡ t → set_due i due es ≡ put_if i due (without i es)
set_due-moved_step i due es differ true t = absurd (differ (same_times-is (times_of_item i es) (timer_time due) t))
set_due-moved_step i due es differ false t = rw t refl

-- otherwise a new one is put
pub set_due-moved : (i : Item) (due : Option ℕ) (es : List Entry) → (times_of_item i es ≡ timer_time due → ⊥)
    → set_due i due es ≡ put_if i due (without i es)
set_due-moved i due es differ = set_due-moved_step i due es differ
    (same_times (times_of_item i es) (timer_time due)) refl

after_one : (ts : List ℕ) → length ts ≤ 1 → drop 1 ts ≡ []
after_one [] once = refl
after_one (t ∷ ts) once = is_empty ts (omega arith)

-- an item that is pending at most once isn't any more where the first is cancelled
pub times-stopped : (i : Item) (es : List Entry) → length (times_of_item i es) ≤ 1
    → times_of_item i (without_first_entry i es) ≡ []
times-stopped i es once = times-without_first_same i es ∙ after_one (times_of_item i es) once

pub set_due-replaced : (i : Item) (due : Option ℕ) (es : List Entry) → (times_of_item i es ≡ timer_time due → ⊥)
    → length (times_of_item i es) ≤ 1 → set_due i due es ≡ put_if i due (without_first_entry i es)
set_due-replaced i due es differ once = set_due-moved i due es differ ∙ ap (put_if i due) (without-once i es once)

listed-eq : (a b : Option ℕ) → timer_time a ≡ timer_time b → option_eq eqb a b ≡ true
listed-eq None None same = refl
listed-eq None (Some t) same = absurd (grind (arith, same))
listed-eq (Some t) None same = absurd (grind (arith, same))
listed-eq (Some t) (Some u) same = let e : t ≡ u = cc in grind (arith, nat_tests)

-- what is due at one time isn't due at another
pub not_listed : (a b : Option ℕ) (ts : List ℕ) → ts ≡ timer_time a → option_eq eqb a b ≡ false → ts ≡ timer_time b → ⊥
not_listed a b ts is differ also =
    let same : true ≡ false = sym (listed-eq a b (sym is ∙ also)) ∙ differ in absurd (grind (arith, same))

times-put_if_same : (i : Item) (due : Option ℕ) (es : List Entry) → times_of_item i es ≡ []
    → times_of_item i (put_if i due es) ≡ timer_time due
times-put_if_same i None es none = none
times-put_if_same i (Some time) es none = times-put_same i time es ∙ ap (λ ts. ts ++ time ∷ []) none

times-put_if_other : (i j : Item) (due : Option ℕ) (es : List Entry) → same_item j i ≡ false
    → times_of_item j (put_if i due es) ≡ times_of_item j es
times-put_if_other i j None es differ = refl
times-put_if_other i j (Some time) es differ = times-put_other i j time es differ

set_due_same-step : (i : Item) (due : Option ℕ) (es : List Entry) (t : Bool)
    → same_times (times_of_item i es) (timer_time due) ≡ t → times_of_item i (set_due i due es) ≡ timer_time due
set_due_same-step i due es true t = rw t (same_times-is (times_of_item i es) (timer_time due) t)
set_due_same-step i due es false t = rw t (times-put_if_same i due (without i es) (times-without_same i es))

-- A timer is pending at its time, whatever was pending of it.
pub times-set_due_same : (i : Item) (due : Option ℕ) (es : List Entry)
    → times_of_item i (set_due i due es) ≡ timer_time due
times-set_due_same i due es = set_due_same-step i due es (same_times (times_of_item i es) (timer_time due)) refl

set_due_other-step : (i j : Item) (due : Option ℕ) (es : List Entry) → same_item j i ≡ false → (t : Bool)
    → same_times (times_of_item i es) (timer_time due) ≡ t → times_of_item j (set_due i due es) ≡ times_of_item j es
set_due_other-step i j due es differ true t = rw t refl
set_due_other-step i j due es differ false t =
    rw t (times-put_if_other i j due (without i es) differ ∙ times-without_other i j es differ)

-- all others are pending as before
pub times-set_due_other : (i j : Item) (due : Option ℕ) (es : List Entry) → same_item j i ≡ false
    → times_of_item j (set_due i due es) ≡ times_of_item j es
times-set_due_other i j due es differ =
    set_due_other-step i j due es differ (same_times (times_of_item i es) (timer_time due)) refl

-- ---- states

abbrev made : ℕ → ℕ → List Entry → ℕ → List ℕ → PendingState
made systems links entries room rooms =
    record { systems = systems; links = links; entries = entries; room = room; rooms = rooms }

pub same_state : (p q : PendingState) → p.systems ≡ q.systems → p.links ≡ q.links → p.entries ≡ q.entries
    → p.room ≡ q.room → p.rooms ≡ q.rooms → p ≡ q
same_state p q systems links entries room rooms =
    ap (λ x. made x p.links p.entries p.room p.rooms) systems
    ∙ ap (λ x. made q.systems x p.entries p.room p.rooms) links
    ∙ ap (λ x. made q.systems q.links x p.room p.rooms) entries
    ∙ ap (λ x. made q.systems q.links q.entries x p.rooms) room
    ∙ ap (λ x. made q.systems q.links q.entries q.room x) rooms

-- ---- all arrivals of a direction cancelled, one after another

-- some entries of an item are cancelled, the first of them
pub record Cancels (item : Item) (old new : PendingState) : Type 0 where
  pub systems : new.systems ≡ old.systems
  pub links : new.links ≡ old.links
  pub entries : without item new.entries ≡ without item old.entries
  pub room : old.room ≤ new.room
  pub arrivals : KeepsArrivalRoom old new
