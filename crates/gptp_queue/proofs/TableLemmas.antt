-- What the cells of a table hold, as a list by rising number.
use Rattle.std.proofs.Common.{◌≡◌, ◌≢◌, ℕ, ◌+◌, ◌-◌, ◌^◌, ◌<◌, ◌≤◌, Bool, true, false, List, [], ◌∷◌, ◌++◌, length, get_or, set, replicate, take, refl, sym, ap, subst, ◌∙◌, arith, inl, inr, filter}
use Rattle.std.proofs.Common.{Option, Some, None, ◌==◌, ◌&&◌, ◌||◌, not, nat_lt, if◌then◌else◌}
use Prim.Native.Nat.{zero, suc}
use Rattle.std.proofs.lemmas.Bool.{cases_lt}
use Rattle.std.proofs.lemmas.Bool.Decides.{nat_tests}
use Rattle.std.proofs.lemmas.List.{get_or_default, get_or_past, length-append, length-replicate, take_all}
use Rattle.std.specs.List.{AllByRecursion, find, list_any}
use Rattle.gptp_queue.specs.Waiting.{entry, is_at, is_current, time_at, without_place, PlacesDiffer, RiseFrom}
use Rattle.gptp_queue.specs.Table.{entries_from, free_cell, insert, number_at, AreNumbered, NO_NUMBER}
use Rattle.gptp_queue.specs.Entry.{Entry}
use Rattle.gptp_queue.specs.declared.table.Cell.{Cell}
use Rattle.gptp_queue.proofs.EntryLemmas.{below-next, rise-filter}

-- ---- one among others

all-insert : (P : Entry → Type 0) (e : Entry) (es : List Entry) → P e → AllByRecursion P es
    → AllByRecursion P (insert e es)
all-insert P e [] here all = (here, tt)
all-insert P e (x ∷ es) here all = by (all-insert P e es here all.1) (nat_lt e.number x.number) refl where
  by : AllByRecursion P (insert e es) → (t : Bool) → nat_lt e.number x.number ≡ t
      → AllByRecursion P (insert e (x ∷ es))
  by ih true h = rw h (here, all)
  by ih false h = rw h (all.0, ih)

any-insert : (p : Entry → Bool) (e : Entry) (es : List Entry) → list_any p (insert e es) ≡ (p e || list_any p es)
any-insert p e [] = refl
any-insert p e (x ∷ es) = by (any-insert p e es) (nat_lt e.number x.number) refl where
  swapped : (a b c : Bool) → (a || (b || c)) ≡ (b || (a || c))
  swapped true true c = refl
  swapped true false c = refl
  swapped false b c = refl

  by : list_any p (insert e es) ≡ (p e || list_any p es) → (t : Bool) → nat_lt e.number x.number ≡ t
      → list_any p (insert e (x ∷ es)) ≡ (p e || (p x || list_any p es))
  by ih true h = rw h refl
  by ih false h = rw (h, ih) (swapped (p x) (p e) (list_any p es))

any-none : (p : Entry → Bool) (es : List Entry) → AllByRecursion (λ e. p e ≡ false) es → list_any p es ≡ false
any-none p [] none = refl
any-none p (e ∷ es) none = rw none.0 (any-none p es none.1)

find-insert_other : (p : Entry → Bool) (e : Entry) (es : List Entry) → p e ≡ false → find p (insert e es) ≡ find p es
find-insert_other p e [] out = rw out refl
find-insert_other p e (x ∷ es) out = by (find-insert_other p e es out) (nat_lt e.number x.number) refl where
  by : find p (insert e es) ≡ find p es → (t : Bool) → nat_lt e.number x.number ≡ t
      → find p (insert e (x ∷ es)) ≡ find p (x ∷ es)
  by ih true h = rw (h, out) refl
  by ih false h = rw (h, ih) refl

find-insert_only : (p : Entry → Bool) (e : Entry) (es : List Entry) → p e ≡ true
    → AllByRecursion (λ x. p x ≡ false) es → find p (insert e es) ≡ Some e
find-insert_only p e [] here none = rw here refl
find-insert_only p e (x ∷ es) here none =
    by (find-insert_only p e es here none.1) (nat_lt e.number x.number) refl where
      by : find p (insert e es) ≡ Some e → (t : Bool) → nat_lt e.number x.number ≡ t
          → find p (insert e (x ∷ es)) ≡ Some e
      by ih true h = rw (h, here) refl
      by ih false h = rw (h, none.0, ih) refl

find-none : (p : Entry → Bool) (es : List Entry) → AllByRecursion (λ x. p x ≡ false) es → find p es ≡ None
find-none p [] none = refl
find-none p (e ∷ es) none = rw none.0 (find-none p es none.1)

filter-all : (p : Entry → Bool) (es : List Entry) → AllByRecursion (λ x. p x ≡ true) es → filter p es ≡ es
filter-all p [] all = refl
filter-all p (e ∷ es) all = rw all.0 (ap (λ (xs : List Entry). e ∷ xs) (filter-all p es all.1))

filter-insert_out : (p : Entry → Bool) (e : Entry) (es : List Entry) → p e ≡ false
    → filter p (insert e es) ≡ filter p es
filter-insert_out p e [] out = rw out refl
filter-insert_out p e (x ∷ es) out = by (filter-insert_out p e es out) (nat_lt e.number x.number) refl where
  by : filter p (insert e es) ≡ filter p es → (t : Bool) → nat_lt e.number x.number ≡ t
      → filter p (insert e (x ∷ es)) ≡ filter p (x ∷ es)
  by ih true h = rw (h, out) refl
  by ih false h = rw (h, ih) refl

-- an entry before all others stands in front
insert-front : (e : Entry) (low : ℕ) (es : List Entry) (next : ℕ) → RiseFrom low es next → e.number < low
    → insert e es ≡ e ∷ es
insert-front e low [] next rises h = refl
insert-front e low (x ∷ es) next rises h =
    let from : low ≤ x.number = rises.0 in let less : nat_lt e.number x.number ≡ true = grind (arith, nat_tests) in
    rw less refl

filter-insert_kept : (p : Entry → Bool) (e : Entry) (low : ℕ) (es : List Entry) (next : ℕ) → p e ≡ true
    → RiseFrom low es next → filter p (insert e es) ≡ insert e (filter p es)
filter-insert_kept p e low [] next kept rises = rw kept refl
filter-insert_kept p e low (x ∷ es) next kept rises =
    by (filter-insert_kept p e (x.number + 1) es next kept rises.1) (nat_lt e.number x.number) refl (p x) refl where
      by : filter p (insert e es) ≡ insert e (filter p es) → (t : Bool) → nat_lt e.number x.number ≡ t
          → (k : Bool) → p x ≡ k → filter p (insert e (x ∷ es)) ≡ insert e (filter p (x ∷ es))
      by ih true h true k = rw (h, kept, k, h) refl
      by ih true h false k =
          let first = insert-front e (x.number + 1) (filter p es) next
          (rise-filter p (x.number + 1) es next rises.1) (grind (arith, nat_tests)) in
          rw (h, kept, k, first) refl
      by ih false h true k = rw (h, k, h, ih) refl
      by ih false h false k = rw (h, k, ih) refl

insert-last : (f : Entry) (es : List Entry) → AllByRecursion (λ x. x.number < f.number) es
    → insert f es ≡ es ++ f ∷ []
insert-last f [] all = refl
insert-last f (x ∷ es) all =
    let first : x.number < f.number = all.0 in
    let less : nat_lt f.number x.number ≡ false = grind (arith, nat_tests) in
    rw less (ap (λ (xs : List Entry). x ∷ xs) (insert-last f es all.1))

insert-push : (e f : Entry) (es : List Entry) → e.number < f.number → insert e (es ++ f ∷ []) ≡ insert e es ++ f ∷ []
insert-push e f [] less = let test : nat_lt e.number f.number ≡ true = grind (arith, nat_tests) in rw test refl
insert-push e f (x ∷ es) less = by (insert-push e f es less) (nat_lt e.number x.number) refl where
  by : insert e (es ++ f ∷ []) ≡ insert e es ++ f ∷ [] → (t : Bool) → nat_lt e.number x.number ≡ t
      → insert e (x ∷ (es ++ f ∷ [])) ≡ insert e (x ∷ es) ++ f ∷ []
  by ih true h = rw h refl
  by ih false h = rw (h, ih) refl

rise-insert : (e : Entry) (low : ℕ) (es : List Entry) (next : ℕ) → low ≤ e.number → e.number < next
    → RiseFrom low es next → AllByRecursion (λ x. x.number ≢ e.number) es → RiseFrom low (insert e es) next
rise-insert e low [] next from below rises others = (from, omega arith)
rise-insert e low (x ∷ es) next from below rises others =
    by (λ less. rise-insert e (x.number + 1) es next less below rises.1 others.1) (nat_lt e.number x.number) refl where
      by : (x.number + 1 ≤ e.number → RiseFrom (x.number + 1) (insert e es) next)
          → (t : Bool) → nat_lt e.number x.number ≡ t → RiseFrom low (insert e (x ∷ es)) next
      by ih true h = let less : e.number + 1 ≤ x.number = grind (arith, nat_tests) in rw h (from, (less, rises.1))
      by ih false h =
          let differs : x.number ≢ e.number = others.0 in
          let less : x.number + 1 ≤ e.number = grind (arith, nat_tests, differs) in
          rw h (rises.0, ih less)

-- ---- what cells hold

abbrev pub cell_at : List Cell → ℕ → Cell
cell_at cells i = get_or cells i free_cell

entries-free : (k : ℕ) (c : Cell) (cs : List Cell) → (c.number == NO_NUMBER) ≡ true
    → entries_from k (c ∷ cs) ≡ entries_from (k + 1) cs
unfolding entries_from
entries-free k c cs h = rw h refl

entries-cell : (k : ℕ) (c : Cell) (cs : List Cell) → (c.number == NO_NUMBER) ≡ false
    → entries_from k (c ∷ cs) ≡ insert (entry c.time c.number k) (entries_from (k + 1) cs)
unfolding entries_from
entries-cell k c cs h = rw h refl

entries-none : (k : ℕ) → entries_from k [] ≡ []
unfolding entries_from
entries-none k = refl

all-entries : (P : Entry → Type 0) (k : ℕ) (cells : List Cell)
    → ((i : ℕ) → number_at cells i ≢ NO_NUMBER → P (entry (cell_at cells i).time (number_at cells i) (k + i)))
    → AllByRecursion P (entries_from k cells)
all-entries P k [] each = rw (entries-none k) tt
all-entries P k (c ∷ cs) each = by (all-entries P (k + 1) cs behind) (c.number == NO_NUMBER) refl where
  behind : (i : ℕ) → number_at cs i ≢ NO_NUMBER → P (entry (cell_at cs i).time (number_at cs i) (k + 1 + i))
  behind i some =
      let at : k + suc i ≡ k + 1 + i = omega arith in
      rw at at (each (suc i) some)

  by : AllByRecursion P (entries_from (k + 1) cs) → (t : Bool) → (c.number == NO_NUMBER) ≡ t
      → AllByRecursion P (entries_from k (c ∷ cs))
  by ih true h = rw (entries-free k c cs h) ih
  by ih false h =
      let at : k + 0 ≡ k = omega arith in
      let here : P (entry c.time c.number k) = rw at at (each 0 (grind (arith, nat_tests))) in
      rw (entries-cell k c cs h) (all-insert P (entry c.time c.number k) _ here ih)

-- all stand at places from the first on
behind : (P : ℕ → Type 0) (k : ℕ) (cells : List Cell) → ((place : ℕ) → k ≤ place → P place)
    → AllByRecursion (λ e. P e.place) (entries_from k cells)
behind P k cells each = all-entries (λ e. P e.place) k cells (λ i some. each (k + i) (omega arith))

numbered-tail : (next : ℕ) (c : Cell) (cs : List Cell) → AreNumbered next (c ∷ cs) → AreNumbered next cs
numbered-tail next c cs are = record {
  fits = are.fits;
  below = λ i some. are.below (suc i) some;
  differ = λ i j same some. let e = are.differ (suc i) (suc j) same some in omega (arith, e);
}

pub rises-from : (next k : ℕ) (cells : List Cell) → AreNumbered next cells → RiseFrom 0 (entries_from k cells) next
rises-from next k [] are = rw (entries-none k) (omega arith)
rises-from next k (c ∷ cs) are =
    by (rises-from next (k + 1) cs (numbered-tail next c cs are)) (c.number == NO_NUMBER) refl where
      by : RiseFrom 0 (entries_from (k + 1) cs) next → (t : Bool) → (c.number == NO_NUMBER) ≡ t
          → RiseFrom 0 (entries_from k (c ∷ cs)) next
      by ih true h = rw (entries-free k c cs h) ih
      by ih false h =
          let some : c.number ≢ NO_NUMBER = λ is. grind (arith, nat_tests) in
          rw (entries-cell k c cs h)
          (rise-insert (entry c.time c.number k) 0 (entries_from (k + 1) cs) next (omega arith) (are.below 0 some) ih
          (all-entries (λ x. x.number ≢ c.number) (k + 1) cs
          (λ i live same. let e = are.differ 0 (suc i) (sym same) some in absurd (omega (arith, e)))))

-- ---- a place

-- no entry behind a place stands there
elsewhere : (k : ℕ) (cells : List Cell) (place : ℕ) → place < k
    → AllByRecursion (λ e. is_at place e ≡ false) (entries_from k cells)
elsewhere k cells place h =
    all-entries (λ e. is_at place e ≡ false) k cells (λ i some. grind (arith, nat_tests, h))

kept_elsewhere : (k : ℕ) (cells : List Cell) (place : ℕ) → place < k
    → AllByRecursion (λ e. not (is_at place e) ≡ true) (entries_from k cells)
kept_elsewhere k cells place h =
    all-entries (λ e. not (is_at place e) ≡ true) k cells
    (λ i some. let other : (k + i == place) ≡ false = grind (arith, nat_tests, h) in rw other refl)

-- what stands at a place
module _ (d : Entry) (given : d.number ≢ NO_NUMBER) where
  test : Entry → Bool
  test e = (e.number == d.number) && (e.place == d.place)

  before : (k : ℕ) (cells : List Cell) → d.place < k → is_current (entries_from k cells) d ≡ false
  before k cells h =
      any-none (λ e. (e.number == d.number) && (e.place == d.place)) (entries_from k cells)
      (all-entries (λ e. ((e.number == d.number) && (e.place == d.place)) ≡ false) k cells
      (λ i some. let other : (k + i == d.place) ≡ false = grind (arith, nat_tests, h) in
      rw other (never (number_at cells i == d.number)))) where
        never : (b : Bool) → (b && false) ≡ false
        never true = refl
        never false = refl

  pub is_current-from : (k : ℕ) (cells : List Cell) (i : ℕ) → d.place ≡ k + i
      → is_current (entries_from k cells) d ≡ (number_at cells i == d.number)
  is_current-from k [] i at =
      let other : (NO_NUMBER == d.number) ≡ false = grind (arith, nat_tests) in rw (entries-none k, other) refl
  is_current-from k (c ∷ cs) zero at =
      by (before (k + 1) cs (omega arith)) (c.number == NO_NUMBER) refl where
        by : is_current (entries_from (k + 1) cs) d ≡ false → (t : Bool) → (c.number == NO_NUMBER) ≡ t
            → is_current (entries_from k (c ∷ cs)) d ≡ (c.number == d.number)
        by none true h =
            let other : (c.number == d.number) ≡ false = grind (arith, nat_tests, given) in
            rw (entries-free k c cs h, none, other) refl
        by none false h =
            let here : (k == d.place) ≡ true = grind (arith, nat_tests) in
            rw (entries-cell k c cs h)
            (any-insert (λ e. (e.number == d.number) && (e.place == d.place)) (entry c.time c.number k)
            (entries_from (k + 1) cs)
            ∙ rw (here, none) (only (c.number == d.number))) where
              only : (b : Bool) → ((b && true) || false) ≡ b
              only true = refl
              only false = refl
  is_current-from k (c ∷ cs) (suc i) at =
      by (is_current-from (k + 1) cs i (omega arith)) (c.number == NO_NUMBER) refl where
        by : is_current (entries_from (k + 1) cs) d ≡ (number_at cs i == d.number) → (t : Bool)
            → (c.number == NO_NUMBER) ≡ t → is_current (entries_from k (c ∷ cs)) d ≡ (number_at cs i == d.number)
        by ih true h = rw (entries-free k c cs h) ih
        by ih false h =
            let other : (k == d.place) ≡ false = grind (arith, nat_tests) in
            rw (entries-cell k c cs h)
            (any-insert (λ e. (e.number == d.number) && (e.place == d.place)) (entry c.time c.number k)
            (entries_from (k + 1) cs)
            ∙ rw other (never (c.number == d.number) ∙ ih)) where
              never : (b : Bool) → ((b && false) || is_current (entries_from (k + 1) cs) d)
                  ≡ is_current (entries_from (k + 1) cs) d
              never true = refl
              never false = refl

-- when something is due at a place
abbrev pub time_of : Cell → Option ℕ
time_of c = if c.number == NO_NUMBER then None else Some c.time

abbrev time_in : Entry → ℕ
time_in e = e.time

pub time-from : (k : ℕ) (cells : List Cell) (i : ℕ)
    → time_at (entries_from k cells) (k + i) ≡ time_of (cell_at cells i)
time-from k [] i = rw (entries-none k) refl
time-from k (c ∷ cs) zero =
    by (elsewhere (k + 1) cs k (omega arith)) (c.number == NO_NUMBER) refl where
      by : AllByRecursion (λ e. is_at k e ≡ false) (entries_from (k + 1) cs) → (t : Bool)
          → (c.number == NO_NUMBER) ≡ t → time_at (entries_from k (c ∷ cs)) (k + 0) ≡ time_of c
      by out true h =
          let at : k + 0 ≡ k = omega arith in
          rw (entries-free k c cs h, h, at, find-none (is_at k) _ out) refl
      by out false h =
          let at : k + 0 ≡ k = omega arith in
          let here : (k == k) ≡ true = grind (arith, nat_tests) in
          let found = find-insert_only (is_at k) (entry c.time c.number k) (entries_from (k + 1) cs) here out in
          rw (entries-cell k c cs h, h, at, found) refl
time-from k (c ∷ cs) (suc i) = by (time-from (k + 1) cs i) (c.number == NO_NUMBER) refl where
  by : time_at (entries_from (k + 1) cs) (k + 1 + i) ≡ time_of (cell_at cs i) → (t : Bool)
      → (c.number == NO_NUMBER) ≡ t → time_at (entries_from k (c ∷ cs)) (k + suc i) ≡ time_of (cell_at cs i)
  by ih true h =
      let at : k + suc i ≡ k + 1 + i = omega arith in rw (entries-free k c cs h, at) ih
  by ih false h =
      let at : k + suc i ≡ k + 1 + i = omega arith in
      let other : (k == k + 1 + i) ≡ false = grind (arith, nat_tests) in
      let out = find-insert_other (is_at (k + 1 + i)) (entry c.time c.number k) (entries_from (k + 1) cs) other in
      rw (entries-cell k c cs h, at, out) ih

-- ---- a place is cleared, or something is put there

-- without what stands at the first place
head-out : (k : ℕ) (c : Cell) (cs : List Cell) → without_place k (entries_from k (c ∷ cs)) ≡ entries_from (k + 1) cs
head-out k c cs = by (kept_elsewhere (k + 1) cs k (omega arith)) (c.number == NO_NUMBER) refl where
  by : AllByRecursion (λ e. not (is_at k e) ≡ true) (entries_from (k + 1) cs) → (t : Bool)
      → (c.number == NO_NUMBER) ≡ t → without_place k (entries_from k (c ∷ cs)) ≡ entries_from (k + 1) cs
  by all true h = rw (entries-free k c cs h) (filter-all (λ e. not (is_at k e)) _ all)
  by all false h =
      let here : not (k == k) ≡ false = grind (arith, nat_tests) in
      rw (
        entries-cell k c cs h,
        filter-insert_out (λ e. not (is_at k e)) (entry c.time c.number k)
            (entries_from (k + 1) cs) here,
      ) (filter-all (λ e. not (is_at k e)) _ all)

-- without what stands at another place
tail-out : (next k i : ℕ) (c : Cell) (cs : List Cell) (h : (c.number == NO_NUMBER) ≡ false) → AreNumbered next cs
    → without_place (k + 1 + i) (insert (entry c.time c.number k) (entries_from (k + 1) cs))
    ≡ insert (entry c.time c.number k) (without_place (k + 1 + i) (entries_from (k + 1) cs))
tail-out next k i c cs h are =
    let kept : not (k == k + 1 + i) ≡ true = grind (arith, nat_tests) in
    filter-insert_kept (λ e. not (is_at (k + 1 + i) e)) (entry c.time c.number k) 0 (entries_from (k + 1) cs) next kept
    (rises-from next (k + 1) cs are)

pub clear-from : (next k : ℕ) (cells : List Cell) (i : ℕ) → AreNumbered next cells
    → entries_from k (set cells i free_cell) ≡ without_place (k + i) (entries_from k cells)
clear-from next k [] i are = rw (entries-none k) refl
clear-from next k (c ∷ cs) zero are =
    let at : k + 0 ≡ k = omega arith in
    let free : (NO_NUMBER == NO_NUMBER) ≡ true = grind (arith, nat_tests) in
    rw (at, entries-free k free_cell cs free) (sym (head-out k c cs))
clear-from next k (c ∷ cs) (suc i) are =
    by (clear-from next (k + 1) cs i (numbered-tail next c cs are)) (c.number == NO_NUMBER) refl where
      by : entries_from (k + 1) (set cs i free_cell) ≡ without_place (k + 1 + i) (entries_from (k + 1) cs)
          → (t : Bool) → (c.number == NO_NUMBER) ≡ t
          → entries_from k (c ∷ set cs i free_cell) ≡ without_place (k + suc i) (entries_from k (c ∷ cs))
      by ih true h =
          let at : k + suc i ≡ k + 1 + i = omega arith in
          rw (entries-free k c cs h, entries-free k c (set cs i free_cell) h, at) ih
      by ih false h =
          let at : k + suc i ≡ k + 1 + i = omega arith in
          rw (entries-cell k c cs h, entries-cell k c (set cs i free_cell) h, at)
          (ap (insert (entry c.time c.number k)) ih ∙ sym (tail-out next k i c cs h (numbered-tail next c cs are)))

module _ (next time : ℕ) (given : next ≢ NO_NUMBER) where
  abbrev new : Cell
  new = record { time = time; number = next }

  new-cell : (k : ℕ) (cs : List Cell) → entries_from k (new ∷ cs) ≡ insert (entry time next k) (entries_from (k + 1) cs)
  new-cell k cs = entries-cell k new cs (grind (arith, nat_tests))

  pub put-from : (k : ℕ) (cells : List Cell) (i : ℕ) → AreNumbered next cells → i < length cells
      → entries_from k (set cells i new) ≡ without_place (k + i) (entries_from k cells) ++ entry time next (k + i) ∷ []
  put-from k [] i are within = absurd (omega (arith, within))
  put-from k (c ∷ cs) zero are within =
      let at : k + 0 ≡ k = omega arith in
      rw (at, new-cell k cs, head-out k c cs)
      (insert-last (entry time next k) (entries_from (k + 1) cs)
      (below-next 0 (entries_from (k + 1) cs) next
      (rises-from next (k + 1) cs (numbered-tail next c cs are))))
  put-from k (c ∷ cs) (suc i) are within =
      by (put-from (k + 1) cs i (numbered-tail next c cs are) (omega (arith, within)))
      (c.number == NO_NUMBER) refl where
        by : entries_from (k + 1) (set cs i new)
            ≡ without_place (k + 1 + i) (entries_from (k + 1) cs) ++ entry time next (k + 1 + i) ∷ []
            → (t : Bool) → (c.number == NO_NUMBER) ≡ t
            → entries_from k (c ∷ set cs i new)
            ≡ without_place (k + suc i) (entries_from k (c ∷ cs)) ++ entry time next (k + suc i) ∷ []
        by ih true h =
            let at : k + suc i ≡ k + 1 + i = omega arith in
            rw (entries-free k c cs h, entries-free k c (set cs i new) h, at) ih
        by ih false h =
            let at : k + suc i ≡ k + 1 + i = omega arith in
            let less : c.number < next = are.below 0 (λ is. grind (arith, nat_tests)) in
            rw (entries-cell k c cs h, entries-cell k c (set cs i new) h, at)
            (ap (insert (entry c.time c.number k)) ih
            ∙ insert-push (entry c.time c.number k) (entry time next (k + 1 + i))
            (without_place (k + 1 + i) (entries_from (k + 1) cs)) less
            ∙ ap (λ (es : List Entry). es ++ entry time next (k + 1 + i) ∷ [])
            (sym (tail-out next k i c cs h (numbered-tail next c cs are))))

-- nothing is there at the beginning
pub all-free : (k n : ℕ) → entries_from k (replicate n free_cell) ≡ []
all-free k zero = entries-none k
all-free k (suc n) =
    let free : (NO_NUMBER == NO_NUMBER) ≡ true = grind (arith, nat_tests) in
    entries-free k free_cell (replicate n free_cell) free ∙ all-free (k + 1) n

-- ---- the same from place 0 on

pub cleared : (next : ℕ) (cells : List Cell) (place : ℕ) → AreNumbered next cells
    → entries_from 0 (set cells place free_cell) ≡ without_place place (entries_from 0 cells)
cleared next cells place are =
    let at : 0 + place ≡ place = omega arith in rw at at (clear-from next 0 cells place are)

pub put_there : (next time : ℕ) (cells : List Cell) (place : ℕ) → next + 1 < 2 ^ 64 → AreNumbered next cells
    → place < length cells
    → entries_from 0 (set cells place (record { time = time; number = next }))
    ≡ without_place place (entries_from 0 cells) ++ entry time next place ∷ []
put_there next time cells place fits are within =
    let at : 0 + place ≡ place = omega arith in
    rw at at (put-from next time (λ is. omega (arith, fits, is)) 0 cells place are within)

pub time_there : (cells : List Cell) (place : ℕ) (c : Cell) → place < length cells → c ≡ get_or cells place c
    → time_at (entries_from 0 cells) place ≡ time_of c
time_there cells place c within is =
    let at : 0 + place ≡ place = omega arith in
    let read = is ∙ get_or_default cells place c free_cell within in
    rw at at (time-from 0 cells place) ∙ ap time_of (sym read)

-- no entry has a number that isn't given yet
ungiven : (d : Entry) (next : ℕ) (es : List Entry) → next ≤ d.number → AllByRecursion (λ e. e.number < next) es
    → is_current es d ≡ false
ungiven d next [] h below = refl
ungiven d next (e ∷ es) h below =
    let less : e.number < next = below.0 in
    let other : (e.number == d.number) ≡ false = grind (arith, nat_tests) in
    rw other (ungiven d next es h below.1)

pub current_by_number : (d : Entry) (next : ℕ) (cells : List Cell) → AreNumbered next cells
    → is_current (entries_from 0 cells) d ≡ ((number_at cells d.place == d.number) && nat_lt d.number next)
current_by_number d next cells are = by (nat_lt d.number next) refl where
  both : (b : Bool) → b ≡ (b && true)
  both true = refl
  both false = refl

  neither : (b : Bool) → false ≡ (b && false)
  neither true = refl
  neither false = refl

  by : (t : Bool) → nat_lt d.number next ≡ t
      → is_current (entries_from 0 cells) d ≡ ((number_at cells d.place == d.number) && nat_lt d.number next)
  by true h =
      let less : d.number < next = grind (arith, nat_tests) in
      let fits = are.fits in
      rw h (is_current-from d (λ is. omega (arith, less, is, fits)) 0 cells d.place (omega arith)
      ∙ both (number_at cells d.place == d.number))
  by false h =
      rw h (ungiven d next (entries_from 0 cells) (grind (arith, nat_tests))
      (below-next 0 (entries_from 0 cells) next (rises-from next 0 cells are))
      ∙ neither (number_at cells d.place == d.number))

-- whether an entry is in the table, by the cell at its place
pub current_in_cell : (d : Entry) (next : ℕ) (cells : List Cell) (c : Cell) → AreNumbered next cells
    → d.number < NO_NUMBER
    → d.place < length cells → c ≡ get_or cells d.place c → is_current (entries_from 0 cells) d ≡ (c.number == d.number)
current_in_cell d next cells c are given within is =
    let read = is ∙ get_or_default cells d.place c free_cell within in
    is_current-from d (λ none. omega (arith, given, none)) 0 cells d.place (omega arith)
    ∙ ap (λ (x : Cell). x.number == d.number) (sym read)

pub current_nowhere : (d : Entry) (next : ℕ) (cells : List Cell) → AreNumbered next cells → length cells ≤ d.place
    → is_current (entries_from 0 cells) d ≡ false
current_nowhere d next cells are past =
    current_by_number d next cells are
    ∙ ap (λ (c : Cell). (c.number == d.number) && nat_lt d.number next) (get_or_past cells d.place free_cell past)
    ∙ by (nat_lt d.number next) refl where
      by : (t : Bool) → nat_lt d.number next ≡ t → ((NO_NUMBER == d.number) && nat_lt d.number next) ≡ false
      by true h = let fits = are.fits in let other : (NO_NUMBER == d.number) ≡ false = grind (arith, nat_tests, fits) in
          rw other refl
      by false h = rw h (never (NO_NUMBER == d.number)) where
        never : (b : Bool) → (b && false) ≡ false
        never true = refl
        never false = refl

-- ---- places

known-from : (k : ℕ) (cells : List Cell) → AllByRecursion (λ e. e.place < k + length cells) (entries_from k cells)
known-from k cells = all-entries (λ e. e.place < k + length cells) k cells (λ i some. elim (cases_lt i (length cells)) [
  | inl within ↦ omega (arith, within)
  | inr past ↦ absurd (some (ap (λ (c : Cell). c.number) (get_or_past cells i free_cell past)))
])

pub places_known : (cells : List Cell) → AllByRecursion (λ e. e.place < length cells) (entries_from 0 cells)
places_known cells = let e : 0 + length cells ≡ length cells = omega arith in rw e at (known-from 0 cells)

-- ---- each place has one entry at most

differ-insert : (e : Entry) (es : List Entry) → PlacesDiffer es → AllByRecursion (λ x. x.place ≢ e.place) es
    → PlacesDiffer (insert e es)
differ-insert e [] differ others = (tt, tt)
differ-insert e (x ∷ es) differ others =
    by (differ-insert e es differ.1 others.1) (nat_lt e.number x.number) refl where
      by : PlacesDiffer (insert e es) → (t : Bool) → nat_lt e.number x.number ≡ t → PlacesDiffer (insert e (x ∷ es))
      by ih true h = rw h (others, differ)
      by ih false h = rw h (all-insert (λ y. y.place ≢ x.place) e es (λ same. others.0 (sym same)) differ.0, ih)

pub differ-from : (k : ℕ) (cells : List Cell) → PlacesDiffer (entries_from k cells)
differ-from k [] = rw (entries-none k) tt
differ-from k (c ∷ cs) = by (differ-from (k + 1) cs) (c.number == NO_NUMBER) refl where
  by : PlacesDiffer (entries_from (k + 1) cs) → (t : Bool) → (c.number == NO_NUMBER) ≡ t
      → PlacesDiffer (entries_from k (c ∷ cs))
  by ih true h = rw (entries-free k c cs h) ih
  by ih false h =
      rw (entries-cell k c cs h)
      (differ-insert (entry c.time c.number k) (entries_from (k + 1) cs) ih
      (behind (λ place. place ≢ k) (k + 1) cs (λ place from same. omega (arith, from, same))))

-- ---- places that are added are free

free-behind : (k n : ℕ) (cells : List Cell) → entries_from k (cells ++ replicate n free_cell) ≡ entries_from k cells
free-behind k n [] = all-free k n ∙ sym (entries-none k)
free-behind k n (c ∷ cs) = by (free-behind (k + 1) n cs) (c.number == NO_NUMBER) refl where
  by : entries_from (k + 1) (cs ++ replicate n free_cell) ≡ entries_from (k + 1) cs → (t : Bool)
      → (c.number == NO_NUMBER) ≡ t → entries_from k (c ∷ (cs ++ replicate n free_cell)) ≡ entries_from k (c ∷ cs)
  by ih true h = rw (entries-free k c cs h, entries-free k c (cs ++ replicate n free_cell) h) ih
  by ih false h =
      rw (entries-cell k c cs h, entries-cell k c (cs ++ replicate n free_cell) h)
      (ap (insert (entry c.time c.number k)) ih)

same-numbers : (n : ℕ) (cells : List Cell) (i : ℕ) → number_at (cells ++ replicate n free_cell) i ≡ number_at cells i
same-numbers n [] i = by n i where
  by : (n i : ℕ) → number_at (replicate n free_cell) i ≡ NO_NUMBER
  by zero i = refl
  by (suc n) zero = refl
  by (suc n) (suc i) = by n i
same-numbers n (c ∷ cs) zero = refl
same-numbers n (c ∷ cs) (suc i) = same-numbers n cs i

pub numbered-more : (next n : ℕ) (cells : List Cell) → AreNumbered next cells
    → AreNumbered next (cells ++ replicate n free_cell)
numbered-more next n cells are = record {
  fits = are.fits;
  below = λ i some. rw (same-numbers n cells i) (are.below i (rw (same-numbers n cells i) at some));
  differ = λ i j same some.
      are.differ i j (sym (same-numbers n cells i) ∙ same ∙ same-numbers n cells j)
      (rw (same-numbers n cells i) at some);
}

pub more_places : (next n : ℕ) (cells new : List Cell) → length cells < n
    → new ≡ take n cells ++ replicate (n - length cells) free_cell
    → (entries_from 0 new ≡ entries_from 0 cells) × (AreNumbered next cells → AreNumbered next new) × (length new ≡ n)
more_places next n cells new h is =
    let whole : take n cells ≡ cells = take_all n cells (omega (arith, h)) in
    let same : new ≡ cells ++ replicate (n - length cells) free_cell =
    is ∙ ap (λ (cs : List Cell). cs ++ replicate (n - length cells) free_cell) whole in
    let lengths = length-append cells (replicate (n - length cells) free_cell) in
    let count = length-replicate (n - length cells) free_cell in (
      ap (entries_from 0) same ∙ free-behind 0 (n - length cells) cells,
      λ are. let P : List Cell → Type 0 = AreNumbered next in
          subst P (sym same) (numbered-more next (n - length cells) cells are),
      ap length same ∙ omega (arith, lengths, count, h),
    )
