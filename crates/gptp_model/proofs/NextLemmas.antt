-- What is next in an agenda, as an entry without its number.
use Rattle.std.proofs.Common.{◌≡◌, ℕ, ◌+◌, ◌<◌, ◌≤◌, ◌==◌, Bool, true, false, List, [], ◌∷◌, Option, Some, None, refl, ap, subst, arith}
use Rattle.std.specs.List.{All, AllByRecursion}
use Rattle.std.specs.Option.{option_map}
use Rattle.std.proofs.lemmas.Bool.Decides.{nat_tests}
use Rattle.std.proofs.lemmas.List.Elements.{All-cons, All-head, All-tail}
use Rattle.gptp_scheduler.specs.Pending.{AgendaEntry as Numbered, entry_at, IsFirst, IsNoEarlier, RiseFrom}
use Rattle.gptp_model.specs.declared.item.Item.{Item}
use Rattle.gptp_model.specs.Pending.{Entry, pending_entry, plain, IsKnownItem, IsNext}

-- ---- what stands under a number

low-step : (low next n : ℕ) (x : Numbered Item) (es : List (Numbered Item)) (e : Numbered Item)
    → RiseFrom low (x ∷ es) next → entry_at (x ∷ es) n ≡ Some e → (entry_at es n ≡ Some e → x.number + 1 ≤ n)
    → (t : Bool)
    → (x.number == n) ≡ t → low ≤ n
low-step low next n x es e rises found ih true t =
    let same : x.number ≡ n = grind (arith, nat_tests) in let from : low ≤ x.number = rises.0 in omega arith
low-step low next n x es e rises found ih false t =
    let rest : entry_at es n ≡ Some e = rw t at found in
    let above = ih rest in let from : low ≤ x.number = rises.0 in omega arith

low : (least next n : ℕ) (es : List (Numbered Item)) (e : Numbered Item) → RiseFrom least es next
    → entry_at es n ≡ Some e
    → least ≤ n
low least next n [] e rises found = absurd (grind (arith, found))
low least next n (x ∷ es) e rises found =
    low-step least next n x es e rises found (low (x.number + 1) next n es e rises.1) (x.number == n) refl

-- ---- the least entry

no_sooner : (time n : ℕ) (es : List (Numbered Item)) → All (IsNoEarlier {T = Item} time n) es
    → All (λ (e : Entry). time ≤ e.time) (plain es)
no_sooner time n [] all = λ k d h. absurd (omega arith)
no_sooner time n (x ∷ es) all =
    All-cons (λ (e : Entry). time ≤ e.time) (pending_entry x.time x.item) (plain es)
    (All-head (IsNoEarlier {T = Item} time n) x es all).not_before
    (no_sooner time n es (All-tail (IsNoEarlier {T = Item} time n) x es all))

later : (time n t m : ℕ) → time ≤ t → (t ≡ time → n ≤ m) → m < n → (b : Bool) → (t == time) ≡ b → time < t
later time n t m least tie lower true b = let same : t ≡ time = grind (arith, nat_tests) in let h =
    tie same in absurd (omega arith)
later time n t m least tie lower false b = let differ : t ≡ time
    → ⊥ = λ same. grind (arith, nat_tests) in grind (arith, differ)

module _ (next n : ℕ) (e : Numbered Item) where
  next-step : (least : ℕ) (x : Numbered Item) (es : List (Numbered Item)) → RiseFrom least (x ∷ es) next
      → entry_at (x ∷ es) n ≡ Some e → All (IsNoEarlier {T = Item} e.time n) (x ∷ es)
      → (entry_at es n ≡ Some e → IsNext (plain es) e.time e.item) → (t : Bool) → (x.number == n) ≡ t
      → IsNext (plain (x ∷ es)) e.time e.item
  next-step least x es rises found all ih true t =
      let heads : Some x ≡ Some e = rw t at found in
      let head : x ≡ e = cc in
      record {
        before = [];
        after = plain es;
        is = ap (λ (y : Numbered Item). pending_entry y.time y.item ∷ plain es) head;
        later = λ k d h. absurd (omega arith);
        not_before = no_sooner e.time n es (All-tail (IsNoEarlier {T = Item} e.time n) x es all);
      }
  next-step least x es rises found all ih false t =
      let rest : entry_at es n ≡ Some e = rw t at found in
      let tail = ih rest in
      let above = low (x.number + 1) next n es e rises.1 rest in
      let here = All-head (IsNoEarlier {T = Item} e.time n) x es all in
      record {
        before = pending_entry x.time x.item ∷ tail.before;
        after = tail.after;
        is = ap (λ ys. pending_entry x.time x.item ∷ ys) tail.is;
        later = All-cons (λ (y : Entry). e.time < y.time) (pending_entry x.time x.item) tail.before
            (later e.time n x.time x.number here.not_before here.by_number (omega arith)
            (x.time == e.time) refl) tail.later;
        not_before = tail.not_before;
      }

  next-found : (least : ℕ) (es : List (Numbered Item)) → RiseFrom least es next → entry_at es n ≡ Some e
      → All (IsNoEarlier {T = Item} e.time n) es → IsNext (plain es) e.time e.item
  next-found least [] rises found all = absurd (grind (arith, found))
  next-found least (x ∷ es) rises found all =
      next-step least x es rises found all
      (λ rest. next-found (x.number + 1) es rises.1 rest (All-tail (IsNoEarlier {T = Item} e.time n) x es all))
      (x.number == n) refl

-- an entry by its time and item
found : (o : Option (Numbered Item)) (time : ℕ) (item : Item) → option_map (λ (e : Numbered Item). e.time) o ≡ Some time
    → option_map (λ (e : Numbered Item). e.item) o ≡ Some item
    → (e : Numbered Item) × (o ≡ Some e) × (e.time ≡ time) × (e.item ≡ item)
found None time item times items = absurd (grind (arith, times))
found (Some e) time item times items = (e, refl, cc, cc)

pub next_is : (next : ℕ) (es : List (Numbered Item)) (time n : ℕ) (item : Item) → RiseFrom 0 es next → IsFirst es time n
    → option_map (λ (e : Numbered Item). e.item) (entry_at es n) ≡ Some item → IsNext (plain es) time item
next_is next es time n item rises first items =
    let its = found (entry_at es n) time item first.member items in
    let all : All (IsNoEarlier {T = Item} its.0.time n) es = rw its.2 first.least in
    let is = next-found next n its.0 0 es rises its.1 all in
    subst (λ (x : Item). IsNext (plain es) time x) its.3
    (subst (λ (t : ℕ). IsNext (plain es) t its.0.item) its.2 is)

-- ---- its item is known

known-step : (systems links n : ℕ) (x : Numbered Item) (es : List (Numbered Item)) (item : Item)
    → IsKnownItem systems links x.item → (option_map (λ (e : Numbered Item). e.item) (entry_at es n) ≡ Some item
    → IsKnownItem systems links item)
    → option_map (λ (e : Numbered Item). e.item) (entry_at (x ∷ es) n) ≡ Some item → (t : Bool) → (x.number == n) ≡ t
    → IsKnownItem systems links item
known-step systems links n x es item here ih items true t =
    let heads : Some x.item ≡ Some item = rw t at items in
    let is : x.item ≡ item = cc in subst (λ (i : Item). IsKnownItem systems links i) is here
known-step systems links n x es item here ih items false t = ih (rw t at items)

pub next_known : (systems links : ℕ) (es : List (Numbered Item)) (n : ℕ) (item : Item)
    → AllByRecursion (λ (e : Numbered Item). IsKnownItem systems links e.item) es
    → option_map (λ (e : Numbered Item). e.item) (entry_at es n) ≡ Some item → IsKnownItem systems links item
next_known systems links [] n item all items = absurd (grind (arith, items))
next_known systems links (x ∷ es) n item all items =
    known-step systems links n x es item all.0 (next_known systems links es n item all.1) items (x.number == n) refl
