-- The entries of a queue, each with the item at its place.
use Rattle.std.proofs.Common.{◌≡◌, ◌≢◌, ℕ, zero, suc, ◌+◌, ◌<◌, ◌≤◌, ◌==◌, Bool, true, false, List, [], ◌∷◌, ◌++◌, map, length, refl, ap, ap₂, ◌∙◌, arith}
use Rattle.std.specs.Prelude.{⊤, slice_index_or, slice_set}
use Rattle.std.specs.List.{All, AllByRecursion, Contains}
use Rattle.std.proofs.lemmas.Bool.Decides.{nat_tests}
use Rattle.std.proofs.lemmas.List.{get_or_append_left, get_or_default, get_or-set_same, get_or-set_other}
use Rattle.std.proofs.lemmas.List.Elements.{All-cons, All-head, All-tail}
use Rattle.gptp_queue.specs.Entry.{Entry as QueueEntry}
use Rattle.gptp_queue.specs.Waiting.{entry, without_place, IsFirst, IsNoLater, PlacesDiffer, RiseFrom}
use Rattle.gptp_model.specs.declared.item.Item.{Item}
use Rattle.gptp_model.specs.Pending.{Entry, pending_entry, IsNext}
use Rattle.gptp_traffic.specs.PendingIndex.{PlacedItem, placed, no_item, item_at, placed_items, plain_items, without_placed, IsVacant}

pub map-push : {X Y : Type 0} (f : X → Y) (xs : List X) (x : X) → map f (xs ++ x ∷ []) ≡ map f xs ++ f x ∷ []
map-push f [] x = refl
map-push f (y ∷ xs) x = ap (λ ys. f y ∷ ys) (map-push f xs x)

-- no two items are at one place
abbrev pub ArePlacedApart : List PlacedItem → Type 0
ArePlacedApart [] = ⊤
ArePlacedApart (p ∷ ps) = IsVacant ps p.place × ArePlacedApart ps

pub all-placed : (P : ℕ → Type 0) (items : List Item) (es : List QueueEntry)
    → AllByRecursion (λ (e : QueueEntry). P e.place) es
    → AllByRecursion (λ (p : PlacedItem). P p.place) (placed_items items es)
all-placed P items [] all = tt
all-placed P items (e ∷ es) all = (all.0, all-placed P items es all.1)

pub apart-placed : (items : List Item) (es : List QueueEntry) → PlacesDiffer es → ArePlacedApart (placed_items items es)
apart-placed items [] differ = tt
apart-placed items (e ∷ es) differ = (all-placed (λ n. n ≢ e.place) items es differ.0, apart-placed items es differ.1)

-- ---- a place is cancelled, or something is put there

pub placed-without : (items : List Item) (place : ℕ) (es : List QueueEntry)
    → placed_items items (without_place place es) ≡ without_placed place (placed_items items es)
placed-without items place [] = refl
placed-without items place (e ∷ es) = by (e.place == place) refl (placed-without items place es) where
  by : (t : Bool) → (e.place == place) ≡ t
      → placed_items items (without_place place es) ≡ without_placed place (placed_items items es)
      → placed_items items (without_place place (e ∷ es)) ≡ without_placed place (placed_items items (e ∷ es))
  by true t ih = rw t ih
  by false t ih = rw t (ap (λ ps. placed e.time e.place (item_at items e.place) ∷ ps) ih)

others : (place : ℕ) (es : List QueueEntry)
    → AllByRecursion (λ (e : QueueEntry). e.place ≢ place) (without_place place es)
others place [] = tt
others place (e ∷ es) = by (e.place == place) refl (others place es) where
  by : (t : Bool) → (e.place == place) ≡ t
      → AllByRecursion (λ (e : QueueEntry). e.place ≢ place) (without_place place es)
      → AllByRecursion (λ (e : QueueEntry). e.place ≢ place) (without_place place (e ∷ es))
  by true t ih = rw t ih
  by false t ih = rw t ((λ same. grind (arith, nat_tests)), ih)

placed-set : (items : List Item) (place : ℕ) (item : Item) (es : List QueueEntry)
    → AllByRecursion (λ (e : QueueEntry). e.place ≢ place) es
    → placed_items (slice_set items place item) es ≡ placed_items items es
placed-set items place item [] apart = refl
placed-set items place item (e ∷ es) apart =
    ap₂ (λ (i : Item) (ps : List PlacedItem). placed e.time e.place i ∷ ps)
    (get_or-set_other items place e.place item no_item apart.0) (placed-set items place item es apart.1)

pub placed-put : (items : List Item) (place : ℕ) (item : Item) (time number : ℕ) (es : List QueueEntry)
    → place < length items
    → placed_items (slice_set items place item) (without_place place es ++ entry time number place ∷ [])
    ≡ without_placed place (placed_items items es) ++ placed time place item ∷ []
placed-put items place item time number es within =
    let changed = slice_set items place item in
    map-push (λ (e : QueueEntry). placed e.time e.place (item_at changed e.place)) (without_place place es)
    (entry time number place)
    ∙ ap₂ (λ (ps : List PlacedItem) (i : Item). ps ++ placed time place i ∷ [])
    (placed-set items place item (without_place place es) (others place es) ∙ placed-without items place es)
    (get_or-set_same items place item no_item within)

-- an item more behind all
pub placed-more : (items more : List Item) (es : List QueueEntry)
    → AllByRecursion (λ (e : QueueEntry). e.place < length items) es
    → placed_items (items ++ more) es ≡ placed_items items es
placed-more items more [] within = refl
placed-more items more (e ∷ es) within =
    ap₂ (λ (i : Item) (ps : List PlacedItem). placed e.time e.place i ∷ ps)
    (get_or_append_left items more no_item e.place within.0) (placed-more items more es within.1)

-- ---- the first

module _ (items : List Item) (next : ℕ) (d : QueueEntry) where
  number_from : (low : ℕ) (es : List QueueEntry) → RiseFrom low es next → Contains es d → low ≤ d.number
  number_from low [] rises there = absurd (omega (arith, there.1))
  number_from low (e ∷ es) rises (zero, within, is) =
      let same : e.number ≡ d.number = ap (λ (x : QueueEntry). x.number) is in
      let from : low ≤ e.number = rises.0 in omega arith
  number_from low (e ∷ es) rises (suc k, within, is) =
      let from : low ≤ e.number = rises.0 in
      let above = number_from (e.number + 1) es rises.1 (k, omega (arith, within), is) in omega arith

  no_sooner : (es : List QueueEntry) → All (IsNoLater d) es
      → All (λ (e : Entry). d.time ≤ e.time) (plain_items (placed_items items es))
  no_sooner [] all = λ k e h. absurd (omega (arith, h))
  no_sooner (x ∷ es) all =
      All-cons (λ (e : Entry). d.time ≤ e.time) (pending_entry x.time (item_at items x.place))
      (plain_items (placed_items items es)) (All-head (IsNoLater d) x es all).by_time
      (no_sooner es (All-tail (IsNoLater d) x es all))

  later : (x : QueueEntry) → IsNoLater d x → x.number < d.number → (b : Bool) → (x.time == d.time) ≡ b → d.time < x.time
  later x least lower true b =
      let same : d.time ≡ x.time = grind (arith, nat_tests) in let order = least.by_number same in absurd (omega arith)
  later x least lower false b =
      let differ : x.time ≢ d.time = (λ same. grind (arith, nat_tests)) in let time = least.by_time in
      grind (arith, differ, time)

  next_from : (low : ℕ) (es : List QueueEntry) → RiseFrom low es next → Contains es d → All (IsNoLater d) es
      → IsNext (plain_items (placed_items items es)) d.time (item_at items d.place)
  next_from low [] rises there all = absurd (omega (arith, there.1))
  next_from low (x ∷ es) rises (zero, within, is) all = record {
    before = [];
    after = plain_items (placed_items items es);
    is = ap (λ (y : QueueEntry). pending_entry y.time (item_at items y.place) ∷ plain_items (placed_items items es)) is;
    later = λ k e h. absurd (omega (arith, h));
    not_before = no_sooner es (All-tail (IsNoLater d) x es all);
  }
  next_from low (x ∷ es) rises (suc k, within, is) all =
      let there : Contains es d = (k, omega (arith, within), is) in
      let tail = next_from (x.number + 1) es rises.1 there (All-tail (IsNoLater d) x es all) in
      let above = number_from (x.number + 1) es rises.1 there in record {
        before = pending_entry x.time (item_at items x.place) ∷ tail.before;
        after = tail.after;
        is = ap (λ (ys : List Entry). pending_entry x.time (item_at items x.place) ∷ ys) tail.is;
        later = All-cons (λ (y : Entry). d.time < y.time) (pending_entry x.time (item_at items x.place)) tail.before
            (later x (All-head (IsNoLater d) x es all) (omega (arith, above)) (x.time == d.time) refl) tail.later;
        not_before = tail.not_before;
      }

  pub next_is : (es : List QueueEntry) → RiseFrom 0 es next → IsFirst es d
      → IsNext (plain_items (placed_items items es)) d.time (item_at items d.place)
  next_is es rises first = next_from 0 es rises first.member first.least

  -- what holds of each item holds of that of an entry
  pub item_holds : (P : Item → Type 0) (es : List QueueEntry) → Contains es d
      → AllByRecursion (λ (p : PlacedItem). P p.item) (placed_items items es) → P (item_at items d.place)
  item_holds P [] there all = absurd (omega (arith, there.1))
  item_holds P (x ∷ es) (zero, within, is) all = rw (← is) all.0
  item_holds P (x ∷ es) (suc k, within, is) all = item_holds P es (k, omega (arith, within), is) all.1

pub contained : (P : QueueEntry → Type 0) (es : List QueueEntry) (d : QueueEntry) → Contains es d → AllByRecursion P es
    → P d
contained P [] d there all = absurd (omega (arith, there.1))
contained P (x ∷ es) d (zero, within, is) all = rw (← is) all.0
contained P (x ∷ es) d (suc k, within, is) all = contained P es d (k, omega (arith, within), is) all.1

-- the item of an entry, as it is looked up
pub looked_up : (items : List Item) (places : ℕ) (es : List QueueEntry) (d : QueueEntry) (item : Item)
    → AllByRecursion (λ (e : QueueEntry). e.place < places) es → Contains es d → places ≤ length items
    → item ≡ slice_index_or items d.place item → item ≡ item_at items d.place
looked_up items places es d item known there enough is =
    let below : d.place < places = contained (λ (e : QueueEntry). e.place < places) es d there known in
    is ∙ get_or_default items d.place item no_item (omega (arith, below, enough))
