-- The entries in order of time: the least of them, and what puts and cancels change.
use Rattle.std.proofs.Common.{◌≡◌, ◌≢◌, ℕ, ◌+◌, ◌<◌, Bool, true, false, List, [], ◌∷◌, ◌++◌, get_or, refl, sym, ap, ◌∙◌, arith, inl, inr, subst}
use Rattle.std.proofs.Common.{Option, Some, None, IfSome, ◌==◌, ◌&&◌, ◌||◌, not, filter}
use Rattle.std.specs.Prelude.{IfNone}
use Prim.Native.Nat.{zero, suc}
use Rattle.std.proofs.lemmas.Bool.Decides.{nat_tests}
use Rattle.std.proofs.lemmas.List.Elements.{All-contains, All-from_recursion, Contains-append_left, Contains-get_or, Contains-push_cases}
use Rattle.std.specs.List.{Contains}
use Rattle.gptp_queue.specs.Waiting.{entry, is_at, is_current, without_place, IsFirst, IsNoLater}
use Rattle.gptp_queue.specs.Order.{AddsTo, IsLeast, IsLeastOf, Sweeps, TakesFrom}
use Rattle.gptp_queue.specs.Queue.{Holds, IsCurrentFirst, IsFirstAt, WasPut}
use Rattle.gptp_queue.specs.Entry.{Entry}
use Rattle.gptp_queue.proofs.EntryLemmas.{below-next, rise-filter, rise-push}

-- ---- filtered lists

pub filter-contains : (p : Entry → Bool) (es : List Entry) (e : Entry) → Contains (filter p es) e
    → Contains es e × (p e ≡ true)
filter-contains p [] e there = absurd (omega (arith, there.1))
filter-contains p (x ∷ es) e there = by (λ rest. filter-contains p es e rest) (p x) refl there where
  by : (Contains (filter p es) e → Contains es e × (p e ≡ true)) → (t : Bool) → p x ≡ t → Contains (filter p (x ∷ es)) e
      → Contains (x ∷ es) e × (p e ≡ true)
  by ih true h there = first (rw h at there) where
    first : Contains (x ∷ filter p es) e → Contains (x ∷ es) e × (p e ≡ true)
    first (zero, within, is) = ((0, omega arith, is), ap p (sym is) ∙ h)
    first (suc k, within, is) =
        let rest = ih (k, omega (arith, within), is) in ((suc rest.0.0, omega (arith, rest.0.1), rest.0.2), rest.1)
  by ih false h there =
      let in_rest : Contains (filter p es) e = rw h at there in let rest = ih in_rest in
      ((suc rest.0.0, omega (arith, rest.0.1), rest.0.2), rest.1)

pub filter-kept : (p : Entry → Bool) (es : List Entry) (e : Entry) → Contains es e → p e ≡ true
    → Contains (filter p es) e
filter-kept p [] e there passes = absurd (omega (arith, there.1))
filter-kept p (x ∷ es) e (zero, within, is) passes =
    let here : p x ≡ true = ap p is ∙ passes in rw here (0, omega arith, is)
filter-kept p (x ∷ es) e (suc k, within, is) passes =
    by (filter-kept p es e (k, omega (arith, within), is) passes) (p x) refl where
      by : Contains (filter p es) e → (t : Bool) → p x ≡ t → Contains (filter p (x ∷ es)) e
      by rest true h = rw h (suc rest.0, omega (arith, rest.1), rest.2)
      by rest false h = rw h rest

-- ---- what stands in the table

current_is_contained : (es : List Entry) (d : Entry) → is_current es d ≡ true
    → (e : Entry) × Contains es e × (e.number ≡ d.number)
current_is_contained [] d is = absurd (grind (arith, is))
current_is_contained (x ∷ es) d is =
    by (λ rest. current_is_contained es d rest) ((x.number == d.number) && (x.place == d.place)) refl where
      by : (is_current es d ≡ true → (e : Entry) × Contains es e × (e.number ≡ d.number)) → (t : Bool)
          → ((x.number == d.number) && (x.place == d.place)) ≡ t
          → (e : Entry) × Contains (x ∷ es) e × (e.number ≡ d.number)
      by ih true h = (x, (0, omega arith, refl), grind (arith, nat_tests))
      by ih false h =
          let rest : is_current es d ≡ true = rw h at is in let found = ih rest in
          (found.0, (suc found.1.0, omega (arith, found.1.1), found.1.2), found.2)

pub contained_is_current : (es : List Entry) (d : Entry) → Contains es d → is_current es d ≡ true
contained_is_current [] d there = absurd (omega (arith, there.1))
contained_is_current (x ∷ es) d (zero, within, is) =
    let here : ((x.number == d.number) && (x.place == d.place)) ≡ true =
    ap (λ (y : Entry). (y.number == d.number) && (y.place == d.place)) is ∙ grind (arith, nat_tests) in rw here refl
contained_is_current (x ∷ es) d (suc k, within, is) =
    let rest = contained_is_current es d (k, omega (arith, within), is) in
    rw rest (either ((x.number == d.number) && (x.place == d.place))) where
      either : (b : Bool) → (b || true) ≡ true
      either true = refl
      either false = refl

-- ---- the first

module _ (es : List Entry) (next : ℕ) (has : Entry → Type 0) (holds : Holds es next has) where
  -- what was put and is in the table is an entry
  pub is_there : (d : Entry) → has d → is_current es d ≡ true → Contains es d
  is_there d there is =
      let found = current_is_contained es d is in
      subst (Contains es) ((holds.put d there).alone found.0 found.1 found.2) found.1

  pub first_is : (d : Entry) → IsLeast has d → Contains es d → IsFirst es d
  first_is d least there = record {
    member = there;
    least = λ i x within. least.least (get_or es i x) (holds.complete (get_or es i x) (Contains-get_or es i x within));
  }

  pub no_entry : ((e : Entry) → has e → ⊥) → es ≡ []
  no_entry none = by es (λ e there. none e (holds.complete e there)) where
    by : (xs : List Entry) → ((e : Entry) → Contains xs e → ⊥) → xs ≡ []
    by [] never = refl
    by (x ∷ xs) never = absurd (never x (0, omega arith, refl))

  -- ---- one entry less, or one more

  pub holds_filtered : (p : Entry → Bool) → Holds (filter p es) next has
  holds_filtered p = record {
    put = λ d there. record {
      given = (holds.put d there).given;
      alone = λ e among same. (holds.put d there).alone e (filter-contains p es e among).0 same;
    };
    complete = λ e among. holds.complete e (filter-contains p es e among).0;
    rising = rise-filter p 0 es next holds.rising;
  }

  pub holds_taken : (left : Entry → Type 0) (d : Entry) → TakesFrom has left d → has d → is_current es d ≡ false
      → Holds es next left
  holds_taken left d takes there gone = record {
    put = λ e among. holds.put e (takes.from e among);
    complete = λ e among. elim (takes.kept e (holds.complete e among)) [
      | inl kept ↦ kept
      | inr same ↦ absurd (grind (arith, contained_is_current es d (subst (Contains es) same among), gone))
    ];
    rising = holds.rising;
  }

  pub holds_swept : (left : Entry → Type 0) → Sweeps es has left → Holds es next left
  holds_swept left sweeps = record {
    put = λ e among. holds.put e (sweeps.from e among);
    complete = λ e among. sweeps.kept e (contained_is_current es e among) (holds.complete e among);
    rising = holds.rising;
  }

  module _ (more : Entry → Type 0) (time place : ℕ) where
    abbrev new : Entry
    new = entry time next place

    pub holds_put : AddsTo has more new → Holds (es ++ new ∷ []) (next + 1) more
    holds_put adds = record {
      put = λ d there. elim (adds.from d there) [
        | inl old ↦ record {
          given = let less = (holds.put d old).given in omega (arith, less);
          alone = λ e among same. elim (Contains-push_cases es new e among) [
            | inl before ↦ (holds.put d old).alone e before same
            | inr is ↦ let less = (holds.put d old).given in
                let number : next ≡ d.number = ap (λ (x : Entry). x.number) is ∙ same in
                absurd (omega (arith, less, number))
          ];
        }
        | inr is ↦ record {
          given = let number : d.number ≡ next = ap (λ (x : Entry). x.number) is in omega (arith, number);
          alone = λ e among same. elim (Contains-push_cases es new e among) [
            | inl before ↦
                let less : e.number < next = All-contains (λ (x : Entry). x.number < next) es e
                (All-from_recursion (λ (x : Entry). x.number < next) es (below-next 0 es next holds.rising)) before in
                let number : d.number ≡ next = ap (λ (x : Entry). x.number) is in
                absurd (omega (arith, less, number, same))
            | inr here ↦ sym here ∙ sym is
          ];
        }
      ];
      complete = λ e among. elim (Contains-push_cases es new e among) [
        | inl before ↦ adds.kept e (holds.complete e before)
        | inr here ↦ subst more here adds.here
      ];
      rising = rise-push 0 es new holds.rising;
    }

-- two that were put, neither before the other and one of them an entry, are the same
pub same_first : (es : List Entry) (next : ℕ) (d f : Entry) → WasPut es next d → Contains es f → IsNoLater d f
    → IsNoLater f d → f ≡ d
same_first es next d f put there a b =
    let time : d.time ≡ f.time = omega (arith, a.by_time, b.by_time) in
    put.alone f there (omega (arith, a.by_number time, b.by_number (sym time)))

module _ (es : List Entry) (next : ℕ) (has : Entry → Type 0) (holds : Holds es next has) where
  pub first_if : (o : Option Entry) → IsCurrentFirst es has o → IfSome o (λ d. IsFirst es d)
  first_if None none = tt
  first_if (Some d) first = first_is es next has holds d first.0 first.1

  pub none_if : (o : Option Entry) → IsCurrentFirst es has o → IfNone o (es ≡ [])
  none_if None none = no_entry es next has holds none
  none_if (Some d) first = tt

  -- ---- the first, after a change

  -- what is no later than an entry that is least is that entry
  still_current : (d f : Entry) → has d → IsNoLater d f → IsLeast has f → Contains es f → Contains es d
  still_current d f there before least among =
      let same : f ≡ d = same_first es next d f (holds.put d there) among before (least.least d there) in
      subst (Contains es) same among

  left_at : (place : ℕ) (d : Entry) → Contains es d → d.place ≢ place → Contains (without_place place es) d
  left_at place d among apart =
      filter-kept (λ e. not (is_at place e)) es d among
      (let other : (d.place == place) ≡ false = grind (arith, nat_tests, apart) in rw other refl)

  pub others_cancelled : (place : ℕ) (o : Option Entry) → IsCurrentFirst es has o → (d : Entry) → IsLeast has d
      → d.place ≢ place → Contains (without_place place es) d
  others_cancelled place None none d least apart = absurd (none d least.member)
  others_cancelled place (Some f) first d least apart =
      left_at place d (still_current d f least.member (least.least f first.0.member) first.0 first.1) apart

  pub others_put : (more : Entry → Type 0) (time place : ℕ) (o : Option Entry) → IsCurrentFirst es has o
      → AddsTo has more (entry time next place) → (d : Entry) → IsLeast more d → d.place ≢ place
      → Contains (without_place place es ++ entry time next place ∷ []) d
  others_put more time place o first adds d least apart = elim (adds.from d least.member) [
    | inl old ↦ Contains-append_left (without_place place es) (entry time next place ∷ []) d (by o first old)
    | inr is ↦ absurd (apart (ap (λ (e : Entry). e.place) is))
  ] where
    by : (o : Option Entry) → IsCurrentFirst es has o → has d → Contains (without_place place es) d
    by None none old = absurd (none d old)
    by (Some f) first old =
        left_at place d (still_current d f old (least.least f (adds.kept f first.0.member)) first.0 first.1) apart

  pub first_swept : (left : Entry → Type 0) (o p : Option Entry) → IsCurrentFirst es has o → Sweeps es has left
      → IsLeastOf left p → IsCurrentFirst es left p
  first_swept left o None first sweeps none = none
  first_swept left None (Some d) none sweeps least = absurd (none d (sweeps.from d least.member))
  first_swept left (Some f) (Some d) first sweeps least = (
    least,
    still_current d f (sweeps.from d least.member)
        (least.least f (sweeps.kept f (contained_is_current es f first.1) first.0.member)) first.0 first.1,
  )

  pub put_holds : (more : Entry → Type 0) (time place : ℕ) → AddsTo has more (entry time next place)
      → Holds (without_place place es ++ entry time next place ∷ []) (next + 1) more
  put_holds more time place adds =
      holds_put (without_place place es) next has
      (holds_filtered es next has holds (λ e. not (is_at place e))) more time place adds

pub none_held : (has : Entry → Type 0) → ((e : Entry) → has e → ⊥) → Holds [] 0 has
none_held has none = record {
  put = λ d there. absurd (none d there);
  complete = λ e there. absurd (omega (arith, there.1));
  rising = omega arith;
}

-- an entry isn't among those of other places
pub gone_from : (es : List Entry) (d : Entry) → is_current (without_place d.place es) d ≡ false
gone_from [] d = refl
gone_from (x ∷ es) d = by (gone_from es d) (x.place == d.place) refl where
  never : (b : Bool) → (b && false) ≡ false
  never true = refl
  never false = refl

  by : is_current (without_place d.place es) d ≡ false → (t : Bool) → (x.place == d.place) ≡ t
      → is_current (without_place d.place (x ∷ es)) d ≡ false
  by ih true h = rw h ih
  by ih false h = rw (h, h, never (x.number == d.number)) ih

pub first_at : (o : Option Entry) (place time : ℕ) → IsFirstAt o place time
    → (d : Entry) × (o ≡ Some d) × (d.place ≡ place) × (d.time ≡ time)
first_at None place time is = elim is [ ]
first_at (Some d) place time is = (d, refl, is.0, is.1)

pub taken_holds : (es : List Entry) (next : ℕ) (has left : Entry → Type 0) (d : Entry) → Holds es next has → has d
    → TakesFrom has left d → Holds (without_place d.place es) next left
taken_holds es next has left d holds there takes =
    holds_taken (without_place d.place es) next has
    (holds_filtered es next has holds (λ e. not (is_at d.place e))) left d takes there (gone_from es d)
