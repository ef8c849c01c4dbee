-- Lists of entries, the parts: what comes to one or leaves it, and the least of all.
use Rattle.std.proofs.Common.{◌≡◌, ◌≢◌, ◌⊎◌, ℕ, ◌+◌, ◌-◌, ◌<◌, ◌≤◌, true, false, List, [], ◌∷◌, ◌++◌, length, get_or, set, refl, sym, ap, ◌∙◌, arith, inl, inr, subst}
use Rattle.std.proofs.Common.{Option, Some, None, IfSome}
use Prim.Native.Nat.{zero, suc}
use Rattle.std.proofs.lemmas.Bool.{cases_eq, cases_lt}
use Rattle.std.proofs.Math.ListN.{length-set}
use Rattle.std.proofs.lemmas.List.{get_or_default, set-get_or, get_or_past, get_or-set_same, get_or-set_other}
use Rattle.std.proofs.lemmas.List.Elements.{All-contains, Contains-push, Contains-append_left, Contains-push_cases}
use Rattle.std.proofs.lemmas.List.Sums.{sum_by-set}
use Rattle.std.specs.List.{AllByRecursion, Contains}
use Rattle.gptp_queue.specs.Waiting.{IsNoLater}
use Rattle.gptp_queue.specs.Order.{among, comes_first, first_of, part_at, precedes, rest_of, AddsTo, Adds, IsLeast, IsLeastOf, IsOrdered, IsSwept, Rise, Sweeps, Takes, TakesLeast, Within, WithinBelow}
use Rattle.gptp_queue.specs.Entry.{Entry}
use Rattle.gptp_queue.proofs.OrderLemmas.{first_least, itself, no_later, not_both, sooner, swept_twice, takes_rest, through}

-- ---- one part changes

module _ (parts : List (List Entry)) (at : ℕ) (part : List Entry) (within : at < length parts) where
  abbrev new : List (List Entry)
  new = set parts at part

  here : part_at new at ≡ part
  here = get_or-set_same parts at part [] within

  other : (k : ℕ) → k ≢ at → part_at new k ≡ part_at parts k
  other k apart = get_or-set_other parts at k part [] apart

  -- what is kept of the part, with what is kept of the others
  keeps : (P : Entry → Type 0) (e : Entry) → (Contains (part_at parts at) e → Contains part e ⊎ P e) → Within parts e
      → Within new e ⊎ P e
  keeps P e kept (k, there) = elim (cases_eq k at) [
    | inl same ↦ elim (kept (subst (λ (j : ℕ). Contains (part_at parts j) e) same there)) [
      | inl is ↦ inl (at, rw here is)
      | inr p ↦ inr p
    ]
    | inr apart ↦ inl (k, rw (other k apart) there)
  ]

  -- what is there was in the part or in another
  came : (P : Entry → Type 0) (e : Entry) → (Contains part e → Contains (part_at parts at) e ⊎ P e) → Within new e
      → Within parts e ⊎ P e
  came P e from (k, there) = elim (cases_eq k at) [
    | inl same ↦ elim (from (rw here at (subst (λ (j : ℕ). Contains (part_at new j) e) same there))) [
      | inl is ↦ inl (at, is)
      | inr p ↦ inr p
    ]
    | inr apart ↦ inl (k, rw (other k apart) at there)
  ]

  pub adds_within : (d : Entry) → Adds (part_at parts at) part d → AddsTo (Within parts) (Within new) d
  adds_within d adds = record {
    kept = λ e there. elim (keeps (λ x. ⊥) e (λ is. inl (adds.kept e is)) there) [
      | inl is ↦ is
      | inr never ↦ absurd never
    ];
    here = (at, rw here adds.here);
    from = λ e there. came (λ x. x ≡ d) e (adds.from e) there;
  }

  pub takes_within : (d : Entry) → Takes (part_at parts at) part (Some d) → TakesLeast parts new d
  takes_within d takes = record {
    taken = record {
      kept = λ e there. keeps (λ x. x ≡ d) e (takes.0.kept e) there;
      from = λ e there. elim (came (λ x. ⊥) e (λ is. inl (takes.0.from e is)) there) [
        | inl is ↦ is
        | inr never ↦ absurd never
      ];
    };
    fewer =
        let sums = sum_by-set (λ (p : List Entry). length p) parts at part [] within in
        let less = takes.1 in omega (arith, sums, less);
  }

-- each part was swept
pub swept_parts : (es : List Entry) (old left : List (List Entry))
    → ((k : ℕ) → IsSwept es (part_at old k) (part_at left k)) → Sweeps es (Within old) (Within left)
swept_parts es old left each = record {
  kept = λ e is there. (there.0, (each there.0).kept e is there.1);
  from = λ e there. (there.0, (each there.0).from e there.1);
}

-- ---- the least, where an entry comes behind the others of a part

first_push : (xs : List Entry) (d f : Entry) → Some f ≡ first_of xs → Some f ≡ first_of (xs ++ d ∷ [])
first_push [] d f is = absurd (grind (arith, is))
first_push (x ∷ xs) d f is = is

first_contained : (xs : List Entry) (f : Entry) → Some f ≡ first_of xs → Contains xs f
first_contained [] f is = absurd (grind (arith, is))
first_contained (x ∷ xs) f is = let same : f ≡ x = cc in (0, omega arith, sym same)

adds_push : (xs : List Entry) (d : Entry) → Adds xs (xs ++ d ∷ []) d
adds_push xs d = record {
  kept = λ e there. Contains-append_left xs (d ∷ []) e there;
  here = Contains-push xs d;
  from = λ e there. elim (Contains-push_cases xs d e there) [ inl is ↦ inl is | inr is ↦ inr (sym is) ];
}

pub added : (parts : List (List Entry)) (k : ℕ) (d : Entry) → k < length parts
    → AddsTo (Within parts) (Within (set parts k (part_at parts k ++ d ∷ []))) d
added parts k d within = adds_within parts k (part_at parts k ++ d ∷ []) within d (adds_push (part_at parts k) d)

-- no later than the first means no later than all
below_first : (parts : List (List Entry)) (first : Option Entry) (d : Entry) → IsLeastOf (Within parts) first
    → precedes d first ≡ true → (e : Entry) → Within parts e → IsNoLater d e
below_first parts None d least h e there = absurd (least e there)
below_first parts (Some f) d least h e there = through d f e (sooner f d h) (least.least e there)

after_first : (parts : List (List Entry)) (first : Option Entry) (d : Entry) → IsLeastOf (Within parts) first
    → precedes d first ≡ true → (e : Entry) → Within parts e → IsNoLater e d → ⊥
after_first parts None d least h e there later = least e there
after_first parts (Some f) d least h e there later = not_both d f h (through f e d (least.least e there) later)

module _ (parts : List (List Entry)) (first : Option Entry) (at k : ℕ) (d : Entry) (ordered : IsOrdered parts first at)
    (within : k < length parts) (rises : Rise (part_at parts k ++ d ∷ [])) where
  abbrev longer : List (List Entry)
  longer = set parts k (part_at parts k ++ d ∷ [])

  adds : AddsTo (Within parts) (Within longer) d
  adds = added parts k d within

  is_longer : part_at longer k ≡ part_at parts k ++ d ∷ []
  is_longer = get_or-set_same parts k (part_at parts k ++ d ∷ []) [] within

  pub ordered_before : precedes d first ≡ true → IsOrdered longer (Some d) k
  ordered_before h = record {
    there = rw (length-set parts k (part_at parts k ++ d ∷ [])) within;
    is_first = rw is_longer (by (part_at parts k) rises
        (λ e there. below_first parts first d ordered.least h e (k, there))
        (λ e there. after_first parts first d ordered.least h e (k, there)));
    least = record {
      member = adds.here;
      least = λ e there. elim (adds.from e there) [
        | inl old ↦ below_first parts first d ordered.least h e old
        | inr same ↦ rw same (itself d)
      ];
    };
  } where
    by : (xs : List Entry) → Rise (xs ++ d ∷ []) → ((e : Entry) → Contains xs e → IsNoLater d e)
        → ((e : Entry) → Contains xs e → IsNoLater e d → ⊥) → Some d ≡ first_of (xs ++ d ∷ [])
    by [] rises below strict = refl
    by (x ∷ xs) rises below strict =
        absurd (strict x (0, omega arith, refl)
        (All-contains (IsNoLater x) (xs ++ d ∷ []) d rises.0 (Contains-push xs d)))

  first_stays : (f : Entry) → Some f ≡ first_of (part_at parts at) → Some f ≡ first_of (part_at longer at)
  first_stays f is = elim (cases_eq at k) [
    | inl same ↦ subst (λ (j : ℕ). Some f ≡ first_of (part_at longer j)) (sym same)
        (rw is_longer (first_push (part_at parts k) d f
        (subst (λ (j : ℕ). Some f ≡ first_of (part_at parts j)) same is)))
    | inr apart ↦ rw (get_or-set_other parts k at (part_at parts k ++ d ∷ []) [] apart) is
  ]

  pub ordered_behind : precedes d first ≡ false → IsOrdered longer first at
  ordered_behind h = record {
    there = let l = length-set parts k (part_at parts k ++ d ∷ []) in rw l ordered.there;
    is_first = stays first ordered.is_first h;
    least = behind first ordered.least h;
  } where
    stays : (o : Option Entry) → o ≡ first_of (part_at parts at) → precedes d o ≡ false
        → o ≡ first_of (part_at longer at)
    stays None is h = absurd (grind (arith, h))
    stays (Some f) is h = first_stays f is

    behind : (o : Option Entry) → IsLeastOf (Within parts) o → precedes d o ≡ false → IsLeastOf (Within longer) o
    behind None none h = absurd (grind (arith, h))
    behind (Some f) least h = record {
      member = adds.kept f least.member;
      least = λ e there. elim (adds.from e there) [
        | inl old ↦ least.least e old
        | inr same ↦ rw same (no_later f d h)
      ];
    }

-- ---- the least, where an entry comes to the heap

module _ (heap larger : List Entry) (runs : List (List Entry)) (first top : Option Entry) (at : ℕ) (d : Entry)
    (ordered : IsOrdered (heap ∷ runs) first at) (adds : Adds heap larger d) (top_is : top ≡ first_of larger)
    (top_least : IsLeastOf (among larger) top) where
  pub heap_adds : AddsTo (Within (heap ∷ runs)) (Within (larger ∷ runs)) d
  heap_adds = adds_within (heap ∷ runs) 0 larger (omega arith) d adds

  -- the first of the heap is the least of all, where it is no later than what was
  heap_least : (t : Entry) → IsLeast (among larger) t → ((e : Entry) → Within (heap ∷ runs) e → IsNoLater t e)
      → IsLeast (Within (larger ∷ runs)) t
  heap_least t least below = record {
    member = (0, least.member);
    least = λ e there. elim (heap_adds.from e there) [
      | inl old ↦ below e old
      | inr same ↦ rw same (least.least d adds.here)
    ];
  }

  over : (o p : Option Entry) → IsLeastOf (among larger) o → IsLeastOf (Within (heap ∷ runs)) p
      → ((t f : Entry) → o ≡ Some t → p ≡ Some f → IsNoLater t f) → IsLeastOf (Within (larger ∷ runs)) o
  over None p least was below = absurd (least d adds.here)
  over (Some t) None least was below = heap_least t least (λ e there. absurd (was e there))
  over (Some t) (Some f) least was below =
      heap_least t least (λ e there. through t f e (below t f refl refl) (was.least e there))

  pub ordered_by_top : (at ≡ 0) ⊎ (comes_first top first ≡ true) → IsOrdered (larger ∷ runs) top 0
  ordered_by_top why = record {
    there = omega arith;
    is_first = top_is;
    least = over top first top_least ordered.least (λ t f is was. elim why [
      | inl top_part ↦ in_heap t f is
          (sym was ∙ subst (λ (j : ℕ). first ≡ first_of (part_at (heap ∷ runs) j)) top_part ordered.is_first)
      | inr before ↦ sooner f t
          (sym (ap (λ (o : Option Entry). comes_first o (Some f)) is) ∙ sym (ap (comes_first top) was) ∙ before)
    ]);
  } where
    in_heap : (t f : Entry) → top ≡ Some t → Some f ≡ first_of heap → IsNoLater t f
    in_heap t f is was =
        let least : IsLeast (among larger) t = subst (IsLeastOf (among larger)) is top_least in
        least.least f (adds.kept f (first_contained heap f was))

  pub ordered_still : at ≢ 0 → comes_first top first ≡ false → IsOrdered (larger ∷ runs) first at
  ordered_still apart h = record {
    there = ordered.there;
    is_first = ordered.is_first ∙ same at apart;
    least = still top first top_least ordered.least h;
  } where
    same : (j : ℕ) → j ≢ 0 → first_of (part_at (heap ∷ runs) j) ≡ first_of (part_at (larger ∷ runs) j)
    same zero apart = absurd (apart refl)
    same (suc j) apart = refl

    still : (o p : Option Entry) → IsLeastOf (among larger) o → IsLeastOf (Within (heap ∷ runs)) p
        → comes_first o p ≡ false → IsLeastOf (Within (larger ∷ runs)) p
    still None p least was h = absurd (least d adds.here)
    still (Some t) None least was h = absurd (grind (arith, h))
    still (Some t) (Some f) least was h = record {
      member = heap_adds.kept f was.member;
      least = λ e there. elim (heap_adds.from e there) [
        | inl old ↦ was.least e old
        | inr same ↦ rw same (through f t d (no_later f t h) (least.least d adds.here))
      ];
    }

-- ---- the least of all

module _ (parts : List (List Entry)) where
  below_one : (P : Entry → Type 0) → ((e : Entry) → Contains (part_at parts 0) e → P e)
      → (e : Entry) → WithinBelow parts 1 e → P e
  below_one P each e (zero, within, there) = each e there
  below_one P each e (suc k, within, there) = absurd (omega (arith, within))

  pub least_start : (o : Option Entry) → IsLeastOf (among (part_at parts 0)) o → IsLeastOf (WithinBelow parts 1) o
  least_start None none = below_one (λ e. ⊥) none
  least_start (Some d) least = record {
    member = (0, omega arith, least.member);
    least = below_one (IsNoLater d) least.least;
  }

  module _ (n : ℕ) where
    more : (e : Entry) → WithinBelow parts n e → WithinBelow parts (n + 1) e
    more e (k, within, there) = (k, omega (arith, within), there)

    last : (e : Entry) → Contains (part_at parts n) e → WithinBelow parts (n + 1) e
    last e there = (n, omega arith, there)

    split : (e : Entry) → WithinBelow parts (n + 1) e → WithinBelow parts n e ⊎ Contains (part_at parts n) e
    split e (k, within, there) = elim (cases_eq k n) [
      | inl same ↦ inr (subst (λ (j : ℕ). Contains (part_at parts j) e) same there)
      | inr apart ↦ inl (k, omega (arith, within, apart), there)
    ]

    pub least_taken : (head first : Option Entry) → IsLeastOf (WithinBelow parts n) first
        → IsLeastOf (among (part_at parts n)) head → comes_first head first ≡ true
        → IsLeastOf (WithinBelow parts (n + 1)) head
    least_taken None first so_far least h = absurd (grind (arith, h))
    least_taken (Some t) None so_far least h = record {
      member = last t least.member;
      least = λ e there. elim (split e there) [ inl old ↦ absurd (so_far e old) | inr here ↦ least.least e here ];
    }
    least_taken (Some t) (Some f) so_far least h = record {
      member = last t least.member;
      least = λ e there. elim (split e there) [
        | inl old ↦ through t f e (sooner f t h) (so_far.least e old)
        | inr here ↦ least.least e here
      ];
    }

    pub least_stays : (head first : Option Entry) → IsLeastOf (WithinBelow parts n) first
        → IsLeastOf (among (part_at parts n)) head → comes_first head first ≡ false
        → IsLeastOf (WithinBelow parts (n + 1)) first
    least_stays None None so_far least h =
        λ e there. elim (split e there) [ inl old ↦ so_far e old | inr here ↦ least e here ]
    least_stays None (Some f) so_far least h = record {
      member = more f so_far.member;
      least = λ e there. elim (split e there) [ inl old ↦ so_far.least e old | inr here ↦ absurd (least e here) ];
    }
    least_stays (Some t) None so_far least h = absurd (grind (arith, h))
    least_stays (Some t) (Some f) so_far least h = record {
      member = more f so_far.member;
      least = λ e there. elim (split e there) [
        | inl old ↦ so_far.least e old
        | inr here ↦ through f t e (no_later f t h) (least.least e here)
      ];
    }

  pub least_end : (n : ℕ) (o : Option Entry) → length parts ≤ n → IsLeastOf (WithinBelow parts n) o
      → IsLeastOf (Within parts) o
  least_end n o all least = by o least where
    below : (e : Entry) → Within parts e → WithinBelow parts n e
    below e (k, there) = elim (cases_lt k n) [
      | inl within ↦ (k, within, there)
      | inr past ↦
          let none : part_at parts k ≡ [] = get_or_past parts k [] (omega (arith, all, past)) in
          let no_member : Contains [] e = rw none at there in absurd (omega (arith, no_member.1))
    ]

    by : (o : Option Entry) → IsLeastOf (WithinBelow parts n) o → IsLeastOf (Within parts) o
    by None none = λ e there. none e (below e there)
    by (Some d) least = record {
      member = (least.member.0, least.member.2);
      least = λ e there. least.least e (below e there);
    }

-- ---- nothing is there

pub none_there : (parts : List (List Entry)) → AllByRecursion (λ p. p ≡ []) parts → (e : Entry) → Within parts e → ⊥
none_there [] all e there = omega (arith, there.1.1)
none_there (p ∷ parts) all e (zero, there) =
    let no_member : Contains [] e = rw all.0 at there in omega (arith, no_member.1)
none_there (p ∷ parts) all e (suc k, there) = none_there parts all.1 e (k, there)

pub all_push : (parts : List (List Entry)) (p : List Entry) → AllByRecursion (λ q. q ≡ []) parts → p ≡ []
    → AllByRecursion (λ q. q ≡ []) (parts ++ p ∷ [])
all_push [] p all is = (is, tt)
all_push (q ∷ parts) p all is = (all.0, all_push parts p all.1 is)

-- ---- a run, as it is lent and given back

module _ (heap : List Entry) (runs : List (List Entry)) (kind : ℕ) (lent run : List Entry) (within : kind < length runs)
    (lent_is : lent ≡ get_or runs kind lent) where
  read : part_at (heap ∷ runs) (suc kind) ≡ lent
  read = get_or_default runs kind [] lent within ∙ sym lent_is

  pub refused_same : run ≡ lent → set runs kind run ≡ runs
  refused_same is = ap (set runs kind) (is ∙ lent_is) ∙ set-get_or runs kind lent

  pub taken_first : run ≡ rest_of lent
      → Takes (part_at (heap ∷ runs) (suc kind)) (part_at (heap ∷ set runs kind run) (suc kind))
      (first_of (part_at (heap ∷ runs) (suc kind)))
  taken_first is = rw (read, get_or-set_same runs kind run [] within, is) (takes_rest lent)

  module _ (first : Option Entry) (at : ℕ) (d : Entry) (ordered : IsOrdered (heap ∷ runs) first at)
      (pushed : run ≡ lent ++ d ∷ []) (rises : Rise run) where
    whole : part_at (heap ∷ runs) (suc kind) ++ d ∷ [] ≡ run
    whole = ap (λ (xs : List Entry). xs ++ d ∷ []) read ∙ sym pushed

    all_rise : Rise (part_at (heap ∷ runs) (suc kind) ++ d ∷ [])
    all_rise = rw whole rises

    larger : set (heap ∷ runs) (suc kind) (part_at (heap ∷ runs) (suc kind) ++ d ∷ []) ≡ heap ∷ set runs kind run
    larger = ap (set (heap ∷ runs) (suc kind)) whole

    pub pushed_adds : AddsTo (Within (heap ∷ runs)) (Within (heap ∷ set runs kind run)) d
    pushed_adds = rw larger at (added (heap ∷ runs) (suc kind) d (omega (arith, within)))

    pub pushed_before : precedes d first ≡ true → IsOrdered (heap ∷ set runs kind run) (Some d) (kind + 1)
    pushed_before h =
        let k : kind + 1 ≡ suc kind = omega arith in
        rw k (rw larger at (ordered_before (heap ∷ runs) first at (suc kind) d ordered
        (omega (arith, within)) all_rise h))

    pub pushed_behind : precedes d first ≡ false → IsOrdered (heap ∷ set runs kind run) first at
    pushed_behind h =
        rw larger at (ordered_behind (heap ∷ runs) first at (suc kind) d ordered (omega (arith, within)) all_rise h)

-- one run was swept
pub swept_one : (es : List Entry) (old runs : List (List Entry)) (kind : ℕ) (lent run : List Entry) → kind < length runs
    → lent ≡ get_or runs kind lent → IsSwept es lent run → ((k : ℕ) → IsSwept es (part_at old k) (part_at runs k))
    → (k : ℕ) → IsSwept es (part_at old k) (part_at (set runs kind run) k)
swept_one es old runs kind lent run within is swept each k = elim (cases_eq k kind) [
  | inr apart ↦ rw (get_or-set_other runs kind k run [] apart) (each k)
  | inl same ↦
      let read = get_or_default runs kind [] lent within ∙ sym is in
      let before : IsSwept es (part_at old k) lent =
      rw read at (subst (λ (j : ℕ). IsSwept es (part_at old k) (part_at runs j)) same (each k)) in
      subst (λ (j : ℕ). IsSwept es (part_at old k) (part_at (set runs kind run) j)) (sym same)
      (rw (get_or-set_same runs kind run [] within) (swept_twice es (part_at old k) lent run before swept))
]

-- the heap and each run were swept
pub swept_all : (es heap left : List Entry) (old runs : List (List Entry)) → IsSwept es heap left
    → ((k : ℕ) → IsSwept es (part_at old k) (part_at runs k)) → Sweeps es (Within (heap ∷ old)) (Within (left ∷ runs))
swept_all es heap left old runs first each = swept_parts es (heap ∷ old) (left ∷ runs) by where
  by : (k : ℕ) → IsSwept es (part_at (heap ∷ old) k) (part_at (left ∷ runs) k)
  by zero = first
  by (suc k) = each k

-- a part as it is changed alone
pub changed_run : (heap : List Entry) (runs : List (List Entry)) (kind : ℕ) (run : List Entry) → kind < length runs
    → heap ∷ set runs kind run ≡ set (heap ∷ runs) (suc kind) (part_at (heap ∷ set runs kind run) (suc kind))
changed_run heap runs kind run within =
    ap (λ (r : List Entry). heap ∷ set runs kind r) (sym (get_or-set_same runs kind run [] within))

-- the least was taken out of its part
pub taken_least : (parts left : List (List Entry)) (at : ℕ) (first : Option Entry) → IsOrdered parts first at
    → Takes (part_at parts at) (part_at left at) (first_of (part_at parts at)) → left ≡ set parts at (part_at left at)
    → IfSome first (λ d. TakesLeast parts left d)
taken_least parts left at None ordered takes changed = tt
taken_least parts left at (Some d) ordered takes changed =
    let one : Takes (part_at parts at) (part_at left at) (Some d) = rw (← ordered.is_first) at takes in
    let whole = takes_within parts at (part_at left at) ordered.there d one in
    subst (λ (xs : List (List Entry)). TakesLeast parts xs d) (sym changed) whole

-- the least so far, where the first of one part more was looked at
module _ (heap : List Entry) (runs : List (List Entry)) (kind at : ℕ) (run : List Entry) (first : Option Entry)
    (within : kind < length runs) (is : run ≡ get_or runs kind run) where
  run_is : part_at (heap ∷ runs) (kind + 1) ≡ run
  run_is =
      let k : kind + 1 ≡ suc kind = omega arith in
      rw k (get_or_default runs kind [] run within ∙ sym is)

  pub step_taken : Rise run → IsLeastOf (WithinBelow (heap ∷ runs) (kind + 1)) first
      → comes_first (first_of run) first ≡ true
      → (first_of run ≡ first_of (part_at (heap ∷ runs) (kind + 1)))
      × IsLeastOf (WithinBelow (heap ∷ runs) (kind + 1 + 1)) (first_of run)
  step_taken rises so_far h = (
    ap first_of (sym run_is),
    least_taken (heap ∷ runs) (kind + 1) (first_of run) first so_far
        (subst (λ (xs : List Entry). IsLeastOf (among xs) (first_of run)) (sym run_is) (first_least run rises)) h,
  )

  pub step_stays : Rise run → IsLeastOf (WithinBelow (heap ∷ runs) (kind + 1)) first
      → comes_first (first_of run) first ≡ false
      → IsLeastOf (WithinBelow (heap ∷ runs) (kind + 1 + 1)) first
  step_stays rises so_far h =
      least_stays (heap ∷ runs) (kind + 1) (first_of run) first so_far
      (subst (λ (xs : List Entry). IsLeastOf (among xs) (first_of run)) (sym run_is) (first_least run rises)) h

-- the same by the number of the part
module _ (heap : List Entry) (runs : List (List Entry)) (lent run : List Entry) where
  pub taken_at : (at : ℕ) → at ≢ 0 → at < length runs + 1 → lent ≡ get_or runs (at - 1) lent → run ≡ rest_of lent
      → Takes (part_at (heap ∷ runs) at) (part_at (heap ∷ set runs (at - 1) run) at)
      (first_of (part_at (heap ∷ runs) at))
  taken_at zero some few is rest = absurd (some refl)
  taken_at (suc k) some few is rest =
      let less : suc k - 1 ≡ k = omega arith in
      rw less (taken_first heap runs k lent run (omega (arith, few)) (rw less at is) rest)

  pub changed_at : (at : ℕ) → at ≢ 0 → at < length runs + 1
      → heap ∷ set runs (at - 1) run ≡ set (heap ∷ runs) at (part_at (heap ∷ set runs (at - 1) run) at)
  changed_at zero some few = absurd (some refl)
  changed_at (suc k) some few =
      let less : suc k - 1 ≡ k = omega arith in rw less (changed_run heap runs k run (omega (arith, few)))
