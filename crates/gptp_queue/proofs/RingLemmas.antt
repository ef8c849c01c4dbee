-- The ring: the least of all entries is the first of the first slot that has one.
use Rattle.std.proofs.Common.{◌≡◌, ◌≢◌, ℕ, ◌+◌, ◌-◌, ◌%◌, ◌<◌, ◌≤◌, true, false, List, [], ◌∷◌, ◌++◌, length, get_or, set, Option, Some, None, refl, sym, ap, subst, ◌∙◌, inl, inr, arith}
use Rattle.std.proofs.lemmas.Bool.{cases_eq, cases_lt}
use Rattle.std.proofs.lemmas.List.{get_or-set_same, get_or-set_other}
use Rattle.std.proofs.lemmas.List.Elements.{Contains-append_right, Contains-get_or, Contains-push_cases}
use Rattle.std.proofs.Math.ListN.{length-set}
use Rattle.std.specs.List.{Contains}
use Rattle.gptp_queue.specs.Waiting.{IsNoLater}
use Rattle.gptp_queue.specs.Order.{among, first_of, part_at, precedes, rest_of, AddsTo, IsLeastOf, IsOrdered, Rise, Takes, TakesLeast, Within}
use Rattle.gptp_queue.specs.Slots.{slot_of, IsFirstFrom, IsNear, IsRing}
use Rattle.gptp_queue.specs.Entry.{Entry}
use Rattle.gptp_queue.proofs.OrderLemmas.{first_least, rise_push, takes_rest}
use Rattle.gptp_queue.proofs.PartLemmas.{added, ordered_before, ordered_behind, takes_within}

-- ---- where an entry stands, from a slot on

module _ (low : ℕ) (queues : List (List Entry)) (near : IsNear low queues) where
  -- ahead of the slot of the lowest time
  time_ahead : (k : ℕ) (e : Entry) → Contains (part_at queues k) e → low % 2048 ≤ k → e.time ≡ low + (k - low % 2048)
  time_ahead k e there h =
      let a = near.not_before k e there in let b = near.near k e there in let s = near.slot k e there in
      omega (arith, a, b, s, h)

  -- or behind it
  time_behind : (k : ℕ) (e : Entry) → Contains (part_at queues k) e → k < low % 2048
      → e.time ≡ low + (2048 + k - low % 2048)
  time_behind k e there h =
      let a = near.not_before k e there in let b = near.near k e there in let s = near.slot k e there in
      omega (arith, a, b, s, h)

  same_slot : (k : ℕ) (e : Entry) → Contains (part_at queues k) e → k < 2048
  same_slot k e there = let s = near.slot k e there in omega (arith, s)

  -- the first of a slot is the least, where no other slot has an earlier entry
  first_in : (k : ℕ) → part_at queues k ≢ [] → ((j : ℕ) (d e : Entry) → Contains (part_at queues k) d
      → Contains (part_at queues j) e → j ≢ k → d.time < e.time)
      → IsLeastOf (Within queues) (first_of (part_at queues k))
      × (first_of (part_at queues k) ≡ first_of (part_at queues (slot_of (first_of (part_at queues k)))))
  first_in k some before = by (part_at queues k) refl some where
    by : (xs : List Entry) → part_at queues k ≡ xs → xs ≢ []
        → IsLeastOf (Within queues) (first_of xs) × (first_of xs ≡ first_of (part_at queues (slot_of (first_of xs))))
    by [] is some = absurd (some refl)
    by (x ∷ xs) is some =
        let here : Contains (part_at queues k) x = rw is (0, omega arith, refl) in
        let rises : Rise (x ∷ xs) = rw is at (near.rise k) in (
          record {
            member = (k, here);
            least = λ e there. elim (cases_eq there.0 k) [
              | inl same ↦
                  let mine : Contains (x ∷ xs) e =
                  rw is at (subst (λ (j : ℕ). Contains (part_at queues j) e) same there.1) in
                  (first_least (x ∷ xs) rises).least e mine
              | inr apart ↦
                  let less = before there.0 x e here there.1 apart in
                  record { by_time = omega (arith, less); by_number = λ same. absurd (omega (arith, less, same)) }
            ];
          },
          ap first_of (sym is) ∙ ap (λ (j : ℕ). first_of (part_at queues j)) (near.slot k x here),
        )

  pub first_ahead : (slot : ℕ) → IsFirstFrom queues (low % 2048) slot
      → IsLeastOf (Within queues) (first_of (part_at queues slot))
      × (first_of (part_at queues slot) ≡ first_of (part_at queues (slot_of (first_of (part_at queues slot)))))
  first_ahead slot is = first_in slot is.some (λ j d e mine other apart.
      let from = is.from in
      let at = time_ahead slot d mine from in
      elim (cases_lt j (low % 2048)) [
        | inl behind ↦ let t = time_behind j e other behind in let w = is.within in
            omega (arith, at, t, from, w, behind)
        | inr ahead ↦ elim (cases_lt j slot) [
          | inl less ↦
              let none : part_at queues j ≡ [] = is.none j ahead less in
              let no_member : Contains [] e = rw none at other in absurd (omega (arith, no_member.1))
          | inr more ↦ let t = time_ahead j e other ahead in omega (arith, at, t, from, more, apart)
        ]
      ])

  module _ (none_ahead : (k : ℕ) → low % 2048 ≤ k → k < 2048 → part_at queues k ≡ []) where
    must_be_behind : (k : ℕ) (e : Entry) → Contains (part_at queues k) e → k < low % 2048
    must_be_behind k e there = elim (cases_lt k (low % 2048)) [
      | inl behind ↦ behind
      | inr ahead ↦
          let none : part_at queues k ≡ [] = none_ahead k ahead (same_slot k e there) in
          let no_member : Contains [] e = rw none at there in absurd (omega (arith, no_member.1))
    ]

    pub first_behind : (slot : ℕ) → IsFirstFrom queues 0 slot
        → IsLeastOf (Within queues) (first_of (part_at queues slot))
        × (first_of (part_at queues slot) ≡ first_of (part_at queues (slot_of (first_of (part_at queues slot)))))
    first_behind slot is = first_in slot is.some (λ j d e mine other apart.
        let one = must_be_behind slot d mine in let two = must_be_behind j e other in
        let at = time_behind slot d mine one in let t = time_behind j e other two in
        elim (cases_lt j slot) [
          | inl less ↦
              let none : part_at queues j ≡ [] = is.none j (omega arith) less in
              let no_member : Contains [] e = rw none at other in absurd (omega (arith, no_member.1))
          | inr more ↦ omega (arith, at, t, one, two, more, apart)
        ])

    pub nothing : ((k : ℕ) → 0 ≤ k → k < 2048 → part_at queues k ≡ []) → (e : Entry) → Within queues e → ⊥
    nothing none e there =
        let empty : part_at queues there.0 ≡ [] = none there.0 (omega arith) (same_slot there.0 e there.1) in
        let no_member : Contains [] e = rw empty at there.1 in omega (arith, no_member.1)

-- ---- as it is kept

module _ (low : ℕ) (queues : List (List Entry)) (near : IsNear low queues) (many : length queues ≡ 2048) where
  slot_there : (o : Option Entry) → slot_of o < length queues
  slot_there None = omega (arith, many)
  slot_there (Some e) = omega (arith, many)

  pub ordered_ahead : (slot : ℕ) → IsFirstFrom queues (low % 2048) slot
      → IsOrdered queues (first_of (part_at queues slot)) (slot_of (first_of (part_at queues slot)))
  ordered_ahead slot is = let both = first_ahead low queues near slot is in
      record { there = slot_there (first_of (part_at queues slot)); is_first = both.1; least = both.0 }

  pub ordered_from_0 : ((k : ℕ) → low % 2048 ≤ k → k < 2048 → part_at queues k ≡ []) → (slot : ℕ)
      → IsFirstFrom queues 0 slot
      → IsOrdered queues (first_of (part_at queues slot)) (slot_of (first_of (part_at queues slot)))
  ordered_from_0 none slot is = let both = first_behind low queues near none slot is in
      record { there = slot_there (first_of (part_at queues slot)); is_first = both.1; least = both.0 }

  pub ordered_none : ((k : ℕ) → low % 2048 ≤ k → k < 2048 → part_at queues k ≡ [])
      → ((k : ℕ) → 0 ≤ k → k < 2048 → part_at queues k ≡ []) → IsOrdered queues None 0
  ordered_none none all = record {
    there = omega (arith, many);
    is_first = ap first_of (sym (all 0 (omega arith) (omega arith)));
    least = nothing low queues near none all;
  }

-- all are due at this time or later
pub near_later : (base time : ℕ) (queues : List (List Entry)) → IsNear base queues
    → ((e : Entry) → Within queues e → time ≤ e.time) → base < time → IsNear time queues
near_later base time queues near later h = record {
  not_before = λ k e there. later e (k, there);
  near = λ k e there. let b = near.near k e there in omega (arith, b, h);
  slot = near.slot;
  rise = near.rise;
}

rest_contained : (xs : List Entry) (e : Entry) → Contains (rest_of xs) e → Contains xs e
rest_contained [] e there = there
rest_contained (x ∷ xs) e there = Contains-append_right (x ∷ []) xs e there

rise_rest : (xs : List Entry) → Rise xs → Rise (rest_of xs)
rise_rest [] rises = rises
rise_rest (x ∷ xs) rises = rises.1

module _ (queues : List (List Entry)) (slot : ℕ) (within : slot < length queues) where
  abbrev left : List (List Entry)
  left = set queues slot (rest_of (part_at queues slot))

  was_there : (k : ℕ) (e : Entry) → Contains (part_at left k) e → Contains (part_at queues k) e
  was_there k e there = elim (cases_eq k slot) [
    | inr apart ↦ rw (get_or-set_other queues slot k (rest_of (part_at queues slot)) [] apart) at there
    | inl same ↦
        let mine : Contains (part_at left slot) e = subst (λ (j : ℕ). Contains (part_at left j) e) same there in
        let rest = rw (get_or-set_same queues slot (rest_of (part_at queues slot)) [] within) at mine in
        subst (λ (j : ℕ). Contains (part_at queues j) e) (sym same) (rest_contained (part_at queues slot) e rest)
  ]

  rise_left : (k : ℕ) → ((j : ℕ) → Rise (part_at queues j)) → Rise (part_at left k)
  rise_left k rises = elim (cases_eq k slot) [
    | inr apart ↦ rw (get_or-set_other queues slot k (rest_of (part_at queues slot)) [] apart) (rises k)
    | inl same ↦ subst (λ (j : ℕ). Rise (part_at left j)) (sym same)
        (rw (get_or-set_same queues slot (rest_of (part_at queues slot)) [] within)
        (rise_rest (part_at queues slot) (rises slot)))
  ]

  pub near_left : (base low : ℕ) → IsNear base queues → base ≤ low → ((e : Entry) → Within queues e → low ≤ e.time)
      → IsNear low left
  near_left base low near h later = record {
    not_before = λ k e there. later e (k, was_there k e there);
    near = λ k e there. let b = near.near k e (was_there k e there) in omega (arith, b, h);
    slot = λ k e there. near.slot k e (was_there k e there);
    rise = λ k. rise_left k near.rise;
  }

  pub taken_left : (d : Entry) → Some d ≡ first_of (part_at queues slot) → TakesLeast queues left d
  taken_left d is =
      let whole : Takes (part_at queues slot) (rest_of (part_at queues slot)) (Some d) =
      rw (← is) at (takes_rest (part_at queues slot)) in
      takes_within queues slot (rest_of (part_at queues slot)) within d whole

-- an entry comes to the slot of its time
module _ (base : ℕ) (queues : List (List Entry)) (first : Option Entry) (d : Entry) (ring : IsRing base queues first)
    (from : base ≤ d.time) (below : d.time < base + 2048) (highest : (e : Entry) → Within queues e
    → e.number ≤ d.number)
  where
    abbrev slot : ℕ
    slot = d.time % 2048

    abbrev longer : List (List Entry)
    longer = set queues slot (part_at queues slot ++ d ∷ [])

    in_range : slot < length queues
    in_range = let many = ring.many in omega (arith, many)

    here : part_at longer slot ≡ part_at queues slot ++ d ∷ []
    here = get_or-set_same queues slot (part_at queues slot ++ d ∷ []) [] in_range

    there : (k : ℕ) → k ≢ slot → part_at longer k ≡ part_at queues k
    there k apart = get_or-set_other queues slot k (part_at queues slot ++ d ∷ []) [] apart

    no_later_than : (e : Entry) → Contains (part_at queues slot) e → IsNoLater e d
    no_later_than e among =
        let a = ring.near.not_before slot e among in let b = ring.near.near slot e among in
        let s = ring.near.slot slot e among in let n = highest e (slot, among) in record {
          by_time = omega (arith, a, b, s, from, below);
          by_number = λ same. n;
        }

    rises : Rise (part_at queues slot ++ d ∷ [])
    rises = rise_push (part_at queues slot) d (ring.near.rise slot)
        (λ x some. no_later_than (get_or (part_at queues slot) (length (part_at queues slot) - 1) x)
        (Contains-get_or (part_at queues slot) (length (part_at queues slot) - 1) x (omega (arith, some))))

    -- what holds of all entries of each slot, and of the new one in its own
    each : (P : ℕ → Entry → Type 0) → ((k : ℕ) (e : Entry) → Contains (part_at queues k) e → P k e) → P slot d
        → (k : ℕ) (e : Entry) → Contains (part_at longer k) e → P k e
    each P old new k e among = elim (cases_eq k slot) [
      | inr apart ↦ old k e (rw (there k apart) at among)
      | inl same ↦
          let mine : Contains (part_at queues slot ++ d ∷ []) e =
          rw here at (subst (λ (j : ℕ). Contains (part_at longer j) e) same among) in
          subst (λ (j : ℕ). P j e) (sym same) (elim (Contains-push_cases (part_at queues slot) d e mine) [
            | inl before ↦ old slot e before
            | inr is ↦ subst (P slot) is new
          ])
    ]

    near_longer : IsNear base longer
    near_longer = record {
      not_before = each (λ k e. base ≤ e.time) ring.near.not_before from;
      near = each (λ k e. e.time < base + 2048) ring.near.near below;
      slot = each (λ k e. k ≡ e.time % 2048) ring.near.slot refl;
      rise = λ k. elim (cases_eq k slot) [
        | inr apart ↦ rw (there k apart) (ring.near.rise k)
        | inl same ↦ subst (λ (j : ℕ). Rise (part_at longer j)) (sym same) (rw here rises)
      ];
    }

    many_longer : length longer ≡ 2048
    many_longer = length-set queues slot (part_at queues slot ++ d ∷ []) ∙ ring.many

    pub ring_adds : AddsTo (Within queues) (Within longer) d
    ring_adds = added queues slot d in_range

    pub ring_before : precedes d first ≡ true → IsRing base longer (Some d)
    ring_before h = record {
      many = many_longer;
      near = near_longer;
      ordered = ordered_before queues first (slot_of first) slot d ring.ordered in_range rises h;
    }

    pub ring_behind : precedes d first ≡ false → IsRing base longer first
    ring_behind h = record {
      many = many_longer;
      near = near_longer;
      ordered = ordered_behind queues first (slot_of first) slot d ring.ordered in_range rises h;
    }

-- ---- no entry

no_first : (xs : List Entry) → ((e : Entry) → Contains xs e → ⊥) → xs ≡ []
no_first [] none = refl
no_first (x ∷ xs) none = absurd (none x (0, omega arith, refl))

pub ordered_empty : (queues : List (List Entry)) → length queues ≡ 2048 → ((e : Entry) → Within queues e → ⊥)
    → IsOrdered queues None 0
ordered_empty queues many none = record {
  there = omega (arith, many);
  is_first = ap first_of (sym (no_first (part_at queues 0) (λ e there. none e (0, there))));
  least = none;
}

pub empty_ring : (queues : List (List Entry)) → length queues ≡ 2048 → ((e : Entry) → Within queues e → ⊥)
    → IsRing 0 queues None
empty_ring queues many none = record {
  many = many;
  near = record {
    not_before = λ k e there. absurd (none e (k, there));
    near = λ k e there. absurd (none e (k, there));
    slot = λ k e there. absurd (none e (k, there));
    rise = λ k. rw (no_first (part_at queues k) (λ e there. none e (k, there))) tt;
  };
  ordered = ordered_empty queues many none;
}

-- ---- the least was taken out

module _ (base : ℕ) (queues : List (List Entry)) (first : Option Entry) (f : Entry) (ring : IsRing base queues first)
    (is : first ≡ Some f) where
  ordered_first : IsOrdered queues (Some f) (f.time % 2048)
  ordered_first = let P : Option Entry → Type 0 = λ o. IsOrdered queues o (slot_of o) in subst P is ring.ordered

  no_earlier : (e : Entry) → Within queues e → f.time ≤ e.time
  no_earlier e there = (ordered_first.least.least e there).by_time

  not_below : base ≤ f.time
  not_below = let there = ordered_first.least.member in ring.near.not_before there.0 f there.1

  pub near_taken : IsNear f.time (set queues (f.time % 2048) (rest_of (part_at queues (f.time % 2048))))
  near_taken = near_left queues (f.time % 2048) ordered_first.there base f.time ring.near not_below no_earlier

  pub ring_taken : (next : Option Entry)
      → IsOrdered (set queues (f.time % 2048) (rest_of (part_at queues (f.time % 2048)))) next (slot_of next)
      → IsRing base (set queues (f.time % 2048) (rest_of (part_at queues (f.time % 2048)))) next
  ring_taken next ordered = record {
    many = length-set queues (f.time % 2048) (rest_of (part_at queues (f.time % 2048))) ∙ ring.many;
    near = near_left queues (f.time % 2048) ordered_first.there base base ring.near (omega arith)
        (λ e there. ring.near.not_before there.0 e there.1);
    ordered = ordered;
  }

  pub took_least : TakesLeast queues (set queues (f.time % 2048) (rest_of (part_at queues (f.time % 2048)))) f
  took_least = taken_left queues (f.time % 2048) ordered_first.there f ordered_first.is_first
