-- The slots of a ring, and the bits that say which have an entry.
use Rattle.std.proofs.Common.{◌≡◌, ◌≢◌, ℕ, ◌+◌, ◌-◌, ◌*◌, ◌/◌, ◌%◌, ◌^◌, ◌<◌, ◌≤◌, List, [], ◌∷◌, ◌++◌, length, get_or, set, replicate, bit_and, bit_or, w64, refl, sym, ap, subst, ◌∙◌, inl, inr, arith}
use Rattle.std.specs.Int.{bit_at, bit_not, trailing_zeros}
use Rattle.std.proofs.lemmas.Bool.{cases_eq, cases_lt}
use Rattle.std.proofs.Math.ListN.{length-set}
use Rattle.std.proofs.lemmas.List.{get_or-replicate, get_or-set_same, get_or-set_other}
use Rattle.std.proofs.lemmas.Nat.Bits.{bit_at_above, bit_at-zero, bit_at-trailing_zeros, bit_at_set_same, bit_at_set_other, bit_at_clear_same, bit_at_clear_other}
use native.Mathlib.Nat.{div-div-eq-div-mul, div-le_self}
use Rattle.std.proofs.lemmas.Nat.{pow-add}
use Rattle.std.specs.List.{Contains}
use Rattle.gptp_queue.specs.Order.{part_at, rest_of, Within}
use Rattle.gptp_queue.specs.Slots.{slot_bit, AreFilled, IsFirstFrom}
use Rattle.gptp_queue.specs.Entry.{Entry}

-- ---- no entry

pub nothing_queued : (queues : List (List Entry)) → ((k : ℕ) → part_at queues k ≡ []) → (e : Entry) → Within queues e
    → ⊥
nothing_queued queues none e (k, there) =
    let no_member : Contains [] e = rw (none k) at there in omega (arith, no_member.1)

pub filled-none : (queues : List (List Entry)) → length queues ≡ 2048 → ((k : ℕ) → part_at queues k ≡ [])
    → AreFilled (replicate 32 0) queues
filled-none queues many none = record {
  words = refl;
  slots = many;
  clear = λ slot small bit. none slot;
  set = λ slot small bit.
      absurd (omega (
        arith,
        sym bit ∙ ap (λ n. bit_at n (slot % 64)) (get_or-replicate 32 (slot / 64) 0 0 (omega arith))
            ∙ bit_at-zero (slot % 64),
      ));
}

-- ---- bits

module _ (filled : List ℕ) (slot word : ℕ) (within : slot / 64 < length filled) where
  bit-set_same : slot_bit (set filled (slot / 64) word) slot ≡ bit_at word (slot % 64)
  bit-set_same = ap (λ n. bit_at n (slot % 64)) (get_or-set_same filled (slot / 64) word 0 within)

  -- a word that keeps its other bits keeps the bit of each other slot
  bit-set_other : ((i : ℕ) → i < 64 → i ≢ slot % 64 → bit_at word i ≡ bit_at (get_or filled (slot / 64) 0) i)
      → (other : ℕ) → other ≢ slot → slot_bit (set filled (slot / 64) word) other ≡ slot_bit filled other
  bit-set_other kept other differs =
      elim (cases_eq (other / 64) (slot / 64)) [
        | inl same ↦ rw (same, get_or-set_same filled (slot / 64) word 0 within)
            (kept (other % 64) (omega arith) (λ index. differs (omega arith)))
        | inr apart ↦ ap (λ n. bit_at n (other % 64)) (get_or-set_other filled (slot / 64) (other / 64) word 0 apart)
      ]

module _ (filled : List ℕ) (queues : List (List Entry)) (slot : ℕ) (queue : List Entry) (small : slot < 2048)
    (sound : AreFilled filled queues) where
  within : slot < length queues
  within = let l = sound.slots in omega (arith, l, small)

  pub here : part_at (set queues slot queue) slot ≡ queue
  here = get_or-set_same queues slot queue [] within

  there : (k : ℕ) → k ≢ slot → part_at (set queues slot queue) k ≡ part_at queues k
  there k apart = get_or-set_other queues slot k queue [] apart

  pub filled-set : queue ≢ []
      → AreFilled (set filled (slot / 64) (bit_or (get_or filled (slot / 64) 0) (1 * 2 ^ (slot % 64) % 2 ^ 64)))
      (set queues slot queue)
  filled-set some =
      let inside : slot / 64 < length filled = omega (arith, sound.words) in
      let index : slot % 64 < 64 = omega arith in
      let bit_here = bit-set_same filled slot _ inside
      ∙ bit_at_set_same w64 (get_or filled (slot / 64) 0) (slot % 64) index in
      let others = bit-set_other filled slot _ inside
      (λ i below differs. bit_at_set_other w64 (get_or filled (slot / 64) 0) (slot % 64) index i differs) in
      record {
        words = length-set filled _ _ ∙ sound.words;
        slots = length-set queues _ _ ∙ sound.slots;
        clear = λ other small bit.
            elim (cases_eq other slot) [
              | inl same ↦ absurd (omega (arith, bit_here, rw same at bit))
              | inr differs ↦ there other differs ∙ sound.clear other small (sym (others other differs) ∙ bit)
            ];
        set = λ other small bit.
            elim (cases_eq other slot) [
              | inl same ↦ rw (same, here) some
              | inr differs ↦ rw (there other differs) (sound.set other small (sym (others other differs) ∙ bit))
            ];
      }

  pub filled-clear : part_at (set queues slot queue) slot ≡ []
      → AreFilled (set filled (slot / 64)
      (bit_and (get_or filled (slot / 64) 0) (bit_not w64 (1 * 2 ^ (slot % 64) % 2 ^ 64))))
      (set queues slot queue)
  filled-clear none =
      let inside : slot / 64 < length filled = omega (arith, sound.words) in
      let index : slot % 64 < 64 = omega arith in
      let bit_here = bit-set_same filled slot _ inside
      ∙ bit_at_clear_same w64 (get_or filled (slot / 64) 0) (slot % 64) index in
      let others = bit-set_other filled slot _ inside
      (λ i below differs. bit_at_clear_other w64 (get_or filled (slot / 64) 0) (slot % 64) index i below differs) in
      record {
        words = length-set filled _ _ ∙ sound.words;
        slots = length-set queues _ _ ∙ sound.slots;
        clear = λ other small bit.
            elim (cases_eq other slot) [
              | inl same ↦ ap (part_at (set queues slot queue)) same ∙ none
              | inr differs ↦ there other differs ∙ sound.clear other small (sym (others other differs) ∙ bit)
            ];
        set = λ other small bit.
            elim (cases_eq other slot) [
              | inl same ↦ absurd (omega (arith, bit_here, rw same at bit))
              | inr differs ↦ rw (there other differs) (sound.set other small (sym (others other differs) ∙ bit))
            ];
      }

  -- a slot that has an entry before and after
  pub filled-same : part_at queues slot ≢ [] → part_at (set queues slot queue) slot ≢ []
      → AreFilled filled (set queues slot queue)
  filled-same was some = record {
    words = sound.words;
    slots = length-set queues _ _ ∙ sound.slots;
    clear = λ other below bit.
        elim (cases_eq other slot) [
          | inl same ↦ absurd (was (sound.clear slot small (subst (λ (k : ℕ). slot_bit filled k ≡ 0) same bit)))
          | inr differs ↦ there other differs ∙ sound.clear other below bit
        ];
    set = λ other below bit.
        elim (cases_eq other slot) [
          | inl same ↦ rw same some
          | inr differs ↦ rw (there other differs) (sound.set other below bit)
        ];
  }

-- ---- the first that has an entry

module _ (filled : List ℕ) (queues : List (List Entry)) (sound : AreFilled filled queues) where
  module _ (word : ℕ) (below : word < 32) where
    -- a word with no bit set has no entry
    pub word-empty : get_or filled word 0 ≡ 0 → (slot : ℕ) → slot / 64 ≡ word → part_at queues slot ≡ []
    word-empty clear slot at = sound.clear slot (omega arith) (rw (at, clear) (bit_at-zero (slot % 64)))

    module _ (some : 0 < get_or filled word 0) (fits : get_or filled word 0 < 2 ^ 64) where
      pub lowest-filled : part_at queues (word * 64 + trailing_zeros w64 (get_or filled word 0)) ≢ []
      lowest-filled =
          let bits = get_or filled word 0 in
          let lowest = bit_at-trailing_zeros w64 bits some fits in
          let at : (word * 64 + trailing_zeros w64 bits) / 64 ≡ word = omega (arith, lowest.0) in
          let index : (word * 64 + trailing_zeros w64 bits) % 64 ≡ trailing_zeros w64 bits = omega (arith, lowest.0) in
          sound.set _ (omega (arith, lowest.0)) (rw (at, index) lowest.1)

      pub below-lowest : (slot : ℕ) → slot / 64 ≡ word → slot < word * 64 + trailing_zeros w64 (get_or filled word 0)
          → part_at queues slot ≡ []
      below-lowest slot at before =
          sound.clear slot (omega arith)
          (rw at ((bit_at-trailing_zeros w64 _ some fits).2 (slot % 64) (omega arith)))

      pub found_in : (low : ℕ) → low / 64 < word → ((k : ℕ) → low ≤ k → k / 64 < word → part_at queues k ≡ [])
          → IsFirstFrom queues low (word * 64 + trailing_zeros w64 (get_or filled word 0))
      found_in low h none =
          let lowest = bit_at-trailing_zeros w64 (get_or filled word 0) some fits in record {
            from = omega arith;
            within = omega (arith, lowest.0);
            some = lowest-filled;
            none = λ k from before. elim (cases_lt (k / 64) word) [
              | inl earlier ↦ none k from earlier
              | inr here ↦ below-lowest k (omega (arith, here, before, lowest.0)) before
            ];
          }

-- the bits from a slot on
bit_ahead : (n k i : ℕ) → bit_at (n / 2 ^ k) i ≡ bit_at n (k + i)
bit_ahead n k i = ap (λ (m : ℕ). m % 2) (div-div-eq-div-mul n (2 ^ k) (2 ^ i)
    ∙ ap (λ (m : ℕ). n / m) (sym (pow-add 2 k i)))

-- a slot's bit in its word
module _ (filled : List ℕ) (queues : List (List Entry)) (sound : AreFilled filled queues) (low : ℕ)
    (small : low < 2048) where
  -- what stands in the word of a slot, at it or behind it
  slot_ahead : (i : ℕ) → low % 64 + i < 64
      → slot_bit filled (low + i) ≡ bit_at (get_or filled (low / 64) 0 / 2 ^ (low % 64)) i
  slot_ahead i h =
      let word : (low + i) / 64 ≡ low / 64 = omega (arith, h) in
      let index : (low + i) % 64 ≡ low % 64 + i = omega (arith, h) in
      rw (word, index) (sym (bit_ahead (get_or filled (low / 64) 0) (low % 64) i))

  pub ahead_none : get_or filled (low / 64) 0 / 2 ^ (low % 64) ≡ 0 → (k : ℕ) → low ≤ k → k / 64 < low / 64 + 1
      → part_at queues k ≡ []
  ahead_none none k from here =
      let i : ℕ = k - low in
      let at : low + (k - low) ≡ k = omega (arith, from) in
      let bit = slot_ahead (k - low) (omega (arith, from, here)) in
      let clear : slot_bit filled (low + (k - low)) ≡ 0 = bit ∙ ap (λ (n : ℕ). bit_at n (k - low)) none
      ∙ bit_at-zero (k - low) in
      sound.clear k (omega (arith, from, here, small)) (rw at at clear)

  module _ (fits : get_or filled (low / 64) 0 < 2 ^ 64) (some : 0 < get_or filled (low / 64) 0 / 2 ^ (low % 64)) where
    lowest : (trailing_zeros w64 (get_or filled (low / 64) 0 / 2 ^ (low % 64)) < 64)
        × (bit_at (get_or filled (low / 64) 0 / 2 ^ (low % 64))
        (trailing_zeros w64 (get_or filled (low / 64) 0 / 2 ^ (low % 64))) ≡ 1)
        × ((i : ℕ) → i < trailing_zeros w64 (get_or filled (low / 64) 0 / 2 ^ (low % 64))
        → bit_at (get_or filled (low / 64) 0 / 2 ^ (low % 64)) i ≡ 0)
    lowest = bit_at-trailing_zeros w64 (get_or filled (low / 64) 0 / 2 ^ (low % 64)) some
        (let less = div-le_self (get_or filled (low / 64) 0) (2 ^ (low % 64)) in omega (arith, less, fits))

    inside : low % 64 + trailing_zeros w64 (get_or filled (low / 64) 0 / 2 ^ (low % 64)) < 64
    inside = elim (cases_lt (low % 64 + trailing_zeros w64 (get_or filled (low / 64) 0 / 2 ^ (low % 64))) 64) [
      | inl within ↦ within
      | inr past ↦
          let none = bit_at_above (get_or filled (low / 64) 0) 64 _ fits past in
          let is = sym (bit_ahead (get_or filled (low / 64) 0) (low % 64) _) ∙ lowest.1 in
          absurd (omega (arith, none, is))
    ]

    pub ahead_some : IsFirstFrom queues low (low + trailing_zeros w64 (get_or filled (low / 64) 0 / 2 ^ (low % 64)))
    ahead_some = record {
      from = omega arith;
      within = let h = inside in omega (arith, h, small);
      some = sound.set (low + trailing_zeros w64 (get_or filled (low / 64) 0 / 2 ^ (low % 64)))
          (let h = inside in omega (arith, h, small)) (slot_ahead _ inside ∙ lowest.1);
      none = λ k from before.
          let h = inside in
          let at : low + (k - low) ≡ k = omega (arith, from) in
          let clear = slot_ahead (k - low) (omega (arith, from, before, h))
          ∙ lowest.2 (k - low) (omega (arith, from, before)) in
          sound.clear k (omega (arith, before, h, small)) (rw at at clear);
    }

-- ---- an entry came, or the first is gone

pub push_some : (xs : List Entry) (e : Entry) → xs ++ e ∷ [] ≢ []
push_some [] e is = let lengths = ap length is in omega (arith, lengths)
push_some (x ∷ xs) e is = let lengths = ap length is in omega (arith, lengths)

pub rest_some : (xs : List Entry) → rest_of xs ≢ [] → xs ≢ []
rest_some [] some = some
rest_some (x ∷ xs) some = λ is. let lengths = ap length is in omega (arith, lengths)
