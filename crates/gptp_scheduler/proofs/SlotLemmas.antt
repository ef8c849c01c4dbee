-- How the bits of the slots follow their chains.
use Rattle.std.proofs.Common.{◌≡◌, ◌≢◌, ℕ, ◌+◌, ◌*◌, ◌/◌, ◌%◌, ◌^◌, ◌<◌, ◌≤◌, List, [], length, get_or, set, replicate, None, IsSome, bit_and, bit_or, w64, refl, sym, ap, ◌∙◌, inl, inr, arith, length-set, get_or-set_same, get_or-set_other}
use Rattle.std.specs.Int.{bit_at, bit_not, trailing_zeros}
use Rattle.std.proofs.lemmas.Bool.{cases_eq, cases_lt}
use Rattle.std.proofs.lemmas.List.{get_or-replicate, get_or_past}
use Rattle.std.proofs.lemmas.Nat.Bits.{bit_at-zero, bit_at-trailing_zeros, bit_at_set_same, bit_at_set_other, bit_at_clear_same, bit_at_clear_other}
use Rattle.gptp_scheduler.specs.Chain.{ends_at, no_ends}
use Rattle.gptp_scheduler.specs.Slots.{slot_bit, AreFilled, SameEnds}
use Rattle.gptp_scheduler.specs.declared.slots.Ends.{Ends}

pub filled-same : (filled : List ℕ) (ends new : List Ends) → SameEnds ends new → AreFilled filled ends
    → AreFilled filled new
filled-same filled ends new same sound = record {
  words = sound.words;
  clear = λ slot small bit. ap (λ e. e.first) (same slot) ∙ sound.clear slot small bit;
  set = λ slot small bit. rw (same slot) (sound.set slot small bit);
}

pub filled-none : AreFilled (replicate 32 0) []
filled-none = record {
  words = refl;
  clear = λ slot small bit. refl;
  set = λ slot small bit.
      absurd (omega (
        arith,
        sym bit ∙ ap (λ n. bit_at n (slot % 64)) (get_or-replicate 32 (slot / 64) 0 0 (omega arith))
            ∙ bit_at-zero (slot % 64),
      ));
}

-- chains that were added have no entry
pub resized : (ends new : List Ends) (len : ℕ) → length ends ≤ len
    → ((k : ℕ) (d : Ends) → k < len → k < length ends → get_or new k d ≡ get_or ends k d)
    → ((k : ℕ) (d : Ends) → length ends ≤ k → k < len → get_or new k d ≡ no_ends)
    → length new ≡ len → SameEnds ends new
resized ends new len h kept added is slot = elim (cases_lt slot (length ends)) [
  | inl within ↦ kept slot no_ends (omega arith) within
  | inr past ↦ elim (cases_lt slot len) [
    | inl here ↦ added slot no_ends past here ∙ sym (get_or_past ends slot no_ends past)
    | inr out ↦ get_or_past new slot no_ends (omega (arith, is)) ∙ sym (get_or_past ends slot no_ends past)
  ]
]

module _ (ends : List Ends) (slot : ℕ) (new : Ends) where
  pub ends-set_same : slot < length ends → ends_at (set ends slot new) slot ≡ new
  ends-set_same within = get_or-set_same ends slot new no_ends within

  pub ends-set_other : (other : ℕ) → other ≢ slot → ends_at (set ends slot new) other ≡ ends_at ends other
  ends-set_other other differs = get_or-set_other ends slot other new no_ends differs

module _ (filled : List ℕ) (slot word : ℕ) (within : slot / 64 < length filled) where
  bit-set_same : slot_bit (set filled (slot / 64) word) slot ≡ bit_at word (slot % 64)
  bit-set_same = ap (λ n. bit_at n (slot % 64)) (get_or-set_same filled (slot / 64) word 0 within)

  -- a word that keeps its other bits keeps the bit of each other slot
  bit-set_other : ((i : ℕ) → i < 64 → i ≢ slot % 64 → bit_at word i ≡ bit_at (get_or filled (slot / 64) 0) i)
      → (other : ℕ) → other ≢ slot → slot_bit (set filled (slot / 64) word) other ≡ slot_bit filled other
  bit-set_other kept other differs =
      elim (cases_eq (other / 64) (slot / 64)) [
        | inl same ↦ rw (same, get_or-set_same filled (slot / 64) word 0 within)
            (kept (other % 64) (omega arith) (λ index. differs (omega arith)))
        | inr apart ↦ ap (λ n. bit_at n (other % 64)) (get_or-set_other filled (slot / 64) (other / 64) word 0 apart)
      ]

module _ (filled : List ℕ) (ends : List Ends) (slot : ℕ) (new : Ends) (in_levels : slot < 2048)
    (within : slot < length ends) (sound : AreFilled filled ends) where
  pub filled-set : IsSome new.first
      → AreFilled (set filled (slot / 64) (bit_or (get_or filled (slot / 64) 0) (1 * 2 ^ (slot % 64) % 2 ^ 64)))
      (set ends slot new)
  filled-set some =
      let inside : slot / 64 < length filled = omega (arith, sound.words) in
      let index : slot % 64 < 64 = omega arith in
      let here = bit-set_same filled slot _ inside
      ∙ bit_at_set_same w64 (get_or filled (slot / 64) 0) (slot % 64) index in
      let others = bit-set_other filled slot _ inside
      (λ i below differs. bit_at_set_other w64 (get_or filled (slot / 64) 0) (slot % 64) index i differs) in
      record {
        words = length-set filled _ _ ∙ sound.words;
        clear = λ other small bit.
            elim (cases_eq other slot) [
              | inl same ↦ absurd (omega (arith, here, rw same at bit))
              | inr differs ↦ ap (λ e. e.first) (ends-set_other ends slot new other differs)
                  ∙ sound.clear other small (sym (others other differs) ∙ bit)
            ];
        set = λ other small bit.
            elim (cases_eq other slot) [
              | inl same ↦ rw (same, ends-set_same ends slot new within) some
              | inr differs ↦ rw (ends-set_other ends slot new other differs)
                  (sound.set other small (sym (others other differs) ∙ bit))
            ];
      }

  pub filled-clear : new.first ≡ None
      → AreFilled (set filled (slot / 64)
      (bit_and (get_or filled (slot / 64) 0) (bit_not w64 (1 * 2 ^ (slot % 64) % 2 ^ 64))))
      (set ends slot new)
  filled-clear none =
      let inside : slot / 64 < length filled = omega (arith, sound.words) in
      let index : slot % 64 < 64 = omega arith in
      let here = bit-set_same filled slot _ inside
      ∙ bit_at_clear_same w64 (get_or filled (slot / 64) 0) (slot % 64) index in
      let others = bit-set_other filled slot _ inside
      (λ i below differs. bit_at_clear_other w64 (get_or filled (slot / 64) 0) (slot % 64) index i below differs) in
      record {
        words = length-set filled _ _ ∙ sound.words;
        clear = λ other small bit.
            elim (cases_eq other slot) [
              | inl same ↦ ap (λ o. (ends_at (set ends slot new) o).first) same
                  ∙ ap (λ e. e.first) (ends-set_same ends slot new within) ∙ none
              | inr differs ↦ ap (λ e. e.first) (ends-set_other ends slot new other differs)
                  ∙ sound.clear other small (sym (others other differs) ∙ bit)
            ];
        set = λ other small bit.
            elim (cases_eq other slot) [
              | inl same ↦ absurd (omega (arith, here, rw same at bit))
              | inr differs ↦ rw (ends-set_other ends slot new other differs)
                  (sound.set other small (sym (others other differs) ∙ bit))
            ];
      }

module _ (filled : List ℕ) (ends : List Ends) (sound : AreFilled filled ends) (word : ℕ) (below : word < 32) where
  -- a word with no bit set has no entry
  pub word-empty : get_or filled word 0 ≡ 0 → (slot : ℕ) → slot / 64 ≡ word → (ends_at ends slot).first ≡ None
  word-empty clear slot at = sound.clear slot (omega arith) (rw (at, clear) (bit_at-zero (slot % 64)))

  module _ (some : 0 < get_or filled word 0) (fits : get_or filled word 0 < 2 ^ 64) where
    pub lowest-filled : IsSome (ends_at ends (word * 64 + trailing_zeros w64 (get_or filled word 0))).first
    lowest-filled =
        let bits = get_or filled word 0 in
        let lowest = bit_at-trailing_zeros w64 bits some fits in
        let at : (word * 64 + trailing_zeros w64 bits) / 64 ≡ word = omega (arith, lowest.0) in
        let index : (word * 64 + trailing_zeros w64 bits) % 64 ≡ trailing_zeros w64 bits = omega (arith, lowest.0) in
        sound.set _ (omega (arith, lowest.0)) (rw (at, index) lowest.1)

    pub below-lowest : (slot : ℕ) → slot / 64 ≡ word → slot < word * 64 + trailing_zeros w64 (get_or filled word 0)
        → (ends_at ends slot).first ≡ None
    below-lowest slot at before =
        sound.clear slot (omega arith) (rw at ((bit_at-trailing_zeros w64 _ some fits).2 (slot % 64) (omega arith)))
