-- Which times stand before which, and which stay where they are when the base moves.
use Rattle.std.proofs.Common.{◌≡◌, ◌≢◌, ℕ, ◌+◌, ◌-◌, ◌*◌, ◌/◌, ◌%◌, ◌^◌, ◌<◌, ◌≤◌, bit_xor, refl, sym, ap, ◌∙◌, inl, inr, arith, pow_pos, pow_mono, le_trans, div-mul-le_self}
use Rattle.std.specs.Int.Bits.{xor_self}
use Rattle.std.proofs.lemmas.Bool.{cases_eq, cases_lt}
use Rattle.std.proofs.lemmas.Grind.{pow_more}
use Rattle.std.proofs.lemmas.Nat.{shr-shr, xor_shr, le-div, div_below}
use Rattle.std.proofs.lemmas.Nat.Bits.{same_from_bits, bit_at_xor, bit_at-zero, bit_at-lt}
use Rattle.gptp_scheduler.specs.Places.{tick, IsInLevels, IsPlace}

same_from_xor : (a b : ℕ) → bit_xor a b ≡ 0 → a ≡ b
same_from_xor a b none =
    same_from_bits a b
    (λ i. omega (
      arith,
      sym (bit_at_xor a b i) ∙ ap (λ n. n / 2 ^ i % 2) none
          ∙ bit_at-zero i,
      bit_at-lt a i,
      bit_at-lt b i,
    ))

pub xor_pos : (a b : ℕ) → a ≢ b → 0 < bit_xor a b
xor_pos a b differ =
    elim (cases_lt 0 (bit_xor a b)) [
      | inl some ↦ some
      | inr none ↦ absurd (differ (same_from_xor a b (omega arith)))
    ]

tick-le : (height a b : ℕ) → a ≤ b → tick height a ≤ tick height b
unfolding tick
tick-le height a b below = le-div _ b _ (pow_pos (height * 8)) (le_trans (div-mul-le_self a _) below)

lt_from_tick : (height a b : ℕ) → tick height a < tick height b → a < b
lt_from_tick height a b below =
    elim (cases_lt a b) [ inl before ↦ before | inr after ↦ absurd (omega (arith, tick-le height b a after)) ]

tick-zero : (time : ℕ) → tick 0 time ≡ time
unfolding tick
tick-zero time = omega arith

-- a tick of a higher level follows from the window of a lower one
tick_above : (low high time : ℕ) → low < high
    → tick high time ≡ tick low time / 256 / 2 ^ ((high - low - 1) * 8)
unfolding tick
tick_above low high time above =
    let sum : high * 8 ≡ low * 8 + 8 + (high - low - 1) * 8 = omega arith in
    ap (λ k. time / 2 ^ k) sum ∙ sym (shr-shr time (low * 8 + 8) _)
    ∙ ap (λ n. n / 2 ^ ((high - low - 1) * 8)) (sym (shr-shr time (low * 8) 8))

window_above : (low high a b : ℕ) → low < high → tick low a / 256 ≡ tick low b / 256 → tick high a ≡ tick high b
window_above low high a b above same =
    tick_above low high a above ∙ ap (λ n. n / 2 ^ ((high - low - 1) * 8)) same ∙ sym (tick_above low high b above)

-- ---- the level of a time

module _ (base time bit : ℕ) (before : base < time) (low : 2 ^ bit ≤ bit_xor base time)
    (high : bit_xor base time < 2 * 2 ^ bit) where
  window-highest : tick (bit / 8) time / 256 ≡ tick (bit / 8) base / 256
  unfolding tick
  window-highest =
      let shift = bit / 8 * 8 in
      let above : 2 ^ (bit + 1) ≤ 2 ^ (shift + 8) = pow_mono (omega arith) in
      let top : bit_xor base time < 1 * 2 ^ (shift + 8) = omega (arith, pow_more 2 bit) in
      let none : bit_xor base time / 2 ^ (shift + 8) ≡ 0 = omega (arith, div_below _ _ 1 (pow_pos (shift + 8)) top) in
      let same = same_from_xor (base / 2 ^ (shift + 8)) (time / 2 ^ (shift + 8))
      (sym (xor_shr base time (shift + 8)) ∙ none) in
      shr-shr time shift 8 ∙ sym same ∙ sym (shr-shr base shift 8)

  differs-highest : tick (bit / 8) base < tick (bit / 8) time
  unfolding tick
  differs-highest =
      let shift = bit / 8 * 8 in
      let below : 2 ^ shift ≤ 2 ^ bit = pow_mono (omega arith) in
      let some : 1 ≤ bit_xor base time / 2 ^ shift = le-div 1 _ _ (pow_pos shift) (omega arith) in
      let differ : base / 2 ^ shift ≢ time / 2 ^ shift =
      λ equal. omega (
        arith,
        xor_shr base time shift ∙ ap (λ n. bit_xor n (time / 2 ^ shift)) equal
            ∙ xor_self (time / 2 ^ shift),
      ) in
      let order : base / 2 ^ shift ≤ time / 2 ^ shift = tick-le (bit / 8) base time (omega arith) in omega arith

  pub place-highest : time < 2 ^ 64 → bit < 64
      → IsInLevels base time (bit / 8 * 256 + time / 2 ^ (bit / 8 * 8) % 256)
  unfolding tick
  place-highest fits small =
      let at : (bit / 8 * 256 + time / 2 ^ (bit / 8 * 8) % 256) / 256 ≡ bit / 8 = omega arith in
      record {
        not_below = omega arith;
        within = omega arith;
        window = rw at window-highest;
        differs = λ some. rw at differs-highest;
        octet = rw at (omega arith);
      }

pub place-base : (time : ℕ) → IsInLevels time time (time % 256)
place-base time =
    let at : time % 256 / 256 ≡ 0 = omega arith in record {
      not_below = omega arith;
      within = omega arith;
      window = refl;
      differs = λ some. absurd (omega arith);
      octet = rw at (omega (arith, tick-zero time));
    }

-- ---- two times

module _ (base time other slot higher : ℕ) (one : IsInLevels base time slot) (two : IsInLevels base other higher)
    (above : slot < higher) where
  -- in the slot of the first, that is: either both are of one level, or the first is the base at the higher one
  before-tick : tick (higher / 256) time < tick (higher / 256) other
  before-tick = elim (cases_eq (slot / 256) (higher / 256)) [
    | inl same ↦
        let window = rw same at one.window in let octet = rw same at one.octet in
        omega (arith, window, octet, two.window, two.octet)
    | inr apart ↦
        let base_is = window_above (slot / 256) (higher / 256) time base (omega arith) one.window in
        omega (arith, base_is, two.differs (omega arith))
  ]

  -- what stands in a lower slot is earlier
  pub earlier-slot : time < other
  earlier-slot = lt_from_tick (higher / 256) time other before-tick

  -- a higher slot keeps its entries when the base becomes a time of a lower one
  pub place-stays : IsInLevels time other higher
  place-stays = record {
    not_below = let less = earlier-slot in omega arith;
    within = two.within;
    window = elim (cases_eq (slot / 256) (higher / 256)) [
      | inl same ↦ two.window ∙ sym (rw same at one.window)
      | inr apart ↦ two.window ∙ sym (ap (λ n. n / 256)
          (window_above (slot / 256) (higher / 256) time base (omega arith) one.window))
    ];
    differs = λ some. before-tick;
    octet = two.octet;
  }

module _ (base time other slot : ℕ) (one : IsInLevels base time slot) (two : IsInLevels base other slot) where
  -- what stands in one slot agrees from its level on
  pub same-tick : tick (slot / 256) other ≡ tick (slot / 256) time
  same-tick = omega (arith, one.window, one.octet, two.window, two.octet)

  -- at the lowest level all of a slot is of one time
  pub same-time : slot < 256 → other ≡ time
  same-time low =
      let at : slot / 256 ≡ 0 = omega arith in
      sym (tick-zero other) ∙ rw at at same-tick ∙ tick-zero time

  pub place-settled : slot < 256 → IsInLevels time other slot
  place-settled low =
      let same = same-time low in record {
        not_below = omega arith;
        within = two.within;
        window = ap (λ n. tick (slot / 256) n / 256) same;
        differs = λ some. absurd (omega arith);
        octet = two.octet;
      }

-- what agrees with the base from a level on stands below that level
pub place-lower : (base time slot new : ℕ) → 0 < slot / 256 → tick (slot / 256) time ≡ tick (slot / 256) base
    → IsInLevels base time new → new < slot / 256 * 256
place-lower base time slot new some same place = elim (cases_lt (new / 256) (slot / 256)) [
  | inl lower ↦ omega arith
  | inr higher ↦ absurd (elim (cases_eq (slot / 256) (new / 256)) [
    | inl level ↦ let differs = rw (← level) at place.differs in omega (arith, differs some, same)
    | inr apart ↦
        let is = window_above (slot / 256) (new / 256) time base (omega arith) (ap (λ n. n / 256) same) in
        omega (arith, is, place.differs (omega arith))
  ])
]

pub place-in-levels : (base time slot : ℕ) → IsPlace base time slot → slot ≢ 2048 → IsInLevels base time slot
place-in-levels base time slot (inl place) apart = place
place-in-levels base time slot (inr below) apart = absurd (apart below.0)

pub place-ahead : (base time slot : ℕ) → IsPlace base time slot → base ≤ time → IsInLevels base time slot
place-ahead base time slot (inl place) ahead = place
place-ahead base time slot (inr below) ahead = absurd (omega (arith, below.1))

pub place-below : (base time : ℕ) → IsPlace base time 2048 → time < base
place-below base time (inl place) = absurd (let within = place.within in omega arith)
place-below base time (inr below) = below.1
