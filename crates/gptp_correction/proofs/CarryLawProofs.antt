use Rattle.std.proofs.Common.{◌≡◌, ℕ, zero, suc, ◌<◌, ◌≤◌, List, length, ℤ, pos, ◌+ℤ◌, ◌-ℤ◌, ◌∙◌, refl, arith}
use Rattle.std.proofs.lemmas.Int.{ints}
use Rattle.gptp_scaled.specs.Rate.{scaled_by}
use Rattle.gptp_scaled.proofs.LawProofs.{rate_zero_is_identity}
use Rattle.gptp_correction.specs.declared.correction.Hop.{Hop}
use Rattle.gptp_correction.specs.Sum.{sum_below}
use Rattle.gptp_correction.specs.Carry.{added_at, hop_at, link_time_at, neighbour_at, rate_at, residence_at}
use Rattle.gptp_correction.specs.CarryLaws.{CarryGoesByHops, CarryKeepsTime, OnOneClock}
use Rattle.gptp_correction.proofs.CarryLemmas.{carry_of-last, relays}

-- one hop after the other
pub carry_goes_by_hops : CarryGoesByHops
carry_goes_by_hops = record { relayed = relays; received = carry_of-last }

-- rates of 0 add up to 0
rates_are_zero : (hops : List Hop) (left came : ℕ → ℤ) → OnOneClock hops left came → (n : ℕ) →
    n ≤ length hops → sum_below n (neighbour_at hops) ≡ pos 0
rates_are_zero hops left came w zero k = refl
rates_are_zero hops left came w (suc n) k =
    let before = rates_are_zero hops left came w n (omega arith) in
    let here = w.rates n (omega arith) in
    omega (arith, ints)

-- the delay of a link is on the clock beside it what it is on the grandmaster's
link_is : (hops : List Hop) (left came : ℕ → ℤ) → OnOneClock hops left came → (n : ℕ) →
    n < length hops → link_time_at hops n ≡ came n -ℤ left n
link_is hops left came w n k = rw (w.rates n k) (rate_zero_is_identity.unscaled (hop_at hops n).delay ∙ w.delays n k)

-- times that follow one another add up
joined : {a b : ℤ} (x y z : ℤ) → a ≡ y -ℤ x → b ≡ z -ℤ y → a +ℤ b ≡ z -ℤ x
joined x y z e f = omega (arith, ints)

-- a bridge adds the time from one egress to the next
added_is : (hops : List Hop) (left came : ℕ → ℤ) → OnOneClock hops left came → (n : ℕ) →
    suc n < length hops → added_at hops n ≡ left (suc n) -ℤ left n
added_is hops left came w n k =
    let zero_rate : rate_at hops n ≡ pos 0 = rates_are_zero hops left came w (suc n) (omega arith) in
    let link = link_is hops left came w n (omega arith) in
    let time = joined (left n) (came n) (left (suc n)) link (w.residences n k) in
    rw zero_rate (rate_zero_is_identity.scaled (link_time_at hops n +ℤ residence_at hops n)) ∙ time

-- so the correction is the time since the first egress
correction_is : (hops : List Hop) (left came : ℕ → ℤ) → OnOneClock hops left came → (n : ℕ) →
    n < length hops → sum_below n (added_at hops) ≡ left n -ℤ left 0
correction_is hops left came w zero k = omega (arith, ints)
correction_is hops left came w (suc n) k =
    let before = correction_is hops left came w n (omega arith) in
    joined (left 0) (left n) (left (suc n)) before (added_is hops left came w n k)

-- the correction leads to the last egress, and the last link from there to the slave
pub carry_keeps_time : CarryKeepsTime
carry_keeps_time hops left came last e w =
    let zero_rate : rate_at hops last ≡ pos 0 = rates_are_zero hops left came w (suc last) (omega arith) in
    let correction = correction_is hops left came w last (omega arith) in
    let link : scaled_by (rate_at hops last) (link_time_at hops last) ≡ came last -ℤ left last =
    rw zero_rate (rate_zero_is_identity.scaled (link_time_at hops last))
    ∙ link_is hops left came w last (omega arith) in
    carry_of-last (left 0) hops last e ∙ arrives (left 0) (left last) (came last) correction link
  where
    arrives : {a b : ℤ} (x y z : ℤ) → a ≡ y -ℤ x → b ≡ z -ℤ y → (x +ℤ a) +ℤ b ≡ z
    arrives x y z f g = omega (arith, ints)
