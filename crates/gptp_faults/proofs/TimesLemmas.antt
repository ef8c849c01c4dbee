-- Moments are within their bounds, and the last is the latest.
use Rattle.std.proofs.Common.{◌≤◌, ◌<◌, ◌-◌, ◌*◌, ◌/◌, ℕ, arith}
use Rattle.std.proofs.lemmas.Nat.{div-add-mod', le-div, mul-le}
use Rattle.gptp_setup.specs.declared.limits.TheConstants.{LAST_MOMENT}
use Rattle.gptp_faults.specs.Times.{TimesAreBounded, last_moment, moment}
use Rattle.gptp_faults.specs.declared.times.Times.{Times}

-- a quotient is no more than what is divided
pub div_most : (n k : ℕ) → n / k ≤ n
div_most n k = omega arith

-- and grows with it
pub div_grows : (m n k : ℕ) → 0 < k → m ≤ n → m / k ≤ n / k
div_grows m n k some more =
    let parts = div-add-mod' m k in le-div (m / k) n k some (omega (arith, parts, more))

module _ (t : Times) (bounded : TimesAreBounded t) where
  -- how far after the first a moment may be, before it is divided
  pub product_most : (number : ℕ) → number < t.moments → number * t.spread ≤ 32000000000000
  product_most number below =
      let moments = bounded.moments in
      mul-le number t.spread 1000 32000000000 (omega (arith, below, moments)) bounded.spread

  pub moment_most : (number : ℕ) → number < t.moments → moment t number ≤ 2 * LAST_MOMENT
  moment_most number below =
      let product = product_most number below in let quotient = div_most (number * t.spread) t.moments in
      let from = bounded.from in omega (arith, product, quotient, from)

  pub moment_last : (number : ℕ) → number < t.moments → moment t number ≤ last_moment t
  moment_last number below =
      let some = bounded.some_moment in
      let product : number * t.spread ≤ (t.moments - 1) * t.spread =
      mul-le number t.spread (t.moments - 1) t.spread (omega (arith, below)) (omega arith) in
      let quotient = div_grows (number * t.spread) ((t.moments - 1) * t.spread) t.moments (omega (arith, some))
      product in
      omega (arith, quotient)
