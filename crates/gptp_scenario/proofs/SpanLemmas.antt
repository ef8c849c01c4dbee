-- How long a network takes at most to settle.
use Rattle.std.proofs.Common.{◌≡◌, ◌≤◌, ℕ, ◌+◌, ◌-◌, ◌*◌, ap, ◌∙◌, arith}
use native.Mathlib.Decide.{dec_le}
use Rattle.std.proofs.Math.Nat.{mul-le-mul, mul-zero}

pub few_systems : (timeout live : ℕ) → timeout ≤ 10 → live ≤ 512 → (timeout + 3) * live ≤ 6656
few_systems timeout live h k = mul-le-mul {n₂ = 13} {m₂ = 512} (omega arith) k

pub few_intervals : (intervals interval : ℕ) → intervals ≤ 10000 → interval ≤ 16000000000
    → intervals * interval ≤ 160000000000000
few_intervals intervals interval h k = mul-le-mul {n₂ = 10000} {m₂ = 16000000000} h k

pub few_steps : (live step : ℕ) → live ≤ 512 → step ≤ 176000000000 → live * step ≤ 90112000000000
few_steps live step h k = mul-le-mul {n₂ = 512} {m₂ = 176000000000} h k

pub few_spans : (timeout interval : ℕ) → timeout ≤ 10 → interval ≤ 16000000000 → timeout * interval ≤ 160000000000
few_spans timeout interval h k = mul-le-mul {n₂ = 10} {m₂ = 16000000000} h k

-- what a step of so many systems takes longer is above an announce interval, which each of them takes anyway
pub short_span : (rest live interval reach : ℕ) → rest ≤ 6404 → live ≤ 512 → interval ≤ 16000000000
    → reach ≤ 176000000000
    → (rest + live) * interval + live * (reach - interval) ≤ 195000000000000
short_span rest live interval reach r l i h = elim (dec_le interval reach) [
  | yes below ↦
      let more : ℕ = reach - interval in
      let whole : more + interval ≡ reach = omega arith in
      let times : live * (more + interval) ≡ live * reach = ap (λ k. live * k) whole in
      let first : rest * interval ≤ 102464000000000 = mul-le-mul {n₂ = 6404} {m₂ = 16000000000} r i in
      let second : live * reach ≤ 90112000000000 = mul-le-mul {n₂ = 512} {m₂ = 176000000000} l h in
      omega arith
  | no above ↦
      let none : reach - interval ≡ 0 = omega arith in
      let no_more : live * (reach - interval) ≡ 0 = ap (λ k. live * k) none ∙ mul-zero live in
      let few : rest + live ≤ 6916 = omega arith in
      let first : (rest + live) * interval ≤ 110656000000000 =
      mul-le-mul {n₂ = 6916} {m₂ = 16000000000} few i in
      omega arith
]
