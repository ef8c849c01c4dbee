use Rattle.std.proofs.Common.{◌≡◌, ℕ, ◌*◌, ◌+◌, ◌≤◌, ℤ, pos, negsuc, neg_ℤ, ◌+ℤ◌, ◌*ℤ◌, ◌≤ℤ◌, ◌<ℤ◌, unsigned_abs, ap, arith}
use Rattle.std.proofs.Math.Nat.{mul-le-mul_left}
use Rattle.std.proofs.lemmas.Int.{ints, by_lt_z, unsigned_abs-mul}
use Rattle.std.proofs.lemmas.Nat.{mul-le}
use borrow.Author.Differences.{up, down, sum_is_lem, neg_is, product_is, le_out}
use lib.Signed.{clash_ℤ}

-- z is at most m away from 0
pub record IsWithin (m : ℕ) (z : ℤ) : Type 0 where
  pub low : neg_ℤ (pos m) ≤ℤ z
  pub high : z ≤ℤ pos m

-- the same, by the absolute value
within_by_abs : (m : ℕ) (z : ℤ) → unsigned_abs z ≤ m → IsWithin m z
within_by_abs m (pos n) h = record { low = omega (arith, ints); high = omega (arith, ints) }
within_by_abs m (negsuc n) h = record { low = omega (arith, ints); high = omega (arith, ints) }

-- a product is as far away from 0 as its factors allow
pub times_within : (m n : ℕ) (a b : ℤ) → unsigned_abs a ≤ m → unsigned_abs b ≤ n → IsWithin (m * n) (a *ℤ b)
times_within m n a b h k =
    within_by_abs (m * n) (a *ℤ b)
    (omega (arith, unsigned_abs-mul a b, mul-le (unsigned_abs a) (unsigned_abs b) m n h k))

-- a product with a sum
pub distribute : (a b c : ℤ) → a *ℤ (b +ℤ c) ≡ a *ℤ b +ℤ a *ℤ c
distribute a b c =
    let s = sum_is_lem b c in
    let by_up : up a * (up (b +ℤ c) + down b + down c) ≡ up a * (down (b +ℤ c) + up b + up c) = ap (λ v. up a * v) s in
    let by_down : down a * (up (b +ℤ c) + down b + down c)
    ≡ down a * (down (b +ℤ c) + up b + up c) = ap (λ v. down a * v) s in
    omega (arith, ints)

-- a product with a negated number
pub negated : (a b : ℤ) → a *ℤ neg_ℤ b ≡ neg_ℤ (a *ℤ b)
negated a b =
    let n = neg_is b in
    let a0 : up a * up (neg_ℤ b) ≡ up a * down b = ap (λ v. up a * v) n.0 in
    let a1 : up a * down (neg_ℤ b) ≡ up a * up b = ap (λ v. up a * v) n.1 in
    let a2 : down a * up (neg_ℤ b) ≡ down a * down b = ap (λ v. down a * v) n.0 in
    let a3 : down a * down (neg_ℤ b) ≡ down a * up b = ap (λ v. down a * v) n.1 in
    omega (arith, ints)

-- a product with a number that is not negative keeps the order
pub times_grows : (d f g : ℤ) → pos 0 ≤ℤ d → f ≤ℤ g → (d *ℤ f) ≤ℤ (d *ℤ g)
times_grows (pos k) f g p h =
    let e : k * (up f + down g) ≤ k * (up g + down f) = mul-le-mul_left k (le_out f g h) in
    omega (arith, ints)
times_grows (negsuc k) f g p h = absurd (omega (arith, ints))

-- and with a positive one only the order of its factors gives that of the products
pub cancel : (d f g : ℤ) → pos 0 <ℤ d → (d *ℤ f) <ℤ (d *ℤ g) → f <ℤ g
cancel d f g p h = by_lt_z f g (λ l. l) (λ l. clash_ℤ h (times_grows d g f (omega (arith, ints)) l))

-- the outer two factors of a product may change places
pub swap : (a b c : ℤ) → a *ℤ (b *ℤ c) ≡ b *ℤ (a *ℤ c)
swap a b c =
    let p = product_is b c in
    let q = product_is a c in
    let p0 : up a * up (b *ℤ c) ≡ up a * (up b * up c + down b * down c) = ap (λ v. up a * v) p.0 in
    let p1 : up a * down (b *ℤ c) ≡ up a * (up b * down c + down b * up c) = ap (λ v. up a * v) p.1 in
    let p2 : down a * up (b *ℤ c) ≡ down a * (up b * up c + down b * down c) = ap (λ v. down a * v) p.0 in
    let p3 : down a * down (b *ℤ c) ≡ down a * (up b * down c + down b * up c) = ap (λ v. down a * v) p.1 in
    let q0 : up b * up (a *ℤ c) ≡ up b * (up a * up c + down a * down c) = ap (λ v. up b * v) q.0 in
    let q1 : up b * down (a *ℤ c) ≡ up b * (up a * down c + down a * up c) = ap (λ v. up b * v) q.1 in
    let q2 : down b * up (a *ℤ c) ≡ down b * (up a * up c + down a * down c) = ap (λ v. down b * v) q.0 in
    let q3 : down b * down (a *ℤ c) ≡ down b * (up a * down c + down a * up c) = ap (λ v. down b * v) q.1 in
    omega (arith, ints)
