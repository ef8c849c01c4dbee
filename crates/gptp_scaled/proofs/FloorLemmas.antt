use Rattle.std.proofs.Common.{◌≡◌, ℕ, ◌*◌, ◌+◌, ◌/◌, ◌%◌, ◌<◌, ℤ, pos, negsuc, neg_ℤ, unsigned_abs, ◌+ℤ◌, ◌*ℤ◌, ◌≤ℤ◌, ◌<ℤ◌, arith}
use Rattle.std.proofs.lemmas.Int.{ints}
use Rattle.std.proofs.lemmas.Nat.{div-add-mod', mod_below}
use Rattle.gptp_scaled.specs.Floor.{IsFloor, floor_div}
use Rattle.gptp_scaled.proofs.ProductLemmas.{distribute, negated, times_grows, cancel, swap}

-- division with the remainder not negative rounds down
pub floor_is : (x d : ℤ) → pos 0 <ℤ d → IsFloor x d (floor_div x d)
floor_is (pos a) (pos k) h =
    let e = div-add-mod' a k in
    let m : a % k < k = mod_below a k (omega (arith, ints)) in
    record { reached = omega (arith, ints); passed = omega (arith, ints) }
floor_is (negsuc a) (pos k) h =
    let e = div-add-mod' a k in
    let m : a % k < k = mod_below a k (omega (arith, ints)) in
    let next = distribute (pos k) (negsuc (a / k)) (pos 1) in
    record { reached = omega (arith, ints); passed = omega (arith, ints) }
floor_is x (negsuc k) h = absurd (omega (arith, ints))

-- the floor of the lesser number is at most that of the greater
floor_low : (x y d f g : ℤ) → pos 0 <ℤ d → x ≤ℤ y → IsFloor x d f → IsFloor y d g → f ≤ℤ g
floor_low x y d f g p h i j =
    let l : (d *ℤ f) <ℤ (d *ℤ (g +ℤ pos 1)) = omega (arith, ints, i.reached, j.passed) in
    let c : f <ℤ (g +ℤ pos 1) = cancel d f (g +ℤ pos 1) p l in
    omega (arith, ints)

-- only one number is a floor
pub floor_only : (x d f : ℤ) → pos 0 <ℤ d → IsFloor x d f → f ≡ floor_div x d
floor_only x d f p i =
    let j = floor_is x d p in
    let low : f ≤ℤ floor_div x d = floor_low x x d f (floor_div x d) p (omega (arith, ints)) i j in
    let high : floor_div x d ≤ℤ f = floor_low x x d (floor_div x d) f p (omega (arith, ints)) j i in
    omega (arith, ints)

-- floors keep the order
pub floor_grows : (x y d : ℤ) → pos 0 <ℤ d → x ≤ℤ y → floor_div x d ≤ℤ floor_div y d
floor_grows x y d p h = floor_low x y d (floor_div x d) (floor_div y d) p h (floor_is x d p) (floor_is y d p)

-- a number n is at most the floor where d n is at most x, and at least the floor where d n is at least x
pub floor_above : (x d n : ℤ) → pos 0 <ℤ d → (d *ℤ n) ≤ℤ x → n ≤ℤ floor_div x d
floor_above x d n p h =
    let i = floor_is x d p in
    let l : (d *ℤ n) <ℤ (d *ℤ (floor_div x d +ℤ pos 1)) = omega (arith, ints, i.passed) in
    let c : n <ℤ (floor_div x d +ℤ pos 1) = cancel d n (floor_div x d +ℤ pos 1) p l in
    omega (arith, ints)

pub floor_below : (x d n : ℤ) → pos 0 <ℤ d → x ≤ℤ (d *ℤ n) → floor_div x d ≤ℤ n
floor_below x d n p h =
    let i = floor_is x d p in
    let next = distribute d n (pos 1) in
    let l : (d *ℤ floor_div x d) <ℤ (d *ℤ (n +ℤ pos 1)) = rw next (omega (arith, ints, i.reached)) in
    let c : floor_div x d <ℤ (n +ℤ pos 1) = cancel d (floor_div x d) (n +ℤ pos 1) p l in
    omega (arith, ints)

-- d times a whole number goes through the floor
pub floor_shift : (x d n f : ℤ) → IsFloor x d f → IsFloor (d *ℤ n +ℤ x) d (n +ℤ f)
floor_shift x d n f i =
    let low = distribute d n f in
    let high = distribute d n (f +ℤ pos 1) in
    let next : n +ℤ f +ℤ pos 1 ≡ n +ℤ (f +ℤ pos 1) = omega (arith, ints) in
    record {
      reached = rw low (omega (arith, ints, i.reached));
      passed = rw (next, high) (omega (arith, ints, i.passed));
    }

-- n f between these two bounds is less than m + n away from 0
near_by_bounds : (f : ℤ) (n m : ℕ) → 0 < n → (pos n *ℤ f) <ℤ (pos m +ℤ pos 1)
    → neg_ℤ (pos m) <ℤ (pos n *ℤ (f +ℤ pos 1)) → n * unsigned_abs f < m + n
near_by_bounds (pos k) n m h high low = omega (arith, ints)
near_by_bounds (negsuc k) n m h high low = let next = distribute (pos n) (negsuc k) (pos 1) in omega (arith, ints)

-- where n |x| is at most d m, the floor is less than m / n + 1 away from 0
pub floor_near : (x d f : ℤ) (n m : ℕ) → pos 0 <ℤ d → 0 < n → IsFloor x d f → (pos n *ℤ x) ≤ℤ (d *ℤ pos m)
    → neg_ℤ (d *ℤ pos m) ≤ℤ (pos n *ℤ x) → n * unsigned_abs f < m + n
floor_near x d f n m p h i high low =
    let under = times_grows (pos n) (d *ℤ f) x (omega (arith, ints)) i.reached in
    let over = times_grows (pos n) (x +ℤ pos 1) (d *ℤ (f +ℤ pos 1)) (omega (arith, ints))
    (omega (arith, ints, i.passed)) in
    let at = swap (pos n) d f in
    let above = swap (pos n) d (f +ℤ pos 1) in
    let next = distribute d (pos m) (pos 1) in
    let more = distribute (pos n) x (pos 1) in
    let opposite = negated d (pos m) in
    let top : (pos n *ℤ f) <ℤ (pos m +ℤ pos 1) = cancel d (pos n *ℤ f) (pos m +ℤ pos 1) p (omega (arith, ints)) in
    let bottom : neg_ℤ (pos m) <ℤ (pos n *ℤ (f +ℤ pos 1)) =
    cancel d (neg_ℤ (pos m)) (pos n *ℤ (f +ℤ pos 1)) p (omega (arith, ints)) in
    near_by_bounds f n m h top bottom
