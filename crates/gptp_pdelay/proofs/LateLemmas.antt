use Rattle.std.proofs.Common.{◌≡◌, ◌⊎◌, inl, inr, ℕ, ◌*◌, ◌+◌, ◌-◌, ◌<◌, ◌≤◌, ap, arith}
use Rattle.std.proofs.lemmas.Bool.{cases_lt}
use Rattle.std.proofs.Math.Nat.{mul-le-mul_left}
use Rattle.gptp_pdelay.specs.Late.{LateIsAbove, LateIsBelow}

pub late_is_below : LateIsBelow
late_is_below blur own_all own_whole up_all up_wait e3 e4 r s room ratio =
    by (cases_lt (own_whole + s.came) s.asked)
  where
    Claim : Type 0
    Claim = own_all * (r * (own_whole + s.came) + 2199023255552 * (up_wait + s.heard)) ≤
        2199023255552 * (up_all * (own_whole + blur))
        + own_all * (2199023255552 * (up_wait + s.sent + blur) + r * s.asked)

    forward : (y : ℕ) → y + s.asked ≡ own_whole + s.came → Claim
    forward y is = on (cases_lt (r * y) (2199023255552 * s.sent))
      where
        whole : r * (own_whole + s.came) ≡ r * y + r * s.asked
        whole = omega (arith, ap (λ k. r * k) is)

        on : (r * y < 2199023255552 * s.sent) ⊎ (2199023255552 * s.sent ≤ r * y) → Claim
        on (inl h) =
            let a : own_all * (r * (own_whole + s.came) + 2199023255552 * (up_wait + s.heard))
            ≤ own_all * (2199023255552 * (up_wait + s.sent + blur) + r * s.asked) =
            mul-le-mul_left own_all (omega (arith, h, whole, s.heard_late)) in
            omega (arith, a)
        on (inr h) =
            let x = e4 + (blur - s.came) in
            let v = y + (blur - s.came) in
            let d = blur - s.came in
            let wide : own_all ≤ x = omega (arith, s.e4_is, s.came_late, s.came_before_late) in
            let short : v ≤ own_whole + blur = omega (arith, is, s.came_late) in
            let less : v ≤ x = omega (arith, wide, short, room) in
            let e : y * x ≡ y * e4 + y * d = omega arith in
            let f : e4 * v ≡ e4 * y + e4 * d = omega arith in
            let g : d * y ≤ d * e4 = mul-le-mul_left d (omega (arith, less)) in
            let a : r * (y * x) ≤ r * (e4 * v) = mul-le-mul_left r (omega (arith, e, f, g)) in
            let b : v * (r * e4) ≤ v * (2199023255552 * e3) = mul-le-mul_left v (omega (arith, ratio)) in
            let c : v * e3 ≤ v * (up_all + s.sent) = mul-le-mul_left v (omega (arith, s.e3_is)) in
            let i : s.sent * v ≤ s.sent * x = mul-le-mul_left s.sent less in
            let j : r * y * x ≤ 2199023255552 * (up_all * v) + 2199023255552 * (s.sent * x) =
            omega (arith, a, b, c, i) in
            let m = r * y - 2199023255552 * s.sent in
            let n : r * y ≡ m + 2199023255552 * s.sent = omega (arith, h) in
            let n' : r * y * x ≡ (m + 2199023255552 * s.sent) * x = ap (λ k. k * x) n in
            let o : m * x ≤ 2199023255552 * (up_all * v) = omega (arith, j, n') in
            let q : m * own_all ≤ m * x = mul-le-mul_left m wide in
            let t : up_all * v ≤ up_all * (own_whole + blur) = mul-le-mul_left up_all short in
            let w : own_all * (r * y) ≡ own_all * (m + 2199023255552 * s.sent) = ap (λ k. own_all * k) n in
            let w' : own_all * (r * (own_whole + s.came)) ≡ own_all * (r * y + r * s.asked) =
            ap (λ k. own_all * k) whole in
            let z : own_all * s.heard ≤ own_all * blur = mul-le-mul_left own_all s.heard_late in
            omega (arith, o, q, t, w, w', z)

    by : (own_whole + s.came < s.asked) ⊎ (s.asked ≤ own_whole + s.came) → Claim
    by (inl h) =
        let a : r * (own_whole + s.came) ≤ r * s.asked = mul-le-mul_left r (omega (arith, h)) in
        let b : own_all * (r * (own_whole + s.came) + 2199023255552 * (up_wait + s.heard))
        ≤ own_all * (2199023255552 * (up_wait + s.sent + blur) + r * s.asked) =
        mul-le-mul_left own_all (omega (arith, a, s.heard_late)) in
        omega (arith, b)
    by (inr h) = forward (own_whole + s.came - s.asked) (omega (arith, h))

pub late_is_above : LateIsAbove
late_is_above blur own_all own_whole up_all up_wait e3 e4 r s wide room some ratio =
    by (cases_lt (own_all * (r * y + 2199023255552 * p)) (2199023255552 * (up_all * V)))
  where
    y : ℕ
    y = own_whole + s.came - s.asked

    V : ℕ
    V = own_whole - blur

    p : ℕ
    p = blur - s.sent

    is : y + s.asked ≡ own_whole + s.came
    is = omega (arith, s.asked_late, wide)

    Goal : Type 0
    Goal = 2199023255552 * (up_all * own_whole) + own_all * (2199023255552 * (up_wait + s.sent) + r * s.asked) ≤
        own_all * (r * (own_whole + s.came) + 2199023255552 * (up_wait + s.heard + blur))
        + 2199023255552 * (up_all * blur)

    whole : r * (own_whole + s.came) ≡ r * y + r * s.asked
    whole = omega (arith, ap (λ k. r * k) is)

    by : (own_all * (r * y + 2199023255552 * p) < 2199023255552 * (up_all * V))
        ⊎ (2199023255552 * (up_all * V) ≤ own_all * (r * y + 2199023255552 * p)) → Goal
    by (inl h) =
        let a : e4 * (own_all * (r * y + 2199023255552 * p) + 1) ≤ e4 * (2199023255552 * (up_all * V)) =
        mul-le-mul_left e4 (omega (arith, h)) in
        let b : own_all * y * (2199023255552 * e3) ≤ own_all * y * (r * e4) =
        mul-le-mul_left (own_all * y) (omega (arith, ratio)) in
        let c : own_all * y * up_all ≤ own_all * y * (e3 + p) =
        mul-le-mul_left (own_all * y) (omega (arith, s.e3_is, s.sent_before_late, s.sent_late)) in
        let d : own_all * p * y ≤ own_all * p * e4 =
        mul-le-mul_left (own_all * p) (omega (arith, is, s.e4_is, s.came_before_late, room)) in
        let f : s.came * V ≤ s.came * own_all = mul-le-mul_left s.came (omega (arith, room)) in
        let g : V * e4 ≤ V * (own_all + s.came) = mul-le-mul_left V (omega (arith, s.e4_is)) in
        let i : own_all * (V + s.came) ≤ own_all * y =
        mul-le-mul_left own_all (omega (arith, is, s.asked_late, wide)) in
        let j : V * e4 ≤ own_all * y = omega (arith, f, g, i) in
        let k : up_all * (V * e4) ≤ up_all * (own_all * y) = mul-le-mul_left up_all j in
        absurd (omega (arith, a, b, c, d, k, some))
    by (inr h) =
        let w' : own_all * (r * (own_whole + s.came)) ≡ own_all * (r * y + r * s.asked) =
        ap (λ k. own_all * k) whole in
        let v : up_all * own_whole ≡ up_all * (V + blur) = ap (λ k. up_all * k) (omega (arith, wide)) in
        let q : own_all * blur ≡ own_all * (p + s.sent) = ap (λ k. own_all * k) (omega (arith, s.sent_late)) in
        omega (arith, h, w', v, q)
