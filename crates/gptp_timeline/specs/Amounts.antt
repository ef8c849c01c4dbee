-- Times in units of 2^-16 ns, in ns with three decimals (profile).
use Rattle.std.specs.Prelude.{ℕ, ◌+◌, ◌*◌, ◌/◌, ◌&&◌, nat_lt, ℤ, pos, negsuc, unsigned_abs, Bool, true, false, if◌then◌else◌, List, [], ◌++◌, codes}
use Rattle.gptp_accuracy.specs.AccuracyText.{thousandths_text}

-- thousandths of a nanosecond, to the nearest, half up
abbrev pub nearest_thousandth : ℕ → ℕ
nearest_thousandth amount = (1000 * amount + 32768) / 65536

abbrev pub near_text : ℕ → List ℕ
near_text amount = thousandths_text (nearest_thousandth amount)

abbrev pub is_negative : ℤ → Bool
is_negative (pos n) = false
is_negative (negsuc n) = true

-- half away from 0, and without a sign where that is zero
abbrev pub sign_text : ℤ → List ℕ
sign_text amount = if is_negative amount && nat_lt 0 (nearest_thousandth (unsigned_abs amount)) then codes "-" else []

abbrev pub signed_text : ℤ → List ℕ
signed_text amount = sign_text amount ++ near_text (unsigned_abs amount)
