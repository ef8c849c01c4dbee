-- Times in thousandths of a nanosecond.
use Rattle.std.proofs.Common.{◌≡◌, ℕ, ◌+◌, ◌*◌, ◌/◌, ◌%◌, arith}
use Rattle.std.specs.Int.{div_ceil}
use Rattle.gptp_pdelay.specs.GoodLink.{ceil_div}
use Rattle.gptp_timeline.specs.Amounts.{nearest_thousandth}

-- whole nanoseconds and the rest, apart
pub apart : (amount : ℕ) → amount / 65536 * 1000 + (amount % 65536 * 1000 + 32768) / 65536 ≡ nearest_thousandth amount
apart amount = omega arith

pub rounded_up : (amount : ℕ)
    → amount / 65536 * 1000 + div_ceil (amount % 65536 * 1000) 65536 ≡ ceil_div (1000 * amount) 65536
rounded_up amount = omega arith
