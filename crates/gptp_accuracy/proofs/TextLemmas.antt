-- A time error in thousandths of a nanosecond.
use Rattle.std.proofs.Common.{◌≡◌, ℕ, ◌+◌, ◌*◌, ◌/◌, ◌%◌, arith}
use Rattle.std.specs.Int.{div_ceil}
use Rattle.gptp_pdelay.specs.GoodLink.{ceil_div}

-- whole nanoseconds and the rest, apart
pub rounded_up : (error : ℕ)
    → error / 65536 * 1000 + div_ceil (error % 65536 * 1000) 65536 ≡ ceil_div (1000 * error) 65536
rounded_up error = omega arith
