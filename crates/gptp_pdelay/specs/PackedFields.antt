-- The fields of a `Packed`, and the times that contracts see in them.
use Rattle.std.specs.Prelude.{ℕ, ◌+◌, ◌*◌, ◌^◌, ℤ, pos, ◌-ℤ◌}
use Rattle.gptp_pdelay.specs.declared.exchange.Times.{Times}
use Rattle.gptp_pdelay.specs.declared.packed.Packed.TheInside.{Inside}

-- a number by its lower eight octets and those above
abbrev pub joined : ℕ → ℕ → ℕ
joined low high = high * 2 ^ 64 + low

-- a time by its number from the least one, which is -2^95
abbrev pub time_of : ℕ → ℕ → ℤ
time_of low high = pos (joined low high) -ℤ pos (2 ^ 95)

-- the times of the four fields
abbrev pub packed_times : Inside → Times
packed_times p = record { t3 = time_of p.low3 p.high3; t4 = time_of p.low4 p.high4 }
