-- The clockIdentities of a path trace, and what a trace that is full says.
use Rattle.std.specs.Prelude.{ℕ, ◌*◌, ◌/◌, List, map, length, drop}
use Rattle.std.specs.List.{range_with_len}
use Rattle.byteorder.specs.Endian.{big_number}
use Rattle.gptp_vector.specs.declared.trace.Full.{Full}
use Rattle.gptp_vector.specs.declared.trace.Full.TheVariants as fulls

-- the numbers that octets spell, eight octets for each
unfoldable pub clocks : List ℕ → List ℕ
clocks octets = map (λ k. big_number 8 (drop (8 * k) octets)) (range_with_len 0 (length octets / 8))

-- the clock that found no room
abbrev pub clock_left_out : Full → ℕ
clock_left_out (fulls.Full clock) = clock
