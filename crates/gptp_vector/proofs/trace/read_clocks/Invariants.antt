use Rattle.std.proofs.Common.{◌≡◌, ◌*◌, ◌<◌, ℕ, length, drop, get_or}
use Rattle.byteorder.specs.Endian.{big_number}
use Rattle.gptp_vector.proofs.trace.read_clocks.Given as goal

-- the clocks before the place are read
abbrev pub invariant-loop-place : goal.invariant-loop-place
invariant-loop-place l = record {
  long : length l.trace ≡ length l.initial.trace;
  front : (k : ℕ) → k < l.place → get_or l.trace k 0 ≡ big_number 8 (drop (8 * k) l.octets);
}
