use Rattle.std.proofs.Common.{◌≡◌, ℕ, List, ◌++◌}
use Rattle.std.specs.Fmt.{HasWritten, IsPlainFormatter}
use Rattle.std.specs.Slice.Iter.{chunks_rest, chunks_size}
use Rattle.hex.specs.Hex.{encode_lower}
use Rattle.gptp_words.proofs.digits.OctetDigitsDisplay.fmt.Given as goal

-- the digits that are written and those of the octets that are left are those of all octets
abbrev pub invariant-loop-block : goal.invariant-loop-block
invariant-loop-block g l =
    (chunks_size l.block-iterator ≡ 32)
    × (IsPlainFormatter l.initial.f → (done : List ℕ) × HasWritten g.W.Write.write_str_gives l.initial.f done l.f
    × (done ++ encode_lower (chunks_rest l.block-iterator) ≡ encode_lower l.fn.self.0.now))
