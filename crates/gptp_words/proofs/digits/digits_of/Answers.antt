use Rattle.std.proofs.Common.{arith}
use Rattle.std.specs.Str.{IsUtf8}
use Rattle.std.proofs.lemmas.Grind.{common_steps}
use Rattle.hex.specs.Hex.{encode_lower}
use Rattle.gptp_words.proofs.DigitsLemmas.{IsUtf8-encode_lower}
use Rattle.gptp_words.proofs.digits.digits_of.Goals as goal

-- what the buffer has is text
pub unwrap-requires-2 : goal.unwrap-requires-2
unwrap-requires-2 c =
    let text : IsUtf8 (encode_lower c.args.block.now) = IsUtf8-encode_lower c.args.block.now in
    grind (arith, common_steps)
