-- Octets as digits: digits are text, and the digits of a whole are those of its parts.
use Rattle.std.proofs.Common.{◌≡◌, ℕ, ◌/◌, ◌%◌, ◌<◌, nat_lt, true, List, [], ◌∷◌, ◌++◌, refl, ap, arith}
use Rattle.std.specs.List.{list_all}
use Rattle.std.specs.Prelude.{slice_index}
use Rattle.std.specs.Str.{IsAscii, IsUtf8}
use Rattle.std.proofs.lemmas.Str.{IsUtf8-from_ascii}
use Rattle.std.proofs.lemmas.Str.Ascii.{IsAscii-nil, IsAscii-cons}
use Rattle.std.proofs.lemmas.Bool.Decides.{nat_tests}
use Rattle.hex.specs.Hex.{encode_lower, encode_with, lower_digits}
use Rattle.hex.proofs.HexLemmas.{IsAscii-encode_with}

-- a list that passes the test is ASCII
ascii_from_test : (bs : List ℕ) → list_all (λ b. nat_lt b 128) bs ≡ true → IsAscii bs
ascii_from_test [] test = IsAscii-nil
ascii_from_test (b ∷ bs) test =
    let small : b < 128 = grind (arith, nat_tests) in
    let others : list_all (λ b. nat_lt b 128) bs ≡ true = grind (arith, nat_tests) in
    IsAscii-cons b bs small (ascii_from_test bs others)

-- the digits of octets are text
pub IsUtf8-encode_lower : (octets : List ℕ) → IsUtf8 (encode_lower octets)
IsUtf8-encode_lower octets =
    let digits = ascii_from_test lower_digits refl in
    IsUtf8-from_ascii (encode_lower octets) (IsAscii-encode_with lower_digits octets digits)

pub encode_lower-nil : encode_lower [] ≡ []
unfolding encode_with
encode_lower-nil = refl

-- the digits of a block and of what follows it are those of both
pub encode_lower-append : (block rest : List ℕ) → encode_lower block ++ encode_lower rest ≡ encode_lower (block ++ rest)
unfolding encode_with
encode_lower-append [] rest = refl
encode_lower-append (octet ∷ block) rest =
    ap (λ text. slice_index lower_digits (octet / 16) ∷ slice_index lower_digits (octet % 16) ∷ text)
    (encode_lower-append block rest)
