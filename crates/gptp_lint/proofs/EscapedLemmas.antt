-- What is shown of an octet is its word.
use Rattle.std.proofs.Common.{◌≡◌, ◌<◌, ℕ, Bool, true, false, if◌then◌else◌, List, [], ◌∷◌, ◌++◌, length, take, ◌∙◌, refl, arith}
use Rattle.std.specs.Prelude.{codes}
use Rattle.std.specs.List.{flat_map}
use Rattle.std.specs.Char.{encode_utf8}
use Rattle.std.proofs.lemmas.Bool.Decides.{nat_tests}
use Rattle.std.proofs.lemmas.Str.{encode_ascii}
use Rattle.hex.specs.Hex.{encode_lower}
use Rattle.gptp_lint.specs.Unread.{escaped, escaped_octet, is_plain}

by_test : (t : Bool) (xs ys : List ℕ) → t ≡ true → xs ≡ (if t then xs else ys)
by_test t xs ys h = rw h refl

by_failed : (t : Bool) (xs ys : List ℕ) → t ≡ false → ys ≡ (if t then xs else ys)
by_failed t xs ys h = rw h refl

pub plain_word : (octet : ℕ) → is_plain octet ≡ true → encode_utf8 octet ≡ escaped_octet octet
plain_word octet h =
    let small : octet < 128 = grind (arith, nat_tests) in
    encode_ascii octet small ∙ by_test (is_plain octet) (octet ∷ []) (92 ∷ codes "x" ++ encode_lower (octet ∷ [])) h

pub other_word : (octet : ℕ) → is_plain octet ≡ false
    → 92 ∷ codes "x" ++ encode_lower (octet ∷ []) ≡ escaped_octet octet
other_word octet h = by_failed (is_plain octet) (octet ∷ []) (92 ∷ codes "x" ++ encode_lower (octet ∷ [])) h

-- the words of the front of a text that isn't empty are its word
pub front_word : (text : List ℕ) → 0 < length text → flat_map escaped_octet (take 64 text) ≡ escaped text
front_word [] h = absurd (omega arith)
front_word (octet ∷ more) h = refl
