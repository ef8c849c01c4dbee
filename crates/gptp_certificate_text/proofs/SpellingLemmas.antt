-- Numbers as words: what their digits are read as.
use Rattle.std.proofs.Common.{◌≡◌, ◌≢◌, ℕ, zero, suc, ◌<◌, ◌≤◌, ◌^◌, ◌/◌, false, true, List, [], refl, sym, ap, ◌∙◌, append-nil, arith}
use Rattle.std.specs.Prelude.{Result, Ok, Err, Some, MatchResult, decimal}
use Rattle.std.specs.Result.{is_ok, result_ok}
use Rattle.std.specs.Str.{IsUtf8}
use Rattle.std.specs.Str.Parse.{ParsesUnsigned}
use Rattle.std.proofs.lemmas.Fmt.{IsAscii-decimal, parse-decimal}
use Rattle.std.proofs.lemmas.Nat.{mod_below}
use Rattle.std.proofs.lemmas.Option.{same_Some}
use Rattle.std.proofs.lemmas.Str.{IsUtf8-from_ascii}
use Rattle.std.specs.Int.{byte_at, bytes_high_first}
use Rattle.byteorder.specs.Endian.{big_bytes, big_from, big_number}
use Rattle.byteorder.specs.Numbers.{big_number-reads_back, length-bytes_high_first}
use Rattle.hex.specs.declared.error.FromHexError.{FromHexError}
use Rattle.hex.specs.Hex.{encode_lower, decode_sized, IsBytes}
use Rattle.hex.proofs.HexLemmas.{decode_sized-encode_lower}

ok_of : {X E : Type 0} (r : Result X E) (x : X) → Some x ≡ result_ok r → r ≡ Ok x
ok_of (Ok y) x e = let same : x ≡ y = same_Some x y e in rw same refl
ok_of (Err y) x e = absurd cc

not_ok : {X E : Type 0} (r : Result X E) (x : X) → false ≡ is_ok r → r ≡ Ok x → ⊥
not_ok r x bad e = let yes : is_ok r ≡ true = ap is_ok e in absurd cc

pub same_ok : {X E : Type 0} (r : Result X E) (x y : X) → r ≡ Ok x → r ≡ Ok y → x ≡ y
same_ok r x y d e = same_Some x y (sym (ap result_ok d) ∙ ap result_ok e)

byte_small : (k x : ℕ) → byte_at k x < 256
byte_small zero x = omega arith
byte_small (suc k) x = mod_below (x / 256 ^ suc k) 256 (omega arith)

IsBytes-big : (n x : ℕ) → IsBytes (big_bytes n x)
IsBytes-big zero x i = omega arith
IsBytes-big (suc n) x zero = byte_small n x
IsBytes-big (suc n) x (suc i) = IsBytes-big n x i

-- the digits of a number are read as its octets
pub digits_read : (n x : ℕ) → decode_sized (encode_lower (big_bytes n x)) n ≡ Ok (big_bytes n x)
digits_read n x = decode_sized-encode_lower (big_bytes n x) n (length-bytes_high_first n x) (IsBytes-big n x)

-- and these as the number
pub number_read : (n x : ℕ) → x < 256 ^ n → big_number n (big_bytes n x) ≡ x
number_read n x small =
    ap (λ bytes. big_from 0 n bytes) (sym (append-nil (bytes_high_first n x))) ∙ big_number-reads_back n x [] small

-- a word that can't be read is no number's
pub unread_digits : (n : ℕ) (word : List ℕ) (r : Result (List ℕ) FromHexError) → r ≡ decode_sized word n
    → false ≡ is_ok r
    → (x : ℕ) → word ≢ encode_lower (big_bytes n x)
unread_digits n word r is bad x e = not_ok r (big_bytes n x) bad (is ∙ ap (λ w. decode_sized w n) e ∙ digits_read n x)

-- a word that isn't spelled as the number that is read of it is no number's
pub other_digits : (n : ℕ) (word octets : List ℕ) (number : ℕ) (r : Result (List ℕ) FromHexError)
    → r ≡ decode_sized word n
    → Some octets ≡ result_ok r → number ≡ big_number n octets
    → (word ≡ encode_lower (big_bytes n number) → ⊥) → (x : ℕ) → x < 256 ^ n → word ≢ encode_lower (big_bytes n x)
other_digits n word octets number r read found is unlike x small e =
    let octets_are : octets ≡ big_bytes n x =
    same_ok r octets (big_bytes n x) (ok_of r octets found) (read ∙ ap (λ w. decode_sized w n) e ∙ digits_read n x) in
    let same : number ≡ x = is ∙ ap (big_number n) octets_are ∙ number_read n x small in
    unlike (rw same e)

-- what a clause says of each answer
pub read_of : {X E : Type 0} (P : X → Type 0) (Q : E → Type 0) (r : Result X E) (x : X) → MatchResult r P Q
    → Some x ≡ result_ok r → P x
read_of P Q (Ok y) x m e = let same : x ≡ y = same_Some x y e in rw same m
read_of P Q (Err y) x m e = absurd cc

pub unread_of : {X E : Type 0} (P : X → Type 0) (Q : E → Type 0) (W : Type 0) (r : Result X E)
    → MatchResult r P (λ e. (W → ⊥) × Q e)
    → false ≡ is_ok r → W → ⊥
unread_of P Q W (Ok y) m bad w = absurd cc
unread_of P Q W (Err y) m bad w = m.0 w

small : (n : ℕ) → n ≤ 65535 → n < 2 ^ 64
small n h = omega arith

pub IsUtf8-decimal : (n : ℕ) → n ≤ 65535 → IsUtf8 (decimal n)
IsUtf8-decimal n h = IsUtf8-from_ascii (decimal n) (IsAscii-decimal n (small n h))

decimal_read : {E : Type 0} (n : ℕ) (word text : List ℕ) (r : Result ℕ E) → n ≤ 65535 → text ≡ word → word ≡ decimal n
    → ParsesUnsigned 16 10 text r → r ≡ Ok n
decimal_read n word text r h same is parses = parse-decimal 16 n text r (omega arith) (small n h) (same ∙ is) parses

pub unread_decimal : {E : Type 0} (word text : List ℕ) (r : Result ℕ E) → text ≡ word → ParsesUnsigned 16 10 text r
    → false ≡ is_ok r
    → (n : ℕ) → n ≤ 65535 → word ≢ decimal n
unread_decimal word text r same parses bad n h e = not_ok r n bad (decimal_read n word text r h same e parses)

pub other_decimal : {E : Type 0} (word text : List ℕ) (number : ℕ) (r : Result ℕ E) → text ≡ word
    → ParsesUnsigned 16 10 text r
    → Some number ≡ result_ok r → (word ≡ decimal number → ⊥) → (n : ℕ) → n ≤ 65535 → word ≢ decimal n
other_decimal word text number r same parses found unlike n h e =
    let is : number ≡ n = same_ok r number n (ok_of r number found) (decimal_read n word text r h same e parses) in
    unlike (rw is e)
