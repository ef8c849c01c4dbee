-- How numbers and octets are shown (profile).
use Rattle.std.specs.Prelude.{ℕ, Bool, true, false, List, Option, Some, None, codes}
use Rattle.byteorder.specs.Endian.{big_bytes}
use Rattle.hex.specs.Hex.{encode_lower}

-- the eight octets of a clock as digits
abbrev pub clock_text : ℕ → List ℕ
clock_text clock = encode_lower (big_bytes 8 clock)

-- the fourteen octets of an identity as digits
abbrev pub identity_text : ℕ → List ℕ
identity_text identity = encode_lower (big_bytes 14 identity)

abbrev pub yes_or_no : Bool → List ℕ
yes_or_no true = codes "yes"
yes_or_no false = codes "no"

-- what may be absent
abbrev pub or_none : {X : Type 0} → (X → List ℕ) → Option X → List ℕ
or_none text None = codes "none"
or_none text (Some x) = text x
