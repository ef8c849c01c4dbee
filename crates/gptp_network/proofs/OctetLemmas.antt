-- Octets as digits.
use Rattle.std.proofs.Common.{◌≡◌, ◌≤◌, ℕ, List, length, Ok, arith}
use Rattle.hex.specs.Hex.{decode_of}
use Rattle.hex.proofs.HexLemmas.{decode_of-ok}

-- two digits spell an octet
pub few_octets : (digits octets : List ℕ) → decode_of digits ≡ Ok octets → length digits ≤ 4232 → length octets ≤ 2116
few_octets digits octets is few = let twice = (decode_of-ok digits octets is).2 in omega arith
