-- What the messageType of a frame says of its octets.
use Rattle.std.proofs.Common.{◌≡◌, ℕ, ◌%◌, List, [], ◌∷◌, Some, None, refl}
use Rattle.std.proofs.lemmas.Option.{same_Some}
use Rattle.gptp_model.specs.Carried.{first_type}

-- there is one in the first of them
pub type_there : (octets : List ℕ) (type : ℕ) → first_type octets ≡ Some type
    → (octet : ℕ) × (rest : List ℕ) × (octets ≡ octet ∷ rest) × (octet % 16 ≡ type)
type_there [] type is = absurd cc
type_there (octet ∷ octets) type is = (octet, octets, refl, same_Some (octet % 16) type is)

-- there is none, nor any octet
pub type_none : (octets : List ℕ) → first_type octets ≡ None → octets ≡ []
type_none [] is = refl
type_none (octet ∷ octets) is = absurd cc
