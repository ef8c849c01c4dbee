-- The words for a place of a document and for its keys (profile).
use Rattle.std.specs.Prelude.{if◌then◌else◌, ◌==◌, ◌&&◌, ◌++◌, ◌∷◌, ℕ, Bool, not, nat_le, codes, List, [], take, Option, Some, None}
use Rattle.std.specs.Fmt.{decimal}
use Rattle.std.specs.List.{flat_map}
use Rattle.hex.specs.Hex.{encode_lower}
use Rattle.gptp_lint.specs.declared.place.Place.{Place}
use Rattle.gptp_lint.specs.declared.place.Place.TheVariants.{Top, Network, Member}
use Rattle.gptp_lint.specs.declared.place.Section.{Section}
use Rattle.gptp_lint.specs.declared.place.Section.TheVariants.{System, Link, Event}

-- the line of the header of a member, where it has one
abbrev pub line_words : Option ℕ → List ℕ
line_words (Some line) = codes " line " ++ decimal line
line_words None = []

abbrev pub section_name : Section → List ℕ
section_name System = codes "system"
section_name Link = codes "link"
section_name Event = codes "event"

-- a place, with the line of its header
abbrev pub place_words : Place → Option ℕ → List ℕ
place_words Top line = codes "top"
place_words Network line = codes "network"
place_words (Member section number) line = section_name section ++ codes " " ++ decimal number ++ line_words line

-- an octet that is shown as it is: it is printed, and neither a blank nor `\`, which is 92
abbrev pub is_plain : ℕ → Bool
is_plain octet = nat_le 33 octet && (nat_le octet 126 && not (octet == 92))

-- any other is shown as `\x` and two digits
abbrev pub escaped_octet : ℕ → List ℕ
escaped_octet octet = if is_plain octet then octet ∷ [] else 92 ∷ codes "x" ++ encode_lower (octet ∷ [])

-- the front of a text in one word, so in one line; an empty text as `\`
abbrev pub escaped : List ℕ → List ℕ
escaped [] = 92 ∷ []
escaped (octet ∷ more) = flat_map escaped_octet (take 64 (octet ∷ more))

-- the key that was meant, maybe
abbrev pub near_words : Option (List ℕ) → List ℕ
near_words (Some known) = codes " near " ++ escaped known
near_words None = []
