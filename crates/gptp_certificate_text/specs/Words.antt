-- What single spaces separate in a line (profile).
use Rattle.std.specs.Prelude.{◌≡◌, ◌<◌, ◌==◌, ◌||◌, not, ℕ, Bool, true, List, length}
use Rattle.std.specs.List.{list_all}

-- a tab, a line feed, a carriage return or a space
abbrev pub is_blank : ℕ → Bool
is_blank octet = octet == 9 || octet == 10 || octet == 13 || octet == 32

-- it isn't empty, and has no blank
pub record IsWord (word : List ℕ) : Type 0 where
  pub some : 0 < length word
  pub plain : list_all (λ octet. not (is_blank octet)) word ≡ true

-- the octet is none of the text
abbrev pub Lacks : ℕ → List ℕ → Type 0
Lacks octet text = list_all (λ other. not (other == octet)) text ≡ true
