-- The words of a line (profile).
use Rattle.std.specs.Prelude.{ℕ, ◌==◌, Bool, true, false, ◌||◌, List, [], ◌∷◌, filter}
use Rattle.std.specs.List.{slice_split}

-- a space or a tab
abbrev pub is_space_or_tab : ℕ → Bool
is_space_or_tab octet = octet == 32 || octet == 9

-- a part that isn't empty
abbrev pub is_word : List ℕ → Bool
is_word [] = false
is_word (octet ∷ octets) = true

-- words are what runs of blanks separate
abbrev pub words : List ℕ → List (List ℕ)
words line = filter is_word (slice_split is_space_or_tab line)
