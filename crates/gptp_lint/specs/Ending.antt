-- In which line and column a text ends.
use Rattle.std.specs.Prelude.{◌==◌, ◌++◌, ◌∷◌, ◌+◌, ◌||◌, ℕ, Bool, List, [], if◌then◌else◌, nat_le, nat_lt}
use Rattle.std.specs.List.{count_by, fold}

-- the line, from 1: one more than the line feeds before
abbrev pub is_feed : ℕ → Bool
is_feed octet = octet == 10

unfoldable pub line_at_end : List ℕ → ℕ
line_at_end text = count_by is_feed text + 1

-- what comes after the last line feed, which leaves nothing
abbrev pub with_octet : List ℕ → ℕ → List ℕ
with_octet line octet = if is_feed octet then [] else line ++ octet ∷ []

abbrev pub last_line : List ℕ → List ℕ
last_line text = fold with_octet [] text

-- the column, from 1: one more than the characters there, each of which begins with an octet outside 128 to 191
abbrev pub begins_character : ℕ → Bool
begins_character octet = nat_lt octet 128 || nat_le 192 octet

unfoldable pub column_at_end : List ℕ → ℕ
column_at_end text = count_by begins_character (last_line text) + 1
