-- The numbers of lines, from 1, which end at line feeds.
use Rattle.std.specs.Prelude.{◌≡◌, ◌==◌, ◌-◌, ◌≤◌, ℕ, suc, List, count_by, length, take}
use Rattle.gptp_outline.specs.declared.counter.LineMark.{LineMark}

-- the number of the line of a place
abbrev pub line_at : List ℕ → ℕ → ℕ
line_at text place = suc (count_by (λ octet. octet == 10) (take place text))

-- the number of the line of a text at which this is left of it
abbrev pub line_number : List ℕ → List ℕ → ℕ
line_number text rest = line_at text (length text - length rest)

-- ---- what the code keeps

-- a mark is at a place of a text, and has its line
pub record IsCounted (text : List ℕ) (mark : LineMark) : Type 0 where
  pub within : mark.place ≤ length text
  pub counted : mark.line ≡ line_at text mark.place
