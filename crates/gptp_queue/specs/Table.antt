-- What is due at each place, as a list of entries by rising number.
use Rattle.std.specs.Prelude.{◌≡◌, ◌≢◌, ℕ, ◌+◌, ◌^◌, ◌<◌, ◌==◌, List, [], ◌∷◌, if◌then◌else◌, nat_lt, slice_index_or}
use Rattle.gptp_queue.specs.Waiting.{entry}
use Rattle.gptp_queue.specs.Entry.{Entry}
use Rattle.gptp_queue.specs.declared.table.Cell.{Cell}

pub record TableState : Type 0 where
  pub next : ℕ
  pub places : ℕ
  pub entries : List Entry

abbrev pub NO_NUMBER : ℕ
NO_NUMBER = 18446744073709551615

abbrev pub free_cell : Cell
free_cell = record { time = 0; number = NO_NUMBER }

-- an entry among others by rising number
abbrev pub insert : Entry → List Entry → List Entry
insert e [] = e ∷ []
insert e (x ∷ xs) = if nat_lt e.number x.number then e ∷ x ∷ xs else x ∷ insert e xs

-- what the cells hold from this place on
unfoldable pub entries_from : ℕ → List Cell → List Entry
entries_from place [] = []
entries_from place (c ∷ cs) =
    if c.number == NO_NUMBER then entries_from (place + 1) cs
    else insert (entry c.time c.number place) (entries_from (place + 1) cs)

abbrev pub number_at : List Cell → ℕ → ℕ
number_at cells place = (slice_index_or cells place free_cell).number

-- no two cells have a number in common, and each number is below the next
pub record AreNumbered (next : ℕ) (cells : List Cell) : Type 0 where
  pub fits : next < 2 ^ 64
  pub below : (i : ℕ) → number_at cells i ≢ NO_NUMBER → number_at cells i < next
  pub differ : (i j : ℕ) → number_at cells i ≡ number_at cells j → number_at cells i ≢ NO_NUMBER → i ≡ j
