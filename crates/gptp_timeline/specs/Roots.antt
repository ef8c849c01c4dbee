-- Where roots that don't fall change.
use Rattle.std.specs.Prelude.{ℕ, ◌+◌, ◌-◌, ◌==◌, ◌&&◌, nat_lt, Bool, true, not, List, Option, Some, None, get_or, slice_get}

-- another root follows, or none
abbrev pub is_other : Option ℕ → ℕ → Bool
is_other None root = true
is_other (Some next) root = not (next == root)

abbrev pub another_next : List ℕ → ℕ → Bool
another_next roots place = is_other (slice_get roots (place + 1)) (get_or roots place 0)

-- the root at a place is that before it
abbrev pub same_before : List ℕ → ℕ → Bool
same_before roots place = nat_lt 0 place && (get_or roots (place - 1) 0 == get_or roots place 0)
