-- What each fate draws.
use Rattle.std.specs.Prelude.{ℕ, ◌+◌, ◌-◌, ◌%◌, ◌==◌, nat_lt, if◌then◌else◌, min, max, List, [], ◌∷◌, Option, Some, None}
use Rattle.rand_pcg.specs.Lcg.{Lcg}
use Rattle.rand_pcg.specs.Pcg.{pcg64}
use Rattle.gptp_links.specs.declared.bounds.Bounds.{Bounds}

-- The delay of a frame that isn't lost: the one that there is, or the least and a word modulo their number.
abbrev pub delay_drawn : Bounds → Lcg → ℕ × Lcg
delay_drawn b g = if b.min == b.max then (b.min, g) else (b.min + (pcg64 g).0 % (b.max - b.min + 1), (pcg64 g).1)

abbrev pub delayed : Bounds → Lcg → Option ℕ × Lcg
delayed b g = (Some (delay_drawn b g).0, (delay_drawn b g).1)

-- Where there is loss, the frame is lost where a word modulo 1000 is below it.
abbrev pub drawn : Bounds → Lcg → Option ℕ × Lcg
drawn b g =
    if b.loss == 0 then delayed b g
    else if nat_lt ((pcg64 g).0 % 1000) b.loss then (None, (pcg64 g).1)
    else delayed b (pcg64 g).1

-- the lawful answer that is nearest to this one
abbrev pub nearest : Bounds → Option ℕ → Option ℕ
nearest b (Some delay) = Some (max b.min (min delay b.max))
nearest b None = if b.loss == 0 then Some b.max else None

-- the next answer of a list, and what is left of it
abbrev pub next_listed : Bounds → List (Option ℕ) → Option ℕ × List (Option ℕ)
next_listed b [] = (Some b.max, [])
next_listed b (answer ∷ rest) = (nearest b answer, rest)
