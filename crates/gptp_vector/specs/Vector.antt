-- Priority vectors as lists of numbers, and what they become (IEEE 802.1AS-2020, 10.3.4 and 10.3.5).
use Rattle.std.specs.Prelude.{ℕ, Bool, ◌+◌, ◌%◌, ◌^◌, List, [], ◌∷◌}
use Rattle.std.specs.declared.cmp.Ordering.{Ordering}
use Rattle.std.specs.Cmp.Lexicographic.{slice_cmp}
use Rattle.std.specs.Ordering.{nat_cmp, is_lt}
use Rattle.gptp_vector.specs.declared.vector.Vector.{Vector}

-- what a vector is compared by, the weightiest first: root, steps, source clock, source port and receiving port
abbrev pub parts : Vector → List ℕ
parts v = v.root ∷ v.steps ∷ v.source.clock ∷ v.source.port ∷ v.receiver ∷ []

-- the first part in which two vectors differ decides, and the lower number is the better
abbrev pub order : Vector → Vector → Ordering
order a b = slice_cmp nat_cmp (parts a) (parts b)

-- a vector goes before another: it is the better one
abbrev pub lower : Vector → Vector → Bool
lower a b = is_lt (order a b)

-- the path vector: one step more
abbrev pub path_of : Vector → Vector
path_of v = record v { steps = v.steps + 1 }

-- the system vector: its own root, no steps, and port 0 of its own clock
abbrev pub system_vector : ℕ → Vector
system_vector identity =
    record { root = identity; steps = 0; source = record { clock = identity % 2 ^ 64; port = 0 }; receiver = 0 }

-- the master vector of a port
abbrev pub master_of : ℕ → ℕ → ℕ → ℕ → Vector
master_of root steps clock port =
    record { root = root; steps = steps; source = record { clock = clock; port = port }; receiver = port }
