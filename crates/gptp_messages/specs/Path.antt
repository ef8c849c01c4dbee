-- The octets of a path trace.
use Rattle.std.specs.Prelude.{ℕ, List}
use Rattle.std.specs.List.{flat_map}
use Rattle.byteorder.specs.Endian.{big_bytes}

-- the octets that spell a path, eight for each clock
abbrev pub path_octets : List ℕ → List ℕ
path_octets path = flat_map (λ c. big_bytes 8 c) path
