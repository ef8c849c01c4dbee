-- The chosen vector (IEEE 802.1AS-2020, 10.3.5: gmPriorityVector).
use Rattle.std.specs.Prelude.{◌≡◌, ◌⊎◌, ℕ, ◌+◌, ◌<◌, ◌≤◌, ◌==◌, false, if◌then◌else◌, List, [], ◌∷◌, length, Option, Some, None}
use Rattle.std.specs.List.{AllByRecursion}
use Rattle.std.specs.Option.{ForSome, option_map_or}
use Rattle.gptp_vector.specs.declared.vector.Vector.{Vector}
use Rattle.gptp_vector.specs.Vector.{lower, path_of, system_vector}
use Rattle.gptp_receipt.specs.declared.held.Held.{Held}
use Rattle.gptp_receipt.specs.declared.held.Reception.{Reception}
use Rattle.gptp_receipt.specs.Held.{received}

-- the path vectors of all ports that received one
abbrev pub path_vectors : List Held → List Vector
path_vectors [] = []
path_vectors (h ∷ hs) =
    option_map_or (λ (r : Reception). path_of r.vector ∷ path_vectors hs) (received h) (path_vectors hs)

-- a vector is among the vectors
abbrev pub IsIn : Vector → List Vector → Type 0
IsIn v [] = ⊥
IsIn v (w ∷ ws) = (v ≡ w) ⊎ IsIn v ws

-- a member of the list than which no member is lower
pub record IsLeast (vs : List Vector) (v : Vector) : Type 0 where
  pub member : IsIn v vs
  pub least : AllByRecursion (λ w. lower w v ≡ false) vs

-- The chosen vector: the least of the system vector and the path vectors.
abbrev pub IsChosen : ℕ → List Held → Vector → Type 0
IsChosen identity held v = IsLeast (system_vector identity ∷ path_vectors held) v

-- what a port with this number can have received
pub record IsPlaced (port : ℕ) (r : Reception) : Type 0 where
  pub receiver : r.vector.receiver ≡ port
  pub near : r.vector.steps < 255
  pub short : length r.path ≤ 255

-- what the ports received was received there; the first has this number
abbrev pub ArePlaced : ℕ → List Held → Type 0
ArePlaced port [] = Unit {0}
ArePlaced port (h ∷ hs) = ForSome (received h) (IsPlaced port) × ArePlaced (port + 1) hs

-- The port that a chosen vector came from is its receiving port; the system vector has none.
abbrev pub slave_port : Vector → Option ℕ
slave_port chosen = if chosen.receiver == 0 then None else Some chosen.receiver

-- the better of a vector and the path vector of a port, if it received one
abbrev pub with_held : Vector → Held → Vector
with_held best held =
    option_map_or (λ (r : Reception). if lower (path_of r.vector) best then path_of r.vector else best) (received held)
    best
