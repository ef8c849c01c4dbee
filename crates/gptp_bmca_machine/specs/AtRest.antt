-- A system at rest: selecting roles again from what its ports hold would change nothing.
use Rattle.std.specs.Prelude.{◌≡◌, ◌≢◌, ◌⊎◌, ℕ, suc, List, ◌∷◌, Some, None, slice_get}
use Rattle.gptp_graph.specs.Order.{IsLower}
use Rattle.gptp_bmca_machine.specs.Station.{Reception, Aged, Mine, Port, Station, HoldsAt}
use Rattle.gptp_bmca_machine.specs.Vectors.{message, path_vector, master, system_vector}

-- the vector is the system's own, and no port is slave
abbrev pub ChoosesItself : Station → List ℕ → Type 0
ChoosesItself s vector = (vector ≡ system_vector s) × (s.slave ≡ None)

-- the vector is that of what the slave port received
abbrev pub ChoosesPort : Station → List ℕ → Type 0
ChoosesPort s vector = (i : ℕ) × (r : Reception) × HoldsAt s i r × (vector ≡ path_vector r.said (suc i))
    × (s.slave ≡ Some (suc i))

-- Of its own vector and the path vectors of all that its ports received none is lower than the one chosen, of which it
-- has the root and the steps (IEEE 802.1AS-2020, 10.3.5). No port is left aged, a master port holds that root and those
-- steps, and a port that received something and isn't slave has no lower master vector (10.3.13).
pub record StationIsAtRest (s : Station) : Type 0 where
  pub vector : List ℕ
  pub chosen : ChoosesItself s vector ⊎ ChoosesPort s vector
  pub own_not_lower : IsLower (system_vector s) vector → ⊥
  pub held_not_lower : (i : ℕ) (r : Reception) → HoldsAt s i r → IsLower (path_vector r.said (suc i)) vector → ⊥
  pub source : List ℕ
  pub is : vector ≡ s.root ∷ s.steps ∷ source
  pub fresh : (i : ℕ) (q : Port) → slice_get s.ports i ≡ Some q → q.held ≢ Aged
  pub mine : (i : ℕ) (q : Port) (root steps : ℕ) → slice_get s.ports i ≡ Some q → q.held ≡ Mine root steps
      → (root ≡ s.root) × (steps ≡ s.steps)
  pub passive : (i : ℕ) (r : Reception) → HoldsAt s i r
      → (s.slave ≡ Some (suc i)) ⊎ (IsLower (master s.root s.steps s.clock (suc i)) (message r.said (suc i)) → ⊥)
