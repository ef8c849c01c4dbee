-- What a system at rest follows: itself, or what its Slave port received (IEEE 802.1AS-2020, 10.3.5 and 10.3.9.23).
use Rattle.std.specs.Prelude.{◌≡◌, ◌+◌, ◌++◌, ℕ, suc, [], ◌∷◌, Some, None, slice_get}
use Rattle.gptp_receipt.specs.declared.held.Held.{Held}
use Rattle.gptp_receipt.specs.declared.held.Reception.{Reception}
use Rattle.gptp_receipt.specs.Held.{received}
use Rattle.gptp_system.specs.State.{SystemState, clock, trace}

-- its own root
pub record SystemIsRoot (s : SystemState) : Type 0 where
  pub root : s.root ≡ s.identity
  pub steps : s.steps ≡ 0
  pub slave : s.slave ≡ None
  pub path : trace s ≡ clock s ∷ []

-- the root that a port received, one step further
pub record SystemFollowsPort (s : SystemState) : Type 0 where
  pub place : ℕ
  pub held : Held
  pub reception : Reception
  pub there : slice_get s.held place ≡ Some held
  pub holds : received held ≡ Some reception
  pub root : s.root ≡ reception.vector.root
  pub steps : s.steps ≡ reception.vector.steps + 1
  pub slave : s.slave ≡ Some (suc place)
  pub path : trace s ≡ reception.path ++ clock s ∷ []
