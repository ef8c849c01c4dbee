-- What the systems of every sound world hold, and follow.
use Rattle.std.specs.Prelude.{◌≡◌, ◌≢◌, ◌⊎◌, ℕ, false, true, Some, slice_get}
use Rattle.gptp_vector.specs.Vector.{lower, master_of}
use Rattle.gptp_receipt.specs.declared.held.Held.{Held}
use Rattle.gptp_receipt.specs.declared.held.Held.TheVariants.{Aged, Mine}
use Rattle.gptp_receipt.specs.declared.held.Reception.{Reception}
use Rattle.gptp_receipt.specs.Held.{CameTo, received}
use Rattle.gptp_system.specs.State.{SystemState, clock, own}
use Rattle.gptp_model.specs.declared.station.Station.{Station}
use Rattle.gptp_model.specs.World.{WorldState}

-- Port n of a system that holds this: nothing aged; as Master the root and steps of the system; where it received
-- something and isn't Slave, its master vector isn't lower than that. What it received qualified there: it is no loop.
pub record IsPortAtRest (s : SystemState) (n : ℕ) (h : Held) : Type 0 where
  pub fresh : h ≢ Aged
  pub mine : (root steps : ℕ) → h ≡ Mine root steps → (root ≡ s.root) × (steps ≡ s.steps)
  pub passive : (r : Reception) → received h ≡ Some r
      → (s.slave ≡ Some n) ⊎ (lower (master_of s.root s.steps (clock s) n) r.vector ≡ false)
  pub came : (r : Reception) → received h ≡ Some r → CameTo (own s n) r

-- this is so of each live system
abbrev pub OfEachSystem : (SystemState → Type 0) → WorldState → Type 0
OfEachSystem So w = (place : ℕ) (station : Station) → slice_get w.stations place ≡ Some station → station.live ≡ true
    → So station.system
