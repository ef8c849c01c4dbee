-- What systems tell that don't go on with the time that they read.
use Rattle.std.specs.Prelude.{◌≡◌, ℕ, false, pos, Some, slice_get}
use Rattle.gptp_model.specs.declared.station.Station.{Station}
use Rattle.gptp_model.specs.World.{WorldState}

-- A system goes on with the time that it read only where it is set up so. One that isn't has no base: it tells what its
-- clock shows.
pub record TellsAsSetUp (station : Station) : Type 0 where
  pub continues : station.system.continues ≡ station.setup.continues
  pub own : station.setup.continues ≡ false → station.system.base ≡ pos 0

-- each system of a world does
abbrev pub TellAsSetUp : WorldState → Type 0
TellAsSetUp w = (place : ℕ) (station : Station) → slice_get w.stations place ≡ Some station → TellsAsSetUp station
