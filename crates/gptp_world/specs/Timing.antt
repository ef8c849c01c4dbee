-- What is pending of a system's timers, of which a step touches few.
use Rattle.std.specs.Prelude.{◌≡◌, ℕ, ◌+◌, Bool, false, List, [], ◌∷◌, Some, slice_get}
use Rattle.gptp_system.specs.declared.port.Port.{Port}
use Rattle.gptp_setup.specs.declared.timer.Timer.{Timer}
use Rattle.gptp_setup.specs.declared.timer.Timer.TheVariants as timers
use Rattle.gptp_system.specs.declared.timers_changed.TimersChanged.{TimersChanged}
use Rattle.gptp_system.specs.Input.{Input}
use Rattle.gptp_system.specs.TimersChanged.{holds, is_always_touched, IsTouchedOf}
use Rattle.gptp_model.specs.declared.item.Item.TheVariants.{Expiry}
use Rattle.gptp_world.specs.declared.world_parts.WorldParts.{WorldParts}
use Rattle.gptp_model.specs.declared.station.Station.{Station}
use Rattle.gptp_model.specs.Pending.{Entry, timer_time, times_of_item}
use Rattle.gptp_model.specs.World.{station_due}

-- those that selection can change, of ports the first of which has this number: in the order in which they are put
abbrev pub selected_from : ℕ → List Port → List Timer
selected_from p [] = timers.Relay ∷ timers.Lapse ∷ []
selected_from p (q ∷ qs) = timers.Announce p ∷ timers.Age p ∷ selected_from (p + 1) qs

-- ---- what is pending of the others

-- each timer of a station is pending when it is due, those aside that may be otherwise
abbrev pub AreSetBut : (Timer → Bool) → ℕ → Station → List Entry → Type 0
AreSetBut otherwise place station es =
    (timer : Timer) → otherwise timer ≡ false
    → times_of_item (Expiry place timer) es ≡ timer_time (station_due timer station)

-- each timer of the system at a place is pending when it is due, those aside that may be otherwise
abbrev pub AreSetAt : (Timer → Bool) → ℕ → WorldParts → Type 0
AreSetAt otherwise place parts = (station : Station) → slice_get parts.stations.items place ≡ Some station
    → AreSetBut otherwise place station parts.net.traffic.net.pending

-- before a step by this input each timer of the system at a place is pending when it is due, those aside that count as
-- touched in any case
abbrev pub AreSetFor : Input → ℕ → WorldParts → Type 0
AreSetFor input place parts = AreSetAt (is_always_touched input) place parts

-- A step of the system at a place touched these, which are its own; all its other timers are pending when they are due.
pub record HasTouched (touched : TimersChanged) (place : ℕ) (parts : WorldParts) : Type 0 where
  pub station : Station
  pub here : slice_get parts.stations.items place ≡ Some station
  pub own : IsTouchedOf station.system touched
  pub set : AreSetBut (holds touched) place station parts.net.traffic.net.pending
