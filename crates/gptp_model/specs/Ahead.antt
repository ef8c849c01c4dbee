-- A world whose systems are as their steps ask, and in which nothing is due before its time.
use Rattle.std.specs.Prelude.{◌≡◌, ◌≢◌, ◌≤◌, ℕ, nat_le, true, List, length, Some, slice_get}
use Rattle.std.specs.List.{filter}
use Rattle.gptp_vector.specs.declared.port.PortId.{PortId}
use Rattle.gptp_links.specs.Bounds.{Fit}
use Rattle.gptp_system.specs.declared.port.Port.{Port}
use Rattle.gptp_setup.specs.declared.timer.Timer.{Timer}
use Rattle.gptp_system.specs.Facts.{AreHeld, AreShown, IsAtRest}
use Rattle.gptp_system.specs.Input.{Input, Expires}
use Rattle.gptp_setup.specs.Intervals.{AreParams, IsLog}
use Rattle.gptp_system.specs.State.{SystemState, clock, due}
use Rattle.gptp_system.specs.Steps.{HasPortNumber}
use Rattle.gptp_model.specs.declared.item.Item.TheVariants.{Expiry}
use Rattle.gptp_model.specs.declared.station.Station.{Station}
use Rattle.gptp_model.specs.Pending.{Entry, times_of_item, timer_time, NothingBefore}
use Rattle.gptp_model.specs.World.{Channel, WorldState, station_due}

-- how much is pending at a time or before it
abbrev pub due_by : ℕ → List Entry → ℕ
due_by time es = length (filter (λ (e : Entry). nat_le e.time time) es)

-- what is true of every system of a world: its step's laws ask for it
pub record IsSteady (s : SystemState) : Type 0 where
  pub params : AreParams s.params
  pub largest : IsLog s.largest
  pub logs : (i : ℕ) (q : Port) → slice_get s.ports i ≡ Some q → IsLog q.log_interval
  pub held : AreHeld s
  pub rest : IsAtRest s
  pub shown : AreShown s

-- no timer of a system is due before this time
abbrev pub NoneLate : ℕ → SystemState → Type 0
NoneLate time s = (timer : Timer) (t : ℕ) → due timer s ≡ Some t → time ≤ t

-- Each timer of the system at a place is pending just when it is due. One that the input says runs out needn't be.
abbrev pub ArePending : ℕ → Input → SystemState → List Entry → Type 0
ArePending place input s es =
    (timer : Timer) → input ≢ Expires timer → times_of_item (Expiry place timer) es ≡ timer_time (due timer s)

-- each timer of all systems is pending just when it is due; none of a system that has failed is pending
abbrev pub AllArePending : WorldState → Type 0
AllArePending w = (place : ℕ) (station : Station) → slice_get w.stations place ≡ Some station
    → (timer : Timer) → times_of_item (Expiry place timer) w.net.pending ≡ timer_time (station_due timer station)

-- a station can start, its system is steady, and no timer of it is late where it is live
pub record IsOnTime (time : ℕ) (station : Station) : Type 0 where
  pub setup : AreParams station.setup.params
  pub steady : IsSteady station.system
  pub timers : station.live ≡ true → NoneLate time station.system

-- the bounds of each link are such as a link can have
abbrev pub AreFit : List Channel → Type 0
AreFit channels = (place : ℕ) (channel : Channel) → slice_get channels place ≡ Some channel → Fit channel.bounds

-- Every station is on time, the bounds of every link are fit, and nothing that is pending is late.
pub record IsWorldOnTime (w : WorldState) : Type 0 where
  pub stations : (place : ℕ) (station : Station) → slice_get w.stations place ≡ Some station → IsOnTime w.time station
  pub links : AreFit w.net.channels
  pub pending : NothingBefore w.time w.net.pending

-- the system at a place has so many ports
abbrev pub HasPorts : ℕ → ℕ → WorldState → Type 0
HasPorts place ports w =
    (station : Station) → slice_get w.stations place ≡ Some station → length station.system.ports ≡ ports

-- a port is one of the system that has its clock
abbrev pub IsPortAmong : PortId → List Station → Type 0
IsPortAmong port stations = (place : ℕ) (station : Station) → slice_get stations place ≡ Some station
    → clock station.system ≡ port.clock → HasPortNumber station.system port.port
