-- What a world shows.
use Rattle.std.specs.Prelude.{◌≡◌, ℕ, ℤ, nat_le, true, if◌then◌else◌, List, [], ◌∷◌, map, Option, Some, slice_get}
use Rattle.gptp_roles.specs.declared.role.Role.{Role}
use Rattle.gptp_system.specs.Start.{role_at}
use Rattle.gptp_system.specs.State.{SystemState, clock, local_time}
use Rattle.gptp_system.specs.Steps.{HasPortNumber}
use Rattle.gptp_scenario.specs.declared.change.Act.{Act}
use Rattle.gptp_scenario.specs.declared.change.Act.TheVariants.{Deliver, Expire}
use Rattle.gptp_scenario.specs.declared.change.Timed.{Timed}
use Rattle.gptp_model.specs.declared.item.Item.{Item}
use Rattle.gptp_model.specs.declared.item.Item.TheVariants.{Expiry, Arrival}
use Rattle.gptp_model.specs.declared.station.Station.{Station}
use Rattle.gptp_model.specs.Changing.{IsStation}
use Rattle.gptp_model.specs.Pending.{IsNext}
use Rattle.gptp_model.specs.World.{WorldState}

-- the act that an item is: its timer expires, or its frame arrives
abbrev pub IsActOf : Item → WorldState → Act → Type 0
IsActOf (Arrival link direction) w act = act ≡ Deliver link direction
IsActOf (Expiry place timer) w act = (station : Station) × (slice_get w.stations place ≡ Some station)
    × (act ≡ Expire (clock station.system) timer)

-- the next that is due
pub record IsNextAct (w : WorldState) (timed : Timed) : Type 0 where
  pub item : Item
  pub next : IsNext w.net.pending timed.at item
  pub act : IsActOf item w timed.act

-- a number before the first of others that isn't below it
abbrev pub put_rising : ℕ → List ℕ → List ℕ
put_rising n [] = n ∷ []
put_rising n (x ∷ xs) = if nat_le n x then n ∷ x ∷ xs else x ∷ put_rising n xs

-- numbers in rising order
abbrev pub rising : List ℕ → List ℕ
rising [] = []
rising (n ∷ ns) = put_rising n (rising ns)

-- the clocks of all systems, live or not, in rising order
abbrev pub rising_clocks : WorldState → List ℕ
rising_clocks w = rising (map (λ (s : Station). clock s.system) w.stations)

abbrev pub IsLiveSystem : ℕ → Station → Type 0
IsLiveSystem place station = station.live ≡ true

-- the live system with a clock is in this state
pub record ShowsLive (number : ℕ) (w : WorldState) (s : SystemState) : Type 0 where
  pub place : ℕ
  pub station : Station
  pub is : IsStation number place w station
  pub live : station.live ≡ true
  pub state : s ≡ station.system

-- the clock of a system, live or not, shows this at a time
abbrev pub ShowsTime : ℕ → ℤ → ℕ → Station → Type 0
ShowsTime time shown place station = shown ≡ local_time station.system time

-- a system, live or not, has this base
abbrev pub HasBase : ℤ → ℕ → Station → Type 0
HasBase base place station = base ≡ station.system.base

-- a live system follows this root, so many steps away, over the port with this number
pub record FollowsRoot (root steps : ℕ) (slave : Option ℕ) (place : ℕ) (station : Station) : Type 0 where
  pub live : station.live ≡ true
  pub root_is : root ≡ station.system.root
  pub steps_are : steps ≡ station.system.steps
  pub slave_is : slave ≡ station.system.slave

-- a live system has a port with this number
pub record HasPort (port place : ℕ) (station : Station) : Type 0 where
  pub live : station.live ≡ true
  pub port_of : HasPortNumber station.system port

-- a live system has a port with this number, and the port has this role
pub record HasRole (port : ℕ) (role : Role) (place : ℕ) (station : Station) : Type 0 where
  pub live : station.live ≡ true
  pub port_of : HasPortNumber station.system port
  pub role_is : role ≡ role_at station.system port
