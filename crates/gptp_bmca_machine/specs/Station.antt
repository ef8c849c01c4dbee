-- The state of the machine: systems with what their ports hold, and the lanes between them.
use Rattle.std.specs.Prelude.{◌≡◌, ℕ, ℤ, Bool, List, Option, Some, slice_get}
use Rattle.gptp_bmca_machine.specs.Frame.{Announce, SyncId, Lane}

-- an Announce that was received: what it said, when, and for how long it stays if nothing replaces it
pub record Reception : Type 0 where
  pub said : Announce
  pub at : ℕ
  pub span : ℕ

-- what a port holds (IEEE 802.1AS-2020, 10.3.10): nothing while disabled, nothing since it aged, the root and steps
-- that it announces as master, or what it received
pub data Held : Type 0 where
  Disabled : Held
  Aged : Held
  Mine : (root steps : ℕ) → Held
  Received : Reception → Held

-- a port: what it holds, the logarithm of its announce interval, that interval, and when its Announce timer is due
pub record Port : Type 0 where
  pub held : Held
  pub log : ℤ
  pub interval : ℕ
  pub announce : ℕ

-- A system, live or failed, by its clock and identity: its ports, of which number n stands at place n - 1; what it
-- follows, which is the root, the steps to it, the slave port and the path trace that it announces; the Sync that it
-- keeps until the Follow_Up comes; and when its Sync timer is due, while they run its Relay timer, and the one by which
-- what its slave port holds lapses for want of Sync.
pub record Station : Type 0 where
  pub live : Bool
  pub clock : ℕ
  pub identity : ℕ
  pub ports : List Port
  pub root : ℕ
  pub steps : ℕ
  pub slave : Option ℕ
  pub trace : List ℕ
  pub kept : Option SyncId
  pub sync : ℕ
  pub relay : Option ℕ
  pub lapse : Option ℕ

-- The time, the systems, and one lane for each direction of each link. `view` of gptp_invariants makes it of a world,
-- by stations_are_seen and lanes_are_seen.
pub record MachineState : Type 0 where
  pub time : ℕ
  pub stations : List Station
  pub lanes : List Lane

-- the port at this place received this
abbrev pub HoldsAt : Station → ℕ → Reception → Type 0
HoldsAt s i r = (q : Port) × (slice_get s.ports i ≡ Some q) × (q.held ≡ Received r)
