-- A system as it starts, and what it is asked (IEEE 802.1AS-2020, 10.3.4 and 10.3.5).
use Rattle.std.specs.Prelude.{ℕ, ℤ, pos, ◌+◌, ◌==◌, Bool, false, if◌then◌else◌, List, [], ◌∷◌, None, length, map}
use Rattle.std.specs.List.{range_with_len}
use Rattle.std.specs.Option.{option_map_or}
use Rattle.gptp_vector.specs.declared.port.PortId.{PortId}
use Rattle.gptp_receipt.specs.declared.held.Held.{Held}
use Rattle.gptp_receipt.specs.declared.held.Held.TheVariants as helds
use Rattle.gptp_roles.specs.Selection.{clock_of}
use Rattle.gptp_roles.specs.declared.role.Role.{Role}
use Rattle.gptp_roles.specs.declared.role.Role.TheVariants as roles
use Rattle.gptp_pdelay.specs.Peer.{new_peer}
use Rattle.gptp_system.specs.declared.port.Port.{Port}
use Rattle.gptp_setup.specs.declared.setup.Params.{Params}
use Rattle.gptp_setup.specs.declared.setup.Setup.{Setup}
use Rattle.gptp_setup.specs.Intervals.{interval_of}
use Rattle.gptp_system.specs.State.{SystemState, held_at}

-- a port that announces at this interval, has measured nothing, sent nothing, and whose link is down
abbrev pub new_port : PortId → Params → ℤ → Port
new_port own params log = record {
  log_interval = log;
  peer = new_peer own params.threshold params.lost params.window;
  pdelay = None;
  respond = None;
  announce = 0;
  announces = 0;
  syncs = 0;
}

-- ports that announce at these intervals, the first of which has this number
abbrev pub new_ports : ℕ → Params → ℕ → List ℤ → List Port
new_ports clock params n [] = []
new_ports clock params n (log ∷ logs) =
    new_port (record { clock = clock; port = n }) params log ∷ new_ports clock params (n + 1) logs

abbrev pub all_disabled : ℕ → List Held
all_disabled n = map (λ (p : ℕ). helds.Disabled) (range_with_len 1 n)

-- A system starts as its own root, with all ports Disabled; it sends time one sync interval later. It has no time yet,
-- and its base is 0.
abbrev pub started : Setup → ℕ → SystemState
started setup now = record {
  params = setup.params;
  largest = setup.largest;
  phase = setup.phase;
  drift = setup.drift;
  continues = setup.continues;
  seed = setup.seed;
  identity = setup.identity;
  held = all_disabled (length setup.intervals.items);
  ports = new_ports (clock_of setup.identity) setup.params 1 setup.intervals.items;
  root = setup.identity;
  steps = 0;
  slave = None;
  sync_in = None;
  known = None;
  offset = None;
  reads = None;
  base = pos 0;
  sync = now + interval_of setup.params.sync;
  relay = None;
  lapse = None;
}

-- what a port that received is for the synchronization tree: the Slave, or silent
abbrev pub sync_role_of_received : Bool → Role
sync_role_of_received is_slave = if is_slave then roles.Slave else roles.Passive

-- the role of a port that holds this
abbrev pub role_by : Bool → Held → Role
role_by is_slave helds.Disabled = roles.Disabled
role_by is_slave helds.Aged = roles.Master
role_by is_slave (helds.Mine root steps) = roles.Master
role_by is_slave (helds.Received r) = sync_role_of_received is_slave

-- the role of a port of a system at rest (10.3.6)
abbrev pub role_at : SystemState → ℕ → Role
role_at s p = role_by (option_map_or (λ slave. slave == p) s.slave false) (held_at s p)
