-- The role of a port, what it holds then, and whether it announces at once (IEEE 802.1AS-2020, 10.3.6, 10.3.13).
use Rattle.std.specs.Prelude.{ℕ, ◌+◌, ◌==◌, ◌&&◌, Bool, true, false, not, if◌then◌else◌, List, [], ◌∷◌}
use Rattle.std.specs.Option.{option_map_or}
use Rattle.gptp_vector.specs.declared.vector.Vector.{Vector}
use Rattle.gptp_vector.specs.Vector.{lower, master_of}
use Rattle.gptp_receipt.specs.declared.held.Held.{Held}
use Rattle.gptp_receipt.specs.declared.held.Held.TheVariants as helds
use Rattle.gptp_receipt.specs.declared.held.Reception.{Reception}
use Rattle.gptp_receipt.specs.Held.{received}
use Rattle.gptp_roles.specs.declared.role.Role.{Role}
use Rattle.gptp_roles.specs.declared.role.Role.TheVariants.{Disabled, Master, Slave, Passive}

-- A port that received and isn't the Slave is Master where its master vector is lower than what it
-- received, and Passive otherwise.
abbrev pub master_or_passive : Vector → ℕ → ℕ → Vector → Role
master_or_passive chosen clock port known =
    if lower (master_of chosen.root chosen.steps clock port) known then Master else Passive

-- a port that received is the Slave where the chosen vector came from it
abbrev pub role_of_received : Vector → ℕ → ℕ → Vector → Role
role_of_received chosen clock port known =
    if chosen.receiver == port then Slave else master_or_passive chosen clock port known

-- a port that received nothing is Master, or Disabled where it isn't asCapable
abbrev pub role_of_rest : Held → Role
role_of_rest helds.Disabled = Disabled
role_of_rest _ = Master

abbrev pub chosen_role : Vector → ℕ → ℕ → Held → Role
chosen_role chosen clock port held =
    option_map_or (λ (r : Reception). role_of_received chosen clock port r.vector) (received held) (role_of_rest held)

abbrev pub is_master : Role → Bool
is_master Master = true
is_master _ = false

abbrev pub is_slave : Role → Bool
is_slave Slave = true
is_slave _ = false

-- a Master port then holds the chosen root and the own steps, and every other port what it held
abbrev pub held_after_selection : Vector → ℕ → ℕ → Held → Held
held_after_selection chosen clock port held =
    if is_master (chosen_role chosen clock port held) then helds.Mine chosen.root chosen.steps else held

-- the port was Master before, with this root and these steps
abbrev pub announces_already : Vector → Held → Bool
announces_already chosen (helds.Mine root steps) = root == chosen.root && steps == chosen.steps
announces_already chosen _ = false

-- a Master port is fresh that wasn't Mine before, or whose root or steps changed
abbrev pub is_fresh : Vector → ℕ → ℕ → Held → Bool
is_fresh chosen clock port held = is_master (chosen_role chosen clock port held) && not (announces_already chosen held)

-- a function of the number and the state of each port, for ports the first of which has this number
abbrev pub each_from : {X : Type 0} → (ℕ → Held → X) → ℕ → List Held → List X
each_from f port [] = []
each_from f port (h ∷ hs) = f port h ∷ each_from f (port + 1) hs

-- a function of the number and the state of each port, for all ports of a system, which are numbered from 1
abbrev pub each_port : {X : Type 0} → (ℕ → Held → X) → List Held → List X
each_port f held = each_from f 1 held
