-- The path trace that a system announces (IEEE 802.1AS-2020, 10.3.9.23).
use Rattle.std.specs.Prelude.{◌≡◌, ℕ, ◌-◌, ◌≤◌, List, [], ◌∷◌, ◌++◌, length, Option, Some, None, slice_get}
use Rattle.std.specs.Option.{option_and_then, option_map_or}
use Rattle.gptp_receipt.specs.declared.held.Held.{Held}
use Rattle.gptp_receipt.specs.declared.held.Reception.{Reception}
use Rattle.gptp_receipt.specs.Held.{received}

-- what the port with this number received
abbrev pub received_at : List Held → ℕ → Option Reception
received_at held port = option_and_then received (slice_get held (port - 1))

-- the path of what was received, and no clock where nothing was
abbrev pub path_received : Option Reception → List ℕ
path_received received_there = option_map_or (λ (r : Reception). r.path) received_there []

-- the path of the Slave port, and no clock where there is none
abbrev pub slave_path : List Held → Option ℕ → List ℕ
slave_path held None = []
slave_path held (Some port) = path_received (received_at held port)

-- the path of the Slave port with the own clock after it
abbrev pub system_trace : ℕ → List Held → Option ℕ → List ℕ
system_trace clock held slave = slave_path held slave ++ clock ∷ []

-- the Slave port, if there is one, is a port that received, over at most 255 clocks
abbrev pub SlaveReceived : List Held → Option ℕ → Type 0
SlaveReceived held None = Unit {0}
SlaveReceived held (Some port) = (r : Reception) × (1 ≤ port) × (received_at held port ≡ Some r) × (length r.path ≤ 255)
