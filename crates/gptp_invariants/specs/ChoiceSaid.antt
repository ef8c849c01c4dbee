-- What a system says at one of its ports.
use Rattle.std.specs.Prelude.{ℕ, if◌then◌else◌, List, [], ◌∷◌, map}
use Rattle.gptp_vector.specs.declared.port.PortId.{PortId}
use Rattle.gptp_pdelay.specs.Progress.{same_identity}
use Rattle.gptp_system.specs.declared.sending.Sending.{Sending}
use Rattle.gptp_system.specs.State.{SystemState, own}
use Rattle.gptp_model.specs.Sends.{written}

-- the sends of one port, in their order
abbrev pub sends_at : SystemState → PortId → List Sending → List Sending
sends_at s port [] = []
sends_at s port (x ∷ xs) =
    if same_identity (own s x.port) port then x ∷ sends_at s port xs else sends_at s port xs

-- the octets of the sends of one port, in their order, as the system in this state writes them
abbrev pub said_at : SystemState → PortId → List Sending → List (List ℕ)
said_at s port xs = map (written s) (sends_at s port xs)
