-- The two messages that carry time, by the fields that it uses (IEEE 802.1AS-2020, 11.4.3 and 11.4.4).
use Rattle.std.specs.Prelude.{◌≡◌, ℕ, List}
use Rattle.gptp_graph.specs.Snapshot.{PortIdentity}
use Rattle.gptp_correction.specs.declared.correction.Relayed.{Relayed}

-- a Sync of two steps and a Follow_Up: the port that sent it and its sequenceId, and what the Follow_Up tells
pub data Message : Type 0 where
  Sync : PortIdentity → ℕ → Message
  FollowUp : PortIdentity → ℕ → Relayed → Message

-- The octets are this one message, and no other. `decode` reads those of a world as one message at most: a Sync of two
-- steps, or a Follow_Up.
pub record IsOneMessage (says : List ℕ → Message → Type 0) (octets : List ℕ) (message : Message) : Type 0 where
  pub said : says octets message
  pub only : (other : Message) → says octets other → other ≡ message
