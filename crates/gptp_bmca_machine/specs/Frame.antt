-- Announces, the frames that carry them, and the lanes that the frames travel.
use Rattle.std.specs.Prelude.{ℕ, ℤ, Bool, List}
use Rattle.gptp_graph.specs.Snapshot.{PortIdentity}

-- What an Announce says: root and steps of its sender, the port that sent it, the logarithm of that port's announce
-- interval, and the path trace (IEEE 802.1AS-2020, 10.6.3).
pub record Announce : Type 0 where
  pub root : ℕ
  pub steps : ℕ
  pub source : PortIdentity
  pub log : ℤ
  pub path : List ℕ

-- Which octets say which Announce; in worlds it is as the message grammar has it. Every law is over all such relations:
-- nothing of the grammar is used, and octets that say none may stand for any other message. Octets may say several
-- Announces, and whether they say one needn't be decidable.
abbrev pub Spelling : Type 1
Spelling = List ℕ → Announce → Type 0

-- what a Sync and its Follow_Up have in common: the port that sent both, and their number (sourcePortIdentity and
-- sequenceId; IEEE 1588-2019, 9.5.5)
pub record SyncId : Type 0 where
  pub source : PortIdentity
  pub sequence : ℕ

-- the two messages that tell time (IEEE 802.1AS-2020, 11.4.3 and 11.4.4)
pub data SyncMessage : Type 0 where
  Sync FollowUp : SyncId → SyncMessage

-- Which octets say which of them. Every law is over all such relations too.
abbrev pub SaysSync : Type 1
SaysSync = List ℕ → SyncMessage → Type 0

-- a frame in flight: when it is due at the other end, and its octets
pub record AnnounceFrame : Type 0 where
  pub due : ℕ
  pub octets : List ℕ

-- one direction of a link, with its loss rate, whether the link is up, and the frames in flight, oldest first
pub record Lane : Type 0 where
  pub from : PortIdentity
  pub to : PortIdentity
  pub loss : ℕ
  pub is_up : Bool
  pub frames : List AnnounceFrame

-- what a system sends: from which of its ports, and the octets
pub record Send : Type 0 where
  pub port : ℕ
  pub octets : List ℕ
