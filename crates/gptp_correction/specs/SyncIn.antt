-- A Follow_Up and the Sync that it belongs to (IEEE 802.1AS-2020, 11.2.14; the match by source and number: IEEE
-- 1588-2019, 9.5.5).
use Rattle.std.specs.Prelude.{ℕ, ℤ, Bool, ◌==◌, ◌&&◌, if◌then◌else◌, Option, Some, None}
use Rattle.gptp_vector.specs.declared.port.PortId.{PortId}
use Rattle.gptp_messages.specs.declared.follow_up.FollowUp.{FollowUp}
use Rattle.gptp_correction.specs.declared.sync_in.KeptSync as declared
use Rattle.gptp_correction.specs.declared.sync_in.SyncInfo.{SyncInfo}

-- the Sync that is kept: its source, its number, and when it came
abbrev pub KeptSync : Type 0
KeptSync = declared.KeptSync

-- the Sync of this source and number that came then
abbrev pub kept : PortId → ℕ → ℤ → KeptSync
kept source sequence ingress = record { source = source; sequence = sequence; ingress = ingress }

-- a Follow_Up belongs to a Sync of the same source port and number
abbrev pub belongs : FollowUp → KeptSync → Bool
belongs f k =
    f.head.source.clock == k.source.clock && f.head.source.port == k.source.port && f.head.sequence == k.sequence

-- what the two say: origin, correction and rate of the Follow_Up, and when the Sync came
abbrev pub together : FollowUp → KeptSync → SyncInfo
together f k = record { origin = f.origin; correction = f.head.correction; rate = f.rate; ingress = k.ingress }

-- what a Follow_Up says where such a Sync is kept, and nothing otherwise
abbrev pub information : Option KeptSync → FollowUp → Option SyncInfo
information None f = None
information (Some k) f = if belongs f k then Some (together f k) else None
