-- Which Follow_Ups in flight will match: a Follow_Up belongs to the Sync before it that came from the same port with
-- the same number (IEEE 802.1AS-2020, 11.2.14; IEEE 1588-2019, 9.5.5).
use Rattle.std.specs.Prelude.{◌≡◌, ◌⊎◌, ℕ, List, [], ◌∷◌, Option, Some, slice_get}
use Rattle.gptp_graph.specs.Snapshot.{PortIdentity}
use Rattle.gptp_bmca_machine.specs.Frame.{SyncId, Sync, FollowUp, SaysSync, AnnounceFrame, Lane}
use Rattle.gptp_bmca_machine.specs.Station.{Station}

-- the frame says no Sync from this port
abbrev pub IsNoSync : SaysSync → PortIdentity → AnnounceFrame → Type 0
IsNoSync says_sync from f = (id : SyncId) → says_sync f.octets (Sync id) → id.source ≡ from → ⊥

-- the Follow_Up of this Sync is among the frames, due at this time, with no other Sync from that port before it
abbrev pub HasFollowUp : SaysSync → PortIdentity → SyncId → List AnnounceFrame → ℕ → Type 0
HasFollowUp says_sync from id [] due = ⊥
HasFollowUp says_sync from id (f ∷ fs) due = (says_sync f.octets (FollowUp id) × (f.due ≡ due))
    ⊎ (IsNoSync says_sync from f × HasFollowUp says_sync from id fs due)

-- a Sync from this port is among the frames, and its Follow_Up after it
abbrev pub HasPair : SaysSync → PortIdentity → List AnnounceFrame → ℕ → Type 0
HasPair says_sync from [] due = ⊥
HasPair says_sync from (f ∷ fs) due =
    ((id : SyncId) × says_sync f.octets (Sync id) × (id.source ≡ from) × HasFollowUp says_sync from id fs due)
    ⊎ HasPair says_sync from fs due

-- a Follow_Up among the frames, due at this time, will match: its Sync is kept where the frames lead, or before it
abbrev pub WillMatch : SaysSync → PortIdentity → Option SyncId → List AnnounceFrame → ℕ → Type 0
WillMatch says_sync from kept fs due = ((id : SyncId) × (kept ≡ Some id) × HasFollowUp says_sync from id fs due)
    ⊎ HasPair says_sync from fs due

-- such a Follow_Up is on the lane at place j
pub record Matches (says_sync : SaysSync) (stations : List Station) (lanes : List Lane) (j due : ℕ) : Type 0 where
  pub lane : Lane
  pub there : slice_get lanes j ≡ Some lane
  pub place : ℕ
  pub hearer : Station
  pub stands : slice_get stations place ≡ Some hearer
  pub clock : hearer.clock ≡ lane.to.clock
  pub matches : WillMatch says_sync lane.from hearer.kept lane.frames due
