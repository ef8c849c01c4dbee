-- Laws on a system that follows its parent.
use Rattle.std.specs.Prelude.{◌≡◌, ℕ, suc, ◌+◌, ◌*◌, ◌^◌, ◌<◌, ◌≤◌, ℤ, pos, ◌-ℤ◌, List, ◌∷◌, None, Some, length}
use Rattle.gptp_lists.specs.Members.{In}
use Rattle.gptp_graph.specs.Snapshot.{PortIdentity}
use Rattle.gptp_scaled.specs.Stamp.{Timestamp, IsSplit}
use Rattle.gptp_scaled.specs.Counts.{AreWithin}
use Rattle.gptp_pdelay.specs.Clock.{IsTime}
use Rattle.gptp_correction.specs.declared.correction.Relayed.{Relayed}
use Rattle.gptp_correction.specs.declared.sync_in.SyncInfo.{SyncInfo}
use Rattle.gptp_correction.specs.Correction.{bridge, carried, carried_on, sync_received, relayed, BridgeFits}
use Rattle.gptp_pdelay_machine.specs.Lanes.{LaneFrame}
use Rattle.gptp_error_laws.specs.TimeError.{WayLink, time_error_at}
use Rattle.gptp_error_laws.specs.WayLaws.{longer}
use Rattle.gptp_sync_machine.specs.Messages.{Message, FollowUp, IsOneMessage}
use Rattle.gptp_sync_machine.specs.Right.{IsHeldAt, IsMeasuredAt, FollowUpIsRight, at_rate, info_of, most_correction_at, root_time}
use Rattle.gptp_sync_machine.specs.Follower.{Follower, IsSetting, FollowerSetting, from, parent_link, own_clock, root_told}
use Rattle.gptp_sync_machine.specs.Acts.{FollowerActs, FollowerWaits, kept_at_ingress}
use Rattle.gptp_sync_machine.specs.Invariant.{FollowerInvariant, IsJustSettled}
use Rattle.gptp_sync_machine.specs.Runs.{IsFollowerRun}

-- The system with the setting k is the parent of that with k': the way goes on over one link, from the same root. Shown
-- of parents in a snapshot by parents_are_parents.
pub record IsParentOf (k k' : FollowerSetting) : Type 0 where
  pub link : WayLink
  pub way : k'.way ≡ longer k.way link
  pub end : length k.way.links ≡ suc k.place
  pub place : k'.place ≡ suc k.place
  pub root : k'.phase 0 ≡ k.phase 0
  pub base : k'.base ≡ k.base
  pub settled : k'.settled ≡ k.settled
  pub longest : k'.longest ≡ k.longest

module _ (says : List ℕ → Message → Type 0) where
  -- every act keeps the invariant
  abbrev pub FollowerInvariantIsKept : Type 0
  FollowerInvariantIsKept = (k : FollowerSetting) (s s' : Follower) → FollowerActs k says s s'
      → FollowerInvariant k says s → FollowerInvariant k says s'

  -- time that passes keeps it
  abbrev pub FollowerInvariantHoldsLater : Type 0
  FollowerInvariantHoldsLater = (k : FollowerSetting) (s s' : Follower) → FollowerWaits s s'
      → FollowerInvariant k says s → FollowerInvariant k says s'

  -- it holds as the network becomes settled
  abbrev pub FollowerInvariantBegins : Type 0
  FollowerInvariantBegins = (k : FollowerSetting) (s : Follower) → IsSetting k → IsJustSettled k s
      → FollowerInvariant k says s

  -- What a bridge sends on is right for those that follow it, where it may come to them after what comes is right. So
  -- they have what `ParentTells` asks for.
  abbrev pub ParentTellsRight : Type 0
  ParentTellsRight = (k k' : FollowerSetting) (s : Follower) (info : SyncInfo) (rate delay held : ℤ)
      → IsSetting k → IsSetting k' → IsParentOf k k' → FollowerInvariant k says s
      → s.known ≡ Some info → s.relay ≡ Some s.time → from k' ≤ s.time + (parent_link k').most
      → IsMeasuredAt k.way k.place rate delay → IsHeldAt k.way k.place info.rate rate held
      → let used = record info { rate = held } in
      FollowUpIsRight k'.way k'.phase k'.base k'.place (relayed used (bridge used delay rate (k.stamps s.time)))
      s.time

  -- The numbers of what a bridge sends on fit, from a residence after the time from which on what comes is right.
  abbrev pub ParentsNumbersFit : Type 0
  ParentsNumbersFit = (k : FollowerSetting) (s : Follower) (info : SyncInfo) (rate delay held : ℤ)
      → IsSetting k → FollowerInvariant k says s
      → s.known ≡ Some info → s.relay ≡ Some s.time → from k + k.way.residence ≤ s.time
      → IsMeasuredAt k.way k.place rate delay → IsHeldAt k.way k.place info.rate rate held
      → most_correction_at k.way (suc k.place) < 2 ^ 63
      → ((t : ℕ) → t ≤ s.time → IsTime (k.stamps t))
      → let used = record info { rate = held } in
      let hop = bridge used delay rate (k.stamps s.time) in
      BridgeFits hop (carried_on (carried used) hop)

  -- At each Follow_Up that belongs to the Sync that is kept, from when on what comes is right, the offset that is
  -- computed is within the time error of the system of its clock less what the root tells, by the base that it has.
  abbrev pub OffsetIsExact : Type 0
  OffsetIsExact = (k : FollowerSetting) (s : Follower) (front : LaneFrame) (rest : List LaneFrame)
      (source : PortIdentity)
      (sequence : ℕ) (told : Relayed) (ingress rate delay held : ℤ)
      → IsSetting k → FollowerInvariant k says s
      → s.lane ≡ front ∷ rest → front.due ≡ s.time → from k ≤ s.time
      → IsOneMessage says front.octets (FollowUp source sequence told)
      → s.kept ≡ Some (kept_at_ingress source sequence ingress) → IsMeasuredAt k.way k.place rate delay
      → IsHeldAt k.way k.place told.rate rate held
      → (ahead : ℤ) × (k.base ≡ Some ahead) × AreWithin (time_error_at k.way (suc k.place))
      (ingress -ℤ sync_received (info_of (at_rate told held) ingress) delay rate)
      (own_clock k s.time -ℤ root_told k ahead s.time)

-- the time stamp that the root sends is right for those that follow it
abbrev pub RootTells : Type 0
RootTells = (k : FollowerSetting) (ahead said : ℤ) (stamp : Timestamp) (rest sent : ℕ)
    → k.place ≡ 0 → k.base ≡ Some ahead
    → AreWithin (32768 * k.way.blur) said (root_told k ahead sent -ℤ pos k.way.behind) → IsSplit said stamp rest
    → FollowUpIsRight k.way k.phase k.base k.place (root_time stamp rest) sent

-- what holds while a root has no base by which it tells time holds when it has one: nothing that comes is right yet
abbrev pub BaseComes : (List ℕ → Message → Type 0) → Type 0
BaseComes says = (k : FollowerSetting) (ahead : ℤ) (s : Follower) → k.base ≡ None
    → FollowerInvariant k says s → FollowerInvariant (record k { base = Some ahead }) says s

-- In every run that begins as the network becomes settled, the invariant holds of each state.
abbrev pub RunsKeepInv : (List ℕ → Message → Type 0) → Type 0
RunsKeepInv says = (k : FollowerSetting) (s t : Follower) (run : List Follower)
    → IsSetting k → IsJustSettled k s → IsFollowerRun k says s run → In t (s ∷ run)
    → FollowerInvariant k says t
