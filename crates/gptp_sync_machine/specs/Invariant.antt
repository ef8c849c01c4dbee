-- What holds of a system that follows its parent, at every time from when the network is settled.
use Rattle.std.specs.Prelude.{◌≡◌, ⊤, ℕ, ◌+◌, ◌<◌, ◌≤◌, List, Option, Some, None}
use Rattle.gptp_lists.specs.Members.{In}
use Rattle.gptp_correction.specs.declared.sync_in.SyncInfo.{SyncInfo}
use Rattle.gptp_pdelay_machine.specs.Lanes.{LaneFrame}
use Rattle.gptp_pdelay_machine.specs.Setting.{IsByMost}
use Rattle.gptp_sync_machine.specs.Messages.{Message}
use Rattle.gptp_sync_machine.specs.Right.{FollowUpIsRight, follow_up_told}
use Rattle.gptp_sync_machine.specs.Follower.{Follower, FollowerSync, FollowerSetting, from, parent_link}
use Rattle.gptp_sync_machine.specs.Flows.{Arrival, AreCarried, FramesFlow}
use Rattle.gptp_sync_machine.specs.Acts.{kept_at_ingress}

-- What is known and is to be sent on at that time is right: it was told by a Follow_Up that came at most a residence
-- before that, and its ingress is the time stamp of the own clock as the Sync came.
pub record IsInformed (k : FollowerSetting) (info : SyncInfo) (due : ℕ) : Type 0 where
  pub sent : ℕ
  pub came : ℕ
  pub heard : ℕ
  pub carried : AreCarried k sent came heard
  pub stay : IsByMost heard due k.way.residence
  pub ingress : info.ingress ≡ k.stamps came
  pub right : FollowUpIsRight k.way k.phase k.base k.place (follow_up_told info) sent

-- it is so where it is to be sent on a residence or more after the time from which on what comes is right
abbrev pub IsKnownRight : FollowerSetting → Follower → Type 0
IsKnownRight k s = (info : SyncInfo) (due : ℕ) → s.known ≡ Some info → s.relay ≡ Some due
    → from k + k.way.residence ≤ due → IsInformed k info due

-- the Sync that is kept is this one, where one is known to be
abbrev pub IsKept : FollowerSetting → Option Arrival → Option FollowerSync → Type 0
IsKept k None now = ⊤
IsKept k (Some a) now = now ≡ Some (kept_at_ingress k.parent a.sequence (k.stamps a.came))

-- what is in flight brings what is right, and what is known is right
pub record FollowerInvariant (k : FollowerSetting) (says : List ℕ → Message → Type 0) (s : Follower) : Type 0 where
  pub arrival : Option Arrival
  pub is_kept : IsKept k arrival s.kept
  pub flows : FramesFlow k says arrival s.lane
  pub known : IsKnownRight k s

-- As the network becomes settled nothing is known but that what is in flight was sent before that, and that what is
-- known was told before that. So it is as the moment comes that is at or after `settled` (carried_time_is_kept of
-- gptp_invariants).
pub record IsJustSettled (k : FollowerSetting) (s : Follower) : Type 0 where
  pub lane : (f : LaneFrame) → In f s.lane → f.due < k.settled + (parent_link k).most
  pub relay : (due : ℕ) → s.relay ≡ Some due → due < k.settled + k.way.residence
