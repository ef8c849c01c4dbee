-- What the frames in flight to a system that follows its parent bring.
use Rattle.std.specs.Prelude.{◌≡◌, ◌⊎◌, ⊤, ℕ, ◌+◌, ◌<◌, ◌≤◌, List, [], ◌∷◌, Option, Some, None}
use Rattle.gptp_correction.specs.declared.correction.Relayed.{Relayed}
use Rattle.gptp_pdelay_machine.specs.Lanes.{LaneFrame, IsMute}
use Rattle.gptp_sync_machine.specs.Messages.{Message, Sync, FollowUp}
use Rattle.gptp_sync_machine.specs.Right.{FollowUpIsRight}
use Rattle.gptp_sync_machine.specs.Follower.{FollowerSetting, from, parent_link}

-- a Sync of the parent, by its number and when it came or will come, in ns
pub record Arrival : Type 0 where
  pub sequence : ℕ
  pub came : ℕ

abbrev pub arrival : ℕ → ℕ → Arrival
arrival sequence came = record { sequence = sequence; came = came }

-- A Sync that was sent at one time came at another, and its Follow_Up then: both took between the least and the
-- greatest delay of the link, and the Follow_Up came after the Sync.
pub record AreCarried (k : FollowerSetting) (sent came heard : ℕ) : Type 0 where
  pub long : sent + (parent_link k).least ≤ came
  pub behind : came ≤ heard
  pub short : heard ≤ sent + (parent_link k).most

-- A Follow_Up that is due then tells what is right, where the Sync that is kept when it is reached is this one: that is
-- of the same number, and what is told was right as it was sent.
pub record TellsRight (k : FollowerSetting) (kept : Option Arrival) (sequence due : ℕ) (told : Relayed) : Type 0 where
  pub sent : ℕ
  pub came : ℕ
  pub kept_is : kept ≡ Some (arrival sequence came)
  pub carried : AreCarried k sent came due
  pub right : FollowUpIsRight k.way k.phase k.base k.place told sent

module _ (k : FollowerSetting) (says : List ℕ → Message → Type 0) where
  -- The frames in turn, with the Sync that is kept as each is reached, if one is known to be: a frame that is due
  -- before what comes is right may be anything; a frame may be mute; it may be a Sync of the parent, which is kept from
  -- then on; it may be a Follow_Up of the parent, which tells what is right. After a Follow_Up no Sync is known to be
  -- kept: where a number doesn't fit, it is forgotten.
  abbrev pub FramesFlow : Option Arrival → List LaneFrame → Type 0
  FramesFlow kept [] = ⊤
  FramesFlow kept (f ∷ fs) =
      ((f.due < from k) × FramesFlow None fs)
      ⊎ ((IsMute says f × FramesFlow kept fs)
      ⊎ (((sequence : ℕ) × says f.octets (Sync k.parent sequence) × FramesFlow (Some (arrival sequence f.due)) fs)
      ⊎ ((sequence : ℕ) × (told : Relayed) × says f.octets (FollowUp k.parent sequence told)
      × TellsRight k kept sequence f.due told × FramesFlow None fs)))
