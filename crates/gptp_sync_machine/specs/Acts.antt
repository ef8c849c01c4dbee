-- The acts that a system sees which follows its parent, and the lane between them, on a link that loses nothing, as far
-- as time is carried. Each act of a settled world but a change is one of these, or time that passes: it is part of the
-- proof of carried_time_is_kept (gptp_invariants), as is all that is said here of worlds. A change ends all machines.
use Rattle.std.specs.Prelude.{◌≡◌, ◌⊎◌, ⊤, ◌++◌, ℕ, ◌+◌, ◌≤◌, ℤ, List, [], ◌∷◌, Some, None}
use Rattle.gptp_lists.specs.Members.{In}
use Rattle.gptp_graph.specs.Snapshot.{PortIdentity}
use Rattle.gptp_correction.specs.declared.correction.Relayed.{Relayed}
use Rattle.gptp_correction.specs.declared.sync_in.SyncInfo.{SyncInfo}
use Rattle.gptp_pdelay_machine.specs.Lanes.{LaneFrame, AreMute, FirstIs}
use Rattle.gptp_pdelay_machine.specs.Setting.{IsByMost}
use Rattle.gptp_sync_machine.specs.Messages.{Message, Sync, FollowUp}
use Rattle.gptp_sync_machine.specs.Right.{FollowUpIsRight, info_of}
use Rattle.gptp_sync_machine.specs.Follower.{Follower, FollowerSync, FollowerSetting, follower_at_time, from, parent_link}

-- the Sync of this source and number that came at that ingress
abbrev pub kept_at_ingress : PortIdentity → ℕ → ℤ → FollowerSync
kept_at_ingress source sequence ingress = record { source = source; sequence = sequence; ingress = ingress }

-- what is known stays, and when it is sent on: selection forgets nothing, since the root and the Slave port stay
pub record KnowsStill (s s' : Follower) : Type 0 where
  pub known : s'.known ≡ s.known
  pub relay : s'.relay ≡ s.relay

-- What is known, if anything, is to be sent on now or later, at most a residence from now. In a world the Relay timer
-- is set a residence from now, or one that runs stays, which was set at most a residence ago.
abbrev pub KnowsAnew : FollowerSetting → Follower → Follower → Type 0
KnowsAnew k s s' = (info : SyncInfo) (due : ℕ) → s'.known ≡ Some info → s'.relay ≡ Some due
    → IsByMost s.time due k.way.residence

-- nothing is kept or forgotten, and nothing becomes known
pub record IsUnmoved (s s' : Follower) : Type 0 where
  pub kept : s'.kept ≡ s.kept
  pub still : KnowsStill s s'

-- a Sync of the parent is kept
pub record KeepsSync (k : FollowerSetting) (sequence : ℕ) (s s' : Follower) : Type 0 where
  pub kept : s'.kept ≡ Some (kept_at_ingress k.parent sequence (k.stamps s.time))
  pub still : KnowsStill s s'

-- What a Follow_Up tells is known, with the ingress of its Sync. It is to be sent on a residence from now, or where a
-- Relay timer runs that stays, when that expires.
pub record Knows (k : FollowerSetting) (told : Relayed) (ingress : ℤ) (s s' : Follower) : Type 0 where
  pub known : s'.known ≡ Some (info_of told ingress)
  pub anew : KnowsAnew k s s'

-- What the system makes of octets that it hears. Nothing, where they are neither message. A Sync of the parent is kept.
-- A Follow_Up of the parent with the number of the Sync that is kept is known; or, where a number doesn't fit, nothing
-- is. Whatever they are, what is known stays, or is to be sent on in time. From when the network is
-- settled the port is asCapable, it is the Slave port, and what it holds came from the parent.
pub record FollowerHears (k : FollowerSetting) (says : List ℕ → Message → Type 0) (octets : List ℕ)
    (s s' : Follower) : Type 0 where
  pub nothing : ((m : Message) → says octets m → ⊥) → IsUnmoved s s'
  pub sync : (sequence : ℕ) → says octets (Sync k.parent sequence) → KeepsSync k sequence s s'
  pub follow_up : (sequence : ℕ) (told : Relayed) (ingress : ℤ) → says octets (FollowUp k.parent sequence told)
      → s.kept ≡ Some (kept_at_ingress k.parent sequence ingress)
      → Knows k told ingress s s' ⊎ (s'.known ≡ None)
  pub anyway : KnowsStill s s' ⊎ KnowsAnew k s s'

-- of the frames two carry time: a Sync of the parent, and after it the Follow_Up of the same number, which tells this
abbrev pub SendsTime : (List ℕ → Message → Type 0) → PortIdentity → ℕ → Relayed → List LaneFrame → Type 0
SendsTime says parent sequence told news =
    FirstIs says (λ (f : LaneFrame). says f.octets (Sync parent sequence))
    (FirstIs says (λ (f : LaneFrame). says f.octets (FollowUp parent sequence told)) (AreMute says)) news

-- frames come in the order in which they were sent
abbrev pub FramesAreInOrder : List LaneFrame → Type 0
FramesAreInOrder [] = ⊤
FramesAreInOrder (f ∷ fs) = ((g : LaneFrame) → In g fs → f.due ≤ g.due) × FramesAreInOrder fs

-- Frames that are sent now are due between the least and the greatest delay of the link from now, and in order. In a
-- world each is due at its own delay or with the one before it, and nothing old is in flight before them.
pub record AreSentInTime (k : FollowerSetting) (time : ℕ) (news : List LaneFrame) : Type 0 where
  pub long : (f : LaneFrame) → In f news → time + (parent_link k).least ≤ f.due
  pub short : (f : LaneFrame) → In f news → f.due ≤ time + (parent_link k).most
  pub order : FramesAreInOrder news

module _ (k : FollowerSetting) (says : List ℕ → Message → Type 0) (s s' : Follower) where
  -- the oldest frame arrives: a frame from the parent is delivered to the system
  pub record FrameArrives : Type 0 where
    pub front : LaneFrame
    pub rest : List LaneFrame
    pub was : s.lane ≡ front ∷ rest
    pub now : front.due ≡ s.time
    pub lane : s'.lane ≡ rest
    pub hears : FollowerHears k says front.octets s s'

  -- The parent sends Sync and Follow_Up. What it tells is right where the Follow_Up may come after what comes is right.
  -- In a world the parent's Relay timer expires, or its Sync timer where it is its own root and may be grandmaster. It
  -- sends both at each Master port, one after the other. They are appended once and in order, and read back.
  --
  -- What a root tells is `right` by root_tells. What a bridge tells is so by parent_tells_right, from its invariant,
  -- rates_are_held and ways_are_modest. It does send on, by parents_numbers_fit and corrections_are_small; the seconds
  -- fit, since the origin of what is right is a timestamp. A root sets no Relay timer: what one from before sends on is
  -- due before `from` of each that follows it.
  pub record ParentTells : Type 0 where
    pub unmoved : IsUnmoved s s'
    pub sequence : ℕ
    pub told : Relayed
    pub news : List LaneFrame
    pub lane : s'.lane ≡ s.lane ++ news
    pub sent : SendsTime says k.parent sequence told news
    pub in_time : AreSentInTime k s.time news
    pub right : from k ≤ s.time + (parent_link k).most → FollowUpIsRight k.way k.phase k.base k.place told s.time

  -- the Relay timer of the system expires: what is known is sent on to those that follow it, or something doesn't fit
  pub record RelayTimerExpires : Type 0 where
    pub now : s.relay ≡ Some s.time
    pub kept : s'.kept ≡ s.kept
    pub lane : s'.lane ≡ s.lane
    pub relay : s'.relay ≡ None

  -- Anything else: the parent may send what carries no time. It sends Sync and Follow_Up only when its Sync or its
  -- Relay timer expires.
  pub record ParentSendsOther : Type 0 where
    pub unmoved : IsUnmoved s s'
    pub news : List LaneFrame
    pub lane : s'.lane ≡ s.lane ++ news
    pub mute : AreMute says news

  -- one act
  pub data FollowerActs : Type 0 where
    hears : FrameArrives → FollowerActs
    parent_tells : ParentTells → FollowerActs
    relays : RelayTimerExpires → FollowerActs
    others_send : ParentSendsOther → FollowerActs

-- time passes and nothing else happens
abbrev pub FollowerWaits : Follower → Follower → Type 0
FollowerWaits s s' = (time : ℕ) × (s.time ≤ time) × (s' ≡ follower_at_time s time)
