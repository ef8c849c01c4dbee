-- A system that follows its parent once the network has settled, and the lane of frames from the one to the other.
use Rattle.std.specs.Prelude.{ℕ, suc, ◌+◌, ◌*◌, ◌<◌, ◌≤◌, ℤ, List, Option, length}
use Rattle.gptp_graph.specs.Snapshot.{PortIdentity}
use Rattle.gptp_correction.specs.declared.sync_in.SyncInfo.{SyncInfo}
use Rattle.gptp_pdelay_machine.specs.Lanes.{LaneFrame}
use Rattle.gptp_error_laws.specs.TimeError.{WayLink, Way, link_at}
use Rattle.gptp_error_laws.specs.WayLaws.{IsDocumented, IsReadAt, shown_at}
use Rattle.gptp_sync_machine.specs.Right.{told_at}

-- The way to the system from its root, the phases of the clocks on it, in ns, the base by which the root tells time, if
-- it does yet, and the place of its last link on it, counted from 0; the time stamps that the system takes of its
-- clock, by the time, and the port of the parent on that link. The time from which the network is settled, and a delay
-- that no link on which time is carried exceeds, in ns (of a world, the threshold).
--
-- The `way` goes from the root along parents, by the snapshot, the setups and the bounds of links (`Parts`; way_exists,
-- way_is_one). Its ends are the clocks of the system and of its root (way_leads_to, way_ends_at_parent).
pub record FollowerSetting : Type 0 where
  pub way : Way
  pub phase : ℕ → ℕ
  pub base : Option ℤ
  pub place : ℕ
  pub stamps : ℕ → ℤ
  pub parent : PortIdentity
  pub settled : ℕ
  pub longest : ℕ

-- the link to the parent
abbrev pub parent_link : FollowerSetting → WayLink
parent_link k = link_at k.way k.place

-- the clock of the system
abbrev pub own_clock : FollowerSetting → ℕ → ℤ
own_clock k t = shown_at k.way k.phase (suc k.place) t

-- what its root tells that has this base
abbrev pub root_told : FollowerSetting → ℤ → ℕ → ℤ
root_told k ahead t = told_at k.way k.phase ahead t

-- From then on what comes left the root when the network was settled, even where each link up to here takes the longest
-- delay, and each system keeps it for a residence.
abbrev pub from : FollowerSetting → ℕ
from k = k.settled + suc k.place * (k.longest + k.way.residence)

-- What a setting has to be. Its numbers are those of a document, no good link takes longer than the threshold, and the
-- time stamps are of the system's clock. Shown by ways_are_settings.
pub record IsSetting (k : FollowerSetting) : Type 0 where
  pub documented : IsDocumented k.way
  pub on_way : k.place < length k.way.links
  pub short : (parent_link k).most ≤ k.longest
  pub read : IsReadAt k.way k.phase (suc k.place) k.stamps

-- The Sync that is kept: its source, its number, and the time stamp of its ingress (IEEE 802.1AS-2020, 11.2.14).
pub record FollowerSync : Type 0 where
  pub source : PortIdentity
  pub sequence : ℕ
  pub ingress : ℤ

-- The Sync that is kept, what is known since the last Follow_Up that belonged to a Sync, and when that is to be sent
-- on; and the frames in flight from the parent, the oldest first.
pub record Follower : Type 0 where
  pub time : ℕ
  pub kept : Option FollowerSync
  pub known : Option SyncInfo
  pub relay : Option ℕ
  pub lane : List LaneFrame

-- the follower at another time, with all else as it was
abbrev pub follower_at_time : Follower → ℕ → Follower
follower_at_time s time = record s { time = time }
