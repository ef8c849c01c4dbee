-- A Sync over two links, state by state: from the root over a bridge to a slave.
use Rattle.std.specs.Prelude.{◌≡◌, ℕ, suc, ◌+◌, ◌≤◌, ℤ, pos, ◌-ℤ◌, neg_ℤ, List, [], ◌∷◌, ◌++◌, Some, None, slice_get, get_or}
use Rattle.gptp_graph.specs.Snapshot.{port_of}
use Rattle.gptp_correction.specs.declared.correction.Relayed.{Relayed}
use Rattle.gptp_correction.specs.declared.sync_in.SyncInfo.{SyncInfo}
use Rattle.gptp_correction.specs.Correction.{bridge, sync_received, relayed}
use Rattle.gptp_pdelay_machine.specs.Lanes.{LaneFrame}
use Rattle.gptp_error_laws.specs.TimeError.{Way, time_error_at}
use Rattle.gptp_error_laws.specs.Examples.{two_links_way}
use Rattle.gptp_error_laws.specs.WayLaws.{shown_at}
use Rattle.gptp_sync_machine.specs.Messages.{Message, Sync, FollowUp, IsOneMessage}
use Rattle.gptp_sync_machine.specs.Right.{IsHeldAt, IsMeasuredAt, info_of, root_time}
use Rattle.gptp_sync_machine.specs.Follower.{Follower, IsSetting, FollowerSync, FollowerSetting, follower_at_time, from, parent_link}
use Rattle.gptp_sync_machine.specs.Acts.{kept_at_ingress}
use Rattle.gptp_sync_machine.specs.Invariant.{IsJustSettled}
use Rattle.gptp_sync_machine.specs.FollowerLaws.{IsParentOf}
use Rattle.gptp_sync_machine.specs.Runs.{IsFollowerRun}

-- a Sync and its Follow_Up that are sent over the last link of a way at one time, and the octets of both
pub record SyncAndFollowUp : Type 0 where
  pub sequence : ℕ
  pub told : Relayed
  pub sent : ℕ
  pub sync : List ℕ
  pub follow_up : List ℕ

-- The Sync takes the least delay, and the Follow_Up the greatest. Nothing was kept or known before.
module _ (k : FollowerSetting) (x : SyncAndFollowUp) where
  abbrev pub came : ℕ
  came = x.sent + (parent_link k).least

  abbrev pub heard : ℕ
  heard = x.sent + (parent_link k).most

  abbrev pub example_due : ℕ
  example_due = heard + k.way.residence

  abbrev pub sync_frame : LaneFrame
  sync_frame = record { due = came; octets = x.sync }

  abbrev pub example_follow_up_frame : LaneFrame
  example_follow_up_frame = record { due = heard; octets = x.follow_up }

  abbrev pub sync : FollowerSync
  sync = kept_at_ingress k.parent x.sequence (k.stamps came)

  abbrev pub info : SyncInfo
  info = info_of x.told (k.stamps came)

  -- before; when both are sent; when the Sync comes, and when it has come
  abbrev pub ready : Follower
  ready = record { time = x.sent; kept = None; known = None; relay = None; lane = [] }

  abbrev pub example_told : Follower
  example_told = record ready { lane = sync_frame ∷ example_follow_up_frame ∷ [] }

  abbrev pub sync_due : Follower
  sync_due = follower_at_time example_told came

  abbrev pub sync_kept : Follower
  sync_kept = record sync_due { kept = Some sync; lane = example_follow_up_frame ∷ [] }

  -- when the Follow_Up comes, and when it has come; when it is to be sent on, and when it was
  abbrev pub follow_up_due : Follower
  follow_up_due = follower_at_time sync_kept heard

  abbrev pub known : Follower
  known = record follow_up_due { known = Some info; relay = Some example_due; lane = [] }

  abbrev pub relay_due : Follower
  relay_due = follower_at_time known example_due

  abbrev pub sent_on : Follower
  sent_on = record relay_due { relay = None }

  -- the states in turn: up to when the Follow_Up comes, and from then on
  abbrev pub coming : List Follower
  coming = example_told ∷ sync_due ∷ sync_kept ∷ follow_up_due ∷ []

  abbrev pub going_on : List Follower
  going_on = known ∷ relay_due ∷ sent_on ∷ []

-- The first two links of the plant's ring, of 390 to 410 ns, where the network is settled 10 microseconds before the
-- Sync; the phases and the base are 0, and clocks are read as they are.
abbrev pub ring_setting : Way → ℕ → ℕ → FollowerSetting
ring_setting w place parent = record {
  way = w;
  phase = λ i. 0;
  base = Some (pos 0);
  place = place;
  stamps = shown_at w (λ i. 0) (suc place);
  parent = port_of parent 2;
  settled = 1999990000;
  longest = 410;
}

abbrev pub first_link : Way
first_link = record two_links_way { links = record { least = 390; most = 410; drift = pos 0 } ∷ [] }

abbrev pub at_bridge : FollowerSetting
at_bridge = ring_setting first_link 0 1

abbrev pub at_slave : FollowerSetting
at_slave = ring_setting two_links_way 1 2

-- each of the four messages is spelled by a number of its own
abbrev pub from_root : SyncAndFollowUp
from_root = record {
  sequence = 7;
  told = root_time (record { seconds = 2; nanos = 0 }) 0;
  sent = 2000000000;
  sync = 0 ∷ [];
  follow_up = 1 ∷ [];
}

-- what the port of the bridge and that of the slave have measured: the neighbour seems to be fast by 20 ns in a
-- second, and the delay to be 400 ns
abbrev pub rate : ℤ
rate = pos 43980

abbrev pub delay : ℤ
delay = pos 26214401

-- what the bridge sends on, 1000 ns after the Follow_Up
abbrev pub from_bridge : SyncAndFollowUp
from_bridge = record {
  sequence = 9;
  told = relayed (info at_bridge from_root)
      (bridge (info at_bridge from_root) delay rate (at_bridge.stamps (example_due at_bridge from_root)));
  sent = example_due at_bridge from_root;
  sync = 2 ∷ [];
  follow_up = 3 ∷ [];
}

abbrev pub book : List Message
book = Sync at_bridge.parent 7 ∷ FollowUp at_bridge.parent 7 from_root.told ∷ Sync at_slave.parent 9
    ∷ FollowUp at_slave.parent 9 from_bridge.told ∷ []

abbrev pub says : List ℕ → Message → Type 0
says octets m = slice_get book (get_or octets 0 4) ≡ Some m

-- The states of each are a run, and all that the laws suppose is so at once; the offset that the slave computes is
-- 1310722 units below the true one, which is 0: 20 ns, where the time error is 2622278 units.
pub record SyncOverTwoLinks : Type 0 where
  pub bridge_setting : IsSetting at_bridge
  pub slave_setting : IsSetting at_slave
  pub parent : IsParentOf at_bridge at_slave
  pub bridge_fresh : IsJustSettled at_bridge (ready at_bridge from_root)
  pub slave_fresh : IsJustSettled at_slave (ready at_slave from_bridge)
  pub bridge_measures : IsMeasuredAt at_bridge.way at_bridge.place rate delay
  pub slave_measures : IsMeasuredAt at_slave.way at_slave.place rate delay
  pub bridge_run : IsFollowerRun at_bridge says (ready at_bridge from_root)
      (coming at_bridge from_root ++ going_on at_bridge from_root)
  pub bridge_adds : IsHeldAt at_bridge.way at_bridge.place from_root.told.rate rate from_root.told.rate
  pub slave_adds : IsHeldAt at_slave.way at_slave.place from_bridge.told.rate rate from_bridge.told.rate
  pub slave_run : IsFollowerRun at_slave says (ready at_slave from_bridge) (coming at_slave from_bridge)
  pub late : from at_slave ≤ heard at_slave from_bridge
  pub one : IsOneMessage says from_bridge.follow_up (FollowUp at_slave.parent from_bridge.sequence from_bridge.told)
  pub offset : at_slave.stamps (came at_slave from_bridge)
      -ℤ sync_received (info at_slave from_bridge) delay rate ≡ neg_ℤ (pos 1310722)
  pub error : time_error_at at_slave.way 2 ≡ 2622278
