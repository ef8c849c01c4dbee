-- What lapses: what the slave port holds, where Syncs don't come (syncReceiptTimeout, IEEE 802.1AS-2020, 10.3.12).
use Rattle.std.specs.Prelude.{◌≡◌, ◌<◌, ◌≤◌, ℕ, suc, true, Some, slice_get}
use Rattle.gptp_graph.specs.Snapshot.{PortIdentity, Snapshot, port_of, Joins}
use Rattle.gptp_graph.specs.Distance.{IsDistance}
use Rattle.gptp_bmca_machine.specs.Station.{Station, MachineState}
use Rattle.gptp_bmca_machine.specs.Network.{Network}

-- the link at the slave port leads from a system at distance d
pub record FollowsFrom (g : Snapshot) (s : Station) (d : ℕ) : Type 0 where
  pub port : ℕ
  pub slave : s.slave ≡ Some port
  pub from : PortIdentity
  pub joins : Joins g from (port_of s.clock port)
  pub there : IsDistance g from.clock d

-- it leads to the system a step farther
pub record FollowsFarther (g : Snapshot) (s : Station) (d : ℕ) : Type 0 where
  pub here : IsDistance g s.clock (suc d)
  pub follows : FollowsFrom g s d

-- What a system received from a near one doesn't lapse now, once claims are made of the links that lead from that. It
-- is a premise of each step, of the state before it. Without a syncReceiptTimeout no lapse timer of a world runs
-- (`IsSetTo` of gptp_invariants); with one it follows from `SyncsAreExpected`, by syncs_come_in_time.
abbrev pub NothingNearLapses : Network → MachineState → Type 0
NothingNearLapses n w = (i : ℕ) (s : Station) (d due : ℕ) → slice_get w.stations i ≡ Some s → s.live ≡ true → d < 255
    → (follows : FollowsFrom n.graph s d) → n.claimed d follows.from ≤ w.time → s.lapse ≡ Some due
    → w.time < due
