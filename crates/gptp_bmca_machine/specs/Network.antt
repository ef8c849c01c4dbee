-- A network whose last change is past, and the times from which claims are made.
use Rattle.std.specs.Prelude.{◌≡◌, ◌⊎◌, ◌≤◌, ◌+◌, ◌*◌, ℕ, suc, pred, ℤ}
use Rattle.gptp_graph.specs.Snapshot.{System, PortIdentity, Snapshot, port_of, Joins, IsLinked, IsWellFormed}
use Rattle.gptp_graph.specs.PathBound.{BoundsPaths}
use Rattle.gptp_bmca_machine.specs.Facts.{NetworkSetting, turn, BeginsLater}
use Rattle.gptp_bmca_machine.specs.LinkStage.{Wiring}

-- the sync interval, how long after a Follow_Up a system relays it, and how long after one its lapse timer is due
pub record SyncTiming : Type 0 where
  pub interval : ℕ
  pub residence : ℕ
  pub span : ℕ

-- The live systems and their links; how many systems a path of them has at most; at which place a system stands, by its
-- clock, and a lane, by the port that it leads from; the announce interval of each port, first its logarithm, and the
-- largest of them; the largest delay of a link; the announce receipt timeout, in intervals; from when on what comes was
-- sent by them; when claims on traces begin; when ports that no link is at hold nothing, when they are disabled, and
-- when each port on a link is capable; when all that is held is sound; the times of Syncs, and for how long at most a
-- settled system waits for the next Sync of the best; how long settling takes anyway from when all is sound, and how
-- much more each step of distance; from when claims are made of the link that leads from a port, by the distance of its
-- system, and before which time the timer of such a port has run out where it had to be waited for. That of a world is
-- `network_of` of gptp_invariants, which settles system by system, or `network_at_once`.
pub record Network : Type 0 where
  pub graph : Snapshot
  pub reach : ℕ
  pub place : ℕ → ℕ
  pub lane : PortIdentity → ℕ
  pub log_of : PortIdentity → ℤ
  pub interval_of : PortIdentity → ℕ
  pub interval : ℕ
  pub most : ℕ
  pub timeout : ℕ
  pub gone : ℕ
  pub start : ℕ
  pub bare : ℕ
  pub off : ℕ
  pub ready : PortIdentity → ℕ
  pub sound : ℕ
  pub syncs : SyncTiming
  pub sync_wait : ℕ
  pub slack : ℕ
  pub step : ℕ
  pub claimed : ℕ → PortIdentity → ℕ
  pub until : ℕ → PortIdentity → ℕ

-- what is received stays for the receipt timeout at most
abbrev pub network_setting : Network → NetworkSetting
network_setting n = record {
  graph = n.graph;
  gone = n.gone;
  start = n.start;
  interval = n.interval;
  most = n.most;
  span = n.timeout * n.interval;
}

-- when all that is held is wholly clean
abbrev pub machine_clean_from : Network → ℕ
machine_clean_from n = n.start + n.reach * turn (network_setting n)

-- when the systems at distance d have settled
abbrev pub since : Network → ℕ → ℕ
since n d = n.sound + n.slack + d * n.step

-- When all near systems and their ports have settled: a distance is less than a path may have systems, and where a port
-- ends as passive, the system that it hears is at a distance less by two.
abbrev pub settled_from : Network → ℕ
settled_from n = since n (pred n.reach)

-- The times of the link that leads from port p of a system at distance d to port q. Claims are made of it once all is
-- sound: from the first on, or an interval passes then before the timer of p has run out. When it has, and p is
-- capable, and what was sent then has come, the systems that the link leads to have settled.
pub record IsTimed (n : Network) (d : ℕ) (p q : PortIdentity) : Type 0 where
  pub begun : n.start ≤ n.claimed d p
  pub sound : n.sound ≤ n.claimed d p
  pub entry : (n.claimed d p ≡ 0) ⊎ (n.claimed d p + n.interval_of p ≤ n.until d p)
  pub claimed : n.claimed d p ≤ since n (suc d)
  pub until : n.until d p + n.most ≤ since n (suc d)
  pub ready : n.ready p + n.most ≤ since n (suc d)
  pub delay : n.most ≤ n.step

-- The snapshot is a network's, and no path of it has more systems than is said; each link has its times, and before any
-- system has settled claims are made and ports are capable. Shown of worlds by worlds_have_networks, of their times by
-- networks_are_timed.
pub record IsSettlingNetwork (n : Network) : Type 0 where
  -- a network takes only what is well formed, and its world stays so, by stands_well
  pub graph : IsWellFormed n.graph
  -- no path has more systems than `reach`: as many as live, or what gptp_graph reads off the links, by paths_bounded
  pub paths : BoundsPaths n.graph n.reach
  -- No interval exceeds the largest. Where systems settle in turn, the wait for Sync, an announce interval and the
  -- largest delay are together at most `step`.
  pub timed : (d : ℕ) (p q : PortIdentity) → Joins n.graph p q → IsTimed n d p q
  pub begun : n.start ≤ since n 0
  pub bare : n.bare ≤ n.off
  pub ready : (p : PortIdentity) → IsLinked n.graph p → n.ready p ≤ since n 0

-- What is held is sound from when it is wholly clean: a turn for each system of a path after the start. Shown of worlds
-- by claim_is_kept.
pub record BecomesClean (n : Network) : Type 0 where
  pub after : n.start ≤ n.sound
  pub begins : BeginsLater (network_setting n)
  pub late : machine_clean_from n ≤ n.sound

-- The link from port p + 1 of system v, at distance d from its best, to port q + 1 of system u.
abbrev pub wiring : Network → ℕ → System → ℕ → ℕ → ℕ → ℕ → Wiring
wiring n d best v p u q = record {
  teller = v;
  teller_place = n.place v;
  teller_port = p;
  hearer = u;
  hearer_place = n.place u;
  hearer_port = q;
  lane = n.lane (port_of v (suc p));
  log = n.log_of (port_of v (suc p));
  interval = n.interval_of (port_of v (suc p));
  most = n.most;
  root = best.identity;
  steps = d;
  from = n.claimed d (port_of v (suc p));
  until = n.until d (port_of v (suc p));
  before = since n (suc d);
}
