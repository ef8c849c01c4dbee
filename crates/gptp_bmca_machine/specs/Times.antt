-- When a network settles: from any past where nothing lapses for want of Sync, or where something may, and after news
-- in a network at rest.
use Rattle.std.specs.Prelude.{◌≡◌, ◌⊎◌, ◌≤◌, ◌+◌, ◌*◌, ℕ}
use Rattle.gptp_graph.specs.Snapshot.{PortIdentity, IsLinked, IsWellFormed}
use Rattle.gptp_graph.specs.PathBound.{BoundsPaths}
use Rattle.gptp_bmca_machine.specs.Network.{Network, IsSettlingNetwork}

-- From any past, where nothing lapses: claims of all links are made as soon as all that is held is sound. It takes the
-- largest announce interval, and for each step of distance the largest delay.
pub record SettlesAtOnce (n : Network) : Type 0 where
  pub claimed : (d : ℕ) (p : PortIdentity) → n.claimed d p ≡ n.sound
  pub until : (d : ℕ) (p : PortIdentity) → n.until d p ≡ n.sound + n.interval
  pub slack : n.interval ≤ n.slack
  pub step : n.most ≤ n.step

-- From any past, where something may lapse: claims of a link are made once the system that tells has settled and its
-- wait for a Sync is over. Each step takes that, an announce interval and a delay.
pub record SettlesInTurn (n : Network) : Type 0 where
  pub claimed : (d : ℕ) (p : PortIdentity) → n.claimed d p ≡ n.sound + n.sync_wait + d * n.step
  pub until : (d : ℕ) (p : PortIdentity) → n.until d p ≡ n.sound + n.sync_wait + d * n.step + n.interval
  pub step : n.sync_wait + n.interval + n.most ≤ n.step

-- in one of these ways, where all ports on links are capable when all that is held is sound, and no interval of a port
-- is above the largest
pub record SettlesFromAnyPast (n : Network) : Type 0 where
  pub begun : n.start ≤ n.sound
  pub ready : (p : PortIdentity) → IsLinked n.graph p → n.ready p ≤ n.sound
  pub largest : (p : PortIdentity) → IsLinked n.graph p → n.interval_of p ≤ n.interval
  pub times : SettlesAtOnce n ⊎ SettlesInTurn n

-- After news in a network at rest all is sound at all times. It takes until all ports are capable, or the news are
-- past, and for each step of distance the largest delay: where of a link claims are made always, since it was at its
-- stage before the news, or its ports aren't capable yet and what comes is heard. Of any other claims are made from
-- some time on, and its timer has to run out once.
pub record SettlesFromRest (n : Network) : Type 0 where
  pub begun : n.start ≡ 0
  pub sound : n.sound ≡ 0
  pub step : n.most ≤ n.step
  pub ready : (p : PortIdentity) → IsLinked n.graph p → n.ready p ≤ n.slack
  pub link : (d : ℕ) (p : PortIdentity) → IsLinked n.graph p → ((n.claimed d p ≡ 0) × (n.until d p ≡ 0))
      ⊎ ((n.claimed d p + n.interval_of p ≤ n.until d p) × (n.until d p ≤ n.slack))

-- the times of a network that settles so fit
abbrev pub NetworksAreTimed : Type 0
NetworksAreTimed = (n : Network)
    → IsWellFormed n.graph → BoundsPaths n.graph n.reach → n.bare ≤ n.off → SettlesFromAnyPast n ⊎ SettlesFromRest n
    → IsSettlingNetwork n
