-- What is claimed of the links in use between two changes of the network, and of their ports.
use Rattle.std.specs.Prelude.{◌≡◌, ◌≢◌, ◌+◌, ◌*◌, true}
use Rattle.gptp_setup.specs.SettlingParams.{SettlingParams, largest_interval}
use Rattle.gptp_graph.specs.Snapshot.{IsLinked}
use Rattle.gptp_pdelay.specs.Peer.{is_capable}
use Rattle.gptp_receipt.specs.declared.held.Held.{Held}
use Rattle.gptp_receipt.specs.declared.held.Held.TheVariants.{Disabled}
use Rattle.gptp_system.specs.declared.port.Port.{Port}
use Rattle.gptp_model.specs.World.{WorldState}
use Rattle.gptp_invariants.specs.WorldDue.{OfEachPort}
use Rattle.gptp_invariants.specs.DelayMeasured.{LinkStandsAt}
use Rattle.gptp_invariants.specs.DelayLinkView.{LinkPlace}
use Rattle.gptp_invariants.specs.DelayWatched.{IsWatched}
use Rattle.gptp_invariants.specs.ChoiceView.{port_identity_number}
use Rattle.gptp_invariants.specs.WorldStanding.{snapshot_of}

-- Wherever two live systems stand at a link that is up, loses nothing and is good, it is watched, in either direction:
-- old frames are gone the largest announce interval after the last change, and exchanges from two on find nothing old.
abbrev pub GoodLinksMeasure : SettlingParams → WorldState → Type 0
GoodLinksMeasure p w = (at : LinkPlace) → LinkStandsAt at w
    → IsWatched (w.last_change + largest_interval p) (w.last_change + 2 * largest_interval p) at w

-- a port that holds this is capable, and so it isn't Disabled
pub record IsCapablePort (h : Held) (q : Port) : Type 0 where
  pub capable : is_capable q.peer ≡ true
  pub enabled : h ≢ Disabled

-- where a link of the snapshot is at a port of a live system, that port is capable, and isn't Disabled
abbrev pub AreUsedCapable : WorldState → Type 0
AreUsedCapable w = OfEachPort (λ itself h q. IsLinked (snapshot_of w) (port_identity_number itself)
    → IsCapablePort h q) w
