-- What ports have measured of the links in use.
use Rattle.std.specs.Prelude.{◌≡◌}
use Rattle.gptp_graph.specs.Snapshot.{Joins, PortIdentity}
use Rattle.gptp_pdelay_machine.specs.Measured.{HasMeasured}
use Rattle.gptp_system.specs.declared.port.Port.{Port}
use Rattle.gptp_model.specs.World.{WorldState}
use Rattle.gptp_invariants.specs.WorldDue.{OfEachPort}
use Rattle.gptp_invariants.specs.DelayLinkView.{IsLinkOf, LinkPlace, least_delay, link_setting}
use Rattle.gptp_invariants.specs.ChoiceView.{port_identity_number}
use Rattle.gptp_invariants.specs.WorldStanding.{snapshot_of}

-- The one port, in this state, has measured its link to the other: neighbour rate and mean link delay are those of two
-- exchanges over that link, a window apart (IEEE 802.1AS-2020, 11.2.19.3).
pub record HasMeasuredLink (w : WorldState) (from to : PortIdentity) (q : Port) : Type 0 where
  pub at : LinkPlace
  pub link : IsLinkOf at w
  pub from_is : (link_setting at w link).asking ≡ from
  pub to_is : (link_setting at w link).answering ≡ to
  pub state : link.asking.state ≡ q
  pub measured : HasMeasured (link_setting at w link) (least_delay at w link) q.peer.last

-- each port of a live system has measured each link of the snapshot that is at it, by two exchanges, a window apart
abbrev pub HaveMeasuredLinks : WorldState → Type 0
HaveMeasuredLinks w = OfEachPort (λ itself h q. (to : PortIdentity)
    → Joins (snapshot_of w) (port_identity_number itself) to
    → HasMeasuredLink w (port_identity_number itself) to q) w
