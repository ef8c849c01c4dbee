-- Equal parts of a world, but for the room that there is.
use Rattle.std.proofs.Common.{◌≡◌, []}
use Rattle.gptp_world.specs.WorldParts.{IsWorldParts}
use Rattle.gptp_world.specs.declared.world_parts.WorldParts.{WorldParts}

module _ (p q : WorldParts) (now : q.now ≡ p.now) (stations : q.stations.items ≡ p.stations.items)
    (traffic : q.net.traffic ≡ record p.net.traffic { room = 0 }) where
  pub parts_copied : q.net.directory ≡ p.net.directory → q.outbox.items ≡ [] → IsWorldParts p → IsWorldParts q
  parts_copied directory empty parts = record {
    net = record { joins = rw (traffic, directory) parts.net.joins };
    clocks = rw (stations, directory) parts.clocks;
    systems = rw (stations, traffic) parts.systems;
    few = rw stations parts.few;
    ports = rw (stations, directory) parts.ports;
    empty = empty;
    moment = rw now parts.moment;
  }
