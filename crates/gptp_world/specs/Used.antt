-- The links of a world's snapshot, as the code lists them.
use Rattle.std.specs.Prelude.{List, [], ◌∷◌, Option, Some, None, if◌then◌else◌}
use Rattle.gptp_graph.specs.Snapshot.{Link, System}
use Rattle.gptp_vector.specs.declared.port.PortId.{PortId}
use Rattle.gptp_model.specs.World.{Channel}
use Rattle.gptp_invariants.specs.WorldStanding.{channel_is_used, standing_link, live_stations, used_channels}
use Rattle.gptp_invariants.specs.ChoiceView.{port_identity_number}
use Rattle.gptp_world.specs.declared.world_parts.WorldParts.{WorldParts}

-- a link as a snapshot has it, by its two ports, that of its end a first
abbrev pub snapshot_link : PortId × PortId → Link
snapshot_link ports = record { a = port_identity_number ports.0; b = port_identity_number ports.1 }

-- the link, where it is used
abbrev pub used : List System → Channel → Option Link
used systems channel = if channel_is_used systems channel then Some (standing_link channel) else None

-- the link as a list of one, where it is used; no link where it isn't
abbrev pub used_if : List System → Channel → List Link
used_if systems channel = if channel_is_used systems channel then standing_link channel ∷ [] else []

-- all that are
abbrev pub used_in : WorldParts → List Link
used_in parts = used_channels (live_stations parts.stations.items) parts.net.traffic.net.channels
