use Rattle.std.proofs.Common.{◌≡◌, map, take}
use Rattle.gptp_traffic.specs.Traffic.{idle_channel}
use Rattle.gptp_model.specs.Initial.{channels_of}
use Rattle.gptp_world.proofs.building.list_links.Given as goal

abbrev pub invariant-loop-place : goal.invariant-loop-place
invariant-loop-place l = map idle_channel l.links.items ≡ take l.place (channels_of l.network)
