use Rattle.std.proofs.Common.{◌≡◌, take}
use Rattle.gptp_model.specs.Initial.{stations_of}
use Rattle.gptp_scenario.specs.Network.{seeded}
use Rattle.gptp_world.proofs.building.list_stations.Given as goal

abbrev pub invariant-loop-place : goal.invariant-loop-place
invariant-loop-place l = l.stations.items ≡ take l.place (stations_of (seeded l.seed l.network))
