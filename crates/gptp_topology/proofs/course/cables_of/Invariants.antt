-- The first links, so far.
use Rattle.std.proofs.Common.{◌≡◌, map, take}
use Rattle.gptp_topology.specs.Course.{cable_of}
use Rattle.gptp_topology.proofs.course.cables_of.Given as goal

abbrev pub invariant-loop-place : goal.invariant-loop-place
invariant-loop-place l = l.cables.items ≡ map cable_of (take l.place l.network.links)
