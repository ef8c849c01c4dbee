-- None of the first links is at the port.
use Rattle.std.proofs.Common.{◌≡◌, drop}
use Rattle.gptp_network.specs.Found.{link_from}
use Rattle.gptp_network.proofs.found.link_with.Given as goal

abbrev pub invariant-loop-place : goal.invariant-loop-place
invariant-loop-place l =
    link_from l.place (drop l.place l.network.links) l.port ≡ link_from 0 l.network.links l.port
