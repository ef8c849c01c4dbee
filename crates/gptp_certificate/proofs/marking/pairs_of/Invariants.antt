use Rattle.std.proofs.Common.{◌≡◌, map, take}
use Rattle.gptp_certificate.specs.Marking.{clocks_in, port_clocks}
use Rattle.gptp_certificate.proofs.marking.pairs_of.Given as goal

abbrev pub invariant-loop-link : goal.invariant-loop-link
invariant-loop-link l = map (clocks_in l.clocks) l.pairs.items ≡ map port_clocks (take l.link-index l.links)
