use Rattle.std.proofs.Common.{◌≡◌, ◌*◌, ◌++◌, drop, take}
use Rattle.gptp_messages.specs.Path.{path_octets}
use Rattle.gptp_messages.proofs.announce.write_clocks.Given as goal

abbrev pub invariant-loop-place : goal.invariant-loop-place
invariant-loop-place l = l.octets ≡ path_octets (take l.place l.clocks) ++ drop (8 * l.place) l.initial.octets
