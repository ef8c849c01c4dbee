-- The ports before this one are the same.
use Rattle.std.proofs.Common.{◌≡◌, drop}
use Rattle.gptp_timeline.specs.Ports.{same_ports}
use Rattle.gptp_timeline.proofs.ports.same_ports.Given as goal

abbrev pub invariant-loop-place : goal.invariant-loop-place
invariant-loop-place l = same_ports (drop l.place l.a) (drop l.place l.b) ≡ same_ports l.a l.b
