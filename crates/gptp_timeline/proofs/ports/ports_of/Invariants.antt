-- The ports so far are those below the next.
use Rattle.std.proofs.Common.{◌≡◌, map}
use Rattle.std.specs.List.{range_with_len}
use Rattle.gptp_timeline.specs.Ports.{shown_port}
use Rattle.gptp_timeline.proofs.ports.ports_of.Given as goal

abbrev pub invariant-loop-place : goal.invariant-loop-place
invariant-loop-place l = l.ports.items ≡ map (shown_port l.system) (range_with_len 1 l.place)
