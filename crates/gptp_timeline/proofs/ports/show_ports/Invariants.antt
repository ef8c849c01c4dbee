-- The ports so far are those below the next.
use Rattle.std.proofs.Common.{◌≡◌, map, take}
use Rattle.std.specs.List.{range_with_len}
use Rattle.gptp_timeline.specs.Ports.{shown_port}
use Rattle.gptp_timeline.proofs.ports.show_ports.Given as goal

abbrev pub invariant-loop-place : goal.invariant-loop-place
invariant-loop-place l = take l.place l.ports ≡ map (shown_port l.system) (range_with_len 1 l.place)
