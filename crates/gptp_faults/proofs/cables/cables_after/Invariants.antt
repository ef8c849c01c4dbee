-- The links so far are the first.
use Rattle.std.proofs.Common.{◌≡◌, map, take}
use Rattle.gptp_topology.specs.declared.course.Standing.{Standing}
use Rattle.gptp_faults.proofs.cables.cables_after.Given as goal

abbrev pub invariant-loop-standing : goal.invariant-loop-standing
invariant-loop-standing l =
    l.cables.items ≡ map (λ (s : Standing). s.cable) (take l.standing-index l.standing-items)
