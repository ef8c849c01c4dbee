-- How it stood so far, and how it stands from this time on, is the whole course.
use Rattle.std.proofs.Common.{◌≡◌, ◌++◌, drop}
use Rattle.gptp_topology.specs.Course.{course_from, first, naming, cable_wire}
use Rattle.gptp_topology.proofs.course.course_of.Given as goal

abbrev pub invariant-loop-place : goal.invariant-loop-place
invariant-loop-place l =
    l.course.items ++ course_from l.standing (naming l.cable (drop l.place l.events))
    ≡ course_from (first (cable_wire l.cable)) (naming l.cable l.events)
