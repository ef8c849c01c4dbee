-- Those so far and those of the systems that are left are those of all.
use Rattle.std.proofs.Common.{◌≡◌, ◌++◌, drop, filter, map}
use Rattle.gptp_faults.specs.Parts.{clock_of_placed, is_of, part_among}
use Rattle.gptp_faults.proofs.parts.members.Given as goal

abbrev pub invariant-loop-one : goal.invariant-loop-one
invariant-loop-one l =
    l.clocks.items ++ map clock_of_placed (filter (is_of l.part) (drop l.one-index l.all)) ≡ part_among l.all l.part
