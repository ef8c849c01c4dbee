-- Those so far and those of the systems that are left are those of all.
use Rattle.std.proofs.Common.{◌≡◌, ◌++◌, drop, filter, map}
use Rattle.gptp_faults.specs.Parts.{leads, part_of, parts_of}
use Rattle.gptp_faults.proofs.parts.parts_of.Given as goal

abbrev pub invariant-loop-one : goal.invariant-loop-one
invariant-loop-one l = l.parts.items ++ map (part_of l.all) (filter leads (drop l.one-index l.all)) ≡ parts_of l.all
