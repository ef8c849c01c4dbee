-- Those so far and those of the systems that are left are those of all.
use Rattle.std.proofs.Common.{◌≡◌, ◌++◌, drop, filter, map}
use Rattle.gptp_faults.specs.Parts.{clock_in, cut_off, is_cut}
use Rattle.gptp_faults.proofs.parts.cut_off.Given as goal

abbrev pub invariant-loop-one : goal.invariant-loop-one
invariant-loop-one l = l.cut.items ++ map clock_in (filter (is_cut l.all) (drop l.one-index l.all)) ≡ cut_off l.all
