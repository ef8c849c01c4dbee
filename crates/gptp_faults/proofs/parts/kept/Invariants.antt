-- Those so far and those of the systems that are left are those of all.
use Rattle.std.proofs.Common.{◌≡◌, ◌++◌, drop, filter, map}
use Rattle.gptp_faults.specs.Parts.{is_kept, kept, placed_in}
use Rattle.gptp_faults.proofs.parts.kept.Given as goal

abbrev pub invariant-loop-one : goal.invariant-loop-one
invariant-loop-one l = l.kept.items ++ map placed_in (filter (is_kept l.all) (drop l.one-index l.all)) ≡ kept l.all
