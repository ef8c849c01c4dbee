-- Those of the first places so far, then those of the places that are left.
use Rattle.std.proofs.Common.{◌≡◌, ◌++◌, ◌-◌, filter, length}
use Rattle.std.specs.List.{range_with_len}
use Rattle.gptp_how_soon.specs.MovedTrees.{is_top_with, tops_with}
use Rattle.gptp_how_soon.proofs.moved_trees.tops_with.Given as goal

abbrev pub invariant-loop-top : goal.invariant-loop-top
invariant-loop-top l =
    l.tops.items
    ++ filter (is_top_with l.systems l.lost l.before l.now l.place) (range_with_len l.top (length l.systems - l.top))
    ≡ tops_with l.systems l.lost l.before l.now l.place
