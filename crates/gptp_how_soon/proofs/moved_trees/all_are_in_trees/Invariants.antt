-- All of the first places so far are so, and all that are left, where all are.
use Rattle.std.proofs.Common.{◌≡◌, ◌-◌, length}
use Rattle.std.specs.Prelude.{◌&&◌}
use Rattle.std.specs.List.{list_all, range_with_len}
use Rattle.gptp_how_soon.specs.MovedTrees.{is_in_tree}
use Rattle.gptp_how_soon.proofs.moved_trees.all_are_in_trees.Given as goal

abbrev pub invariant-loop-place : goal.invariant-loop-place
invariant-loop-place l =
    (l.all && list_all (is_in_tree l.systems l.lost l.links l.before l.now)
    (range_with_len l.place (length l.systems - l.place)))
    ≡ list_all (is_in_tree l.systems l.lost l.links l.before l.now) (range_with_len 0 (length l.systems))
