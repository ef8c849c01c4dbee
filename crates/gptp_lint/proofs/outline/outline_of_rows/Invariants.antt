-- The outline so far is that of the first rows.
use Rattle.std.proofs.Common.{◌≡◌, map, take}
use Rattle.std.specs.List.{AllByRecursion, fold}
use Rattle.gptp_outline.specs.Inline.{HasValue}
use Rattle.gptp_outline.specs.Rows.{shown}
use Rattle.gptp_lint.specs.Outline.{after, before_rows, outline_state}
use Rattle.gptp_lint.proofs.outline.outline_of_rows.Given as goal

abbrev pub invariant-loop-row : goal.invariant-loop-row
invariant-loop-row l =
    AllByRecursion HasValue (map shown l.rows)
    → outline_state l.outline ≡ fold after before_rows (map shown (take l.row-index l.rows))
