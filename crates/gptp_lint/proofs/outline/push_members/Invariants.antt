-- The keys of the members so far are put after the others.
use Rattle.std.proofs.Common.{◌≡◌, ◌++◌, map, take}
use Rattle.gptp_outline.specs.Inline.{keys_view}
use Rattle.gptp_lint.specs.Outline.{entries_view, numbered}
use Rattle.gptp_lint.proofs.outline.push_members.Given as goal

abbrev pub invariant-loop-keys : goal.invariant-loop-keys
invariant-loop-keys l =
    (l.number ≡ l.keys-index)
    × (entries_view l.entries
    ≡ entries_view l.initial.entries ++ numbered l.section 0 (map keys_view (take l.keys-index l.members)))
