-- The keys so far are those of the first entries that aren't read.
use Rattle.std.proofs.Common.{◌≡◌, map, take}
use Rattle.toml.specs.View.{table_view}
use Rattle.gptp_lint.specs.Outline.{entry_view}
use Rattle.gptp_lint.specs.UnreadKeys.{HaveSeen, first_unread, found_view}
use Rattle.gptp_lint.proofs.unknown.first_unread.Given as goal

abbrev pub invariant-loop-entry : goal.invariant-loop-entry
invariant-loop-entry l =
    HaveSeen l.seen (found_view l.unread.items)
    × (found_view l.unread.items
    ≡ first_unread (table_view l.document) (map entry_view (take l.entry-index l.entries)))
