-- The lines so far are those of the first keys.
use Rattle.std.proofs.Common.{Some, take}
use Rattle.std.specs.Prelude.{string_bytes}
use Rattle.toml.specs.View.{table_view}
use Rattle.gptp_lint.specs.Outline.{outline_state}
use Rattle.gptp_lint.specs.UnreadKeys.{AppendsUnread, found_view, of_part}
use Rattle.gptp_lint.proofs.unknown.write_part.Given as goal

abbrev pub invariant-loop-entry : goal.invariant-loop-entry
invariant-loop-entry l =
    AppendsUnread (Some (table_view l.document)) (outline_state l.outline)
    (of_part l.part (found_view (take l.entry-index l.unread))) (string_bytes l.initial.text) (string_bytes l.text)
