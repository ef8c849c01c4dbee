-- The lines of two parts, one after the other.
use Rattle.std.specs.Prelude.{Some, string_bytes}
use Rattle.std.proofs.lemmas.Result.{on_ok_weaker}
use Rattle.toml.specs.View.{table_view}
use Rattle.gptp_lint.specs.Outline.{outline_state}
use Rattle.gptp_lint.specs.UnreadKeys.{found_view, of_part}
use Rattle.gptp_lint.proofs.UnreadLemmas.{more_unread}
use Rattle.gptp_lint.proofs.unknown.write_head.Goals as goal

pub returns : goal.returns
returns c =
    let t = Some (table_view c.args.document.now) in
    let found = found_view c.args.unread.now in
    on_ok_weaker c.write_part-2.result
    (more_unread t (outline_state c.args.outline.now) (of_part 0 found) (of_part 1 found) (string_bytes c.args.text.now)
    (string_bytes c.write_part.new.text) (string_bytes c.write_part-2.new.text) c.in_ok-write_part.ensures)
    c.write_part-2.ensures
