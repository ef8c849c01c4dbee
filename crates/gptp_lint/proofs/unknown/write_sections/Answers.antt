-- The lines of three parts, one after the other.
use Rattle.std.proofs.Common.{Some, ◌++◌}
use Rattle.std.specs.Prelude.{string_bytes}
use Rattle.std.proofs.lemmas.Result.{on_ok_weaker}
use Rattle.toml.specs.View.{table_view}
use Rattle.gptp_lint.specs.Outline.{outline_state}
use Rattle.gptp_lint.specs.UnreadKeys.{found_view, of_part}
use Rattle.gptp_lint.proofs.UnreadLemmas.{more_unread}
use Rattle.gptp_lint.proofs.unknown.write_sections.Goals as goal

pub returns : goal.returns
returns c =
    let t = Some (table_view c.args.document.now) in
    let o = outline_state c.args.outline.now in
    let old = string_bytes c.args.text.now in
    let found = found_view c.args.unread.now in
    let first = string_bytes c.write_part.new.text in
    let second = string_bytes c.write_part-2.new.text in
    let third = string_bytes c.write_part-3.new.text in
    on_ok_weaker c.write_part-3.result
    (λ rest. more_unread t o (of_part 2 found) (of_part 3 found ++ of_part 4 found) old first third
    c.in_ok-write_part.ensures
    (more_unread t o (of_part 3 found) (of_part 4 found) first second third c.in_ok-write_part-2.ensures rest))
    c.write_part-3.ensures
