-- The lines of all parts.
use Rattle.std.proofs.Common.{◌≡◌, ◌++◌, ◌∙◌, Some, ap, map, subst}
use Rattle.std.specs.Prelude.{string_bytes}
use Rattle.std.proofs.lemmas.Result.{on_ok_weaker}
use Rattle.toml.specs.View.{table_view}
use Rattle.gptp_lint.specs.Outline.{entries_view, entry_view, outline_state}
use Rattle.gptp_lint.specs.UnreadKeys.{AppendsUnread, by_part, first_unread, found_view, of_part}
use Rattle.gptp_lint.proofs.UnreadLemmas.{more_unread}
use Rattle.gptp_lint.proofs.unknown.write_unknown_keys.Goals as goal

pub returns : goal.returns
returns c =
    let o = outline_state c.args.outline.now in
    let t = table_view c.args.document.now in
    let found = found_view c.in_ok-unread.unread.items in
    let old = string_bytes c.args.text.now in
    let mid = string_bytes c.write_head.new.text in
    let new = string_bytes c.write_sections.new.text in
    let are : found ≡ first_unread t (entries_view c.args.outline.now.entries) =
    c.in_ok-unread.ensures ∙ ap (λ entries. first_unread t (map entry_view entries)) c.deref.ensures.value in
    on_ok_weaker c.write_sections.result
    (λ rest. subst (λ keys. AppendsUnread (Some t) o (by_part keys) old new) are
    (more_unread (Some t) o (of_part 0 found ++ of_part 1 found)
    (of_part 2 found ++ (of_part 3 found ++ of_part 4 found)) old mid new
    (rw c.deref-2.ensures.value at c.in_ok-write_head.ensures) rest))
    (rw c.deref-3.ensures.value at c.write_sections.ensures)
