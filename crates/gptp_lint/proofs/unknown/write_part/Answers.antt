-- One key more.
use Rattle.std.proofs.Common.{◌≡◌, ◌∷◌, [], ◌∙◌, Some, ap, if◌then◌else◌, slice_get, subst, sym, take}
use Rattle.std.specs.Prelude.{string_bytes}
use Rattle.std.proofs.lemmas.Option.{slice_get-get_or}
use Rattle.toml.specs.View.{table_view}
use Rattle.gptp_lint.specs.Outline.{entry_view, outline_state}
use Rattle.gptp_lint.specs.UnreadKeys.{AppendsUnread, found_view, in_part, of_part}
use Rattle.gptp_lint.proofs.UnreadLemmas.{more_unread, part_more}
use Rattle.gptp_lint.proofs.unknown.write_part.Goals as goal

pub loop-entry-preserved : goal.loop-entry-preserved
loop-entry-preserved c =
    let t = Some (table_view c.args.document.now) in
    let o = outline_state c.args.outline.now in
    let part = c.args.part in
    let xs = c.args.unread.now in
    let i = c.loop-entry.entry-index in
    let entry = c.entry-item.result in
    let old = string_bytes c.args.text.now in
    let mid = string_bytes c.loop-entry.text in
    let new = string_bytes c.write_in_part.new.text in
    let there : slice_get xs i ≡ Some entry =
    slice_get-get_or xs i entry c.loop-entry-test.true ∙ ap Some (sym c.entry-item.is) in
    subst (λ keys. AppendsUnread t o keys old new) (sym (part_more part xs i entry there))
    (more_unread t o (of_part part (found_view (take i xs)))
    (if in_part part (entry_view entry.now) then entry_view entry.now ∷ [] else []) old mid new c.loop-entry.invariant
    c.in_ok-write_in_part.ensures)
