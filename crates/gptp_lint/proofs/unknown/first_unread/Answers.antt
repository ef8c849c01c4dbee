-- One entry more.
use Rattle.std.proofs.Common.{◌≡◌, ◌∙◌, Some, ap, slice_get, sym}
use Rattle.std.proofs.lemmas.Option.{slice_get-get_or}
use Rattle.toml.specs.View.{table_view}
use Rattle.gptp_lint.specs.Outline.{entry_view}
use Rattle.gptp_lint.specs.UnreadKeys.{with_key}
use Rattle.gptp_lint.proofs.UnreadLemmas.{entry_more}
use Rattle.gptp_lint.proofs.unknown.first_unread.Goals as goal

pub loop-entry-preserved : goal.loop-entry-preserved
loop-entry-preserved c =
    let t = table_view c.args.document.now in
    let xs = c.args.entries.now in
    let i = c.loop-entry.entry-index in
    let entry = c.entry-item.result in
    let there : slice_get xs i ≡ Some entry =
    slice_get-get_or xs i entry c.loop-entry-test.true ∙ ap Some (sym c.entry-item.is) in (
      c.in_ok-push_unread.ensures.seen,
      c.in_ok-push_unread.ensures.pushed
          ∙ ap (λ found. with_key t found (entry_view entry)) c.loop-entry.invariant.1
          ∙ sym (entry_more t xs i entry there),
    )
