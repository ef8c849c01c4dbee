-- The key of a pair, and the keys in its value.
use Rattle.std.proofs.Common.{◌++◌, ◌∷◌, ◌∙◌, [], ap}
use Rattle.std.proofs.lemmas.Result.{on_ok_weaker}
use Rattle.gptp_outline.specs.Rows.{shown}
use Rattle.gptp_lint.specs.Outline.{entries_view, first_part, value_entries}
use Rattle.gptp_lint.specs.declared.place.Place.TheVariants.{Top}
use Rattle.gptp_lint.proofs.OutlineLemmas.{two_pieces}
use Rattle.gptp_lint.proofs.outline.push_pair_at.Goals as goal

pub returns-in-Top : goal.returns-in-Top
returns-in-Top c =
    let row = shown c.args.row.now in
    let key = c.in_ok-push_key.ensures
    ∙ ap (λ part. entries_view c.args.entries.now ++ (c.args.place, part) ∷ []) c.first_part.ensures in
    rw c.in-Top.is
    (on_ok_weaker c.push_value.result
    (λ more has pair.
    two_pieces (entries_view c.args.entries.now) (entries_view c.push_key.new.entries)
    (entries_view c.push_value.new.entries) ((Top, first_part row.key) ∷ []) (value_entries row)
    (rw c.in-Top.is at key) (more has pair))
    c.push_value.ensures)
