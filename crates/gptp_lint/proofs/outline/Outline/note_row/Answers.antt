-- A row by its kind.
use Rattle.std.proofs.Common.{◌∙◌, ap, sym}
use Rattle.std.proofs.lemmas.Result.{on_ok_weaker}
use Rattle.gptp_outline.specs.Rows.{shown}
use Rattle.gptp_lint.specs.Outline.{after_kind, outline_state}
use Rattle.gptp_lint.proofs.outline.Outline.note_row.Goals as goal

pub returns-in-Pair : goal.returns-in-Pair
returns-in-Pair c =
    on_ok_weaker c.note_pair.result
    (λ noted has. noted has c.in-Pair.is
    ∙ sym (ap (λ kind. after_kind kind (outline_state c.args.self.now) (shown c.args.row.now)) c.in-Pair.is))
    c.note_pair.ensures

pub returns-in-Table : goal.returns-in-Table
returns-in-Table c =
    on_ok_weaker c.note_table.result
    (λ noted has. noted
    ∙ sym (ap (λ kind. after_kind kind (outline_state c.args.self.now) (shown c.args.row.now)) c.in-Table.is))
    c.note_table.ensures

pub returns-in-ArrayTable : goal.returns-in-ArrayTable
returns-in-ArrayTable c =
    on_ok_weaker c.note_array.result
    (λ noted has. noted
    ∙ sym (ap (λ kind. after_kind kind (outline_state c.args.self.now) (shown c.args.row.now)) c.in-ArrayTable.is))
    c.note_array.ensures
