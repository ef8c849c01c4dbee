-- The member of this number, if there is one.
use Rattle.std.proofs.Common.{◌∙◌, Some, ap, arith}
use Rattle.toml.specs.View.{view}
use Rattle.toml.proofs.Views.{get_item_past, get_item_within}
use Rattle.gptp_lint.specs.Keys.{table_in}
use Rattle.gptp_lint.proofs.keys.member_table.Goals as goal

pub returns-then-number-members : goal.returns-then-number-members
returns-then-number-members c =
    let value = c.index-members-number in
    c.as_table.ensures
    ∙ ap table_in (ap (λ v. Some (view v)) value.is
    ∙ get_item_within c.args.members.now c.args.number value.result (omega arith))

pub returns-else-number-members : goal.returns-else-number-members
returns-else-number-members c = ap table_in (get_item_past c.args.members.now c.args.number (omega arith))
