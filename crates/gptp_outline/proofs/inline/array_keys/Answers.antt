use Rattle.std.proofs.Common.{◌∙◌, ap}
use Rattle.std.proofs.lemmas.Result.{IfOk-weaker}
use Rattle.toml_parser.specs.Strings.{recursion_limit}
use Rattle.gptp_outline.specs.Inline.{item_keys}
use Rattle.gptp_outline.proofs.InlineLemmas.{value_there}
use Rattle.gptp_outline.proofs.inline.array_keys.Goals as goal

-- the value is that of the row
pub returns : goal.returns
returns c =
    IfOk-weaker c.item_keys.result _ _
    (λ items found has pair.
    let (key, text, d, left, equals, value) = has pair in
    let (here, read) = value_there c.args.row.now.start.now c.in_ok-at_value.at_value.now _ key text d left
    c.in_ok-at_value.ensures.value equals value in
    found d left read ∙ ap (item_keys recursion_limit) here)
    c.item_keys.ensures
