-- One line more.
use Rattle.std.specs.Prelude.{string_bytes}
use Rattle.gptp_lint.specs.LintText.{chance_line}
use Rattle.gptp_lint.proofs.TextLemmas.{item_more}
use Rattle.gptp_lint.proofs.text.write_chance.Goals as goal

pub loop-two-preserved : goal.loop-two-preserved
loop-two-preserved c =
    item_more chance_line c.args.pairs.now c.loop-two.two-index c.two-item.result (string_bytes c.args.text.now)
    (string_bytes c.loop-two.text) (string_bytes c.write_chance_line.new.text) c.loop-two-test.true c.two-item.is
    c.loop-two.invariant c.in_ok-write_chance_line.ensures
