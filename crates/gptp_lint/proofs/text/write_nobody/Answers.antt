-- One line more.
use Rattle.std.specs.Prelude.{string_bytes}
use Rattle.gptp_lint.specs.LintText.{nobody_line}
use Rattle.gptp_lint.proofs.TextLemmas.{item_more}
use Rattle.gptp_lint.proofs.text.write_nobody.Goals as goal

pub loop-time-preserved : goal.loop-time-preserved
loop-time-preserved c =
    item_more nobody_line c.args.times.now c.loop-time.time-index c.time-item.result (string_bytes c.args.text.now)
    (string_bytes c.loop-time.text) (string_bytes c.write_nobody_line.new.text) c.loop-time-test.true c.time-item.is
    c.loop-time.invariant c.in_ok-write_nobody_line.ensures
