use Rattle.std.proofs.Common.{ap, ◌∙◌}
use Rattle.std.specs.Prelude.{string_bytes}
use Rattle.std.proofs.lemmas.Result.{on_ok_weaker}
use Rattle.gptp_faults.specs.Ranking.{amount_or_0}
use Rattle.gptp_faults.proofs.TextLemmas.{worst_text}
use Rattle.gptp_faults.proofs.text.write_worst.Goals as goal

pub returns : goal.returns
returns c =
    on_ok_weaker c.write_counts.result
    (worst_text c.args.worst.now c.amount_or_0-holdover.result c.amount_or_0-error.result
    (string_bytes c.args.text.now) (string_bytes c.write_worst_amounts.new.text) (string_bytes c.write_counts.new.text)
    (c.amount_or_0-holdover.ensures ∙ ap amount_or_0 c.amount_of.ensures)
    (c.amount_or_0-error.ensures ∙ ap amount_or_0 c.amount_of-2.ensures) c.in_ok-write_worst_amounts.ensures)
    c.write_counts.ensures
