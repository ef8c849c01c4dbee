use Rattle.std.specs.Prelude.{string_bytes}
use Rattle.std.proofs.lemmas.Result.{on_ok_weaker}
use Rattle.gptp_faults.proofs.TextLemmas.{all_text}
use Rattle.gptp_faults.proofs.text.write_table.Goals as goal

pub returns-clause-text : goal.returns-clause-text
returns-clause-text c =
    on_ok_weaker c.write_first_exceeded.result
    (all_text c.args.options.now c.args.times.now c.args.outcomes.now c.worst_of_all-worst.result c.exceeded_by.result
    (string_bytes c.args.text.now) (string_bytes c.write_head.new.text) (string_bytes c.write_outcomes.new.text)
    (string_bytes c.write_all_worst.new.text) (string_bytes c.write_first_exceeded.new.text) c.worst_of_all-worst.ensures
    c.exceeded_by.ensures c.in_ok-write_head.ensures c.in_ok-write_outcomes.ensures c.in_ok-write_all_worst.ensures)
    c.write_first_exceeded.ensures.text
