use Rattle.std.specs.Prelude.{string_bytes}
use Rattle.std.proofs.lemmas.Result.{on_ok_weaker}
use Rattle.gptp_faults.proofs.TextLemmas.{outcome_text}
use Rattle.gptp_faults.proofs.text.write_outcome.Goals as goal

pub returns : goal.returns
returns c =
    on_ok_weaker c.write_all_extremes-2.result
    (outcome_text c.args.asked c.args.outcome.now c.number.result c.failing.result c.down.result.now c.back.result.now
    c.follow.result.now (string_bytes c.args.text.now) (string_bytes c.write_case.new.text)
    (string_bytes c.write_all_extremes.new.text) (string_bytes c.write_follows.new.text)
    (string_bytes c.write_all_extremes-2.new.text) c.number.ensures c.failing.ensures c.down.ensures c.follow.ensures
    c.back.ensures c.in_ok-write_case.ensures c.in_ok-write_all_extremes.ensures c.in_ok-write_follows.ensures)
    c.write_all_extremes-2.ensures
