use Rattle.gptp_certificate_text.proofs.OrderLemmas.{last_port}
use Rattle.std.proofs.Common.{sym, ◌∙◌}
use Rattle.gptp_certificate_text.proofs.order.last_number.Goals as goal

pub returns-in-Some : goal.returns-in-Some
returns-in-Some c = last_port c.args.line.now c.in-Some.field-0-1.now c.in-Some.last.now
    (sym c.as_slice.ensures.value ∙ c.in-Some.ensures.cases.0)
