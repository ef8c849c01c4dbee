use Rattle.gptp_certificate_text.proofs.ReadingLemmas.{first_head, no_head, second_head}
use Rattle.gptp_certificate_text.proofs.WordLemmas.{if_none}
use Rattle.gptp_certificate_text.proofs.reading.read_head.Goals as goal

pub returns-in-Some-clause-found : goal.returns-in-Some-clause-found
returns-in-Some-clause-found c = first_head c.args.text.now c.in-Some.rest.now c.in-Some.ensures.found

pub returns-in_err-after-clause-absent : goal.returns-in_err-after-clause-absent
returns-in_err-after-clause-absent c =
    if_none c.from_residual.result (no_head c.args.text.now c.in_default.ensures.absent c.in_err-after.ensures.absent)

pub returns-clause-found : goal.returns-clause-found
returns-clause-found c = second_head c.args.text.now c.in_ok-after.field-0.now c.in_ok-after.ensures.found
