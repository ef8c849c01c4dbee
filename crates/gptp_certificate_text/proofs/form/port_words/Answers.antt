use Rattle.gptp_certificate_text.proofs.WordLemmas.{if_none}
use Rattle.gptp_certificate_text.proofs.FormLemmas.{port_behind_clock, port_behind_number}
use Rattle.gptp_certificate_text.proofs.form.port_words.Goals as goal

pub returns-in_err-number-clause-absent : goal.returns-in_err-number-clause-absent
returns-in_err-number-clause-absent c = if_none c.from_residual-in_err-number.result (λ words are whole.
    let clock = c.in_ok-clock.ensures in
    let rest = port_behind_clock words _ _ _ are clock.word clock.found whole in
    c.in_err-number.ensures.absent words.number _ are.number rest.1)

pub returns-in_err-role-clause-absent : goal.returns-in_err-role-clause-absent
returns-in_err-role-clause-absent c = if_none c.from_residual-in_err-role.result (λ words are whole.
    let clock = c.in_ok-clock.ensures in
    let number = c.in_ok-number.ensures in
    let rest = port_behind_clock words _ _ _ are clock.word clock.found whole in
    let role = port_behind_number words _ _ _ are number.word number.found rest.1 in
    c.in_err-role.ensures.absent words.role role.1)
