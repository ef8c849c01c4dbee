use Rattle.gptp_certificate_text.proofs.WordLemmas.{if_none}
use Rattle.gptp_certificate_text.proofs.FormLemmas.{rest_behind_clock, rest_behind_root, rest_behind_steps, rest_is_parent}
use Rattle.gptp_certificate_text.proofs.form.system_words.Goals as goal

pub returns-in_err-root-clause-absent : goal.returns-in_err-root-clause-absent
returns-in_err-root-clause-absent c = if_none c.from_residual-in_err-root.result (λ words are whole.
    let clock = c.in_ok-clock.ensures in
    let rest = rest_behind_clock words _ _ _ are clock.word clock.found whole in
    c.in_err-root.ensures.absent words.root _ are.root rest.1)

pub returns-in_err-steps-clause-absent : goal.returns-in_err-steps-clause-absent
returns-in_err-steps-clause-absent c = if_none c.from_residual-in_err-steps.result (λ words are whole.
    let clock = c.in_ok-clock.ensures in
    let root = c.in_ok-root.ensures in
    let rest = rest_behind_clock words _ _ _ are clock.word clock.found whole in
    let more = rest_behind_root words _ _ _ are root.word root.found rest.1 in
    c.in_err-steps.ensures.absent words.steps _ are.steps more.1)

pub returns-in_err-after-clause-absent : goal.returns-in_err-after-clause-absent
returns-in_err-after-clause-absent c = if_none c.from_residual-in_err-after.result (λ words are whole.
    let clock = c.in_ok-clock.ensures in
    let root = c.in_ok-root.ensures in
    let steps = c.in_ok-steps.ensures in
    let rest = rest_behind_clock words _ _ _ are clock.word clock.found whole in
    let more = rest_behind_root words _ _ _ are root.word root.found rest.1 in
    let last = rest_behind_steps words _ _ _ are steps.word steps.found more.1 in
    c.in_err-after.ensures.absent _ last.1)

pub returns-in_err-parent-clause-absent : goal.returns-in_err-parent-clause-absent
returns-in_err-parent-clause-absent c = if_none c.from_residual-in_err-parent.result (λ words are whole.
    let clock = c.in_ok-clock.ensures in
    let root = c.in_ok-root.ensures in
    let steps = c.in_ok-steps.ensures in
    let rest = rest_behind_clock words _ _ _ are clock.word clock.found whole in
    let more = rest_behind_root words _ _ _ are root.word root.found rest.1 in
    let last = rest_behind_steps words _ _ _ are steps.word steps.found more.1 in
    c.in_err-parent.ensures.absent words.parent are.parent
    (rest_is_parent words _ _ c.in_ok-after.ensures.found last.1))
