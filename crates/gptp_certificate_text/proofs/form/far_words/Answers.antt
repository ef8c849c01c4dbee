use Rattle.std.proofs.Common.{arith}
use Rattle.gptp_certificate_text.specs.Words.{IsWord}
use Rattle.gptp_certificate_text.proofs.WordLemmas.{if_none}
use Rattle.gptp_certificate_text.proofs.FormLemmas.{far_rest_behind_clock, far_rest_behind_steps, rest_is_root}
use Rattle.gptp_certificate_text.proofs.form.far_words.Goals as goal

pub returns-in_err-steps-clause-absent : goal.returns-in_err-steps-clause-absent
returns-in_err-steps-clause-absent c = if_none c.from_residual-in_err-steps.result (λ words are whole.
    let clock = c.in_ok-clock.ensures in
    let rest = far_rest_behind_clock words _ _ _ are clock.word clock.found whole in
    c.in_err-steps.ensures.absent words.steps _ are.steps rest.1)

pub returns-in_err-root-clause-absent : goal.returns-in_err-root-clause-absent
returns-in_err-root-clause-absent c = if_none c.from_residual-in_err-root.result (λ words are whole.
    let clock = c.in_ok-clock.ensures in
    let steps = c.in_ok-steps.ensures in
    let rest = far_rest_behind_clock words _ _ _ are clock.word clock.found whole in
    let last = far_rest_behind_steps words _ _ _ are steps.word steps.found rest.1 in
    c.in_err-root.ensures.absent words.root last.1)

pub returns-else-is_word-clause-absent : goal.returns-else-is_word-clause-absent
returns-else-is_word-clause-absent c = λ words are whole.
    let none : IsWord c.in_ok-root.root.now → ⊥ = λ h. let t = c.if-is_word.ensures.1 h in absurd (grind arith) in
    let clock = c.in_ok-clock.ensures in
    let steps = c.in_ok-steps.ensures in
    let rest = far_rest_behind_clock words _ _ _ are clock.word clock.found whole in
    let last = far_rest_behind_steps words _ _ _ are steps.word steps.found rest.1 in
    let root = rest_is_root words _ _ c.in_ok-root.ensures.found last.1 in
    none (rw root are.root)
