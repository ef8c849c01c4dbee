use Rattle.std.proofs.Common.{arith}
use Rattle.gptp_certificate_text.specs.Words.{IsWord}
use Rattle.gptp_certificate_text.proofs.WordLemmas.{if_none}
use Rattle.gptp_certificate_text.proofs.FormLemmas.{link_behind_own, link_behind_clock}
use Rattle.gptp_certificate_text.proofs.form.link_words.Goals as goal

pub returns-in_err-clock-clause-absent : goal.returns-in_err-clock-clause-absent
returns-in_err-clock-clause-absent c = if_none c.from_residual-in_err-clock.result (λ link are whole.
    let own = c.in_ok-own_port.ensures in
    let rest = link_behind_own link _ _ _ are own.word own.found whole in
    c.in_err-clock.ensures.absent link.clock link.port are.clock rest.1)

pub returns-else-is_word-clause-absent : goal.returns-else-is_word-clause-absent
returns-else-is_word-clause-absent c = λ link are whole.
    let none : IsWord c.in_ok-clock.port.now → ⊥ = λ h. let t = c.if-is_word.ensures.1 h in absurd (grind arith) in
    let own = c.in_ok-own_port.ensures in
    let clock = c.in_ok-clock.ensures in
    let rest = link_behind_own link _ _ _ are own.word own.found whole in
    let port = link_behind_clock link _ _ _ are clock.word clock.found rest.1 in
    none (rw port.1 are.port)
