use Rattle.std.proofs.Common.{arith}
use Rattle.gptp_certificate_text.specs.Words.{IsWord}
use Rattle.gptp_certificate_text.proofs.WordLemmas.{other_word}
use Rattle.gptp_certificate_text.proofs.words.word.Goals as goal

pub returns-else-is_word-clause-absent : goal.returns-else-is_word-clause-absent
returns-else-is_word-clause-absent c = λ word rest is whole.
    let none : IsWord c.in_ok-word.word.now → ⊥ = λ h. let t = c.if-is_word.ensures.1 h in absurd (grind arith) in
    other_word c.args.text.now c.in_ok-word.word.now word c.in_ok-word.rest.now rest c.in_ok-word.ensures.first none is
    c.in_ok-word.ensures.found whole
