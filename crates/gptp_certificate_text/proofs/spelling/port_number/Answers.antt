use Rattle.std.proofs.Common.{◌≡◌, sym, ◌∙◌, arith}
use Rattle.std.proofs.lemmas.Fmt.{decimal_injective}
use Rattle.gptp_certificate_text.proofs.spelling.port_number.Goals as goal

pub returns-else-number-ge1-clause-absent : goal.returns-else-number-ge1-clause-absent
returns-else-number-ge1-clause-absent c = λ number range is.
    let low = c.if-number-ge1.false in
    let least = range.least in
    let most = range.most in
    let zero : c.in_ok-number.number ≡ 0 = omega arith in
    let same = decimal_injective c.in_ok-number.number number (omega arith) (omega arith)
    (sym c.in_ok-number.ensures.found ∙ is) in
    absurd (omega arith)
