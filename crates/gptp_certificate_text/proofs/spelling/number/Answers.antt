use Rattle.std.proofs.Common.{◌≡◌, sym, subst, arith}
use Rattle.std.specs.Prelude.{decimal}
use Rattle.std.specs.Str.{IsUtf8}
use Rattle.gptp_certificate_text.proofs.SpellingLemmas.{IsUtf8-decimal, other_decimal, read_of, unread_decimal, unread_of}
use Rattle.gptp_certificate_text.proofs.WordLemmas.{if_none}
use Rattle.gptp_certificate_text.proofs.spelling.number.Goals as goal

pub returns-in_err-text-clause-absent : goal.returns-in_err-text-clause-absent
returns-in_err-text-clause-absent c = if_none c.from_residual.result (λ number small is.
    unread_of _ _ (IsUtf8 c.args.word.now) c.from_utf8.result c.from_utf8.ensures.cases c.in_err-text.ensures.variant
    (subst IsUtf8 (sym is) (IsUtf8-decimal number small)))

pub returns-in_err-number-clause-absent : goal.returns-in_err-number-clause-absent
returns-in_err-number-clause-absent c = if_none c.from_residual-in_err-number.result (λ number small is.
    let text = read_of _ _ c.from_utf8.result _ c.from_utf8.ensures.cases c.in_ok-text.ensures.value in
    unread_decimal c.args.word.now _ c.parse.result text.0 c.parse.ensures.value.0 c.in_err-number.ensures.variant
    number small is)

pub returns-else-is_decimal-clause-absent : goal.returns-else-is_decimal-clause-absent
returns-else-is_decimal-clause-absent c = λ number small is.
    let text = read_of _ _ c.from_utf8.result _ c.from_utf8.ensures.cases c.in_ok-text.ensures.value in
    let unlike : c.args.word.now ≡ decimal c.in_ok-number.number → ⊥ =
    λ e. let t = c.if-is_decimal.ensures.1 e in absurd (grind arith) in
    other_decimal c.args.word.now _ c.in_ok-number.number c.parse.result text.0 c.parse.ensures.value.0
    c.in_ok-number.ensures.value unlike number small is
