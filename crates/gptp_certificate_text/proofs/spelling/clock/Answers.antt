use Rattle.std.proofs.Common.{◌≡◌, ap, ◌∙◌, sym, arith}
use Rattle.byteorder.specs.Endian.{big_bytes}
use Rattle.hex.specs.Hex.{encode_lower}
use Rattle.gptp_certificate_text.proofs.SpellingLemmas.{other_digits, unread_digits}
use Rattle.gptp_certificate_text.proofs.WordLemmas.{if_none}
use Rattle.gptp_certificate_text.proofs.spelling.clock.Goals as goal

pub returns-in_err-octets-clause-absent : goal.returns-in_err-octets-clause-absent
returns-in_err-octets-clause-absent c = if_none c.from_residual.result (λ clock small is.
    unread_digits 8 c.args.word.now c.from_hex.result c.from_hex.ensures c.in_err-octets.ensures.variant clock is)

pub returns-else-spells-clause-absent : goal.returns-else-spells-clause-absent
returns-else-spells-clause-absent c = λ clock small is.
    let unlike : c.args.word.now ≡ encode_lower (big_bytes 8 c.of_octets-clock.result) → ⊥ =
    λ e. let t = c.if-spells.ensures.1 (e ∙ ap encode_lower (sym c.octets.ensures)) in absurd (grind arith) in
    other_digits 8 c.args.word.now c.in_ok-octets.octets c.of_octets-clock.result c.from_hex.result c.from_hex.ensures
    c.in_ok-octets.ensures.value c.of_octets-clock.ensures unlike clock small is
