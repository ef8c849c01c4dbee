-- The word of an octet.
use Rattle.std.proofs.Common.{sym, ap, ◌∙◌}
use Rattle.std.specs.Char.{encode_utf8}
use Rattle.std.proofs.Output.{has_written_of_eq}
use Rattle.gptp_lint.proofs.EscapedLemmas.{plain_word, other_word}
use Rattle.gptp_lint.proofs.escaped.EscapedOctetDisplay.fmt.Goals as goal

pub returns-then-is_plain-clause-writes : goal.returns-then-is_plain-clause-writes
returns-then-is_plain-clause-writes g c = λ plain ok.
    let word = plain_word c.args.self.now.0 (sym c.is_plain.ensures ∙ c.if-is_plain.true) in
    has_written_of_eq _ _ _ _ _ (ap encode_utf8 c.from.ensures ∙ word) (c.write_char.ensures.writes plain ok)

pub returns-else-is_plain-clause-writes : goal.returns-else-is_plain-clause-writes
returns-else-is_plain-clause-writes g c = λ plain ok.
    has_written_of_eq _ _ _ _ _ (other_word c.args.self.now.0 (sym c.is_plain.ensures ∙ c.if-is_plain.false))
    (c.write.ensures.writes plain ok)
