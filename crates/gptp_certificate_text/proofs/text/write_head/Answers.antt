use Rattle.std.proofs.Common.{append_assoc, string_bytes, ◌∙◌}
use Rattle.std.proofs.lemmas.Result.{on_ok_weaker}
use Rattle.gptp_certificate_text.proofs.TextLemmas.{far_written, near_written}
use Rattle.gptp_certificate_text.proofs.text.write_head.Goals as goal

-- what is written, word by word, is the line
pub returns-then-line : goal.returns-then-line
returns-then-line c = on_ok_weaker c.writeln.result (λ h.
    far_written c.args.line.now (string_bytes c.args.text.now) _ c.if-line.true (h ∙ simp append_assoc))
    c.writeln.ensures.bytes

pub returns : goal.returns
returns c = on_ok_weaker c.writeln-2.result (λ h.
    near_written c.args.line.now (string_bytes c.args.text.now) _ c.if-line.false (h ∙ simp append_assoc))
    c.writeln-2.ensures.bytes
