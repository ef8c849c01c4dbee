use Rattle.std.proofs.Common.{ap, append_assoc, ◌∙◌}
use Rattle.std.proofs.lemmas.Result.{on_ok_weaker}
use Rattle.gptp_words.specs.Digits.{yes_or_no}
use Rattle.gptp_report.proofs.system_lines.write_port.Goals as goal

-- what is written, word by word, is the line
pub returns : goal.returns
returns c =
    let capable = c.yes_or_no.ensures ∙ ap yes_or_no c.capable.ensures in
    on_ok_weaker c.writeln.result (λ h. h ∙ simp (append_assoc, c.role.ensures, capable, c.delay.ensures))
    c.writeln.ensures.bytes
