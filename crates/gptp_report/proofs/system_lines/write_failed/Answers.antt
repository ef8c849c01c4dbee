use Rattle.std.proofs.Common.{append_assoc, ◌∙◌}
use Rattle.std.proofs.lemmas.Result.{on_ok_weaker}
use Rattle.gptp_report.proofs.system_lines.write_failed.Goals as goal

-- what is written, word by word, is the line
pub returns : goal.returns
returns c = on_ok_weaker c.writeln.result (λ h. h ∙ simp append_assoc) c.writeln.ensures.bytes
