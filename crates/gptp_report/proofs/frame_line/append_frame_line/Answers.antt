use Rattle.std.proofs.Common.{append_assoc, ◌∙◌}
use Rattle.std.proofs.lemmas.Result.{on_ok_weaker}
use Rattle.gptp_report.proofs.frame_line.append_frame_line.Goals as goal

-- what is written, word by word, is the line
pub returns : goal.returns
returns c =
    on_ok_weaker c.writeln.result (λ h. h ∙ simp (c.reserve.ensures.bytes, append_assoc)) c.writeln.ensures.bytes
