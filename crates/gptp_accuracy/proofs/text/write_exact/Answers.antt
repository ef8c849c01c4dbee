use Rattle.std.proofs.Common.{append_assoc, ◌∙◌}
use Rattle.std.proofs.lemmas.Result.{on_ok_weaker}
use Rattle.gptp_accuracy.proofs.text.write_exact.Goals as goal

-- what is written, word by word, is that
pub returns : goal.returns
returns c =
    on_ok_weaker c.write.result (λ h. h ∙ simp (append_assoc, c.steps_word.ensures)) c.write.ensures.bytes
