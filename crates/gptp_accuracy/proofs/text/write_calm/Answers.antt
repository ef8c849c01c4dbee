use Rattle.std.proofs.Common.{append_assoc, ◌∙◌}
use Rattle.std.proofs.lemmas.Result.{on_ok_weaker}
use Rattle.gptp_accuracy.proofs.text.write_calm.Goals as goal

-- what is written, word by word, is that
pub returns-in-Some : goal.returns-in-Some
returns-in-Some c =
    rw c.in-Some.is (on_ok_weaker c.write.result (λ h. h ∙ simp append_assoc) c.write.ensures.bytes)
