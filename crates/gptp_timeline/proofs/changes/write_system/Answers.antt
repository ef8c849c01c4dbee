use Rattle.std.proofs.Common.{◌≡◌, append_assoc, ap, arith, ◌∙◌}
use Rattle.std.proofs.lemmas.Bool.Decides.{nat_tests}
use Rattle.std.proofs.lemmas.Result.{on_ok_weaker}
use Rattle.gptp_words.specs.Digits.{yes_or_no}
use Rattle.gptp_accuracy.specs.TimeErrors.{root_is_capable}
use Rattle.gptp_timeline.proofs.changes.write_system.Goals as goal

-- what is written, word by word, is the line
pub returns : goal.returns
returns c =
    let gm : c.capable.result ≡ root_is_capable c.args.shown.now.root = grind (arith, nat_tests, c.capable.ensures) in
    let word = c.yes_or_no.ensures ∙ ap yes_or_no gm in
    on_ok_weaker c.writeln.result (λ h. h ∙ simp (append_assoc, word, c.known_word.ensures)) c.writeln.ensures.bytes
