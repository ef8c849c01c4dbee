use Rattle.std.proofs.Common.{ap, append_assoc, ◌∙◌}
use Rattle.std.proofs.lemmas.Result.{on_ok_weaker}
use Rattle.gptp_words.specs.Digits.{yes_or_no}
use Rattle.gptp_report.proofs.system_lines.write_live.Goals as goal

-- what is written, word by word, is the line
pub returns : goal.returns
returns c =
    let follows = c.follows-root.ensures in
    let gm = c.yes_or_no.ensures ∙ ap yes_or_no c.is_grandmaster.ensures in
    let offset = c.offset.ensures in
    on_ok_weaker c.writeln.result (λ h. h ∙ simp (append_assoc, follows.root, follows.steps, follows.slave, gm, offset))
    c.writeln.ensures.bytes
