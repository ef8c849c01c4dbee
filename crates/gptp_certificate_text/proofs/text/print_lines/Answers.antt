use Rattle.std.proofs.Common.{append_assoc, ◌∙◌}
use Rattle.std.proofs.lemmas.Result.{on_ok_weaker}
use Rattle.gptp_certificate_text.proofs.text.print_lines.Goals as goal

-- the head, the lines of the systems, and the end
pub returns : goal.returns
returns c = on_ok_weaker c.writeln-2.result (λ h.
    h ∙ simp (c.in_ok-write_systems.ensures, c.in_ok-writeln.ensures.bytes, append_assoc)) c.writeln-2.ensures.bytes
