use Rattle.std.proofs.Common.{string_bytes}
use Rattle.std.proofs.lemmas.Result.{on_ok_weaker}
use Rattle.gptp_certificate_text.proofs.TextLemmas.{system_written}
use Rattle.gptp_certificate_text.proofs.text.write_system.Goals as goal

pub returns : goal.returns
returns c = on_ok_weaker c.write_ports.result (λ h. system_written c.args.line.now (string_bytes c.args.text.now)
    (string_bytes c.write_head.new.text) (string_bytes c.write_ports.new.text) c.in_ok-write_head.ensures
    (rw c.as_slice.ensures.value at h)) c.write_ports.ensures
