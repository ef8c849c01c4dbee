use Rattle.std.specs.Io.KnownBytes.{Appends}
use Rattle.gptp_sink.specs.Sink.{AppendsFront}
use Rattle.gptp_commands.specs.CheckText.{CheckText}
use Rattle.gptp_commands.proofs.CheckLemmas.{both_hold, same_check}
use Rattle.gptp_commands.proofs.LimitedLemmas.{if_some}
use Rattle.gptp_commands.proofs.check.check.Goals as goal

pub returns-clause-done : goal.returns-clause-done
returns-clause-done g c =
    both_hold (CheckText c.args.until) (same_check c.args.until) _ _ _ _ c.in_ok-document_text.document_text.items
    c.in_ok-certificate_text.certificate_text.items
    c.in_ok-output.output.text.items c.in_ok-output.output.status
    (λ text. Appends (g.K.Sink.written c.args.sink.now) (g.K.Sink.written c.write_whole.new.sink) text)
    c.in_ok-document_text.ensures.whole c.in_ok-certificate_text.ensures.whole
    (rw (c.deref.ensures.value, c.deref-2.ensures.value) at c.in_ok-output.ensures.text)
    (rw c.deref-3.ensures.value at c.in_ok-write_whole.ensures.whole)

pub returns-in_err-write_whole-clause-front : goal.returns-in_err-write_whole-clause-front
returns-in_err-write_whole-clause-front g c failed =
    if_some _ _ (g.C.Source.left c.args.certificate.now) (λ octets holds. (c.in_ok-output.output.status, holds))
    (both_hold (CheckText c.args.until) (same_check c.args.until) _ _ _ _ c.in_ok-document_text.document_text.items
    c.in_ok-certificate_text.certificate_text.items
    c.in_ok-output.output.text.items c.in_ok-output.output.status
    (λ text. AppendsFront (g.K.Sink.written c.args.sink.now) (g.K.Sink.written c.write_whole.new.sink) text)
    c.in_ok-document_text.ensures.whole c.in_ok-certificate_text.ensures.whole
    (rw (c.deref.ensures.value, c.deref-2.ensures.value) at c.in_ok-output.ensures.text)
    (rw c.deref-3.ensures.value at c.in_err-write_whole.ensures.front))
