use Rattle.std.proofs.Common.{[], inl, refl, subst}
use Rattle.std.specs.Io.KnownBytes.{Appends}
use Rattle.std.proofs.lemmas.Result.{on_ok_weaker}
use Rattle.gptp_words.specs.Lines.{text_of}
use Rattle.gptp_certificate_text.specs.CertificateText.{certificate_lines}
use Rattle.gptp_sink.specs.Sink.{AppendsSome}
use Rattle.gptp_sink.proofs.SinkLemmas.{after_error, none_of}
use Rattle.gptp_commands.proofs.RunSoFarLemmas.{tells_all, tells_part, tells_some}
use Rattle.gptp_commands.proofs.run.write_certified.Goals as goal

-- nothing was written
pub returns-in_err-certificate-clause-some : goal.returns-in_err-certificate-clause-some
returns-in_err-certificate-clause-some g c =
    after_error c.from_residual.result ([], inl refl, none_of (g.K.Sink.written c.args.sink.now) [])

pub returns-in_err-write_all-clause-some : goal.returns-in_err-write_all-clause-some
returns-in_err-write_all-clause-some g c = after_error c.from_residual-in_err-write_all.result
    (tells_some c.args.document.now c.args.until c.args.world.now.world_core c.in_ok-certificate.certificate.lines
    c.in_ok-certificate.ensures.states (g.K.Sink.written c.args.sink.now) (g.K.Sink.written c.write_all.new.sink)
    c.in_err-write_all.ensures.some)

pub returns-clause-some : goal.returns-clause-some
returns-clause-some g c =
    let stated = c.in_ok-certificate.certificate.lines in
    let between = g.K.Sink.written c.write_all.new.sink in let new = g.K.Sink.written c.write_lines.new.sink in
    after_error c.write_lines.result
    (tells_part c.args.document.now c.args.until c.args.world.now.world_core stated c.in_ok-certificate.ensures.states
    (g.K.Sink.written c.args.sink.now) between new c.in_ok-write_all.ensures.whole
    (subst (λ version. AppendsSome between new (text_of (certificate_lines version stated)))
    c.in_ok-certificate.ensures.version c.write_lines.ensures.some))

pub returns-clause-whole : goal.returns-clause-whole
returns-clause-whole g c =
    let stated = c.in_ok-certificate.certificate.lines in
    let between = g.K.Sink.written c.write_all.new.sink in let new = g.K.Sink.written c.write_lines.new.sink in
    on_ok_weaker c.write_lines.result
    (λ whole. tells_all c.args.document.now c.args.until c.args.world.now.world_core stated
    c.in_ok-certificate.ensures.states (g.K.Sink.written c.args.sink.now) between new c.in_ok-write_all.ensures.whole
    (subst (λ version. Appends between new (text_of (certificate_lines version stated)))
    c.in_ok-certificate.ensures.version whole)) c.write_lines.ensures.whole
