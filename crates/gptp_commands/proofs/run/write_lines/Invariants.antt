use Rattle.std.proofs.Common.{◌≡◌, take}
use Rattle.std.specs.Io.KnownBytes.{Appends}
use Rattle.gptp_words.specs.Lines.{text_of}
use Rattle.gptp_certificate_text.specs.CertificateText.{certificate_lines}
use Rattle.gptp_commands.proofs.run.write_lines.Given as goal

-- the lines before the place are written, and no write has failed
abbrev pub invariant-loop-place : goal.invariant-loop-place
invariant-loop-place g l = record {
  written : Appends (g.K.Sink.written l.initial.sink) (g.K.Sink.written l.sink)
      (text_of (take l.place (certificate_lines l.certificate.version l.certificate.lines)));
  works : g.K.Sink.failures l.sink ≡ g.K.Sink.failures l.initial.sink;
}
