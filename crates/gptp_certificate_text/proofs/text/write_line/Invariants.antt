use Rattle.std.proofs.Common.{◌≡◌, drop, slice_get, string_bytes}
use Rattle.gptp_certificate_text.specs.Certificate.{lines_of}
use Rattle.gptp_certificate_text.specs.CertificateText.{certificate_lines}
use Rattle.gptp_certificate_text.proofs.LineTextLemmas.{texts_left}
use Rattle.gptp_certificate_text.proofs.text.write_line.Given as goal

-- the line is so many after the first of the systems that are left, and nothing was written
abbrev pub invariant-loop-line : goal.invariant-loop-line
invariant-loop-line l = record {
  place : slice_get (certificate_lines l.fn.version (lines_of l.lines)) l.place
      ≡ slice_get (texts_left (drop l.line-index l.lines)) l.left;
  nothing : string_bytes l.text ≡ string_bytes l.initial.text;
}
