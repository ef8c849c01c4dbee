use Rattle.std.proofs.Common.{◌≡◌, rules}
use Rattle.gptp_certificate_text.specs.Certificate.{lines_of}
use Rattle.gptp_certificate_text.specs.CertificateText.{end_text}
use Rattle.gptp_certificate_text.proofs.OrderLemmas.{is_certificate}
use Rattle.gptp_certificate_text.specs.Entries.{entries_of}
use Rattle.gptp_certificate_text.proofs.ReadingLemmas.{fails_from, parsed}
use Rattle.gptp_certificate_text.proofs.reading.parse_located.Goals as goal

pub of_lines-requires : goal.of_lines-requires
of_lines-requires c = record {
  is =
      is_certificate c.in-Some.version (lines_of c.loop-rest.lines.items) c.in-Some.ensures.version
      c.loop-rest.invariant.readable c.loop-rest.invariant.order;
}

pub returns-clause-read : goal.returns-clause-read
returns-clause-read c =
    let end : c.loop-rest.rest.now ≡ end_text = search rules in
    parsed c.args.text.now c.loop-rest.rest.now c.in-Some.version c.of_lines.result.version
    (lines_of c.loop-rest.lines.items) c.of_lines.result.lines c.of_lines.ensures.version c.of_lines.ensures.lines
    c.loop-rest.invariant end

pub returns-in-Err-clause-refused : goal.returns-in-Err-clause-refused
returns-in-Err-clause-refused c =
    fails_from c.in-Some.version (entries_of (lines_of c.loop-rest.lines.items)) c.args.text.now c.loop-rest.rest.now
    c.failing_part.result.now c.in-Err.fault c.in-Some.ensures.version c.loop-rest.invariant c.failing_part.ensures
    c.in-Err.ensures.refused
