use Rattle.std.proofs.Common.{ap}
use Rattle.std.proofs.lemmas.Result.{IfOk-weaker}
use Rattle.gptp_certificate_text.specs.CertificateText.{certificate_lines}
use Rattle.gptp_commands.proofs.choice.choose.Goals as goal

pub returns-clause-chooses : goal.returns-clause-chooses
returns-clause-chooses c =
    let found = c.in_ok-certificate.ensures in
    let lines = c.in_ok-certificate.certificate.lines in
    IfOk-weaker c.show.result _ _ (λ o shown. (
      certificate_lines c.in_ok-certificate.certificate.version lines,
      record {
        lines = lines;
        is = found.is;
        choice = found.choice;
        shown = ap (λ version. certificate_lines version lines) found.version;
        status_is = shown.0;
      },
      shown.1,
    ))
    c.show.ensures.shows
