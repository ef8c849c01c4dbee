use Rattle.std.proofs.Common.{◌++◌, ◌∙◌, ap}
use Rattle.gptp_words.specs.Lines.{text_of}
use Rattle.gptp_commands.specs.Failure.{status_by}
use Rattle.gptp_commands.proofs.lint.tell_findings.Goals as goal

-- what is written are the findings, by the threshold of the network
pub returns-clause-tells : goal.returns-clause-tells
returns-clause-tells c =
    let d = c.args.document.now in
    let f = c.in_ok-findings.findings in
    let (lines, are, is) = c.in_ok-found.ensures in (
      lines,
      record {
        findings = f;
        are = c.in_ok-findings.ensures;
        found = c.in_ok-found.found;
        text = rw (c.params-threshold.ensures, c.network.ensures) at are;
        status_is = c.of.ensures.status ∙ c.of_refusal.ensures ∙ ap status_by c.is_refused.ensures;
      },
      c.of.ensures.text ∙ is ∙ ap (λ t. t ++ text_of lines) c.new-text.ensures.bytes,
    )
