use Rattle.std.proofs.Common.{sym, subst, arith, length-take-le}
use Rattle.std.proofs.lemmas.Result.{IfOk-weaker}
use Rattle.gptp_certificate_text.specs.declared.certificate.TheConstants.{CERTIFICATE_LIMIT}
use Rattle.gptp_commands.specs.WhereText.{PlaceIsLine}
use Rattle.gptp_commands.proofs.WhereLemmas.{located_end}
use Rattle.gptp_commands.proofs.place.place_within_limit.Goals as goal

pub slice_bounds-line_behind-end : goal.slice_bounds-line_behind-end
slice_bounds-line_behind-end c =
    let long = c.if-input-le-CERTIFICATE_LIMIT.false in
    sym (length-take-le CERTIFICATE_LIMIT c.args.input.now (omega arith))

pub returns-clause-locates : goal.returns-clause-locates
returns-clause-locates c =
    let long = c.if-input-le-CERTIFICATE_LIMIT.false in
    IfOk-weaker c.at_line.result _ _ (λ text said. (
      said.0,
      located_end c.args.document.now c.args.until c.args.input.now said.0 (omega arith)
          (subst (λ n. PlaceIsLine n said.0) c.line_behind.ensures said.1),
      said.2,
    ))
    c.at_line.ensures.says
