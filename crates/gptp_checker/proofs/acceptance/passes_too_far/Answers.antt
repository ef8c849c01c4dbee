use Rattle.std.proofs.Common.{◌≡◌, ◌∙◌}
use Rattle.gptp_checker.proofs.LineTestLemmas.{first_version, too_far_by_line}
use Rattle.gptp_checker.proofs.acceptance.passes_too_far.Goals as goal

pub returns : goal.returns
returns c =
    let each = too_far_by_line c.args.snapshot.now c.args.certificate.now.lines in
    let v = c.args.certificate.now.version in
    let first : v ≡ 1 =
    first_version v c.well_formed-2.ensures.is_version (λ e. c.if-version-eq2.false (c.version.ensures ∙ e)) in (
      (λ t e. each.0 (c.every_line_passes.ensures.0 t)),
      (λ h. c.every_line_passes.ensures.1 (each.1 (h first))),
    )
