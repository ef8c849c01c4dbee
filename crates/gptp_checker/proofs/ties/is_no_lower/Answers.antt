use Rattle.std.proofs.Common.{◌≡◌, Some, None, refl, arith}
use Rattle.gptp_certificate_text.specs.Certificate.{line_of, parent_of}
use Rattle.gptp_network.specs.Snapshot.{port_identity}
use Rattle.gptp_checker.proofs.StatedLemmas.{no_lower_by, no_lower_elsewhere, not_by}
use Rattle.gptp_checker.proofs.ties.is_no_lower.Goals as goal

pub returns-in_default-steps_of : goal.returns-in_default-steps_of
returns-in_default-steps_of c = (
  (λ t. no_lower_elsewhere c.args.snapshot.now c.args.certificate.now.lines (line_of c.args.line.now) c.args.number
      (port_identity c.in-Some.other) c.well_formed-2.ensures.network c.in-Some.ensures.some
      (parent_of (c.args.own_port, c.args.parent.now)) None c.in_default-steps_of.ensures.only (λ d e less. absurd cc)),
  (λ h. refl),
)

pub returns-then-from : goal.returns-then-from
returns-then-from c = (
  (λ t. no_lower_elsewhere c.args.snapshot.now c.args.certificate.now.lines (line_of c.args.line.now) c.args.number
      (port_identity c.in-Some.other) c.well_formed-2.ensures.network c.in-Some.ensures.some
      (parent_of (c.args.own_port, c.args.parent.now)) (Some c.in-Some-steps_of.steps) c.in-Some-steps_of.ensures.only
      (λ d e less. let same : c.in-Some-steps_of.steps ≡ d = cc in c.if-from.true (omega arith))),
  (λ h. refl),
)

pub returns : goal.returns
returns c =
    no_lower_by c.args.snapshot.now c.args.certificate.now.lines (line_of c.args.line.now) c.args.number
    (port_identity c.in-Some.other) c.well_formed-2.ensures.network c.in-Some.ensures.some
    (parent_of (c.args.own_port, c.args.parent.now)) c.in-Some-steps_of.steps _ c.in-Some-steps_of.ensures.some
    c.in-Some-steps_of.ensures.only (omega arith) (not_by c.is_lower.result c.is_lower.ensures)
