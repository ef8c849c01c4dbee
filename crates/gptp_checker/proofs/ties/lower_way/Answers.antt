use Rattle.std.proofs.Common.{ap, option_map, subst}
use Rattle.gptp_certificate_text.specs.Certificate.{line_of, parent_of}
use Rattle.gptp_checker.specs.LineTests.{AreNoLower}
use Rattle.gptp_checker.proofs.StatedLemmas.{same_parent}
use Rattle.gptp_checker.proofs.ties.lower_way.Goals as goal

pub returns-in_err-number-clause-none : goal.returns-in_err-number-clause-none
returns-in_err-number-clause-none c =
    let line = line_of c.args.line.now in
    let own = parent_of (c.in_ok-own_port.own_port, c.in_ok-own_port.parent) in
    rw c.from_residual-in_err-number.ensures (λ l parent.
    subst (AreNoLower c.args.snapshot.now c.args.certificate.now.lines line)
    (same_parent line.parent own l (ap (option_map parent_of) c.in_ok-own_port.was) parent)
    c.in_err-number.ensures.none)
