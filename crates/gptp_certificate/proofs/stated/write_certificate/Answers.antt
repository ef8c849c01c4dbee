use Rattle.std.proofs.Common.{sym, subst}
use Rattle.gptp_certificate_text.specs.Certificate.{lines_of}
use Rattle.gptp_certificate.specs.Settled.{IsRightInTime}
use Rattle.gptp_certificate.specs.Stated.{States}
use Rattle.gptp_certificate.proofs.SettledLemmas.{right_in_time, states_certificate}
use Rattle.gptp_certificate.proofs.stated.write_certificate.Goals as goal

pub of_lines-requires : goal.of_lines-requires
of_lines-requires g c = record {
  is = states_certificate c.args.world.now.world_core (lines_of c.mark_far.new.lines.items) c.in_ok-mark_far.ensures;
}

pub returns-clause-states : goal.returns-clause-states
returns-clause-states g c =
    subst (States c.args.world.now.world_core) (sym c.of_lines.ensures.lines) c.in_ok-mark_far.ensures

pub returns-clause-right : goal.returns-clause-right
returns-clause-right g c =
    subst (IsRightInTime c.args.world.now.world_core) (sym c.of_lines.ensures.lines)
    (right_in_time c.args.world.now.world_core (lines_of c.mark_far.new.lines.items) c.well_formed-2.ensures.claimed
    c.in_ok-mark_far.ensures)
