use Rattle.std.proofs.Common.{Some, sym, ap, ◌∙◌}
use Rattle.gptp_timeline.proofs.PortLemmas.{no_port, port_there}
use Rattle.gptp_timeline.proofs.ports.port_of.Goals as goal

pub returns-in-true : goal.returns-in-true
returns-in-true c =
    ap Some c.shown_port.ensures
    ∙ sym (port_there c.args.system.now c.args.port (c.has_port.ensures.yes c.in-true.is))

pub returns-in-false : goal.returns-in-false
returns-in-false c = sym (no_port c.args.system.now c.args.port (c.has_port.ensures.no c.in-false.is))
