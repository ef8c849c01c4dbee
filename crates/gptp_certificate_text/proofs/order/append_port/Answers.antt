use Rattle.gptp_certificate_text.specs.Certificate.{port_line_of}
use Rattle.gptp_certificate_text.specs.Entries.{PortEntry}
use Rattle.gptp_certificate_text.proofs.OrderLemmas.{both_ok, near_last, not_after, port_follows, port_put, weaker_err}
use Rattle.gptp_certificate_text.proofs.order.append_port.Goals as goal

pub add_port-requires : goal.add_port-requires
add_port-requires c =
    let item = c.in-Some.ensures.item in
    record { near = near_last c.args.lines.now c.in-Some.last.now item.0 item.1 c.requires.near }

pub returns-in-Some-clause-appended : goal.returns-in-Some-clause-appended
returns-in-Some-clause-appended c =
    let item = c.in-Some.ensures.item in
    both_ok _ _ _ c.add_port.result
    (λ grown follows. port_put c.args.lines.now c.in-Some.last.now c.add_port.new.line
    (PortEntry c.args.clock (port_line_of (c.args.number, c.args.role))) item.0 item.1 c.requires.stand grown follows)
    c.add_port.ensures.appended c.add_port.ensures.follows

pub returns-in-Some-clause-refused : goal.returns-in-Some-clause-refused
returns-in-Some-clause-refused c =
    let item = c.in-Some.ensures.item in
    weaker_err _ _ c.add_port.result (λ fault refused. not_after _ _ _ _ refused
    (port_follows c.args.lines.now c.in-Some.last.now
    (PortEntry c.args.clock (port_line_of (c.args.number, c.args.role))) item.0 item.1))
    c.add_port.ensures.refused
