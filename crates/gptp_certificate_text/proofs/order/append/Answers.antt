use Rattle.std.proofs.Common.{ap}
use Rattle.gptp_certificate_text.specs.Certificate.{port_line_of}
use Rattle.gptp_certificate_text.specs.Lines.{entry_of}
use Rattle.gptp_certificate_text.proofs.order.append.Goals as goal

pub append_port-requires-clause-near : goal.append_port-requires-clause-near
append_port-requires-clause-near c =
    let near = c.requires.near c.in-Port.clock (port_line_of (c.in-Port.number, c.in-Port.role))
    (ap entry_of c.in-Port.is) in
    rw c.as_mut_slice.ensures.value near
