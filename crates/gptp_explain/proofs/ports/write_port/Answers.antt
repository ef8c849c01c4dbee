use Rattle.std.proofs.Common.{append_assoc, refl, ◌∙◌}
use Rattle.std.proofs.lemmas.Result.{on_ok_weaker}
use Rattle.gptp_certificate_text.specs.Certificate.{line_of, port_line_of, role_of}
use Rattle.gptp_graph.proofs.StatementLemmas.{near_with_port}
use Rattle.gptp_vector.specs.declared.port.PortId.{PortId}
use Rattle.gptp_explain.specs.Ports.{explained_port_line}
use Rattle.gptp_explain.proofs.TextLemmas.{one_role_text}
use Rattle.gptp_explain.proofs.ports.write_port.Goals as goal

-- the port is one of a settled line
pub why_of-why-requires-clause-line : goal.why_of-why-requires-clause-line
why_of-why-requires-clause-line c =
    let line = line_of c.args.line.now in
    let settled = c.requires.choice.settled line c.requires.stated in record {
      settled = settled;
      near = near_with_port c.args.snapshot.now c.args.choice.now.lines line (port_line_of c.args.port)
          c.requires.choice.systems c.requires.stated c.requires.port;
      clock = refl;
      role = settled.roles (port_line_of c.args.port) c.requires.port;
    }

pub returns : goal.returns
returns c =
    let line = line_of c.args.line.now in
    let p : PortId = record { clock = line.clock; port = c.args.port.0 } in
    let role = role_of c.args.port.1 in
    on_ok_weaker c.writeln.result (λ bytes. (
      explained_port_line p role c.why_of-why.result,
      record {
        role = role;
        settled = (c.requires.choice.settled line c.requires.stated).roles (port_line_of c.args.port) c.requires.port;
        why = c.why_of-why.result;
        has = c.why_of-why.ensures;
        is = refl;
      },
      bytes ∙ simp (append_assoc, one_role_text c.args.port.1),
    )) c.writeln.ensures.bytes
