use Rattle.std.proofs.Common.{refl}
use Rattle.gptp_certificate_text.specs.Certificate.{line_of, parent_of, port_line_of}
use Rattle.gptp_graph.specs.Labelling.{PortLine}
use Rattle.gptp_checker.specs.LineTests.{IsNoLower}
use Rattle.gptp_checker.proofs.LocatedLemmas.{first_port}
use Rattle.gptp_checker.proofs.PortLemmas.{all_ports, line_there, next_port, port_at}
use Rattle.gptp_checker.proofs.ties.first_lower.Goals as goal

pub returns-then-not-is_no_lower : goal.returns-then-not-is_no_lower
returns-then-not-is_no_lower c =
    let line = line_of c.args.line.now in
    let parent = parent_of (c.args.own_port, c.args.parent) in
    let P = λ (port : PortLine). IsNoLower c.args.snapshot.now c.args.certificate.now.lines line parent port.number in
    let i = c.loop-port.port-index in
    let port = port_line_of (port_at c.deref-port-items.result.now i) in
    record {
      some = (
        port,
        refl,
        first_port P line i port (c.requires.order.ports line c.requires.stated) c.loop-port.invariant
            (line_there P c.deref-port-items.result.now c.args.line.now.ports.items i c.deref-port-items.ensures.value
            c.loop-port-test.true)
            (λ h. let t = c.if-not-is_no_lower.ensures.1 h in absurd cc),
      );
      none = tt;
    }

pub loop-port-preserved : goal.loop-port-preserved
loop-port-preserved c =
    next_port _ c.deref-port-items.result.now c.args.line.now.ports.items c.loop-port.port-index
    c.deref-port-items.ensures.value c.loop-port-test.true c.loop-port.invariant
    (c.if-not-is_no_lower.ensures.0 refl)

pub returns : goal.returns
returns c =
    let line = line_of c.args.line.now in
    let parent = parent_of (c.args.own_port, c.args.parent) in
    let P = λ (port : PortLine). IsNoLower c.args.snapshot.now c.args.certificate.now.lines line parent port.number in
    record {
      some = tt;
      none =
          all_ports P c.deref-port-items.result.now c.args.line.now.ports.items c.loop-port.port-index
          c.deref-port-items.ensures.value c.loop-port.invariant c.loop-port-test.false;
    }
