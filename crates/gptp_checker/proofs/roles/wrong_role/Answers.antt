use Rattle.std.proofs.Common.{refl, subst}
use Rattle.gptp_certificate_text.specs.Certificate.{line_of, port_line_of, role_of}
use Rattle.gptp_graph.specs.Labelling.{PortLine}
use Rattle.gptp_graph.specs.LocalTests.{HasStatedRole}
use Rattle.gptp_graph.proofs.RoleLemmas.{RoleBy-unique}
use Rattle.gptp_checker.proofs.LocatedLemmas.{first_port}
use Rattle.gptp_checker.proofs.PortLemmas.{all_ports, line_there, next_port, port_at, roles_agree, roles_differ, same_role}
use Rattle.gptp_checker.proofs.roles.wrong_role.Goals as goal

pub returns-then-ne : goal.returns-then-ne
returns-then-ne c =
    let line = line_of c.args.line.now in
    let has = HasStatedRole c.args.snapshot.now c.args.certificate.now.lines line in
    let P = λ (port : PortLine). has port.number port.role in
    let i = c.loop-port.port-index in
    let port = port_at c.deref-port-items.result.now i in
    record {
      some = (
        port_line_of port,
        refl,
        first_port P line i (port_line_of port) (c.requires.order.ports line c.requires.stated) c.loop-port.invariant
            (line_there P c.deref-port-items.result.now c.args.line.now.ports.items i c.deref-port-items.ensures.value
            c.loop-port-test.true)
            (λ h.
            roles_differ c.role_at.result port.1 c.if-ne.ensures
            (same_role c.role_at.result port.1
            (RoleBy-unique _ _ _ (role_of c.role_at.result) (role_of port.1) c.role_at.ensures h))),
      );
      none = tt;
    }

pub loop-port-preserved : goal.loop-port-preserved
loop-port-preserved c =
    let line = line_of c.args.line.now in
    let port = port_at c.deref-port-items.result.now c.loop-port.port-index in
    next_port _ c.deref-port-items.result.now c.args.line.now.ports.items c.loop-port.port-index
    c.deref-port-items.ensures.value c.loop-port-test.true c.loop-port.invariant
    (subst (λ role. HasStatedRole c.args.snapshot.now c.args.certificate.now.lines line port.0 (role_of role))
    (roles_agree c.role_at.result port.1 c.if-ne.ensures) c.role_at.ensures)

pub returns : goal.returns
returns c =
    let line = line_of c.args.line.now in
    let has = HasStatedRole c.args.snapshot.now c.args.certificate.now.lines line in
    let P = λ (port : PortLine). has port.number port.role in
    record {
      some = tt;
      none =
          all_ports P c.deref-port-items.result.now c.args.line.now.ports.items c.loop-port.port-index
          c.deref-port-items.ensures.value c.loop-port.invariant c.loop-port-test.false;
    }
