use Rattle.std.proofs.Common.{◌≡◌, arith, map, subst, sym}
use Rattle.gptp_certificate_text.specs.Certificate.{port_line_of}
use Rattle.gptp_choice.specs.Lines.{AreRoles}
use Rattle.gptp_choice.proofs.RoleLemmas.{no_roles, pushed_role}
use Rattle.gptp_choice.proofs.role.roles_of.Goals as goal

pub loop-index-init : goal.loop-index-init
loop-index-init c =
    subst (λ ports. AreRoles c.args.snapshot.now c.args.clock 0 (map port_line_of ports))
    (sym c.new-ports.ensures.items) (no_roles c.args.snapshot.now c.args.clock)

pub loop-index-preserved : goal.loop-index-preserved
loop-index-preserved c =
    let port_is = c.from-port.ensures in
    pushed_role c.args.snapshot.now c.args.clock c.loop-index.index c.loop-index.ports.items _ _ _
    c.loop-index.invariant c.in_ok-push.ensures.items (omega (arith, port_is)) c.role_of-role.ensures

pub returns : goal.returns
returns c =
    let end = c.loop-index.auto.index-end in let past = c.loop-index-test.false in
    let all : c.loop-index.index ≡ c.args.count = omega (arith, end, past) in
    subst (λ n. AreRoles c.args.snapshot.now c.args.clock n (map port_line_of c.loop-index.ports.items)) all
    c.loop-index.invariant
