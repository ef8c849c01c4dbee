use Rattle.std.proofs.Common.{◌≡◌, ◌+◌, ◌-◌, length, arith}
use Rattle.std.proofs.lemmas.Grind.{common_steps}
use Rattle.gptp_report.specs.SystemLines.{port_line}
use Rattle.gptp_report.proofs.LineLemmas.{next_line}
use Rattle.gptp_report.proofs.system_lines.write_ports.Goals as goal

pub loop-port-preserved : goal.loop-port-preserved
loop-port-preserved c =
    let port = c.loop-port.port in
    let count : port + 1 - 1 ≡ port = omega arith in
    let line = port_line c.args.clock c.args.system.now in
    let text = next_line line _ _ _ port c.loop-port.auto.port c.loop-port.invariant.1 c.in_ok-write_port.ensures in
    (grind (arith, common_steps), rw count text)

-- there is no port
pub returns : goal.returns
returns c =
    let none : length c.args.system.now.ports ≡ c.loop-port.port - 1 = grind (arith, common_steps) in
    rw none c.loop-port.invariant.1

-- after the last port
pub returns-in_ok-write_port : goal.returns-in_ok-write_port
returns-in_ok-write_port c =
    let port = c.loop-port.port in
    let last : length c.args.system.now.ports ≡ port = grind (arith, common_steps) in
    let line = port_line c.args.clock c.args.system.now in
    rw last (next_line line _ _ _ port c.loop-port.auto.port c.loop-port.invariant.1 c.in_ok-write_port.ensures)
