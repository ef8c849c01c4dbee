use Rattle.std.proofs.Common.{◌≡◌, ◌+◌, ◌<◌, pos, suc, length, take, rules, ap, ◌∙◌, sym, arith, w8, SFits, to_z-of_z}
use Rattle.std.specs.Prelude.{get_or}
use Rattle.std.proofs.lemmas.List.{length-take}
use Rattle.gptp_system.proofs.StartLemmas.{length-new_ports, new_ports-more}
use Rattle.gptp_system.proofs.start.new_ports.Goals as goal

pub push-requires : goal.push-requires
push-requires c =
    let i = c.loop-log_interval.log_interval-index in
    let logs = c.args.intervals.now in
    let size = ap length c.loop-log_interval.invariant
    ∙ length-new_ports c.args.clock c.args.params.now 1 (take i logs) in
    (omega arith, omega (arith, size, length-take i logs, c.loop-log_interval-test.true, c.requires.few))

pub loop-log_interval-preserved : goal.loop-log_interval-preserved
loop-log_interval-preserved c =
    let i = c.loop-log_interval.log_interval-index in
    let logs = c.args.intervals.now in
    let within : i < length logs = c.loop-log_interval-test.true in
    let size = ap length c.loop-log_interval.invariant
    ∙ length-new_ports c.args.clock c.args.params.now 1 (take i logs) in
    let number : c.len.result + 1 ≡ 1 + i =
    omega (arith, size, length-take i logs, within, c.len.ensures.value) in
    let next : i + 1 ≡ suc i = omega arith in
    let fits : SFits w8 (get_or logs i (pos 0)) = search rules in
    rw (next, c.push.ensures.items, c.loop-log_interval.invariant, c.in_ok-new_port.ensures.new, number, to_z-of_z fits)
    (sym (new_ports-more c.args.clock c.args.params.now 1 i logs within))
