use Rattle.std.proofs.Common.{◌≡◌, ◌+◌, ◌*◌, ◌<◌, length, ap, sym, ◌∙◌, subst, arith}
use Rattle.gptp_model.specs.Act.{set_timers}
use Rattle.gptp_world.specs.Net.{OnlyEntries}
use Rattle.gptp_model.specs.World.{timers_from}
use Rattle.gptp_world.proofs.TimingLemmas.{only_more, drop_here}
use Rattle.gptp_world.proofs.net.Net.set_timers.Goals as goal

pub loop-port-preserved : goal.loop-port-preserved
loop-port-preserved c =
    let i = c.loop-port.port in let ports = c.args.station.now.system.ports in
    let test = c.loop-port-test.true in let count = c.ports.ensures in
    let within : i < length ports = omega (arith, test, count) in
    let next : 4 * i + 4 ≡ 4 * (i + 1) = omega arith in
    let rest = drop_here i ports within in
    let e = c.set_port_timers.ensures in
    let entries = e.entries in
    let before = c.loop-port.invariant.entries in
    record {
      within = omega (arith, within);
      only = subst (λ n. OnlyEntries n c.args.self.now c.set_port_timers.new.self) next
          (only_more (4 * i) 4 c.args.self.now c.loop-port.self c.set_port_timers.new.self c.loop-port.invariant.only
          e.only);
      entries = rw entries
          (ap (λ qs. set_timers c.args.place c.args.station.now (timers_from (i + 1) qs)
          c.loop-port.self.traffic.net.pending) (sym rest.1) ∙ before);
    }

pub set_port_timers-requires-clause-room : goal.set_port_timers-requires-clause-room
set_port_timers-requires-clause-room c = λ live.
    let all = c.requires.room live in let so_far = c.loop-port.invariant.only.room in
    let test = c.loop-port-test.true in let count = c.ports.ensures in omega (arith, test, count)

pub set_timer-requires-clause-room : goal.set_timer-requires-clause-room
set_timer-requires-clause-room c = λ live.
    let all = c.requires.room live in let so_far = c.loop-port.invariant.only.room in
    let within = c.loop-port.invariant.within in omega arith

pub set_of_time-requires-clause-room : goal.set_of_time-requires-clause-room
set_of_time-requires-clause-room c = λ live.
    let all = c.requires.room live in let so_far = c.loop-port.invariant.only.room in
    let within = c.loop-port.invariant.within in let first = c.set_timer.ensures.only.room in omega arith
