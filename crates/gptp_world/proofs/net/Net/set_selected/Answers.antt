use Rattle.std.proofs.Common.{◌≡◌, ◌+◌, ◌*◌, ◌<◌, length, ap, sym, ◌∙◌, subst, arith}
use Rattle.gptp_model.specs.Act.{set_timers}
use Rattle.gptp_world.specs.Net.{OnlyEntries}
use Rattle.gptp_world.specs.Timing.{selected_from}
use Rattle.gptp_world.proofs.TimingLemmas.{only_more, drop_here}
use Rattle.gptp_world.proofs.net.Net.set_selected.Goals as goal

pub loop-port-preserved : goal.loop-port-preserved
loop-port-preserved c =
    let i = c.loop-port.port in let ports = c.args.station.now.system.ports in
    let test = c.loop-port-test.true in let count = c.ports.ensures in
    let within : i < length ports = omega (arith, test, count) in
    let next : 2 * i + 2 ≡ 2 * (i + 1) = omega arith in
    let rest = drop_here i ports within in
    let e = c.set_selected_at.ensures in
    let entries = e.entries in
    let before = c.loop-port.invariant in
    record {
      within = omega (arith, within);
      only = subst (λ n. OnlyEntries n c.args.self.now c.set_selected_at.new.self) next
          (only_more (2 * i) 2 c.args.self.now c.loop-port.self c.set_selected_at.new.self before.only e.only);
      entries = rw entries
          (ap (λ qs. set_timers c.args.place c.args.station.now (selected_from (i + 1) qs)
          c.loop-port.self.traffic.net.pending)
          (sym rest.1)
          ∙ before.entries);
    }
