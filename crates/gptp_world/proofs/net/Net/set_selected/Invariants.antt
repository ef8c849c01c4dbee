use Rattle.std.proofs.Common.{◌≡◌, ◌+◌, ◌-◌, ◌*◌, ◌≤◌, length, drop}
use Rattle.gptp_model.specs.Act.{set_timers}
use Rattle.gptp_world.specs.Net.{OnlyEntries}
use Rattle.gptp_world.specs.Timing.{selected_from}
use Rattle.gptp_world.proofs.net.Net.set_selected.Given as goal

-- those of the ports so far are set, and those that are left make the same of it as all of what there was
abbrev pub invariant-loop-port : goal.invariant-loop-port
invariant-loop-port l = record {
  within : l.port ≤ length l.station.system.ports;
  only : OnlyEntries (2 * l.port) l.initial.self l.self;
  entries : set_timers l.place l.station (selected_from (l.port + 1) (drop l.port l.station.system.ports))
      l.self.traffic.net.pending
      ≡ set_timers l.place l.station (selected_from 1 l.station.system.ports) l.initial.self.traffic.net.pending;
}

abbrev pub decreases-loop-port : goal.decreases-loop-port
decreases-loop-port l = length l.station.system.ports - l.port
