-- What those that are left lose, from what is read now, is what all lose.
use Rattle.std.proofs.Common.{◌≡◌, drop}
use Rattle.gptp_timeline.specs.Aside.{without_readings}
use Rattle.gptp_timeline.proofs.time_watch.lose_all.Given as goal

abbrev pub invariant-loop-clock : goal.invariant-loop-clock
invariant-loop-clock l = without_readings (drop l.clock-index l.clocks) l.systems
    ≡ without_readings l.clocks l.initial.systems
