use Rattle.std.proofs.Common.{◌≤◌, arith}
use Rattle.std.proofs.lemmas.Grind.{common_steps}
use Rattle.gptp_pdelay.proofs.ClockLemmas.{clock_shows_time}
use Rattle.gptp_system.proofs.clock.local_clock.Goals as goal

pub returns-clause-time : goal.returns-clause-time
returns-clause-time c = grind (arith, common_steps)

-- within these limits a clock shows a time
pub returns-clause-shown : goal.returns-clause-shown
returns-clause-shown c =
    let early : c.args.t ≤ 1000000000000000000 = omega (arith, c.requires.moment) in
    rw (returns-clause-time c)
    (clock_shows_time c.args.phase c.args.drift c.args.t c.requires.phase early c.requires.drift)
