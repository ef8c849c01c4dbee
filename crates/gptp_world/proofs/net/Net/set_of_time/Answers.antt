use Rattle.std.proofs.Common.{arith}
use Rattle.gptp_world.proofs.net.Net.set_of_time.Goals as goal

pub set_timer-requires-clause-room : goal.set_timer-requires-clause-room
set_timer-requires-clause-room c = λ live. let all = c.requires.room live in omega arith

pub set_timer-requires-2-clause-room : goal.set_timer-requires-2-clause-room
set_timer-requires-2-clause-room c = λ live.
    let all = c.requires.room live in let first = c.set_timer.ensures.only.room in omega arith
