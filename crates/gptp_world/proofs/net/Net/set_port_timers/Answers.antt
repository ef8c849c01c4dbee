use Rattle.std.proofs.Common.{arith}
use Rattle.gptp_world.proofs.net.Net.set_port_timers.Goals as goal

pub set_timer-requires-clause-room : goal.set_timer-requires-clause-room
set_timer-requires-clause-room c = λ live. let all = c.requires.room live in omega arith

pub set_timer-requires-2-clause-room : goal.set_timer-requires-2-clause-room
set_timer-requires-2-clause-room c = λ live.
    let all = c.requires.room live in let first = c.set_timer.ensures.only.room in omega arith

pub set_timer-requires-3-clause-room : goal.set_timer-requires-3-clause-room
set_timer-requires-3-clause-room c = λ live.
    let all = c.requires.room live in let first = c.set_timer.ensures.only.room in
    let second = c.set_timer-2.ensures.only.room in omega arith

pub set_timer-requires-4-clause-room : goal.set_timer-requires-4-clause-room
set_timer-requires-4-clause-room c = λ live.
    let all = c.requires.room live in let first = c.set_timer.ensures.only.room in
    let second = c.set_timer-2.ensures.only.room in let third = c.set_timer-3.ensures.only.room in omega arith
