use Rattle.gptp_world.proofs.TimingLemmas.{room_if_live}
use Rattle.gptp_world.proofs.net.Net.set_timer.Goals as goal

pub set_due-requires-clause-room : goal.set_due-requires-clause-room
set_due-requires-clause-room c =
    room_if_live c.args.timer c.args.station.now c.due_of.result c.args.self.now.traffic.room c.due_of.ensures
    c.requires.room
