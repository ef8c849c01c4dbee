use Rattle.std.proofs.Common.{sym, subst}
use Rattle.gptp_model.specs.Pending.{IsNext}
use Rattle.gptp_model.specs.Views.{IsActOf}
use Rattle.gptp_world.specs.ActTarget.{aim_of}
use Rattle.gptp_world.specs.Performing.{HasRoomForTarget, IsDone}
use Rattle.gptp_world.specs.WorldParts.{world_of}
use Rattle.gptp_world.proofs.UnseenLemmas.{frame_due, timer_due, timer_done}
use Rattle.gptp_world.proofs.world_parts.WorldParts.pass.Goals as goal

pub run_out-requires-clause-due : goal.run_out-requires-clause-due
run_out-requires-clause-due g c =
    let parts = c.args.self.now in let out = c.in-Expiry in
    rw c.from.ensures (timer_due out.place out.timer parts.now (world_of parts) c.requires.sound
    (subst (IsNext (world_of parts).net.pending parts.now) out.is c.requires.next))

pub run_out-requires-clause-room : goal.run_out-requires-clause-room
run_out-requires-clause-room g c =
    rw c.from.ensures (subst (λ item. HasRoomForTarget (aim_of item) c.args.self.now) c.in-Expiry.is c.requires.room)

pub arrive_unseen-requires-clause-due : goal.arrive_unseen-requires-clause-due
arrive_unseen-requires-clause-due g c =
    let parts = c.args.self.now in let comes = c.in-Arrival in
    rw c.from-in-Arrival.ensures (frame_due comes.link comes.direction parts.now (world_of parts) c.requires.sound
    (subst (IsNext (world_of parts).net.pending parts.now) comes.is c.requires.next))

pub arrive_unseen-requires-clause-room : goal.arrive_unseen-requires-clause-room
arrive_unseen-requires-clause-room g c =
    rw c.from-in-Arrival.ensures
    (subst (λ item. HasRoomForTarget (aim_of item) c.args.self.now) c.in-Arrival.is c.requires.room)

pub returns-in-Expiry-clause-done : goal.returns-in-Expiry-clause-done
returns-in-Expiry-clause-done g c = λ act is.
    let parts = c.args.self.now in let out = c.in-Expiry in
    timer_done g.F.Fate.answers out.place out.timer act c.args.fate.now c.run_out.new.fate parts c.run_out.new.self
    (subst (λ item. IsActOf item (world_of parts) act) out.is is) (rw c.from.ensures at c.run_out.ensures.expired)

pub returns-in-Arrival-clause-done : goal.returns-in-Arrival-clause-done
returns-in-Arrival-clause-done g c = λ act is.
    let parts = c.args.self.now in
    let same = subst (λ item. IsActOf item (world_of parts) act) c.in-Arrival.is is in
    subst (λ a. IsDone g.F.Fate.answers a c.args.fate.now c.arrive_unseen.new.fate parts c.arrive_unseen.new.self)
    (sym same) (rw c.from-in-Arrival.ensures at c.arrive_unseen.ensures.arrived)
