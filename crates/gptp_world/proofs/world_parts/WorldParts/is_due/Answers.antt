use Rattle.std.proofs.Common.{subst}
use Rattle.gptp_world.specs.ActTarget.{IsTargetOf}
use Rattle.gptp_world.specs.WorldParts.{world_of}
use Rattle.gptp_world.proofs.CheckLemmas.{arrival_due, timer_due}
use Rattle.gptp_world.proofs.world_parts.WorldParts.is_due.Goals as goal

pub returns-in-Arrival : goal.returns-in-Arrival
returns-in-Arrival c =
    arrival_due c.args.act.now c.args.time (world_of c.args.self.now) c.in-Arrival.lane c.is_frame_due.result
    (subst (IsTargetOf c.args.act.now (world_of c.args.self.now)) c.in-Arrival.is c.requires.target)
    c.is_frame_due.ensures

pub returns-in-Timer : goal.returns-in-Timer
returns-in-Timer c =
    timer_due c.args.act.now c.args.time c.args.self.now c.in-Timer.place c.in-Timer.timer c.is_timer_due.result
    c.requires.parts
    c.well_formed-2.ensures (subst (IsTargetOf c.args.act.now (world_of c.args.self.now)) c.in-Timer.is
    c.requires.target)
    c.is_timer_due.ensures
