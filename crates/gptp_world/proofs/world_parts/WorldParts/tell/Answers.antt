use Rattle.gptp_system.specs.Input.{given}
use Rattle.gptp_world.specs.Room.{for_call}
use Rattle.gptp_world.specs.Telling.{link_input}
use Rattle.gptp_world.proofs.NeedLemmas.{unsent}
use Rattle.gptp_world.proofs.TellingLemmas.{link_set, link_timely, not_told, one_told}
use Rattle.gptp_world.proofs.world_parts.WorldParts.tell.Goals as goal

pub step_system-requires-clause-timely : goal.step_system-requires-clause-timely
step_system-requires-clause-timely g c =
    rw c.link_input.ensures (link_timely c.args.up c.args.place c.args.port c.args.self.now c.requires.port)

pub step_system-requires-clause-set : goal.step_system-requires-clause-set
step_system-requires-clause-set g c =
    rw c.link_input.ensures (link_set c.args.up c.args.place c.args.port c.args.self.now)

pub returns-then-index-clause-told : goal.returns-then-index-clause-told
returns-then-index-clause-told g c =
    rw (← c.link_input.ensures)
    (one_told g.F.Fate.answers c.args.place (given c.link_input.result) c.step_system.result c.args.fate.now
    c.step_system.new.fate
    c.args.self.now c.step_system.new.self c.step_system.ensures.called)

pub returns-else-index-clause-told : goal.returns-else-index-clause-told
returns-else-index-clause-told g c =
    let own = c.requires.port in
    not_told g.F.Fate.answers c.args.place (link_input c.args.up c.args.port) c.args.fate.now c.args.self.now
    c.index.result.now own.station own.here c.index.ensures c.if-index.false

pub returns-else-index-clause-uses : goal.returns-else-index-clause-uses
returns-else-index-clause-uses g c = λ station here. unsent (for_call station.system) c.args.self.now.net
