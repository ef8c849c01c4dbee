use Rattle.std.proofs.Common.{true, sym, ◌∙◌}
use Rattle.gptp_world.specs.Room.{for_call}
use Rattle.gptp_world.proofs.ComingUpLemmas.{linked, none_up, one_came}
use Rattle.gptp_world.proofs.NeedLemmas.{unsent}
use Rattle.gptp_world.proofs.TellingLemmas.{link_set, link_timely}
use Rattle.gptp_world.proofs.world_parts.WorldParts.port_up_if_linked.Goals as goal

pub step_system-requires-clause-timely : goal.step_system-requires-clause-timely
step_system-requires-clause-timely g c = link_timely true c.args.place c.args.port c.args.self.now c.requires.port

pub step_system-requires-clause-set : goal.step_system-requires-clause-set
step_system-requires-clause-set g c = link_set true c.args.place c.args.port c.args.self.now

pub returns-then-is_some-clause-came : goal.returns-then-is_some-clause-came
returns-then-is_some-clause-came g c =
    let parts = c.args.self.now in let one = c.requires.port.station in let here = c.requires.port.here in
    let up = linked parts c.args.place c.args.port one c.up_lane.result c.requires.parts here c.up_lane.ensures.some
    c.up_lane.ensures.none ∙ (sym c.is_some.ensures ∙ c.if-is_some.true) in
    one_came g.F.Fate.answers c.args.place c.args.port c.args.fate.now c.step_system.new.fate parts
    c.step_system.new.self one
    here up c.step_system.result c.step_system.ensures.called

pub returns-else-is_some-clause-uses : goal.returns-else-is_some-clause-uses
returns-else-is_some-clause-uses g c = λ station here. unsent (for_call station.system) c.args.self.now.net

pub returns-else-is_some-clause-came : goal.returns-else-is_some-clause-came
returns-else-is_some-clause-came g c =
    let parts = c.args.self.now in let one = c.requires.port.station in let here = c.requires.port.here in
    let down = linked parts c.args.place c.args.port one c.up_lane.result c.requires.parts here c.up_lane.ensures.some
    c.up_lane.ensures.none ∙ (sym c.is_some.ensures ∙ c.if-is_some.false) in
    none_up g.F.Fate.answers c.args.place c.args.port c.args.fate.now parts one here down
