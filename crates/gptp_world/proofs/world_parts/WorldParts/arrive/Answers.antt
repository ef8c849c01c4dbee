use Rattle.std.proofs.Common.{refl}
use Rattle.gptp_world.proofs.PerformingLemmas.{arrived, may_hear}
use Rattle.gptp_world.proofs.world_parts.WorldParts.arrive.Goals as goal

pub deliver-at-requires-clause-hears : goal.deliver-at-requires-clause-hears
deliver-at-requires-clause-hears g c =
    may_hear c.args.self.now c.args.lane c.args.self.now.now c.requires.parts c.requires.wired c.requires.due

pub returns-clause-arrived : goal.returns-clause-arrived
returns-clause-arrived g c =
    arrived g.F.Fate.answers c.args.lane c.deliver-at.result.at c.deliver-at.result.answer
    c.deliver-at.result.frame.items _ c.args.fate.now c.deliver-at.new.fate c.args.self.now c.deliver-at.new.self
    c.requires.parts (refl, refl, refl, refl) c.deliver-at.ensures.delivered
