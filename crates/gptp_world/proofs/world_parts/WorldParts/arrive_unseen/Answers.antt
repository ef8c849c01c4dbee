use Rattle.std.proofs.Common.{refl}
use Rattle.gptp_model.specs.declared.done.Done.TheVariants.{Heard}
use Rattle.gptp_world.proofs.PerformingLemmas.{arrived, may_hear}
use Rattle.gptp_world.proofs.world_parts.WorldParts.arrive_unseen.Goals as goal

pub deliver-reached-requires-clause-hears : goal.deliver-reached-requires-clause-hears
deliver-reached-requires-clause-hears g c =
    may_hear c.args.self.now c.args.lane c.args.self.now.now c.requires.parts c.requires.wired c.requires.due

pub returns-clause-arrived : goal.returns-clause-arrived
returns-clause-arrived g c =
    let reached = c.deliver-reached.result in
    let told = Heard reached.at.clock reached.at.port reached.answer reached.frame in
    let one = arrived g.F.Fate.answers c.args.lane reached.at reached.answer reached.frame.items told c.args.fate.now
    c.deliver-reached.new.fate c.args.self.now c.deliver-reached.new.self c.requires.parts (refl, refl, refl, refl)
    c.deliver-reached.ensures.delivered in
    (told, record { draws = one.draws; drawn = one.drawn; acts = one.acts })
