use Rattle.std.proofs.Common.{refl}
use Rattle.std.proofs.lemmas.Option.{none-some}
use Rattle.gptp_world.proofs.ActTargetLemmas.{no_system, no_timer_at, timer_found}
use Rattle.gptp_world.proofs.world_parts.WorldParts.timer_at.Goals as goal

pub returns-in-true-clause-some : goal.returns-in-true-clause-some
returns-in-true-clause-some c = (
  timer_found c.args.self.now c.args.clock c.in-Some.place c.args.timer c.requires c.in-Some.ensures.some
      (λ station here. (c.in-true.ensures station here).0 refl),
  refl,
)

pub returns-in-false-clause-none : goal.returns-in-false-clause-none
returns-in-false-clause-none c =
    no_timer_at c.args.self.now c.args.clock c.in-Some.place c.args.timer c.requires c.well_formed-2.ensures
    c.in-Some.ensures.some
    (λ station here of. let told = (c.in-false.ensures station here).1 of in absurd cc)

pub returns-in-None-clause-none : goal.returns-in-None-clause-none
returns-in-None-clause-none c = λ at.
    no_system c.args.self.now c.args.clock c.requires
    (λ place there. none-some place (c.in-None.ensures.only place there))
    (record { place = at.place; station = at.station; is = at.is; so = tt })
