use Rattle.std.proofs.Common.{false, refl}
use Rattle.gptp_model.specs.declared.station.Station.{Station}
use Rattle.gptp_lists.proofs.PlaceLemmas.{member_there}
use Rattle.gptp_world.proofs.StartingLemmas.{can_set_timers, replaced_stage, replaced_world, stands_there, timers_stage}
use Rattle.gptp_world.proofs.world_parts.WorldParts.fail.Goals as goal

pub set_timers-requires : goal.set_timers-requires
set_timers-requires c =
    let parts = c.args.self.now in let left = c.mark_failed.new.self in
    let (old, here) = member_there parts.stations.items c.args.place c.requires.place in
    let new : Station = record old { live = false } in
    let by = c.mark_failed.ensures old here in
    can_set_timers left c.args.place new (replaced_stage parts left c.args.place old new c.requires.parts here refl refl
    by)
    (stands_there parts left c.args.place old new here by) (λ live. absurd cc)

pub returns-clause-parts : goal.returns-clause-parts
returns-clause-parts c =
    let parts = c.args.self.now in let left = c.mark_failed.new.self in
    let (old, here) = member_there parts.stations.items c.args.place c.requires.place in
    let new : Station = record old { live = false } in
    timers_stage left c.set_timers.new.self c.args.place
    (replaced_stage parts left c.args.place old new c.requires.parts here refl refl (c.mark_failed.ensures old here))
    c.set_timers.ensures

pub returns-clause-failed : goal.returns-clause-failed
returns-clause-failed c = λ station here.
    let new : Station = record station { live = false } in
    replaced_world c.args.self.now c.mark_failed.new.self c.set_timers.new.self c.args.place station new here
    (c.mark_failed.ensures station here)
    c.set_timers.ensures
