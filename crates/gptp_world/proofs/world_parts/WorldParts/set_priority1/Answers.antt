use Rattle.std.proofs.Common.{◌≡◌, false, refl, ap, sym, ◌∙◌}
use Rattle.std.proofs.lemmas.Option.{slice_get_within}
use Rattle.gptp_model.specs.declared.station.Station.{Station}
use Rattle.gptp_model.specs.Changing.{with_setup}
use Rattle.gptp_lists.proofs.PlaceLemmas.{read}
use Rattle.gptp_world.proofs.StartingLemmas.{prepared_room, replaced_stage, stands_there, told, untold}
use Rattle.gptp_world.proofs.world_parts.WorldParts.set_priority1.Goals as goal

pub index-requires : goal.index-requires
index-requires g c =
    let old = c.requires.room.station in let here = c.requires.room.here in let left = c.prepare_priority1.new.self in
    let new = with_setup c.args.value old in let count = left.stations.ok.0 in
    rw count (slice_get_within left.stations.items c.args.place new
    (stands_there c.args.self.now left c.args.place old new here (c.prepare_priority1.ensures old here)))

pub step_system-requires-clause-parts : goal.step_system-requires-clause-parts
step_system-requires-clause-parts g c =
    let old = c.requires.room.station in let here = c.requires.room.here in
    replaced_stage c.args.self.now _ c.args.place old (with_setup c.args.value old) c.requires.parts here refl refl
    (c.prepare_priority1.ensures old here)

pub step_system-requires-clause-live : goal.step_system-requires-clause-live
step_system-requires-clause-live g c =
    let old = c.requires.room.station in let here = c.requires.room.here in let left = c.prepare_priority1.new.self in
    let new = with_setup c.args.value old in
    let there = stands_there c.args.self.now left c.args.place old new here (c.prepare_priority1.ensures old here) in
    let is : c.index.result.now ≡ new = c.index.ensures ∙ read left.stations.items c.args.place new _ there in
    record { station = new; here = there; live = ap (λ (s : Station). s.live) (sym is) ∙ c.if-index.true }

pub step_system-requires-clause-room : goal.step_system-requires-clause-room
step_system-requires-clause-room g c =
    let old = c.requires.room.station in let here = c.requires.room.here in
    prepared_room c.args.self.now _ c.args.place c.args.value c.requires.room (c.prepare_priority1.ensures old here)

pub step_system-requires-clause-timely : goal.step_system-requires-clause-timely
step_system-requires-clause-timely g c = λ station here. tt

pub step_system-requires-clause-set : goal.step_system-requires-clause-set
step_system-requires-clause-set g c = λ station here timer off. absurd cc

pub returns-then-index-clause-prioritized : goal.returns-then-index-clause-prioritized
returns-then-index-clause-prioritized g c =
    let old = c.requires.room.station in let here = c.requires.room.here in
    told g.F.Fate.answers c.args.fate.now c.step_system.new.fate c.args.self.now c.prepare_priority1.new.self
    c.step_system.new.self
    c.args.place c.args.value old here (c.prepare_priority1.ensures old here) c.step_system.result
    c.step_system.ensures.called

pub returns-else-index-clause-parts : goal.returns-else-index-clause-parts
returns-else-index-clause-parts g c =
    let old = c.requires.room.station in let here = c.requires.room.here in
    replaced_stage c.args.self.now _ c.args.place old (with_setup c.args.value old) c.requires.parts here refl refl
    (c.prepare_priority1.ensures old here)

pub returns-else-index-clause-prioritized : goal.returns-else-index-clause-prioritized
returns-else-index-clause-prioritized g c =
    let old = c.requires.room.station in let here = c.requires.room.here in let left = c.prepare_priority1.new.self in
    let new = with_setup c.args.value old in
    let there = stands_there c.args.self.now left c.args.place old new here (c.prepare_priority1.ensures old here) in
    let is : c.index.result.now ≡ new = c.index.ensures ∙ read left.stations.items c.args.place new _ there in
    let failed : new.live ≡ false = ap (λ (s : Station). s.live) (sym is) ∙ c.if-index.false in
    untold g.F.Fate.answers c.args.fate.now c.args.self.now left c.args.place c.args.value old here
    (c.prepare_priority1.ensures old here)
    failed
