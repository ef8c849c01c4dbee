use Rattle.std.proofs.Common.{slice_get, refl, ap, ◌∙◌}
use Rattle.gptp_model.specs.declared.station.Station.{Station}
use Rattle.gptp_model.specs.Changing.{fresh}
use Rattle.gptp_world.proofs.StartingLemmas.{ports_room, renewed_room, renewed_stage, renewed_timers, stands_there, started, timers_stage}
use Rattle.gptp_world.proofs.world_parts.WorldParts.start.Goals as goal

pub set_timers-requires : goal.set_timers-requires
set_timers-requires g c =
    let can = c.requires.can in
    renewed_timers c.args.self.now c.restart.new.self c.args.place can c.requires.parts c.requires.room
    (c.restart.ensures can.station can.here)

pub bring_ports_up-requires-clause-parts : goal.bring_ports_up-requires-clause-parts
bring_ports_up-requires-clause-parts g c =
    let can = c.requires.can in
    timers_stage c.restart.new.self c.set_timers.new.self c.args.place
    (renewed_stage c.args.self.now c.restart.new.self c.args.place can c.requires.parts
    (c.restart.ensures can.station can.here))
    c.set_timers.ensures

pub bring_ports_up-requires-clause-live : goal.bring_ports_up-requires-clause-live
bring_ports_up-requires-clause-live g c =
    let can = c.requires.can in let new : Station = fresh c.args.self.now.now can.station in
    let there = stands_there c.args.self.now c.restart.new.self c.args.place can.station new can.here
    (c.restart.ensures can.station can.here) in
    record {
      station = new;
      here = ap (λ xs. slice_get xs.items c.args.place) c.set_timers.ensures.stations ∙ there;
      live = refl;
    }

pub bring_ports_up-requires-clause-room : goal.bring_ports_up-requires-clause-room
bring_ports_up-requires-clause-room g c =
    let can = c.requires.can in let new : Station = fresh c.args.self.now.now can.station in
    let by = c.restart.ensures can.station can.here in
    ports_room c.args.place c.restart.new.self c.set_timers.new.self new
    (stands_there c.args.self.now c.restart.new.self c.args.place can.station new can.here by)
    (renewed_room c.args.self.now c.restart.new.self c.args.place can c.requires.room by) c.set_timers.ensures

pub returns-clause-started : goal.returns-clause-started
returns-clause-started g c =
    let can = c.requires.can in let new : Station = fresh c.args.self.now.now can.station in
    let by = c.restart.ensures can.station can.here in
    let there = stands_there c.args.self.now c.restart.new.self c.args.place can.station new can.here by in
    started g.F.Fate.answers c.args.fate.now c.bring_ports_up.new.fate c.args.self.now c.restart.new.self
    c.set_timers.new.self
    c.bring_ports_up.new.self c.args.place can.station can.here by c.set_timers.ensures
    (c.bring_ports_up.ensures.came new (ap (λ xs. slice_get xs.items c.args.place) c.set_timers.ensures.stations
    ∙ there))
