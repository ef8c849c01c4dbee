use Rattle.std.proofs.Common.{sym, subst, ◌∙◌, arith}
use Rattle.std.proofs.lemmas.Option.{same_Some}
use Rattle.gptp_system.specs.Steps.{IsDue}
use Rattle.gptp_model.specs.declared.station.Station.{Station}
use Rattle.gptp_world.specs.WorldParts.{world_of}
use Rattle.gptp_world.proofs.ExpiringLemmas.{expired, known_timer}
use Rattle.gptp_model.proofs.NextDueLemmas.{runs_out}
use Rattle.gptp_world.proofs.WorldPartsLemmas.{room_kept}
use Rattle.gptp_world.proofs.TellingLemmas.{net_changes}
use Rattle.gptp_world.proofs.TimingLemmas.{set_for_timer}
use Rattle.gptp_world.proofs.world_parts.WorldParts.run_out.Goals as goal

pub take_timer-requires-clause-known : goal.take_timer-requires-clause-known
take_timer-requires-clause-known g c =
    known_timer c.args.self.now c.args.place c.args.timer c.requires.parts c.requires.due

pub step_system-requires-clause-parts : goal.step_system-requires-clause-parts
step_system-requires-clause-parts g c =
    let e = c.take_timer.ensures in net_changes c.args.self.now c.take_timer.new.self c.requires.parts e.net e.uses

pub step_system-requires-clause-live : goal.step_system-requires-clause-live
step_system-requires-clause-live g c =
    let due = c.requires.due in
    let runs = runs_out c.args.place c.args.timer c.args.self.now.now (world_of c.args.self.now) due.station due.here
    due.due in
    record { station = runs.station; here = runs.here; live = runs.live }

pub step_system-requires-clause-timely : goal.step_system-requires-clause-timely
step_system-requires-clause-timely g c = λ station here.
    let due = c.requires.due in let timer = c.args.timer in let now = c.args.self.now.now in
    let runs = runs_out c.args.place timer now (world_of c.args.self.now) due.station due.here due.due in
    let own : IsDue runs.station.system timer now = rw runs.due_now (omega arith) in
    subst (λ (x : Station). IsDue x.system timer now) (same_Some runs.station station (sym runs.here ∙ here)) own

pub step_system-requires-clause-set : goal.step_system-requires-clause-set
step_system-requires-clause-set g c =
    set_for_timer c.args.self.now c.take_timer.new.self c.args.place c.args.timer c.requires.agrees
    c.take_timer.ensures.taken

pub step_system-requires-clause-room : goal.step_system-requires-clause-room
step_system-requires-clause-room g c =
    room_kept c.args.place c.args.self.now c.take_timer.new.self c.take_timer.ensures.uses c.requires.room

pub returns-clause-expired : goal.returns-clause-expired
returns-clause-expired g c =
    expired g.F.Fate.answers c.args.place c.args.timer c.args.fate.now c.step_system.new.fate c.args.self.now
    c.take_timer.new.self c.step_system.new.self c.requires.due c.take_timer.ensures.taken c.step_system.result
    c.step_system.ensures.called
