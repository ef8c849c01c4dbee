use Rattle.std.proofs.Common.{◌≡◌, refl, ◌∙◌}
use Rattle.gptp_system.specs.Input.{given}
use Rattle.gptp_lists.proofs.PlaceLemmas.{read}
use Rattle.gptp_world.proofs.WorldPartsLemmas.{carries, stepped}
use Rattle.gptp_world.proofs.TimingLemmas.{has_touched}
use Rattle.gptp_world.proofs.world_parts.WorldParts.step_system.Goals as goal

pub step-answer-requires-clause-timely : goal.step-answer-requires-clause-timely
step-answer-requires-clause-timely g c =
    let live = c.requires.live in let one = c.index_mut.result.now in
    let is : one ≡ live.station = c.index_mut.ensures.value
    ∙ read c.args.self.now.stations.items c.args.place live.station one live.here in
    rw is (c.requires.timely live.station live.here)

pub carry_out-requires-clause-carries : goal.carry_out-requires-clause-carries
carry_out-requires-clause-carries g c =
    carries c.args.self.now _ c.args.place (given c.args.input) c.step-answer.result.answer c.requires.parts
    c.requires.room
    (stepped c.args.self.now _ c.args.place (given c.args.input) c.step-answer.result.answer c.index_mut.result.now
    c.step-answer.new.self c.requires.live c.index_mut.ensures.value c.step-answer.ensures.steps refl refl refl refl)
    c.requires.timely

pub carry_out-requires-clause-touched : goal.carry_out-requires-clause-touched
unfolding stepped
carry_out-requires-clause-touched g c =
    has_touched c.args.self.now _ c.args.place (given c.args.input) c.step-answer.result.answer
    c.step-answer.result.touched
    (stepped c.args.self.now _ c.args.place (given c.args.input) c.step-answer.result.answer c.index_mut.result.now
    c.step-answer.new.self c.requires.live c.index_mut.ensures.value c.step-answer.ensures.steps refl refl refl refl)
    c.requires.set c.step-answer.ensures.touches

pub returns-clause-parts : goal.returns-clause-parts
returns-clause-parts g c =
    c.carry_out.ensures.parts c.args.self.now (given c.args.input) c.step-answer.result.answer c.requires.parts
    (stepped c.args.self.now _ c.args.place (given c.args.input) c.step-answer.result.answer c.index_mut.result.now
    c.step-answer.new.self c.requires.live c.index_mut.ensures.value c.step-answer.ensures.steps refl refl refl refl)

pub returns-clause-called : goal.returns-clause-called
returns-clause-called g c =
    c.carry_out.ensures.called c.args.self.now (given c.args.input) c.step-answer.result.answer
    (stepped c.args.self.now _ c.args.place (given c.args.input) c.step-answer.result.answer c.index_mut.result.now
    c.step-answer.new.self c.requires.live c.index_mut.ensures.value c.step-answer.ensures.steps refl refl refl refl)

pub returns-clause-uses : goal.returns-clause-uses
returns-clause-uses g c =
    c.carry_out.ensures.uses c.args.self.now (given c.args.input) c.step-answer.result.answer
    (stepped c.args.self.now _ c.args.place (given c.args.input) c.step-answer.result.answer c.index_mut.result.now
    c.step-answer.new.self c.requires.live c.index_mut.ensures.value c.step-answer.ensures.steps refl refl refl refl)
    c.requires.timely
