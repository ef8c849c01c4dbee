use Rattle.gptp_timeline.proofs.LookedLemmas.{new_measured}
use Rattle.gptp_timeline.proofs.looks.look_at_new.Goals as goal

pub returns : goal.returns
returns c =
    new_measured c.args.at c.args.new.now c.args.jump.now c.args.before c.args.after c.args.measures
    c.with_look-first.result c.with_look-second.result c.with_difference-third.result c.with_difference-fourth.result
    c.with_step.result c.step_in.result c.change_of.result c.step_in.ensures c.change_of.ensures
    c.with_look-first.ensures c.with_look-second.ensures c.with_difference-third.ensures
    c.with_difference-fourth.ensures c.with_step.ensures
