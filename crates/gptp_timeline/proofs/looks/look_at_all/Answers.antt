use Rattle.std.proofs.Common.{ap, ◌∙◌}
use Rattle.gptp_timeline.specs.Looks.{looked_difference, looked_each, measured_with}
use Rattle.gptp_timeline.proofs.looks.look_at_all.Goals as goal

pub returns : goal.returns
returns g c =
    let w = c.args.world.now.world_core in let at = c.args.at in let rs = c.args.systems.now in
    let m = c.args.measures in
    c.with_difference.ensures
    ∙ ap (measured_with (looked_difference c.told_difference.result)) c.look_at_each-errors.ensures
    ∙ ap (λ d. measured_with (looked_difference d) (measured_with (looked_each at w rs) m))
    (c.told_difference.ensures rs c.requires.sources)
