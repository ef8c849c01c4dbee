-- What those that are left give, from what is measured now, is what all give.
use Rattle.std.proofs.Common.{◌≡◌, drop}
use Rattle.gptp_timeline.specs.Looks.{looked_each, measured_with}
use Rattle.gptp_timeline.proofs.looks.look_at_each.Given as goal

abbrev pub invariant-loop-system : goal.invariant-loop-system
invariant-loop-system g l =
    measured_with (looked_each l.at l.world.world_core (drop l.system-index l.systems)) l.measures
    ≡ measured_with (looked_each l.initial.at l.initial.world.world_core l.initial.systems) l.initial.measures
