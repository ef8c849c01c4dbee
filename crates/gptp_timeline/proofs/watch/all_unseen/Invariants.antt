-- The systems so far are those of the first clocks.
use Rattle.std.proofs.Common.{◌≡◌, map, take}
use Rattle.gptp_model.specs.Views.{rising_clocks}
use Rattle.gptp_timeline.specs.Watch.{unseen}
use Rattle.gptp_timeline.proofs.watch.all_unseen.Given as goal

abbrev pub invariant-loop-place : goal.invariant-loop-place
invariant-loop-place g l = l.systems.items ≡ map unseen (take l.place (rising_clocks l.world.world_core))
