-- The systems so far are those of the first clocks.
use Rattle.std.proofs.Common.{◌≡◌, map, take}
use Rattle.gptp_model.specs.Views.{rising_clocks}
use Rattle.gptp_timeline.specs.ExactReads.{unread}
use Rattle.gptp_timeline.proofs.time_watch.all_unread.Given as goal

abbrev pub invariant-loop-place : goal.invariant-loop-place
invariant-loop-place g l = l.systems.items ≡ map unread (take l.place (rising_clocks l.world.world_core))
