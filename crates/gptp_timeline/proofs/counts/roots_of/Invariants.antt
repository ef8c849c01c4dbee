-- The roots so far are those of the first systems.
use Rattle.std.proofs.Common.{◌≡◌, take}
use Rattle.gptp_timeline.specs.Stretch.{roots_of, shown_of_all}
use Rattle.gptp_timeline.proofs.counts.roots_of.Given as goal

abbrev pub invariant-loop-system : goal.invariant-loop-system
invariant-loop-system l = l.roots.items ≡ roots_of (shown_of_all (take l.system-index l.systems))
