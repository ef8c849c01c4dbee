-- With those that are left, the keepers so far are those of all.
use Rattle.std.proofs.Common.{◌≡◌, ◌++◌, drop}
use Rattle.gptp_timeline.specs.Keepers.{keepers_among}
use Rattle.gptp_timeline.proofs.keepers.keepers_of.Given as goal

abbrev pub invariant-loop-system : goal.invariant-loop-system
invariant-loop-system l = l.keepers.items ++ keepers_among (drop l.system-index l.systems) ≡ keepers_among l.systems
