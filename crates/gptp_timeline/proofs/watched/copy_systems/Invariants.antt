use Rattle.std.proofs.Common.{◌≡◌, take}
use Rattle.gptp_timeline.proofs.watched.copy_systems.Given as goal

abbrev pub invariant-loop-system : goal.invariant-loop-system
invariant-loop-system l = l.copies.items ≡ take l.system-index l.systems
