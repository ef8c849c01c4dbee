-- One of those that are left reads from the source where one of all does.
use Rattle.std.proofs.Common.{◌≡◌, drop}
use Rattle.gptp_timeline.specs.ToldSources.{is_told}
use Rattle.gptp_timeline.proofs.sources.is_told.Given as goal

abbrev pub invariant-loop-system : goal.invariant-loop-system
invariant-loop-system l = is_told l.source (drop l.system-index l.systems) ≡ is_told l.source l.systems
