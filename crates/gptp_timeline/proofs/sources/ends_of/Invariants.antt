-- The ends of those so far and of those that are left are those of all.
use Rattle.std.proofs.Common.{◌≡◌, None, drop}
use Rattle.gptp_timeline.specs.ToldSources.{ends_among}
use Rattle.gptp_timeline.proofs.sources.ends_of.Given as goal

abbrev pub invariant-loop-source : goal.invariant-loop-source
invariant-loop-source g l = ends_among l.at l.world.world_core l.ends (drop l.source-index l.sources)
    ≡ ends_among l.at l.world.world_core None l.sources
