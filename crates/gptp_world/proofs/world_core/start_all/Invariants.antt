use Rattle.std.proofs.Common.{◌≡◌, length}
use Rattle.gptp_world.specs.WorldCore.{IsFounded, SystemsStarted}
use Rattle.gptp_world.proofs.world_core.start_all.Given as goal

-- the systems so far have started
abbrev pub invariant-loop-place : goal.invariant-loop-place
invariant-loop-place g l = record {
  world_core : IsFounded l.parts;
  count : length l.parts.stations.items ≡ length l.initial.parts.stations.items;
  started : SystemsStarted g.F.Fate.answers l.place l.initial.fate l.fate l.initial.parts l.parts;
}
