-- What is left to look at gives, from what is kept now, what all gives from what was kept; so it is with the lines.
use Rattle.std.proofs.Common.{◌≡◌, ◌-◌, length}
use Rattle.std.specs.List.{range_with_len}
use Rattle.std.specs.Prelude.{string_bytes}
use Rattle.gptp_timeline.specs.Watch.{lines_all, lines_each, see_all, see_each}
use Rattle.gptp_timeline.proofs.LineLemmas.{WrittenSoFar}
use Rattle.gptp_timeline.proofs.watch.Watch.see_all.Given as goal

abbrev pub invariant-loop-place : goal.invariant-loop-place
invariant-loop-place g l = record {
  count : length l.self.systems ≡ length l.initial.self.systems;
  sees : see_each l.look l.world.world_core (range_with_len l.place (length l.initial.self.systems - l.place)) l.self
      ≡ see_all l.look l.world.world_core l.initial.self;
  tells : WrittenSoFar (lines_all l.look l.world.world_core l.initial.self)
      (lines_each l.look l.world.world_core (range_with_len l.place (length l.initial.self.systems - l.place)) l.self)
      (string_bytes l.initial.text) (string_bytes l.text);
}
