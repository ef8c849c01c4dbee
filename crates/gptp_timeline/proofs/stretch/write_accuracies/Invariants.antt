-- The lines of the systems before this one are written.
use Rattle.std.proofs.Common.{drop}
use Rattle.std.specs.List.{flat_map}
use Rattle.std.specs.Prelude.{string_bytes}
use Rattle.gptp_timeline.specs.StretchText.{error_among, system_accuracy}
use Rattle.gptp_timeline.specs.Timeline.{reads_kept}
use Rattle.gptp_timeline.proofs.LineLemmas.{WrittenSoFar}
use Rattle.gptp_timeline.proofs.stretch.write_accuracies.Given as goal

abbrev pub invariant-loop-error : goal.invariant-loop-error
invariant-loop-error g l =
    let one = system_accuracy l.from (error_among l.systems) (reads_kept l.to l.world.world_core l.times) in
    WrittenSoFar (flat_map one l.errors) (flat_map one (drop l.error-index l.errors))
    (string_bytes l.initial.text) (string_bytes l.text)
