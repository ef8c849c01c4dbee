use Rattle.std.specs.Prelude.{string_bytes, drop}
use Rattle.gptp_model.specs.Views.{rising_clocks}
use Rattle.gptp_report.proofs.ReportLemmas.{ShownSoFar}
use Rattle.gptp_report.proofs.report.write_systems.Given as goal

-- the lines of the systems before the place are written
abbrev pub invariant-loop-place : goal.invariant-loop-place
invariant-loop-place g l =
    ShownSoFar (rising_clocks l.world.world_core) (drop l.place (rising_clocks l.world.world_core)) l.world.world_core
    (string_bytes l.initial.text) (string_bytes l.text)
