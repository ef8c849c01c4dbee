use Rattle.std.specs.Prelude.{drop}
use Rattle.gptp_model.specs.Views.{rising_clocks}
use Rattle.gptp_certificate_text.specs.Certificate.{lines_of}
use Rattle.gptp_certificate.proofs.StatedLemmas.{StatedSoFar}
use Rattle.gptp_certificate.proofs.stated.list_lines.Given as goal

-- the lines of the systems before the place are there
abbrev pub invariant-loop-place : goal.invariant-loop-place
invariant-loop-place g l =
    StatedSoFar (rising_clocks l.world.world_core) (drop l.place (rising_clocks l.world.world_core)) l.world.world_core
    (lines_of l.lines.items)
