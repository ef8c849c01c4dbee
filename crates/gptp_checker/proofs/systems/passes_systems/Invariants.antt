use Rattle.std.proofs.Common.{◌<◌, ℕ}
use Rattle.gptp_checker.specs.Places.{AgreeAt}
use Rattle.gptp_checker.proofs.systems.passes_systems.Given as goal

-- systems and lines agree at the places before
abbrev pub invariant-loop-place : goal.invariant-loop-place
invariant-loop-place l = (i : ℕ) → i < l.place → AgreeAt l.snapshot.systems l.certificate.lines i
