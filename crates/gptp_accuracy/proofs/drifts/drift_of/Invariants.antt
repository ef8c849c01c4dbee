-- None of the systems so far has the clock.
use Rattle.std.proofs.Common.{◌≡◌, ◌<◌, ℕ, Some, slice_get}
use Rattle.gptp_roles.specs.Selection.{clock_of}
use Rattle.gptp_scenario.specs.declared.network.SystemSpec.{SystemSpec}
use Rattle.gptp_accuracy.proofs.drifts.drift_of.Given as goal

abbrev pub invariant-loop-place : goal.invariant-loop-place
invariant-loop-place l =
    (k : ℕ) (m : SystemSpec) → k < l.place → slice_get l.network.systems k ≡ Some m → clock_of m.identity ≡ l.clock → ⊥
