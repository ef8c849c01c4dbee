-- None of the links so far is at the port.
use Rattle.std.proofs.Common.{◌≡◌, ◌<◌, ℕ, Some, slice_get}
use Rattle.gptp_scenario.specs.Network.{IsEnd}
use Rattle.gptp_scenario.specs.declared.network.LinkSpec.{LinkSpec}
use Rattle.gptp_accuracy.proofs.delays.delays_at.Given as goal

abbrev pub invariant-loop-standing : goal.invariant-loop-standing
invariant-loop-standing l =
    (k : ℕ) (w : LinkSpec) → k < l.standing-index → slice_get l.network.links k ≡ Some w → IsEnd l.own w → ⊥
