use Rattle.std.proofs.Common.{◌≡◌, ◌<◌, ℕ, Some, slice_get}
use Rattle.gptp_scenario.specs.declared.network.LinkSpec.{LinkSpec}
use Rattle.gptp_vector.specs.declared.port.PortId.{PortId}
use Rattle.gptp_explain.specs.Ports.{JoinsPorts}
use Rattle.gptp_explain.proofs.disabled.known_of.Given as goal

-- none of the links so far leads from the port
abbrev pub invariant-loop-place : goal.invariant-loop-place
invariant-loop-place l =
    (place : ℕ) (w : LinkSpec) (there : PortId) → place < l.place → slice_get l.network.links place ≡ Some w
    → JoinsPorts w l.port there → ⊥
