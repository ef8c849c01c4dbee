-- The identities of the first systems.
use Rattle.std.proofs.Common.{◌≡◌, map, take}
use Rattle.gptp_graph.specs.Snapshot.{System}
use Rattle.gptp_components.proofs.search.identities.Given as goal

abbrev pub invariant-loop-place : goal.invariant-loop-place
invariant-loop-place l = l.ids.items ≡ map (λ (s : System). s.identity) (take l.place l.snapshot.systems)
