-- The clocks so far are those of the first systems that no link names.
use Rattle.std.proofs.Common.{◌≡◌, map, take}
use Rattle.gptp_roles.specs.Selection.{clock_of}
use Rattle.gptp_scenario.specs.declared.network.SystemSpec.{SystemSpec}
use Rattle.gptp_lint.specs.Unlinked.{unlinked_in}
use Rattle.gptp_lint.proofs.unlinked.unlinked_clocks.Given as goal

abbrev pub invariant-loop-place : goal.invariant-loop-place
invariant-loop-place l =
    l.unlinked.items
    ≡ unlinked_in l.cables (map (λ (m : SystemSpec). clock_of m.identity) (take l.place l.network.systems))
