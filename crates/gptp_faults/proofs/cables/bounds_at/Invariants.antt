-- What is found among those that are left is found among all.
use Rattle.std.proofs.Common.{◌≡◌, drop}
use Rattle.gptp_faults.specs.Cables.{bounds_at}
use Rattle.gptp_faults.proofs.cables.bounds_at.Given as goal

abbrev pub invariant-loop-cable : goal.invariant-loop-cable
invariant-loop-cable l = bounds_at (drop l.cable-index l.cables) l.port ≡ bounds_at l.cables l.port
