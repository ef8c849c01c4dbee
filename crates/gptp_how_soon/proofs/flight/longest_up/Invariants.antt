-- The greatest so far, and that of the links that are left, is that of all.
use Rattle.std.proofs.Common.{◌≡◌, drop, max}
use Rattle.gptp_how_soon.specs.Flight.{longest_up}
use Rattle.gptp_how_soon.proofs.flight.longest_up.Given as goal

abbrev pub invariant-loop-standing : goal.invariant-loop-standing
invariant-loop-standing l = max (longest_up (drop l.standing-index l.standings)) l.longest ≡ longest_up l.standings
