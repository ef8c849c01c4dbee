-- So many systems were looked at, and the place is so many behind them.
use Rattle.std.proofs.Common.{◌≡◌, ◌+◌, drop}
use Rattle.gptp_how_soon.specs.Chosen.{place_of}
use Rattle.gptp_how_soon.proofs.chosen.place_of.Given as goal

abbrev pub invariant-loop-system : goal.invariant-loop-system
invariant-loop-system l =
    (l.place ≡ l.system-index)
    × (l.place + place_of (drop l.system-index l.systems) l.clock ≡ place_of l.systems l.clock)
