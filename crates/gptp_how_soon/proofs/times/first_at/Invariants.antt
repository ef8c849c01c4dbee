-- It is the first of those that are left.
use Rattle.std.proofs.Common.{◌≡◌, drop}
use Rattle.std.specs.List.{find}
use Rattle.gptp_how_soon.specs.Times.{is_time_at}
use Rattle.gptp_how_soon.proofs.times.first_at.Given as goal

abbrev pub invariant-loop-time : goal.invariant-loop-time
invariant-loop-time l = find (is_time_at l.at) (drop l.time-index l.times) ≡ find (is_time_at l.at) l.times
