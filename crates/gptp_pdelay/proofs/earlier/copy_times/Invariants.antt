use Rattle.std.proofs.Common.{◌≡◌, take}
use Rattle.gptp_pdelay.proofs.earlier.copy_times.Given as goal

abbrev pub invariant-loop-one : goal.invariant-loop-one
invariant-loop-one l = l.copies.items ≡ take l.one-index l.times
