-- One of those that are left is given where one of all is.
use Rattle.std.proofs.Common.{◌≡◌, drop}
use Rattle.gptp_timeline.specs.Limits.{is_some_given}
use Rattle.gptp_timeline.proofs.limits.is_some_given.Given as goal

abbrev pub invariant-loop-most : goal.invariant-loop-most
invariant-loop-most l = is_some_given (drop l.most-index l.all) ≡ is_some_given l.all
