-- Line and column so far are those of the first octets.
use Rattle.std.proofs.Common.{take}
use Rattle.gptp_lint.proofs.EndingLemmas.{EndsAt}
use Rattle.gptp_lint.proofs.ending.end_of.Given as goal

abbrev pub invariant-loop-octet : goal.invariant-loop-octet
invariant-loop-octet l = EndsAt (take l.octet-index l.text) l.line l.column
