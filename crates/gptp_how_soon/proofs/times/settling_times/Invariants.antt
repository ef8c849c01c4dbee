-- The walk has come to this time, and has told those before.
use Rattle.std.proofs.Common.{drop}
use Rattle.gptp_how_soon.proofs.TimesLemmas.{Walked}
use Rattle.gptp_how_soon.proofs.times.settling_times.Given as goal

abbrev pub invariant-loop-event : goal.invariant-loop-event
invariant-loop-event l = Walked l.document (drop l.event-index l.events) l.walk l.at l.times.items
