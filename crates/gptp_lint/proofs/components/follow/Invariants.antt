-- The times before this one have their moments, and the network stands after the events so far.
use Rattle.std.proofs.Common.{drop, take}
use Rattle.gptp_lint.specs.Graph.{IsGraph}
use Rattle.gptp_lint.proofs.MomentLemmas.{MomentsPassed}
use Rattle.gptp_lint.proofs.components.follow.Given as goal

abbrev pub invariant-loop-event : goal.invariant-loop-event
invariant-loop-event l = record {
  passed : MomentsPassed l.document (take l.event-index l.events) (drop l.event-index l.events) l.at l.moments.items;
  stands : IsGraph l.document.network (take l.event-index l.events) l.graph;
}
