-- The times before this one are told of, and the tables stand after the events so far.
use Rattle.std.proofs.Common.{drop, take}
use Rattle.gptp_topology.proofs.PassedLemmas.{CalmPassed}
use Rattle.gptp_topology.specs.After.{Stand}
use Rattle.gptp_topology.proofs.times.calm_times.Given as goal

abbrev pub invariant-loop-event : goal.invariant-loop-event
invariant-loop-event l = record {
  passed : CalmPassed l.document (take l.event-index l.events) (drop l.event-index l.events) l.at l.calm.items;
  stand : Stand l.document.network (take l.event-index l.events) l.tables;
}
