-- The tables stand after the events so far.
use Rattle.std.proofs.Common.{take}
use Rattle.gptp_topology.specs.After.{Stand}
use Rattle.gptp_topology.proofs.tables.Tables.after.Given as goal

abbrev pub invariant-loop-event : goal.invariant-loop-event
invariant-loop-event l = Stand l.network (take l.event-index l.events) l.tables
