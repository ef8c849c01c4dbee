-- The snapshot is that of the document's network after the events up to then.
use Rattle.gptp_network.proofs.document.Document.span_at.Goals as goal

pub settling_span-requires-clause-stands : goal.settling_span-requires-clause-stands
settling_span-requires-clause-stands c =
    rw (c.network.ensures, c.events_by-events.ensures, c.events.ensures) c.in_ok-snapshot.ensures

pub returns-clause-span : goal.returns-clause-span
returns-clause-span c = record {
  snapshot = c.in_ok-snapshot.snapshot;
  stands = c.in_ok-snapshot.ensures;
  is = rw (c.network.ensures, c.events_by-events.ensures, c.events.ensures) at c.settling_span.ensures.span;
}
