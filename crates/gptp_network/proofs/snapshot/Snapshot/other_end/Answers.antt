-- The ends that were searched are those of the links that are seen.
use Rattle.std.proofs.Common.{subst}
use Rattle.gptp_graph.specs.Snapshot.{Snapshot}
use Rattle.gptp_network.specs.SnapshotTables.{AreEnds}
use Rattle.gptp_network.proofs.SearchLemmas.{joined, unlinked}
use Rattle.gptp_network.proofs.snapshot.Snapshot.other_end.Goals as goal

pub returns-clause-some : goal.returns-clause-some
returns-clause-some c =
    let are =
    subst (λ (g : Snapshot). AreEnds g.links c.deref.result.now) c.self.view_is
    (rw c.deref.ensures.value c.self.invariant.ends_are) in
    joined c.args.self.now c.deref.result.now are c.args.port c.end_among.result c.end_among.ensures.some

pub returns-clause-none : goal.returns-clause-none
returns-clause-none c =
    let are =
    subst (λ (g : Snapshot). AreEnds g.links c.deref.result.now) c.self.view_is
    (rw c.deref.ensures.value c.self.invariant.ends_are) in
    unlinked c.args.self.now c.deref.result.now are c.args.port c.end_among.result c.end_among.ensures.none
