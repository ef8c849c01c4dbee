-- The systems that were searched are those that are seen.
use Rattle.std.proofs.Common.{List, sym, subst, ap, ◌∙◌}
use Rattle.gptp_graph.specs.Snapshot.{System, Snapshot}
use Rattle.gptp_network.specs.SnapshotTables.{HasClock, seen_systems}
use Rattle.gptp_network.proofs.snapshot.Snapshot.place_of.Goals as goal

pub returns-clause-only : goal.returns-clause-only
returns-clause-only c = λ place has.
    let kept = ap seen_systems c.deref.ensures.value ∙ ap (λ (g : Snapshot). g.systems) c.self.view_is in
    let HasIt : List System → Type 0 = λ systems. HasClock systems c.args.clock place in
    c.place_among.ensures.only place (subst HasIt (sym kept) has)
