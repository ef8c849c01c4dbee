-- One event more is passed, and in the end all are.
use Rattle.std.proofs.Common.{◌≡◌, ◌+◌, ◌++◌, ◌∷◌, [], take, sym, ap, subst, ◌∙◌}
use Rattle.std.proofs.lemmas.List.{take_all, take_more}
use Rattle.gptp_topology.specs.After.{Stand}
use Rattle.gptp_topology.proofs.StandingLemmas.{stand_more}
use Rattle.gptp_topology.proofs.tables.Tables.after.Goals as goal

pub loop-event-preserved : goal.loop-event-preserved
loop-event-preserved c =
    let n = c.args.network.now in
    let events = c.args.events.now in
    let i = c.loop-event.event-index in
    let t = c.event-item.result in
    let done : take (i + 1) events ≡ take i events ++ t ∷ [] =
    take_more events i t c.loop-event-test.true ∙ ap (λ u. take i events ++ u ∷ []) (sym c.event-item.is) in
    subst (λ ts. Stand n ts c.act.new.self) (sym done)
    (stand_more n c.well_formed-2.ensures (take i events) t c.loop-event.tables c.act.new.self
    c.loop-event.invariant c.act.ensures)

pub returns : goal.returns
returns c =
    subst (λ ts. Stand c.args.network.now ts c.loop-event.tables)
    (take_all c.loop-event.event-index c.args.events.now c.loop-event-test.false) c.loop-event.invariant
