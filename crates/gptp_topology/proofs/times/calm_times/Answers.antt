-- One event more is passed, and in the end all are.
use Rattle.std.proofs.Common.{◌≡◌, ◌++◌, ◌∷◌, ◌+◌, [], drop, take, ap, sym, subst, ◌∙◌}
use Rattle.std.proofs.lemmas.List.{drop_all, drop_more, take_more}
use Rattle.gptp_scenario.specs.Network.{IsNetwork, NetworkState}
use Rattle.gptp_topology.specs.After.{Stand}
use Rattle.gptp_topology.specs.Tables.{time_of}
use Rattle.gptp_topology.specs.declared.times.CalmTime.{CalmTime}
use Rattle.gptp_topology.proofs.BoundLemmas.{short_marks, time_is}
use Rattle.gptp_topology.proofs.PassedLemmas.{CalmPassed, allowed_before, passed_all, passed_more}
use Rattle.gptp_topology.proofs.StandingLemmas.{few_nodes, stand_more}
use Rattle.gptp_topology.proofs.times.calm_times.Goals as goal

pub loop-event-preserved : goal.loop-event-preserved
loop-event-preserved c =
    let d = c.args.document.now in
    let network = subst IsNetwork c.network.ensures c.well_formed-2.ensures in
    let events = c.events-events.result.now in
    let i = c.loop-event.event-index in
    let t = c.event-item.result in
    let tables = c.loop-event.tables in
    let time = time_of d.network tables.marks.items tables.nodes.items c.loop-event.at in
    let left : drop i events ≡ t ∷ drop (i + 1) events =
    drop_more events i t c.loop-event-test.true ∙ ap (λ u. u ∷ drop (i + 1) events) (sym c.event-item.is) in
    let done : take (i + 1) events ≡ take i events ++ t ∷ [] =
    take_more events i t c.loop-event-test.true ∙ ap (λ u. take i events ++ u ∷ []) (sym c.event-item.is) in
    let more = passed_more d (take i events) time c.loop-event.calm.items t (drop (i + 1) events)
    c.tell.new.calm.items
    (subst (λ ts. CalmPassed d (take i events) ts c.loop-event.at c.loop-event.calm.items) left
    c.loop-event.invariant.passed)
    (rw c.network-network.ensures at c.in_ok-tell.ensures)
    (time_is d c.loop-event.at network (take i events) tables c.loop-event.invariant.stand) in
    let stand = stand_more d.network network (take i events) t tables c.act.new.self c.loop-event.invariant.stand
    c.act.ensures in
    record {
      passed = subst (λ ts. CalmPassed d ts (drop (i + 1) events) t.at c.tell.new.calm.items) (sym done) more;
      stand = subst (λ ts. Stand d.network ts c.act.new.self) (sym done) stand;
    }

pub tell-requires-clause-short : goal.tell-requires-clause-short
tell-requires-clause-short c =
    let events = c.events-events.result.now in
    let i = c.loop-event.event-index in
    short_marks c.args.document.now.network (subst IsNetwork c.network.ensures c.well_formed-2.ensures)
    (take i events) c.loop-event.tables c.loop-event.invariant.stand
    (allowed_before (take i events) (drop i events) c.args.document.now.events c.loop-event.invariant.passed.split
    c.well_formed-3.ensures.allowed)

pub time_of-requires-clause-few : goal.time_of-requires-clause-few
time_of-requires-clause-few c =
    few_nodes c.args.document.now.network (subst IsNetwork c.network.ensures c.well_formed-2.ensures)
    (take c.loop-event.event-index c.events-events.result.now) c.loop-event.tables c.loop-event.invariant.stand

pub time_of-requires-clause-short : goal.time_of-requires-clause-short
time_of-requires-clause-short c =
    let events = c.events-events.result.now in
    let i = c.loop-event.event-index in
    short_marks c.args.document.now.network (subst IsNetwork c.network.ensures c.well_formed-2.ensures)
    (take i events) c.loop-event.tables c.loop-event.invariant.stand
    (allowed_before (take i events) (drop i events) c.args.document.now.events c.loop-event.invariant.passed.split
    c.well_formed-3.ensures.allowed)

pub returns : goal.returns
returns c =
    let d = c.args.document.now in
    let network = subst IsNetwork c.network.ensures c.well_formed-2.ensures in
    let events = c.events-events.result.now in
    let i = c.loop-event.event-index in
    let tables = c.loop-event.tables in
    let time = time_of d.network tables.marks.items tables.nodes.items c.loop-event.at in
    let told = c.time_of.ensures
    ∙ ap (λ (n : NetworkState). time_of n tables.marks.items tables.nodes.items c.loop-event.at)
    c.network-network.ensures in
    passed_all d (take i events) time c.loop-event.calm.items c.push.new.self.items
    (subst (λ ts. CalmPassed d (take i events) ts c.loop-event.at c.loop-event.calm.items)
    (drop_all i events c.loop-event-test.false) c.loop-event.invariant.passed)
    (c.in_ok-push.ensures.items ∙ ap (λ (b : CalmTime). c.loop-event.calm.items ++ b ∷ []) told)
    (time_is d c.loop-event.at network (take i events) tables c.loop-event.invariant.stand)
