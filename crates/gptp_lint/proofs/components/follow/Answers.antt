-- One event more is passed, and in the end all are.
use Rattle.std.proofs.Common.{◌≡◌, ◌++◌, ◌∷◌, ◌+◌, [], drop, take, ap, sym, subst, ◌∙◌}
use Rattle.std.proofs.lemmas.List.{drop_all, drop_more, take_all, take_more}
use Rattle.gptp_scenario.specs.Network.{IsNetwork}
use Rattle.gptp_topology.proofs.StandingLemmas.{stand_more}
use Rattle.gptp_lint.specs.Graph.{GraphState, IsGraph}
use Rattle.gptp_lint.specs.Moments.{IsMomentOf, MomentIsTold}
use Rattle.gptp_lint.specs.declared.graph.Graph.{Graph}
use Rattle.gptp_lint.proofs.GraphLemmas.{graph_is}
use Rattle.gptp_lint.proofs.MomentLemmas.{MomentsPassed, passed_all, passed_more}
use Rattle.gptp_lint.proofs.components.follow.Goals as goal

pub loop-event-preserved : goal.loop-event-preserved
loop-event-preserved c =
    let d = c.args.document.now in
    let network = subst IsNetwork c.network.ensures c.well_formed-2.ensures in
    let events = c.events-events.result.now in
    let i = c.loop-event.event-index in
    let t = c.event-item.result in
    let graph = c.loop-event.graph in
    let left : drop i events ≡ t ∷ drop (i + 1) events =
    drop_more events i t c.loop-event-test.true ∙ ap (λ u. u ∷ drop (i + 1) events) (sym c.event-item.is) in
    let done : take (i + 1) events ≡ take i events ++ t ∷ [] =
    take_more events i t c.loop-event-test.true ∙ ap (λ u. take i events ++ u ∷ []) (sym c.event-item.is) in
    let more = passed_more d network (take i events) c.loop-event.at
    c.loop-event.moments.items t (drop (i + 1) events) c.tell.new.moments.items
    (subst (λ ts. MomentsPassed d (take i events) ts c.loop-event.at c.loop-event.moments.items) left
    c.loop-event.invariant.passed)
    (subst (λ (g : GraphState). MomentIsTold g c.loop-event.at t.at c.loop-event.moments.items c.tell.new.moments.items)
    (graph_is d.network (take i events) graph c.loop-event.invariant.stands) c.in_ok-tell.ensures) in
    let after : Graph = record { tables = c.act.new.self; ends = graph.ends } in
    let stands : IsGraph d.network (take i events ++ t ∷ []) after = record {
      tables = stand_more d.network network (take i events) t graph.tables c.act.new.self
          c.loop-event.invariant.stands.tables c.act.ensures;
      ends = c.loop-event.invariant.stands.ends;
    } in
    record {
      passed = subst (λ ts. MomentsPassed d ts (drop (i + 1) events) t.at c.tell.new.moments.items) (sym done) more;
      stands = subst (λ ts. IsGraph d.network ts after) (sym done) stands;
    }

pub returns : goal.returns
returns c =
    let d = c.args.document.now in
    let network = subst IsNetwork c.network.ensures c.well_formed-2.ensures in
    let events = c.events-events.result.now in
    let i = c.loop-event.event-index in
    let graph = c.loop-event.graph in
    record {
      moments =
          passed_all d network (take i events) c.loop-event.at
          c.loop-event.moments.items c.in_ok-moment.moment c.push.new.self.items
          (subst (λ ts. MomentsPassed d (take i events) ts c.loop-event.at c.loop-event.moments.items)
          (drop_all i events c.loop-event-test.false) c.loop-event.invariant.passed)
          (subst (λ (g : GraphState). IsMomentOf g c.loop-event.at c.in_ok-moment.moment)
          (graph_is d.network (take i events) graph c.loop-event.invariant.stands) c.in_ok-moment.ensures)
          c.in_ok-push.ensures.items;
      graph = subst (λ ts. IsGraph d.network ts graph)
          (take_all i events c.loop-event-test.false ∙ c.events-events.ensures) c.loop-event.invariant.stands;
    }
