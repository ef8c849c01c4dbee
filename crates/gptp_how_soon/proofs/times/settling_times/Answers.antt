-- One event more is passed, and in the end all are.
use Rattle.std.proofs.Common.{◌≡◌, ◌≤◌, ◌++◌, ◌∷◌, ◌+◌, [], List, drop, ap, sym, subst, ◌∙◌}
use Rattle.std.proofs.lemmas.List.{drop_all, drop_more}
use Rattle.gptp_scenario.specs.Network.{IsNetwork, NetworkState}
use Rattle.gptp_scenario.specs.declared.change.Timed.{Timed}
use Rattle.gptp_scenario.specs.declared.sync_wait.SyncPaths.{SyncPaths}
use Rattle.gptp_topology.proofs.BoundLemmas.{short_marks}
use Rattle.gptp_topology.proofs.PassedLemmas.{allowed_before}
use Rattle.gptp_topology.proofs.StandingLemmas.{few_nodes}
use Rattle.gptp_how_soon.specs.Times.{settling_time}
use Rattle.gptp_how_soon.specs.Walk.{IsFirstWalk, WalkTells, view_seen}
use Rattle.gptp_how_soon.specs.declared.bounds.SettlingTime.{SettlingTime}
use Rattle.gptp_how_soon.proofs.TimesLemmas.{Walked, longest_walked, short_walked, walked_all, walked_first, walked_more}
use Rattle.gptp_how_soon.proofs.times.settling_times.Goals as goal

pub loop-event-init : goal.loop-event-init
loop-event-init c =
    let d = c.args.document.now in
    let network = subst IsNetwork c.network.ensures c.well_formed-2.ensures in
    let first = subst (λ (n : NetworkState). IsFirstWalk n c.in_ok-walk.walk) c.network-network.ensures
    c.in_ok-walk.ensures in
    subst (λ (ts : List SettlingTime). Walked d c.events-events.result.now c.in_ok-walk.walk 0 ts)
    (sym c.new-times.ensures.items)
    (subst (λ (es : List Timed). Walked d es c.in_ok-walk.walk 0 []) (sym c.events-events.ensures)
    (walked_first d network c.in_ok-walk.walk c.well_formed-3.ensures.events first))

pub tell-requires-clause-few : goal.tell-requires-clause-few
tell-requires-clause-few c =
    let so = c.loop-event.invariant in
    few_nodes c.args.document.now.network (subst IsNetwork c.network.ensures c.well_formed-2.ensures)
    (so.made ++ so.now) c.loop-event.walk.tables so.stands.tables

pub tell-requires-clause-short : goal.tell-requires-clause-short
tell-requires-clause-short c =
    let so = c.loop-event.invariant in
    short_marks c.args.document.now.network (subst IsNetwork c.network.ensures c.well_formed-2.ensures)
    (so.made ++ so.now) c.loop-event.walk.tables so.stands.tables
    (allowed_before (so.made ++ so.now) (drop c.loop-event.event-index c.events-events.result.now)
    c.args.document.now.events so.told.split c.well_formed-3.ensures.allowed)

pub tell-requires-clause-short_before : goal.tell-requires-clause-short_before
tell-requires-clause-short_before c =
    short_walked c.args.document.now (subst IsNetwork c.network.ensures c.well_formed-2.ensures)
    (drop c.loop-event.event-index c.events-events.result.now) c.loop-event.walk c.loop-event.at
    c.loop-event.times.items c.well_formed-3.ensures.allowed c.loop-event.invariant

pub tell-requires-clause-longest : goal.tell-requires-clause-longest
tell-requires-clause-longest c =
    longest_walked c.args.document.now (subst IsNetwork c.network.ensures c.well_formed-2.ensures)
    (drop c.loop-event.event-index c.events-events.result.now) c.loop-event.walk c.loop-event.at
    c.loop-event.times.items c.well_formed-3.ensures.allowed c.loop-event.invariant

pub loop-event-preserved : goal.loop-event-preserved
loop-event-preserved c =
    let d = c.args.document.now in
    let network = subst IsNetwork c.network.ensures c.well_formed-2.ensures in
    let events = c.events-events.result.now in
    let i = c.loop-event.event-index in
    let t = c.event-item.result in
    let left : drop i events ≡ t ∷ drop (i + 1) events =
    drop_more events i t c.loop-event-test.true ∙ ap (λ u. u ∷ drop (i + 1) events) (sym c.event-item.is) in
    walked_more d network t (drop (i + 1) events) c.loop-event.walk c.tell.new.walk c.pass.new.self c.loop-event.at
    c.loop-event.times.items c.tell.new.times.items
    (subst (λ ts. Walked d ts c.loop-event.walk c.loop-event.at c.loop-event.times.items) left c.loop-event.invariant)
    (subst (λ (n : NetworkState). WalkTells n c.loop-event.at t.at c.loop-event.walk c.tell.new.walk
    c.loop-event.times.items c.tell.new.times.items) c.network-network.ensures c.in_ok-tell.ensures)
    c.in_ok-pass.ensures

pub sync_paths-paths-requires : goal.sync_paths-paths-requires
sync_paths-paths-requires c =
    let so = c.loop-event.invariant in
    few_nodes c.args.document.now.network (subst IsNetwork c.network.ensures c.well_formed-2.ensures)
    (so.made ++ so.now) c.loop-event.walk.tables so.stands.tables

pub settle-requires-clause-short : goal.settle-requires-clause-short
settle-requires-clause-short c =
    let so = c.loop-event.invariant in
    subst (λ (ps : SyncPaths). ps.delay ≤ 16000000000) (sym c.sync_paths-paths.ensures.is)
    (short_marks c.args.document.now.network (subst IsNetwork c.network.ensures c.well_formed-2.ensures)
    (so.made ++ so.now) c.loop-event.walk.tables so.stands.tables
    (allowed_before (so.made ++ so.now) (drop c.loop-event.event-index c.events-events.result.now)
    c.args.document.now.events so.told.split c.well_formed-3.ensures.allowed))

pub settle-requires-clause-short_before : goal.settle-requires-clause-short_before
settle-requires-clause-short_before c =
    short_walked c.args.document.now (subst IsNetwork c.network.ensures c.well_formed-2.ensures)
    (drop c.loop-event.event-index c.events-events.result.now) c.loop-event.walk c.loop-event.at
    c.loop-event.times.items c.well_formed-3.ensures.allowed c.loop-event.invariant

pub settle-requires-clause-longest : goal.settle-requires-clause-longest
settle-requires-clause-longest c =
    longest_walked c.args.document.now (subst IsNetwork c.network.ensures c.well_formed-2.ensures)
    (drop c.loop-event.event-index c.events-events.result.now) c.loop-event.walk c.loop-event.at
    c.loop-event.times.items c.well_formed-3.ensures.allowed c.loop-event.invariant

pub returns-clause-times : goal.returns-clause-times
returns-clause-times c =
    let d = c.args.document.now in
    let network = subst IsNetwork c.network.ensures c.well_formed-2.ensures in
    let events = c.events-events.result.now in
    let i = c.loop-event.event-index in
    let told = walked_all d network c.loop-event.walk c.loop-event.at c.loop-event.times.items c.push.new.self.items
    c.in_ok-time.time
    (subst (λ ts. Walked d ts c.loop-event.walk c.loop-event.at c.loop-event.times.items)
    (drop_all i events c.loop-event-test.false) c.loop-event.invariant)
    (c.in_ok-time.ensures.is
    ∙ ap (λ (n : NetworkState). settling_time n (view_seen n c.loop-event.walk c.loop-event.at))
    c.network-network.ensures)
    c.in_ok-time.ensures.bound c.in_ok-push.ensures.items in
    told.0

pub returns-clause-rising : goal.returns-clause-rising
returns-clause-rising c =
    let d = c.args.document.now in
    let network = subst IsNetwork c.network.ensures c.well_formed-2.ensures in
    let events = c.events-events.result.now in
    let i = c.loop-event.event-index in
    let told = walked_all d network c.loop-event.walk c.loop-event.at c.loop-event.times.items c.push.new.self.items
    c.in_ok-time.time
    (subst (λ ts. Walked d ts c.loop-event.walk c.loop-event.at c.loop-event.times.items)
    (drop_all i events c.loop-event-test.false) c.loop-event.invariant)
    (c.in_ok-time.ensures.is
    ∙ ap (λ (n : NetworkState). settling_time n (view_seen n c.loop-event.walk c.loop-event.at))
    c.network-network.ensures)
    c.in_ok-time.ensures.bound c.in_ok-push.ensures.items in
    told.1

pub returns-clause-watched : goal.returns-clause-watched
returns-clause-watched c =
    let d = c.args.document.now in
    let network = subst IsNetwork c.network.ensures c.well_formed-2.ensures in
    let events = c.events-events.result.now in
    let i = c.loop-event.event-index in
    let told = walked_all d network c.loop-event.walk c.loop-event.at c.loop-event.times.items c.push.new.self.items
    c.in_ok-time.time
    (subst (λ ts. Walked d ts c.loop-event.walk c.loop-event.at c.loop-event.times.items)
    (drop_all i events c.loop-event-test.false) c.loop-event.invariant)
    (c.in_ok-time.ensures.is
    ∙ ap (λ (n : NetworkState). settling_time n (view_seen n c.loop-event.walk c.loop-event.at))
    c.network-network.ensures)
    c.in_ok-time.ensures.bound c.in_ok-push.ensures.items in
    told.2
