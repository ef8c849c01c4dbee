use Rattle.std.proofs.Common.{◌≡◌, ◌↔◌, ◌≤◌, ◌∙◌, IsTrue, List, is_some, length, sym, ap, ap₂, subst}
use Rattle.gptp_scenario.specs.Allowed.{AreAllowed}
use Rattle.gptp_scenario.specs.Calm.{IsCalm, last_change}
use Rattle.gptp_scenario.specs.Network.{IsNetwork, NetworkState}
use Rattle.gptp_scenario.specs.SyncWait.{sync_paths}
use Rattle.gptp_scenario.specs.declared.change.Timed.{Timed}
use Rattle.gptp_scenario.specs.declared.sync_wait.SyncPaths.{SyncPaths}
use Rattle.gptp_network.specs.Snapshot.{events_by}
use Rattle.gptp_topology.specs.After.{Stand, is_calm}
use Rattle.gptp_topology.specs.Tables.{are_calm, marked_paths}
use Rattle.gptp_topology.specs.declared.tables.Tables.{Tables}
use Rattle.gptp_topology.proofs.BoundLemmas.{calm_is, crossed_is, short_marks}
use Rattle.gptp_topology.proofs.RestLemmas.{calm_from, calm_to}
use Rattle.gptp_topology.proofs.StandingLemmas.{few_nodes}
use Rattle.gptp_accuracy.specs.TimeErrors.{AreEntries, AreExact, age_over, greatest_age}
use Rattle.gptp_accuracy.proofs.ExactLemmas.{are_exact, near_within}
use Rattle.gptp_accuracy.proofs.errors.time_errors_among.Goals as goal

short_paths : (n : NetworkState) → IsNetwork n → (events : List Timed) (t : Tables) (paths : SyncPaths)
    → Stand n events t → AreAllowed events → paths ≡ marked_paths t.marks.items t.nodes.items
    → paths.delay ≤ 16000000000
short_paths n network events t paths stand allowed is =
    subst (λ (ps : SyncPaths). ps.delay ≤ 16000000000) (sym is) (short_marks n network events t stand allowed)

pub sync_paths-paths-requires : goal.sync_paths-paths-requires
sync_paths-paths-requires c =
    few_nodes c.network-network.result.now c.well_formed-2.ensures c.events_by-events.result.now
    c.in_ok-tables.tables c.in_ok-tables.ensures

pub is_calm-calm-requires-clause-short : goal.is_calm-calm-requires-clause-short
is_calm-calm-requires-clause-short c =
    short_paths c.network-network.result.now c.well_formed-2.ensures c.events_by-events.result.now
    c.in_ok-tables.tables c.sync_paths-paths.result c.in_ok-tables.ensures c.events_by-events.ensures.allowed
    c.sync_paths-paths.ensures.is

pub greatest_age-requires-clause-short : goal.greatest_age-requires-clause-short
greatest_age-requires-clause-short c =
    short_paths c.network-network.result.now c.well_formed-2.ensures c.events_by-events.result.now
    c.in_ok-tables.tables c.sync_paths-paths.result c.in_ok-tables.ensures c.events_by-events.ensures.allowed
    c.sync_paths-paths.ensures.is

pub systems_of-requires-clause-within : goal.systems_of-requires-clause-within
systems_of-requires-clause-within c =
    rw c.deref.ensures.value (near_within c.network-network.result.now c.events_by-events.result.now
    c.in_ok-snapshot.snapshot c.in_ok-certificate.certificate.lines c.in_ok-sums.sums.items
    c.in_ok-certificate.ensures.choice c.in_ok-sums.ensures.done)

pub returns : goal.returns
returns c =
    let d = c.args.document.now in
    let g = c.in_ok-snapshot.snapshot in
    let lines = c.in_ok-certificate.certificate.lines in
    let sums = c.in_ok-sums.sums.items in
    let tables = c.in_ok-tables.tables in
    let calm = c.is_calm-calm.result in
    let systems = c.in_ok-systems.systems.items in
    let n = c.network-network.result.now in
    let events = c.events_by-events.result.now in
    let network_is : n ≡ d.network = c.network-network.ensures in
    let events_are : events ≡ events_by c.args.until d.events = c.events_by-events.ensures.events in
    let network = c.well_formed-2.ensures in
    let stand = c.in_ok-tables.ensures in
    let paths : c.sync_paths-paths.result ≡ sync_paths n events =
    c.sync_paths-paths.ensures.is ∙ crossed_is n network events tables stand in
    let calm_now : calm ≡ is_calm n events =
    c.is_calm-calm.ensures
    ∙ ap (λ (ps : SyncPaths). are_calm n.params ps tables.marks.items) c.sync_paths-paths.ensures.is
    ∙ calm_is n network events tables stand in
    let decides : IsTrue calm ↔ IsCalm n events =
    (λ is. calm_from n events (sym calm_now ∙ is), λ rests. calm_now ∙ calm_to n events rests) in
    let entries : AreEntries calm lines sums (length lines) systems =
    rw c.deref.ensures.value at c.in_ok-systems.ensures in
    let exact : AreExact n events g systems =
    are_exact n events g lines sums calm systems c.well_formed-3.ensures.rising
    c.well_formed-4.ensures.order.clocks c.in_ok-certificate.ensures.choice c.in_ok-sums.ensures.done
    decides entries in
    record {
      snapshot = g;
      is = c.in_ok-snapshot.ensures;
      network = c.well_formed-3.ensures.network;
      time = c.last_change.ensures.time ∙ ap last_change events_are;
      from = c.exact_from-from.ensures;
      age = c.greatest_age.ensures ∙ ap₂ (age_over n.params) paths c.is_some.ensures
          ∙ (λ i. greatest_age (network_is i) (events_are i) (is_some c.exact_from-from.result));
      systems = subst (λ es. AreExact d.network es g systems) events_are
          (subst (λ m. AreExact m events g systems) network_is exact);
    }
