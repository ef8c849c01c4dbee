-- One link more is told of after those before it, and in the end all are, as the law of quiet networks asks.
use Rattle.std.proofs.Common.{◌≡◌, ◌++◌, ◌∷◌, ◌+◌, drop, map, ap, sym, subst, ◌∙◌}
use Rattle.std.specs.Option.{option_to_list}
use Rattle.std.proofs.lemmas.List.{append-nil, drop_all, drop_more}
use Rattle.gptp_setup.specs.SettlingParams.{lapse_span}
use Rattle.gptp_scenario.specs.Network.{IsNetwork, NetworkState}
use Rattle.gptp_scenario.specs.declared.network.LinkSpec.{LinkSpec}
use Rattle.gptp_topology.specs.Course.{cable_of, course_of, cable_wire}
use Rattle.gptp_lint.specs.Trouble.{long_of, longs_of, lossies_of, stretches}
use Rattle.gptp_lint.specs.Unlinked.{AreUnlinked}
use Rattle.gptp_lint.proofs.FoundLemmas.{found, told_more}
use Rattle.gptp_lint.proofs.findings.find.Goals as goal

pub loop-cable-preserved : goal.loop-cable-preserved
loop-cable-preserved c =
    let d = c.args.document.now in
    let cables = c.deref-cable-items.result.now in
    let i = c.loop-cable.cable-index in
    let cable = c.cable-item.result in
    let here : drop i cables ≡ cable ∷ drop (i + 1) cables =
    drop_more cables i cable c.loop-cable-test.true ∙ ap (λ u. u ∷ drop (i + 1) cables) (sym c.cable-item.is) in
    record {
      long = told_more (λ (w : LinkSpec). option_to_list (long_of d.network.params (course_of d.events w)))
          c.loop-cable.long.items c.push_troubles.new.long.items
          (longs_of d (map cable_wire cables)) cable cables i here
          c.loop-cable.invariant.long c.in_ok-push_troubles.ensures.long;
      lossy = told_more (λ (w : LinkSpec). stretches w.bounds.link 0 (course_of d.events w)) c.loop-cable.lossy.items
          c.push_troubles.new.lossy.items (lossies_of d (map cable_wire cables)) cable cables i here
          c.loop-cable.invariant.lossy c.in_ok-push_troubles.ensures.lossy;
    }

pub returns : goal.returns
returns c =
    let d = c.args.document.now in
    let cables = c.deref-cable-items.result.now in
    let end = drop_all c.loop-cable.cable-index cables c.loop-cable-test.false in
    let long = c.loop-cable.long.items in
    let lossy = c.loop-cable.lossy.items in
    found d _ cables (subst IsNetwork c.network-network.ensures c.well_formed-2.ensures) c.well_formed-3.ensures.events
    (c.deref-cable-items.ensures.value ∙ c.in_ok-cables.ensures
    ∙ ap (λ (n : NetworkState). map cable_of n.links) c.network-network.ensures)
    (sym (append-nil long) ∙ ap (λ cs. long ++ longs_of d (map cable_wire cs)) (sym end) ∙ c.loop-cable.invariant.long)
    (sym (append-nil lossy) ∙ ap (λ cs. lossy ++ lossies_of d (map cable_wire cs)) (sym end)
    ∙ c.loop-cable.invariant.lossy)
    (subst (λ (n : NetworkState). AreUnlinked n c.in_ok-unlinked.unlinked.items) c.network-network.ensures
    c.in_ok-unlinked.ensures)
    c.in_ok-components.ensures
    c.in_ok-calm.ensures
    (c.lapse_span.ensures.span
    ∙ ap lapse_span (c.params.ensures ∙ ap (λ (n : NetworkState). n.params) c.network-network.ensures))
