-- In the end the links are all, as the tables have them.
use Rattle.std.proofs.Common.{◌≡◌, List, map, ap, ap₂, refl, subst, sym, ◌∙◌}
use Rattle.std.specs.List.{AllByRecursion}
use Rattle.std.proofs.lemmas.List.{take_all}
use Rattle.gptp_scenario.specs.Network.{IsNetwork, NetworkState}
use Rattle.gptp_scenario.specs.declared.change.Timed.{Timed}
use Rattle.gptp_network.specs.Document.{DocumentState}
use Rattle.gptp_topology.specs.After.{standing_then, standings_after}
use Rattle.gptp_topology.specs.declared.course.Cable.{Cable}
use Rattle.gptp_topology.specs.declared.course.Standing.{Standing}
use Rattle.gptp_topology.proofs.StandingLemmas.{maps_twice}
use Rattle.gptp_faults.specs.Cables.{HasBounds, cable_after, cables_after}
use Rattle.gptp_faults.proofs.BoundsLemmas.{cables_in_range}
use Rattle.gptp_faults.proofs.cables.cables_after.Goals as goal

-- the links of these, which stand after the events of the document
are_after : (d : DocumentState) (n : NetworkState) (events : List Timed) (ss : List Standing) (cables : List Cable)
    → n ≡ d.network → events ≡ d.events → ss ≡ standings_after n events
    → cables ≡ map (λ (s : Standing). s.cable) ss → cables ≡ cables_after d
are_after d n events ss cables of made stand are =
    are ∙ ap (map (λ (s : Standing). s.cable)) (stand ∙ ap₂ standings_after of made)
    ∙ maps_twice (λ (s : Standing). s.cable) (standing_then d.network d.events) (cable_after d.events) d.network.links
    (λ w. refl)

pub returns-clause-are : goal.returns-clause-are
returns-clause-are c =
    let items = c.deref-standing-items.result.now in
    are_after c.args.document.now c.network-2.result.now c.events.result.now items c.loop-standing.cables.items
    c.network-2.ensures c.events.ensures (c.deref-standing-items.ensures.value ∙ c.in_ok-tables.ensures.standings)
    (c.loop-standing.invariant ∙ ap (map (λ (s : Standing). s.cable))
    (take_all c.loop-standing.standing-index items c.loop-standing-test.false))

pub returns-clause-bounds : goal.returns-clause-bounds
returns-clause-bounds c =
    let d = c.args.document.now in
    subst (AllByRecursion HasBounds) (sym (returns-clause-are c))
    (cables_in_range d (subst IsNetwork c.network.ensures c.well_formed-3.ensures) c.well_formed-2.ensures.events)
