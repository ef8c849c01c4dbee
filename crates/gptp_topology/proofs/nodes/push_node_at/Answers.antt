-- The system at the place is put after those before it; there is one.
use Rattle.std.proofs.Common.{true, ◌++◌, ◌∷◌, [], List, map, ap, ◌∙◌, refl}
use Rattle.std.proofs.lemmas.Result.{on_ok_weaker}
use Rattle.gptp_roles.specs.Selection.{clock_of}
use Rattle.gptp_scenario.specs.declared.network.SystemSpec.{SystemSpec}
use Rattle.gptp_topology.specs.After.{node_after}
use Rattle.gptp_topology.specs.Tables.{NodeState, node_with, tables_seen}
use Rattle.gptp_topology.proofs.PlaceLemmas.{none_there, system_there}
use Rattle.gptp_topology.proofs.SystemSpecLemmas.{mapped_more}
use Rattle.gptp_topology.proofs.nodes.push_node_at.Goals as goal

pub returns-in-Some : goal.returns-in-Some
returns-in-Some c =
    let ms = c.args.network.now.systems in
    let cables = c.args.cables.now in
    let before : List NodeState = map tables_seen c.args.nodes.now.items in
    let here =
    system_there (λ (m : SystemSpec). (m.identity, m.ports, m.phase, m.drift, m.intervals))
    (λ told. told.0) ms c.args.place
    c.in-Some.system (λ m. refl) c.in-Some.ensures in
    on_ok_weaker c.push_node.result
    (λ h. h
    ∙ ap (λ clock. before
    ++ node_with cables (record { clock = clock; identity = c.in-Some.system.0; lives = true }) ∷ []) c.clock.ensures
    ∙ ap (λ identity. before
    ++ node_with cables (record { clock = clock_of identity; identity = identity; lives = true }) ∷ []) here.is
    ∙ ap (λ os. os ++ node_after cables [] here.system ∷ []) c.requires.before
    ∙ mapped_more (node_after cables []) ms c.args.place here.system here.there)
    c.push_node.ensures

pub returns-in-None : goal.returns-in-None
returns-in-None c =
    absurd (none_there (λ (m : SystemSpec). (m.identity, m.ports, m.phase, m.drift, m.intervals))
    c.args.network.now.systems
    c.args.place c.requires.place c.in-None.ensures)
