-- The link at the place is put after those before it; there is one.
use Rattle.std.proofs.Common.{◌++◌, ◌∷◌, [], ap, sym, ◌∙◌}
use Rattle.std.proofs.lemmas.Result.{on_ok_weaker}
use Rattle.gptp_scenario.specs.declared.network.LinkSpec.{LinkSpec}
use Rattle.gptp_topology.specs.Course.{cable_of}
use Rattle.gptp_topology.proofs.PlaceLemmas.{link_there, none_there}
use Rattle.gptp_topology.proofs.SystemSpecLemmas.{mapped_more}
use Rattle.gptp_topology.proofs.course.push_cable_at.Goals as goal

pub returns-in-Some : goal.returns-in-Some
returns-in-Some c =
    let ws = c.args.network.now.links in
    let w : LinkSpec = record { a = c.in-Some.a; b = c.in-Some.b; bounds = c.in-Some.bounds; up = c.in-Some.up } in
    let there = link_there ws c.args.place c.in-Some.a c.in-Some.b c.in-Some.bounds c.in-Some.up
    (sym c.in-Some.is ∙ c.link_at.ensures) in
    on_ok_weaker c.push_cable.result
    (λ h. h ∙ ap (λ cs. cs ++ cable_of w ∷ []) c.requires.before ∙ mapped_more cable_of ws c.args.place w there)
    c.push_cable.ensures

pub returns-in-None : goal.returns-in-None
returns-in-None c =
    absurd (none_there (λ (w : LinkSpec). (w.a, w.b, w.bounds, w.up)) c.args.network.now.links c.args.place
    c.requires.place (sym c.in-None.is ∙ c.link_at.ensures))
