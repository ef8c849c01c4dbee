use Rattle.std.proofs.Common.{◌≡◌, ◌++◌, ◌∷◌, [], List, Some, map, option_map, slice_get, sym, ap, ◌∙◌}
use Rattle.gptp_network.specs.Snapshot.{link_of}
use Rattle.gptp_faults.specs.Cases.{link_case}
use Rattle.gptp_vector.specs.declared.port.PortId.{PortId}
use Rattle.gptp_faults.specs.declared.cases.Case.{Case}
use Rattle.gptp_faults.proofs.CaseLemmas.{map_more, no_link, none_more}
use Rattle.gptp_faults.proofs.cases.push_link.Goals as goal

pub returns-in_ok-push : goal.returns-in_ok-push
returns-in_ok-push c =
    let links = c.args.snapshot.now.links in let place = c.args.place in
    let link : PortId × PortId = (c.in-Some.a, c.in-Some.b) in
    let there : slice_get links place ≡ Some (link_of link) =
    sym c.link_at.ensures ∙ ap (option_map link_of) c.in-Some.is in
    c.in_ok-push.ensures.items
    ∙ ap (λ (cs : List Case). cs ++ link_case (link_of link) ∷ []) c.requires
    ∙ sym (map_more link_case links place (link_of link) there)

pub returns-in_default : goal.returns-in_default
returns-in_default c =
    let links = c.args.snapshot.now.links in let place = c.args.place in
    c.requires ∙ ap (map link_case) (sym (none_more links place
    (no_link c.link_at.result links place c.link_at.ensures c.in_default.is)))
