-- The clock of the system at the place is put after those before it, where no link names it; there is one.
use Rattle.std.proofs.Common.{◌++◌, ◌∷◌, [], ap, ◌∙◌, refl}
use Rattle.std.proofs.lemmas.Result.{on_ok_weaker}
use Rattle.gptp_roles.specs.Selection.{clock_of}
use Rattle.gptp_scenario.specs.declared.network.SystemSpec.{SystemSpec}
use Rattle.gptp_lint.specs.Unlinked.{unlinked_in}
use Rattle.gptp_topology.proofs.PlaceLemmas.{none_there, system_there}
use Rattle.gptp_lint.proofs.UnlinkedLemmas.{unlinked_more}
use Rattle.gptp_lint.proofs.unlinked.push_unlinked_at.Goals as goal

pub returns-in-Some : goal.returns-in-Some
returns-in-Some c =
    let ms = c.args.network.now.systems in
    let cables = c.args.cables.now in
    let here =
    system_there (λ (m : SystemSpec). (m.identity, m.ports, m.phase, m.drift, m.intervals))
    (λ told. told.0) ms c.args.place
    c.in-Some.system (λ m. refl) c.in-Some.ensures in
    on_ok_weaker c.push_unlinked.result
    (λ h. h
    ∙ ap (λ clock. c.args.unlinked.now.items ++ unlinked_in cables (clock ∷ []))
    (c.clock.ensures ∙ ap clock_of here.is)
    ∙ ap (λ cs. cs ++ unlinked_in cables (clock_of here.system.identity ∷ [])) c.requires.before
    ∙ unlinked_more cables ms c.args.place here.system here.there)
    c.push_unlinked.ensures

pub returns-in-None : goal.returns-in-None
returns-in-None c =
    absurd (none_there (λ (m : SystemSpec). (m.identity, m.ports, m.phase, m.drift, m.intervals))
    c.args.network.now.systems
    c.args.place c.requires.place c.in-None.ensures)
