use Rattle.std.proofs.Common.{◌≡◌, ◌∙◌, ap, sym}
use Rattle.std.proofs.lemmas.Option.{same_Some}
use Rattle.gptp_lists.proofs.SystemSpecLemmas.{In-slice_get}
use Rattle.gptp_graph.specs.Snapshot.{System}
use Rattle.gptp_graph.proofs.SystemLemmas.{same_clock}
use Rattle.gptp_network.specs.Snapshot.{system_of}
use Rattle.gptp_components.proofs.FoundLemmas.{place_of_system}
use Rattle.gptp_components.proofs.search.ports_of.Goals as goal

pub returns-in-Some-system_at : goal.returns-in-Some-system_at
returns-in-Some-system_at c = λ s live is.
    let g = c.args.snapshot.now in let at = c.in-Some.ensures.some in
    let own = system_of (c.in-Some-system_at.field-0-0, c.in-Some-system_at.ports) in
    let one : own ≡ at.system = same_Some own at.system (c.in-Some-system_at.ensures ∙ at.there) in
    let same : at.system ≡ s =
    same_clock g at.system s c.well_formed-2.ensures.network
    (In-slice_get at.system g.systems c.in-Some.place at.there) live (at.is ∙ sym is) in
    ap (λ (t : System). t.ports) (one ∙ same)

pub returns-in-None : goal.returns-in-None
returns-in-None c = λ s live is.
    let (place, has) = place_of_system c.args.snapshot.now s c.args.clock live is in
    let only = c.in-None.ensures.only place has in
    absurd cc
