use Rattle.std.proofs.Common.{subst, sym}
use Rattle.std.proofs.lemmas.Option.{none-some}
use Rattle.gptp_model.specs.Acts.{AtSystem}
use Rattle.gptp_world.specs.WorldParts.{world_of}
use Rattle.gptp_model.specs.Views.{ShowsTime}
use Rattle.gptp_world.proofs.ActTargetLemmas.{no_system}
use Rattle.gptp_world.proofs.world_core.WorldCore.local.Goals as goal

pub returns-in-None-clause-none : goal.returns-in-None-clause-none
returns-in-None-clause-none c = λ shown shows.
    let parts = c.self.inside.parts in
    let at : AtSystem c.args.clock (world_of parts) (ShowsTime c.args.t shown) =
    subst (λ w. AtSystem c.args.clock w (ShowsTime c.args.t shown)) (sym c.self.view_is) shows in
    no_system parts c.args.clock c.self.invariant.stage_kept
    (λ place there. none-some place (c.in-None.ensures.only place there))
    (record { place = at.place; station = at.station; is = at.is; so = tt })
