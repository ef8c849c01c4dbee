use Rattle.std.proofs.Common.{◌≡◌, ap, List, ℕ, slice_get, subst, sym, ◌∙◌}
use Rattle.gptp_model.specs.Views.{rising, rising_clocks}
use Rattle.gptp_model.specs.World.{WorldState}
use Rattle.gptp_world.proofs.world_core.WorldCore.clock_at.Goals as goal

pub returns : goal.returns
returns c =
    let parts = c.self.invariant.stage_kept in
    subst (λ (w : WorldState). c.clock_at.result ≡ slice_get (rising_clocks w) c.args.place) c.self.view_is
    (c.clock_at.ensures ∙ ap (λ (clocks : List ℕ). slice_get (rising clocks) c.args.place) (sym parts.clocks))
