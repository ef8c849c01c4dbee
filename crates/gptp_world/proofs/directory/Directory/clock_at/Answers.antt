use Rattle.std.proofs.Common.{◌≡◌, ap, List, ℕ, slice_get, subst, ◌∙◌}
use Rattle.gptp_world.specs.Directory.{DirectoryState}
use Rattle.gptp_model.specs.Views.{rising}
use Rattle.gptp_model.proofs.RisingLemmas.{rising-is}
use Rattle.gptp_world.proofs.directory.Directory.clock_at.Goals as goal

pub returns : goal.returns
returns c =
    let inside = c.self.inside in let order = c.self.invariant.order in
    let are = rising-is inside.clocks.items inside.rising.items order.all order.order in
    let there = c.clock_among.ensures ∙ ap (λ (v : List ℕ). slice_get v c.args.rank) (c.deref.ensures.value ∙ are) in
    subst (λ (d : DirectoryState). c.clock_among.result ≡ slice_get (rising d.clocks) c.args.rank) c.self.view_is there
