use Rattle.std.proofs.Common.{◌≡◌, ◌<◌, Some, length, slice_get, sym, subst, ap, ◌∙◌}
use Rattle.std.proofs.lemmas.Option.{same_Some, slice_get-get_or}
use Rattle.gptp_timeline.specs.Watch.{waits_on, WatchState}
use Rattle.gptp_timeline.specs.declared.watched.Watched.{Watched}
use Rattle.gptp_timeline.proofs.StillLemmas.{taken_same}
use Rattle.gptp_timeline.proofs.watch.Watch.waits_on_at.Goals as goal

pub returns : goal.returns
returns c = λ so x is.
    let items = c.self.inside.systems.items in let place = c.args.place in let look = c.args.look in
    let z = c.index.result.now in
    let below = subst (λ (o : WatchState). place < length o.systems) (sym c.self.view_is) c.requires in
    let there = slice_get-get_or items place z below ∙ ap Some (sym c.index.ensures) in
    let here = subst (λ (o : WatchState). slice_get o.systems place ≡ Some x) (sym c.self.view_is) is in
    let one : z ≡ x = same_Some z x (sym there ∙ here) in
    taken_same look x (ap (λ (y : Watched). waits_on look y) (sym one) ∙ sym c.waits_on.ensures ∙ so) place
    c.args.self.now is
