use Rattle.std.proofs.Common.{◌≡◌, ◌<◌, Some, length, slice_get, slice_set, sym, subst, refl, ap, ◌∙◌}
use Rattle.std.proofs.lemmas.Option.{same_Some, slice_get-get_or}
use Rattle.gptp_graph.specs.Order.{IsRising}
use Rattle.gptp_lists.proofs.PlaceLemmas.{map-set_same}
use Rattle.gptp_timeline.specs.Watch.{taken, watched_after, WatchState}
use Rattle.gptp_timeline.specs.declared.watched.Watched.{Watched}
use Rattle.gptp_timeline.proofs.PlaceLemmas.{clock_of_watched}
use Rattle.gptp_timeline.proofs.watch.Watch.take.Goals as goal

pub invariant_of-self : goal.invariant_of-self
invariant_of-self c =
    let items = c.self.inside.systems.items in let place = c.args.place in let x = c.index-system.result.now in
    let y : Watched = record {
      clock = x.clock;
      shown = c.args.after;
      since = c.since_behind-since.result;
      error = x.error;
    } in
    let below = subst (λ (o : WatchState). place < length o.systems) (sym c.self.view_is) c.requires in
    let there = slice_get-get_or items place x below ∙ ap Some (sym c.index-system.ensures) in
    subst IsRising (sym (map-set_same clock_of_watched items place x y there refl)) c.self.invariant

pub returns : goal.returns
returns c = λ x is.
    let inside = c.self.inside in
    let items = inside.systems.items in let place = c.args.place in let z = c.index-system.result.now in
    let look = c.args.look in let after = c.args.after in
    let below = subst (λ (o : WatchState). place < length o.systems) (sym c.self.view_is) c.requires in
    let there = slice_get-get_or items place z below ∙ ap Some (sym c.index-system.ensures) in
    let here = subst (λ (o : WatchState). slice_get o.systems place ≡ Some x) (sym c.self.view_is) is in
    let same : z ≡ x = same_Some z x (sym there ∙ here) in
    let view : WatchState = record {
      summary = inside.summary;
      offsets = inside.offsets;
      exact_from = inside.exact_from;
      systems = items;
      measures = inside.measures;
      times = inside.times;
    } in
    ap (λ s. record view {
      systems = slice_set items place (record { clock = z.clock; shown = after; since = s; error = z.error });
      measures = c.measures_after-measures.result;
    }) c.since_behind-since.ensures
    ∙ ap (λ m. record view { systems = slice_set items place (watched_after look after z); measures = m })
    c.measures_after-measures.ensures
    ∙ ap (λ v. taken look place v after view) same
    ∙ ap (taken look place x after) c.self.view_is
