use Rattle.std.proofs.Common.{◌≡◌, ◌<◌, Some, length, slice_get, slice_set, sym, subst, refl, ap, ◌∙◌}
use Rattle.std.proofs.lemmas.Option.{same_Some, slice_get-get_or}
use Rattle.gptp_graph.specs.Order.{IsRising}
use Rattle.gptp_lists.proofs.PlaceLemmas.{map-set_same}
use Rattle.gptp_timeline.specs.Measures.{better_if}
use Rattle.gptp_timeline.specs.Watch.{since_behind, taken, wait_behind, watched_after, WatchState}
use Rattle.gptp_timeline.specs.declared.watched.Watched.{Watched}
use Rattle.gptp_timeline.proofs.PlaceLemmas.{clock_of_watched}
use Rattle.gptp_timeline.proofs.StillLemmas.{measures_same}
use Rattle.gptp_timeline.proofs.watch.Watch.take_wait.Goals as goal

pub invariant_of-self : goal.invariant_of-self
invariant_of-self c =
    let items = c.self.inside.systems.items in let place = c.args.place in let x = c.index_mut.result.now in
    let y : Watched = record x { since = c.since_behind-since.result } in
    let below = subst (λ (o : WatchState). place < length o.systems) (sym c.self.view_is) c.requires in
    let there = slice_get-get_or items place x below ∙ ap Some (sym c.index_mut.ensures.value) in
    subst IsRising (sym (map-set_same clock_of_watched items place x y there refl)) c.self.invariant

pub returns : goal.returns
returns c = λ x is.
    let inside = c.self.inside in
    let items = inside.systems.items in let place = c.args.place in let look = c.args.look in
    let z = c.index-system.result.now in let m = c.index_mut.result.now in
    let below = subst (λ (o : WatchState). place < length o.systems) (sym c.self.view_is) c.requires in
    let here = subst (λ (o : WatchState). slice_get o.systems place ≡ Some x) (sym c.self.view_is) is in
    let one : z ≡ x =
    same_Some z x (ap Some c.index-system.ensures ∙ sym (slice_get-get_or items place z below) ∙ here) in
    let again : m ≡ x =
    same_Some m x (ap Some c.index_mut.ensures.value ∙ sym (slice_get-get_or items place m below) ∙ here) in
    let view : WatchState = record {
      summary = inside.summary;
      offsets = inside.offsets;
      exact_from = inside.exact_from;
      systems = items;
      measures = inside.measures;
      times = inside.times;
    } in
    let wait : c.better_if-self-inside.result ≡ better_if inside.measures.holdover (wait_behind look x x.shown) =
    c.better_if-self-inside.ensures
    ∙ ap (better_if inside.measures.holdover) (c.wait_behind-wait.ensures
    ∙ ap (λ (v : Watched). wait_behind look v v.shown) one) in
    let since : c.since_behind-since.result ≡ since_behind look x x.shown =
    c.since_behind-since.ensures ∙ ap (λ (v : Watched). since_behind look v v.shown) one in
    ap (λ s. record view {
      systems = slice_set items place (record m { since = s });
      measures = record inside.measures { holdover = c.better_if-self-inside.result };
    }) since
    ∙ ap (λ b. record view {
      systems = slice_set items place (record m { since = since_behind look x x.shown });
      measures = record inside.measures { holdover = b };
    }) wait
    ∙ ap (λ (v : Watched). record view {
      systems = slice_set items place (record v { since = since_behind look x x.shown });
      measures = record inside.measures { holdover = better_if inside.measures.holdover (wait_behind look x x.shown) };
    }) again
    ∙ ap (λ n. record view { systems = slice_set items place (watched_after look x.shown x); measures = n })
    (sym (measures_same look x inside.measures))
    ∙ ap (taken look place x x.shown) c.self.view_is
