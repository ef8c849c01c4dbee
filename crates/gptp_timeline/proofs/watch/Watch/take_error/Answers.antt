use Rattle.std.proofs.Common.{◌≡◌, ◌<◌, ℤ, Some, length, option_map, slice_get, slice_set, unsigned_abs, sym, subst, refl, ap, ◌∙◌}
use Rattle.std.proofs.lemmas.Option.{same_Some, slice_get-get_or}
use Rattle.gptp_graph.specs.Order.{IsRising}
use Rattle.gptp_lists.proofs.PlaceLemmas.{map-set_same}
use Rattle.gptp_timeline.specs.Measures.{better_if, one_at}
use Rattle.gptp_timeline.specs.Watch.{counts_from, error_after, take_error, WatchState}
use Rattle.gptp_timeline.specs.declared.watched.Watched.{Watched}
use Rattle.gptp_timeline.proofs.PlaceLemmas.{clock_of_watched}
use Rattle.gptp_timeline.proofs.watch.Watch.take_error.Goals as goal

pub invariant_of-self : goal.invariant_of-self
invariant_of-self c =
    let items = c.self.inside.systems.items in let place = c.args.place in let x = c.index_mut.result.now in
    let y : Watched = record { clock = x.clock; shown = x.shown; since = x.since; error = c.error_after.result } in
    let below = subst (λ (o : WatchState). place < length o.systems) (sym c.self.view_is) c.requires in
    let there = slice_get-get_or items place x below ∙ ap Some (sym c.index_mut.ensures.value) in
    subst IsRising (sym (map-set_same clock_of_watched items place x y there refl)) c.self.invariant

pub returns : goal.returns
returns c =
    let inside = c.self.inside in
    let items = inside.systems.items in let at = c.args.at in let place = c.args.place in let error = c.args.error in
    let x = c.index_mut.result.now in let first = c.index.result.now in let second = c.index-2.result.now in
    let below = subst (λ (o : WatchState). place < length o.systems) (sym c.self.view_is) c.requires in
    let there = slice_get-get_or items place x below ∙ ap Some (sym c.index_mut.ensures.value) in
    let same : first ≡ x =
    same_Some first x (ap Some c.index.ensures ∙ sym (slice_get-get_or items place first below) ∙ there) in
    let again : second ≡ x =
    same_Some second x (ap Some c.index-2.ensures ∙ sym (slice_get-get_or items place second below) ∙ there) in
    let counts = counts_from inside.exact_from at in
    let view : WatchState = record {
      summary = inside.summary;
      offsets = inside.offsets;
      exact_from = inside.exact_from;
      systems = items;
      measures = inside.measures;
      times = inside.times;
    } in
    let worst : c.better_if-self-inside.result
    ≡ better_if inside.measures.error (option_map (λ (e : ℤ). one_at x.clock (unsigned_abs e)) error) =
    c.better_if-self-inside.ensures
    ∙ ap (better_if inside.measures.error) (c.amount_at.ensures
    ∙ ap (λ (z : Watched). option_map (λ (e : ℤ). one_at z.clock (unsigned_abs e)) error) same) in
    let most : c.error_after.result ≡ error_after counts x.error (option_map unsigned_abs error) =
    c.error_after.ensures
    ∙ ap (λ n. error_after n second.error c.amount_of.result) c.counts_from-counts.ensures
    ∙ ap (λ (z : Watched). error_after counts z.error c.amount_of.result) again
    ∙ ap (error_after counts x.error) c.amount_of.ensures in
    ap (λ e. record view {
      systems = slice_set items place (record { clock = x.clock; shown = x.shown; since = x.since; error = e });
      measures = record inside.measures { error = c.better_if-self-inside.result };
    }) most
    ∙ ap (λ b. record view {
      systems = slice_set items place (record x { error = error_after counts x.error (option_map unsigned_abs error) });
      measures = record inside.measures { error = b };
    }) worst
    ∙ ap (λ y. take_error at place y error view) (sym there)
    ∙ ap (λ (o : WatchState). take_error at place (slice_get o.systems place) error o) c.self.view_is
