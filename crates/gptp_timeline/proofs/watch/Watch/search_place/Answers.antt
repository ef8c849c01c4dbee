-- The closure gives a system's clock.
use Rattle.std.proofs.Common.{◌≡◌, rules, Some, IfSome, slice_get, ◌∙◌, ap, sym, subst}
use Rattle.std.specs.Result.{result_ok}
use Rattle.std.proofs.lemmas.List.Sorted.{answers_always}
use Rattle.gptp_timeline.specs.Watch.{place_from, WatchedRise, WatchState}
use Rattle.gptp_timeline.specs.declared.watched.Watched.{Watched}
use Rattle.gptp_timeline.proofs.PlaceLemmas.{clock_of_watched, named_there, searched}
use Rattle.gptp_timeline.proofs.watch.Watch.search_place.Goals as goal

pub returns-clause-is : goal.returns-clause-is
returns-clause-is c =
    let facts = c.binary_search_by_key.ensures in
    let by_clock = facts.position clock_of_watched (answers_always _ _ _ (λ f a r g called. search rules)) in
    let kept = c.deref.ensures.value in
    c.ok.ensures.value
    ∙ searched c.deref.result.now c.args.clock (subst WatchedRise (sym kept) c.self.invariant)
    c.binary_search_by_key.result facts.bound by_clock
    ∙ ap (place_from c.args.clock 0) (kept ∙ ap (λ (o : WatchState). o.systems) c.self.view_is)

pub returns-clause-named : goal.returns-clause-named
returns-clause-named c =
    let facts = c.binary_search_by_key.ensures in
    let by_clock = facts.position clock_of_watched (answers_always _ _ _ (λ f a r g called. search rules)) in
    let kept = c.deref.ensures.value in
    let there = ap (λ (o : WatchState). o.systems) c.self.view_is in
    subst (λ r. IfSome r (λ place. (x : Watched) → slice_get c.args.self.now.systems place ≡ Some x
    → x.clock ≡ c.args.clock)) (sym c.ok.ensures.value)
    (subst (λ xs. IfSome (result_ok c.binary_search_by_key.result)
    (λ place. (x : Watched) → slice_get xs place ≡ Some x → x.clock ≡ c.args.clock)) (kept ∙ there)
    (named_there c.deref.result.now c.args.clock (subst WatchedRise (sym kept) c.self.invariant)
    c.binary_search_by_key.result facts.bound by_clock))
