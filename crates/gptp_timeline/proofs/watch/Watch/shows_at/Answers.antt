use Rattle.std.proofs.Common.{◌≡◌, ◌<◌, Some, length, slice_get, sym, subst, ap, ◌∙◌}
use Rattle.std.proofs.lemmas.Option.{same_Some, slice_get-get_or}
use Rattle.gptp_timeline.specs.Compared.{left_by}
use Rattle.gptp_timeline.specs.Shown.{shown_of}
use Rattle.gptp_timeline.specs.Watch.{WatchState}
use Rattle.gptp_timeline.specs.declared.watched.Watched.{Watched}
use Rattle.gptp_timeline.proofs.ComparedLemmas.{left_new}
use Rattle.gptp_timeline.proofs.watch.Watch.shows_at.Goals as goal

pub returns-in-Some-clause-same : goal.returns-in-Some-clause-same
returns-in-Some-clause-same c = λ same x is.
    let items = c.self.inside.systems.items in let place = c.args.place in let z = c.index.result.now in
    let s = c.args.system.now in
    let below = subst (λ (o : WatchState). place < length o.systems) (sym c.self.view_is) c.requires.place in
    let there = slice_get-get_or items place z below ∙ ap Some (sym c.index.ensures) in
    let here = subst (λ (o : WatchState). slice_get o.systems place ≡ Some x) (sym c.self.view_is) is in
    let one : z ≡ x = same_Some z x (sym there ∙ here) in
    subst (λ (y : Watched). left_by c.args.compared (Some s) y.shown ≡ y.shown) one
    (subst (λ last. left_by c.args.compared (Some s) last ≡ last) (sym c.in-Some.is)
    (c.shows_left.ensures.same same))

pub returns-in-Some-clause-other : goal.returns-in-Some-clause-other
returns-in-Some-clause-other c = λ other x is.
    let items = c.self.inside.systems.items in let place = c.args.place in let z = c.index.result.now in
    let s = c.args.system.now in
    let below = subst (λ (o : WatchState). place < length o.systems) (sym c.self.view_is) c.requires.place in
    let there = slice_get-get_or items place z below ∙ ap Some (sym c.index.ensures) in
    let here = subst (λ (o : WatchState). slice_get o.systems place ≡ Some x) (sym c.self.view_is) is in
    let one : z ≡ x = same_Some z x (sym there ∙ here) in
    subst (λ (y : Watched). left_by c.args.compared (Some s) y.shown ≡ Some (shown_of s)) one
    (subst (λ last. left_by c.args.compared (Some s) last ≡ Some (shown_of s)) (sym c.in-Some.is)
    (c.shows_left.ensures.other other))

pub returns-in-None-clause-other : goal.returns-in-None-clause-other
returns-in-None-clause-other c = λ other x is.
    let items = c.self.inside.systems.items in let place = c.args.place in let z = c.index.result.now in
    let s = c.args.system.now in
    let below = subst (λ (o : WatchState). place < length o.systems) (sym c.self.view_is) c.requires.place in
    let there = slice_get-get_or items place z below ∙ ap Some (sym c.index.ensures) in
    let here = subst (λ (o : WatchState). slice_get o.systems place ≡ Some x) (sym c.self.view_is) is in
    let one : z ≡ x = same_Some z x (sym there ∙ here) in
    subst (λ (y : Watched). left_by c.args.compared (Some s) y.shown ≡ Some (shown_of s)) one
    (subst (λ last. left_by c.args.compared (Some s) last ≡ Some (shown_of s)) (sym c.in-None.is)
    (left_new c.args.compared s))
