-- The closure gives a system's clock.
use Rattle.std.proofs.Common.{rules, ◌∙◌, ap, sym}
use Rattle.std.proofs.lemmas.List.Sorted.{answers_always}
use Rattle.gptp_timeline.proofs.PlaceLemmas.{clock_of_watched, error_at_place, error_of_place, error_searched}
use Rattle.gptp_timeline.proofs.stretch.error_at.Goals as goal

pub returns-in-Ok : goal.returns-in-Ok
returns-in-Ok c =
    let facts = c.binary_search_by_key.ensures in
    let by_clock = facts.position clock_of_watched (answers_always _ _ _ (λ f a r g called. search rules)) in
    let all = error_searched c.args.systems.now c.args.clock c.requires c.binary_search_by_key.result facts.bound
    by_clock in
    error_at_place c.args.systems.now c.args.clock c.in-Ok.place c.index-systems-place.result
    c.binary_search_by_key.result c.in-Ok.is facts.bound all

pub returns-in-Err : goal.returns-in-Err
returns-in-Err c =
    let facts = c.binary_search_by_key.ensures in
    let by_clock = facts.position clock_of_watched (answers_always _ _ _ (λ f a r g called. search rules)) in
    let all = error_searched c.args.systems.now c.args.clock c.requires c.binary_search_by_key.result facts.bound
    by_clock in
    ap (error_of_place c.args.systems.now) (sym c.in-Err.is) ∙ all
