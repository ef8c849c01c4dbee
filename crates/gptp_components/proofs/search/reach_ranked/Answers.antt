use Rattle.std.proofs.Common.{length, refl, subst, sym}
use Rattle.std.proofs.lemmas.Option.{slice_get_read}
use Rattle.std.proofs.lemmas.Result.{on_ok_weaker}
use Rattle.gptp_components.specs.Search.{IsFound}
use Rattle.gptp_components.proofs.RankedLemmas.{clock_named, found_ranked, new_root, passed_ranked}
use Rattle.gptp_components.proofs.search.reach_ranked.Goals as goal

pub returns-in-Some : goal.returns-in-Some
returns-in-Some c =
    let g = c.args.snapshot.now in let ids = c.args.ranked.now in let root = c.index-ranked-rank.result in
    let wf = c.well_formed-2.ensures.network in
    passed_ranked g wf ids c.requires.ranked c.args.rank root
    (slice_get_read ids (length ids) c.args.rank root refl c.requires.rank c.index-ranked-rank.is)
    c.args.found.now.items c.requires.before c.clock.result (clock_named g wf root c.clock.result c.clock.ensures)
    c.in-Some.field-0
    (subst (λ t. IsFound g t c.clock.result c.in-Some.field-0) c.deref.ensures.value c.in-Some.ensures.some)

pub reach_component-requires-clause-best : goal.reach_component-requires-clause-best
reach_component-requires-clause-best c =
    let g = c.args.snapshot.now in let ids = c.args.ranked.now in let root = c.index-ranked-rank.result in
    let wf = c.well_formed-2.ensures.network in
    new_root g wf ids c.requires.ranked c.args.rank root
    (slice_get_read ids (length ids) c.args.rank root refl c.requires.rank c.index-ranked-rank.is)
    c.args.found.now.items c.requires.before c.clock.result (clock_named g wf root c.clock.result c.clock.ensures)
    (λ d is. c.in-None.ensures.none d (subst (λ t. IsFound g t c.clock.result d) (sym c.deref.ensures.value) is))

pub returns-in-None : goal.returns-in-None
returns-in-None c =
    let g = c.args.snapshot.now in let ids = c.args.ranked.now in let root = c.index-ranked-rank.result in
    let wf = c.well_formed-2.ensures.network in
    let at = slice_get_read ids (length ids) c.args.rank root refl c.requires.rank c.index-ranked-rank.is in
    let new = new_root g wf ids c.requires.ranked c.args.rank root at
    c.args.found.now.items c.requires.before c.clock.result (clock_named g wf root c.clock.result c.clock.ensures)
    (λ d is. c.in-None.ensures.none d (subst (λ t. IsFound g t c.clock.result d) (sym c.deref.ensures.value) is)) in
    on_ok_weaker c.reach_component.result
    (λ component. found_ranked g wf ids c.requires.ranked c.args.rank root at c.args.found.now.items c.requires.before
    c.reach_component.new.found.items new component)
    c.reach_component.ensures
