use Rattle.std.proofs.Common.{◌∙◌, subst, sym, arith}
use Rattle.gptp_components.specs.Search.{AreAllFound}
use Rattle.gptp_components.proofs.RankedLemmas.{all_by_rank, found_nothing}
use Rattle.gptp_components.proofs.search.distances.Goals as goal

pub loop-rank-init : goal.loop-rank-init
loop-rank-init c =
    found_nothing c.args.snapshot.now c.in_ok-ranked.ranked.items c.in_ok-found.found.items
    (c.in_ok-found.ensures.as_many ∙ c.systems.ensures) c.in_ok-found.ensures.nothing

pub all_found-requires : goal.all_found-requires
all_found-requires c =
    let ids = c.in_ok-ranked.ranked.items in
    let past = c.loop-rank-test.false in let len = c.len-rank-end.ensures in
    subst (AreAllFound c.args.snapshot.now) (sym c.deref-2.ensures.value)
    (all_by_rank c.args.snapshot.now ids c.loop-rank.rank c.loop-rank.found.items c.well_formed-2.ensures.rising
    c.in_ok-ranked.ensures (omega (arith, past, len)) c.loop-rank.invariant)
