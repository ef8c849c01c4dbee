-- One link more is looked at.
use Rattle.gptp_how_soon.proofs.LinksLemmas.{lost_so_far}
use Rattle.gptp_how_soon.proofs.links.lost_among.Goals as goal

pub loop-place-preserved : goal.loop-place-preserved
loop-place-preserved c =
    lost_so_far c.args.used_before.now c.args.used.now c.loop-place.place _ c.is_gone.result c.is_used_at.result
    c.loop-place.lost.items _ _ c.loop-place-test.true c.is_used_at.ensures c.is_gone.ensures
    c.in_ok-push.ensures.items c.loop-place.invariant
