-- One link more is looked at.
use Rattle.gptp_how_soon.proofs.RoundsLemmas.{used_so_far}
use Rattle.gptp_how_soon.proofs.chosen.ends_in_use.Goals as goal

pub loop-place-preserved : goal.loop-place-preserved
loop-place-preserved c =
    used_so_far c.args.ends.now c.args.used.now c.loop-place.place _ c.is_used_at.result c.loop-place.links.items _ _
    c.loop-place-test.true c.is_used_at.ensures c.in_ok-push_used.ensures c.loop-place.invariant
