-- One link more is looked at.
use Rattle.gptp_how_soon.proofs.SilentLemmas.{heard_so_far}
use Rattle.gptp_how_soon.proofs.silent.heard_links.Goals as goal

pub loop-place-preserved : goal.loop-place-preserved
loop-place-preserved c =
    heard_so_far c.args.systems.now c.args.before.now c.args.used_before.now c.args.ends.now
    c.loop-place.place _ c.hears_over-hears.result c.is_heard.result c.loop-place.heard.items _ _
    c.loop-place-test.true c.hears_over-hears.ensures c.is_heard.ensures c.in_ok-push.ensures.items c.loop-place.invariant
