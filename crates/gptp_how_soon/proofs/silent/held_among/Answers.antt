-- One link more is looked at.
use Rattle.std.proofs.Common.{arith}
use Rattle.gptp_how_soon.proofs.SilentLemmas.{held_so_far}
use Rattle.gptp_how_soon.proofs.silent.held_among.Goals as goal

pub loop-place-preserved : goal.loop-place-preserved
loop-place-preserved c =
    let bound = c.held_at.ensures.bound in
    let more = c.max-held.ensures in
    let (so, less) = c.loop-place.invariant in (
      held_so_far c.args.network.now c.args.own c.args.heard.now c.args.standings.now c.loop-place.place _
          c.loop-place.held c.held_at.result c.max-held.result _ c.loop-place-test.true more c.held_at.ensures.is so,
      omega (arith, bound, more, less),
    )
