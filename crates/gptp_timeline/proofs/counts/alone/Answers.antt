use Rattle.std.proofs.Common.{◌+◌, ◌==◌, drop, ap, ◌∙◌, arith}
use Rattle.std.specs.List.{count_by}
use Rattle.gptp_timeline.specs.Stretch.{times}
use Rattle.gptp_timeline.proofs.CountLemmas.{byte_is, one_at_most}
use Rattle.gptp_timeline.proofs.RootLemmas.{alone_more}
use Rattle.gptp_timeline.proofs.counts.alone.Goals as goal

pub loop-place-preserved : goal.loop-place-preserved
loop-place-preserved c =
    let roots = c.args.roots.now in let place = c.loop-place.place in let count = c.loop-place.count in
    let is = c.is_alone.result in
    let one = c.from-count.ensures ∙ byte_is is in
    let few = c.loop-place.invariant.1 in let most = one_at_most is in (
      ap (λ n. count + n + count_by (λ root. times roots root == 1) (drop (place + 1) roots)) one
          ∙ alone_more roots place count is c.loop-place-test.true c.is_alone.ensures c.loop-place.invariant.0,
      omega (arith, one, few, most),
    )
