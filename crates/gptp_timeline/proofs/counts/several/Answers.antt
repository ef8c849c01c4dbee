use Rattle.std.proofs.Common.{◌+◌, drop, nat_lt, ap, ◌∙◌, arith}
use Rattle.std.specs.List.{count_by}
use Rattle.gptp_timeline.specs.Stretch.{distinct, times}
use Rattle.gptp_timeline.proofs.CountLemmas.{byte_is, several_more, one_at_most}
use Rattle.gptp_timeline.proofs.counts.several.Goals as goal

pub loop-place-preserved : goal.loop-place-preserved
loop-place-preserved c =
    let roots = c.args.roots.now in let place = c.loop-place.place in let count = c.loop-place.count in
    let last = c.is_last_of_several.result in
    let one = c.from-count.ensures ∙ byte_is last in
    let few = c.loop-place.invariant.1 in let most = one_at_most last in (
      ap (λ n. count + n + count_by (λ root. nat_lt 1 (times roots root)) (distinct (drop (place + 1) roots))) one
          ∙ several_more roots place count last c.loop-place-test.true c.is_last_of_several.ensures
          c.loop-place.invariant.0,
      omega (arith, one, few, most),
    )
