use Rattle.std.proofs.Common.{◌<◌, length, get_or, slice_set, ap, ◌∙◌, arith}
use Rattle.std.proofs.lemmas.Grind.{common_steps}
use Rattle.gptp_timeline.specs.ExactReads.{without_reads}
use Rattle.gptp_timeline.proofs.PutLemmas.{changed_more}
use Rattle.gptp_timeline.proofs.exact_reads.clear_reads.Goals as goal

pub loop-place-preserved : goal.loop-place-preserved
loop-place-preserved c =
    let i = c.loop-place.place in let x = c.index_mut.result.now in let ys = c.loop-place.systems.items in
    let old = c.args.systems.now.items in
    let below : i < length old = grind (arith, common_steps) in
    ap (λ z. slice_set ys i (without_reads z)) c.index_mut.ensures.value
    ∙ ap (λ zs. slice_set zs i (without_reads (get_or zs i x))) c.loop-place.invariant
    ∙ changed_more without_reads old i x below
