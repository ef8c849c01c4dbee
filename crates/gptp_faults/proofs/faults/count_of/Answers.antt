use Rattle.std.proofs.Common.{sym, ◌∙◌, arith}
use Rattle.gptp_timeline.proofs.CountLemmas.{byte_is, one_at_most}
use Rattle.gptp_faults.proofs.ProgressLemmas.{part_more}
use Rattle.gptp_faults.proofs.faults.count_of.Goals as goal

pub loop-number-preserved : goal.loop-number-preserved
loop-number-preserved c =
    let options = c.args.options.now in let number = c.loop-number.number in
    let one = c.from-found.ensures ∙ byte_is c.belongs.result in
    let so_far = c.loop-number.invariant.0 in let few = c.loop-number.invariant.1 in
    let more = part_more options.parts options.part number c.belongs.result (sym c.belongs.ensures) in
    let most = one_at_most c.belongs.result in (
      omega (arith, one, so_far, more),
      omega (arith, one, few, most),
    )
