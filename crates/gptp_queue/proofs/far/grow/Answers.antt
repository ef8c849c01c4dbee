use Rattle.std.proofs.Common.{◌∙◌, ◌<◌, length, arith}
use Rattle.std.proofs.Math.ListN.{length-set}
use Rattle.gptp_queue.proofs.OrderLemmas.{swept_same}
use Rattle.gptp_queue.specs.Order.{among}
use Rattle.gptp_queue.proofs.PartLemmas.{swept_all, swept_one}
use Rattle.gptp_queue.proofs.far.grow.Goals as goal

pub loop-kind-preserved : goal.loop-kind-preserved
loop-kind-preserved c =
    let es = c.args.table.now.entries in
    let same = c.loop-kind.invariant.1 in let test = c.loop-kind-test.true in let len = c.len-kind-end.ensures in
    let all = c.args.runs.now.ok.0 in
    let within : c.loop-kind.kind < length c.loop-kind.runs.items = omega (arith, same, test, len, all) in (
      swept_one es c.args.runs.now.items c.loop-kind.runs.items c.loop-kind.kind c.index_mut.result.now c.grow.new.self
          within c.index_mut.ensures.value c.grow.ensures c.loop-kind.invariant.0,
      length-set c.loop-kind.runs.items c.loop-kind.kind c.grow.new.self ∙ same,
    )

pub returns-in_err-grow-clause-swept : goal.returns-in_err-grow-clause-swept
returns-in_err-grow-clause-swept c =
    let es = c.args.table.now.entries in
    let same = c.loop-kind.invariant.1 in let test = c.loop-kind-test.true in let len = c.len-kind-end.ensures in
    let all = c.args.runs.now.ok.0 in
    let within : c.loop-kind.kind < length c.loop-kind.runs.items = omega (arith, same, test, len, all) in
    swept_all es c.args.heap.now.entries c.args.heap.now.entries c.args.runs.now.items _
    (swept_same es (among c.args.heap.now.entries))
    (swept_one es c.args.runs.now.items c.loop-kind.runs.items c.loop-kind.kind c.index_mut.result.now c.grow.new.self within
    c.index_mut.ensures.value c.grow.ensures c.loop-kind.invariant.0)

pub returns-clause-swept : goal.returns-clause-swept
returns-clause-swept c =
    swept_all c.args.table.now.entries c.args.heap.now.entries c.reserve.new.self.entries c.args.runs.now.items
    c.loop-kind.runs.items c.reserve.ensures.swept c.loop-kind.invariant.0
