use Rattle.std.proofs.Common.{◌≡◌, ◌<◌, ◌∙◌, ◌+◌, ◌∷◌, sym, ap, length, get_or, arith}
use Rattle.gptp_queue.specs.Order.{comes_first}
use Rattle.gptp_queue.proofs.PartLemmas.{least_end, least_start, step_stays, step_taken}
use Rattle.gptp_queue.proofs.far.least_of.Goals as goal
use Rattle.gptp_queue.proofs.far.least_of.Goals.{then-comes_first, else-comes_first}

pub loop-kind-init : goal.loop-kind-init
loop-kind-init c =
    let first = c.first-first.ensures in
    (omega arith, first.first, least_start (c.args.heap.now.entries ∷ c.args.runs.now.items) c.first-first.result first.least)

pub loop-kind-preserved : goal.loop-kind-preserved
loop-kind-preserved c =
    let heap = c.args.heap.now.entries in let runs = c.args.runs.now.items in
    let before = c.loop-kind.invariant in let items = c.deref-run-items.ensures.value in
    let within : c.loop-kind.kind < length runs = rw items at c.loop-kind-test.true in
    let is : c.run-item.result ≡ get_or runs c.loop-kind.kind c.run-item.result = rw items at c.run-item.is in
    let head = c.first-head.ensures in
    elim c.if-comes_first.branch [
      | then-comes_first w ↦
          let h = ap (λ o. comes_first o c.loop-kind.first) (sym head.first) ∙ sym c.comes_first.ensures ∙ w.if-comes_first.true in
          let step = step_taken heap runs c.loop-kind.kind c.loop-kind.at c.run-item.result c.loop-kind.first within is
          head.rise before.2 h in
          rw (w.first-is, w.at-is, head.first) (omega arith, step.0, step.1)
      | else-comes_first w ↦
          let h = ap (λ o. comes_first o c.loop-kind.first) (sym head.first) ∙ sym c.comes_first.ensures ∙ w.if-comes_first.false in
          let low = before.0 in
          rw (w.first-is, w.at-is) (
            omega (arith, low),
            before.1,
            step_stays heap runs c.loop-kind.kind c.loop-kind.at c.run-item.result c.loop-kind.first within is head.rise
                before.2 h,
          )
    ]

pub returns-clause-there : goal.returns-clause-there
returns-clause-there c =
    let low = c.loop-kind.invariant.0 in let kind = c.loop-kind.auto.kind-end in
    let items = ap length c.deref-run-items.ensures.value in omega (arith, low, kind, items)

pub returns-clause-first : goal.returns-clause-first
returns-clause-first c = c.loop-kind.invariant.1

pub returns-clause-least : goal.returns-clause-least
returns-clause-least c =
    let end = c.loop-kind-test.false in let items = ap length c.deref-run-items.ensures.value in
    least_end (c.args.heap.now.entries ∷ c.args.runs.now.items) (c.loop-kind.kind + 1) c.loop-kind.first
    (omega (arith, end, items)) c.loop-kind.invariant.2
