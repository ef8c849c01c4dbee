use Rattle.std.proofs.Common.{refl, ◌∙◌, arith}
use Rattle.gptp_checker.proofs.PortLemmas.{numbers_at, numbers_by, numbers_length}
use Rattle.gptp_checker.proofs.systems.are_all_ports.Goals as goal

pub returns-then-ports-from : goal.returns-then-ports-from
returns-then-ports-from c = (
  (λ t. absurd cc),
  (λ e.
      let n = numbers_length c.args.ports.now 1 c.args.count e in
      let count = c.from.ensures in
      absurd (c.if-ports-from.true (omega arith))),
)

pub returns-then-from-index : goal.returns-then-from-index
returns-then-from-index c = (
  (λ t. absurd cc),
  (λ e.
      let n = numbers_length c.args.ports.now 1 c.args.count e in
      let b = c.loop-index-test.true in
      let at = numbers_at c.args.ports.now 1 c.args.count c.loop-index.index e (omega arith) in
      absurd (c.if-from-index.true (c.from-in-loop-index.ensures ∙ at))),
)

pub returns : goal.returns
returns c = (
  (λ t. numbers_by c.args.ports.now 1 c.args.count (c.if-ports-from.false ∙ c.from.ensures)
      (λ i b.
      let end = c.loop-index-test.false in
      let n = c.if-ports-from.false in
      let count = c.from.ensures in
      c.loop-index.invariant i (omega arith))),
  (λ e. refl),
)
