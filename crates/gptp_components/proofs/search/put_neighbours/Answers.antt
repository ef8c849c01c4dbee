use Rattle.std.proofs.Common.{◌∙◌, arith}
use Rattle.gptp_components.proofs.SpreadLemmas.{spread_at, spread_done}
use Rattle.gptp_components.proofs.search.put_neighbours.Goals as goal

pub loop-index-init : goal.loop-index-init
loop-index-init c = record {
  as_many = c.requires.as_many;
  spread = λ us before spread.
      spread_at c.args.snapshot.now c.args.distance.now c.well_formed-2.ensures.network us 0 c.args.clock before
      c.args.found.now.items c.args.waiting.now.items spread;
}

pub loop-index-preserved : goal.loop-index-preserved
loop-index-preserved c =
    let index_is = c.from-port.ensures in
    record {
      as_many = c.in_ok-put_over.ensures.as_many ∙ c.loop-index.invariant.as_many;
      spread = λ us before spread.
          c.in_ok-put_over.ensures.spread us c.loop-index.index before (omega (arith, index_is))
          (c.loop-index.invariant.spread us before spread);
    }

pub returns-clause-spread : goal.returns-clause-spread
returns-clause-spread c = λ us before spread.
    let end = c.loop-index.auto.index-end in let past = c.loop-index-test.false in
    spread_done c.args.snapshot.now c.args.distance.now c.well_formed-2.ensures.network us c.args.clock
    c.loop-index.index before c.loop-index.found.items c.loop-index.waiting.items
    (λ s live is. let ports = c.ports_of-ports.ensures s live is in omega (arith, end, past, ports))
    (c.loop-index.invariant.spread us before spread)
