use Rattle.std.proofs.Common.{◌∙◌, [], length, refl, subst, sym, take}
use Rattle.std.proofs.lemmas.Option.{slice_get_read}
use Rattle.gptp_lists.proofs.MappedLemmas.{taken}
use Rattle.gptp_lists.proofs.SystemSpecLemmas.{In-slice_get}
use Rattle.gptp_components.specs.Search.{IsSpread}
use Rattle.gptp_components.proofs.SpreadLemmas.{spread_none}
use Rattle.gptp_components.proofs.search.reach_next.Goals as goal

pub loop-clock-init : goal.loop-clock-init
loop-clock-init c =
    let g = c.args.snapshot.now in let found = c.args.found.now.items in
    record {
      as_many = c.requires.as_many;
      spread = subst (IsSpread g c.args.distance.now [] 0 0 found found) (sym c.new-waiting.ensures.items)
          (spread_none g c.args.distance.now c.well_formed-2.ensures.network found);
    }

pub put_neighbours-requires-clause-edge : goal.put_neighbours-requires-clause-edge
put_neighbours-requires-clause-edge c =
    let edge = c.args.edge.now in let i = c.loop-clock.clock-index in let clock = c.clock-item.result in
    c.requires.edge clock
    (In-slice_get clock edge i (slice_get_read edge (length edge) i clock refl c.loop-clock-test.true c.clock-item.is))

pub loop-clock-preserved : goal.loop-clock-preserved
loop-clock-preserved c =
    let edge = c.args.edge.now in let i = c.loop-clock.clock-index in let clock = c.clock-item.result in
    let there = slice_get_read edge (length edge) i clock refl c.loop-clock-test.true c.clock-item.is in
    record {
      as_many = c.in_ok-put_neighbours.ensures.as_many ∙ c.loop-clock.invariant.as_many;
      spread = subst (λ us. IsSpread c.args.snapshot.now c.args.distance.now us 0 0 c.args.found.now.items
          c.put_neighbours.new.found.items c.put_neighbours.new.waiting.items) (sym (taken edge i clock there))
          (c.in_ok-put_neighbours.ensures.spread (take i edge) c.args.found.now.items c.loop-clock.invariant.spread);
    }
