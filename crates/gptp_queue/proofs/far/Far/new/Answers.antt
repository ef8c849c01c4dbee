use Rattle.std.proofs.Common.{◌∷◌, arith, refl}
use Rattle.gptp_queue.proofs.PartLemmas.{none_there}
use Rattle.gptp_queue.proofs.far.Far.new.Goals as goal

pub invariant_of-result : goal.invariant_of-result
invariant_of-result c =
    let heap = c.new-2.ensures in
    rw c.none.ensures (record {
      there = omega arith;
      is_first = rw heap refl;
      least = none_there (c.new-2.result.entries ∷ c.loop-kind.runs.items) (heap, c.loop-kind.invariant);
    })
