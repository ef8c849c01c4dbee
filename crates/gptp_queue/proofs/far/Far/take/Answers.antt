use Rattle.std.proofs.Common.{◌∷◌}
use Rattle.gptp_queue.proofs.PartLemmas.{taken_least}
use Rattle.gptp_queue.proofs.far.Far.take.Goals as goal

pub returns-clause-taken : goal.returns-clause-taken
returns-clause-taken c =
    let f = c.self.inside in
    rw (← c.self.view_is)
    (taken_least (f.heap.entries ∷ f.runs.items) (c.take_first.new.heap.entries ∷ c.take_first.new.runs.items) f.at f.first
    c.self.invariant c.take_first.ensures.taken c.take_first.ensures.changed)
