use Rattle.gptp_queue.proofs.PartLemmas.{changed_at, taken_at}
use Rattle.gptp_queue.proofs.far.take_first.Goals as goal

pub returns-else-at-eq0-clause-taken : goal.returns-else-at-eq0-clause-taken
returns-else-at-eq0-clause-taken c =
    taken_at c.args.heap.now.entries c.args.runs.now.items c.index_mut.result.now c.take-else-at-eq0.new.self c.args.at
    c.if-at-eq0.false c.requires c.index_mut.ensures.value c.take-else-at-eq0.ensures

pub returns-else-at-eq0-clause-changed : goal.returns-else-at-eq0-clause-changed
returns-else-at-eq0-clause-changed c =
    changed_at c.args.heap.now.entries c.args.runs.now.items c.index_mut.result.now c.take-else-at-eq0.new.self c.args.at
    c.if-at-eq0.false c.requires
