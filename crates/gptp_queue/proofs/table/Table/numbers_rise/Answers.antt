use Rattle.gptp_queue.proofs.TableLemmas.{rises-from}
use Rattle.gptp_queue.proofs.table.Table.numbers_rise.Goals as goal

pub returns : goal.returns
returns c = rw (← c.self.view_is) (rises-from c.self.inside.next 0 c.self.inside.cells.items c.self.invariant)
