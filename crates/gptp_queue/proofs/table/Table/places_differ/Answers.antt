use Rattle.gptp_queue.proofs.TableLemmas.{differ-from}
use Rattle.gptp_queue.proofs.table.Table.places_differ.Goals as goal

pub returns : goal.returns
returns c = rw (← c.self.view_is) (differ-from 0 c.self.inside.cells.items)
