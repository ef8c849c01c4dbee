use Rattle.gptp_queue.proofs.TableLemmas.{places_known}
use Rattle.gptp_queue.proofs.table.Table.places_are_known.Goals as goal

pub returns : goal.returns
returns c = rw (← c.self.view_is) (places_known c.self.inside.cells.items)
