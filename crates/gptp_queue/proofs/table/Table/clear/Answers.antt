use Rattle.std.proofs.Common.{refl}
use Rattle.std.proofs.Math.ListN.{length-set}
use Rattle.gptp_queue.proofs.TableLemmas.{cleared}
use Rattle.gptp_queue.proofs.table.Table.clear.Goals as goal

pub returns : goal.returns
returns c =
    let t = c.self.inside in
    rw (← c.self.view_is, cleared t.next t.cells.items c.args.place c.self.invariant, length-set) refl
