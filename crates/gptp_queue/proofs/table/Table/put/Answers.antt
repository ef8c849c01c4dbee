use Rattle.std.proofs.Common.{refl, ◌<◌, length}
use Rattle.std.proofs.Math.ListN.{length-set}
use Rattle.gptp_queue.proofs.TableLemmas.{put_there}
use Rattle.gptp_queue.proofs.table.Table.put.Goals as goal

pub returns : goal.returns
returns c =
    let t = c.self.inside in
    let place : c.args.place < length t.cells.items = rw (← c.self.view_is) at c.requires.place in
    let numbers = rw (← c.self.view_is) at c.requires.numbers in
    rw (
      ← c.self.view_is,
      put_there t.next c.args.time t.cells.items c.args.place numbers c.self.invariant place,
      length-set,
    ) refl
