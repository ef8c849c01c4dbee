use Rattle.std.proofs.Common.{◌≡◌, ◌==◌, ◌<◌, true, false, length, refl, arith}
use Rattle.std.proofs.lemmas.Bool.Decides.{nat_tests}
use Rattle.gptp_queue.specs.Table.{NO_NUMBER}
use Rattle.gptp_queue.proofs.TableLemmas.{time_there}
use Rattle.gptp_queue.proofs.table.Table.time.Goals as goal

pub returns-then-cell : goal.returns-then-cell
returns-then-cell c =
    let t = c.self.inside in
    let place : c.args.place < length t.cells.items = rw (← c.self.view_is) at c.requires in
    let free : (c.index-cell.result.now.number == NO_NUMBER) ≡ true = grind (arith, nat_tests) in
    rw (← c.self.view_is, time_there t.cells.items c.args.place c.index-cell.result.now place c.index-cell.ensures, free)
    refl

pub returns-else-cell : goal.returns-else-cell
returns-else-cell c =
    let t = c.self.inside in
    let place : c.args.place < length t.cells.items = rw (← c.self.view_is) at c.requires in
    let taken : (c.index-cell.result.now.number == NO_NUMBER) ≡ false = grind (arith, nat_tests) in
    rw (← c.self.view_is, time_there t.cells.items c.args.place c.index-cell.result.now place c.index-cell.ensures, taken)
    refl
