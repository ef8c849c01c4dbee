use Rattle.std.proofs.Common.{◌≡◌, ◌<◌, ◌≤◌, false, length, nat_lt, refl, arith}
use Rattle.std.proofs.lemmas.Bool.Decides.{nat_tests}
use Rattle.gptp_queue.proofs.TableLemmas.{current_in_cell, current_nowhere}
use Rattle.gptp_queue.proofs.table.Table.holds.Goals as goal

pub returns-in-Some : goal.returns-in-Some
returns-in-Some c =
    let t = c.self.inside in let e = c.entry.inside in let look = c.in-Some.ensures.lookup in
    let place : e.place < length t.cells.items = rw c.deref.ensures.value at look.3.0 in
    let read = rw c.deref.ensures.value at look.1 in
    let at = current_in_cell (record { time = e.time; number = e.number; place = e.place }) t.next t.cells.items
    c.in-Some.cell.now c.self.invariant c.entry.invariant place read in
    rw (← c.self.view_is, ← c.entry.view_is, at) refl

pub returns-in-None : goal.returns-in-None
returns-in-None c =
    let t = c.self.inside in let e = c.entry.inside in
    let look : false ≡ nat_lt e.place (length t.cells.items) = rw c.deref.ensures.value at c.in-None.ensures.lookup.0 in
    let past : length t.cells.items ≤ e.place = grind (arith, nat_tests) in
    let at = current_nowhere (record { time = e.time; number = e.number; place = e.place }) t.next t.cells.items
    c.self.invariant past in
    rw (← c.self.view_is, ← c.entry.view_is, at) refl
