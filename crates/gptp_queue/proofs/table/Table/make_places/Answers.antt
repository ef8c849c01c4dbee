use Rattle.std.proofs.Common.{◌≡◌, ◌∙◌, ◌-◌, ◌<◌, ◌++◌, ℕ, ap, length, max, refl, replicate, take, arith}
use Rattle.gptp_queue.specs.Table.{free_cell}
use Rattle.gptp_queue.proofs.TableLemmas.{more_places}
use Rattle.gptp_queue.proofs.table.Table.make_places.Goals as goal

fewer : (c : goal.In_ok-resize) → length c.self.inside.cells.items < c.args.places
fewer c =
    let len = c.self.inside.cells.ok.0 in let test = c.if-len-places.true in let is = c.len.ensures in
    omega (arith, len, test, is)

items : (c : goal.In_ok-resize) → c.resize.new.self.items
    ≡ take c.args.places c.self.inside.cells.items
    ++ replicate (c.args.places - length c.self.inside.cells.items) free_cell
items c =
    c.in_ok-resize.ensures.items
    ∙ ap (λ (n : ℕ). take c.args.places c.self.inside.cells.items ++ replicate (c.args.places - n) free_cell)
    c.self.inside.cells.ok.0

pub invariant_of-self : goal.invariant_of-self
invariant_of-self c =
    let t = c.self.inside in
    (more_places t.next c.args.places t.cells.items c.resize.new.self.items (fewer c) (items c)).1 c.self.invariant

pub returns-in_ok-resize-clause-ok : goal.returns-in_ok-resize-clause-ok
returns-in_ok-resize-clause-ok c =
    let t = c.self.inside in
    let more = more_places t.next c.args.places t.cells.items c.resize.new.self.items (fewer c) (items c) in
    let less = fewer c in
    let most : max (length t.cells.items) c.args.places ≡ c.args.places = omega (arith, less) in
    rw (← c.self.view_is, more.0, more.2, most) refl
