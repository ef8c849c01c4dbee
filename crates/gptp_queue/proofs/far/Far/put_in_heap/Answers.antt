use Rattle.std.proofs.Common.{◌∙◌, inl, inr, sym}
use Rattle.gptp_queue.proofs.PartLemmas.{heap_adds, ordered_by_top, ordered_still}
use Rattle.gptp_queue.proofs.far.Far.put_in_heap.Goals as goal
use Rattle.gptp_queue.proofs.far.Far.put_in_heap.Goals.{then-self-eq0-via-then-self-eq0, then-self-eq0-via-else-self-eq0+then-comes_first}

pub invariant_of-self : goal.invariant_of-self
invariant_of-self c =
    let f = c.self.inside in let top = c.first-top.ensures in
    ordered_still f.heap.entries c.put.new.self.entries f.runs.items f.first c.first-top.result f.at c.args.entry
    c.self.invariant c.put.ensures.put top.first top.least c.if-self-eq0.false
    (sym c.comes_first.ensures ∙ c.if-comes_first.false)

pub invariant_of-self-then-self-eq0 : goal.invariant_of-self-then-self-eq0
invariant_of-self-then-self-eq0 c =
    let f = c.self.inside in let top = c.first-top.ensures in
    ordered_by_top f.heap.entries c.put.new.self.entries f.runs.items f.first c.first-top.result f.at c.args.entry
    c.self.invariant c.put.ensures.put top.first top.least
    (elim c.then-self-eq0.branch [
      | then-self-eq0-via-then-self-eq0 w ↦ inl w.if-self-eq0.true
      | then-self-eq0-via-else-self-eq0+then-comes_first w ↦ inr (sym w.comes_first.ensures ∙ w.if-comes_first.true)
    ])

pub returns-then-self-eq0-clause-put : goal.returns-then-self-eq0-clause-put
returns-then-self-eq0-clause-put c =
    let f = c.self.inside in let top = c.first-top.ensures in
    rw (← c.self.view_is)
    (heap_adds f.heap.entries c.put.new.self.entries f.runs.items f.first c.first-top.result f.at c.args.entry
    c.self.invariant c.put.ensures.put top.first top.least)

pub returns-else-comes_first-clause-put : goal.returns-else-comes_first-clause-put
returns-else-comes_first-clause-put c =
    let f = c.self.inside in let top = c.first-top.ensures in
    rw (← c.self.view_is)
    (heap_adds f.heap.entries c.put.new.self.entries f.runs.items f.first c.first-top.result f.at c.args.entry
    c.self.invariant c.put.ensures.put top.first top.least)
