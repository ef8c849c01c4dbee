use Rattle.std.proofs.Common.{◌≡◌, ◌∙◌, true, false, ap, sym}
use Rattle.gptp_queue.specs.Order.{comes_first}
use Rattle.gptp_queue.proofs.BothLemmas.{one_taken, other_taken}
use Rattle.gptp_queue.proofs.order.Order.take.Goals as goal

before : (c : goal.After-take) → comes_first c.self.inside.ring.first c.self.inside.far.first ≡ true
before c =
    ap (λ o. comes_first o c.self.inside.far.first) (sym c.first.ensures.first)
    ∙ ap (comes_first c.first.result) (sym c.first-2.ensures.first) ∙ sym c.comes_first.ensures ∙ c.if-comes_first.true

pub returns-then-comes_first-clause-taken : goal.returns-then-comes_first-clause-taken
returns-then-comes_first-clause-taken c =
    let o = c.self.inside in
    rw (← c.self.view_is)
    (one_taken o.ring.parts o.far.parts c.take.new.self.parts o.ring.first o.far.first (before c) c.take.ensures.taken)

behind : (c : goal.After-take-else-comes_first) → comes_first c.self.inside.ring.first c.self.inside.far.first ≡ false
behind c =
    ap (λ o. comes_first o c.self.inside.far.first) (sym c.first.ensures.first)
    ∙ ap (comes_first c.first.result) (sym c.first-2.ensures.first) ∙ sym c.comes_first.ensures ∙ c.if-comes_first.false

pub returns-else-comes_first-clause-taken : goal.returns-else-comes_first-clause-taken
returns-else-comes_first-clause-taken c =
    let o = c.self.inside in
    rw (← c.self.view_is)
    (other_taken o.ring.parts o.far.parts c.take-else-comes_first.new.self.parts o.ring.first o.far.first (behind c)
    c.take-else-comes_first.ensures.taken)
