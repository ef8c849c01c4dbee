use Rattle.std.proofs.Common.{◌∙◌, Option, subst, sym, arith}
use Rattle.gptp_queue.specs.Order.{IsLeast, IsLeastOf, TakesLeast, Within}
use Rattle.gptp_queue.specs.Queue.{IsCurrentFirst}
use Rattle.gptp_queue.proofs.OptionLemmas.{on_some}
use Rattle.gptp_queue.proofs.QueueLemmas.{holds_taken, is_there}
use Rattle.gptp_queue.proofs.queue.drop_stale.Goals as goal
use Rattle.gptp_queue.specs.Entry.{Entry}

taken : (c : goal.After-take) → TakesLeast c.loop-first.order.parts c.take.new.self.parts c.in-Some.first
taken c =
    on_some c.loop-first.order.first c.in-Some.first
    (λ (d : Entry). TakesLeast c.loop-first.order.parts c.take.new.self.parts d)
    (sym c.first.ensures.first ∙ sym c.get.ensures ∙ c.in-Some.is) c.take.ensures.taken

least : (c : goal.After-take) → IsLeast (Within c.loop-first.order.parts) c.in-Some.first
least c =
    let P : Option Entry → Type 0 = IsLeastOf (Within c.loop-first.order.parts) in
    subst P (sym c.get.ensures ∙ c.in-Some.is) c.first.ensures.least

pub loop-first-preserved : goal.loop-first-preserved
loop-first-preserved c =
    let es = c.args.table.now.entries in let before = c.loop-first.invariant in
    let room = c.take.ensures.room in let same = before.1 in (
      holds_taken es c.args.table.now.next (Within c.loop-first.order.parts) before.0 (Within c.take.new.self.parts)
          c.in-Some.first (taken c).taken (least c).member (sym c.holds.ensures ∙ c.if-holds.false),
      omega (arith, room, same),
    )

pub loop-first-smaller : goal.loop-first-smaller
loop-first-smaller c = let less = (taken c).fewer in omega (arith, less)

pub returns-then-holds-clause-first : goal.returns-then-holds-clause-first
returns-then-holds-clause-first c =
    let es = c.args.table.now.entries in let has : Entry → Type 0 = Within c.loop-first.order.parts in
    let P : Option Entry → Type 0 = IsLeastOf has in
    let least : IsLeast has c.in-Some.first = subst P (sym c.get.ensures ∙ c.in-Some.is) c.first.ensures.least in
    let there = is_there es c.args.table.now.next has c.loop-first.invariant.0 c.in-Some.first least.member
    (sym c.holds.ensures ∙ c.if-holds.true) in
    let F : Option Entry → Type 0 = IsCurrentFirst es has in
    subst F (sym c.in-Some.is ∙ c.get.ensures ∙ c.first.ensures.first) (least, there)
