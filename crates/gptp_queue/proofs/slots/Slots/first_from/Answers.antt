use Rattle.std.proofs.Common.{◌≡◌, ◌/◌, [], inl, inr, rules, arith}
use Rattle.std.proofs.lemmas.Bool.{cases_lt}
use Rattle.gptp_queue.specs.Order.{part_at}
use Rattle.gptp_queue.proofs.SlotLemmas.{ahead_none, ahead_some, found_in, word-empty}
use Rattle.gptp_queue.proofs.slots.Slots.first_from.Goals as goal

pub returns-then-ahead-ne0-clause-some : goal.returns-then-ahead-ne0-clause-some
returns-then-ahead-ne0-clause-some c =
    let s = c.self.inside in let some = c.if-ahead-ne0.true in
    rw (← c.self.view_is)
    (ahead_some s.filled s.entries.queues c.self.invariant c.args.low c.requires (search rules) (omega (arith, some)))

pub loop-word-init : goal.loop-word-init
loop-word-init c =
    let s = c.self.inside in let none = c.if-ahead-ne0.false in
    rw (← c.self.view_is)
    (ahead_none s.filled s.entries.queues c.self.invariant c.args.low c.requires (omega (arith, none)))

pub loop-word-preserved : goal.loop-word-preserved
loop-word-preserved c = λ k from here.
    let s = c.self.inside in let test = c.loop-word-test.true in
    elim (cases_lt (k / 64) c.loop-word.word) [
      | inl earlier ↦ c.loop-word.invariant k from earlier
      | inr not ↦
          let empty : part_at s.entries.queues k ≡ [] =
          word-empty s.filled s.entries.queues c.self.invariant c.loop-word.word (omega (arith, test))
          c.if-filled-ne0.false k (omega (arith, not, here)) in
          rw (← c.self.view_is) empty
    ]

pub returns-then-filled-ne0-clause-some : goal.returns-then-filled-ne0-clause-some
returns-then-filled-ne0-clause-some c =
    let s = c.self.inside in let test = c.loop-word-test.true in let some = c.if-filled-ne0.true in
    let from = c.loop-word.auto.word in
    let so_far = rw (← c.self.view_is) at c.loop-word.invariant in
    rw (← c.self.view_is)
    (found_in s.filled s.entries.queues c.self.invariant c.loop-word.word (omega (arith, test))
    (omega (arith, some)) (search rules) c.args.low (omega (arith, from)) so_far)

pub returns-clause-none : goal.returns-clause-none
returns-clause-none c = λ k from small.
    let end = c.loop-word-test.false in c.loop-word.invariant k from (omega (arith, end, small))
