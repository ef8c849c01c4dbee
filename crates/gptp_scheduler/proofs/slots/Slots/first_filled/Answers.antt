use Rattle.std.proofs.Common.{◌*◌, inl, inr, arith, rules}
use Rattle.std.proofs.lemmas.Bool.{cases_lt}
use Rattle.gptp_scheduler.proofs.SlotLemmas.{word-empty, lowest-filled, below-lowest}
use Rattle.gptp_scheduler.proofs.slots.Slots.first_filled.Goals as goal

pub returns-then-filled-ne0-clause-filled : goal.returns-then-filled-ne0-clause-filled
returns-then-filled-ne0-clause-filled c =
    simp (← c.self.view_is)
    (lowest-filled _ _ c.self.invariant c.loop-word.word c.loop-word-test.true (omega arith) (search rules))

pub returns-then-filled-ne0-clause-first : goal.returns-then-filled-ne0-clause-first
returns-then-filled-ne0-clause-first c other before =
    elim (cases_lt other (c.loop-word.word * 64)) [
      | inl lower ↦ c.loop-word.invariant other lower
      | inr here ↦
          let small = c.loop-word-test.true in
          simp (← c.self.view_is)
          (below-lowest _ _ c.self.invariant c.loop-word.word c.loop-word-test.true (omega arith) (search rules) other
          (search rules) before)
    ]

pub loop-word-preserved : goal.loop-word-preserved
loop-word-preserved c slot before =
    elim (cases_lt slot (c.loop-word.word * 64)) [
      | inl lower ↦ c.loop-word.invariant slot lower
      | inr here ↦ simp (← c.self.view_is)
          (word-empty _ _ c.self.invariant c.loop-word.word c.loop-word-test.true (omega arith) slot (omega arith))
    ]
