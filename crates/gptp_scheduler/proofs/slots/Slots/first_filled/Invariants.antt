use Rattle.std.proofs.Common.{◌≡◌, ◌<◌, ◌*◌, ℕ, None}
use Rattle.gptp_scheduler.specs.Chain.{ends_at}
use Rattle.gptp_scheduler.proofs.slots.Slots.first_filled.Given as goal

-- the slots so far have no entry
abbrev pub invariant-loop-word : goal.invariant-loop-word
invariant-loop-word l = (slot : ℕ) → slot < l.word * 64 → (ends_at l.self slot).first ≡ None
