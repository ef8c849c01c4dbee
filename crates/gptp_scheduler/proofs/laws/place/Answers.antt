use Rattle.std.proofs.Common.{refl, inl, inr, arith}
use Rattle.gptp_scheduler.proofs.laws.place.Goals as goal

pub returns-then-slot-eq2048-clause-stands : goal.returns-then-slot-eq2048-clause-stands
returns-then-slot-eq2048-clause-stands g c e is =
    elim (c.in_ok-slot.ensures.stands e is) [
      | inl levels ↦ let below = levels.within in let at = c.if-slot-eq2048.true in absurd (omega (arith, below, at))
      | inr out ↦ inr (refl, refl, out.1)
    ]
