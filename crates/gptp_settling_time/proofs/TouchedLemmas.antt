-- What a port holds after a touch.
use Rattle.std.proofs.Common.{◌≡◌, ◌⊎◌, ℕ, sym, subst, inl, inr}
use Rattle.gptp_bmca_machine.specs.Station.{Held, Received, Reception}
use Rattle.gptp_bmca_machine.specs.Touch.{Hear, HeldInTouch, IsUsable, Replaces, StationTouch}
use Rattle.gptp_bmca_machine.proofs.ReactsLemmas.{mid_heard as heard_or_held}

-- what it received then it had received before; or it just heard it, could use it, and put it in place of what it held
pub mid_heard : (c n now : ℕ) (touch : StationTouch) (held mid : Held) (r : Reception)
    → HeldInTouch c n touch now held mid → mid ≡ Received r
    → (held ≡ Received r) ⊎ ((touch ≡ Hear n r.said) × IsUsable c r.said × Replaces c n r.said held)
mid_heard c n now touch held mid r is holds = elim (heard_or_held c n now touch held mid r is holds) [
  | inl before ↦ inl before
  | inr (a, touched, usable, replaces, said) ↦
      inr (subst (λ b. (touch ≡ Hear n b) × IsUsable c b × Replaces c n b held) (sym said)
      (touched, usable, replaces))
]
