-- No trace that a system holds names it, since none that did is taken.
use Rattle.std.proofs.Common.{◌≡◌, ◌≤◌, ℕ, suc, List, sym, subst, inl, inr, arith}
use Rattle.gptp_lists.specs.Members.{In}
use Rattle.gptp_bmca_machine.specs.Frame.{Announce, Spelling, Send}
use Rattle.gptp_bmca_machine.specs.Station.{Station, MachineState}
use Rattle.gptp_bmca_machine.specs.Touch.{StationTouch}
use Rattle.gptp_bmca_machine.specs.Reacts.{StationReacts}
use Rattle.gptp_bmca_machine.specs.Acts.{MachineSteps}
use Rattle.gptp_bmca_machine.specs.HeldLaws.{OfEachLive, HoldsNoLoop}
use Rattle.gptp_bmca_machine.proofs.ReactsLemmas.{JustHeard, held_from}
use Rattle.gptp_bmca_machine.proofs.EachLiveLemmas.{each_live_kept}

-- as time passes
held_later : (now later : ℕ) (s : Station) → now ≤ later → HoldsNoLoop now s → HoldsNoLoop later s
held_later now later s passes held place r holds =
    let (came, no_loop) = held place r holds in
    (omega arith, no_loop)

module _ (says : Spelling) where
  -- through an answer: what is held was held before, or just heard, and then qualified
  held_after : (touch : StationTouch) (now : ℕ) (s s' : Station) (sends : List Send)
      → StationReacts says s touch now s' sends
      → HoldsNoLoop now s → HoldsNoLoop now s'
  held_after touch now s s' sends reacts held place r holds =
      subst (λ c. (r.at ≤ now) × (In c r.said.path → ⊥)) (sym reacts.clock)
      (elim (held_from says s s' touch now sends reacts place r holds) [
        | inl before ↦ held place r before
        | inr just ↦ just_now just
      ])
    where
      just_now : JustHeard s.clock (suc place) now touch r → (r.at ≤ now) × (In s.clock r.said.path → ⊥)
      just_now just =
          let at_once : r.at ≡ now = just.at in (
            omega arith,
            λ h. just.qualified.no_loop (subst (λ (a : Announce). In s.clock a.path) just.is_said h),
          )

  -- through every step
  pub no_loop_taken : (w w' : MachineState) → MachineSteps says w w' → OfEachLive HoldsNoLoop w
      → OfEachLive HoldsNoLoop w'
  no_loop_taken = each_live_kept says HoldsNoLoop held_later held_after
