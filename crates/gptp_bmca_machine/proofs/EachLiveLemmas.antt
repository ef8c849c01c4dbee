-- A fact of each live system that holds on as time passes and through each answer is kept by every step.
use Rattle.std.proofs.Common.{◌≡◌, ◌≤◌, ℕ, List, Some, slice_get, sym, subst, inl, inr}
use Rattle.gptp_bmca_machine.specs.Frame.{Spelling, Send}
use Rattle.gptp_bmca_machine.specs.Station.{Station, MachineState}
use Rattle.gptp_bmca_machine.specs.Touch.{StationTouch}
use Rattle.gptp_bmca_machine.specs.Reacts.{StationReacts}
use Rattle.gptp_bmca_machine.specs.Acts.{StationAnswers, MachineSteps}
use Rattle.gptp_bmca_machine.specs.HeldLaws.{OfEachLive}

module _ (says : Spelling) (P : ℕ → Station → Type 0)
    (waits : (now later : ℕ) (s : Station) → now ≤ later → P now s → P later s)
    (answers : (touch : StationTouch) (now : ℕ) (s s' : Station) (sends : List Send)
    → StationReacts says s touch now s' sends
    → P now s → P now s') where
  -- a system answers
  called : (touch : StationTouch) (w w' : MachineState) → StationAnswers says touch w w' → OfEachLive P w
      → OfEachLive P w'
  called touch w w' call each i s at live =
      subst (λ t. P t s) (sym call.time) (elim (call.stations i s at) [
        | inl (same, is) ↦ subst (P w.time) (sym is)
            (answers touch w.time call.s call.s' call.sends call.reacts (each call.place call.s call.here call.live))
        | inr (other, stood) ↦ each i s stood live
      ])

  -- no system changes where its state's systems are those of the one before, at the same time
  same_stations : (w w' : MachineState) → w'.time ≡ w.time
      → ((i : ℕ) (m : Station) → slice_get w'.stations i ≡ Some m → slice_get w.stations i ≡ Some m)
      → OfEachLive P w → OfEachLive P w'
  same_stations w w' time stood each i s at live = subst (λ t. P t s) (sym time) (each i s (stood i s at) live)

  -- every step keeps the fact
  pub each_live_kept : (w w' : MachineState) → MachineSteps says w w' → OfEachLive P w → OfEachLive P w'
  each_live_kept w w' (inl wait) each =
      subst (OfEachLive P) (sym wait.is) (λ i s at live. waits w.time wait.time s wait.later (each i s at live))
  each_live_kept w w' (inr (inl act)) each =
      called act.touch act.mid w' act.call (same_stations w act.mid act.pops.time act.pops.stations each)
  each_live_kept w w' (inr (inr (inl act))) each = same_stations w w' act.pops.time act.pops.stations each
  each_live_kept w w' (inr (inr (inr act))) each = called act.touch w w' act.call each
