-- Ports of live systems stay selected: none is aged, and master ports announce in time.
use Rattle.std.proofs.Common.{◌≡◌, ◌≢◌, ◌≤◌, ◌+◌, ℕ, suc, List, sym, ◌∙◌, inl, inr, arith}
use Rattle.gptp_bmca_machine.specs.Frame.{Spelling, Send}
use Rattle.gptp_bmca_machine.specs.Station.{Reception, Held, Disabled, Aged, Mine, Received, Port, Station, MachineState}
use Rattle.gptp_bmca_machine.specs.Touch.{StationTouch, Hear, Tick, Grow, Enable, Disable, Other, HeldInTouch}
use Rattle.gptp_bmca_machine.specs.Reacts.{KeepsHeld, PortStep, StationReacts}
use Rattle.gptp_bmca_machine.specs.Acts.{MachineSteps}
use Rattle.gptp_bmca_machine.specs.HeldLaws.{OfEachLive, IsSelected, PortsAreSelected}
use Rattle.gptp_bmca_machine.proofs.PlaceLemmas.{same_mine}
use Rattle.gptp_bmca_machine.proofs.EachLiveLemmas.{each_live_kept}

-- what is master after a touch was so before
mid_mine : (c n now : ℕ) (touch : StationTouch) (held mid : Held) (root steps : ℕ) → HeldInTouch c n touch now held mid
    → mid ≡ Mine root steps → held ≡ Mine root steps
mid_mine c n now (Hear m a) held mid root steps (inl (same, on, inl takes)) e =
    let taken : Reception = record { said = a; at = now; span = takes.span } in
    absurd (let x : Received taken ≡ Mine root steps = sym takes.is ∙ e in cc)
mid_mine c n now (Hear m a) held mid root steps (inl (same, on, inr refuses)) e = sym refuses.is ∙ e
mid_mine c n now (Hear m a) held mid root steps (inr (other, is)) e = sym is ∙ e
mid_mine c n now (Tick m) held mid root steps is e = sym is ∙ e
mid_mine c n now (Grow m) held mid root steps (inl (same, is)) e =
    absurd (let x : Aged ≡ Mine root steps = sym is ∙ e in cc)
mid_mine c n now (Grow m) held mid root steps (inr (other, is)) e = sym is ∙ e
mid_mine c n now (Enable m) held mid root steps (inl (same, off, is)) e =
    absurd (let x : Aged ≡ Mine root steps = sym is ∙ e in cc)
mid_mine c n now (Enable m) held mid root steps (inr (other, is)) e = sym is ∙ e
mid_mine c n now (Disable m) held mid root steps (inl (same, is)) e =
    absurd (let x : Disabled ≡ Mine root steps = sym is ∙ e in cc)
mid_mine c n now (Disable m) held mid root steps (inr (other, is)) e = sym is ∙ e
mid_mine c n now Other held mid root steps is e = sym is ∙ e

-- what is kept is neither aged nor master
kept_fresh : (held : Held) → KeepsHeld held → held ≢ Aged
kept_fresh Disabled kept e = absurd cc
kept_fresh (Received r) kept e = absurd cc
kept_fresh Aged kept e = kept
kept_fresh (Mine root steps) kept e = kept

kept_mine : {A : Type 0} (held : Held) (root steps : ℕ) → KeepsHeld held → held ≡ Mine root steps → A
kept_mine Disabled root steps kept e = absurd cc
kept_mine (Received r) root steps kept e = absurd cc
kept_mine Aged root steps kept e = absurd kept
kept_mine (Mine r t) root steps kept e = absurd kept

-- a port is selected after its part in an answer, where it was so before
selected_after : (says : Spelling) (c n now : ℕ) (touch : StationTouch) (s s' : Station) (q q' : Port)
    (sends : List Send)
    → PortStep says c n now touch s'.root s'.steps q q' sends → IsSelected now s q → IsSelected now s' q'
selected_after says c n now touch s s' q q' sends step before = elim step.after [
  | inl (kept, is_kept) ↦ record {
    fresh = λ e. kept_fresh step.mid is_kept (sym kept ∙ e);
    mine = λ root steps e. kept_mine step.mid root steps is_kept (sym kept ∙ e);
    timer = λ root steps e. kept_mine step.mid root steps is_kept (sym kept ∙ e);
  }
  | inr becomes ↦ record {
    fresh = λ e. absurd (let x : Mine s'.root s'.steps ≡ Aged = sym becomes.mine ∙ e in cc);
    mine = λ root steps e. same_mine root steps s'.root s'.steps (sym e ∙ becomes.mine);
    timer = λ root steps e. elim becomes.timing [
      | inl (already, same) ↦
          let soon : q.announce ≤ now + q.interval =
          before.timer s'.root s'.steps
          (mid_mine c n now touch q.held step.mid s'.root s'.steps step.before already) in
          let interval : q'.interval ≡ q.interval = step.interval in
          let timer : q'.announce ≡ q.announce = same in
          omega arith
      | inr tells ↦
          let interval : q'.interval ≡ q.interval = step.interval in
          let timer : q'.announce ≡ now + q.interval = tells.timer in
          omega arith
    ];
  }
]

-- and at a later time
selected_later : (now later : ℕ) (s : Station) → now ≤ later → PortsAreSelected now s → PortsAreSelected later s
selected_later now later s passes selected place q there =
    let is : IsSelected now s q = selected place q there in
    record {
      fresh = is.fresh;
      mine = is.mine;
      timer = λ root steps e. let soon : q.announce ≤ now + q.interval = is.timer root steps e in omega arith;
    }

module _ (says : Spelling) where
  -- through an answer
  ports_after : (touch : StationTouch) (now : ℕ) (s s' : Station) (sends : List Send)
      → StationReacts says s touch now s' sends
      → PortsAreSelected now s → PortsAreSelected now s'
  ports_after touch now s s' sends reacts selected place q there =
      let (p, stood, step) = reacts.ports place q there in
      selected_after says s.clock (suc place) now touch s s' p q sends step (selected place p stood)

  -- through every step
  pub selection_kept : (w w' : MachineState) → MachineSteps says w w' → OfEachLive PortsAreSelected w
      → OfEachLive PortsAreSelected w'
  selection_kept = each_live_kept says PortsAreSelected selected_later ports_after
