-- A port that comes up or goes down: each other port measures as it did.
use Rattle.std.proofs.Common.{◌≡◌, ◌≢◌, ℕ, inl, inr}
use Rattle.gptp_pdelay.specs.Peer.{reset_peer}
use Rattle.gptp_system.specs.Input.{Input, IsTimely, PortDown, PortUp}
use Rattle.gptp_system.specs.Measures.{IsPartAfter, Part, part_asked, part_down}
use Rattle.gptp_system.specs.State.{SystemState}
use Rattle.gptp_system.specs.Steps.{HasPortNumber}
use Rattle.gptp_invariants.proofs.DelayEndLemmas.{HearsWhatFits}
use Rattle.gptp_invariants.proofs.DelayLinkCallLemmas.{at_own}

-- a port that it isn't given to measures as it did
pub record IsOfPort (input : ℕ → Input) : Type 0 where
  pub timely : (s : SystemState) (now p : ℕ) → HasPortNumber s p → IsTimely s now (input p)
  pub fits : (p n : ℕ) → HearsWhatFits n (input p)
  pub leaves : (s : SystemState) (now p n : ℕ) (x x' : Part) → n ≢ p → IsPartAfter s now (input p) n x x' → x' ≡ x

pub of_up : IsOfPort PortUp
of_up = record {
  timely = λ s now p of. of;
  fits = λ p n. tt;
  leaves = λ s now p n x x' apart is.
      elim (at_own p n (part_asked s now reset_peer) x x' is) [
        | inl own ↦ absurd (apart own.0)
        | inr beside ↦ beside.1
      ];
}

pub of_down : IsOfPort PortDown
of_down = record {
  timely = λ s now p of. of;
  fits = λ p n. tt;
  leaves = λ s now p n x x' apart is.
      elim (at_own p n part_down x x' is) [ inl own ↦ absurd (apart own.0) | inr beside ↦ beside.1 ];
}
