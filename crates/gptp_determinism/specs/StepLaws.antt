-- A step of a system has one outcome.
use Rattle.std.specs.Prelude.{◌≡◌, ℕ, ⊤, List}
use Rattle.gptp_system.specs.declared.answer.Answer.{Answer}
use Rattle.gptp_system.specs.declared.sending.Sending.{Sending}
use Rattle.gptp_system.specs.Input.{Input, Frame, Steps}
use Rattle.gptp_system.specs.State.{SystemState}

-- a frame is answered the same; the other inputs have no answer
abbrev pub SameAnswer : Input → Answer → Answer → Type 0
SameAnswer (Frame p octets) answer said = answer ≡ said
SameAnswer input answer said = ⊤

-- two outcomes of a step are one: the state afterwards, what is sent, and what is answered to a frame
pub record IsSameStep (input : Input) (t u : SystemState) (sends more : List Sending) (answer said : Answer) :
    Type 0 where
  pub state : t ≡ u
  pub sends_are : sends ≡ more
  pub answer_is : SameAnswer input answer said

-- one state and one input, at one time
abbrev pub StepsOnce : Type 0
StepsOnce = (input : Input) (now : ℕ) (s t u : SystemState) (sends more : List Sending) (answer said : Answer)
    → Steps input now s t sends answer → Steps input now s u more said
    → IsSameStep input t u sends more answer said
