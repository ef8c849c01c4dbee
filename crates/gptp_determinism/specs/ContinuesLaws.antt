-- What doesn't depend on whether systems go on with the time that they read (`continues`).
use Rattle.std.specs.Prelude.{◌≡◌, ◌↔◌, ℕ, ⊤, Bool, List, Some, map}
use Rattle.gptp_messages.specs.declared.follow_up.FollowUp.{FollowUp}
use Rattle.gptp_messages.specs.declared.message.Message.TheVariants as messages
use Rattle.gptp_messages.specs.Grammar.{Reads}
use Rattle.gptp_correction.specs.declared.sync_in.SyncInfo.{SyncInfo}
use Rattle.gptp_correction.specs.Correction.{held_sum}
use Rattle.gptp_setup.specs.declared.setup.Setup.{Setup}
use Rattle.gptp_setup.specs.declared.timer.Timer.{Timer}
use Rattle.gptp_setup.specs.declared.timer.Timer.TheVariants as timers
use Rattle.gptp_system.specs.declared.answer.Answer.{Answer}
use Rattle.gptp_system.specs.declared.sending.Sending.{Sending}
use Rattle.gptp_system.specs.Input.{Input, Expires, Frame, Steps}
use Rattle.gptp_system.specs.Start.{started}
use Rattle.gptp_system.specs.State.{SystemState, due}
use Rattle.gptp_system.specs.Syncing.{delay_at, root_rate_at, said_on, slave_rate, HopFits, OffsetFits}
use Rattle.gptp_determinism.specs.BesideTime.{beside_time, sending_beside, SameBeside}
use Rattle.gptp_determinism.specs.StepLaws.{SameAnswer}

-- the numbers of a receipt time fit in the one as in the other, where both frames are Follow_Ups that are used
abbrev pub ReceiptsFitAlike : ℕ → List ℕ → ℕ → List ℕ → SystemState → SystemState → Type 0
ReceiptsFitAlike p a q b s t = (m n : FollowUp) (i j : SyncInfo)
    → Reads a (messages.FollowUp m) → Reads b (messages.FollowUp n)
    → said_on p m s ≡ Some i → said_on q n t ≡ Some j
    → (OffsetFits i (delay_at s p) (root_rate_at s p) ↔ OffsetFits j (delay_at t q) (root_rate_at t q))

-- so do those of what is sent on, by the sum of rates and by the one held at its limits
pub record RelaysFitAlike (now : ℕ) (s t : SystemState) : Type 0 where
  pub sums : (i j : SyncInfo) → s.known ≡ Some i → t.known ≡ Some j → (HopFits i now s ↔ HopFits j now t)
  pub held : (i j : SyncInfo) → s.known ≡ Some i → t.known ≡ Some j
      → (HopFits (held_sum i (slave_rate s)) now s ↔ HopFits (held_sum j (slave_rate t)) now t)

-- The numbers on the way of time fit in the one as in the other. (A correction has 64 bits: of two that differ by a
-- part of a nanosecond one can be the last that fits.)
abbrev pub FitAlike : Input → Input → ℕ → SystemState → SystemState → Type 0
FitAlike (Frame p a) (Frame q b) now s t = ReceiptsFitAlike p a q b s t
FitAlike (Expires timers.Relay) other now s t = RelaysFitAlike now s t
FitAlike input other now s t = ⊤

-- two outcomes of a step are one, but for the time
pub record IsSameBeside (input : Input) (t u : SystemState) (sends more : List Sending) (answer said : Answer) :
    Type 0 where
  pub state : beside_time t ≡ beside_time u
  pub sends_are : map sending_beside sends ≡ map sending_beside more
  pub answer_is : SameAnswer input answer said

-- Of two systems that differ in time alone, and so of two that differ in `continues` alone, a step of one input leaves
-- such systems, sends the same but for the time that Follow_Ups say, and gives the same answer.
abbrev pub StepsBesideTime : Type 0
StepsBesideTime = (input other : Input) (now : ℕ) (s s' t t' : SystemState) (sends more : List Sending)
    (answer said : Answer)
    → beside_time s ≡ beside_time t → SameBeside input other → FitAlike input other now s t
    → Steps input now s s' sends answer → Steps other now t t' more said
    → IsSameBeside input s' t' sends more answer said

-- two systems that start with setups that differ in `continues` alone are such systems
abbrev pub StartsBesideTime : Type 0
StartsBesideTime = (setup : Setup) (continues : Bool) (now : ℕ)
    → beside_time (started (record setup { continues = continues }) now) ≡ beside_time (started setup now)

-- the timers of two such systems run out at the same times
abbrev pub TimersBesideTime : Type 0
TimersBesideTime = (s t : SystemState) → beside_time s ≡ beside_time t → (timer : Timer) → due timer s ≡ due timer t
