-- What a system can be given, and what one step makes of it.
use Rattle.std.specs.Prelude.{ℕ, ⊤, List}
use Rattle.gptp_messages.specs.Grammar.{Written}
use Rattle.gptp_system.specs.declared.answer.Answer.{Answer}
use Rattle.gptp_system.specs.declared.input.Input.{Input as Lent}
use Rattle.gptp_system.specs.declared.input.Input.TheVariants as lent
use Rattle.gptp_system.specs.declared.sending.Sending.{Sending}
use Rattle.gptp_setup.specs.declared.timer.Timer.{Timer}
use Rattle.gptp_system.specs.Sends.{message_sent}
use Rattle.gptp_system.specs.State.{SystemState}
use Rattle.gptp_system.specs.Measuring.{ComesUp, GoesDown}
use Rattle.gptp_system.specs.Announcing.{ChangesPriority}
use Rattle.gptp_system.specs.Steps.{Expires as TimerExpires, HearsFrame, IsDue, HasPortNumber, IsUp}

-- the link of a port comes up or goes down, a port hears a frame, a timer expires, or priority1 is set
pub data Input : Type 0 where
  PortUp PortDown : (port : ℕ) → Input
  Frame : (port : ℕ) → (octets : List ℕ) → Input
  Expires : (timer : Timer) → Input
  Priority : (value : ℕ) → Input

-- the input that a system is lent: a message that was sent is a frame of the octets that it has
abbrev pub given : Lent → Input
given (lent.PortUp p) = PortUp p
given (lent.PortDown p) = PortDown p
given (lent.Frame p octets) = Frame p octets.now
given (lent.Sent p sent) = Frame p (Written (message_sent sent.now))
given (lent.Expires timer) = Expires timer
given (lent.Priority value) = Priority value

-- One step: the input makes the one state the other, and this is sent. A frame is answered; the other inputs have no
-- answer, and this leaves it free.
abbrev pub Steps : Input → ℕ → SystemState → SystemState → List Sending → Answer → Type 0
Steps (PortUp p) now s s' sends answer = ComesUp p now s s' sends
Steps (PortDown p) now s s' sends answer = GoesDown p now s s' sends
Steps (Frame p octets) now s s' sends answer = HearsFrame p octets now s s' sends answer
Steps (Expires timer) now s s' sends answer = TimerExpires timer now s s' sends
Steps (Priority value) now s s' sends answer = ChangesPriority value now s s' sends

-- when a system is given an input: a port is one of its own, a frame comes where the link is up, and a timer expires
-- when it is due
abbrev pub IsTimely : SystemState → ℕ → Input → Type 0
IsTimely s now (PortUp p) = HasPortNumber s p
IsTimely s now (PortDown p) = HasPortNumber s p
IsTimely s now (Frame p octets) = IsUp s p
IsTimely s now (Expires timer) = IsDue s timer now
IsTimely s now (Priority value) = ⊤
