-- One step of a system: what it is given, and what that makes of it.
use Rattle.std.specs.Prelude.{◌≡◌, ◌⊎◌, ◌≤◌, ℕ, ⊤, List, length, IsSome, IsSomeAnd}
use Rattle.gptp_messages.specs.declared.message.Message.{Message}
use Rattle.gptp_messages.specs.declared.message.Message.TheVariants as messages
use Rattle.gptp_messages.specs.declared.refused.Refused.{Refused}
use Rattle.gptp_messages.specs.Grammar.{Reads, RefusesFrame}
use Rattle.gptp_system.specs.declared.answer.Answer.{Answer}
use Rattle.gptp_system.specs.declared.answer.Answer.TheVariants as answers
use Rattle.gptp_system.specs.declared.sending.Sending.{Sending}
use Rattle.gptp_setup.specs.declared.timer.Timer.{Timer}
use Rattle.gptp_setup.specs.declared.timer.Timer.TheVariants as timers
use Rattle.gptp_system.specs.State.{SystemState, due}
use Rattle.gptp_system.specs.Selection.{Becomes}
use Rattle.gptp_system.specs.Measuring.{PdelayExpires, RespondExpires, HearsRequest, HearsResponse}
use Rattle.gptp_system.specs.Measuring.{HearsResponseFollowUp}
use Rattle.gptp_system.specs.Announcing.{HearsOff, HearsUnqualified, HearsQualified, AgeExpires, AnnounceExpires}
use Rattle.gptp_system.specs.Syncing.{SyncExpires, HearsSync, HearsFollowUp, RelayExpires}
use Rattle.gptp_system.specs.Lapse.{LapseExpires}

-- a port hears a message
abbrev pub HearsMessage : ℕ → Message → ℕ → SystemState → SystemState → List Sending → Answer → Type 0
HearsMessage p (messages.Sync head) now s s' sends answer = HearsSync p head now s s' sends answer
HearsMessage p (messages.PdelayReq head) now s s' sends answer = HearsRequest p head now s s' sends answer
HearsMessage p (messages.PdelayResp m) now s s' sends answer = HearsResponse p m now s s' sends answer
HearsMessage p (messages.FollowUp m) now s s' sends answer = HearsFollowUp p m now s s' sends answer
HearsMessage p (messages.PdelayRespFollowUp m) now s s' sends answer = HearsResponseFollowUp p m now s s' sends answer
HearsMessage p (messages.Announce a) now s s' sends answer =
    HearsOff p s s' sends answer ⊎ (HearsUnqualified p a s s' sends answer ⊎ HearsQualified p a now s s' sends answer)

-- a frame that reads as a message
pub record HearsReadable (p : ℕ) (frame : List ℕ) (now : ℕ) (s s' : SystemState) (sends : List Sending)
    (answer : Answer) : Type 0 where
  pub message : Message
  pub reads : Reads frame message
  pub hears : HearsMessage p message now s s' sends answer

-- a frame that is no message changes nothing
pub record HearsUnreadable (frame : List ℕ) (s s' : SystemState) (sends : List Sending) (answer : Answer) : Type 0 where
  pub refused : Refused
  pub refuses : RefusesFrame frame refused
  pub becomes : Becomes s s' sends
  pub answer_is : answer ≡ answers.Refused refused

abbrev pub HearsFrame : ℕ → List ℕ → ℕ → SystemState → SystemState → List Sending → Answer → Type 0
HearsFrame p frame now s s' sends answer =
    HearsReadable p frame now s s' sends answer ⊎ HearsUnreadable frame s s' sends answer

-- a timer runs out
abbrev pub Expires : Timer → ℕ → SystemState → SystemState → List Sending → Type 0
Expires (timers.Announce p) now s s' sends = AnnounceExpires p now s s' sends
Expires (timers.Age p) now s s' sends = AgeExpires p now s s' sends
Expires (timers.Pdelay p) now s s' sends = PdelayExpires p now s s' sends
Expires (timers.Respond p) now s s' sends = RespondExpires p now s s' sends
Expires timers.Sync now s s' sends = SyncExpires now s s' sends
Expires timers.Relay now s s' sends = RelayExpires now s s' sends
Expires timers.Lapse now s s' sends = LapseExpires now s s' sends

-- the number is that of a port
pub record HasPortNumber (s : SystemState) (p : ℕ) : Type 0 where
  pub least : 1 ≤ p
  pub most : p ≤ length s.ports

-- the port of a timer that has one is a port of the system
abbrev pub IsTimerOf : SystemState → Timer → Type 0
IsTimerOf s (timers.Announce p) = HasPortNumber s p
IsTimerOf s (timers.Age p) = HasPortNumber s p
IsTimerOf s (timers.Pdelay p) = HasPortNumber s p
IsTimerOf s (timers.Respond p) = HasPortNumber s p
IsTimerOf s timers.Sync = ⊤
IsTimerOf s timers.Relay = ⊤
IsTimerOf s timers.Lapse = ⊤

-- the link of a port is up: its Pdelay timer runs
abbrev pub IsUp : SystemState → ℕ → Type 0
IsUp s p = IsSome (due (timers.Pdelay p) s)

-- a timer is due
abbrev pub IsDue : SystemState → Timer → ℕ → Type 0
IsDue s timer now = IsSomeAnd (due timer s) (λ t. t ≤ now)
