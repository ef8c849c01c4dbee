-- The timers that a step of a system sets or stops at most.
use Rattle.std.specs.Prelude.{◌≡◌, ◌⊎◌, ℕ, ⊤, Bool, true, false, if◌then◌else◌}
use Rattle.gptp_messages.specs.declared.announce.AnnounceView.{AnnounceView}
use Rattle.gptp_messages.specs.declared.message.Message.{Message}
use Rattle.gptp_messages.specs.declared.message.Message.TheVariants as messages
use Rattle.gptp_pdelay.specs.Peer.{after_follow_up}
use Rattle.gptp_system.specs.declared.answer.Answer.{Answer}
use Rattle.gptp_system.specs.declared.answer.Answer.TheVariants as answers
use Rattle.gptp_setup.specs.declared.timer.Timer.{Timer}
use Rattle.gptp_setup.specs.declared.timer.Timer.TheVariants as timers
use Rattle.gptp_system.specs.declared.timers_changed.TimersChanged.{TimersChanged}
use Rattle.gptp_system.specs.declared.timers_changed.TimersChanged.TheVariants as touches
use Rattle.gptp_system.specs.Announcing.{HearsAgain}
use Rattle.gptp_system.specs.Input.{Input, Frame, Expires}
use Rattle.gptp_system.specs.Measuring.{is_turned}
use Rattle.gptp_system.specs.Reach.{is_of_time, is_selected, same_timer, stops_at, Leaves}
use Rattle.gptp_system.specs.State.{SystemState, number}
use Rattle.gptp_system.specs.Steps.{IsTimerOf}

-- a timer is among them
abbrev pub holds : TimersChanged → Timer → Bool
holds touches.Nothing timer = false
holds (touches.One one) timer = same_timer one timer
holds touches.Time timer = is_of_time timer
holds touches.Selected timer = is_selected timer
holds touches.All timer = true

-- the one that is touched alone is a timer of the system
abbrev pub IsTouchedOf : SystemState → TimersChanged → Type 0
IsTouchedOf s (touches.One timer) = IsTimerOf s timer
IsTouchedOf s touched = ⊤

-- These count as touched in any case: a timer that expires, and every timer where a link comes up or goes down or
-- priority1 is set, which is rare.
abbrev pub is_always_touched : Input → Timer → Bool
is_always_touched (Frame p octets) timer = false
is_always_touched (Expires one) timer = same_timer one timer
is_always_touched input timer = true

-- a step touched these at most, and all other timers are due when they were
pub record Touches (input : Input) (touched : TimersChanged) (s s' : SystemState) : Type 0 where
  pub own : IsTouchedOf s touched
  pub always : (timer : Timer) → holds touched timer ≡ false → is_always_touched input timer ≡ false
  pub leaves : Leaves (holds touched) s s'

-- ---- which they are

abbrev pub selected_if : Bool → TimersChanged
selected_if selects = if selects then touches.Selected else touches.Nothing

-- an Announce that is answered so took the place of what the port held
abbrev pub takes_place : Answer → Bool
takes_place answers.Superior = true
takes_place answers.Repeated = true
takes_place answer = false

-- a Follow_Up that is answered so was used
abbrev pub is_used : Answer → Bool
is_used answers.Used = true
is_used answer = false

abbrev pub timed_if : Bool → TimersChanged
timed_if used = if used then touches.Time else touches.Nothing

-- A Pdelay_Req that is heard touches the Respond timer of the port, and a Follow_Up that is used the Relay and the
-- Lapse timer. An Announce that takes the place of what was held touches those that selection can change, and so does
-- a Pdelay_Resp_Follow_Up by which the port becomes asCapable or stops being so.
abbrev pub message_touches : SystemState → ℕ → Message → Answer → TimersChanged
message_touches s p (messages.PdelayReq head) answer = touches.One (timers.Respond p)
message_touches s p (messages.FollowUp m) answer = timed_if (is_used answer)
message_touches s p (messages.PdelayRespFollowUp m) answer =
    selected_if (is_turned (after_follow_up m) (number s.ports p))
message_touches s p (messages.Announce a) answer = selected_if (takes_place answer)
message_touches s p message answer = touches.Nothing

-- those of an Announce that is heard: the Age timer of the port alone where it says again what the port received last
abbrev pub heard_touches : Bool → Answer → ℕ → TimersChanged
heard_touches again answer p = if again then touches.One (timers.Age p) else selected_if (takes_place answer)

-- an Announce says again what the port received last, and the Age timer of the port alone is touched
pub record TouchesAge (p : ℕ) (m : Message) (now : ℕ) (s s' : SystemState) (touched : TimersChanged) : Type 0 where
  pub announce : AnnounceView
  pub is : m ≡ messages.Announce announce
  pub again : HearsAgain p announce now s s'
  pub alone : touched ≡ touches.One (timers.Age p)

-- a message touches these, or fewer where it says again what the port received last
abbrev pub MessageTouches : ℕ → Message → ℕ → SystemState → SystemState → Answer → TimersChanged → Type 0
MessageTouches p m now s s' answer touched =
    (touched ≡ message_touches s p m answer) ⊎ TouchesAge p m now s s' touched

-- a port asks its neighbour; any timer may change where it stops being asCapable before that
abbrev pub asking_touches : Bool → ℕ → TimersChanged
asking_touches stops p = if stops then touches.All else touches.One (timers.Pdelay p)

-- A timer that expires touches itself, and an Age or Lapse timer those that selection can change.
abbrev pub timer_touches : Timer → SystemState → TimersChanged
timer_touches (timers.Age p) s = touches.Selected
timer_touches timers.Lapse s = touches.Selected
timer_touches (timers.Pdelay p) s = asking_touches (stops_at p s) p
timer_touches timer s = touches.One timer
