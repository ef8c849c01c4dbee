-- Laws on the steps of a system.
use Rattle.std.specs.Prelude.{◌≡◌, ◌≢◌, ◌⊎◌, ◌≤◌, ℕ, List, [], ◌+◌, ◌<◌, length, None, true, Some, slice_get}
use Rattle.gptp_roles.specs.Choice.{ArePlaced}
use Rattle.gptp_roles.specs.SystemTrace.{SlaveReceived}
use Rattle.gptp_system.specs.declared.answer.Answer.{Answer}
use Rattle.gptp_system.specs.declared.port.Port.{Port}
use Rattle.gptp_system.specs.declared.sending.Sending.{Sending}
use Rattle.gptp_setup.specs.declared.setup.Setup.{Setup}
use Rattle.gptp_setup.specs.declared.timer.Timer.{Timer}
use Rattle.gptp_setup.specs.Intervals.{AreParams, IsLog}
use Rattle.gptp_system.specs.State.{SystemState, due}
use Rattle.gptp_system.specs.Selection.{Selects}
use Rattle.gptp_system.specs.Input.{Input, IsTimely, Steps, Expires, Priority}
use Rattle.gptp_system.specs.Touch.{Touch, IsSeenAs}
use Rattle.gptp_system.specs.Reacts.{Reacts}
use Rattle.gptp_system.specs.Follows.{SystemIsRoot, SystemFollowsPort}
use Rattle.gptp_system.specs.Measures.{MeasuresAtEachPlace}
use Rattle.gptp_system.specs.Messages.{AreSent}
use Rattle.gptp_system.specs.Times.{IsInTime, RunsOn}
use Rattle.gptp_system.specs.Counters.{AreCounted}
use Rattle.gptp_system.specs.Reach.{SendsWithin, Leaves, is_touched, reach}
use Rattle.gptp_system.specs.Ready.{IsReady}
use Rattle.gptp_system.specs.Start.{started}
use Rattle.gptp_system.specs.Takeover.{reads_own}
use Rattle.gptp_system.specs.TimeKept.{GoesOnTelling, MakesOfTime}
use Rattle.gptp_system.specs.Facts.{AreHeld, AreShown, IsAtRest, IsNew, Keeps, MeasuresOver}

-- a new system is at rest, and what it holds is as it must be
abbrev pub StartLaw : Type 0
StartLaw = (s : SystemState) → IsNew s → IsAtRest s × AreShown s × AreHeld s

-- every step leaves a system at rest
abbrev pub RestLaw : Type 0
RestLaw = (input : Input) (now : ℕ) (s s' : SystemState) (sends : List Sending) (answer : Answer)
    → AreHeld s → IsAtRest s → Steps input now s s' sends answer
    → IsAtRest s'

-- selecting makes a system be at rest, whatever it was
abbrev pub SelectsLaw : Type 0
SelectsLaw = (now : ℕ) (s s' : SystemState) (sends : List Sending)
    → AreHeld s → Selects now s s' sends
    → IsAtRest s'

-- a system at rest that selects again stays as it is, and sends nothing
abbrev pub AgainLaw : Type 0
AgainLaw = (now : ℕ) (s s' : SystemState) (sends : List Sending)
    → AreHeld s → IsAtRest s → Selects now s s' sends
    → (s' ≡ s) × (sends ≡ [])

-- every step leaves a port Disabled exactly where it isn't asCapable
abbrev pub ShownLaw : Type 0
ShownLaw = (input : Input) (now : ℕ) (s s' : SystemState) (sends : List Sending) (answer : Answer)
    → AreShown s → Steps input now s s' sends answer
    → AreShown s'

-- after every step what the ports received qualified there
abbrev pub HeldLaw : Type 0
HeldLaw = (input : Input) (now : ℕ) (s s' : SystemState) (sends : List Sending) (answer : Answer)
    → AreHeld s → Steps input now s s' sends answer
    → AreHeld s'

-- selection may be made of what the ports hold, where what they received qualified there
abbrev pub PlacedLaw : Type 0
PlacedLaw = (s : SystemState) → AreHeld s → ArePlaced 1 s.held

-- no step changes what a system is set up with
abbrev pub KeepsLaw : Type 0
KeepsLaw = (input : Input) (now : ℕ) (s s' : SystemState) (sends : List Sending) (answer : Answer)
    → Steps input now s s' sends answer
    → Keeps s s'

-- no step changes over how many exchanges the ports measure a rate
abbrev pub WindowLaw : Type 0
WindowLaw = (window : ℕ) (input : Input) (now : ℕ) (s s' : SystemState) (sends : List Sending) (answer : Answer)
    → Steps input now s s' sends answer → MeasuresOver window s.ports
    → MeasuresOver window s'.ports

-- nor its identity, unless its priority1 is set
abbrev pub IdentityLaw : Type 0
IdentityLaw = (input : Input) (now : ℕ) (s s' : SystemState) (sends : List Sending) (answer : Answer)
    → ((value : ℕ) → input ≢ Priority value) → Steps input now s s' sends answer
    → s'.identity ≡ s.identity

-- every step of a system at rest answers what it is seen as
abbrev pub ReactsLaw : Type 0
ReactsLaw = (input : Input) (now : ℕ) (s s' : SystemState) (sends : List Sending) (answer : Answer)
    → IsTimely s now input → AreShown s → IsAtRest s → Steps input now s s' sends answer
    → (touch : Touch) × IsSeenAs s input touch × Reacts s touch now s' sends

-- a system at rest follows itself or what a port received
abbrev pub FollowsLaw : Type 0
FollowsLaw = (s : SystemState) → AreHeld s → IsAtRest s → SystemIsRoot s ⊎ SystemFollowsPort s

-- the trace of a system at rest may be asked for: the Slave port, if there is one, received something
abbrev pub TraceLaw : Type 0
TraceLaw = (s : SystemState) → AreHeld s → IsAtRest s → SlaveReceived s.held s.slave

-- every step makes of the measuring of each port what it makes of that port alone
abbrev pub MeasuresLaw : Type 0
MeasuresLaw = (input : Input) (now : ℕ) (s s' : SystemState) (sends : List Sending) (answer : Answer)
    → Steps input now s s' sends answer
    → MeasuresAtEachPlace s now input s'

-- every step sends the messages of its input
abbrev pub SendsLaw : Type 0
SendsLaw = (input : Input) (now : ℕ) (s s' : SystemState) (sends : List Sending) (answer : Answer)
    → IsTimely s now input → Steps input now s s' sends answer
    → AreSent s now input sends

-- every step leaves the timers in time, and time that passes leaves them so
abbrev pub InTimeLaw : Type 0
InTimeLaw = (input : Input) (now : ℕ) (s s' : SystemState) (sends : List Sending) (answer : Answer)
    → IsTimely s now input → AreShown s → IsAtRest s → IsInTime s now → Steps input now s s' sends answer
    → IsInTime s' now

abbrev pub LaterLaw : Type 0
LaterLaw = (s : SystemState) (now t : ℕ) → now ≤ t → IsInTime s now → IsInTime s t

-- a new system is in time
abbrev pub StartsInTimeLaw : Type 0
StartsInTimeLaw = (setup : Setup) (now : ℕ) → IsInTime (started setup now) now

-- every step lets the timers of the system run on or begin anew
abbrev pub RunsOnLaw : Type 0
RunsOnLaw = (input : Input) (now : ℕ) (s s' : SystemState) (sends : List Sending) (answer : Answer)
    → Steps input now s s' sends answer
    → RunsOn s now s'

-- every timer that a step starts is due after now
abbrev pub StartedLaw : Type 0
StartedLaw = (input : Input) (now : ℕ) (s s' : SystemState) (sends : List Sending) (answer : Answer)
    → AreParams s.params → IsLog s.largest
    → ((i : ℕ) (q : Port) → slice_get s.ports i ≡ Some q → IsLog q.log_interval)
    → IsTimely s now input → AreShown s → IsAtRest s → Steps input now s s' sends answer
    → (timer : Timer) (t : ℕ) → due timer s' ≡ Some t → (due timer s ≡ Some t) ⊎ (now < t)

-- a timer that ran out is due after now, where it runs at all
abbrev pub RanOutLaw : Type 0
RanOutLaw = (timer : Timer) (now : ℕ) (s s' : SystemState) (sends : List Sending) (answer : Answer)
    → AreParams s.params
    → ((i : ℕ) (q : Port) → slice_get s.ports i ≡ Some q → IsLog q.log_interval)
    → IsTimely s now (Expires timer) → AreShown s → IsAtRest s → Steps (Expires timer) now s s' sends answer
    → (t : ℕ) → due timer s' ≡ Some t → now < t

-- a timer is due within ten announce intervals of sixteen seconds
abbrev pub SpanLaw : Type 0
SpanLaw = (s : SystemState) (now : ℕ) → IsReady s → IsInTime s now
    → (timer : Timer) (t : ℕ) → due timer s ≡ Some t → t ≤ now + 160000000000

-- every step sends within its reach
abbrev pub ReachLaw : Type 0
ReachLaw = (input : Input) (now : ℕ) (s s' : SystemState) (sends : List Sending) (answer : Answer)
    → Steps input now s s' sends answer
    → SendsWithin (reach input s) (length s.ports) sends

-- every step leaves the timers that its input can't change
abbrev pub LeavesLaw : Type 0
LeavesLaw = (input : Input) (now : ℕ) (s s' : SystemState) (sends : List Sending) (answer : Answer)
    → Steps input now s s' sends answer
    → Leaves (is_touched input s) s s'

-- every step counts the Announces and the Syncs that it sends
abbrev pub CountersLaw : Type 0
CountersLaw = (input : Input) (now : ℕ) (s s' : SystemState) (sends : List Sending) (answer : Answer)
    → Steps input now s s' sends answer
    → AreCounted s s' sends

-- every step leaves what a system reads time by, or receives time, or is an expiry of the Sync timer
abbrev pub TimeKeptLaw : Type 0
TimeKeptLaw = (input : Input) (now : ℕ) (s s' : SystemState) (sends : List Sending) (answer : Answer)
    → Steps input now s s' sends answer
    → MakesOfTime input now s s'

-- a system that has taken over goes on to tell the same, as long as it has no Slave port
abbrev pub GoesOnLaw : Type 0
GoesOnLaw = (input : Input) (now : ℕ) (s s' : SystemState) (sends : List Sending) (answer : Answer)
    → s.slave ≡ None → reads_own s.reads ≡ true → Steps input now s s' sends answer
    → GoesOnTelling s s'
