-- At which ports a step of a system can send, and which timers it can change, as its input and the state before it
-- tell.
use Rattle.std.specs.Prelude.{◌≡◌, ◌≤◌, ℕ, ◌*◌, ◌==◌, Bool, true, false, ◌&&◌, ◌||◌, if◌then◌else◌, List, [], length}
use Rattle.gptp_lists.specs.Members.{In}
use Rattle.gptp_messages.specs.Head.{message_type}
use Rattle.gptp_pdelay.specs.Peer.{after_interval}
use Rattle.gptp_system.specs.declared.reach.Reach.{Reach}
use Rattle.gptp_system.specs.declared.reach.Reach.TheVariants as reaches
use Rattle.gptp_system.specs.declared.sending.Sending.{Sending}
use Rattle.gptp_setup.specs.declared.timer.Timer.{Timer}
use Rattle.gptp_setup.specs.declared.timer.Timer.TheVariants as timers
use Rattle.gptp_system.specs.State.{SystemState, due, is_capable_at, number}
use Rattle.gptp_system.specs.Sends.{count_such}
use Rattle.gptp_system.specs.Measuring.{is_turned}
use Rattle.gptp_system.specs.Input.{Input, PortUp, PortDown, Frame, Expires, Priority}

-- ---- sends

-- An Announce (messageType 11), and a Pdelay_Resp_Follow_Up (10) that completes an exchange, can make the system select
-- (10.3.12 and 11.2.19).
abbrev pub may_select : ℕ → Bool
may_select kind = kind == 0xB || kind == 0xA

-- Then any port may announce. No other message is answered at once. The messageType alone tells, whether or not the
-- frame reads as a message.
abbrev pub type_reach : ℕ → Reach
type_reach kind = if may_select kind then reaches.All else reaches.Nothing

abbrev pub frame_reach : List ℕ → Reach
frame_reach octets = type_reach (message_type octets)

-- a port asks its neighbour; where it stops being asCapable by what happens before that, selection follows
abbrev pub asking_reach : Bool → ℕ → Reach
asking_reach stops p = if stops then reaches.All else reaches.Port p

-- the expiry of the Pdelay timer makes the port stop being asCapable: it loses one request too many (11.2.13)
abbrev pub stops_at : ℕ → SystemState → Bool
stops_at p s = is_turned after_interval (number s.ports p)

abbrev pub timer_reach : Timer → SystemState → Reach
timer_reach (timers.Announce p) s = reaches.Port p
timer_reach (timers.Age p) s = reaches.All
timer_reach (timers.Pdelay p) s = asking_reach (stops_at p s) p
timer_reach (timers.Respond p) s = reaches.Port p
timer_reach timers.Sync s = reaches.All
timer_reach timers.Relay s = reaches.All
timer_reach timers.Lapse s = reaches.All

-- a port whose link comes up begins anew, and so stops being asCapable where it was
abbrev pub reach : Input → SystemState → Reach
reach (PortUp p) s = asking_reach (is_capable_at s p) p
reach (PortDown p) s = reaches.All
reach (Frame p octets) s = frame_reach octets
reach (Expires timer) s = timer_reach timer s
reach (Priority value) s = reaches.All

-- how many of the sends go at this port
abbrev pub count_sends_at : ℕ → List Sending → ℕ
count_sends_at p sends = count_such (λ (x : Sending). x.port == p) sends

-- at most two sends, both at this port
pub record AreAt (p : ℕ) (sends : List Sending) : Type 0 where
  pub port : (x : Sending) → In x sends → x.port ≡ p
  pub few : length sends ≤ 2

-- sends at the ports 1 to the last, at most two at each
pub record AreAtPorts (last : ℕ) (sends : List Sending) : Type 0 where
  pub least : (x : Sending) → In x sends → 1 ≤ x.port
  pub most : (x : Sending) → In x sends → x.port ≤ last
  pub each : (p : ℕ) → count_sends_at p sends ≤ 2
  pub few : length sends ≤ 2 * last

-- a system with this many ports sends within a reach
abbrev pub SendsWithin : Reach → ℕ → List Sending → Type 0
SendsWithin reaches.Nothing ports sends = sends ≡ []
SendsWithin (reaches.Port p) ports sends = AreAt p sends
SendsWithin reaches.All ports sends = AreAtPorts ports sends

-- ---- timers

abbrev pub same_timer : Timer → Timer → Bool
same_timer (timers.Announce p) (timers.Announce q) = p == q
same_timer (timers.Age p) (timers.Age q) = p == q
same_timer (timers.Pdelay p) (timers.Pdelay q) = p == q
same_timer (timers.Respond p) (timers.Respond q) = p == q
same_timer timers.Sync timers.Sync = true
same_timer timers.Relay timers.Relay = true
same_timer timers.Lapse timers.Lapse = true
same_timer a b = false

-- time that comes changes the Relay and the Lapse timer
abbrev pub is_of_time : Timer → Bool
is_of_time timers.Relay = true
is_of_time timers.Lapse = true
is_of_time timer = false

-- selection can change the Announce and the Age timer of every port, and those two
abbrev pub is_selected : Timer → Bool
is_selected (timers.Announce p) = true
is_selected (timers.Age p) = true
is_selected timer = is_of_time timer

-- A message heard at a port can change these: a Pdelay_Req (2) the Respond timer of the port, a Follow_Up (8) the Relay
-- and the Lapse timer, and one after which the system may select those that selection can change.
abbrev pub is_touched_by : ℕ → ℕ → Timer → Bool
is_touched_by kind p timer =
    if kind == 0x2 then same_timer (timers.Respond p) timer
    else if kind == 0x8 then is_of_time timer
    else may_select kind && is_selected timer

-- a port asks its neighbour
abbrev pub is_touched_asking : Bool → ℕ → Timer → Bool
is_touched_asking stops p timer = same_timer (timers.Pdelay p) timer || (stops && is_selected timer)

-- an input can change these timers, and no other
abbrev pub is_touched : Input → SystemState → Timer → Bool
is_touched (PortUp p) s timer = is_touched_asking (is_capable_at s p) p timer
is_touched (PortDown p) s timer =
    same_timer (timers.Pdelay p) timer || (same_timer (timers.Respond p) timer || is_selected timer)
is_touched (Frame p octets) s timer = is_touched_by (message_type octets) p timer
is_touched (Expires (timers.Announce p)) s timer = same_timer (timers.Announce p) timer
is_touched (Expires (timers.Age p)) s timer = is_selected timer
is_touched (Expires (timers.Pdelay p)) s timer = is_touched_asking (stops_at p s) p timer
is_touched (Expires (timers.Respond p)) s timer = same_timer (timers.Respond p) timer
is_touched (Expires timers.Sync) s timer = same_timer timers.Sync timer
is_touched (Expires timers.Relay) s timer = same_timer timers.Relay timer
is_touched (Expires timers.Lapse) s timer = is_selected timer
is_touched (Priority value) s timer = is_selected timer

-- all timers that aren't touched are due when they were
abbrev pub Leaves : (Timer → Bool) → SystemState → SystemState → Type 0
Leaves touched s s' = (timer : Timer) → touched timer ≡ false → due timer s' ≡ due timer s
