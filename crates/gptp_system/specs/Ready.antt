-- What is true of the state of every system before each call, and at each place inside one.
use Rattle.std.specs.Prelude.{◌≡◌, ◌≤◌, None, length, pos, ◌≤ℤ◌, ◌<ℤ◌}
use Rattle.std.specs.List.{AllByRecursion}
use Rattle.std.specs.Option.{ForSome}
use Rattle.gptp_receipt.specs.declared.held.Held.{Held}
use Rattle.gptp_receipt.specs.declared.held.Reception.{Reception}
use Rattle.gptp_receipt.specs.Held.{received}
use Rattle.gptp_roles.specs.Choice.{ArePlaced}
use Rattle.gptp_pdelay.specs.declared.answer.Answer.{Answer}
use Rattle.gptp_pdelay.specs.Clock.{IsTime, IsDrift}
use Rattle.gptp_system.specs.declared.port.Port.{Port}
use Rattle.gptp_system.specs.declared.state.State.{State}
use Rattle.gptp_setup.specs.declared.limits.TheConstants.{MOST_PORTS}
use Rattle.gptp_setup.specs.Intervals.{AreParams, IsLog, IsMoment}
use Rattle.gptp_system.specs.State.{SystemState}
use Rattle.gptp_system.specs.Takeover.{time_limit, told_time}

-- the state of a system, without the places that hold nothing
abbrev pub state_of : State → SystemState
state_of s = record {
  params = s.params;
  largest = s.largest;
  phase = s.phase;
  drift = s.drift;
  continues = s.continues;
  seed = s.seed;
  identity = s.identity;
  held = s.held.items;
  ports = s.ports.items;
  root = s.root;
  steps = s.steps;
  slave = s.slave;
  sync_in = s.sync_in;
  known = s.known;
  offset = s.offset;
  reads = s.reads;
  base = s.base;
  sync = s.sync;
  relay = s.relay;
  lapse = s.lapse;
}

-- what a port received came at a moment of the simulation
abbrev pub IsRecent : Held → Type 0
IsRecent h = ForSome (received h) (λ (r : Reception). IsMoment r.at)

-- a port announces at an interval within the limits, and what it owes came at a time that a clock shows
pub record IsReadyPort (q : Port) : Type 0 where
  pub log_interval : IsLog q.log_interval
  pub waiting : ForSome q.peer.waiting (λ (owed : Answer). IsTime owed.t2)

-- What a system tells from its next Sync on is from 0 on, and below 2^48 s.
pub record IsReady (s : SystemState) : Type 0 where
  pub params : AreParams s.params
  pub largest : IsLog s.largest
  pub phase : s.phase ≤ 1000000000000000000
  pub drift : IsDrift s.drift
  pub places : length s.held ≡ length s.ports
  pub few : length s.ports ≤ MOST_PORTS
  pub placed : ArePlaced 1 s.held
  pub recent : AllByRecursion IsRecent s.held
  pub ports : AllByRecursion IsReadyPort s.ports
  pub lapses : s.params.sync_timeout ≡ 0 → s.lapse ≡ None
  pub told : pos 0 ≤ℤ told_time s s.sync
  pub based : s.base <ℤ time_limit
