-- Every system of a world is steady, as it starts and after every step, and none of its timers is late.
use Rattle.std.proofs.Common.{◌≡◌, ◌⊎◌, ℕ, ◌≤◌, ◌<◌, ℤ, List, length, Some, slice_get, sym, subst, inl, inr, arith}
use Rattle.gptp_system.specs.declared.answer.Answer.{Answer}
use Rattle.gptp_system.specs.declared.port.Port.{Port}
use Rattle.gptp_system.specs.declared.sending.Sending.{Sending}
use Rattle.gptp_setup.specs.declared.setup.Setup.{Setup}
use Rattle.gptp_system.specs.Facts.{Keeps}
use Rattle.gptp_system.specs.Input.{Input, IsTimely, Steps}
use Rattle.gptp_setup.specs.Intervals.{AreIntervals, AreParams, IsLog}
use Rattle.gptp_system.specs.Start.{started}
use Rattle.gptp_system.specs.State.{SystemState, clock, due}
use Rattle.gptp_system.proofs.FactLemmas.{keeps_length}
use Rattle.gptp_system.proofs.RestLemmas.{new_held, new_rest, new_shown}
use Rattle.gptp_system.proofs.SpanLemmas.{starts_ahead, starts_logs}
use Rattle.gptp_system.proofs.StartedLemmas.{started_later}
use Rattle.gptp_system.proofs.StepLemmas.{steps_sound}
use Rattle.gptp_system.proofs.SystemLemmas.{is_new}
use Rattle.gptp_model.specs.Ahead.{IsSteady, NoneLate}
use Rattle.gptp_lists.proofs.MappedLemmas.{alike}

-- ---- every step

-- a system keeps its ports and its clock
pub same_ports : (input : Input) (now : ℕ) (s s' : SystemState) (sends : List Sending) (answer : Answer)
    → Steps input now s s' sends answer → length s'.ports ≡ length s.ports
same_ports input now s s' sends answer steps = keeps_length s s' (steps_sound input now s s' sends answer steps).kept

pub same_clock : (input : Input) (now : ℕ) (s s' : SystemState) (sends : List Sending) (answer : Answer)
    → Steps input now s s' sends answer → clock s' ≡ clock s
same_clock input now s s' sends answer steps = (steps_sound input now s s' sends answer steps).kept.same_clock

-- the announce intervals stay
logs_kept : (s s' : SystemState) → Keeps s s'
    → ((i : ℕ) (q : Port) → slice_get s.ports i ≡ Some q → IsLog q.log_interval)
    → (i : ℕ) (q' : Port) → slice_get s'.ports i ≡ Some q' → IsLog q'.log_interval
logs_kept s s' kept logs i q' there =
    let log : Port → ℤ = λ q. q.log_interval in
    let old = alike log log s.ports s'.ports (sym kept.logs) i q' there in
    subst IsLog old.2 (logs i old.0 old.1)

-- a steady system is so after every step
pub steps_steady : (input : Input) (now : ℕ) (s s' : SystemState) (sends : List Sending) (answer : Answer)
    → IsSteady s → Steps input now s s' sends answer → IsSteady s'
steps_steady input now s s' sends answer steady k =
    let sound = steps_sound input now s s' sends answer k in
    record {
      params = subst AreParams (sym sound.kept.params) steady.params;
      largest = subst IsLog (sym sound.kept.largest) steady.largest;
      logs = logs_kept s s' sound.kept steady.logs;
      held = sound.held steady.held;
      rest = sound.rest steady.held steady.rest;
      shown = sound.shown steady.shown;
    }

-- where no timer is late, none is after a step
pub steps_none_late : (input : Input) (now : ℕ) (s s' : SystemState) (sends : List Sending) (answer : Answer)
    → IsSteady s → IsTimely s now input → Steps input now s s' sends answer → NoneLate now s → NoneLate now s'
steps_none_late input now s s' sends answer steady timely k none timer t is =
    by (started_later input now s s' sends answer steady.params steady.largest steady.logs timely steady.shown
    steady.rest k timer t is)
  where
    by : (due timer s ≡ Some t) ⊎ (now < t) → now ≤ t
    by (inl before) = none timer t before
    by (inr later) = omega arith

-- ---- a start

-- a system that starts is steady
pub started_steady : (setup : Setup) (now : ℕ) → AreParams setup.params → AreIntervals setup
    → IsSteady (started setup now)
started_steady setup now params intervals =
    let s = started setup now in
    let new = is_new setup now in
    record {
      params = params;
      largest = intervals.largest;
      logs = starts_logs setup now intervals;
      held = new_held s new;
      rest = new_rest s new;
      shown = new_shown s new;
    }

-- and none of its timers is late
pub started_none_late : (setup : Setup) (now : ℕ) → NoneLate now (started setup now)
started_none_late setup now = starts_ahead setup now
