-- How long the timers of a system can still run.
use Rattle.std.specs.Prelude.{◌≡◌, ◌⊎◌, ◌+◌, ◌<◌, ◌≤◌, ℕ, true, Some, slice_get}
use Rattle.gptp_receipt.specs.declared.held.Held.{Held}
use Rattle.gptp_receipt.specs.declared.held.Reception.{Reception}
use Rattle.gptp_receipt.specs.Held.{received}
use Rattle.gptp_system.specs.declared.port.Port.{Port}
use Rattle.gptp_setup.specs.declared.setup.Params.{Params}
use Rattle.gptp_setup.specs.Intervals.{interval_of}
use Rattle.gptp_setup.specs.SettlingParams.{lapse_span}
use Rattle.gptp_system.specs.State.{SystemState, is_mine}

-- a Master port announces within one interval, what was received came before now, and the port asks within one interval
-- and answers within one turnaround
pub record IsPortInTime (params : Params) (now : ℕ) (h : Held) (q : Port) : Type 0 where
  pub announce : is_mine h ≡ true → q.announce ≤ now + interval_of q.log_interval
  pub came : (r : Reception) → received h ≡ Some r → r.at ≤ now
  pub pdelay : (t : ℕ) → q.pdelay ≡ Some t → t ≤ now + interval_of params.pdelay
  pub respond : (t : ℕ) → q.respond ≡ Some t → t ≤ now + params.turnaround

-- All ports announce, ask and answer in time, and what they received came before now. The system tells time within one
-- interval, sends on what it received within one residence, and waits for time that comes within syncReceiptTimeout
-- intervals.
pub record IsInTime (s : SystemState) (now : ℕ) : Type 0 where
  pub each : (i : ℕ) (h : Held) (q : Port) → slice_get s.held i ≡ Some h → slice_get s.ports i ≡ Some q
      → IsPortInTime s.params now h q
  pub sync : s.sync ≤ now + interval_of s.params.sync
  pub relay : (t : ℕ) → s.relay ≡ Some t → t ≤ now + s.params.residence
  pub lapse : (t : ℕ) → s.lapse ≡ Some t → t ≤ now + lapse_span s.params

-- the Lapse timer runs on, while the same root is followed by the same port
pub record LapseRunsOn (s s' : SystemState) (t : ℕ) : Type 0 where
  pub before : s.lapse ≡ Some t
  pub root : s'.root ≡ s.root
  pub slave : s'.slave ≡ s.slave

-- or begins anew, in a network that has a syncReceiptTimeout
pub record WaitsAnew (s : SystemState) (now t : ℕ) : Type 0 where
  pub on : 0 < s.params.sync_timeout
  pub moment : t ≡ now + lapse_span s.params

-- the timers of the system run on, or begin anew
pub record RunsOn (s : SystemState) (now : ℕ) (s' : SystemState) : Type 0 where
  pub sync : (s'.sync ≡ s.sync) ⊎ (s'.sync ≡ now + interval_of s.params.sync)
  pub relay : (t : ℕ) → s'.relay ≡ Some t → (s.relay ≡ Some t) ⊎ (t ≡ now + s.params.residence)
  pub lapse : (t : ℕ) → s'.lapse ≡ Some t → LapseRunsOn s s' t ⊎ WaitsAnew s now t
