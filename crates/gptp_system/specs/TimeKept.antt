-- What a step makes of what a system reads time by, and of the time that it tells.
use Rattle.std.specs.Prelude.{◌≡◌, ◌⊎◌, ◌+◌, ℕ, true, if◌then◌else◌, Some}
use Rattle.gptp_setup.specs.declared.timer.Timer.TheVariants as timers
use Rattle.gptp_setup.specs.Intervals.{interval_of}
use Rattle.gptp_system.specs.declared.reading.Reading.{Reading}
use Rattle.gptp_system.specs.declared.reading.TimeRead.TheVariants as reads
use Rattle.gptp_system.specs.Input.{Input, Expires}
use Rattle.gptp_system.specs.State.{SystemState}
use Rattle.gptp_system.specs.Syncing.{is_leading}
use Rattle.gptp_system.specs.Takeover.{base_after, reads_after, reads_own}

-- it is read as before, and the Sync timer runs on
pub record KeepsTime (s s' : SystemState) : Type 0 where
  pub reads : s'.reads ≡ s.reads
  pub base : s'.base ≡ s.base
  pub sync : s'.sync ≡ s.sync

-- time is received at the Slave port
pub record ReceivesTime (s s' : SystemState) : Type 0 where
  pub slave : ℕ
  pub slave_is : s.slave ≡ Some slave
  pub reading : Reading
  pub reads : s'.reads ≡ Some (reads.Received reading)
  pub base : s'.base ≡ s.base
  pub sync : s'.sync ≡ s.sync

-- the Sync timer expires; a system that leads takes over by that, where it didn't yet
pub record SyncRestarts (now : ℕ) (s s' : SystemState) : Type 0 where
  pub reads : s'.reads ≡ (if is_leading s then reads_after s else s.reads)
  pub base : s'.base ≡ (if is_leading s then base_after now s else s.base)
  pub sync : s'.sync ≡ now + interval_of s.params.sync

-- one of these three
abbrev pub MakesOfTime : Input → ℕ → SystemState → SystemState → Type 0
MakesOfTime input now s s' =
    KeepsTime s s' ⊎ (ReceivesTime s s' ⊎ ((input ≡ Expires timers.Sync) × SyncRestarts now s s'))

-- it has taken over, and goes on to tell the same
pub record GoesOnTelling (s s' : SystemState) : Type 0 where
  pub reads : reads_own s'.reads ≡ true
  pub base : s'.base ≡ s.base
