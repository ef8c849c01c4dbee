-- How a system goes on with the time that it read where it becomes grandmaster (profile). Times of clocks are in units
-- of 2^-16 ns.
use Rattle.std.specs.Prelude.{ℕ, ◌*◌, ◌^◌, ℤ, pos, ◌+ℤ◌, ◌-ℤ◌, int_le, int_lt, Bool, true, false, not, ◌&&◌, if◌then◌else◌, Option, Some, None}
use Rattle.std.specs.List.{list_any}
use Rattle.std.specs.Option.{option_map}
use Rattle.gptp_system.specs.declared.reading.TimeRead.{TimeRead}
use Rattle.gptp_system.specs.declared.reading.TimeRead.TheVariants as reads
use Rattle.gptp_system.specs.Reading.{read_by}
use Rattle.gptp_scaled.specs.TimeStamp.{time_stamp}
use Rattle.gptp_system.specs.State.{SystemState, is_mine, local_time, stamping}

-- ---- what is read, and what is told

-- what the system reads at a time, where it has time
abbrev pub reading : SystemState → ℕ → Option ℤ
reading s now = option_map (λ by. read_by by s.base (local_time s now)) s.reads

-- what it tells at a time where it is grandmaster: what its clock shows, and its base
abbrev pub told_time : SystemState → ℕ → ℤ
told_time s now = local_time s now +ℤ s.base

-- the time stamp of that, which it sends
abbrev pub told_stamp : SystemState → ℕ → ℤ
told_stamp s now = time_stamp (stamping s) now (told_time s now)

-- ---- taking over

-- it took over, and received no time since
abbrev pub reads_own : Option TimeRead → Bool
reads_own (Some reads.Own) = true
reads_own _ = false

-- A system that leads takes over with the first Sync that it sends since its last start or receipt.
abbrev pub takes_over : SystemState → Bool
takes_over s = not (reads_own s.reads) && list_any is_mine s.held

-- 2^47 s: what is told from a time below this on has 48 bits of seconds as long as a simulation lasts
abbrev pub time_limit : ℤ
time_limit = pos (2 ^ 47 * 1000000000 * 2 ^ 16)

-- a system can go on with this time: it is from 0 on, and below the limit
abbrev pub can_go_on : ℤ → Bool
can_go_on time = int_le (pos 0) time && int_lt time time_limit

-- the base by which a clock that shows this goes on with what was read; 0 where nothing was, or it can't
abbrev pub base_to : Option ℤ → ℤ → ℤ
base_to None shown = pos 0
base_to (Some time) shown = if can_go_on time then time -ℤ shown else pos 0

-- the base, and what is read by, of a system that leads as its Sync timer expires: it takes over where it didn't yet
abbrev pub base_after : ℕ → SystemState → ℤ
base_after now s = if takes_over s && s.continues then base_to (reading s now) (local_time s now) else s.base

abbrev pub reads_after : SystemState → Option TimeRead
reads_after s = if takes_over s then Some reads.Own else s.reads

abbrev pub leading : ℕ → SystemState → SystemState
leading now s = record s { base = base_after now s; reads = reads_after s }
