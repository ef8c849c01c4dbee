-- Two looks at what a system reads say how far it is off between them. Times of clocks are in units of 2^-16 ns.
--
-- A clock shows the time of a line, rounded down, and so does what is read where the own clock shows a time. So the
-- error of a reading is that of a line but for less than 1 above and 2.001 below, and on a line nothing lies outside
-- of what its ends are. The base of a source moves the line, and nothing else.
use Rattle.std.specs.Prelude.{ℕ, max, ◌+◌, ◌≤◌, ℤ, ◌+ℤ◌, ◌-ℤ◌, unsigned_abs}
use Rattle.gptp_scaled.specs.Rate.{FitsRate}
use Rattle.gptp_system.specs.Reading.{read_at}
use Rattle.gptp_system.specs.State.{local_time, SystemState}
use Rattle.gptp_system.specs.declared.reading.Reading.{Reading}

-- how far off it is at a time what a system reads by a reading: that, less the time of the source by its base
abbrev pub error_by : Reading → SystemState → SystemState → ℤ → ℕ → ℤ
error_by r own source base time = read_at r (local_time own time) -ℤ (local_time source time +ℤ base)

-- how far the times of two sources, by their bases, differ at a time
abbrev pub ahead_by : SystemState → SystemState → ℤ → ℤ → ℕ → ℤ
ahead_by a b base base' time = (local_time a time +ℤ base) -ℤ (local_time b time +ℤ base')

-- between two moments a reading is off by no more than at the one at which it is off by more, and three units
abbrev pub ReadingLooksSuffice : Type 0
ReadingLooksSuffice = (r : Reading) (own source : SystemState) (base : ℤ) (first time last : ℕ)
    → FitsRate r.rate → first ≤ time → time ≤ last
    → unsigned_abs (error_by r own source base time)
    ≤ max (unsigned_abs (error_by r own source base first)) (unsigned_abs (error_by r own source base last)) + 3

-- between two moments the times of two sources differ by no more than at the one at which they differ by more, and one
-- unit
abbrev pub SourceLooksSuffice : Type 0
SourceLooksSuffice = (a b : SystemState) (base base' : ℤ) (first time last : ℕ) → first ≤ time → time ≤ last
    → unsigned_abs (ahead_by a b base base' time)
    ≤ max (unsigned_abs (ahead_by a b base base' first)) (unsigned_abs (ahead_by a b base base' last)) + 1
