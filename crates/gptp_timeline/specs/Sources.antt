-- How far the times of told sources differ (profile). A source is told where a live system reads by it.
use Rattle.std.specs.Prelude.{ℕ, ◌==◌, ◌≤◌, ◌^◌, nat_lt, if◌then◌else◌, List, [], ◌∷◌, Option, Some, None, ℤ, ◌+ℤ◌, ◌-ℤ◌, int_lt, unsigned_abs}
use Rattle.std.specs.Option.{option_and_then, option_map}
use Rattle.gptp_model.specs.World.{WorldState}
use Rattle.gptp_timeline.specs.Readings.{clock_time}
use Rattle.gptp_timeline.specs.declared.readings.KeptReading.{KeptReading}
use Rattle.gptp_timeline.specs.declared.readings.SystemReading.{SystemReading}
use Rattle.gptp_timeline.specs.declared.sources.Ends.{Ends}
use Rattle.gptp_timeline.specs.declared.sources.SourceTime.{SourceTime}

-- how far the times of two sources differ, and whose is the greater and whose the less
pub record DifferenceState : Type 0 where
  pub amount : ℕ
  pub ahead : ℕ
  pub behind : ℕ

-- its time: what its clock shows, and its base
abbrev pub time_of : SourceTime → ℤ
time_of one = one.shown +ℤ one.source.base

-- ---- the greatest and the least time

-- of equal times that with the lower clock
abbrev pub further_ahead : SourceTime → SourceTime → SourceTime
further_ahead best one =
    if int_lt (time_of best) (time_of one) then one
    else if int_lt (time_of one) (time_of best) then best
    else if nat_lt one.source.clock best.source.clock then one else best

abbrev pub further_behind : SourceTime → SourceTime → SourceTime
further_behind best one =
    if int_lt (time_of one) (time_of best) then one
    else if int_lt (time_of best) (time_of one) then best
    else if nat_lt one.source.clock best.source.clock then one else best

abbrev pub ends_with : Option Ends → Option SourceTime → Option Ends
ends_with ends None = ends
ends_with None (Some one) = Some (record { ahead = one; behind = one })
ends_with (Some ends) (Some one) =
    Some (record { ahead = further_ahead ends.ahead one; behind = further_behind ends.behind one })

abbrev pub source_at : ℕ → WorldState → KeptReading → Option SourceTime
source_at at w kept =
    option_map (λ shown. record { source = kept.source; shown = shown }) (clock_time kept.source.clock at w)

-- the source of a system, with what its clock shows
abbrev pub told_time : ℕ → WorldState → SystemReading → Option SourceTime
told_time at w x = option_and_then (source_at at w) x.reading

-- of some and of the sources of several systems
abbrev pub ends_from : ℕ → WorldState → Option Ends → List SystemReading → Option Ends
ends_from at w ends [] = ends
ends_from at w ends (x ∷ xs) = ends_from at w (ends_with ends (told_time at w x)) xs

-- ---- how far they differ

abbrev pub difference_if : ℕ → Ends → Option DifferenceState
difference_if amount ends =
    if amount == 0 then None
    else Some (record { amount = amount; ahead = ends.ahead.source.clock; behind = ends.behind.source.clock })

-- none where they don't differ
abbrev pub difference_of : Option Ends → Option DifferenceState
difference_of None = None
difference_of (Some ends) = difference_if (unsigned_abs (time_of ends.ahead -ℤ time_of ends.behind)) ends

-- the greatest difference of the times of two sources that are told at a time
abbrev pub told_difference : ℕ → WorldState → List SystemReading → Option DifferenceState
told_difference at w rs = difference_of (ends_from at w None rs)

-- ---- the greatest of several; of equals the first

abbrev pub wider : Option DifferenceState → DifferenceState → Option DifferenceState
wider None one = Some one
wider (Some best) one = if nat_lt best.amount one.amount then Some one else Some best

abbrev pub widest_from : Option DifferenceState → List DifferenceState → Option DifferenceState
widest_from best [] = best
widest_from best (one ∷ others) = widest_from (wider best one) others

-- they are so small that 128 bits hold their sums
pub record IsSmallDifference (d : DifferenceState) : Type 0 where
  pub small : d.amount ≤ 2 ^ 97
