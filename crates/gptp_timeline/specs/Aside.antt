-- Systems that are set aside: what they read isn't looked at, and what they tell isn't told (profile).
use Rattle.std.specs.Prelude.{ℕ, ◌==◌, ◌&&◌, nat_le, not, Bool, false, if◌then◌else◌, List, [], ◌∷◌, Option, Some, None}
use Rattle.std.specs.List.{filter, list_any}
use Rattle.std.specs.Option.{option_map_or}
use Rattle.gptp_model.specs.declared.done.Done.{Done}
use Rattle.gptp_scenario.specs.declared.change.Act.{Act}
use Rattle.gptp_scenario.specs.declared.change.Act.TheVariants.{Change as Changing, Deliver, Expire}
use Rattle.gptp_world.specs.Transitions.{ActTrace}
use Rattle.gptp_timeline.specs.Readings.{put_reading}
use Rattle.gptp_timeline.specs.Receipts.{received_by}
use Rattle.gptp_timeline.specs.declared.readings.SystemReading.{SystemReading}

-- who is set aside from the events of a time on, until it receives time behind those of a later one; and when the
-- stretch began that passes
pub record AsideState : Type 0 where
  pub clocks : List ℕ
  pub from : ℕ
  pub back : ℕ
  pub begun : ℕ

abbrev pub nobody_aside : AsideState
nobody_aside = record { clocks = []; from = 0; back = 0; begun = 0 }

-- a stretch begins
abbrev pub aside_begun : ℕ → AsideState → AsideState
aside_begun at a = record a { begun = at }

abbrev pub is_set_aside : AsideState → Bool
is_set_aside a = nat_le a.from a.begun

abbrev pub is_returned : AsideState → Bool
is_returned a = nat_le a.back a.begun

-- ---- acts of those that are set aside

abbrev pub is_aside : List ℕ → Option ℕ → Bool
is_aside clocks name = option_map_or (λ x. list_any (λ y. y == x) clocks) name false

-- an act of one of these systems, but for a receipt where that ends it
abbrev pub left_out : List ℕ → Bool → Act → Done → Bool
left_out clocks returned (Deliver link direction) done = not returned && is_aside clocks (received_by done)
left_out clocks returned (Expire name timer) done = is_aside clocks (Some name)
left_out clocks returned (Changing change) done = false

abbrev pub is_left_out : AsideState → Act → Done → Bool
is_left_out a act done = is_set_aside a && left_out a.clocks (is_returned a) act done

-- who received time by an act
abbrev pub received_in : Act → Done → Option ℕ
received_in (Deliver link direction) done = received_by done
received_in (Expire name timer) done = None
received_in (Changing change) done = None

abbrev pub without_clock : Option ℕ → List ℕ → List ℕ
without_clock None clocks = clocks
without_clock (Some name) clocks = filter (λ x. not (x == name)) clocks

-- a receipt ends it behind the return
abbrev pub aside_after : Act → Done → AsideState → AsideState
aside_after act done a =
    if is_set_aside a && is_returned a then record a { clocks = without_clock (received_in act done) a.clocks } else a

-- ---- over acts

abbrev pub is_out : AsideState → ActTrace → Bool
is_out a t = is_left_out a t.told.timed.act t.told.done

abbrev pub aside_behind : ActTrace → AsideState → AsideState
aside_behind t a = aside_after t.told.timed.act t.told.done a

-- the acts by which what is looked at can change, in their order
abbrev pub looked_acts : AsideState → List ActTrace → List ActTrace
looked_acts a [] = []
looked_acts a (t ∷ ts) =
    if is_out a t then looked_acts (aside_behind t a) ts else t ∷ looked_acts (aside_behind t a) ts

abbrev pub aside_over : List ActTrace → AsideState → AsideState
aside_over [] a = a
aside_over (t ∷ ts) a = aside_over ts (aside_behind t a)

-- these systems have no time from now on
abbrev pub without_readings : List ℕ → List SystemReading → List SystemReading
without_readings [] rs = rs
without_readings (name ∷ names) rs = without_readings names (put_reading name None rs)

-- where a stretch begins from whose events on they are set aside
abbrev pub readings_begun : AsideState → List SystemReading → List SystemReading
readings_begun a rs = if a.begun == a.from then without_readings a.clocks rs else rs
