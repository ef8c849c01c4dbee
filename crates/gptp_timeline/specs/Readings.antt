-- What systems read of time, and by what (profile). Times of clocks are in units of 2^-16 ns.
use Rattle.std.specs.Prelude.{ℕ, ◌==◌, ◌||◌, ◌&&◌, Bool, true, false, not, if◌then◌else◌, List, [], ◌∷◌, map, Option, Some, None, is_none, ℤ, pos, ◌+ℤ◌, ◌-ℤ◌}
use Rattle.std.specs.List.{list_any}
use Rattle.std.specs.Ordering.{int_eq}
use Rattle.std.specs.Option.{option_and_then, option_map, option_map_or}
use Rattle.gptp_accuracy.specs.TimeErrors.{root_is_capable}
use Rattle.gptp_model.specs.World.{WorldState}
use Rattle.gptp_model.specs.declared.done.Done.{Done}
use Rattle.gptp_model.specs.declared.station.Station.{Station}
use Rattle.gptp_roles.specs.Selection.{clock_of}
use Rattle.gptp_roles.specs.declared.role.Role.{Role}
use Rattle.gptp_roles.specs.declared.role.Role.TheVariants.{Master}
use Rattle.gptp_scenario.specs.declared.change.Act.{Act}
use Rattle.gptp_scenario.specs.declared.change.Act.TheVariants.{Change as Changing, Deliver, Expire}
use Rattle.gptp_scenario.specs.declared.change.Change.{Change}
use Rattle.gptp_scenario.specs.declared.change.Change.TheVariants.{Fail}
use Rattle.gptp_setup.specs.declared.timer.Timer.{Timer}
use Rattle.gptp_setup.specs.declared.timer.Timer.TheVariants.{Sync}
use Rattle.gptp_system.specs.Reading.{read_at}
use Rattle.gptp_system.specs.State.{SystemState, clock, local_time}
use Rattle.gptp_system.specs.declared.reading.Reading.{Reading}
use Rattle.gptp_system.specs.Syncing.{held_reading}
use Rattle.gptp_world.specs.Transitions.{ActTrace}
use Rattle.gptp_timeline.specs.Ports.{shown_ports}
use Rattle.gptp_timeline.specs.Receipts.{received_by}
use Rattle.gptp_timeline.specs.Shown.{live_system}
use Rattle.gptp_timeline.specs.declared.ports.ShownPort.{ShownPort}
use Rattle.gptp_timeline.specs.declared.readings.KeptReading.{KeptReading}
use Rattle.gptp_timeline.specs.declared.readings.NewReading.{NewReading}
use Rattle.gptp_timeline.specs.declared.readings.SystemReading.{SystemReading}
use Rattle.gptp_timeline.specs.declared.readings.TimeSource.{TimeSource}

-- ---- what is read, and how far off it is

-- what the clock of a system, live or failed, shows at a time
abbrev pub clock_among : ℕ → ℕ → List Station → Option ℤ
clock_among name at [] = None
clock_among name at (station ∷ stations) =
    if clock station.system == name then Some (local_time station.system at) else clock_among name at stations

abbrev pub clock_time : ℕ → ℕ → WorldState → Option ℤ
clock_time name at w = clock_among name at w.stations

-- the base of a system, live or failed; 0 where there is no such system
abbrev pub base_among : ℕ → List Station → ℤ
base_among name [] = pos 0
base_among name (station ∷ stations) =
    if clock station.system == name then station.system.base else base_among name stations

abbrev pub base_of : ℕ → WorldState → ℤ
base_of name w = base_among name w.stations

-- a system as a source: its clock, with the base that it has
abbrev pub source_named : ℕ → WorldState → TimeSource
source_named name w = record { clock = name; base = base_of name w }

-- the time of a source: what its clock shows, and its base
abbrev pub source_time : TimeSource → ℕ → WorldState → Option ℤ
source_time source at w = option_map (λ shown. shown +ℤ source.base) (clock_time source.clock at w)

-- what is read where the own clock shows this: by what a Follow_Up left, or the own clock and its base
abbrev pub read_by : KeptReading → ℤ → ℤ
read_by kept shown = option_map_or (λ r. read_at r shown) kept.received (shown +ℤ kept.source.base)

-- How far off a system is at a time that reads by this: what it reads, less the time of the source. There is no error
-- where no system has that clock.
abbrev pub reading_error : ℕ → WorldState → ℕ → KeptReading → Option ℤ
reading_error at w name kept = option_and_then (λ shown.
    option_map (λ time. read_by kept shown -ℤ time) (source_time kept.source at w)) (clock_time name at w)

-- ---- receipts and takeovers

abbrev pub received_from : TimeSource → Reading → KeptReading
received_from source r = record { source = source; received = Some r }

-- what a Follow_Up leaves a live system that was used: its source is the clock of the root, with the base that it has
abbrev pub received_reading : WorldState → SystemState → Option KeptReading
received_reading w s = option_map (received_from (source_named (clock_of s.root) w)) (held_reading s)

-- what a system reads by that took over: its own clock and its base
abbrev pub own_reading : WorldState → ℕ → KeptReading
own_reading w name = record { source = source_named name w; received = None }

-- it took over, and received no time since
abbrev pub reads_own : Option KeptReading → Bool
reads_own kept = option_map_or (λ (k : KeptReading). is_none k.received) kept false

abbrev pub is_master_role : Role → Bool
is_master_role Master = true
is_master_role role = false

abbrev pub is_master : ShownPort → Bool
is_master p = is_master_role p.role

-- A live system leads: it has no Slave port, and so is its own root, it can be a grandmaster, and it has a Master port,
-- at which it sends time of its own.
abbrev pub is_leading : SystemState → Bool
is_leading s = is_none s.slave && (root_is_capable s.root && list_any is_master (shown_ports s))

-- what is kept of a system: by what it reads, if it has time
abbrev pub reading_among : List SystemReading → ℕ → Option KeptReading
reading_among [] name = None
reading_among (x ∷ xs) name = if x.clock == name then x.reading else reading_among xs name

-- a system reads by this from then on
abbrev pub gets : ℕ → Bool → Option KeptReading → KeptReading → NewReading
gets name received before after = record { clock = name; before = before; after = after; received = received }

-- by a receipt
abbrev pub by_receipt : WorldState → List SystemReading → Option ℕ → Option NewReading
by_receipt w rs None = None
by_receipt w rs (Some name) = option_map (gets name true (reading_among rs name))
    (option_and_then (received_reading w) (live_system name w))

-- The Sync timer of a system expired. It takes over where it leads, and didn't since its last start or receipt.
abbrev pub by_takeover : WorldState → List SystemReading → ℕ → Option NewReading
by_takeover w rs name =
    if reads_own (reading_among rs name) || not (option_map_or is_leading (live_system name w) false) then None
    else Some (gets name false (reading_among rs name) (own_reading w name))

abbrev pub by_expiry : WorldState → List SystemReading → ℕ → Timer → Option NewReading
by_expiry w rs name Sync = by_takeover w rs name
by_expiry w rs name timer = None

-- the reading that a system gets by an act, if one does, where systems read so before and this is the world after it
abbrev pub new_reading : Act → Done → WorldState → List SystemReading → Option NewReading
new_reading (Deliver link direction) done w rs = by_receipt w rs (received_by done)
new_reading (Expire name timer) done w rs = by_expiry w rs name timer
new_reading (Changing change) done w rs = None

-- ---- what systems read after acts

abbrev pub failed_in : Change → Option ℕ
failed_in (Fail name) = Some name
failed_in change = None

-- the system that an act makes fail
abbrev pub failed_by : Act → Option ℕ
failed_by (Deliver link direction) = None
failed_by (Expire name timer) = None
failed_by (Changing change) = failed_in change

abbrev pub with_reading : ℕ → Option KeptReading → SystemReading → SystemReading
with_reading name kept x = if x.clock == name then record x { reading = kept } else x

-- a system reads by this from then on, or has no time
abbrev pub put_reading : ℕ → Option KeptReading → List SystemReading → List SystemReading
put_reading name kept rs = map (with_reading name kept) rs

abbrev pub without_failed : Option ℕ → List SystemReading → List SystemReading
without_failed None rs = rs
without_failed (Some name) rs = put_reading name None rs

-- A system keeps a reading until it gets another, or fails.
abbrev pub readings_by : Act → Option NewReading → List SystemReading → List SystemReading
readings_by act (Some u) rs = put_reading u.clock (Some u.after) rs
readings_by act None rs = without_failed (failed_by act) rs

abbrev pub new_in : ActTrace → List SystemReading → Option NewReading
new_in t rs = new_reading t.told.timed.act t.told.done t.after rs

abbrev pub read_after : ActTrace → List SystemReading → List SystemReading
read_after t rs = readings_by t.told.timed.act (new_in t rs) rs

-- after several acts, one after another
abbrev pub readings_after : List ActTrace → List SystemReading → List SystemReading
readings_after [] rs = rs
readings_after (t ∷ ts) rs = readings_after ts (read_after t rs)

-- no system has time yet
abbrev pub no_reading : ℕ → SystemReading
no_reading name = record { clock = name; reading = None }

-- ---- steps and changes of source

-- two sources are one: clock and base are the same
abbrev pub same_source : TimeSource → TimeSource → Bool
same_source a b = a.clock == b.clock && int_eq a.base b.base

-- a system has another source than before, or had no time
abbrev pub changes_source : NewReading → Bool
changes_source u = option_map_or (λ (k : KeptReading). not (same_source k.source u.after.source)) u.before true

-- what a system reads by the new reading less what it reads by the one before; none where it had no time
abbrev pub step_of : ℕ → WorldState → NewReading → Option ℤ
step_of at w u = option_and_then (λ old.
    option_map (λ shown. read_by u.after shown -ℤ read_by old shown) (clock_time u.clock at w)) u.before
