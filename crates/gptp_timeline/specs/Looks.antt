-- What is looked at of what systems read, over the acts of a stretch, and what is measured of it (profile).
use Rattle.std.specs.Prelude.{ℕ, ◌+◌, ◌-◌, ◌==◌, ◌&&◌, Bool, if◌then◌else◌, List, [], ◌∷◌, ◌++◌, map, Option, Some, None, ℤ, ◌-ℤ◌, unsigned_abs}
use Rattle.std.specs.List.{flat_map}
use Rattle.std.specs.Option.{option_and_then, option_map, option_map_or}
use Rattle.gptp_model.specs.World.{WorldState}
use Rattle.gptp_scenario.specs.declared.change.Act.{Act}
use Rattle.gptp_world.specs.Transitions.{ActTrace}
use Rattle.gptp_timeline.specs.Extremes.{extremes_from, ExtremesState, Look}
use Rattle.gptp_timeline.specs.Jumps.{jump_of}
use Rattle.gptp_timeline.specs.Measures.{greatest_from, one_at}
use Rattle.gptp_timeline.specs.Readings.{changes_source, new_in, read_after, reading_error, readings_after}
use Rattle.gptp_timeline.specs.Sources.{DifferenceState, told_difference, widest_from}
use Rattle.gptp_timeline.specs.Stretch.{at_of, is_change}
use Rattle.gptp_timeline.specs.declared.looks.TimeMeasures.{TimeMeasures}
use Rattle.gptp_timeline.specs.declared.measures.Greatest.{Greatest}
use Rattle.gptp_timeline.specs.declared.readings.Jump.{Jump}
use Rattle.gptp_timeline.specs.declared.readings.NewReading.{NewReading}
use Rattle.gptp_timeline.specs.declared.readings.SystemReading.{SystemReading}

-- ---- what is looked at

-- errors of systems; differences of told sources; steps; and changes of source, each by its time
pub record LookedAt : Type 0 where
  pub errors : List Look
  pub differences : List DifferenceState
  pub steps : List Greatest
  pub changes : List Greatest

abbrev pub nothing_looked : LookedAt
nothing_looked = record { errors = []; differences = []; steps = []; changes = [] }

-- first the one, then the other
abbrev pub looked_both : LookedAt → LookedAt → LookedAt
looked_both a b = record {
  errors = a.errors ++ b.errors;
  differences = a.differences ++ b.differences;
  steps = a.steps ++ b.steps;
  changes = a.changes ++ b.changes;
}

abbrev pub listed : {X : Type 0} → Option X → List X
listed None = []
listed (Some x) = x ∷ []

abbrev pub look : ℕ → ℤ → Look
look name error = record { clock = name; error = error }

abbrev pub look_if : ℕ → Option ℤ → List Look
look_if name error = listed (option_map (look name) error)

-- the error of a system at a time, where it has time
abbrev pub error_in : ℕ → WorldState → SystemReading → Option ℤ
error_in at w x = option_and_then (reading_error at w x.clock) x.reading

-- one error alone, one difference, or a step and a change of source, where they are there
abbrev pub looked_error : ℕ → Option ℤ → LookedAt
looked_error name error = record nothing_looked { errors = look_if name error }

abbrev pub looked_difference : Option DifferenceState → LookedAt
looked_difference difference = record nothing_looked { differences = listed difference }

abbrev pub looked_step : Option Greatest → Option Greatest → LookedAt
looked_step step change = record nothing_looked { steps = listed step; changes = listed change }

-- each system that has time, by rising clock
abbrev pub errors_all : ℕ → WorldState → List SystemReading → List Look
errors_all at w rs = flat_map (λ (x : SystemReading). look_if x.clock (error_in at w x)) rs

abbrev pub looked_each : ℕ → WorldState → List SystemReading → LookedAt
looked_each at w rs = record nothing_looked { errors = errors_all at w rs }

-- and the told sources together
abbrev pub looked_all : ℕ → WorldState → List SystemReading → LookedAt
looked_all at w rs = record {
  errors = errors_all at w rs;
  differences = listed (told_difference at w rs);
  steps = [];
  changes = [];
}

-- the told sources, where a source changes
abbrev pub told_if : Bool → ℕ → WorldState → List SystemReading → Option DifferenceState
told_if changes at w rs = if changes then told_difference at w rs else None

abbrev pub change_if : Bool → ℕ → ℕ → List Greatest
change_if changes name at = if changes then one_at name at ∷ [] else []

-- A system that gets a reading, first by the one before, then by the new one; and the told sources before the act and
-- after it, where it changes its source.
abbrev pub looked_jump : ℕ → NewReading → Jump → Option DifferenceState → Option DifferenceState → LookedAt
looked_jump at u j before after = record {
  errors = look_if u.clock j.before ++ look_if u.clock j.after;
  differences = listed before ++ listed after;
  steps = listed (option_map (λ z. one_at u.clock (unsigned_abs z)) j.step);
  changes = change_if (changes_source u) u.clock at;
}

abbrev pub looked_new : ℕ → WorldState → NewReading → Option DifferenceState → Option DifferenceState → LookedAt
looked_new at w u = looked_jump at u (jump_of at w u)

-- how many events of the stretch are still to come
abbrev pub left_after : Act → ℕ → ℕ
left_after act left = if is_change act then left - 1 else left

-- after the last event of the stretch all are looked at
abbrev pub looked_event : Bool → ℕ → WorldState → List SystemReading → LookedAt
looked_event is_last at w rs = if is_last then looked_all at w rs else nothing_looked

-- by an act, where systems read so before and after it, and so many events of the stretch were to come
abbrev pub looked_by : ℕ → WorldState → Act → ℕ → Option NewReading → List SystemReading → List SystemReading → LookedAt
looked_by at w act left None rs after = looked_event (is_change act && (left == 1)) at w after
looked_by at w act left (Some u) rs after =
    looked_new at w u (told_if (changes_source u) at w rs) (told_if (changes_source u) at w after)

abbrev pub looked_in : List SystemReading → ℕ → ActTrace → LookedAt
looked_in rs left t = looked_by (at_of t) t.after t.told.timed.act left (new_in t rs) rs (read_after t rs)

-- by several acts, one after another
abbrev pub looked_over : List SystemReading → ℕ → List ActTrace → LookedAt
looked_over rs left [] = nothing_looked
looked_over rs left (t ∷ ts) =
    looked_both (looked_in rs left t) (looked_over (read_after t rs) (left_after t.told.timed.act left) ts)

abbrev pub events_left : List ActTrace → ℕ → ℕ
events_left [] left = left
events_left (t ∷ ts) left = events_left ts (left_after t.told.timed.act left)

-- ---- what is measured of it

abbrev pub look_amount : Look → Greatest
look_amount l = one_at l.clock (unsigned_abs l.error)

-- the greatest absolute error, the least and the greatest error, the greatest difference, the greatest step, and the
-- last change of source; of equals the first
abbrev pub measured_with : LookedAt → TimeMeasures → TimeMeasures
measured_with l m = record {
  time = greatest_from m.time (map look_amount l.errors);
  errors = extremes_from m.errors l.errors;
  sources = widest_from m.sources l.differences;
  step = greatest_from m.step l.steps;
  changed = greatest_from m.changed l.changes;
}

abbrev pub nothing_read : TimeMeasures
nothing_read = record { time = None; errors = None; sources = None; step = None; changed = None }

-- Of a stretch of so many events and these acts that ends at a time in this world, before which systems read so.
abbrev pub measured_times : List SystemReading → ℕ → List ActTrace → ℕ → WorldState → TimeMeasures
measured_times rs left ts to w =
    measured_with (looked_both (looked_over rs left ts) (looked_all to w (readings_after ts rs))) nothing_read

-- how far apart systems read: the sources, and the errors
abbrev pub apart_sources : Option DifferenceState → ℕ
apart_sources d = option_map_or (λ (x : DifferenceState). x.amount) d 0

abbrev pub apart_errors : Option ExtremesState → ℕ
apart_errors e = option_map_or (λ (x : ExtremesState). unsigned_abs (x.most -ℤ x.least)) e 0

abbrev pub apart : TimeMeasures → ℕ
apart m = apart_sources m.sources + apart_errors m.errors

abbrev pub changed_after : TimeMeasures → ℕ → Option ℕ
changed_after m from = option_map (λ (g : Greatest). g.amount - from) m.changed
