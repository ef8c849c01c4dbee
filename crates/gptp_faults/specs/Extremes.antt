-- The greatest of several stretches (profile).
use Rattle.std.specs.Prelude.{ℕ, ◌+◌, ◌-◌, ◌==◌, max, nat_lt, if◌then◌else◌, List, [], ◌∷◌, Option, Some, None}
use Rattle.std.specs.Option.{option_and_then, option_map, option_or}
use Rattle.gptp_timeline.specs.Limits.{amount_of, choice_after}
use Rattle.gptp_how_soon.specs.declared.bounds.Settling.{Settling}
use Rattle.gptp_timeline.specs.Looks.{apart}
use Rattle.gptp_timeline.specs.Measures.{better_if, one_at}
use Rattle.gptp_timeline.specs.declared.counts.Counts.{Counts}
use Rattle.gptp_timeline.specs.declared.looks.TimeMeasures.{TimeMeasures}
use Rattle.gptp_timeline.specs.declared.measures.Greatest.{Greatest}
use Rattle.gptp_timeline.specs.declared.stretch.Stretch.{Stretch}
use Rattle.gptp_faults.specs.declared.extremes.Apart.{Apart}
use Rattle.gptp_faults.specs.declared.extremes.Extremes.{Extremes}
use Rattle.gptp_faults.specs.declared.extremes.HowSoon.{HowSoon}
use Rattle.gptp_faults.specs.declared.extremes.TimeExtremes.{TimeExtremes}

-- ---- the greater of two, of equals the first

-- none is below every number
abbrev pub greater_if : Option ℕ → Option ℕ → Option ℕ
greater_if a None = a
greater_if None (Some y) = Some y
greater_if (Some x) (Some y) = if nat_lt x y then Some y else Some x

abbrev pub greater_counts : Counts → Counts → Counts
greater_counts a b = record {
  without = max a.without b.without;
  roots = max a.roots b.roots;
  alone = max a.alone b.alone;
}

-- of how soon the choice and the roles stand, none is above every number
abbrev pub later_bounds : Option HowSoon → Option HowSoon → Option HowSoon
later_bounds None b = None
later_bounds (Some x) None = None
later_bounds (Some x) (Some y) = Some (record { choice = max x.choice y.choice; roles = max x.roles y.roles })

-- with the sources of that stretch
abbrev pub further : Apart → Apart → Apart
further a b = if nat_lt a.amount b.amount then b else a

-- ---- what systems read

-- how long after a time a system changed its source last
abbrev pub changed_since : ℕ → Option Greatest → Option Greatest
changed_since from = option_map (λ (g : Greatest). one_at g.clock (g.amount - from))

abbrev pub nothing_read : TimeExtremes
nothing_read = record {
  time = None;
  apart = record { amount = 0; sources = None };
  step = None;
  first = None;
  first_asked = None;
}

-- of a stretch of which this was measured
abbrev pub times_measured : Stretch → TimeMeasures → TimeExtremes
times_measured s m = record {
  time = m.time;
  apart = record { amount = apart m; sources = m.sources };
  step = m.step;
  first = changed_since s.from m.changed;
  first_asked = None;
}

abbrev pub times_by : Stretch → Option TimeMeasures → TimeExtremes
times_by s None = nothing_read
times_by s (Some m) = times_measured s m

abbrev pub times_of_two : TimeExtremes → TimeExtremes → TimeExtremes
times_of_two a b = record {
  time = better_if a.time b.time;
  apart = further a.apart b.apart;
  step = better_if a.step b.step;
  first = better_if a.first b.first;
  first_asked = greater_if a.first_asked b.first_asked;
}

-- ---- all amounts

-- how soon the choice and the roles stand at most
abbrev pub bounds_of : Option Settling → Option HowSoon
bounds_of = option_map (λ (s : Settling). record { choice = s.choice; roles = s.roles })

-- of one stretch, in which nobody is cut off or astray
abbrev pub of_one : Stretch → Extremes
of_one s = record {
  choice = choice_after s;
  holdover = s.measures.holdover;
  error = s.measures.error;
  counts = s.counts;
  cut = 0;
  astray = 0;
  bounds = bounds_of s.settling;
  times = times_by s s.times;
}

-- ---- two stretches that follow each other, taken as one

abbrev pub behind : ℕ → Option ℕ → Option ℕ
behind from = option_map (λ time. time - from)

-- bounds that count from so much earlier on
abbrev pub counted_before : ℕ → Option HowSoon → Option HowSoon
counted_before wait =
    option_map (λ (b : HowSoon). record { choice = wait + b.choice; roles = wait + b.roles })

-- when a system changed its source last
abbrev pub changed_in : Stretch → Option Greatest
changed_in s = option_and_then (λ (m : TimeMeasures). m.changed) s.times

-- of how far systems read, and of steps, the greater, of equals the first; of changes of source the last
abbrev pub times_taken : Stretch → Stretch → TimeExtremes
times_taken a b = record {
  time = better_if (times_by a a.times).time (times_by b b.times).time;
  apart = further (times_by a a.times).apart (times_by b b.times).apart;
  step = better_if (times_by a a.times).step (times_by b b.times).step;
  first = changed_since a.from (option_or (changed_in b) (changed_in a));
  first_asked = None;
}

-- Of waits and errors the greater, of equals the first; what is counted where the second ends, its bounds, and the last
-- change of the choice, both from the begin of the first on.
abbrev pub taken_as_one : Stretch → Stretch → Extremes
taken_as_one a b = record {
  choice = behind a.from (option_or b.measures.choice a.measures.choice);
  holdover = better_if a.measures.holdover b.measures.holdover;
  error = better_if a.measures.error b.measures.error;
  counts = b.counts;
  cut = 0;
  astray = 0;
  bounds = counted_before (b.from - a.from) (bounds_of b.settling);
  times = times_taken a b;
}

-- ---- while a case is down, and when it is back

-- the last change of source; all of the length where a system is astray at its end
abbrev pub first_asked : ℕ → ℕ → Option Greatest → Option ℕ
first_asked astray length first = if astray == 0 then amount_of first else Some length

-- so many are cut off, and so many of the others astray, where so long a stretch ends
abbrev pub with_parts : Extremes → ℕ → ℕ → ℕ → Extremes
with_parts e cut astray length = record e {
  cut = cut;
  astray = astray;
  times = record e.times { first_asked = first_asked astray length e.times.first };
}

-- with the stretch before, where it was seen that the case failed
abbrev pub of_down : Option Stretch → Stretch → ℕ → ℕ → Extremes
of_down None s cut astray = with_parts (of_one s) cut astray (s.to - s.from)
of_down (Some first) s cut astray = with_parts (taken_as_one first s) cut astray (s.to - first.from)

-- nobody is cut off
abbrev pub of_back : Stretch → ℕ → Extremes
of_back s astray = with_parts (of_one s) 0 astray (s.to - s.from)

-- ---- several

-- of two: each the greater, of equals the first
abbrev pub greatest_of_two : Extremes → Extremes → Extremes
greatest_of_two a b = record {
  choice = greater_if a.choice b.choice;
  holdover = better_if a.holdover b.holdover;
  error = better_if a.error b.error;
  counts = greater_counts a.counts b.counts;
  cut = max a.cut b.cut;
  astray = max a.astray b.astray;
  bounds = later_bounds a.bounds b.bounds;
  times = times_of_two a.times b.times;
}

-- of several, after others
abbrev pub greatest_behind : Extremes → List Extremes → Extremes
greatest_behind e [] = e
greatest_behind e (f ∷ fs) = greatest_behind (greatest_of_two e f) fs

-- of no stretch
abbrev pub of_none : Extremes
of_none = record {
  choice = None;
  holdover = None;
  error = None;
  counts = record { without = 0; roots = 0; alone = 0 };
  cut = 0;
  astray = 0;
  bounds = Some (record { choice = 0; roles = 0 });
  times = nothing_read;
}
