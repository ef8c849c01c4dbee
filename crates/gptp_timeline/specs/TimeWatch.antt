-- What the code keeps of what systems read, by what it kept before and the world after an act. Contracts of private
-- functions alone cite this.
use Rattle.std.specs.Prelude.{ℕ, Bool, if◌then◌else◌, List, [], ◌∷◌, map, Option, Some, None}
use Rattle.gptp_graph.specs.Order.{IsRising}
use Rattle.gptp_model.specs.World.{WorldState}
use Rattle.gptp_model.specs.declared.done.Done.{Done}
use Rattle.gptp_scenario.specs.declared.change.Act.{Act}
use Rattle.gptp_timeline.specs.Aside.{aside_after, aside_begun, AsideState, is_left_out, readings_begun}
use Rattle.gptp_timeline.specs.ExactReads.{reads_by, without_reads}
use Rattle.gptp_timeline.specs.Looks.{left_after, looked_by, measured_with, nothing_read}
use Rattle.gptp_timeline.specs.Readings.{new_reading, readings_by}
use Rattle.gptp_timeline.specs.TimeLines.{reading_line}
use Rattle.gptp_timeline.specs.declared.exact_reads.SystemReads.{SystemReads}
use Rattle.gptp_timeline.specs.declared.looks.TimeMeasures.{TimeMeasures}
use Rattle.gptp_timeline.specs.declared.readings.NewReading.{NewReading}
use Rattle.gptp_timeline.specs.declared.readings.SystemReading.{SystemReading}

pub record TimeState : Type 0 where
  pub lines : Bool
  pub told : Bool
  pub exact_from : Option ℕ
  pub events_left : ℕ
  pub systems : List SystemReading
  pub reads : List SystemReads
  pub measures : TimeMeasures
  pub aside : AsideState

abbrev pub times_begun : ℕ → Option ℕ → ℕ → TimeState → TimeState
times_begun at from events o = record o {
  exact_from = from;
  events_left = events;
  systems = readings_begun (aside_begun at o.aside) o.systems;
  reads = map without_reads o.reads;
  measures = nothing_read;
  aside = aside_begun at o.aside;
}

-- after an act by which a system got this reading, or none did
abbrev pub times_with : ℕ → WorldState → Act → Option NewReading → TimeState → TimeState
times_with at w act u o = record o {
  events_left = left_after act o.events_left;
  systems = readings_by act u o.systems;
  reads = reads_by o.exact_from at w u o.reads;
  measures = measured_with (looked_by at w act o.events_left u o.systems (readings_by act u o.systems)) o.measures;
}

-- after an act that was done, unless what it does to what systems read isn't looked at
abbrev pub times_looked : ℕ → Act → Done → WorldState → TimeState → TimeState
times_looked at act done w o =
    if is_left_out o.aside act done then o else times_with at w act (new_reading act done w o.systems) o

-- and who received time by it isn't set aside any more, where a receipt ends that
abbrev pub times_after : ℕ → Act → Done → WorldState → TimeState → TimeState
times_after at act done w o =
    record (times_looked at act done w o) { aside = aside_after act done o.aside }

abbrev pub reading_lines : Bool → ℕ → WorldState → Option NewReading → List (List ℕ)
reading_lines told at w None = []
reading_lines told at w (Some u) = if told then reading_line at w u ∷ [] else []

abbrev pub times_lines : ℕ → Act → Done → WorldState → TimeState → List (List ℕ)
times_lines at act done w o =
    if is_left_out o.aside act done then [] else reading_lines o.told at w (new_reading act done w o.systems)

-- clocks rise
abbrev pub ReadsRise : List SystemReads → Type 0
ReadsRise xs = IsRising (map (λ (x : SystemReads). x.clock) xs)
