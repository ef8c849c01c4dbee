-- What the code keeps of told sources: each once. Contracts of private functions alone cite this.
use Rattle.std.specs.Prelude.{◌≡◌, ◌↔◌, ℕ, not, Bool, true, false, if◌then◌else◌, List, [], ◌∷◌, ◌++◌, filter, map, Option}
use Rattle.std.specs.List.{list_any}
use Rattle.std.specs.Option.{option_map, option_map_or}
use Rattle.gptp_graph.specs.Order.{IsRising}
use Rattle.gptp_lists.specs.Members.{In}
use Rattle.gptp_model.specs.World.{WorldState}
use Rattle.gptp_timeline.specs.Readings.{clock_time, same_source}
use Rattle.gptp_timeline.specs.Sources.{ends_with}
use Rattle.gptp_timeline.specs.declared.readings.KeptReading.{KeptReading}
use Rattle.gptp_timeline.specs.declared.readings.SystemReading.{SystemReading}
use Rattle.gptp_timeline.specs.declared.readings.TimeSource.{TimeSource}
use Rattle.gptp_timeline.specs.declared.sources.Ends.{Ends}
use Rattle.gptp_timeline.specs.declared.sources.SourceTime.{SourceTime}

-- a system reads from a source
abbrev pub reads_from : TimeSource → SystemReading → Bool
reads_from source x = option_map_or (λ (kept : KeptReading). same_source kept.source source) x.reading false

-- a source is told: some system reads from it
abbrev pub is_told : TimeSource → List SystemReading → Bool
is_told source rs = list_any (reads_from source) rs

-- these are the sources that are told
pub record AreSources (sources : List TimeSource) (rs : List SystemReading) : Type 0 where
  pub are : (source : TimeSource) → In source sources ↔ (is_told source rs ≡ true)

-- clocks of systems rise
abbrev pub ReadingsRise : List SystemReading → Type 0
ReadingsRise rs = IsRising (map (λ (x : SystemReading). x.clock) rs)

pub record IsAccount (rs : List SystemReading) (sources : List TimeSource) : Type 0 where
  pub readings_rise : ReadingsRise rs
  pub sources_are : AreSources sources rs

-- with one more, if it isn't there yet
abbrev pub with_source : TimeSource → List TimeSource → List TimeSource
with_source source sources =
    if list_any (λ other. same_source other source) sources then sources else sources ++ source ∷ []

-- without one, unless it is told
abbrev pub without_untold : TimeSource → List SystemReading → List TimeSource → List TimeSource
without_untold source rs sources =
    if is_told source rs then sources else filter (λ other. not (same_source other source)) sources

-- a source, with what its clock shows
abbrev pub source_of : ℕ → WorldState → TimeSource → Option SourceTime
source_of at w source = option_map (λ shown. record { source = source; shown = shown }) (clock_time source.clock at w)

-- of some and of several sources
abbrev pub ends_among : ℕ → WorldState → Option Ends → List TimeSource → Option Ends
ends_among at w ends [] = ends
ends_among at w ends (source ∷ sources) = ends_among at w (ends_with ends (source_of at w source)) sources
