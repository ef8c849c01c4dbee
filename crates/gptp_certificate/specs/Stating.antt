-- What the live systems of a world say of themselves, as it is put together line by line.
use Rattle.std.specs.Prelude.{◌≡◌, ◌↔◌, ℕ, true, List, [], ◌∷◌, ◌++◌, if◌then◌else◌}
use Rattle.gptp_graph.specs.Labelling.{SystemLine, line_clocks}
use Rattle.gptp_graph.specs.Order.{IsRising}
use Rattle.gptp_lists.specs.Members.{In}
use Rattle.gptp_model.specs.Acts.{AtSystem}
use Rattle.gptp_model.specs.World.{WorldState}
use Rattle.gptp_model.specs.declared.station.Station.{Station}
use Rattle.gptp_certificate.specs.Stated.{stated_line}

-- the line of a system, where it lives
abbrev pub stated_if : Station → List SystemLine
stated_if station = if station.live then stated_line station.system ∷ [] else []

-- the line of the system with a clock is put after others
abbrev pub Adds : ℕ → WorldState → List SystemLine → List SystemLine → Type 0
Adds name w before after = AtSystem name w (λ place station. after ≡ before ++ stated_if station)

-- the line is what a live system says
pub record IsSaid (w : WorldState) (line : SystemLine) : Type 0 where
  pub station : Station
  pub there : In station w.stations
  pub live : station.live ≡ true
  pub is : line ≡ stated_line station.system

-- the lines are what the live systems say, by rising clock
pub record AreSaid (w : WorldState) (lines : List SystemLine) : Type 0 where
  pub rising : IsRising (line_clocks lines)
  pub each : (line : SystemLine) → In line lines ↔ IsSaid w line
