-- What a certificate states of the systems of a world (profile).
use Rattle.std.specs.Prelude.{◌≡◌, ◌⊎◌, ℕ, true, false, List, length, map}
use Rattle.std.specs.List.{range_with_len}
use Rattle.std.specs.Option.{option_map}
use Rattle.gptp_graph.specs.Labelling.{IsBare, PortLine, SystemLine, line_clocks}
use Rattle.gptp_lists.specs.Members.{In}
use Rattle.gptp_graph.specs.Marking.{AreFarSteps, IsFar, IsLowestRoot, Statement}
use Rattle.gptp_graph.specs.Order.{IsRising}
use Rattle.gptp_graph.specs.Snapshot.{Snapshot}
use Rattle.gptp_system.specs.Start.{role_at}
use Rattle.gptp_system.specs.State.{SystemState, clock, parent}
use Rattle.gptp_model.specs.World.{WorldState}
use Rattle.gptp_model.specs.declared.station.Station.{Station}
use Rattle.gptp_invariants.specs.WorldBounded.{statement_of, statements_of}
use Rattle.gptp_invariants.specs.WorldStanding.{snapshot_of}
use Rattle.gptp_certificate_text.specs.Certificate.{parent_of, role_of}

-- ---- what a system says

-- the role of a port, and what a system follows with all its ports: by the system's own state
abbrev pub stated_port : SystemState → ℕ → PortLine
stated_port s n = record { number = n; role = role_of (role_at s n) }

abbrev pub stated_line : SystemState → SystemLine
stated_line s = record {
  clock = clock s;
  root = s.root;
  steps = s.steps;
  far = false;
  parent = option_map parent_of (parent s);
  ports = map (stated_port s) (range_with_len 1 (length s.ports));
}

-- ---- what is stated of it

-- the line of a far system: it is bare, and its root and its steps are by what the systems state and by the links alone
pub record IsFarLine (g : Snapshot) (all : List Statement) (one : Statement) (line : SystemLine) : Type 0 where
  pub is_far : IsFar g all one
  pub clock : line.clock ≡ one.clock
  pub far : line.far ≡ true
  pub root : IsLowestRoot g all one line.root
  pub steps : AreFarSteps g all one line.steps
  pub bare : IsBare line

-- the line of a system that isn't far: what it says itself
pub record IsNearLine (g : Snapshot) (all : List Statement) (station : Station) (line : SystemLine) : Type 0 where
  pub is_near : IsFar g all (statement_of station) → ⊥
  pub is : line ≡ stated_line station.system

abbrev pub IsStatedLine : WorldState → Station → SystemLine → Type 0
IsStatedLine w station line = IsNearLine (snapshot_of w) (statements_of w) station line
    ⊎ IsFarLine (snapshot_of w) (statements_of w) (statement_of station) line

-- the line is that of a live system
pub record IsStated (w : WorldState) (line : SystemLine) : Type 0 where
  pub station : Station
  pub there : In station w.stations
  pub live : station.live ≡ true
  pub is : IsStatedLine w station line

-- The lines are those of the live systems, one of each, by rising clock.
pub record States (w : WorldState) (lines : List SystemLine) : Type 0 where
  pub rising : IsRising (line_clocks lines)
  pub stated : (line : SystemLine) → In line lines → IsStated w line
  pub all : (station : Station) → In station w.stations → station.live ≡ true
      → (line : SystemLine) × In line lines × IsStatedLine w station line
