-- How far systems are marked among the lines of all, by the links between them.
use Rattle.std.specs.Prelude.{◌≡◌, ◌⊎◌, ◌+◌, ◌<◌, ◌≤◌, ℕ, true, List, [], map, length, Option, Some, None, Contains, slice_get}
use Rattle.gptp_graph.specs.Labelling.{SystemLine}
use Rattle.gptp_graph.specs.Snapshot.{Link}
use Rattle.gptp_vector.specs.declared.port.PortId.{PortId}
use Rattle.gptp_certificate.specs.Rounds.{value}

-- ---- links between lines

-- the clocks at the two ends of a link
abbrev pub clocks_at : Link → Option ℕ × Option ℕ
clocks_at link = (Some link.a.clock, Some link.b.clock)

abbrev pub port_clocks : PortId × PortId → Option ℕ × Option ℕ
port_clocks ports = (Some ports.0.clock, Some ports.1.clock)

-- the clocks at two places
abbrev pub clocks_in : List ℕ → ℕ × ℕ → Option ℕ × Option ℕ
clocks_in clocks pair = (slice_get clocks pair.0, slice_get clocks pair.1)

-- both are among these
pub record AreAmong (clocks : List ℕ) (ports : PortId × PortId) : Type 0 where
  pub a : Contains clocks ports.0.clock
  pub b : Contains clocks ports.1.clock

-- the places of the clocks at the ends of each link
abbrev pub ArePairs : List ℕ → List Link → List (ℕ × ℕ) → Type 0
ArePairs clocks links pairs = map (clocks_in clocks) pairs ≡ map clocks_at links

-- ---- lines

-- the roots of the lines
abbrev pub line_roots : List SystemLine → List ℕ
line_roots lines = map (λ (line : SystemLine). line.root) lines

-- by the lowest root of its component the system of a line is far
abbrev pub IsFarBy : SystemLine → ℕ → Type 0
IsFarBy line lowest = (255 ≤ line.steps) ⊎ (lowest < line.root)

-- by how many links it is away from a system that isn't far, before links are looked at: none, or more than there are
abbrev pub IsStart : SystemLine → ℕ → ℕ → Type 0
IsStart line lowest n =
    (IsFarBy line lowest × (n ≡ 65281)) ⊎ ((IsFarBy line lowest → ⊥) × (n ≡ 0))

-- by how many links the system of each line is away from one that isn't far, before links are looked at: 0, or where it
-- is far itself 65,281, which is more than there are
pub record AreStarts (lowest : List ℕ) (lines : List SystemLine) (numbers : List ℕ) : Type 0 where
  pub long : length numbers ≡ length lines
  pub each : (i : ℕ) (line : SystemLine) → slice_get lines i ≡ Some line
      → IsStart line (value lowest i) (value numbers i)

-- the line of a far system
abbrev pub far_line : SystemLine → ℕ → ℕ → SystemLine
far_line line lowest n = record {
  clock = line.clock;
  root = lowest;
  steps = 254 + n;
  far = true;
  parent = None;
  ports = [];
}

-- it takes the place of what the system says
abbrev pub Marks : ℕ → ℕ → SystemLine → SystemLine → Type 0
Marks lowest n before after =
    (IsFarBy before lowest × (after ≡ far_line before lowest n)) ⊎ ((IsFarBy before lowest → ⊥) × (after ≡ before))

-- below this place the line of each far system takes the place of what that system says; all other lines stay
pub record LinesAreMarked (count : ℕ) (lowest numbers : List ℕ) (before after : List SystemLine) : Type 0 where
  pub long : length after ≡ length before
  pub marked : (i : ℕ) (line : SystemLine) → i < count → slice_get before i ≡ Some line
      → (new : SystemLine) × (slice_get after i ≡ Some new) × Marks (value lowest i) (value numbers i) line new
  pub left : (i : ℕ) → count ≤ i → slice_get after i ≡ slice_get before i
