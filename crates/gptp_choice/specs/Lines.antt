-- The lines of the settled choice, as they are found one by one.
use Rattle.std.specs.Prelude.{◌≡◌, ◌⊎◌, ◌≤◌, ℕ, true, false, List, map, take, Option, Some, None, slice_get}
use Rattle.std.specs.List.{range_with_len}
use Rattle.gptp_lists.specs.Members.{In}
use Rattle.gptp_graph.specs.Labelling.{PortLine, SystemLine, IsBare, line_clocks, port_numbers}
use Rattle.gptp_graph.specs.Order.{IsLower}
use Rattle.gptp_graph.specs.Parent.{LeadsNearer, ParentLink, key}
use Rattle.gptp_graph.specs.SettledChoice.{IsSettledLine}
use Rattle.gptp_graph.specs.SettledRole.{IsSettledRole}
use Rattle.gptp_graph.specs.Snapshot.{System, Snapshot, clocks, port_of}

-- the way that goes first, of one and the best before, if there is one
pub record IsFirstOf (best : Option ParentLink) (way first : ParentLink) : Type 0 where
  pub one : (first ≡ way) ⊎ (best ≡ Some first)
  pub before_way : IsLower (key way) (key first) → ⊥
  pub before_best : (l : ParentLink) → best ≡ Some l → IsLower (key l) (key first) → ⊥

-- of the ways that lead nearer over v's first k ports, the first, or none where there is none
abbrev pub IsFirstWay : Snapshot → ℕ → ℕ → Option ParentLink → Type 0
IsFirstWay g v k None = (l : ParentLink) → l.own_port ≤ k → LeadsNearer g v l → ⊥
IsFirstWay g v k (Some first) =
    LeadsNearer g v first
    × ((l : ParentLink) → l.own_port ≤ k → LeadsNearer g v l → IsLower (key l) (key first) → ⊥)

-- the roles of v's ports, so many
pub record AreRoles (g : Snapshot) (v count : ℕ) (ports : List PortLine) : Type 0 where
  pub numbers : map (λ (port : PortLine). port.number) ports ≡ range_with_len 1 count
  pub settled : (port : PortLine) → In port ports → IsSettledRole g (port_of v port.number) port.role

-- the line of the system with clock v, which has so many ports
pub record IsChosenLine (g : Snapshot) (v ports : ℕ) (line : SystemLine) : Type 0 where
  pub clock : line.clock ≡ v
  pub settled : IsSettledLine g line
  pub numbers : line.far ≡ false → port_numbers line ≡ range_with_len 1 ports
  pub bare : line.far ≡ true → IsBare line

-- the lines of the systems at the first places, so many
pub record AreFirstLines (g : Snapshot) (count : ℕ) (lines : List SystemLine) : Type 0 where
  pub clocks_are : line_clocks lines ≡ take count (clocks g)
  pub each : (place : ℕ) (s : System) (line : SystemLine) → slice_get g.systems place ≡ Some s
      → slice_get lines place ≡ Some line → IsChosenLine g s.clock s.ports line
