-- What the code keeps of who is where in a world: contracts of private functions alone cite this.
use Rattle.std.specs.Prelude.{◌≡◌, ◌≢◌, ℕ, ◌+◌, ◌*◌, ◌<◌, ◌≤◌, List, map, length, Contains, Option, Some, None, slice_get, slice_index_or, slice_set}
use Rattle.std.specs.List.Sorted.{IsPermutation, IsNonDecreasing}
use Rattle.gptp_setup.specs.declared.limits.TheConstants.{MOST_PORTS}
use Rattle.gptp_vector.specs.declared.port.PortId.{PortId}
use Rattle.gptp_links.specs.declared.link.Direction.{Direction}
use Rattle.gptp_links.specs.declared.link.Direction.TheVariants.{FromA, FromB}
use Rattle.gptp_roles.specs.Selection.{clock_of}
use Rattle.gptp_world.specs.declared.directory.TheConstants.{PORT_SPAN}
use Rattle.gptp_traffic.specs.declared.joined_link.Lane.{Lane}
use Rattle.gptp_world.specs.declared.directory.Ends.{Ends}
pub use Rattle.gptp_traffic.specs.declared.joined_link.Join.{Join}
use Rattle.gptp_scenario.specs.declared.network.SystemSpec.{SystemSpec}
use Rattle.gptp_scenario.specs.declared.network.LinkSpec.{LinkSpec}

-- the clock of each system and the ports of each link, by place
pub record DirectoryState : Type 0 where
  pub clocks : List ℕ
  pub joins : List Join

-- the systems and links of a network
abbrev pub directory_clocks : List SystemSpec → List ℕ
directory_clocks = map (λ (m : SystemSpec). clock_of m.identity)

abbrev pub joins_of : List LinkSpec → List Join
joins_of = map (λ (w : LinkSpec). record { a = w.a; b = w.b })

-- where a direction of a link begins, and where it ends
abbrev pub direction_start : Direction → Join → PortId
direction_start FromA join = join.a
direction_start FromB join = join.b

abbrev pub direction_end : Direction → Join → PortId
direction_end FromA join = join.b
direction_end FromB join = join.a

-- the lane begins at this port
pub record BeginsAt (joins : List Join) (port : PortId) (lane : Lane) : Type 0 where
  pub join : Join
  pub there : slice_get joins lane.link ≡ Some join
  pub begins : direction_start lane.direction join ≡ port

-- the port is one of a system that stands at some place; ports are numbered from 1 on
pub record PortIsPlaced (clocks : List ℕ) (port : PortId) : Type 0 where
  pub place : ℕ
  pub there : slice_get clocks place ≡ Some port.clock
  pub first : 1 ≤ port.port
  pub last : port.port ≤ MOST_PORTS

-- clocks differ, links join ports of two systems, and at a port at most one lane begins
pub record IsPlan (clocks : List ℕ) (joins : List Join) : Type 0 where
  pub few_systems : length clocks ≤ 512
  pub few_links : length joins ≤ 2048
  pub differ : (i j clock : ℕ) → slice_get clocks i ≡ Some clock → slice_get clocks j ≡ Some clock → i ≡ j
  pub placed_a : (i : ℕ) (join : Join) → slice_get joins i ≡ Some join → PortIsPlaced clocks join.a
  pub placed_b : (i : ℕ) (join : Join) → slice_get joins i ≡ Some join → PortIsPlaced clocks join.b
  pub apart : (i : ℕ) (join : Join) → slice_get joins i ≡ Some join → join.a.clock ≢ join.b.clock
  pub one_lane : (port : PortId) (k l : Lane) → BeginsAt joins port k → BeginsAt joins port l → k ≡ l

-- what holds of every directory
pub record IsDirectory (d : DirectoryState) : Type 0 where
  pub plan : IsPlan d.clocks d.joins

-- ---- the tables of a directory

-- the clocks in rising order
pub record AreRising (clocks rising : List ℕ) : Type 0 where
  pub all : IsPermutation clocks rising
  pub order : IsNonDecreasing rising

-- these are the places of the systems with these clocks
abbrev pub ArePlacesOfClocks : List ℕ → List ℕ → List ℕ → Type 0
ArePlacesOfClocks clocks numbers places = map (slice_get clocks) places ≡ map Some numbers

-- the places of the systems at both ends of each link
pub record AreEndPlaces (clocks : List ℕ) (joins : List Join) (ends : List Ends) : Type 0 where
  pub a : ArePlacesOfClocks clocks (map (λ (join : Join). join.a.clock) joins) (map (λ (e : Ends). e.a) ends)
  pub b : ArePlacesOfClocks clocks (map (λ (join : Join). join.b.clock) joins) (map (λ (e : Ends). e.b) ends)

-- both ends of a link are systems with these clocks
pub record AreNamed (clocks : List ℕ) (join : Join) : Type 0 where
  pub a : Contains clocks join.a.clock
  pub b : Contains clocks join.b.clock

-- a number for each lane, from 0
abbrev pub direction_number : Direction → ℕ
direction_number FromA = 0
direction_number FromB = 1

abbrev pub lane_number : Lane → ℕ
lane_number lane = 2 * lane.link + direction_number lane.direction

-- of the lanes with numbers below this one, it is the one that begins at a port
abbrev pub IsOut : ℕ → List Join → PortId → Option Lane → Type 0
IsOut k joins port None = (lane : Lane) → lane_number lane < k → BeginsAt joins port lane → ⊥
IsOut k joins port (Some lane) = (lane_number lane < k) × BeginsAt joins port lane

-- the lane that begins at each port, at PORT_SPAN * place + port: of those with numbers below this one
pub record AreOuts (k : ℕ) (clocks : List ℕ) (joins : List Join) (outs : List (Option Lane)) : Type 0 where
  pub count : length outs ≡ PORT_SPAN * length clocks
  pub each : (place port clock : ℕ) → slice_get clocks place ≡ Some clock → port ≤ MOST_PORTS
      → IsOut k joins (record { clock = clock; port = port }) (slice_index_or outs (PORT_SPAN * place + port) None)

-- the table once both lanes of a link are entered
abbrev pub lanes_entered : ℕ → Join → Ends → List (Option Lane) → List (Option Lane)
lanes_entered link join ends outs =
    slice_set
    (slice_set outs (PORT_SPAN * ends.a + join.a.port) (Some (record { link = link; direction = FromA })))
    (PORT_SPAN * ends.b + join.b.port)
    (Some (record { link = link; direction = FromB }))

-- all tables
pub record AreDirectoryTables (d : DirectoryState) (rising places : List ℕ) (outs : List (Option Lane))
    (ends : List Ends) : Type 0 where
  pub directory : IsDirectory d
  pub order : AreRising d.clocks rising
  pub ranked : ArePlacesOfClocks d.clocks rising places
  pub at_ends : AreEndPlaces d.clocks d.joins ends
  pub lanes : AreOuts (2 * length d.joins) d.clocks d.joins outs
