-- The lines of a certificate, one by one, and their order (profile).
use Rattle.std.specs.Prelude.{◌≡◌, ◌<◌, ◌≤◌, ◌^◌, ⊤, ℕ, Bool, true, false, List, [], ◌∷◌, Option, Some, None, map}
use Rattle.std.specs.List.{flat_map, AllByRecursion}
use Rattle.gptp_graph.specs.Labelling.{PortLine, SystemLine}
use Rattle.gptp_graph.specs.Parent.{ParentLink}

-- a system line: clock, root, steps, whether it is far, and parent; a port line: the system's clock, and the port
pub data LineKey : Type 0 where
  SystemEntry : (clock root steps : ℕ) → (far : Bool) → Option ParentLink → LineKey
  PortEntry : (clock : ℕ) → PortLine → LineKey

-- a system's line without its ports
abbrev pub system_entry : SystemLine → LineKey
system_entry line = SystemEntry line.clock line.root line.steps line.far line.parent

-- a system's line, and then its ports'
abbrev pub entries_of_line : SystemLine → List LineKey
entries_of_line line = system_entry line ∷ map (PortEntry line.clock) line.ports

-- the lines of all systems, one after another
abbrev pub entries_of : List SystemLine → List LineKey
entries_of lines = flat_map entries_of_line lines

-- ports are numbered from 1 (IEEE 1588-2019, 7.5.2.3)
pub record IsPortNumber (number : ℕ) : Type 0 where
  pub least : 1 ≤ number
  pub most : number ≤ 65535

-- a text can spell the parent
pub record IsReadableLink (link : ParentLink) : Type 0 where
  pub own_port : IsPortNumber link.own_port
  pub clock : link.clock < 2 ^ 64
  pub port : IsPortNumber link.port

-- a text can spell it, or there is none
abbrev pub IsReadableParent : Option ParentLink → Type 0
IsReadableParent None = ⊤
IsReadableParent (Some link) = IsReadableLink link

-- a text can spell the parent of a far line or of another: a far line has none, and stands in version 2 alone
abbrev pub IsReadableChoice : ℕ → Bool → Option ParentLink → Type 0
IsReadableChoice version true parent = (parent ≡ None) × (version ≡ 2)
IsReadableChoice version false parent = IsReadableParent parent

-- a text of this version can spell the line: octets hold the clock and the root, and sixteen bits the steps and the
-- ports
abbrev pub IsReadableEntry : ℕ → LineKey → Type 0
IsReadableEntry version (SystemEntry clock root steps far parent) =
    (clock < 2 ^ 64) × (root < 2 ^ 112) × (steps ≤ 65535) × IsReadableChoice version far parent
IsReadableEntry version (PortEntry clock port) = (clock < 2 ^ 64) × IsPortNumber port.number

-- a text of this version can spell each line
abbrev pub IsReadable : ℕ → List SystemLine → Type 0
IsReadable version lines = AllByRecursion (IsReadableEntry version) (entries_of lines)

-- the clock of the system that the line is about
abbrev pub entry_clock : LineKey → ℕ
entry_clock (SystemEntry clock root steps far parent) = clock
entry_clock (PortEntry clock port) = clock

-- a system line is before all ports of its system
abbrev pub entry_number : LineKey → ℕ
entry_number (SystemEntry clock root steps far parent) = 0
entry_number (PortEntry clock port) = port.number

-- the line is a far system's
abbrev pub is_far : LineKey → Bool
is_far (SystemEntry clock root steps far parent) = far
is_far (PortEntry clock port) = false

-- a line can stand right after another: a system line has a higher clock, a port line the same clock and a higher
-- number, and follows no far line
abbrev pub CanFollow : LineKey → LineKey → Type 0
CanFollow before (SystemEntry clock root steps far parent) = entry_clock before < clock
CanFollow before (PortEntry clock port) =
    (entry_clock before ≡ clock) × (entry_number before < port.number) × (is_far before ≡ false)

-- each line follows the one before, the first of them this entry
abbrev pub FollowEach : LineKey → List LineKey → Type 0
FollowEach before [] = ⊤
FollowEach before (entry ∷ rest) = CanFollow before entry × FollowEach entry rest

-- a system line is first, and each line follows the one before
abbrev pub StandInOrder : List LineKey → Type 0
StandInOrder [] = ⊤
StandInOrder (SystemEntry clock root steps far parent ∷ rest) =
    FollowEach (SystemEntry clock root steps far parent) rest
StandInOrder (PortEntry clock port ∷ rest) = ⊥

-- whether the last line, if there is any, is a far system's
abbrev pub ends_far : List LineKey → Bool
ends_far [] = false
ends_far (entry ∷ []) = is_far entry
ends_far (entry ∷ (next ∷ rest)) = ends_far (next ∷ rest)
