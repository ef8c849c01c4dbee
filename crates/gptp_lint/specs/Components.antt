-- What the components of a network show at the times of a document: how many there are, and which systems are their
-- bests (profile).
use Rattle.std.specs.Prelude.{◌≡◌, ◌≢◌, ◌↔◌, ◌≤◌, ◌/◌, ◌^◌, ◌==◌, ◌&&◌, not, nat_lt, Bool, true, ℕ, slice_index, if◌then◌else◌, List, [], ◌∷◌, ◌++◌, length, map}
use Rattle.std.specs.Int.{bytes_high_first}
use Rattle.std.specs.List.{AllByRecursion, flat_map, list_any}
use Rattle.gptp_lists.specs.Members.{In}
use Rattle.gptp_graph.specs.Order.{IsRising}
use Rattle.gptp_graph.specs.SettledChoice.{IsBestIdentity}
use Rattle.gptp_graph.specs.Snapshot.{Snapshot, System}
use Rattle.gptp_network.specs.Document.{DocumentState}
use Rattle.gptp_network.specs.Snapshot.{IsSnapshot, StandsAfter}
use Rattle.gptp_topology.specs.Times.{times_of}
use Rattle.gptp_lint.specs.declared.components.Apart.{Apart}
use Rattle.gptp_lint.specs.declared.components.Components.{Components}
use Rattle.gptp_lint.specs.declared.components.Moment.{Moment}
use Rattle.gptp_lint.specs.declared.components.Nobody.{Nobody}

-- ---- bests

-- the identity is that of the best of a component
abbrev pub IsBestOfOne : Snapshot → ℕ → Type 0
IsBestOfOne g id = (v : ℕ) × IsBestIdentity g v id

-- the bests of the components, by rising identity: there are as many as components, since two systems are of one
-- component exactly where they have one best
pub record AreBests (g : Snapshot) (ids : List ℕ) : Type 0 where
  pub rising : IsRising ids
  pub are : (id : ℕ) → In id ids ↔ IsBestOfOne g id

-- the bests at a time of a document, and those at each
pub record IsBestsMoment (d : DocumentState) (m : Moment) : Type 0 where
  pub snapshot : Snapshot
  pub stands : IsSnapshot d m.at snapshot
  pub bests : AreBests snapshot m.bests.items

pub record AreMoments (d : DocumentState) (moments : List Moment) : Type 0 where
  pub times_are : map (λ (m : Moment). m.at) moments ≡ times_of d.events
  pub each : AllByRecursion (IsBestsMoment d) moments

-- ---- how many there are

-- a moment is told of where there are several components, and not as many as before
abbrev pub apart_at : ℕ → Moment → List Apart
apart_at before m =
    if nat_lt 1 (length m.bests.items) && not (length m.bests.items == before)
    then record { at = m.at; components = length m.bests.items } ∷ [] else []

-- the findings of moments, where there were so many components before
abbrev pub apart_from : ℕ → List Moment → List Apart
apart_from before [] = []
apart_from before (m ∷ ms) = apart_at before m ++ apart_from (length m.bests.items) ms

-- ---- bests that can't be grandmaster

-- a system can be grandmaster where its priority1 is below 255 (IEEE 802.1AS-2020, 8.6.2.1)
abbrev pub can_be_grandmaster : ℕ → Bool
can_be_grandmaster id = nat_lt (id / 2 ^ 104) 255

-- a best is told of where it can't be grandmaster, and was no best before
abbrev pub was_best : List ℕ → ℕ → Bool
was_best before id = list_any (λ (other : ℕ). other == id) before

abbrev pub is_told : List ℕ → ℕ → Bool
is_told before id = not (can_be_grandmaster id) && not (was_best before id)

abbrev pub nobody_if : List ℕ → ℕ → ℕ → List Nobody
nobody_if before at id = if is_told before id then record { at = at; best = id } ∷ [] else []

abbrev pub nobody_at : List ℕ → Moment → List Nobody
nobody_at before m = flat_map (nobody_if before m.at) m.bests.items

-- the findings of moments, where these were the bests before
abbrev pub nobody_from : List ℕ → List Moment → List Nobody
nobody_from before [] = []
nobody_from before (m ∷ ms) = nobody_at before m ++ nobody_from m.bests.items ms

-- ---- where a clock decides

-- b is the best of the others of the component whose best is a
pub record IsSecond (g : Snapshot) (a b : ℕ) : Type 0 where
  pub system : System
  pub live : In system g.systems
  pub is : system.identity ≡ b
  pub best : IsBestIdentity g system.clock a
  pub other : b ≢ a
  pub least : (s : System) → In s g.systems → IsBestIdentity g s.clock a → s.identity ≢ a → b ≤ s.identity

-- an octet of an identity by its place from 0, the most significant first: six, and then the eight of the clock
-- (IEEE 802.1AS-2020, 10.3.2)
abbrev pub octet_at : ℕ → ℕ → ℕ
octet_at place identity = slice_index (bytes_high_first 14 identity) place

-- they differ in nothing but their clocks
abbrev pub are_alike : ℕ → ℕ → Bool
are_alike a b =
    octet_at 0 a == octet_at 0 b && octet_at 1 a == octet_at 1 b && octet_at 2 a == octet_at 2 b && octet_at 3 a ==
    octet_at 3 b
    && octet_at 4 a == octet_at 4 b
    && octet_at 5 a == octet_at 5 b

-- a clock decides which of them is grandmaster: both can be, and they are alike
abbrev pub decides_by_clock : ℕ → ℕ → Bool
decides_by_clock a b = can_be_grandmaster a && can_be_grandmaster b && are_alike a b

-- the two best of each component between which a clock decides, by the best
pub record AreChances (g : Snapshot) (pairs : List (ℕ × ℕ)) : Type 0 where
  pub rising : IsRising (map (λ (two : ℕ × ℕ). two.0) pairs)
  pub are : (a b : ℕ) → In (a, b) pairs ↔ (IsSecond g a b × (decides_by_clock a b ≡ true))

-- ---- all of it

-- the network after all events, and between whom a clock decides there
pub record IsChance (d : DocumentState) (pairs : List (ℕ × ℕ)) : Type 0 where
  pub snapshot : Snapshot
  pub stands : StandsAfter d.network d.events snapshot
  pub chances : AreChances snapshot pairs

-- Times with several components and bests that can't be grandmaster, by time: before the first there is no component.
-- After all events, the two best of each component between which a clock decides.
pub record AreComponents (d : DocumentState) (c : Components) : Type 0 where
  pub moments : List Moment
  pub are : AreMoments d moments
  pub apart : c.apart.items ≡ apart_from 0 moments
  pub nobody : c.nobody.items ≡ nobody_from [] moments
  pub chance : IsChance d c.chance.items
