-- What a fault leaves of the components of a network (profile).
use Rattle.std.specs.Prelude.{◌≡◌, ◌≤◌, ℕ, ◌==◌, ◌&&◌, ◌||◌, nat_lt, not, Bool, List, filter, length, map, take}
use Rattle.std.specs.List.{AllByRecursion, count_by, list_any}
use Rattle.gptp_graph.specs.SettledChoice.{IsBestIdentity}
use Rattle.gptp_graph.specs.Snapshot.{clocks, Snapshot}
use Rattle.gptp_network.specs.Document.{DocumentState}
use Rattle.gptp_network.specs.Snapshot.{IsSnapshot}
use Rattle.gptp_roles.specs.Selection.{clock_of}
use Rattle.gptp_scenario.specs.Calm.{last_change}
use Rattle.gptp_timeline.specs.Each.{Each}
use Rattle.gptp_faults.specs.CaseEvents.{EventsState}
use Rattle.gptp_faults.specs.Stays.{failed_document}
use Rattle.gptp_faults.specs.declared.parts.Placed.{Placed}
use Rattle.gptp_faults.specs.declared.parts.Weighed.{Weighed}

-- A system that lives after a fault: the best of its component before the fault, and after it. The first tells the
-- component, the second the part of it that the system is in.
pub record IsPlaced (g g' : Snapshot) (name : ℕ) (x : Placed) : Type 0 where
  pub clock : x.clock ≡ name
  pub component : IsBestIdentity g name x.component
  pub part : IsBestIdentity g' name x.part

-- all of them, by rising clock; and the first of them
abbrev pub ArePlaced : Snapshot → Snapshot → List Placed → Type 0
ArePlaced g g' = Each (IsPlaced g g') (clocks g')

abbrev pub ArePlacedBy : Snapshot → Snapshot → ℕ → List Placed → Type 0
ArePlacedBy g g' place = Each (IsPlaced g g') (take place (clocks g'))

-- ---- the main part of a component

-- how many systems a part has
abbrev pub size_in : List Placed → ℕ → ℕ
size_in xs part = count_by (λ (x : Placed). x.part == part) xs

abbrev pub weigh_among : List Placed → Placed → Weighed
weigh_among xs x = record { placed = x; size = size_in xs x.part }

abbrev pub weighed : List Placed → List Weighed
weighed xs = map (weigh_among xs) xs

-- The part of y is of the component of x, and has more systems than that of x, or as many and the lower best identity.
abbrev pub is_heavier : Weighed → Weighed → Bool
is_heavier y x = (y.placed.component == x.placed.component)
    && (nat_lt x.size y.size || ((y.size == x.size) && nat_lt y.placed.part x.placed.part))

-- A system is cut off where a part of its component is heavier than its own.
abbrev pub is_cut : List Weighed → Weighed → Bool
is_cut ws x = list_any (λ y. is_heavier y x) ws

abbrev pub placed_in : Weighed → Placed
placed_in x = x.placed

abbrev pub clock_in : Weighed → ℕ
clock_in x = x.placed.clock

abbrev pub cut_off : List Weighed → List ℕ
cut_off ws = map clock_in (filter (is_cut ws) ws)

-- the others: each is in the main part of its component
abbrev pub is_kept : List Weighed → Weighed → Bool
is_kept ws x = not (is_cut ws x)

abbrev pub kept : List Weighed → List Placed
kept ws = map placed_in (filter (is_kept ws) ws)

-- ---- the parts of several systems, by rising clock of their bests

abbrev pub leads : Placed → Bool
leads x = clock_of x.part == x.clock

-- the systems of a part
abbrev pub is_of : ℕ → Placed → Bool
is_of part x = x.part == part

abbrev pub clock_of_placed : Placed → ℕ
clock_of_placed x = x.clock

abbrev pub part_among : List Placed → ℕ → List ℕ
part_among xs part = map clock_of_placed (filter (is_of part) xs)

abbrev pub part_of : List Placed → Placed → List ℕ
part_of xs x = part_among xs x.part

abbrev pub parts_of : List Placed → List (List ℕ)
parts_of xs = map (part_of xs) (filter leads xs)

-- ---- before and after a fault

-- so is left of components: these systems are cut off, and these are the main parts
pub record IsLeft (g g' : Snapshot) (cut : List ℕ) (main : List (List ℕ)) : Type 0 where
  pub systems : List Placed
  pub are : ArePlaced g g' systems
  pub cut_is : cut ≡ cut_off (weighed systems)
  pub main_is : main ≡ parts_of (kept (weighed systems))

-- where a case failed at a time, by the components before it
pub record AreCaseParts (d : DocumentState) (g : Snapshot) (e : EventsState) (at : ℕ) (cut : List ℕ)
    (main : List (List ℕ)) : Type 0 where
  pub after : Snapshot
  pub stands : IsSnapshot (failed_document at e d) (last_change (failed_document at e d).events) after
  pub left : IsLeft g after cut main

-- the components, where nothing failed
pub record AreWhole (g : Snapshot) (parts : List (List ℕ)) : Type 0 where
  pub systems : List Placed
  pub are : ArePlaced g g systems
  pub parts_are : parts ≡ parts_of systems

-- they are so few, of so few systems
pub record AreFew (parts : List (List ℕ)) : Type 0 where
  pub parts_few : length parts ≤ 512
  pub systems_few : AllByRecursion (λ part. length part ≤ 512) parts
