-- By when networks have settled after the events of a time, and offsets are exact, by number.
use Rattle.std.specs.Prelude.{◌≡◌, ◌<◌, ◌≤◌, ◌+◌, ◌*◌, ◌^◌, ℕ, pos, true, false, List, [], ◌∷◌, map, Option, Some, None}
use Rattle.std.specs.List.{find}
use Rattle.gptp_lists.specs.Members.{In}
use Rattle.gptp_links.specs.declared.bounds.Bounds.{Bounds}
use Rattle.gptp_scenario.specs.Network.{NetworkState, member, wire}
use Rattle.gptp_scenario.specs.declared.change.Act.TheVariants.{Change as Changing}
use Rattle.gptp_scenario.specs.declared.change.Change.{Change}
use Rattle.gptp_scenario.specs.declared.network.LinkSpec.{LinkSpec}
use Rattle.gptp_scenario.specs.declared.network.SystemSpec.{SystemSpec}
use Rattle.gptp_model.specs.World.{WorldState, port_id}
use Rattle.gptp_network.specs.Document.{DocumentState}
use Rattle.gptp_report.specs.Transitions.{ActTrace, Unfolds}
use Rattle.gptp_theorem.specs.PlayedLaws.{IsPlayable}
use Rattle.gptp_settling_time.specs.ChoiceAlone.{ChoiceStandsAs}
use Rattle.gptp_settling_time.specs.Documents.{IsSettledAs}
use Rattle.gptp_settling_time.specs.HowSoon.{NoneBetween}
use Rattle.gptp_how_soon.specs.Times.{is_time_at, settling_times}
use Rattle.gptp_how_soon.specs.declared.bounds.Settling.{Settling}
use Rattle.gptp_how_soon.specs.declared.bounds.SettlingTime.{SettlingTime}
use Rattle.gptp_how_soon_laws.specs.Exact.{IsExact}
use Rattle.gptp_network_tests.specs.Pair.{params}

-- ---- what is told of a time

-- by how much later the choice and the roles stand, and from when on offsets are exact
abbrev pub bounds_of : Option Settling → Option (ℕ × ℕ × ℕ)
bounds_of None = None
bounds_of (Some s) = Some (s.choice, s.roles, s.exact_from)

abbrev pub bounds_in : Option SettlingTime → Option (ℕ × ℕ × ℕ)
bounds_in None = None
bounds_in (Some t) = bounds_of t.settling

abbrev pub told_at : DocumentState → ℕ → Option (ℕ × ℕ × ℕ)
told_at d time = bounds_in (find (is_time_at time) (settling_times d))

-- ---- what runs keep

-- Each act of a run leaves a world in which the choice stands that is later than a time by more than this, and before
-- the next event.
abbrev pub ChoosesWithin : {F : Type 0} → (Bounds → ℕ → F → Option ℕ → F → Type 0) → DocumentState → ℕ → ℕ → Type 0
ChoosesWithin {F} answers d time span = (next until : ℕ) (fate : F) (start w : WorldState) (ts : List ActTrace)
    (t : ActTrace)
    → Unfolds answers d until fate start ts w → In t ts → NoneBetween d.events time next
    → time + span < t.told.timed.at → t.told.timed.at < next
    → ChoiceStandsAs d t.told.timed.at t.after

-- so it leaves a settled one
abbrev pub SettlesWithin : {F : Type 0} → (Bounds → ℕ → F → Option ℕ → F → Type 0) → DocumentState → ℕ → ℕ → Type 0
SettlesWithin {F} answers d time span = (next until : ℕ) (fate : F) (start w : WorldState) (ts : List ActTrace)
    (t : ActTrace)
    → Unfolds answers d until fate start ts w → In t ts → NoneBetween d.events time next
    → time + span < t.told.timed.at → t.told.timed.at < next
    → IsSettledAs d t.told.timed.at t.after

-- Each Follow_Up that a near system uses later than a time, from another on, and before the next event, leaves an exact
-- offset.
abbrev pub IsExactFrom : {F : Type 0} → (Bounds → ℕ → F → Option ℕ → F → Type 0) → DocumentState → ℕ → ℕ → Type 0
IsExactFrom {F} answers d time from = (next until : ℕ) (fate : F) (start w : WorldState) (ts : List ActTrace)
    (t : ActTrace)
    → Unfolds answers d until fate start ts w → In t ts → t.told.timed.at ≤ 10 ^ 18 → NoneBetween d.events time next
    → time < t.told.timed.at → from ≤ t.told.timed.at → t.told.timed.at < next
    → IsExact d.network.params t.before t.told.timed.at t.after t.told.done

-- these bounds are told of a time of a document, and each of its runs keeps them
pub record RunsKeep {F : Type 0} (answers : Bounds → ℕ → F → Option ℕ → F → Type 0) (d : DocumentState)
    (time choice roles exact_from : ℕ) : Type 0 where
  pub told : told_at d time ≡ Some (choice, roles, exact_from)
  pub chooses : ChoosesWithin answers d time choice
  pub settles : SettlesWithin answers d time roles
  pub exact : IsExactFrom answers d time exact_from

-- what is told of a time of a document that can be played is kept
abbrev pub ToldIsKept : {F : Type 0} → (Bounds → ℕ → F → Option ℕ → F → Type 0) → Type 0
ToldIsKept {F} answers = (d : DocumentState) (time choice roles exact_from : ℕ)
    → IsPlayable d → told_at d time ≡ Some (choice, roles, exact_from)
    → RunsKeep answers d time choice roles exact_from

-- ---- events

-- all these changes come at one time
abbrev pub changed : NetworkState → ℕ → List Change → DocumentState
changed n time changes = record {
  network = n;
  events = map (λ (change : Change). record { at = time; act = Changing change }) changes;
}

-- one comes at 30 s, and another later
abbrev pub changed_again : NetworkState → Change → ℕ → Change → DocumentState
changed_again n first time next = record {
  network = n;
  events = record { at = 30000000000; act = Changing first } ∷ record { at = time; act = Changing next } ∷ [];
}

-- Where all changes come as the network begins, each run keeps these bounds from then on: of the choice, of the roles,
-- and from when on offsets are exact.
abbrev pub KeepsAtStart : {F : Type 0} → (Bounds → ℕ → F → Option ℕ → F → Type 0) → NetworkState → List Change → ℕ
    → ℕ → ℕ → Type 0
KeepsAtStart answers n changes choice roles exact = RunsKeep answers (changed n 0 changes) 0 choice roles exact

-- so where all come at 30 s, each by how much later
abbrev pub KeepsAfter : {F : Type 0} → (Bounds → ℕ → F → Option ℕ → F → Type 0) → NetworkState → List Change → ℕ → ℕ
    → ℕ → Type 0
KeepsAfter answers n changes choice roles exact =
    RunsKeep answers (changed n 30000000000 changes) 30000000000 choice roles (30000000000 + exact)

-- so from 60 s on, where another change comes then
abbrev pub KeepsAgain : {F : Type 0} → (Bounds → ℕ → F → Option ℕ → F → Type 0) → NetworkState → Change → Change → ℕ
    → ℕ → ℕ → Type 0
KeepsAgain answers n first next choice roles exact =
    RunsKeep answers (changed_again n first 60000000000 next) 60000000000 choice roles (60000000000 + exact)

-- ---- networks

-- the bridge of this clock has four ports, which announce each second; the lower the clock, the better it is
abbrev pub bridge : ℕ → SystemSpec
bridge clock =
    member (0xf6f8fe436af8 * 2 ^ 64 + clock) 4 0 (pos 0) false
    (record { items = pos 0 ∷ pos 0 ∷ pos 0 ∷ pos 0 ∷ [] })

-- over 80 m of fibre a frame takes 390 to 410 ns
abbrev pub fibre : ℕ → ℕ → ℕ → ℕ → ℕ → LinkSpec
fibre number a a_port b b_port = wire number (port_id a a_port) (port_id b b_port) 390 410 0 true

abbrev pub bridges : List ℕ → List LinkSpec → NetworkState
bridges clocks links = record { params = params; systems = map bridge clocks; links = links; seed = 1 }

abbrev pub line : NetworkState
line =
    bridges (0xa ∷ 0xb ∷ 0xc ∷ 0xd ∷ []) (fibre 0 0xa 1 0xb 1 ∷ fibre 1 0xb 2 0xc 1 ∷ fibre 2 0xc 2 0xd 1 ∷ [])

abbrev pub ring : NetworkState
ring =
    bridges (0xa ∷ 0xb ∷ 0xc ∷ 0xd ∷ [])
    (fibre 0 0xa 1 0xb 1 ∷ fibre 1 0xb 2 0xc 1 ∷ fibre 2 0xc 2 0xd 1 ∷ fibre 3 0xd 2 0xa 2 ∷ [])

-- the best has a link to each other
abbrev pub star : NetworkState
star =
    bridges (0xa ∷ 0xb ∷ 0xc ∷ 0xd ∷ []) (fibre 0 0xa 1 0xb 1 ∷ fibre 1 0xa 2 0xc 1 ∷ fibre 2 0xa 3 0xd 1 ∷ [])

-- so it has to three others, which two links join, and e hangs on b
abbrev pub wheel : NetworkState
wheel =
    bridges (0xa ∷ 0xb ∷ 0xc ∷ 0xd ∷ 0xe ∷ [])
    (fibre 0 0xa 1 0xb 1
    ∷ fibre 1 0xa 2 0xc 1
    ∷ fibre 2 0xa 3 0xd 1
    ∷ fibre 3 0xb 2 0xc 2
    ∷ fibre 4 0xc 3 0xd 2
    ∷ fibre 5 0xb 3 0xe 1
    ∷ [])

-- b is beside the best, in a triangle with c and d, and e hangs on it
abbrev pub triangle : NetworkState
triangle =
    bridges (0xa ∷ 0xb ∷ 0xc ∷ 0xd ∷ 0xe ∷ [])
    (fibre 0 0xa 1 0xb 1
    ∷ fibre 1 0xb 2 0xc 1
    ∷ fibre 2 0xc 2 0xd 1
    ∷ fibre 3 0xd 2 0xb 3
    ∷ fibre 4 0xb 4 0xe 1
    ∷ [])

-- a ring of five, and f hangs on b
abbrev pub long_ring : NetworkState
long_ring =
    bridges (0xa ∷ 0xb ∷ 0xc ∷ 0xd ∷ 0xe ∷ 0xf ∷ [])
    (fibre 0 0xa 1 0xb 1
    ∷ fibre 1 0xb 2 0xc 1
    ∷ fibre 2 0xc 2 0xd 1
    ∷ fibre 3 0xd 2 0xe 1
    ∷ fibre 4 0xe 2 0xa 2
    ∷ fibre 5 0xb 3 0xf 1
    ∷ [])

-- what a Slave port holds lapses where three Syncs fail to come
abbrev pub lapsing : NetworkState → NetworkState
lapsing n = record n { params = record params { sync_timeout = 3 } }
