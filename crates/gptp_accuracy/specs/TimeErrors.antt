-- How exact the time is that each live system gets, after the events of a document up to a time (profile).
use Rattle.std.specs.Prelude.{◌≡◌, ◌⊎◌, ◌<◌, ◌≤◌, ℕ, ◌/◌, ◌^◌, Bool, true, false, not, ◌&&◌, ◌==◌, nat_lt, if◌then◌else◌, List, take, Option, Some, None, is_some, map, slice_get}
use Rattle.std.specs.Option.{option_map}
use Rattle.gptp_lists.specs.Members.{In}
use Rattle.gptp_graph.specs.Distance.{IsDistance}
use Rattle.gptp_graph.specs.Labelling.{SystemLine, line_clocks}
use Rattle.gptp_graph.specs.SettledChoice.{IsBestIdentity}
use Rattle.gptp_graph.specs.Snapshot.{Snapshot, IsWellFormed, clocks}
use Rattle.gptp_setup.specs.declared.setup.Params.{Params}
use Rattle.gptp_scenario.specs.Calm.{IsCalm, last_change}
use Rattle.gptp_scenario.specs.Network.{NetworkState}
use Rattle.gptp_scenario.specs.SyncWait.{sync_paths, sync_wait}
use Rattle.gptp_scenario.specs.declared.change.Timed.{Timed}
use Rattle.gptp_scenario.specs.declared.sync_wait.SyncPaths.{SyncPaths}
use Rattle.gptp_network.specs.Document.{DocumentState}
use Rattle.gptp_network.specs.Snapshot.{IsSnapshot, events_by}
use Rattle.gptp_error_laws.specs.TimeError.{Way, time_error}
use Rattle.gptp_how_soon.specs.declared.bounds.Settling.{Settling}
use Rattle.gptp_accuracy.specs.Readings.{ReadingTerms, reading_terms}
use Rattle.gptp_accuracy.specs.Settlings.{settling_of}
use Rattle.gptp_accuracy.specs.Sums.{terms_of}
use Rattle.gptp_accuracy.specs.Ways.{IsWay}
use Rattle.gptp_accuracy.specs.declared.errors.SystemError.{SystemError}
use Rattle.gptp_accuracy.specs.declared.errors.TimeErrors.{TimeErrors}
use Rattle.gptp_accuracy.specs.declared.sums.Sums.{Sums}

-- a root can be grandmaster where its priority1 is below 255 (IEEE 802.1AS-2020, 8.6.2.1)
abbrev pub root_is_capable : ℕ → Bool
root_is_capable root = nat_lt (root / 2 ^ 104) 255

-- From when on the errors of a document hold after its events up to a time: from when on it is exact after the last of
-- them. None where it isn't calm then.
abbrev pub exact_from : DocumentState → ℕ → Option ℕ
exact_from d until =
    option_map (λ (s : Settling). s.exact_from) (settling_of d (last_change (events_by until d.events)))

-- How old the last receipt of a system is at most, from when on a network that is calm then has settled: for how long
-- it waits for the next. It is known where what the Slave port holds lapses for want of Sync.
abbrev pub age_over : Params → SyncPaths → Bool → Option ℕ
age_over p paths calm = if calm && not (p.sync_timeout == 0) then Some (sync_wait p paths) else None

abbrev pub greatest_age : NetworkState → List Timed → Bool → Option ℕ
greatest_age n events calm = age_over n.params (sync_paths n events) calm

-- What a system that follows this root over so many steps has by its way. It has none where the network isn't calm, the
-- system is far, or its root can't be grandmaster.
abbrev pub HasByWay : {A : Type 0} → NetworkState → List Timed → Snapshot → SystemError → (Way → A) → Option A
    → Type 0
HasByWay n events g s by_way (Some x) = IsCalm n events × (s.steps < 255) × (root_is_capable s.root ≡ true)
    × ((w : Way) × IsWay n events g s.steps s.clock w × (x ≡ by_way w))
HasByWay n events g s by_way None =
    (IsCalm n events → ⊥) ⊎ ((255 ≤ s.steps) ⊎ (root_is_capable s.root ≡ false))

-- its time error
abbrev pub IsErrorOf : NetworkState → List Timed → Snapshot → SystemError → Option ℕ → Type 0
IsErrorOf n events g s error = HasByWay n events g s time_error error

-- what the error of what it reads follows from
abbrev pub IsReadingOf : NetworkState → List Timed → Snapshot → SystemError → Option ReadingTerms → Type 0
IsReadingOf n events g s reading = HasByWay n events g s reading_terms reading

-- what a system has by its way, as it is worked out: this, where the network is calm, the system isn't far and its root
-- can be grandmaster; else none
abbrev pub if_promised : {A : Type 0} → Bool → Bool → ℕ → A → Option A
if_promised calm far root x = if calm && (not far && root_is_capable root) then Some x else None

-- the system of a line, with what its sums give
pub record IsSystemOf (calm : Bool) (line : SystemLine) (to : Sums) (s : SystemError) : Type 0 where
  pub clock : s.clock ≡ line.clock
  pub root : s.root ≡ line.root
  pub steps : s.steps ≡ line.steps
  pub far : s.far ≡ line.far
  pub error : s.error ≡ if_promised calm line.far line.root to.error
  pub reading : s.reading ≡ if_promised calm line.far line.root (terms_of to)

-- an entry is that of some line and the sums at its place
pub record IsEntry (calm : Bool) (lines : List SystemLine) (sums : List Sums) (s : SystemError) : Type 0 where
  pub place : ℕ
  pub line : SystemLine
  pub there : slice_get lines place ≡ Some line
  pub to : Sums
  pub summed : slice_get sums place ≡ Some to
  pub is : IsSystemOf calm line to s

-- the systems of the first lines, so many
pub record AreEntries (calm : Bool) (lines : List SystemLine) (sums : List Sums) (count : ℕ)
    (systems : List SystemError) : Type 0 where
  pub clocks : map (λ (s : SystemError). s.clock) systems ≡ take count (line_clocks lines)
  pub each : (s : SystemError) → In s systems → IsEntry calm lines sums s

-- a system with the best of its component, its distance from that, whether it is far, and its errors
pub record IsExact (n : NetworkState) (events : List Timed) (g : Snapshot) (s : SystemError) : Type 0 where
  pub root : IsBestIdentity g s.clock s.root
  pub steps : IsDistance g s.clock s.steps
  pub near : s.far ≡ false → s.steps < 255
  pub far : s.far ≡ true → 255 ≤ s.steps
  pub error : IsErrorOf n events g s s.error
  pub reading : IsReadingOf n events g s s.reading

-- all live systems, by rising clock
pub record AreExact (n : NetworkState) (events : List Timed) (g : Snapshot) (systems : List SystemError) : Type 0 where
  pub clocks : map (λ (s : SystemError). s.clock) systems ≡ clocks g
  pub each : (s : SystemError) → In s systems → IsExact n events g s

-- What is said of a document at a time: the last time of its events until then, from when on the errors hold, how old
-- the last receipt of a system then is at most, and the errors of all systems that live then.
pub record AreTimeErrors (d : DocumentState) (until : ℕ) (t : TimeErrors) : Type 0 where
  pub snapshot : Snapshot
  pub is : IsSnapshot d until snapshot
  pub network : IsWellFormed snapshot
  pub time : t.time ≡ last_change (events_by until d.events)
  pub from : t.from ≡ exact_from d until
  pub age : t.age ≡ greatest_age d.network (events_by until d.events) (is_some t.from)
  pub systems : AreExact d.network (events_by until d.events) snapshot t.systems.items
