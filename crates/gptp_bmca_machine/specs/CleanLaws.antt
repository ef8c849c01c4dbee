-- Laws on traces: they become clean.
use Rattle.std.specs.Prelude.{◌≡◌, ◌<◌, ◌≤◌, ◌+◌, ◌*◌, ℕ, suc, true, List, ◌∷◌, ◌↔◌, Some, length, take, reverse, slice_get}
use Rattle.gptp_graph.specs.Snapshot.{Snapshot}
use Rattle.gptp_graph.specs.Path.{IsPath}
use Rattle.gptp_graph.specs.PathBound.{BoundsPaths}
use Rattle.gptp_bmca_machine.specs.Frame.{Spelling}
use Rattle.gptp_bmca_machine.specs.Station.{Reception, Station, MachineState, HoldsAt}
use Rattle.gptp_bmca_machine.specs.Acts.{MachineSteps}
use Rattle.gptp_bmca_machine.specs.Clean.{Clean, CameWhole}
use Rattle.gptp_bmca_machine.specs.Facts.{NetworkSetting, turn, BeginsLater, SendersLive, StationFacts}
use Rattle.gptp_bmca_machine.specs.CleanInvariant.{TracesAreClean}

-- before the start nothing is claimed of traces, whatever is held and in flight
abbrev pub CleanBegins : Spelling → Type 0
CleanBegins says = (k : NetworkSetting) (w : MachineState)
    → StationFacts k w → SendersLive k w → w.time < k.start
    → TracesAreClean says k w

-- every step keeps how clean traces are
abbrev pub CleanIsKept : Spelling → Type 0
CleanIsKept says = (k : NetworkSetting) (w w' : MachineState)
    → BeginsLater k → StationFacts k w → StationFacts k w' → MachineSteps says w w' → TracesAreClean says k w
    → TracesAreClean says k w'

-- everything that a live system of the snapshot received has come over the port's link, and is wholly clean
abbrev pub HeldIsWhole : NetworkSetting → MachineState → Type 0
HeldIsWhole k w = (i : ℕ) (s : Station) (place : ℕ) (r : Reception)
    → slice_get w.stations i ≡ Some s → s.live ≡ true → HoldsAt s place r
    → CameWhole k.graph s.clock (suc place) r

-- where no path has more than m systems, everything received is wholly clean once m turns have passed from the start
abbrev pub MachineHeldBecomesWhole : Spelling → Type 0
MachineHeldBecomesWhole says = (k : NetworkSetting) (m : ℕ) (w : MachineState)
    → BoundsPaths k.graph m → StationFacts k w → TracesAreClean says k w
    → k.start + m * turn k ≤ w.time
    → HeldIsWhole k w

-- the last m + 1 members of the trace, read backwards, are a path of the snapshot that begins at u
abbrev pub EndsInPath : Snapshot → ℕ → ℕ → List ℕ → Type 0
EndsInPath g m u trace = (others : List ℕ) × (end : ℕ) × (take (suc m) (reverse trace) ≡ u ∷ others)
    × (length others ≡ m) × IsPath g u end others

-- clean by so many members is what it says: the last of them are different live systems, each joined to the next
abbrev pub CleanIsByLastMembers : Type 0
CleanIsByLastMembers = (g : Snapshot) (m u : ℕ) (trace : List ℕ)
    → Clean g (suc m) u trace ↔ EndsInPath g m u trace
