-- That each document has a table of its faults, or is refused.
use Rattle.std.specs.Prelude.{◌≤◌, ◌⊎◌, ℕ, Bool, List, IfSome}
use Rattle.rand_pcg.specs.Lcg.{Lcg}
use Rattle.gptp_setup.specs.Intervals.{IsMoment}
use Rattle.gptp_network.specs.Document.{DocumentState, seeded_document}
use Rattle.gptp_network.specs.declared.fault.DocumentFault.{DocumentFault}
use Rattle.gptp_theorem.specs.PlayedLaws.{IsPlayable}
use Rattle.gptp_timeline.specs.Aside.{AsideState}
use Rattle.gptp_timeline.specs.LastStretches.{EndsOf}
use Rattle.gptp_timeline.specs.declared.ends.LastStretches.{LastStretches}
use Rattle.gptp_faults.specs.CaseEvents.{EventsState}
use Rattle.gptp_faults.specs.Faults.{FaultsOf}
use Rattle.gptp_faults.specs.Laws.{LinesHold}
use Rattle.gptp_faults.specs.Refusals.{RefusesFaults}
use Rattle.gptp_faults.specs.Runs.{draws}
use Rattle.gptp_faults.specs.Stays.{with_case}
use Rattle.gptp_faults.specs.Times.{AreOptions}
use Rattle.gptp_faults.specs.declared.options.FaultsOptions.{FaultsOptions}

-- the last stretches of a run of the document end in some way, where these systems are set aside
abbrev pub HasEnds : Bool → AsideState → DocumentState → ℕ → Lcg → Type 0
HasEnds asked aside d until fate = (last : LastStretches) × EndsOf draws asked aside d until fate last

-- So do those of each run of the document with the events of a case, from whatever seed, where that can be played.
abbrev pub RunsEnd : DocumentState → Type 0
RunsEnd d = (asked : Bool) (aside : AsideState) (e : EventsState) (at hold seed until : ℕ) (fate : Lcg)
    → IsPlayable (with_case at hold e d) → IsMoment until
    → HasEnds asked aside (seeded_document seed (with_case at hold e d)) until fate

-- a table whose lines hold, or a refusal
abbrev pub HasFaults : DocumentState → FaultsOptions → Type 0
HasFaults d options =
    ((lines : List (List ℕ)) × (exceeded : Bool) × (f : FaultsOf d options lines exceeded)
    × LinesHold d options f.times f.outcomes)
    ⊎ ((fault : DocumentFault) × RefusesFaults d options fault)

-- Each document that can be played has one of them where its runs end and a fault stays for some time.
abbrev pub EachHasFaults : Type 0
EachHasFaults = (d : DocumentState) (options : FaultsOptions) → IsPlayable d → RunsEnd d → AreOptions options
    → IfSome options.hold (λ hold. 1 ≤ hold) → HasFaults d options
