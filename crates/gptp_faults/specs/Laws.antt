-- Laws of faults.
use Rattle.std.specs.Prelude.{◌≡◌, ◌≤◌, ◌<◌, ◌⊎◌, ◌+◌, ℕ, Bool, List, ◌∷◌, map, Option, Some, None, IfSome}
use Rattle.std.specs.List.{AllByRecursion}
use Rattle.std.specs.Option.{option_or}
use Rattle.gptp_accuracy.specs.Settlings.{settling_of}
use Rattle.gptp_graph.specs.Snapshot.{Snapshot}
use Rattle.gptp_how_soon.specs.declared.bounds.Settling.{Settling}
use Rattle.gptp_lists.specs.Members.{In}
use Rattle.rand_pcg.specs.Lcg.{Lcg}
use Rattle.gptp_network.specs.Document.{DocumentState}
use Rattle.gptp_network.specs.Snapshot.{IsSnapshot}
use Rattle.gptp_network.specs.declared.fault.DocumentFault.{DocumentFault}
use Rattle.gptp_scenario.specs.Calm.{last_change}
use Rattle.gptp_scenario.specs.Network.{seeded}
use Rattle.gptp_timeline.specs.Aside.{AsideState}
use Rattle.gptp_timeline.specs.Ends.{EndState}
use Rattle.gptp_timeline.specs.LastStretches.{EndsOf}
use Rattle.gptp_timeline.specs.declared.ends.LastStretches.{LastStretches}
use Rattle.gptp_theorem.specs.PlayedLaws.{IsPlayable}
use Rattle.gptp_timeline.specs.Laws.{AllNear, AreRoots}
use Rattle.gptp_timeline.specs.declared.stretch.Stretch.{Stretch}
use Rattle.gptp_faults.specs.CaseEvents.{EventsState}
use Rattle.gptp_faults.specs.Extremes.{behind}
use Rattle.gptp_faults.specs.Faults.{FaultsOf}
use Rattle.gptp_faults.specs.Follows.{AreFollows}
use Rattle.gptp_faults.specs.Outcomes.{IsOutcome, OutcomeState}
use Rattle.gptp_faults.specs.Refusals.{case_events, RefusesFaults}
use Rattle.gptp_faults.specs.Runs.{draws}
use Rattle.gptp_faults.specs.Stays.{document_of, failed_document, hold_of}
use Rattle.gptp_faults.specs.declared.cases.Case.{Case}
use Rattle.gptp_faults.specs.declared.extremes.Extremes.{Extremes}
use Rattle.gptp_faults.specs.declared.extremes.HowSoon.{HowSoon}
use Rattle.gptp_faults.specs.declared.options.FaultsOptions.{FaultsOptions}
use Rattle.gptp_faults.specs.declared.runs.RunEnds.{RunEnds}
use Rattle.gptp_faults.specs.declared.times.Times.{Times}

-- the network of a document as it stands where a case failed at a time and that is seen
abbrev pub StandsWithout : DocumentState → ℕ → EventsState → Snapshot → Type 0
StandsWithout d at e = IsSnapshot (failed_document at e d) (at + e.delay)

-- What is told of roots counts those of the settled choice of a network: of each near system the best of its component.
abbrev pub TellsSettled : Snapshot → OutcomeState → Type 0
TellsSettled g o = (roots : List ℕ) × AreRoots g roots × AreFollows roots o.follow

-- Where bounds are told of the network without what fails in a case, at the time at which that is seen, and the case
-- stays down for longer than the choice from then on, as it does by default, its `follow` lines are those of the
-- settled choice of that network.
abbrev pub FollowSettled : DocumentState → FaultsOptions → ℕ → List OutcomeState → Type 0
FollowSettled d options at outcomes = (o : OutcomeState) (g : Snapshot) (s : Settling) → In o outcomes
    → settling_of (failed_document at (case_events d options o.failing) d)
    (at + (case_events d options o.failing).delay) ≡ Some s
    → (options.hold ≡ None) ⊎ (s.choice < hold_of d options.hold (case_events d options o.failing) at)
    → StandsWithout d at (case_events d options o.failing) g → TellsSettled g o

-- The lines on followers are settled in every document that is playable.
abbrev pub FollowLinesSettle : Type 0
FollowLinesSettle = (d : DocumentState) (options : FaultsOptions) (lines : List (List ℕ)) (exceeded : Bool)
    (f : FaultsOf d options lines exceeded) → IsPlayable d → FollowSettled d options f.times.from f.outcomes

-- ---- bounds

-- The choice that is told is within the bounds that are told, and so are the last changes of roles.
pub record IsWithinBounds (e : Extremes) (changes : List (Option ℕ)) : Type 0 where
  pub choice : (b : HowSoon) → e.bounds ≡ Some b → IfSome e.choice (λ last. last ≤ b.choice)
  pub roles : (b : HowSoon) → e.bounds ≡ Some b
      → AllByRecursion (λ change. IfSome change (λ last. last ≤ b.roles)) changes

-- How long after a case failed in a run the role of a port, or whether it is capable, changed last while the case is
-- down, and how long after its return.
abbrev pub roles_in : Option EndState → Stretch → Option ℕ
roles_in None s = behind s.from s.measures.roles
roles_in (Some first) s = behind first.stretch.from (option_or s.measures.roles first.stretch.measures.roles)

abbrev pub roles_down : RunEnds → Option ℕ
roles_down r = roles_in r.first r.down.stretch

abbrev pub roles_back : RunEnds → Option ℕ
roles_back r = behind r.back.stretch.from r.back.stretch.measures.roles

-- Whenever a case fails after all events, every live system is near at each time until its run ends.
abbrev pub StaysNear : DocumentState → FaultsOptions → EventsState → Type 0
StaysNear d options e = (at time : ℕ) (g : Snapshot) → last_change d.events ≤ at
    → IsSnapshot (document_of d options.hold e at) time g → AllNear g

-- Where it is so, the lines `down` and `back` of the case are within their bounds, and so are all its runs.
abbrev pub SettleWithin : DocumentState → FaultsOptions → Times → List OutcomeState → Type 0
SettleWithin d options t outcomes = (o : OutcomeState) (number : ℕ) (c : Case)
    (is : IsOutcome options d t number c o) → In o outcomes → StaysNear d options (case_events d options c)
    → IsWithinBounds o.down (map roles_down (is.first ∷ is.others))
    × IsWithinBounds o.back (map roles_back (is.first ∷ is.others))

-- so it is of every document that is playable
abbrev pub LinesSettleWithin : Type 0
LinesSettleWithin = (d : DocumentState) (options : FaultsOptions) (lines : List (List ℕ)) (exceeded : Bool)
    (f : FaultsOf d options lines exceeded) → IsPlayable d → SettleWithin d options f.times f.outcomes

-- what the lines of these outcomes tell of how the network settles holds
abbrev pub LinesHold : DocumentState → FaultsOptions → Times → List OutcomeState → Type 0
LinesHold d options t outcomes = FollowSettled d options t.from outcomes × SettleWithin d options t outcomes

-- ---- one table

-- In each document with the network of this one, from whatever seed, the last stretches of a run end in one way.
abbrev pub RunsEndOnce : DocumentState → Type 0
RunsEndOnce d = (asked : Bool) (aside : AsideState) (e : DocumentState) (seed until : ℕ) (fate : Lcg)
    (one other : LastStretches) → e.network ≡ seeded seed d.network → EndsOf draws asked aside e until fate one
    → EndsOf draws asked aside e until fate other → one ≡ other

-- then two tables of a document are one
abbrev pub OneTable : Type 0
OneTable = (d : DocumentState) (options : FaultsOptions) (lines others : List (List ℕ)) (one other : Bool)
    → RunsEndOnce d → FaultsOf d options lines one → FaultsOf d options others other
    → (lines ≡ others) × (one ≡ other)

-- a document with a table isn't refused, and two faults of one are the same
abbrev pub NeverRefused : Type 0
NeverRefused = (d : DocumentState) (options : FaultsOptions) (lines : List (List ℕ)) (exceeded : Bool)
    (fault : DocumentFault) → FaultsOf d options lines exceeded → RefusesFaults d options fault → ⊥

abbrev pub OneRefusal : Type 0
OneRefusal = (d : DocumentState) (options : FaultsOptions) (first second : DocumentFault)
    → RefusesFaults d options first → RefusesFaults d options second → first ≡ second
