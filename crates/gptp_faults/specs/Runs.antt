-- The runs of a case (profile).
use Rattle.std.specs.Prelude.{◌≡◌, ℕ, ◌+◌, ◌*◌, ◌/◌, ◌%◌, ◌&&◌, nat_le, nat_lt, Bool, true, false, List, [], ◌∷◌, slice_get, Option, Some, None, is_some, IfSome}
use Rattle.rand_core.specs.Pcg32Seed.{pcg32_seed}
use Rattle.rand_pcg.specs.Lcg.{Lcg}
use Rattle.rand_pcg.specs.Pcg.{pcg64_of_seed}
use Rattle.gptp_links.specs.Draws.{drawn}
use Rattle.gptp_links.specs.declared.bounds.Bounds.{Bounds}
use Rattle.gptp_network.specs.Document.{DocumentState, seeded_document}
use Rattle.gptp_scenario.specs.Calm.{last_change}
use Rattle.gptp_scenario.specs.declared.change.Timed.{Timed}
use Rattle.gptp_timeline.specs.Aside.{AsideState}
use Rattle.gptp_timeline.specs.LastStretches.{EndsOf}
use Rattle.gptp_timeline.specs.RunSoFar.{IsRunSoFar, RunUpTo}
use Rattle.gptp_timeline.specs.declared.ends.LastStretches.{LastStretches}
use Rattle.gptp_timeline.specs.declared.run_so_far.RunSoFar.{RunSoFar}
use Rattle.gptp_faults.specs.CaseEvents.{EventsState}
use Rattle.gptp_faults.specs.Options.{tracks}
use Rattle.gptp_faults.specs.Stays.{document_of, end_at, return_at}
use Rattle.gptp_faults.specs.Times.{moment}
use Rattle.gptp_faults.specs.declared.case_events.CaseChange.{CaseChange}
use Rattle.gptp_faults.specs.declared.runs.RunEnds.{RunEnds}
use Rattle.gptp_faults.specs.declared.options.FaultsOptions.{FaultsOptions}
use Rattle.gptp_faults.specs.declared.times.Times.{Times}

-- delays and losses are drawn from the generator of the seed
abbrev pub draws : Bounds → ℕ → Lcg → Option ℕ → Lcg → Type 0
draws bounds sent before answer after = (answer, after) ≡ drawn bounds before

abbrev pub generator : ℕ → Lcg
generator seed = pcg64_of_seed (pcg32_seed 32 seed)

-- runs are numbered from 0, by moment, then seed; seeds from 1
abbrev pub run_moment : Times → ℕ → ℕ
run_moment t run = moment t (run / t.seeds)

abbrev pub seed_of : Times → ℕ → ℕ
seed_of t run = run % t.seeds + 1

abbrev pub runs_of : Times → ℕ
runs_of t = t.moments * t.seeds

-- the document of a run, whose systems draw noise from its seed
abbrev pub document_run : DocumentState → Option ℕ → EventsState → Times → ℕ → DocumentState
document_run d asked e t run = seeded_document (seed_of t run) (document_of d asked e (run_moment t run))

-- who is set aside in a run in which a case fails at a moment and comes back
abbrev pub set_aside : DocumentState → Option ℕ → EventsState → List ℕ → ℕ → AsideState
set_aside d asked e names at = record { clocks = names; from = at; back = return_at d asked e at; begun = 0 }

-- the run of a document with the first seed up to the first moment
abbrev pub first_run : DocumentState → FaultsOptions → Times → RunUpTo Lcg
first_run d options t = record {
  document = seeded_document 1 d;
  fate = generator 1;
  at = t.from;
  asked = tracks options;
}

-- it is kept, or none is
abbrev pub IsKept : DocumentState → FaultsOptions → Times → Option (RunSoFar Lcg) → Type 0
IsKept d options t kept = IfSome kept (IsRunSoFar draws (first_run d options t))

-- whether events come from a time on up to an end, at two times at least, where this is the first of them, if there is
-- one, and that the time of the last
abbrev pub are_between : ℕ → ℕ → Option Timed → ℕ → Bool
are_between from until None last = false
are_between from until (Some first) last =
    nat_le from first.at && nat_lt first.at last && nat_le last until

-- those behind the first so many do
abbrev pub go_on : ℕ → ℕ → ℕ → List Timed → Bool
go_on from until count events = are_between from until (slice_get events count) (last_change events)

-- the stretches in which a case is down and is back are the last two of a run; the last three, where it is seen later
-- than at once that it failed
abbrev pub AreRunEnds : Bool → LastStretches → RunEnds → Type 0
AreRunEnds false last r =
    (r.first ≡ None) × (last.before ≡ Some r.down) × (last.last ≡ Some r.back)
AreRunEnds true last r =
    (is_some r.first ≡ true) × (last.earlier ≡ r.first) × (last.before ≡ Some r.down) × (last.last ≡ Some r.back)

-- it is seen later than at once that a case failed, where something happens then
abbrev pub has_changes : List CaseChange → Bool
has_changes [] = false
has_changes (c ∷ cs) = true

abbrev pub is_seen : EventsState → Bool
is_seen e = has_changes e.seen

-- How the stretches of a run end in which a case is down and is back, of which these systems are set aside, where it is
-- asked what systems read, or isn't.
pub record CaseRunEnds (options : FaultsOptions) (d : DocumentState) (t : Times) (e : EventsState) (names : List ℕ)
    (run : ℕ) (r : RunEnds) : Type 0 where
  pub last : LastStretches
  pub ends : EndsOf draws (tracks options) (set_aside d options.hold e names (run_moment t run))
      (document_run d options.hold e t run) (end_at d options.hold e (run_moment t run)) (generator (seed_of t run))
      last
  pub are : AreRunEnds (is_seen e) last r
