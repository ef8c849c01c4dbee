-- Each document has cases and times, and a case that fails stays down for some time.
use Rattle.std.proofs.Common.{◌≡◌, ◌≤◌, ◌<◌, ◌+◌, ℕ, Bool, true, false, if◌then◌else◌, List, [], ◌∷◌, ◌++◌, max, ◌==◌, Option, Some, None, IfSome, unwrap_or, refl, sym, ap, subst, ◌∙◌, inl, inr, append_assoc, arith}
use Rattle.std.proofs.lemmas.Bool.{eq-eqb, eqb-true}
use Rattle.gptp_graph.specs.PathBound.{path_bound}
use Rattle.gptp_how_soon.specs.Times.{settling_times_from, time_at}
use Rattle.gptp_how_soon.specs.declared.bounds.SettlingTime.{SettlingTime}
use Rattle.gptp_lists.specs.Members.{In}
use Rattle.gptp_network.specs.Document.{DocumentState}
use Rattle.gptp_network.specs.Snapshot.{events_by}
use Rattle.gptp_network.specs.Span.{IsSpan}
use Rattle.gptp_network.proofs.ExistenceLemmas.{snapshot_exists}
use Rattle.gptp_scenario.specs.Calm.{last_change}
use Rattle.gptp_scenario.specs.Network.{IsNetwork, largest_of, pace_of}
use Rattle.gptp_scenario.specs.SettlingTime.{settling_span_with}
use Rattle.gptp_scenario.specs.SyncWait.{sync_paths}
use Rattle.gptp_scenario.specs.declared.change.Timed.{Timed}
use Rattle.gptp_setup.specs.Intervals.{IsLog, interval_of}
use Rattle.gptp_setup.proofs.IntervalLemmas.{interval_positive}
use Rattle.gptp_timeline.specs.Each.{Each}
use Rattle.gptp_topology.specs.Times.{times_from, times_of}
use Rattle.gptp_faults.specs.CaseEvents.{EventsState}
use Rattle.gptp_faults.specs.Cases.{AreCases, link_cases, power_cases, system_cases}
use Rattle.gptp_faults.specs.Stays.{failed_document, hold_of, watch_among, watch_of}
use Rattle.gptp_faults.specs.Times.{AreTimes}
use Rattle.gptp_faults.specs.declared.cases.Case.{Case}
use Rattle.gptp_faults.specs.declared.options.FaultsOptions.{FaultsOptions}
use Rattle.gptp_faults.specs.declared.options.Only.{Only}
use Rattle.gptp_faults.specs.declared.times.Times.{Times}
use Rattle.gptp_faults.proofs.EventsLemmas.{HasEvents}
use Rattle.gptp_faults.proofs.ReturnLemmas.{failing_split}
use Rattle.gptp_faults.proofs.RunLemmas.{failed_are, failing_events, with_events}

-- ---- two lists, member by member

-- where there is one for each member, there is a list of them
pub each_exists : {X Y : Type 0} (P : X → Y → Type 0) (xs : List X) → ((x : X) → In x xs → (y : Y) × P x y)
    → (ys : List Y) × Each P xs ys
each_exists P [] one = ([], tt)
each_exists P (x ∷ xs) one =
    let (y, is) = one x (inl refl) in
    let (ys, each) = each_exists P xs (λ z member. one z (inr member)) in
    (y ∷ ys, (is, each))

-- ---- what is known of a document

span_exists : (d : DocumentState) (at : ℕ) → IsNetwork d.network → (span : ℕ) × IsSpan d at span
span_exists d at network =
    let (g, stands) = snapshot_exists d at network in (
      settling_span_with (pace_of d.network) (sync_paths d.network (events_by at d.events)) (path_bound g),
      record { snapshot = g; stands = stands; is = refl },
    )

pub cases_exist : (d : DocumentState) (kind : Option Only) (power : Bool) → IsNetwork d.network
    → (all : List Case) × AreCases d kind power all
cases_exist d kind power network =
    let (g, stands) = snapshot_exists d (last_change d.events) network in (
      (link_cases kind g ++ system_cases kind d) ++ power_cases kind power d,
      record { snapshot = g; stands = stands; are = refl },
    )

pub times_exist : (d : DocumentState) (options : FaultsOptions) → IsNetwork d.network
    → (t : Times) × AreTimes d options t
times_exist d options network =
    let last = last_change d.events in let (span, is) = span_exists d last network in (
      record {
        from = unwrap_or options.at (last + max span (watch_of d last));
        spread = interval_of (largest_of d.network) + interval_of d.network.params.sync;
        moments = options.moments;
        seeds = options.seeds;
      },
      record {
        span = span;
        span_is = is;
        from_is = refl;
        spread_is = refl;
        moments_are = refl;
        seeds_are = refl;
      },
    )

-- ---- a fault stays some time

-- the time from which on events are looked at is one of their times
from_is_time : (from : ℕ) (es : List Timed) → In from (times_from from es)
from_is_time from [] = inl refl
from_is_time from (e ∷ es) = by (e.at == from) (from_is_time from es)
  where
    by : (t : Bool) → In from (times_from from es)
        → In from (if t then times_from from es else from ∷ times_from e.at es)
    by true rest = rest
    by false rest = inl refl

-- and each event of a document has one of its times
event_time : (from : ℕ) (es : List Timed) (e : Timed) (rest : List Timed)
    → In e.at (times_from from (es ++ e ∷ rest))
event_time from [] e rest = by (e.at == from) refl
  where
    by : (t : Bool) → (e.at == from) ≡ t → In e.at (times_from from (e ∷ rest))
    by true is = rw is (subst (λ at. In e.at (times_from at rest)) (eqb-true e.at from is) (from_is_time e.at rest))
    by false is = rw is (inr (from_is_time e.at rest))
event_time from (x ∷ xs) e rest =
    by (x.at == from) refl (event_time from xs e rest) (event_time x.at xs e rest)
  where
    by : (t : Bool) → (x.at == from) ≡ t → In e.at (times_from from (xs ++ e ∷ rest))
        → In e.at (times_from x.at (xs ++ e ∷ rest)) → In e.at (times_from from ((x ∷ xs) ++ e ∷ rest))
    by true is same other = rw is same
    by false is same other = rw is (inr other)

-- and each of them is watched for some time
watched_some : (d : DocumentState) → IsLog d.network.params.sync → (before : Option SettlingTime) (ats : List ℕ)
    (at : ℕ) → In at ats → 0 < watch_among (settling_times_from d before ats) at
watched_some d log before [] at member = absurd member
watched_some d log before (x ∷ xs) at member =
    by (x == at) refl member (watched_some d log (Some (time_at d before x)) xs at)
  where
    by : (t : Bool) → (x == at) ≡ t → In at (x ∷ xs)
        → (In at xs → 0 < watch_among (settling_times_from d (Some (time_at d before x)) xs) at)
        → 0 < watch_among (settling_times_from d before (x ∷ xs)) at
    by true is among others =
        let interval = interval_positive d.network.params.sync log in
        let some : 0 < (time_at d before x).watch = omega (arith, interval) in rw is some
    by false is (inl same) others = let no : true ≡ false = sym (eq-eqb x at (sym same)) ∙ is in absurd cc
    by false is (inr later) others = rw is (others later)

-- so a case that fails stays down for some time by default
module _ (d : DocumentState) (network : IsNetwork d.network) (least : ℕ) (e : EventsState) (has : HasEvents least e)
    (at : ℕ) where
  watched_failed : 0 < watch_of (failed_document at e d) (at + e.delay)
  watched_failed =
      let k = failing_split least e has at in
      let events : List Timed = d.events ++ failing_events at e in
      let there : In (at + e.delay) (times_of events) =
      subst (λ time. In time (times_of events)) k.first_at
      (subst (λ es. In k.first.at (times_of es))
      (append_assoc d.events k.others (k.first ∷ k.more) ∙ ap (λ fs. d.events ++ fs) (sym k.are))
      (event_time 0 (d.events ++ k.others) k.first k.more)) in
      subst (λ (x : DocumentState). 0 < watch_of x (at + e.delay)) (sym (failed_are at e d))
      (watched_some (with_events d events) network.params.ranges.params.sync None (times_of events) (at + e.delay)
      there)

  pub hold_some : (asked : Option ℕ) → IfSome asked (λ hold. 1 ≤ hold) → 0 < hold_of d asked e at
  hold_some (Some asked) some = omega (arith, some)
  hold_some None some = watched_failed
