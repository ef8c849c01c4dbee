-- The events of a case are the last of a document with them.
use Rattle.std.proofs.Common.{◌≡◌, ◌≤◌, ◌<◌, ◌+◌, ℕ, false, nat_le, List, [], ◌∷◌, ◌++◌, refl, sym, ap, subst, ◌∙◌, append-nil, arith}
use Rattle.std.proofs.lemmas.Bool.Decides.{nat_tests}
use Rattle.gptp_network.specs.Document.{DocumentState}
use Rattle.gptp_network.specs.Snapshot.{events_by}
use Rattle.gptp_scenario.specs.declared.change.Timed.{Timed}
use Rattle.gptp_timeline.specs.Timeline.{now_of}
use Rattle.gptp_timeline.proofs.PastLemmas.{by_past, past_later, PastBy}
use Rattle.gptp_faults.specs.CaseEvents.{EventsState}
use Rattle.gptp_faults.specs.Stays.{back_at, failed_document, with_case}
use Rattle.gptp_faults.specs.declared.case_events.CaseChange.{CaseChange}
use Rattle.gptp_faults.proofs.DownLemmas.{AreLast}
use Rattle.gptp_faults.proofs.EventsLemmas.{HasEvents, IsSeenFrom}
use Rattle.gptp_faults.proofs.RunLemmas.{all_at, case_are, failed_are, failing_events, timed_at}

-- ---- events up to a time

both_past : (time : ℕ) (es fs : List Timed) → PastBy time es → PastBy time fs → PastBy time (es ++ fs)
both_past time [] fs past more = more
both_past time (e ∷ es) fs past more = (past.0, both_past time es fs past.1 more)

at_past : (at time : ℕ) (cs : List CaseChange) → at ≤ time → PastBy time (all_at at cs)
at_past at time [] le = tt
at_past at time (c ∷ cs) le = (le, at_past at time cs le)

-- all that are past are there
pub all_by : (time : ℕ) (es : List Timed) → PastBy time es → events_by time es ≡ es
all_by time es past =
    ap (events_by time) (sym (append-nil es)) ∙ by_past time es [] past ∙ append-nil es

-- and none of those that aren't
none_now : (time at : ℕ) (cs : List CaseChange) → time < at → now_of time (all_at at cs) ≡ []
none_now time at [] late = refl
none_now time at (c ∷ cs) late =
    let later : nat_le at time ≡ false = grind (arith, nat_tests) in rw later (none_now time at cs late)

first_by : (time at : ℕ) (es : List Timed) (cs : List CaseChange) → PastBy time es → time < at
    → events_by time (es ++ all_at at cs) ≡ es
first_by time at es cs past late =
    by_past time es (all_at at cs) past ∙ ap (λ fs. es ++ fs) (none_now time at cs late) ∙ append-nil es

-- ---- the events of a case

-- Of those where a case fails one is when that is seen; the others before it are past by then, and so are those behind.
pub record IsSplit (down : ℕ) (events : List Timed) : Type 0 where
  pub others : List Timed
  pub first : Timed
  pub more : List Timed
  pub are : events ≡ others ++ first ∷ more
  pub past : PastBy down others
  pub more_past : PastBy down more
  pub first_at : first.at ≡ down

in_front : {X : Type 0} (xs ys : List X) (f : X) (ms : List X) (s : X) (rs : List X)
    → (xs ++ (ys ++ f ∷ ms)) ++ s ∷ rs ≡ (xs ++ ys) ++ f ∷ (ms ++ s ∷ rs)
in_front [] [] f ms s rs = refl
in_front [] (y ∷ ys) f ms s rs = ap (λ zs. y ∷ zs) (in_front [] ys f ms s rs)
in_front (x ∷ xs) ys f ms s rs = ap (λ zs. x ∷ zs) (in_front xs ys f ms s rs)

module _ (least : ℕ) (e : EventsState) (has : HasEvents least e) (at : ℕ) where
  pub failing_split : IsSplit (at + e.delay) (failing_events at e)
  failing_split = by e.seen refl has.seen_from
    where
      by : (seen : List CaseChange) → e.seen ≡ seen → IsSeenFrom least seen e.delay
          → IsSplit (at + e.delay) (failing_events at e)
      by [] none at_once = record {
        others = [];
        first = timed_at at has.first;
        more = all_at at has.others ++ [];
        are = λ i. all_at at (has.at_is i) ++ all_at (at + e.delay) (none i);
        past = tt;
        more_past = both_past (at + e.delay) (all_at at has.others) []
            (at_past at (at + e.delay) has.others (omega arith)) tt;
        first_at = omega (arith, at_once);
      }
      by (c ∷ cs) some later = record {
        others = all_at at e.at;
        first = timed_at (at + e.delay) c;
        more = all_at (at + e.delay) cs;
        are = ap (λ seen. all_at at e.at ++ all_at (at + e.delay) seen) some;
        past = at_past at (at + e.delay) e.at (omega arith);
        more_past = at_past (at + e.delay) (at + e.delay) cs (omega arith);
        first_at = refl;
      }

  module _ (d : DocumentState) (hold : ℕ) (past : PastBy at d.events) where
    abbrev failed : DocumentState
    failed = failed_document at e d

    abbrev whole : DocumentState
    whole = with_case at hold e d

    failed_events : failed.events ≡ d.events ++ failing_events at e
    failed_events = ap (λ (x : DocumentState). x.events) (failed_are at e d)

    pub whole_events : whole.events ≡ (d.events ++ failing_events at e) ++ all_at (back_at at e hold) e.back
    whole_events = ap (λ (x : DocumentState). x.events) (case_are at hold e d)

    failing_past : PastBy (at + e.delay) (failing_events at e)
    failing_past =
        both_past (at + e.delay) (all_at at e.at) (all_at (at + e.delay) e.seen)
        (at_past at (at + e.delay) e.at (omega arith)) (at_past (at + e.delay) (at + e.delay) e.seen (omega arith))

    before_past : PastBy (at + e.delay) (d.events ++ failing_events at e)
    before_past =
        both_past (at + e.delay) d.events (failing_events at e)
        (past_later at (at + e.delay) d.events (omega arith) past) failing_past

    -- up to where the fault is seen the events are those without the return
    pub by_fault : 0 < hold → events_by (at + e.delay) whole.events ≡ failed.events
    by_fault some =
        ap (events_by (at + e.delay)) whole_events
        ∙ first_by (at + e.delay) (back_at at e hold) (d.events ++ failing_events at e) e.back before_past
        (omega (arith, some))
        ∙ sym failed_events

    pub whole_network : whole.network ≡ failed.network
    whole_network =
        ap (λ (x : DocumentState). x.network) (case_are at hold e d)
        ∙ sym (ap (λ (x : DocumentState). x.network) (failed_are at e d))

    -- all events have come where a run ends
    all_past : (until : ℕ) → back_at at e hold ≤ until → PastBy until whole.events
    all_past until within =
        subst (PastBy until) (sym whole_events)
        (both_past until (d.events ++ failing_events at e) (all_at (back_at at e hold) e.back)
        (past_later (at + e.delay) until (d.events ++ failing_events at e) (omega (arith, within)) before_past)
        (at_past (back_at at e hold) until e.back within))

    -- and those of the case are the last
    pub are_last : (until : ℕ) → back_at at e hold ≤ until → 0 < hold
        → AreLast (at + e.delay) (back_at at e hold) 0 (events_by until whole.events)
    are_last until within some =
        let k = failing_split in record {
          others = d.events ++ k.others;
          first = k.first;
          more = k.more;
          second = timed_at (back_at at e hold) has.last;
          rest = all_at (back_at at e hold) has.rest;
          are = all_by until whole.events (all_past until within)
              ∙ whole_events
              ∙ (λ i. (d.events ++ k.are i) ++ all_at (back_at at e hold) (has.back_is i))
              ∙ in_front d.events k.others k.first k.more (timed_at (back_at at e hold) has.last)
              (all_at (back_at at e hold) has.rest);
          past = both_past (at + e.delay) d.events k.others
              (past_later at (at + e.delay) d.events (omega arith) past) k.past;
          more_past = k.more_past;
          rest_past = at_past (back_at at e hold) (back_at at e hold) has.rest (omega arith);
          first_at = k.first_at;
          second_at = refl;
          order = omega (arith, some);
          early = omega arith;
        }
