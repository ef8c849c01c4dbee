-- A run up to a time begins with the run up to each earlier time.
use Rattle.std.proofs.Common.{◌≡◌, ◌⊎◌, inl, inr, ◌<◌, ◌≤◌, ◌+◌, ℕ, Bool, true, false, cond, nat_le, List, [], ◌∷◌, ◌++◌, Option, refl, sym, ap, subst, arith}
use Rattle.std.proofs.lemmas.Bool.{cases_lt}
use Rattle.std.proofs.lemmas.Bool.Decides.{nat_tests}
use Rattle.std.specs.List.{AllByRecursion}
use Rattle.gptp_lists.specs.Members.{In}
use Rattle.gptp_lists.proofs.SystemSpecLemmas.{In-left, In-parts, In-right}
use Rattle.gptp_links.specs.declared.bounds.Bounds.{Bounds}
use Rattle.gptp_scenario.specs.declared.change.Timed.{Timed}
use Rattle.gptp_model.specs.Acts.{at}
use Rattle.gptp_model.specs.Advancing.{Happens}
use Rattle.gptp_model.specs.Initial.{initial}
use Rattle.gptp_model.specs.Pending.{NothingBefore}
use Rattle.gptp_model.specs.World.{WorldState}
use Rattle.gptp_model.proofs.AdvanceLemmas.{nothing_sooner}
use Rattle.gptp_world.specs.Transitions.{Passes, PassesTo, ActTrace, transition}
use Rattle.gptp_network.specs.Document.{DocumentState}
use Rattle.gptp_network.specs.Snapshot.{events_by}
use Rattle.gptp_report.specs.Transitions.{Courses, Makes, Unfolds}
use Rattle.gptp_invariants.proofs.WorldOutlineLemmas.{acts_time, starts_are_last}
use Rattle.gptp_theorem.specs.PlayedLaws.{IsMade}
use Rattle.gptp_theorem.proofs.BeginLemmas.{begun_stands}
use Rattle.gptp_theorem.proofs.SettlingInvariantLemmas.{events_made}
use Rattle.gptp_settling_time.specs.Documents.{RunsBeginSo}

-- ---- events

abbrev pub IsBy : ℕ → Timed → Type 0
IsBy until event = event.at ≤ until

-- events up to a time are no later
pub all_by : (until : ℕ) (events : List Timed) → AllByRecursion (IsBy until) (events_by until events)
all_by until [] = tt
all_by until (event ∷ events) = by (nat_le event.at until) refl (all_by until events)
  where
    by : (soon : Bool) → nat_le event.at until ≡ soon → AllByRecursion (IsBy until) (events_by until events)
        → AllByRecursion (IsBy until) (cond soon (event ∷ events_by until events) (events_by until events))
    by true test rest = let is : event.at ≤ until = grind (arith, nat_tests) in (is, rest)
    by false test rest = rest

-- those of them up to an earlier time are all that are
sooner_by : (early until : ℕ) (events : List Timed) → early ≤ until
    → events_by early (events_by until events) ≡ events_by early events
sooner_by early until [] less = refl
sooner_by early until (event ∷ events) less =
    by (nat_le event.at until) (nat_le event.at early) refl refl (sooner_by early until events less)
  where
    by : (soon sooner : Bool) → nat_le event.at until ≡ soon → nat_le event.at early ≡ sooner
        → events_by early (events_by until events) ≡ events_by early events
        → events_by early (cond soon (event ∷ events_by until events) (events_by until events))
        ≡ cond sooner (event ∷ events_by early events) (events_by early events)
    by true true f g rest = rw g (ap (λ es. event ∷ es) rest)
    by true false f g rest = rw g rest
    by false true f g rest =
        let late : until < event.at = grind (arith, nat_tests) in
        let soon : event.at ≤ early = grind (arith, nat_tests) in
        absurd (omega (arith, late, soon, less))
    by false false f g rest = rest

module _ {F : Type 0} (answers : Bounds → ℕ → F → Option ℕ → F → Type 0) where
  -- ---- times

  -- an act is done at its time
  done_at : (until : ℕ) (t : ActTrace) (fate drawn : F) (w : WorldState)
      → Happens answers until t.told fate drawn w t.after → t.after.time ≡ t.told.timed.at
  done_at until t fate drawn w happens =
      let timed = t.told.timed in let was = happens.was_done in
      acts_time timed.act (at timed.at w) was.draws t.told.done t.after was.acts

  made_at : (event : Timed) (first : List ActTrace) (fate drawn : F) (w between : WorldState)
      → (k : Makes answers event first fate drawn w between) → between.time ≡ event.at
  made_at event first fate drawn w between k =
      acts_time event.act (at event.at k.between) k.made.draws k.done between k.made.acts

  -- no act is earlier than the world in which it passes
  passes_later : (until : ℕ) (ts : List ActTrace) (fate fate_after : F) (w w' : WorldState)
      → Passes answers until ts fate fate_after w w' → (u : ActTrace) → In u ts → w.time ≤ u.told.timed.at
  passes_later until [] fate fate_after w w' k u member = absurd member
  passes_later until (t ∷ ts) fate fate_after w w' (drawn, before, happens, rest) u (inl same) =
      subst (λ (v : ActTrace). w.time ≤ v.told.timed.at) (sym same) happens.was_done.ready.timely.now
  passes_later until (t ∷ ts) fate fate_after w w' (drawn, before, happens, rest) u (inr behind) =
      let later = passes_later until ts drawn fate_after t.after w' rest u behind in
      let time = done_at until t fate drawn w happens in
      let now = happens.was_done.ready.timely.now in
      omega (arith, later, time, now)

  -- and none is later than that by which it is to pass
  passes_sooner : (until : ℕ) (ts : List ActTrace) (fate fate_after : F) (w w' : WorldState)
      → Passes answers until ts fate fate_after w w' → (u : ActTrace) → In u ts → u.told.timed.at ≤ until
  passes_sooner until [] fate fate_after w w' k u member = absurd member
  passes_sooner until (t ∷ ts) fate fate_after w w' (drawn, before, happens, rest) u (inl same) =
      subst (λ (v : ActTrace). v.told.timed.at ≤ until) (sym same) happens.early
  passes_sooner until (t ∷ ts) fate fate_after w w' (drawn, before, happens, rest) u (inr behind) =
      passes_sooner until ts drawn fate_after t.after w' rest u behind

  -- so it is where an event is made
  record IsWithin (from to : ℕ) (u : ActTrace) : Type 0 where
    later : from ≤ u.told.timed.at
    sooner : u.told.timed.at ≤ to

  makes_within : (event : Timed) (ts : List ActTrace) (fate fate_after : F) (w w' : WorldState)
      → Makes answers event ts fate fate_after w w' → (u : ActTrace) → In u ts → IsWithin w.time event.at u
  makes_within event ts fate fate_after w w' k u member =
      elim (In-parts u k.first (transition event k.done k.between w' ∷ []) (subst (In u) k.are member)) [
        | inl passed ↦ record {
          later = passes_later event.at k.first fate k.drawn w k.passes.between k.passes.passes u passed;
          sooner = passes_sooner event.at k.first fate k.drawn w k.passes.between k.passes.passes u passed;
        }
        | inr made ↦ elim made [ inl same ↦ subst (IsWithin w.time event.at) (sym same) last | inr none ↦ absurd none ]
      ]
    where
      now : event.at ≤ event.at
      now = omega arith

      last : IsWithin w.time event.at (transition event k.done k.between w')
      last = record { later = k.passes.ahead; sooner = now }

  courses_later : (until : ℕ) (events : List Timed) (ts : List ActTrace) (fate fate_after : F) (w w' : WorldState)
      → AllByRecursion IsMade events → Courses answers until events ts fate fate_after w w' → (u : ActTrace)
      → In u ts → w.time ≤ u.told.timed.at
  courses_later until [] ts fate fate_after w w' is k u member =
      passes_later until ts fate fate_after w k.between k.passes u member
  courses_later until (event ∷ events) ts fate fate_after w w' is (first, rest, drawn, between, k, on, split) u member =
      elim (In-parts u first rest (subst (In u) split member)) [
        | inl here ↦ (makes_within event first fate drawn w between k u here).later
        | inr behind ↦
            let later = courses_later until events rest drawn fate_after between w' is.1 on u behind in
            let time = made_at event first fate drawn w between k in
            let ahead = k.passes.ahead in
            omega (arith, later, time, ahead)
      ]

  courses_sooner : (until : ℕ) (events : List Timed) (ts : List ActTrace) (fate fate_after : F) (w w' : WorldState)
      → AllByRecursion (IsBy until) events → Courses answers until events ts fate fate_after w w' → (u : ActTrace)
      → In u ts → u.told.timed.at ≤ until
  courses_sooner until [] ts fate fate_after w w' are k u member =
      passes_sooner until ts fate fate_after w k.between k.passes u member
  courses_sooner until (event ∷ events) ts fate fate_after w w' are (first, rest, drawn, between, k, on, split) u
      member =
      elim (In-parts u first rest (subst (In u) split member)) [
        | inl here ↦
            let sooner = (makes_within event first fate drawn w between k u here).sooner in
            let soon = are.0 in
            omega (arith, sooner, soon)
        | inr behind ↦ courses_sooner until events rest drawn fate_after between w' are.1 on u behind
      ]

  -- no event of a course is earlier than the world in which it begins
  none_by : (early until : ℕ) (events : List Timed) (ts : List ActTrace) (fate fate_after : F) (w w' : WorldState)
      → AllByRecursion IsMade events → Courses answers until events ts fate fate_after w w' → early < w.time
      → events_by early events ≡ []
  none_by early until [] ts fate fate_after w w' is k late = refl
  none_by early until (event ∷ events) ts fate fate_after w w' is (first, rest, drawn, between, k, on, split) late =
      let time = made_at event first fate drawn w between k in
      let ahead = k.passes.ahead in
      by (nat_le event.at early) refl
      (none_by early until events rest drawn fate_after between w' is.1 on (omega (arith, time, ahead, late)))
    where
      by : (soon : Bool) → nat_le event.at early ≡ soon → events_by early events ≡ []
          → cond soon (event ∷ events_by early events) (events_by early events) ≡ []
      by true test none =
          let soon : event.at ≤ early = grind (arith, nat_tests) in
          let ahead = k.passes.ahead in
          absurd (omega (arith, soon, ahead, late))
      by false test none = none

  -- ---- cuts

  module _ (early : ℕ) where
    -- what passes by then, with each act that is done by then
    record IsCut (ts : List ActTrace) (fate : F) (w : WorldState) : Type 0 where
      first : List ActTrace
      drawn : F
      after : WorldState
      to : PassesTo answers early first fate drawn w after
      all : (u : ActTrace) → In u ts → u.told.timed.at ≤ early → In u first

    cut_passes : (until : ℕ) (ts : List ActTrace) (fate fate_after : F) (w w' : WorldState) → w.time ≤ early
        → early ≤ until → Passes answers until ts fate fate_after w w' → NothingBefore (until + 1) w'.net.pending
        → IsCut ts fate w
    cut_passes until [] fate fate_after w w' ahead less (same, is) none = record {
      first = [];
      drawn = fate;
      after = at early w;
      to = record {
        ahead = ahead;
        between = w;
        passes = (refl, refl);
        nothing_left = nothing_sooner (early + 1) (until + 1) w.net.pending (omega (arith, less))
            (subst (λ (v : WorldState). NothingBefore (until + 1) v.net.pending) is none);
        is = refl;
      };
      all = λ u member soon. absurd member;
    }
    cut_passes until (t ∷ ts) fate fate_after w w' ahead less (drawn, before, happens, rest) none =
        by (cases_lt early t.told.timed.at)
        (λ now. cut_passes until ts drawn fate_after t.after w' now less rest none)
      where
        time : t.after.time ≡ t.told.timed.at
        time = done_at until t fate drawn w happens

        by : (early < t.told.timed.at) ⊎ (t.told.timed.at ≤ early) → (t.after.time ≤ early → IsCut ts drawn t.after)
            → IsCut (t ∷ ts) fate w
        by (inl late) more = record {
          first = [];
          drawn = fate;
          after = at early w;
          to = record {
            ahead = ahead;
            between = w;
            passes = (refl, refl);
            nothing_left = nothing_sooner (early + 1) t.told.timed.at w.net.pending (omega (arith, late))
                happens.was_done.ready.timely.first;
            is = refl;
          };
          all = λ u member soon. elim member [
            | inl same ↦
                let again : t.told.timed.at ≤ early =
                subst (λ (v : ActTrace). v.told.timed.at ≤ early) same soon in
                absurd (omega (arith, again, late))
            | inr behind ↦
                let later = passes_later until ts drawn fate_after t.after w' rest u behind in
                absurd (omega (arith, later, time, late, soon))
          ];
        }
        by (inr soon) more =
            let sub = more (omega (arith, time, soon)) in
            record {
              first = t ∷ sub.first;
              drawn = sub.drawn;
              after = sub.after;
              to = record {
                ahead = ahead;
                between = sub.to.between;
                passes = (
                  drawn,
                  before,
                  record { next = happens.next; early = soon; was_done = happens.was_done },
                  sub.to.passes,
                );
                nothing_left = sub.to.nothing_left;
                is = sub.to.is;
              };
              all = λ u member by_then. elim member [
                | inl same ↦ inl same
                | inr behind ↦ inr (sub.all u behind by_then)
              ];
            }

    -- what goes on with events by then
    record IsCourse (events : List Timed) (ts : List ActTrace) (fate : F) (w : WorldState) : Type 0 where
      first : List ActTrace
      drawn : F
      after : WorldState
      courses : Courses answers early (events_by early events) first fate drawn w after
      all : (u : ActTrace) → In u ts → u.told.timed.at ≤ early → In u first

    cut_courses : (until : ℕ) (events : List Timed) (ts : List ActTrace) (fate fate_after : F) (w w' : WorldState)
        → early ≤ until → AllByRecursion IsMade events → Courses answers until events ts fate fate_after w w'
        → w.time ≤ early → IsCourse events ts fate w
    cut_courses until [] ts fate fate_after w w' less is k ahead =
        let cut = cut_passes until ts fate fate_after w k.between ahead less k.passes k.nothing_left in
        record { first = cut.first; drawn = cut.drawn; after = cut.after; courses = cut.to; all = cut.all }
    cut_courses until (event ∷ events) ts fate fate_after w w' less is (first, rest, drawn, between, k, on, split)
        ahead =
        by (nat_le event.at early) refl
        (λ now. cut_courses until events rest drawn fate_after between w' less is.1 on now)
      where
        time : between.time ≡ event.at
        time = made_at event first fate drawn w between k

        by : (soon : Bool) → nat_le event.at early ≡ soon → (between.time ≤ early → IsCourse events rest drawn between)
            → IsCourse (event ∷ events) ts fate w
        by true test more =
            let soon : event.at ≤ early = grind (arith, nat_tests) in
            let sub = more (omega (arith, time, soon)) in
            let kept : events_by early (event ∷ events) ≡ event ∷ events_by early events = rw test refl in
            record {
              first = first ++ sub.first;
              drawn = sub.drawn;
              after = sub.after;
              courses = subst (λ es. Courses answers early es (first ++ sub.first) fate sub.drawn w sub.after)
                  (sym kept) (first, sub.first, drawn, between, k, sub.courses, refl);
              all = λ u member by_then. elim (In-parts u first rest (subst (In u) split member)) [
                | inl here ↦ In-left u first sub.first here
                | inr behind ↦ In-right u first sub.first (sub.all u behind by_then)
              ];
            }
        by false test more =
            let late : early < event.at = grind (arith, nat_tests) in
            let none : events_by early events ≡ [] =
            none_by early until events rest drawn fate_after between w' is.1 on (omega (arith, time, late)) in
            let kept : events_by early (event ∷ events) ≡ [] = rw test none in
            let cut = cut_passes event.at k.first fate k.drawn w k.passes.between ahead (omega (arith, late))
            k.passes.passes k.passes.nothing_left in
            record {
              first = cut.first;
              drawn = cut.drawn;
              after = cut.after;
              courses = subst (λ es. Courses answers early es cut.first fate cut.drawn w cut.after) (sym kept) cut.to;
              all = λ u member by_then. elim (In-parts u first rest (subst (In u) split member)) [
                | inl here ↦ elim (In-parts u k.first (transition event k.done k.between between ∷ [])
                    (subst (In u) k.are here)) [
                      | inl passed ↦ cut.all u passed by_then
                      | inr made ↦ elim made [
                        | inl same ↦
                            let again : event.at ≤ early =
                            subst (λ (v : ActTrace). v.told.timed.at ≤ early) same by_then in
                            absurd (omega (arith, again, late))
                        | inr nobody ↦ absurd nobody
                      ]
                    ]
                | inr behind ↦
                    let later = courses_later until events rest drawn fate_after between w' is.1 on u behind in
                    absurd (omega (arith, later, time, late, by_then))
              ];
            }

  -- ---- runs

  -- no act of a run is later than its end
  pub acts_by : (d : DocumentState) (until : ℕ) (fate : F) (first w : WorldState) (ts : List ActTrace)
      → Unfolds answers d until fate first ts w → (u : ActTrace) → In u ts → u.told.timed.at ≤ until
  acts_by d until fate first w ts k u member =
      courses_sooner until (events_by until d.events) ts k.started k.drawn first w (all_by until d.events) k.courses u
      member

  pub runs_begin_so : RunsBeginSo answers
  runs_begin_so d until early fate first w ts playable k less =
      let starts = starts_are_last _ (initial d.network) k.begun.draws first refl k.begun.starts in
      let none = (begun_stands answers d.network fate k.started first k.begun).last in
      let ahead : first.time ≤ early = omega (arith, starts, none) in
      let cut = cut_courses early until (events_by until d.events) ts k.started k.drawn first w less
      (events_made d until playable.network playable.events) k.courses ahead in (
        cut.first,
        cut.after,
        record {
          started = k.started;
          begun = k.begun;
          drawn = cut.drawn;
          courses = subst (λ es. Courses answers early es cut.first k.started cut.drawn first cut.after)
              (sooner_by early until d.events less) cut.courses;
        },
        cut.all,
      )
