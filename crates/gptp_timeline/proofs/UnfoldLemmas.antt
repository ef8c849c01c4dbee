-- Stretches that pass one after another are one run.
use Rattle.std.proofs.Common.{◌≡◌, ◌≢◌, ◌+◌, ℕ, true, false, Bool, nat_le, nat_lt, List, [], ◌∷◌, ◌++◌, map, Option, refl, sym, ap, subst, ◌∙◌, append_assoc, append-nil, arith}
use Rattle.std.proofs.lemmas.Bool.Decides.{nat_tests}
use Rattle.gptp_model.specs.Acts.{at}
use Rattle.gptp_model.specs.Advancing.{Told}
use Rattle.gptp_model.specs.Pending.{NothingBefore}
use Rattle.gptp_model.specs.World.{WorldState}
use Rattle.gptp_model.proofs.AdvanceLemmas.{next_not_before}
use Rattle.gptp_links.specs.declared.bounds.Bounds.{Bounds}
use Rattle.gptp_network.specs.Document.{DocumentState}
use Rattle.gptp_network.specs.Events.{AreEvents, AreInOrder}
use Rattle.gptp_network.specs.Snapshot.{events_by}
use Rattle.gptp_scenario.specs.declared.change.Timed.{Timed}
use Rattle.gptp_report.specs.Run.{Goes, PlaysRun}
use Rattle.gptp_world.specs.Transitions.{Passes, PassesTo, ActTrace, transition}
use Rattle.gptp_report.specs.Transitions.{Courses, Makes, Unfolds}
use Rattle.gptp_world.proofs.FollowLemmas.{passes_advances}
use Rattle.gptp_timeline.specs.Laws.{all_acts}
use Rattle.gptp_timeline.specs.Timeline.{AllPass, end_before, later_than, now_of, StretchTrace, TimelineOf}
use Rattle.gptp_timeline.specs.declared.timeline.TimelineOptions.{TimelineOptions}
use Rattle.gptp_timeline.proofs.EventLemmas.{all_now, filter_in_order, not_before_first, NotBefore, rest_in_order}

-- ---- the events of a stretch come before the later ones

none_now : (time : ℕ) (x : Timed) (xs : List Timed) → nat_lt time x.at ≡ true → NotBefore x.at xs
    → (now_of time xs ≡ []) × (later_than time xs ≡ xs)
none_now time x [] later not = (refl, refl)
none_now time x (y ∷ ys) later not =
    let first = not.0 in
    let late : nat_lt time y.at ≡ true = grind (arith, nat_tests) in
    let early : nat_le y.at time ≡ false = grind (arith, nat_tests) in
    let rest = none_now time x ys later not.1 in
    (rw early rest.0, rw late (ap (λ zs. y ∷ zs) rest.1))

pub now_and_later : (time : ℕ) (xs : List Timed) → AreInOrder xs → now_of time xs ++ later_than time xs ≡ xs
now_and_later time [] order = refl
now_and_later time (x ∷ xs) order = by (nat_lt time x.at) refl (now_and_later time xs (rest_in_order x xs order))
  where
    by : (t : Bool) → nat_lt time x.at ≡ t → now_of time xs ++ later_than time xs ≡ xs
        → now_of time (x ∷ xs) ++ later_than time (x ∷ xs) ≡ x ∷ xs
    by true late rest =
        let early : nat_le x.at time ≡ false = grind (arith, nat_tests) in
        let none = none_now time x xs late (not_before_first x xs order) in
        rw (early, late, none.0) (ap (λ zs. x ∷ zs) none.1)
    by false late rest =
        let early : nat_le x.at time ≡ true = grind (arith, nat_tests) in
        rw (early, late) (ap (λ zs. x ∷ zs) rest)

module _ {F : Type 0} (answers : Bounds → ℕ → F → Option ℕ → F → Type 0) where
  -- ---- one stretch after another

  -- where nothing is due by a time, nothing passes by then
  record NonePass (ts : List ActTrace) (fate fate_after : F) (w w' : WorldState) : Type 0 where
    none : ts ≡ []
    fate_is : fate_after ≡ fate
    is : w' ≡ w

  none_pass : (until : ℕ) (ts : List ActTrace) (fate fate_after : F) (w w' : WorldState)
      → NothingBefore (until + 1) w.net.pending → Passes answers until ts fate fate_after w w'
      → NonePass ts fate fate_after w w'
  none_pass until [] fate fate_after w w' nothing (same, is) = record { none = refl; fate_is = same; is = is }
  none_pass until (t ∷ ts) fate fate_after w w' nothing (drawn, before, happens, rest) =
      let next = happens.next in let early = happens.early in
      let late = next_not_before (until + 1) w.net.pending t.told.timed.at next.item next.next nothing in
      absurd (omega (arith, early, late))

  -- after what is due by the time of an event that event is made, where it seemed that nothing was due
  makes_behind : (event : Timed) (ts us : List ActTrace) (fate drawn fate_after : F) (w between w' : WorldState)
      → PassesTo answers event.at ts fate drawn w between → Makes answers event us drawn fate_after between w'
      → Makes answers event (ts ++ us) fate fate_after w w'
  makes_behind event ts us fate drawn fate_after w between w' passes makes =
      let nothing : NothingBefore (event.at + 1) between.net.pending =
      subst (λ (v : WorldState). NothingBefore (event.at + 1) v.net.pending) (sym passes.is) passes.nothing_left in
      let none = none_pass event.at makes.first drawn makes.drawn between makes.passes.between nothing
      makes.passes.passes in
      let same : makes.between ≡ between =
      makes.passes.is ∙ ap (at event.at) (none.is ∙ passes.is) ∙ sym passes.is in
      record {
        first = ts;
        drawn = makes.drawn;
        between = makes.between;
        passes = subst (λ (v : WorldState). PassesTo answers event.at ts fate makes.drawn w v) (sym same)
            (subst (λ (f : F). PassesTo answers event.at ts fate f w between) (sym none.fate_is) passes);
        done = makes.done;
        made = makes.made;
        are = ap (λ xs. ts ++ xs) makes.are
            ∙ ap (λ xs. ts ++ (xs ++ transition event makes.done makes.between w' ∷ [])) none.none;
      }

  -- a stretch that ends at the time of the next event, and what begins with that
  pub courses_on : (until : ℕ) (events : List Timed) (event : Timed) (later : List Timed) (ts us : List ActTrace)
      (fate drawn fate_after : F) (w between w' : WorldState)
      → Courses answers event.at events ts fate drawn w between
      → Courses answers until (event ∷ later) us drawn fate_after between w'
      → Courses answers until (events ++ event ∷ later) (ts ++ us) fate fate_after w w'
  courses_on until [] event later ts us fate drawn fate_after w between w' passes
      (first, rest, next, after, makes, courses, is) = (
        ts ++ first,
        rest,
        next,
        after,
        makes_behind event ts first fate drawn next w between after passes makes,
        courses,
        ap (λ xs. ts ++ xs) is ∙ sym (append_assoc ts first rest),
      )
  courses_on until (e ∷ es) event later ts us fate drawn fate_after w between w'
      (first, rest, next, after, makes, courses, is) more = (
        first,
        rest ++ us,
        next,
        after,
        makes,
        courses_on until es event later rest us next drawn fate_after after between w' courses more,
        ap (λ xs. xs ++ us) is ∙ append_assoc first rest us,
      )

  -- ---- all stretches

  module _ (d : DocumentState) (until : ℕ) where
    -- where others come after a stretch
    on : (from : ℕ) (events later : List Timed) (acts us : List ActTrace) (to : ℕ) (fate drawn fate_after : F)
        (w between w' : WorldState) → later ≢ [] → to ≡ end_before until later
        → Courses answers to events acts fate drawn w between
        → Courses answers until later us drawn fate_after between w'
        → Courses answers until (events ++ later) (acts ++ us) fate fate_after w w'
    on from events [] acts us to fate drawn fate_after w between w' some is courses more = absurd (some refl)
    on from events (e ∷ es) acts us to fate drawn fate_after w between w' some is courses more =
        courses_on until events e es acts us fate drawn fate_after w between w'
        (subst (λ t. Courses answers t events acts fate drawn w between) is courses) more

    pub all_course : (passages : List StretchTrace) (from : ℕ) (events : List Timed) (fate fate_after : F)
        (w w' : WorldState) → AreInOrder events
        → AllPass answers true d until from events fate fate_after w w' passages
        → Courses answers until events (all_acts passages) fate fate_after w w'
    all_course [] from events fate fate_after w w' order pass = absurd pass
    all_course (p ∷ []) from events fate fate_after w w' order (passage, none, is) =
        let now : p.events ≡ events = passage.events_are ∙ all_now from events none in
        let last : p.to ≡ until = passage.to_is ∙ ap (end_before until) none in
        subst (λ es. Courses answers until es (p.acts ++ []) fate fate_after w w') now
        (subst (λ t. Courses answers t p.events (p.acts ++ []) fate fate_after w w') last
        (subst (λ (v : WorldState). Courses answers p.to p.events (p.acts ++ []) fate fate_after w v) (sym is)
        (subst (λ ts. Courses answers p.to p.events ts fate fate_after w p.after) (sym (append-nil p.acts))
        passage.courses)))
    all_course (p ∷ (q ∷ qs)) from events fate fate_after w w' order (drawn, passage, some, rest) =
        let later = later_than from events in
        let more = all_course (q ∷ qs) p.to later drawn fate_after p.after w'
        (filter_in_order (λ (e : Timed). nat_lt from e.at) events order) rest in
        let both = on from p.events later p.acts (all_acts (q ∷ qs)) p.to fate drawn fate_after w p.after w' some
        passage.to_is passage.courses more in
        subst (λ es. Courses answers until es (all_acts (p ∷ (q ∷ qs))) fate fate_after w w')
        (ap (λ es. es ++ later) passage.events_are ∙ now_and_later from events order) both

  -- ---- what is told meanwhile

  pub courses_go : (until : ℕ) (events : List Timed) (ts : List ActTrace) (fate fate_after : F) (w w' : WorldState)
      → Courses answers until events ts fate fate_after w w'
      → (told : List Told) × Goes answers until events told fate fate_after w w'
  courses_go until [] ts fate fate_after w w' k = (
    map (λ (t : ActTrace). t.told) ts,
    record {
      ahead = k.ahead;
      between = k.between;
      advances = passes_advances answers until ts fate fate_after w k.between k.passes;
      nothing_left = k.nothing_left;
      is = k.is;
    },
  )
  courses_go until (event ∷ events) ts fate fate_after w w' (first, rest, drawn, between, makes, courses, is) =
      let more = courses_go until events rest drawn fate_after between w' courses in
      let before = map (λ (t : ActTrace). t.told) makes.first in (
        before ++ more.0,
        (
          before,
          more.0,
          drawn,
          between,
          record {
            drawn = makes.drawn;
            between = makes.between;
            advanced = record {
              ahead = makes.passes.ahead;
              between = makes.passes.between;
              advances = passes_advances answers event.at makes.first fate makes.drawn w makes.passes.between
                  makes.passes.passes;
              nothing_left = makes.passes.nothing_left;
              is = makes.passes.is;
            };
            done = makes.done;
            changed = makes.made;
          },
          more.1,
          refl,
        ),
      )

  -- ---- a timeline

  module _ (d : DocumentState) (until : ℕ) (options : TimelineOptions) (fate : F) (lines : List (List ℕ))
      (exceeded : Bool) (t : TimelineOf answers d until options fate lines exceeded)
      (events : AreEvents d.network d.events) where
    course : Courses answers until (events_by until d.events) (all_acts t.passages) t.started t.fate_after t.start
        t.after
    course =
        all_course d until t.passages 0 (events_by until d.events) t.started t.fate_after t.start t.after
        (filter_in_order (λ (e : Timed). nat_le e.at until) d.events events.in_order) t.pass

    pub timeline_unfolds : Unfolds answers d until fate t.start (all_acts t.passages) t.after
    timeline_unfolds = record { started = t.started; begun = t.begun; drawn = t.fate_after; courses = course }

    pub timeline_plays : (told : List Told) × PlaysRun answers d until fate told t.after
    timeline_plays =
        let goes = courses_go until (events_by until d.events) (all_acts t.passages) t.started t.fate_after t.start
        t.after
        course in (
          goes.0,
          record { started = t.started; start = t.start; begun = t.begun; drawn = t.fate_after; goes = goes.1 },
        )
