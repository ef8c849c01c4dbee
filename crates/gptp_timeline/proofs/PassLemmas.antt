-- Stretches that pass one after another, and the observer between them.
use Rattle.std.proofs.Common.{◌≡◌, ◌==◌, ◌≤◌, ℕ, zero, suc, Bool, true, false, not, length, None, arith, List, [], ◌∷◌, ◌++◌, Option, Some, Result, Ok, Err, inl, inr, refl, sym, ap, subst, ◌∙◌, append_assoc, append-nil}
use Rattle.std.specs.List.{AllByRecursion}
use Rattle.std.specs.Prelude.{IfErr, IfOk, OnOk}
use Rattle.std.proofs.lemmas.Bool.Decides.{nat_tests}
use Rattle.gptp_model.specs.Sound.{HaveTheirSetups}
use Rattle.gptp_model.specs.World.{WorldState}
use Rattle.gptp_model.proofs.StayLemmas.{stays_on, stays_setups, Stays}
use Rattle.gptp_links.specs.declared.bounds.Bounds.{Bounds}
use Rattle.gptp_network.specs.Document.{DocumentState}
use Rattle.gptp_network.specs.Snapshot.{events_by}
use Rattle.gptp_scenario.specs.declared.change.Timed.{Timed}
use Rattle.gptp_world.specs.Observing.{Observed, Tells}
use Rattle.gptp_world.specs.Transitions.{ActTrace}
use Rattle.gptp_report.specs.Transitions.{Courses, CoursesSoFar}
use Rattle.gptp_report.proofs.RunLemmas.{made_if_stays, passed_stays}
use Rattle.gptp_sink.specs.declared.cut.Cut.{Cut}
use Rattle.gptp_sink.specs.declared.cut.Cut.TheVariants.{Memory, Write}
use Rattle.gptp_words.specs.Lines.{text_of}
use Rattle.gptp_timeline.specs.Ends.{EndState}
use Rattle.gptp_timeline.specs.Keepers.{keepers_among}
use Rattle.gptp_timeline.specs.LastStretches.{all_kept, carry_begun, carry_over, CarriedAside, end_in, end_of, kept_after}
use Rattle.gptp_timeline.specs.Passing.{AllAreSeen, EarlierAreSeen, first_time, StretchIsSeen, IsSeenSoFar, OneIsSeen, Standing, StopsBetween, StopsSeen}
use Rattle.gptp_timeline.specs.Stretch.{roots_of, shown_of_all}
use Rattle.gptp_timeline.specs.StretchText.{after_line, ended_stretch}
use Rattle.gptp_timeline.specs.Timeline.{acts_lines, all_lines, AllPass, AreErrorsIf, asks_lines, carry, end_before, end_lines, ended_of, exact_time, is_begun, kept_accuracy, IsPassage, IsTimelinePlan, later_than, line_of_times, now_of, passage_lines, reads_kept, SomePass, StretchTrace, times_ended}
use Rattle.gptp_timeline.specs.Watch.{watch_begun, tells_changes, WatchState}
use Rattle.gptp_timeline.specs.declared.keepers.Keeper.{Keeper}
use Rattle.gptp_timeline.specs.declared.limits.Limits.{Limits}
use Rattle.gptp_timeline.specs.declared.ends.StretchesSoFar.{StretchesSoFar}
use Rattle.gptp_timeline.specs.declared.looks.TimeMeasures.{TimeMeasures}
use Rattle.gptp_timeline.specs.declared.measures.Measures.{Measures}
use Rattle.gptp_timeline.specs.declared.stretch.Stretch.{Stretch}
use Rattle.gptp_timeline.specs.declared.timeline.Plan.{Plan}
use Rattle.gptp_timeline.specs.declared.timeline.TimelineOptions.{TimelineOptions}
use Rattle.gptp_timeline.specs.declared.watched.Watched.{Watched}
use Rattle.gptp_timeline.proofs.EventLemmas.{ends_before, ends_later, some_left}
use Rattle.gptp_timeline.proofs.LineLemmas.{line_on, lines_on}
use Rattle.gptp_timeline.proofs.StretchesSoFarLemmas.{nobody_begun, nobody_next, nobody_over_it, over_all, over_one}
use Rattle.gptp_timeline.proofs.ObservedLemmas.{broken_told, end_is, end_told, ended_with, IsOfPlan, Observes, Rests, stretch_begins, stretch_passes, stretch_rests, stretch_told}

-- ---- answers

-- what follows where a call answers Ok
pub if_ok_both : {X E : Type 0} (result : Result X E) (P : X → Type 0) (Q : Type 0) (R : X → Type 0)
    → ((x : X) → P x → Q → R x) → IfOk result P → OnOk result Q → IfOk result R
if_ok_both (Ok x) P Q R follows p q = follows x p q
if_ok_both (Err e) P Q R follows p q = tt

-- a call that breaks off otherwise than by a write had no memory
pub memory_alone : (e : Cut) → (e ≡ Write → ⊥) → e ≡ Memory
memory_alone Memory no_write = refl
memory_alone Write no_write = absurd (no_write refl)

pub memory_else : {X : Type 0} (result : Result X Cut) → (result ≡ Err Write → ⊥) → IfErr result (λ e. e ≡ Memory)
memory_else (Ok x) no_write = tt
memory_else (Err e) no_write = memory_alone e (λ is. no_write (ap Err is))

-- a stretch begins with an event where there is one
pub begun_is : (events : List Timed) (empty : Bool) → empty ≡ (length events == 0) → not empty ≡ is_begun events
begun_is [] empty is = rw is refl
begun_is (e ∷ es) empty is = let some : length (e ∷ es) == 0 ≡ false = grind (arith, nat_tests) in rw (is, some) refl

-- none is there where no number is
pub none_there : (o : Option ℕ) → ((x : ℕ) → o ≡ Some x → ⊥) → o ≡ None
none_there None no_other = refl
none_there (Some x) no_other = absurd (no_other x refl)

-- what a new text holds to which some was appended
pub appended_text : (empty after octets text : List ℕ) → empty ≡ [] → after ≡ empty ++ text → octets ≡ after
    → octets ≡ text
appended_text empty after octets text none added same = same ∙ added ∙ ap (λ b. b ++ text) none

-- what became of a stretch, and how it ended
abbrev ended_by_plan : Plan → Measures → List Watched → Option TimeMeasures → Stretch
ended_by_plan plan = ended_stretch plan.from plan.to plan.begins_with_event plan.settling

module _ (plan : Plan) (w : WorldState) (o : WatchState) (s : Stretch) (m : Measures) (xs : List Watched)
    (times : Option TimeMeasures) (is : s ≡ ended_by_plan plan m xs times) (measures : m ≡ o.measures)
    (systems : xs ≡ o.systems) (read : times ≡ times_ended plan.to w o.times) where
  stretch_is : s ≡ ended_of plan w o
  stretch_is =
      is ∙ ap (λ k. ended_by_plan plan k xs times) measures
      ∙ ap (λ ys. ended_by_plan plan o.measures ys times) systems
      ∙ ap (ended_by_plan plan o.measures o.systems) read

  pub end_made : (ys zs : List Watched) (roots : List ℕ) (keepers : List Keeper) (e : EndState)
      → roots ≡ roots_of (shown_of_all ys) → ys ≡ o.systems → keepers ≡ keepers_among zs → zs ≡ o.systems
      → e ≡ record { stretch = s; roots = roots; keepers = keepers } → e ≡ end_of plan w o
  end_made ys zs roots keepers e followed also who too made =
      made ∙ ap (λ t. ended_with t roots keepers) stretch_is
      ∙ ap (λ rs. ended_with (ended_of plan w o) rs keepers)
      (followed ∙ ap (λ (vs : List Watched). roots_of (shown_of_all vs)) also)
      ∙ ap (ended_with (ended_of plan w o) (roots_of (shown_of_all o.systems)))
      (who ∙ ap (λ (vs : List Watched). keepers_among vs) too)

  -- the lines where a stretch ends
  pub end_text : (asked : Bool) (empty one two after octets : List ℕ) → asked ≡ asks_lines o.times → empty ≡ []
      → one ≡ empty ++ (after_line s ++ 10 ∷ []) → two ≡ one ++ text_of (line_of_times asked s s.times)
      → after ≡ two ++ text_of (kept_accuracy (reads_kept plan.to w o.times) o.systems plan.errors) → octets ≡ after
      → octets ≡ text_of (end_lines plan w o)
  end_text asked empty one two after octets asks none line times_line rest same =
      let exact = kept_accuracy (reads_kept plan.to w o.times) o.systems plan.errors in
      let behind : after ≡ one ++ text_of (line_of_times asked s s.times ++ exact) =
      lines_on one two after (line_of_times asked s s.times) exact times_line rest in
      appended_text empty after octets (text_of (end_lines plan w o)) none
      (line_on empty one after (after_line s) (line_of_times asked s s.times ++ exact) line behind
      ∙ ap (λ (t : Stretch). empty ++ text_of (after_line t ∷ (line_of_times asked t t.times ++ exact))) stretch_is
      ∙ ap (λ a. empty ++ text_of (after_line (ended_of plan w o)
      ∷ (line_of_times a (ended_of plan w o) (ended_of plan w o).times ++ exact))) asks) same

-- ---- the acts of a stretch

module _ {F : Type 0} (answers : Bounds → ℕ → F → Option ℕ → F → Type 0) where
  -- they leave each system with its clock and its parameters
  pub courses_stay : (until : ℕ) (events : List Timed) (ts : List ActTrace) (fate fate_after : F) (w w' : WorldState)
      → HaveTheirSetups w → Courses answers until events ts fate fate_after w w' → Stays w w'
  courses_stay until [] ts fate fate_after w w' setups k = passed_stays answers until ts fate fate_after w w' setups k
  courses_stay until (e ∷ es) ts fate fate_after w w' setups (first, rest, drawn, between, makes, courses, is) =
      let one = made_if_stays answers true e first fate drawn w between setups makes in
      stays_on w between w' one
      (courses_stay until es rest drawn fate_after between w' (stays_setups w between one) courses)

  -- none was done yet
  pub none_done : (until : ℕ) (events : List Timed) (fate : F) (w : WorldState)
      → CoursesSoFar answers until events [] fate w
  none_done until [] fate w = record { fate_after = fate; after = w; passes = (refl, refl) }
  none_done until (e ∷ es) fate w = inl (record { fate_after = fate; after = w; passes = (refl, refl) })

-- ---- several stretches

-- none of some stretches, and of one more, began later than a time
begun_by : (from to : ℕ) (ps : List StretchTrace) (p : StretchTrace) → from ≤ to → p.from ≤ to
    → AllByRecursion (λ (q : StretchTrace). q.from ≤ from) ps
    → AllByRecursion (λ (q : StretchTrace). q.from ≤ to) (ps ++ p ∷ [])
begun_by from to [] p less last begun = (last, tt)
begun_by from to (q ∷ qs) p less last begun =
    let first = begun.0 in (omega (arith, first, less), begun_by from to qs p less last begun.1)

module _ {F : Type 0} (answers : Bounds → ℕ → F → Option ℕ → F → Type 0) (exact : Bool) (d : DocumentState) (until : ℕ)
    (options : TimelineOptions) (names : List ℕ) (start : Standing F) (first : CarriedAside)
  where
    -- nobody is set aside
    abbrev Nobody : Type 0
    Nobody = first.aside.clocks ≡ []

    -- Stretches passed from the start on; the next begins at a time with the events that are left.
    pub record Gone (from : ℕ) (left : List Timed) (drawn : F) (between : WorldState) (kept : StretchesSoFar)
        (c : CarriedAside) (lines : List (List ℕ)) : Type 0 where
      pub passages : List StretchTrace
      pub more : (q : StretchTrace) (qs : List StretchTrace) (fate_after : F) (w' : WorldState)
          → AllPass answers exact d until from left drawn fate_after between w' (q ∷ qs)
          → AllPass answers exact d until start.from start.left start.fate fate_after start.world w'
          (passages ++ q ∷ qs)
      pub some : (qs : List StretchTrace) (ts : List ActTrace)
          → SomePass answers exact d until from left drawn between qs ts
          → SomePass answers exact d until start.from start.left start.fate start.world (passages ++ qs) ts
      pub begin : AllByRecursion (λ (p : StretchTrace). p.from ≤ from) passages
      pub over : c ≡ over_all passages first
      pub nobody : Nobody → c.aside.clocks ≡ []
      pub lines_are : Nobody → (qs : List StretchTrace) (ts : List ActTrace)
          → lines ++ all_lines options names c.carried qs ts
          ≡ all_lines options names first.carried (passages ++ qs) ts
      pub kept_is : (qs : List StretchTrace) → all_kept options.limits names c qs kept
          ≡ all_kept options.limits names first (passages ++ qs) start.kept

    pub gone_none : Gone start.from start.left start.fate start.world start.kept first []
    gone_none = record {
      passages = [];
      more = λ q qs fate_after w' all. all;
      some = λ qs ts some. some;
      begin = tt;
      over = refl;
      nobody = λ none. none;
      lines_are = λ none qs ts. refl;
      kept_is = λ qs. refl;
    }

    -- all stretches passed, to these lines
    pub record AllGone (fate_after : F) (w' : WorldState) (verdict : StretchesSoFar) (all : List (List ℕ)) : Type 0
      where
        pub passages : List StretchTrace
        pub pass : AllPass answers exact d until start.from start.left start.fate fate_after start.world w' passages
        pub verdict_is : verdict ≡ all_kept options.limits names first passages start.kept
        pub are : Nobody → all ≡ all_lines options names first.carried passages []

    -- or some of them did
    pub record SomeGone (some_lines : List (List ℕ)) : Type 0 where
      pub passages : List StretchTrace
      pub acts : List ActTrace
      pub pass : SomePass answers exact d until start.from start.left start.fate start.world passages acts
      pub are : Nobody → some_lines ≡ all_lines options names first.carried passages acts

    -- one stretch more after which another comes
    module _ (from to : ℕ) (left : List Timed) (drawn next : F) (between : WorldState) (kept : StretchesSoFar)
        (c : CarriedAside) (lines : List (List ℕ)) (gone : Gone from left drawn between kept c lines)
        (p : StretchTrace) (told : List (List ℕ)) (told_is : Nobody → told ≡ passage_lines options names c.carried p)
        (passage : IsPassage answers exact d until from left drawn next between p)
        (is : first_time (later_than from left) ≡ Some to) where
      to_is : p.to ≡ to
      to_is = passage.to_is ∙ ends_before until (later_than from left) to is

      behind : (qs : List StretchTrace) → gone.passages ++ p ∷ qs ≡ (gone.passages ++ p ∷ []) ++ qs
      behind qs = sym (append_assoc gone.passages (p ∷ []) qs)

      pub gone_more : Gone to (later_than from left) next p.after
          (kept_after options.limits (end_in names c p) kept) (carry_over p c) (lines ++ told)
      gone_more = record {
        passages = gone.passages ++ p ∷ [];
        more = λ q qs fate_after w' all.
            subst (AllPass answers exact d until start.from start.left start.fate fate_after start.world w')
            (behind (q ∷ qs))
            (gone.more p (q ∷ qs) fate_after w' (
              next,
              passage,
              some_left (later_than from left) to is,
              subst (λ t. AllPass answers exact d until t (later_than from left) next fate_after p.after w' (q ∷ qs))
                  (sym to_is)
                  all,
            ));
        some = λ qs ts rest.
            subst (λ ps. SomePass answers exact d until start.from start.left start.fate start.world ps ts) (behind qs)
            (gone.some (p ∷ qs) ts (
              next,
              passage,
              subst (λ t. SomePass answers exact d until t (later_than from left) next p.after qs ts) (sym to_is) rest,
            ));
        begin = begun_by from to gone.passages p (ends_later from to left is)
            (subst (λ time. time ≤ to) (sym passage.from_is) (ends_later from to left is)) gone.begin;
        over = ap (carry_over p) gone.over ∙ sym (over_one gone.passages p first);
        nobody = λ none. nobody_next p c (gone.nobody none);
        lines_are = λ none qs ts.
            ap (λ carried. (lines ++ told) ++ all_lines options names carried qs ts)
            (nobody_over_it p c (gone.nobody none))
            ∙ ap (λ ls. (lines ++ ls) ++ all_lines options names (carry p.acts c.carried) qs ts) (told_is none)
            ∙ append_assoc lines (passage_lines options names c.carried p)
            (all_lines options names (carry p.acts c.carried) qs ts)
            ∙ gone.lines_are none (p ∷ qs) ts
            ∙ ap (λ ps. all_lines options names first.carried ps ts) (behind qs);
        kept_is = λ qs. gone.kept_is (p ∷ qs)
            ∙ ap (λ ps. all_kept options.limits names first ps start.kept) (behind qs);
      }

    -- the last of them
    module _ (from : ℕ) (left : List Timed) (drawn : F) (between : WorldState) (kept : StretchesSoFar)
        (c : CarriedAside) (lines : List (List ℕ)) (gone : Gone from left drawn between kept c lines) where
      pub gone_all : (p : StretchTrace) (told : List (List ℕ))
          → (Nobody → told ≡ passage_lines options names c.carried p) → (next : F)
          → IsPassage answers exact d until from left drawn next between p → later_than from left ≡ []
          → AllGone next p.after (kept_after options.limits (end_in names c p) kept) (lines ++ told)
      gone_all p told told_is next passage none = record {
        passages = gone.passages ++ p ∷ [];
        pass = gone.more p [] next p.after (passage, none, refl);
        verdict_is = gone.kept_is (p ∷ []);
        are = λ nobody. ap (λ rest. lines ++ rest)
            (told_is nobody ∙ sym (append-nil (passage_lines options names c.carried p)))
            ∙ gone.lines_are nobody (p ∷ []) [];
      }

      lines_of : Nobody → (qs : List StretchTrace) (ts : List ActTrace) (more : List (List ℕ))
          → more ≡ all_lines options names c.carried qs ts
          → lines ++ more ≡ all_lines options names first.carried (gone.passages ++ qs) ts
      lines_of nobody qs ts more are = ap (λ rest. lines ++ rest) are ∙ gone.lines_are nobody qs ts

      some_gone : (qs : List StretchTrace) (ts : List ActTrace) (more : List (List ℕ))
          → SomePass answers exact d until from left drawn between qs ts
          → (Nobody → more ≡ all_lines options names c.carried qs ts) → SomeGone (lines ++ more)
      some_gone qs ts more pass are = record {
        passages = gone.passages ++ qs;
        acts = ts;
        pass = gone.some qs ts pass;
        are = λ nobody. lines_of nobody qs ts more (are nobody);
      }

      -- before anything is known of it
      pub gone_no_further : SomeGone (lines ++ [])
      gone_no_further =
          some_gone [] [] [] (none_done answers (end_before until (later_than from left)) (now_of from left) drawn
          between)
          (λ nobody. refl)

      -- among its acts
      pub gone_on : (ts : List ActTrace) (told : List (List ℕ))
          → CoursesSoFar answers (end_before until (later_than from left)) (now_of from left) ts drawn between
          → (Nobody → told ≡ acts_lines options names c.carried.readings ts) → SomeGone (lines ++ told)
      gone_on ts told courses are = some_gone [] ts told courses are

      -- where it ends
      pub gone_to_end : (p : StretchTrace) (told : List (List ℕ))
          → (Nobody → told ≡ passage_lines options names c.carried p) → (next : F)
          → IsPassage answers exact d until from left drawn next between p → SomeGone (lines ++ told)
      gone_to_end p told told_is next passage =
          some_gone (p ∷ []) [] told (
            next,
            passage,
            none_done answers (end_before until (later_than p.to (later_than from left)))
                (now_of p.to (later_than from left)) next p.after,
          )
          (λ nobody. told_is nobody ∙ sym (append-nil (passage_lines options names c.carried p)))

-- ---- what passed before an observer

-- what passed of a stretch
abbrev pub passage_of : Plan → List Timed → List ActTrace → WorldState → StretchTrace
passage_of plan now acts after = record {
  from = plan.from;
  to = plan.to;
  events = now;
  acts = acts;
  after = after;
  settling = plan.settling;
  errors = plan.errors;
}

module _ {F : Type 0} (answers : Bounds → ℕ → F → Option ℕ → F → Type 0) (exact : Bool) (d : DocumentState)
    (until from to : ℕ) (left : List Timed) (to_is : to ≡ end_before until (later_than from left)) (plan : Plan)
    (known : IsTimelinePlan exact d from to (is_begun (now_of from left)) plan) where
  pub is_passage : (fate fate_after : F) (w w' : WorldState) (acts : List ActTrace)
      → Courses answers plan.to (now_of from left) acts fate fate_after w w'
      → IsPassage answers exact d until from left fate fate_after w (passage_of plan (now_of from left) acts w')
  is_passage fate fate_after w w' acts courses = record {
    from_is = known.from_is;
    to_is = known.to_is ∙ to_is;
    events_are = refl;
    courses = courses;
    settling_is = known.settling_is;
    errors_are = subst (λ t. AreErrorsIf exact d from t plan.errors) (sym known.to_is) known.errors_are;
  }

  pub some_acts : (fate : F) (w : WorldState) (acts : List ActTrace)
      → CoursesSoFar answers plan.to (now_of from left) acts fate w
      → CoursesSoFar answers (end_before until (later_than from left)) (now_of from left) acts fate w
  some_acts fate w acts courses =
      subst (λ t. CoursesSoFar answers t (now_of from left) acts fate w) (known.to_is ∙ to_is) courses

-- an observer sees them, for which the stretch began
module _ {F : Type 0} (answers : Bounds → ℕ → F → Option ℕ → F → Type 0) (plan : Plan) (now : List Timed) (fate : F)
    (w : WorldState) (o mid : WatchState) (mid_is : mid ≡ watch_begun plan.from (exact_time plan.errors) (length now) o)
    (due : events_by plan.to now ≡ now) (ts : List ActTrace) (o_after : WatchState) (So : List ℕ → Type 0)
    (observed : Observed tells_changes ts mid o_after So) where
  tells : Tells tells_changes ts (watch_begun plan.from (exact_time plan.errors) (length now) o) o_after observed.lines
  tells = subst (λ b. Tells tells_changes ts b o_after observed.lines) mid_is observed.are

  pub sees_all : (fate_after : F) (w' : WorldState)
      → Courses answers plan.to (events_by plan.to now) ts fate fate_after w w'
      → StretchIsSeen answers plan now fate fate_after w w' o o_after observed.lines
  sees_all fate_after w' courses = record {
    acts = ts;
    courses = subst (λ es. Courses answers plan.to es ts fate fate_after w w') due courses;
    tells = tells;
  }

  pub sees_some : CoursesSoFar answers plan.to (events_by plan.to now) ts fate w
      → IsSeenSoFar answers plan now fate w o observed.lines
  sees_some courses = record {
    acts = ts;
    o_after = o_after;
    courses = subst (λ es. CoursesSoFar answers plan.to es ts fate w) due courses;
    tells = tells;
  }

-- what is told of them, and the lines where the stretch ends
module _ {F : Type 0} (answers : Bounds → ℕ → F → Option ℕ → F → Type 0) (options : TimelineOptions) (names : List ℕ)
    (c : CarriedAside) (plan : Plan) (now : List Timed) (fate : F) (w : WorldState) (o : WatchState)
    (rests : Rests options names c w o) where
  abbrev from : Option ℕ
  from = exact_time plan.errors

  -- as the stretch begins
  abbrev begun : CarriedAside
  begun = carry_begun plan.from c

  abbrev mid : WatchState
  mid = watch_begun plan.from from (length now) o

  begins : Observes options names begun from (length now) [] w mid
  begins = stretch_begins options names c plan.from from (length now) w o rests

  -- to the end of the stretch
  module _ (fate_after : F) (w' : WorldState) (o_after : WatchState) (told : List (List ℕ))
      (seen : StretchIsSeen answers plan now fate fate_after w w' o o_after told)
      (is_begun_is : plan.begins_with_event ≡ is_begun now) where
    abbrev seen_passage : StretchTrace
    seen_passage = passage_of plan now seen.acts w'

    of_plan : IsOfPlan plan seen_passage
    of_plan = record { from_is = refl; to_is = refl; begins_is = is_begun_is; settling_is = refl; errors_are = refl }

    observes : Observes options names begun from (length now) seen.acts w' o_after
    observes =
        stretch_passes options names begun answers from plan.to now seen.acts fate w mid o_after told begins seen.tells
        fate_after w' seen.courses

    pub seen_end : end_of plan w' o_after ≡ end_in names c (passage_of plan now seen.acts w')
    seen_end = end_is options names begun plan seen_passage of_plan o_after observes

    pub seen_lines : c.aside.clocks ≡ [] → told ++ end_lines plan w' o_after
        ≡ passage_lines options names c.carried (passage_of plan now seen.acts w')
    seen_lines nobody =
        ap (λ front. front ++ end_lines plan w' o_after)
        (stretch_told options names begun answers from plan.to now seen.acts fate w mid o_after told begins seen.tells
        nobody fate_after w' seen.courses)
        ∙ ap (λ rest. acts_lines options names begun.carried.readings seen.acts ++ rest)
        (end_told options names begun plan seen_passage of_plan o_after observes nobody)
        ∙ ap (λ carried. passage_lines options names carried seen_passage) (nobody_begun plan.from c nobody)

    pub seen_rests : Rests options names (carry_over (passage_of plan now seen.acts w') c) w' o_after
    seen_rests = stretch_rests options names begun from (length now) seen.acts w' o_after observes

  -- or so far
  pub seen_so_far : (told : List (List ℕ)) (some : IsSeenSoFar answers plan now fate w o told) → c.aside.clocks ≡ []
      → told ≡ acts_lines options names c.carried.readings some.acts
  seen_so_far told some nobody =
      broken_told options names begun answers from plan.to now some.acts fate w mid some.o_after told begins some.tells
      nobody some.courses
      ∙ ap (λ carried. acts_lines options names carried.readings some.acts) (nobody_begun plan.from c nobody)

-- ---- so many stretches

module _ {F : Type 0} (answers : Bounds → ℕ → F → Option ℕ → F → Type 0) (exact : Bool) (d : DocumentState)
    (limits : Limits) where
  -- with one more
  pub earlier_more : (count : ℕ) (s t u : Standing F) (lines more : List (List ℕ))
      → EarlierAreSeen answers exact d limits count s t lines → OneIsSeen answers exact d limits t u more
      → first_time u.left ≡ Some u.from → EarlierAreSeen answers exact d limits (suc count) s u (lines ++ more)
  earlier_more zero s t u lines more (same, none) one comes = (
    u,
    more,
    [],
    subst (λ x. OneIsSeen answers exact d limits x u more) same one,
    comes,
    (refl, refl),
    ap (λ ls. ls ++ more) none ∙ sym (append-nil more),
  )
  earlier_more (suc count) s t u lines more (v, first, rest, passed, came, others, are) one comes = (
    v,
    first,
    rest ++ more,
    passed,
    came,
    earlier_more count v t u rest more others one comes,
    ap (λ ls. ls ++ more) are ∙ append_assoc first rest more,
  )

-- ---- all stretches before an observer

module _ {F : Type 0} (answers : Bounds → ℕ → F → Option ℕ → F → Type 0) (exact : Bool) (d : DocumentState) (until : ℕ)
    (options : TimelineOptions) (names : List ℕ) (start : Standing F) (first : CarriedAside) where
  -- stretches passed, and the observer is where the next can begin
  pub record GoneSeen (s : Standing F) (lines : List (List ℕ)) : Type 0 where
    pub carried : CarriedAside
    pub gone : Gone answers exact d until options names start first s.from s.left s.fate s.world s.kept carried lines
    pub rests : Rests options names carried s.world s.watch

  seen_none : Rests options names first start.world start.watch → GoneSeen start []
  seen_none rests = record {
    carried = first;
    gone = gone_none answers exact d until options names start first;
    rests = rests;
  }

  -- one more
  module _ (s t : Standing F) (lines more : List (List ℕ)) (so_far : GoneSeen s lines)
      (k : OneIsSeen answers exact d options.limits s t more) where
    abbrev passed : StretchTrace
    passed = passage_of k.plan (now_of s.from s.left) k.seen.acts t.world

    lines_are : first.aside.clocks ≡ [] → more ≡ passage_lines options names so_far.carried.carried passed
    lines_are nobody =
        k.are
        ∙ seen_lines answers options names so_far.carried k.plan (now_of s.from s.left) s.fate s.world s.watch
        so_far.rests t.fate t.world t.watch k.told k.seen k.known.begins_is (so_far.gone.nobody nobody)

    kept_so : t.kept ≡ kept_after options.limits (end_in names so_far.carried passed) s.kept
    kept_so =
        k.kept_is
        ∙ ap (λ e. kept_after options.limits e s.kept)
        (seen_end answers options names so_far.carried k.plan (now_of s.from s.left) s.fate s.world s.watch
        so_far.rests t.fate t.world t.watch k.told k.seen k.known.begins_is)

    passes : t.from ≡ end_before until (later_than s.from s.left)
        → IsPassage answers exact d until s.from s.left s.fate t.fate s.world passed
    passes ends =
        is_passage answers exact d until s.from t.from s.left ends k.plan k.known s.fate t.fate s.world t.world
        k.seen.acts k.seen.courses

    -- and another comes
    seen_more : first_time t.left ≡ Some t.from → GoneSeen t (lines ++ more)
    seen_more comes =
        let is : first_time (later_than s.from s.left) ≡ Some t.from = ap first_time (sym k.left_is) ∙ comes in record {
          carried = carry_over passed so_far.carried;
          gone = subst (λ left. Gone answers exact d until options names start first t.from left t.fate t.world t.kept
              (carry_over passed so_far.carried) (lines ++ more)) (sym k.left_is)
              (subst (λ e. Gone answers exact d until options names start first t.from (later_than s.from s.left)
              t.fate t.world e (carry_over passed so_far.carried) (lines ++ more)) (sym kept_so)
              (gone_more answers exact d until options names start first s.from t.from s.left s.fate t.fate s.world
              s.kept so_far.carried lines so_far.gone passed more lines_are
              (passes (sym (ends_before until (later_than s.from s.left) t.from is))) is));
          rests = seen_rests answers options names so_far.carried k.plan (now_of s.from s.left) s.fate s.world s.watch
              so_far.rests t.fate t.world t.watch k.told k.seen k.known.begins_is;
        }

    -- and it is the last
    seen_last : t.from ≡ until → t.left ≡ []
        → AllGone answers exact d until options names start first t.fate t.world t.kept (lines ++ more)
    seen_last ends none =
        let none_later : later_than s.from s.left ≡ [] = sym k.left_is ∙ none in
        subst (λ e. AllGone answers exact d until options names start first t.fate t.world e (lines ++ more))
        (sym kept_so)
        (gone_all answers exact d until options names start first s.from s.left s.fate s.world s.kept so_far.carried
        lines so_far.gone passed more lines_are t.fate (passes (ends ∙ ap (end_before until) (sym none_later)))
        none_later)

  -- so many
  earlier_seen : (count : ℕ) (s t : Standing F) (before lines : List (List ℕ)) → GoneSeen s before
      → EarlierAreSeen answers exact d options.limits count s t lines → GoneSeen t (before ++ lines)
  earlier_seen zero s t before lines so_far (same, none) =
      subst (λ x. GoneSeen x (before ++ lines)) (sym same)
      (subst (GoneSeen s) (sym (ap (λ ls. before ++ ls) none ∙ append-nil before)) so_far)
  earlier_seen (suc count) s t before lines so_far (u, one, rest, passed, comes, others, are) =
      subst (GoneSeen t) (append_assoc before one rest ∙ ap (λ ls. before ++ ls) (sym are))
      (earlier_seen count u t (before ++ one) rest (seen_more s u before one so_far passed comes) others)

  pub earlier_from : (count : ℕ) (t : Standing F) (lines : List (List ℕ))
      → Rests options names first start.world start.watch
      → EarlierAreSeen answers exact d options.limits count start t lines → GoneSeen t lines
  earlier_from count t lines rests k = earlier_seen count start t [] lines (seen_none rests) k

  -- all of them
  pub all_seen : (t : Standing F) (lines : List (List ℕ)) → Rests options names first start.world start.watch
      → AllAreSeen answers exact d options.limits start t lines → t.from ≡ until
      → AllGone answers exact d until options names start first t.fate t.world t.kept lines
  all_seen t lines rests k ends =
      subst (AllGone answers exact d until options names start first t.fate t.world t.kept) (sym k.are)
      (seen_last k.last t k.before k.more
      (earlier_from k.count k.last k.before rests k.earlier) k.final ends k.none_left)

  -- or it stops
  pub stops_seen : (lines : List (List ℕ)) → Rests options names first start.world start.watch
      → StopsBetween answers exact d options.limits until start lines
      → SomeGone answers exact d until options names start first lines
  stops_seen lines rests k =
      subst (SomeGone answers exact d until options names start first) (sym k.are) (by k.more k.stops)
    where
      s : Standing F
      s = k.last

      so_far : GoneSeen s k.before
      so_far = earlier_from k.count s k.before rests k.earlier

      to : ℕ
      to = end_before until (later_than s.from s.left)

      by : (more : List (List ℕ))
          → StopsSeen answers exact d s.from to (now_of s.from s.left) s.fate s.world s.watch more
          → SomeGone answers exact d until options names start first (k.before ++ more)
      by more (inl none) =
          subst (λ ls. SomeGone answers exact d until options names start first (k.before ++ ls)) (sym none)
          (gone_no_further answers exact d until options names start first s.from s.left s.fate s.world s.kept
          so_far.carried k.before so_far.gone)
      by more (inr (plan, known, inl some)) =
          gone_on answers exact d until options names start first s.from s.left s.fate s.world s.kept so_far.carried
          k.before so_far.gone some.acts more
          (some_acts answers exact d until s.from to s.left refl plan known s.fate s.world some.acts some.courses)
          (λ nobody. seen_so_far answers options names so_far.carried plan (now_of s.from s.left) s.fate s.world
          s.watch so_far.rests more some (so_far.gone.nobody nobody))
      by more (inr (plan, known, inr whole)) =
          gone_to_end answers exact d until options names start first s.from s.left s.fate s.world s.kept
          so_far.carried k.before so_far.gone
          (passage_of plan (now_of s.from s.left) whole.seen.acts whole.after) more
          (λ nobody. whole.are
          ∙ seen_lines answers options names so_far.carried plan (now_of s.from s.left) s.fate s.world s.watch
          so_far.rests whole.fate_after whole.after whole.o_after whole.told whole.seen known.begins_is
          (so_far.gone.nobody nobody)) whole.fate_after
          (is_passage answers exact d until s.from to s.left refl plan known s.fate whole.fate_after s.world whole.after
          whole.seen.acts whole.seen.courses)
