-- Events, one after another.
use Rattle.std.proofs.Common.{◌≡◌, ℕ, nat_le, Bool, true, false, List, [], ◌∷◌, ◌++◌, Option, inl, inr, refl, sym, subst, append_assoc, append-nil}
use Rattle.gptp_links.specs.declared.bounds.Bounds.{Bounds}
use Rattle.gptp_scenario.specs.declared.change.Timed.{Timed}
use Rattle.gptp_model.specs.declared.done.Done.{Done}
use Rattle.gptp_model.specs.Advancing.{Told}
use Rattle.gptp_model.specs.Course.{WasDone}
use Rattle.gptp_model.specs.Sound.{HaveTheirSetups}
use Rattle.gptp_model.specs.World.{WorldState}
use Rattle.gptp_model.proofs.StayLemmas.{Stays, done_stays, same_stays, stays_on, stays_setups}
use Rattle.gptp_network.specs.Document.{DocumentState}
use Rattle.gptp_network.specs.Snapshot.{events_by}
use Rattle.gptp_report.specs.Following.{BreaksAbout, BreaksSeen, MakesIf}
use Rattle.gptp_world.specs.Observing.{Observed, TellsAct}
use Rattle.gptp_report.specs.Run.{Goes, GoesSoFar, LeadsSoFar, LeadsTo}
use Rattle.gptp_world.specs.Following.{Follows, PassesSeen}
use Rattle.gptp_report.specs.Transitions.{Breaks, Courses, CoursesSoFar, Makes, Passes, PassesTo, ActTrace, transition}
use Rattle.gptp_world.proofs.FollowLemmas.{observed_more, observed_none, observed_one}

-- ---- what stays

module _ {F : Type 0} (answers : Bounds → ℕ → F → Option ℕ → F → Type 0) where
  passes_stay : (until : ℕ) (ts : List ActTrace) (fate fate_after : F) (w w' : WorldState) → HaveTheirSetups w
      → Passes answers until ts fate fate_after w w' → Stays w w'
  passes_stay until [] fate fate_after w w' setups (same, is) = subst (Stays w) (sym is) (same_stays w setups)
  passes_stay until (t ∷ ts) fate fate_after w w' setups (drawn, is, happens, rest) =
      let first = done_stays answers t.told.timed fate drawn w t.after t.told.done setups happens.was_done in
      stays_on w t.after w' first
      (passes_stay until ts drawn fate_after t.after w' (stays_setups w t.after first) rest)

  -- what goes on to a time leaves each system with its parameters
  pub passed_stays : (until : ℕ) (ts : List ActTrace) (fate fate_after : F) (w w' : WorldState) → HaveTheirSetups w
      → PassesTo answers until ts fate fate_after w w' → Stays w w'
  passed_stays until ts fate fate_after w w' setups k =
      let stays = passes_stay until ts fate fate_after w k.between setups k.passes in
      subst (Stays w) (sym k.is) (record { stations = stays.stations; links = stays.links })

  -- so does an event
  made_stays : (event : Timed) (ts : List ActTrace) (fate fate_after : F) (w w' : WorldState) → HaveTheirSetups w
      → Makes answers event ts fate fate_after w w' → Stays w w'
  made_stays event ts fate fate_after w w' setups k =
      let first = passed_stays event.at k.first fate k.drawn w k.between setups k.passes in
      stays_on w k.between w' first
      (done_stays answers event k.drawn fate_after k.between w' k.done (stays_setups w k.between first) k.made)

  pub made_if_stays : (due : Bool) (event : Timed) (ts : List ActTrace) (fate fate_after : F) (w w' : WorldState)
      → HaveTheirSetups w → MakesIf answers due event ts fate fate_after w w' → Stays w w'
  made_if_stays true event ts fate fate_after w w' setups k = made_stays event ts fate fate_after w w' setups k
  made_if_stays false event ts fate fate_after w w' setups (none, same, is) =
      subst (Stays w) (sym is) (same_stays w setups)

-- ---- where it breaks off

module _ {F O : Type 0} (answers : Bounds → ℕ → F → Option ℕ → F → Type 0)
    (tells : Told → WorldState → O → O → List (List ℕ) → Type 0) where
  pub breaks_seen : (until : ℕ) (fate fate_after : F) (w w' : WorldState) (o o_after : O) (So : List ℕ → Type 0)
      → Follows answers tells until fate fate_after w w' o o_after So → BreaksSeen answers tells until fate w o So
  breaks_seen until fate fate_after w w' o o_after So follows = record {
    ts = follows.ts;
    o_after = o_after;
    breaks = record { fate_after = fate_after; after = w'; passes = follows.passes };
    observed = follows.observed;
  }

-- ---- one event

module _ {F O : Type 0} (answers : Bounds → ℕ → F → Option ℕ → F → Type 0)
    (tells : Told → WorldState → O → O → List (List ℕ) → Type 0) where
  -- it is made after what is due by its time
  pub makes_seen : (event : Timed) (done : Done) (fate drawn fate_after : F) (w between w' : WorldState)
      (o mid o_after : O) (First Second Both : List ℕ → Type 0)
      → ((one two : List ℕ) → First one → Second two → Both (one ++ two))
      → PassesSeen answers tells event.at fate drawn w between o mid First
      → WasDone answers event drawn fate_after between w' done
      → TellsAct tells (record { timed = event; done = done }) w' mid o_after Second
      → (ts : List ActTrace) × Makes answers event ts fate fate_after w w' × Observed tells ts o o_after Both
  makes_seen event done fate drawn fate_after w between w' o mid o_after First Second Both both passes was told =
      let last = transition event done between w' in (
        passes.ts ++ last ∷ [],
        record {
          first = passes.ts;
          drawn = drawn;
          between = between;
          passes = passes.passes;
          done = done;
          made = was;
          are = refl;
        },
        observed_more tells passes.ts (last ∷ []) o mid o_after First Second Both both passes.observed
            (observed_one tells last mid o_after Second told),
      )

-- ---- events one after another

module _ {F O : Type 0} (answers : Bounds → ℕ → F → Option ℕ → F → Type 0)
    (tells : Told → WorldState → O → O → List (List ℕ) → Type 0) where
  -- The world went on with some events; with those that are left it goes on with all, or breaks off among all.
  pub record WentSoFar (until : ℕ) (events left : List Timed) (fate drawn : F) (w between : WorldState) (o mid : O)
      (So : List ℕ → Type 0) : Type 0 where
    pub ts : List ActTrace
    pub more : (rest : List ActTrace) (fate_after : F) (w' : WorldState)
        → Courses answers until (events_by until left) rest drawn fate_after between w'
        → Courses answers until (events_by until events) (ts ++ rest) fate fate_after w w'
    pub breaks : (rest : List ActTrace) → CoursesSoFar answers until (events_by until left) rest drawn between
        → CoursesSoFar answers until (events_by until events) (ts ++ rest) fate w
    pub observed : Observed tells ts o mid So

  pub went_none : (until : ℕ) (events : List Timed) (fate : F) (w : WorldState) (o : O) (So : List ℕ → Type 0) → So []
      → WentSoFar until events events fate fate w w o o So
  went_none until events fate w o So so = record {
    ts = [];
    more = λ rest fate_after w' courses. courses;
    breaks = λ rest breaks. breaks;
    observed = observed_none tells o So so;
  }

  -- one event more goes before those that are left, if it is due
  next_event : (due : Bool) (until : ℕ) (event : Timed) (left : List Timed) (first rest : List ActTrace)
      (drawn next fate_after : F) (between after w' : WorldState) → nat_le event.at until ≡ due
      → MakesIf answers due event first drawn next between after
      → Courses answers until (events_by until left) rest next fate_after after w'
      → Courses answers until (events_by until (event ∷ left)) (first ++ rest) drawn fate_after between w'
  next_event true until event left first rest drawn next fate_after between after w' is makes courses =
      rw is (first, rest, next, after, makes, courses, refl)
  next_event false until event left first rest drawn next fate_after between after w' is (none, same, stays) courses =
      rw (is, none) (subst (λ f. Courses answers until (events_by until left) rest f fate_after between w') same
      (subst (λ x. Courses answers until (events_by until left) rest next fate_after x w') stays courses))

  -- so it does where it breaks off after it
  next_breaks : (due : Bool) (until : ℕ) (event : Timed) (left : List Timed) (first rest : List ActTrace)
      (drawn next : F) (between after : WorldState) → nat_le event.at until ≡ due
      → MakesIf answers due event first drawn next between after
      → CoursesSoFar answers until (events_by until left) rest next after
      → CoursesSoFar answers until (events_by until (event ∷ left)) (first ++ rest) drawn between
  next_breaks true until event left first rest drawn next between after is makes breaks =
      rw is (inr (first, rest, next, after, makes, breaks, refl))
  next_breaks false until event left first rest drawn next between after is (none, same, stays) breaks =
      rw (is, none) (subst (λ f. CoursesSoFar answers until (events_by until left) rest f between) same
      (subst (λ x. CoursesSoFar answers until (events_by until left) rest next x) stays breaks))

  pub went_more : (until : ℕ) (events : List Timed) (event : Timed) (left : List Timed) (fate drawn next : F)
      (w between after : WorldState) (o mid o_after : O) (First Second Both : List ℕ → Type 0)
      (first : List ActTrace)
      → ((one two : List ℕ) → First one → Second two → Both (one ++ two))
      → WentSoFar until events (event ∷ left) fate drawn w between o mid First
      → MakesIf answers (nat_le event.at until) event first drawn next between after
      → Observed tells first mid o_after Second
      → WentSoFar until events left fate next w after o o_after Both
  went_more until events event left fate drawn next w between after o mid o_after First Second Both first both so_far
      makes seen =
      record {
        ts = so_far.ts ++ first;
        more = λ rest fate_after w' courses. rw append_assoc (so_far.more (first ++ rest) fate_after w'
            (next_event (nat_le event.at until) until event left first rest drawn next fate_after between after w' refl
            makes courses));
        breaks = λ rest breaks. rw append_assoc (so_far.breaks (first ++ rest)
            (next_breaks (nat_le event.at until) until event left first rest drawn next between after refl makes
            breaks));
        observed = observed_more tells so_far.ts first o mid o_after First Second Both both so_far.observed seen;
      }

  -- with the time after the last event
  pub went_all : (until : ℕ) (events : List Timed) (fate drawn fate_after : F) (w between w' : WorldState)
      (o mid o_after : O) (First Second Both : List ℕ → Type 0)
      → ((one two : List ℕ) → First one → Second two → Both (one ++ two))
      → WentSoFar until events [] fate drawn w between o mid First
      → PassesSeen answers tells until drawn fate_after between w' mid o_after Second
      → (ts : List ActTrace) × Courses answers until (events_by until events) ts fate fate_after w w'
      × Observed tells ts o o_after Both
  went_all until events fate drawn fate_after w between w' o mid o_after First Second Both both all passes = (
    all.ts ++ passes.ts,
    all.more passes.ts fate_after w' passes.passes,
    observed_more tells all.ts passes.ts o mid o_after First Second Both both all.observed passes.observed,
  )

  -- nothing has happened yet when it breaks off
  breaks_at_once : (until : ℕ) (events : List Timed) (fate : F) (w : WorldState)
      → CoursesSoFar answers until events [] fate w
  breaks_at_once until [] fate w = record { fate_after = fate; after = w; passes = (refl, refl) }
  breaks_at_once until (event ∷ events) fate w =
      inl (record { fate_after = fate; after = w; passes = (refl, refl) })

  -- it breaks off about the next event, which is due
  about_event : (until : ℕ) (event : Timed) (left : List Timed) (rest : List ActTrace) (drawn : F)
      (between : WorldState) → nat_le event.at until ≡ true → BreaksAbout answers event rest drawn between
      → CoursesSoFar answers until (events_by until (event ∷ left)) rest drawn between
  about_event until event left rest drawn between due (inl breaks) = rw due (inl breaks)
  about_event until event left rest drawn between due (inr (next, after, makes)) =
      rw due (inr (
        rest,
        [],
        next,
        after,
        makes,
        breaks_at_once until (events_by until left) next after,
        sym (append-nil rest),
      ))

  pub went_to_event : (until : ℕ) (events : List Timed) (event : Timed) (left : List Timed) (fate drawn : F)
      (w between : WorldState) (o mid o_after : O) (First Second Both : List ℕ → Type 0) (rest : List ActTrace)
      → ((one two : List ℕ) → First one → Second two → Both (one ++ two))
      → WentSoFar until events (event ∷ left) fate drawn w between o mid First
      → nat_le event.at until ≡ true → BreaksAbout answers event rest drawn between
      → Observed tells rest mid o_after Second
      → (ts : List ActTrace) × (last : O) × CoursesSoFar answers until (events_by until events) ts fate w
      × Observed tells ts o last Both
  went_to_event until events event left fate drawn w between o mid o_after First Second Both rest both so_far due
      breaks seen = (
        so_far.ts ++ rest,
        o_after,
        so_far.breaks rest (about_event until event left rest drawn between due breaks),
        observed_more tells so_far.ts rest o mid o_after First Second Both both so_far.observed seen,
      )

  -- or after the last
  pub went_to_end : (until : ℕ) (events : List Timed) (fate drawn : F) (w between : WorldState) (o mid o_after : O)
      (First Second Both : List ℕ → Type 0) (rest : List ActTrace)
      → ((one two : List ℕ) → First one → Second two → Both (one ++ two))
      → WentSoFar until events [] fate drawn w between o mid First
      → Breaks answers until rest drawn between → Observed tells rest mid o_after Second
      → (ts : List ActTrace) × (last : O) × CoursesSoFar answers until (events_by until events) ts fate w
      × Observed tells ts o last Both
  went_to_end until events fate drawn w between o mid o_after First Second Both rest both all breaks seen = (
    all.ts ++ rest,
    o_after,
    all.breaks rest breaks,
    observed_more tells all.ts rest o mid o_after First Second Both both all.observed seen,
  )

module _ {F : Type 0} (answers : Bounds → ℕ → F → Option ℕ → F → Type 0) where
  -- what goes on to its end goes on so far
  goes_so_far : (until : ℕ) (events : List Timed) (told : List Told) (fate fate_after : F) (w w' : WorldState)
      → Goes answers until events told fate fate_after w w' → GoesSoFar answers until events told fate w
  goes_so_far until [] told fate fate_after w w' advanced =
      record { fate_after = fate_after; after = advanced.between; advances = advanced.advances }
  goes_so_far until (event ∷ events) told fate fate_after w w' (first, rest, drawn, between, changed, goes, is) =
      inr (first, rest, drawn, between, changed, goes_so_far until events rest drawn fate_after between w' goes, is)

  pub led_so_far : (d : DocumentState) (until : ℕ) (frames : Bool) (fate : F) (w : WorldState)
      (lines : List (List ℕ)) → LeadsTo answers d until frames fate w lines
      → LeadsSoFar answers d until frames fate lines
  led_so_far d until frames fate w lines leads = record {
    told = leads.told;
    started = leads.plays.started;
    start = leads.plays.start;
    begun = leads.plays.begun;
    goes = goes_so_far until (events_by until d.events) leads.told leads.plays.started leads.plays.drawn
        leads.plays.start w leads.plays.goes;
    shows = leads.shows;
  }
