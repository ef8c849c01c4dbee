-- Where a document unfolds, its stretches pass one after another.
use Rattle.std.proofs.Common.{◌≡◌, ◌≢◌, ◌≤◌, ◌<◌, ◌+◌, ℕ, zero, suc, Bool, nat_le, nat_lt, List, [], ◌∷◌, ◌++◌, length, Option, refl, sym, ap, subst, ◌∙◌, arith}
use Rattle.gptp_model.specs.Acts.{at}
use Rattle.gptp_model.specs.Pending.{NothingBefore}
use Rattle.gptp_model.specs.World.{WorldState}
use Rattle.gptp_links.specs.declared.bounds.Bounds.{Bounds}
use Rattle.gptp_network.specs.Document.{DocumentState}
use Rattle.gptp_network.specs.Events.{AreEvents, AreInOrder}
use Rattle.gptp_network.specs.Snapshot.{events_by}
use Rattle.gptp_scenario.specs.declared.change.Timed.{Timed}
use Rattle.gptp_world.specs.Transitions.{PassesTo, ActTrace, transition}
use Rattle.gptp_report.specs.Transitions.{Courses, Makes}
use Rattle.gptp_accuracy.specs.declared.errors.TimeErrors.{TimeErrors}
use Rattle.gptp_accuracy.specs.Settlings.{settling_of}
use Rattle.gptp_timeline.specs.Timeline.{AllPass, AreErrorsIf, StretchTrace, end_before, later_than, now_of}
use Rattle.gptp_timeline.proofs.EventLemmas.{all_now, fewer_later, filter_in_order}
use Rattle.gptp_timeline.proofs.UnfoldLemmas.{now_and_later}

module _ {F : Type 0} (answers : Bounds → ℕ → F → Option ℕ → F → Type 0) where
  -- ---- two parts of what happens

  -- where all that is due by a time has happened, nothing more does by then
  nothing_more : (until : ℕ) (ts : List ActTrace) (fate drawn : F) (w between : WorldState)
      → PassesTo answers until ts fate drawn w between → PassesTo answers until [] drawn drawn between between
  nothing_more until ts fate drawn w between k = record {
    ahead = let now : between.time ≡ until = ap (λ (v : WorldState). v.time) k.is in omega (arith, now);
    between = between;
    passes = (refl, refl);
    nothing_left = subst (λ (v : WorldState). NothingBefore (until + 1) v.net.pending) (sym k.is) k.nothing_left;
    is = k.is ∙ sym (ap (at until) k.is);
  }

  -- so an event is made at once after what is due by its time
  made_at_once : (event : Timed) (ts : List ActTrace) (fate fate_after : F) (w w' : WorldState)
      (k : Makes answers event ts fate fate_after w w')
      → Makes answers event (transition event k.done k.between w' ∷ []) k.drawn fate_after k.between w'
  made_at_once event ts fate fate_after w w' k = record {
    first = [];
    drawn = k.drawn;
    between = k.between;
    passes = nothing_more event.at k.first fate k.drawn w k.between k.passes;
    done = k.done;
    made = k.made;
    are = refl;
  }

  -- what happens with some events and others after them: up to the time of the first of the others, and from then on
  record HaveParts (until : ℕ) (events : List Timed) (event : Timed) (later : List Timed) (fate fate_after : F)
      (w w' : WorldState) : Type 0 where
    front : List ActTrace
    back : List ActTrace
    middle : F
    world : WorldState
    begins : Courses answers event.at events front fate middle w world
    ends : Courses answers until (event ∷ later) back middle fate_after world w'

  have_parts : (until : ℕ) (events : List Timed) (event : Timed) (later : List Timed) (ts : List ActTrace)
      (fate fate_after : F) (w w' : WorldState)
      → Courses answers until (events ++ event ∷ later) ts fate fate_after w w'
      → HaveParts until events event later fate fate_after w w'
  have_parts until [] event later ts fate fate_after w w' (first, rest, drawn, between, makes, courses, is) = record {
    front = makes.first;
    back = transition event makes.done makes.between between ∷ rest;
    middle = makes.drawn;
    world = makes.between;
    begins = makes.passes;
    ends = (
      transition event makes.done makes.between between ∷ [],
      rest,
      drawn,
      between,
      made_at_once event first fate drawn w between makes,
      courses,
      refl,
    );
  }
  have_parts until (e ∷ es) event later ts fate fate_after w w' (first, rest, drawn, between, makes, courses, is) =
      let k = have_parts until es event later rest drawn fate_after between w' courses in record {
        front = first ++ k.front;
        back = k.back;
        middle = k.middle;
        world = k.world;
        begins = (first, k.front, drawn, between, makes, k.begins, refl);
        ends = k.ends;
      }

  -- ---- all stretches

  module _ (exact : Bool) (d : DocumentState) (until : ℕ) where
    -- several stretches that pass from a time on
    pub record HavePassed (from : ℕ) (events : List Timed) (fate fate_after : F) (w w' : WorldState) : Type 0 where
      pub first : StretchTrace
      pub others : List StretchTrace
      pub pass : AllPass answers exact d until from events fate fate_after w w' (first ∷ others)

    -- whatever happens with events, it is stretches that pass
    abbrev CanPass : ℕ → List Timed → Type 0
    CanPass from events = (ts : List ActTrace) (fate fate_after : F) (w w' : WorldState)
        → Courses answers until events ts fate fate_after w w' → HavePassed from events fate fate_after w w'

    module _ (errors : (at to : ℕ) → (errors : Option TimeErrors) × AreErrorsIf exact d at to errors) where
      abbrev passage : ℕ → ℕ → List Timed → List ActTrace → WorldState → StretchTrace
      passage from to events acts after = record {
        from = from;
        to = to;
        events = events;
        acts = acts;
        after = after;
        settling = settling_of d from;
        errors = (errors from to).0;
      }

      -- the stretch after which no event comes
      last_passes : (from : ℕ) (events : List Timed) → later_than from events ≡ [] → CanPass from events
      last_passes from events none ts fate fate_after w w' courses = record {
        first = passage from until events ts w';
        others = [];
        pass = (
          record {
            from_is = refl;
            to_is = sym (ap (end_before until) none);
            events_are = sym (all_now from events none);
            courses = courses;
            settling_is = refl;
            errors_are = (errors from until).1;
          },
          none,
          refl,
        );
      }

      -- a stretch, and others after it
      more_pass : (from : ℕ) (events : List Timed) (e : Timed) (es : List Timed) → AreInOrder events
          → later_than from events ≡ e ∷ es → CanPass e.at (e ∷ es) → CanPass from events
      more_pass from events e es order later next ts fate fate_after w w' courses =
          let parts : now_of from events ++ e ∷ es ≡ events =
          ap (λ xs. now_of from events ++ xs) (sym later) ∙ now_and_later from events order in
          let k : HaveParts until (now_of from events) e es fate fate_after w w' =
          have_parts until (now_of from events) e es ts fate fate_after w w'
          (subst (λ xs. Courses answers until xs ts fate fate_after w w') (sym parts) courses) in
          let some : later_than from events ≢ [] = λ none.
          let clash : e ∷ es ≡ [] = sym later ∙ none in absurd cc in
          let rest : HavePassed e.at (e ∷ es) k.middle fate_after k.world w' =
          next k.back k.middle fate_after k.world w' k.ends in record {
            first = passage from e.at (now_of from events) k.front k.world;
            others = rest.first ∷ rest.others;
            pass = (
              k.middle,
              record {
                from_is = refl;
                to_is = sym (ap (end_before until) later);
                events_are = refl;
                courses = k.begins;
                settling_is = refl;
                errors_are = (errors from e.at).1;
              },
              some,
              subst (λ xs. AllPass answers exact d until e.at xs k.middle fate_after k.world w'
                  (rest.first ∷ rest.others)) (sym later) rest.pass,
            );
          }

      -- by which events come later
      by_later : (from : ℕ) (events left : List Timed) → AreInOrder events → later_than from events ≡ left
          → ((e : Timed) (es : List Timed) → left ≡ e ∷ es → CanPass e.at (e ∷ es)) → CanPass from events
      by_later from events [] order is next = last_passes from events is
      by_later from events (e ∷ es) order is next = more_pass from events e es order is (next e es refl)

      all_pass : (count from : ℕ) (events : List Timed) → AreInOrder events → length (later_than from events) ≤ count
          → CanPass from events
      all_pass zero from events order few =
          by_later from events (later_than from events) order refl
          (λ e es is. absurd (let many : length (later_than from events) ≡ length (e ∷ es) = ap length is in
          omega (arith, few, many)))
      all_pass (suc count) from events order few =
          by_later from events (later_than from events) order refl
          (λ e es is.
          let many : length (later_than from events) ≡ length (e ∷ es) = ap length is in
          let fewer : length (later_than e.at (e ∷ es)) < length (e ∷ es) = fewer_later (e ∷ es) e.at refl in
          let ordered : AreInOrder (e ∷ es) =
          subst AreInOrder is (filter_in_order (λ (x : Timed). nat_lt from x.at) events order) in
          all_pass count e.at (e ∷ es) ordered (omega (arith, few, many, fewer)))

      -- the events of a document can be passed
      pub document_passes : AreEvents d.network d.events → CanPass 0 (events_by until d.events)
      document_passes events =
          let order = filter_in_order (λ (e : Timed). nat_le e.at until) d.events events.in_order in
          all_pass (length (later_than 0 (events_by until d.events))) 0 (events_by until d.events) order (omega arith)
