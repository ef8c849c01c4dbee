-- What goes on up to a time, and then to a later one, goes on to that.
use Rattle.std.proofs.Common.{◌≡◌, ◌≤◌, ◌+◌, ℕ, List, [], ◌∷◌, ◌++◌, Option, refl, sym, ap, subst, ◌∙◌, append_assoc, arith}
use Rattle.gptp_links.specs.declared.bounds.Bounds.{Bounds}
use Rattle.gptp_scenario.specs.declared.change.Act.{Act}
use Rattle.gptp_scenario.specs.declared.change.Act.TheVariants.{Change as Changing, Deliver, Expire}
use Rattle.gptp_scenario.specs.declared.change.Change.{Change}
use Rattle.gptp_scenario.specs.declared.change.Change.TheVariants.{LinkDown, LinkUp, LinkSet, Fail, Recover, Priority1, Inject}
use Rattle.gptp_scenario.specs.declared.change.Timed.{Timed}
use Rattle.gptp_model.specs.declared.item.Item.{Item}
use Rattle.gptp_model.specs.declared.item.Item.TheVariants.{Expiry, Arrival}
use Rattle.gptp_model.specs.declared.station.Station.{Station}
use Rattle.gptp_model.specs.Acts.{at, AtSystem, IsDueThen, IsReadyAct, IsThere, IsThereToChange}
use Rattle.gptp_model.specs.Advancing.{Happens, Told}
use Rattle.gptp_model.specs.Pending.{NothingBefore}
use Rattle.gptp_model.specs.Views.{IsActOf}
use Rattle.gptp_model.specs.World.{WorldState}
use Rattle.gptp_invariants.proofs.WorldOutlineLemmas.{acts_time}
use Rattle.gptp_world.proofs.FollowLemmas.{passes-append, passes-later}
use Rattle.gptp_world.specs.Observing.{Tells}
use Rattle.gptp_world.specs.Transitions.{Passes, PassesTo, ActTrace}
use Rattle.gptp_report.specs.Transitions.{Courses}

-- ---- a world and the same at a later time

module _ (now : ℕ) (w : WorldState) where
  at_system : (number : ℕ) (So : ℕ → Station → Type 0) → AtSystem number (at now w) So → AtSystem number w So
  at_system number So k = record {
    place = k.place;
    station = k.station;
    is = record { here = k.is.here; named = k.is.named };
    so = k.so;
  }

  there_to_change : (change : Change) → IsThereToChange change (at now w) → IsThereToChange change w
  there_to_change (LinkDown number port) k = k
  there_to_change (LinkUp number port) k = k
  there_to_change (LinkSet number port min max loss) k = k
  there_to_change (Fail number) k = at_system number _ k
  there_to_change (Recover number) k = at_system number _ k
  there_to_change (Priority1 number value) k = at_system number _ k
  there_to_change (Inject number port octets) k = k

  there : (act : Act) → IsThere act (at now w) → IsThere act w
  there (Deliver link direction) k = k
  there (Expire name timer) k = at_system name _ k
  there (Changing change) k = there_to_change change k

  due : (act : Act) (time : ℕ) → IsDueThen act time (at now w) → IsDueThen act time w
  due (Deliver link direction) time k = k
  due (Expire name timer) time k = at_system name _ k
  due (Changing change) time k = tt

  -- what is ready at the later time is so before
  ready : (act : Act) (time : ℕ) → w.time ≤ now → IsReadyAct act time (at now w) → IsReadyAct act time w
  ready act time early k =
      let late = k.timely.now in record {
        timely = record { now = omega (arith, early, late); first = k.timely.first };
        there = there act k.there;
        due = due act time k.due;
      }

  act_of : (item : Item) (act : Act) → IsActOf item (at now w) act → IsActOf item w act
  act_of (Arrival link direction) act k = k
  act_of (Expiry place timer) act k = k

  happens : {F : Type 0} (answers : Bounds → ℕ → F → Option ℕ → F → Type 0) (until : ℕ) (told : Told)
      (fate fate_after : F) (w' : WorldState) → w.time ≤ now
      → Happens answers until told fate fate_after (at now w) w' → Happens answers until told fate fate_after w w'
  happens answers until told fate fate_after w' early k = record {
    next = record { item = k.next.item; next = k.next.next; act = act_of k.next.item told.timed.act k.next.act };
    early = k.early;
    was_done = record {
      ready = ready told.timed.act told.timed.at early k.was_done.ready;
      draws = k.was_done.draws;
      drawn = k.was_done.drawn;
      acts = k.was_done.acts;
    };
  }

-- ---- acts from a world on

-- the first of them is done in this world
abbrev pub begun_in : WorldState → List ActTrace → List ActTrace
begun_in w [] = []
begun_in w (t ∷ ts) = record t { before = w } ∷ ts

-- an observer tells the same of them
pub begun_told : {O : Type 0} (tells : Told → WorldState → O → O → List (List ℕ) → Type 0) (w : WorldState)
    (ts : List ActTrace) (o o_after : O) (lines : List (List ℕ)) → Tells tells ts o o_after lines
    → Tells tells (begun_in w ts) o o_after lines
begun_told tells w [] o o_after lines told = told
begun_told tells w (t ∷ ts) o o_after lines told = told

module _ {F : Type 0} (answers : Bounds → ℕ → F → Option ℕ → F → Type 0) where
  -- acts that pass by a time lead to no later one
  passed_by : (until : ℕ) (ts : List ActTrace) (fate fate_after : F) (w w' : WorldState) → w.time ≤ until
      → Passes answers until ts fate fate_after w w' → w'.time ≤ until
  passed_by until [] fate fate_after w w' early (same, is) =
      subst (λ (v : WorldState). v.time ≤ until) (sym is) early
  passed_by until (t ∷ ts) fate fate_after w w' early (drawn, before, k, rest) =
      let timed = t.told.timed in let was = k.was_done in let soon = k.early in
      let time : t.after.time ≡ timed.at =
      acts_time timed.act (at timed.at w) was.draws t.told.done t.after was.acts in
      passed_by until ts drawn fate_after t.after w' (omega (arith, time, soon)) rest

  -- what goes on from a world at a later time goes on from it before
  pub goes_on_before : (now until : ℕ) (ts : List ActTrace) (fate fate_after : F) (w w' : WorldState) → w.time ≤ now
      → PassesTo answers until ts fate fate_after (at now w) w'
      → PassesTo answers until (begun_in w ts) fate fate_after w w'
  goes_on_before now until [] fate fate_after w w' early k =
      let ahead = k.ahead in let (same, is) = k.passes in record {
        ahead = omega (arith, early, ahead);
        between = w;
        passes = (same, refl);
        nothing_left = subst (λ (v : WorldState). NothingBefore (until + 1) v.net.pending) is k.nothing_left;
        is = k.is ∙ ap (at until) is;
      }
  goes_on_before now until (t ∷ ts) fate fate_after w w' early k =
      let ahead = k.ahead in let (drawn, before, first, rest) = k.passes in record {
        ahead = omega (arith, early, ahead);
        between = k.between;
        passes = (drawn, refl, happens now w answers until t.told fate drawn t.after early first, rest);
        nothing_left = k.nothing_left;
        is = k.is;
      }

  -- so it goes on to both times
  passes_on : (now until : ℕ) (ts us : List ActTrace) (fate drawn fate_after : F) (w mid w' : WorldState)
      → now ≤ until → (k : PassesTo answers now ts fate drawn w mid)
      → PassesTo answers until us drawn fate_after k.between w'
      → PassesTo answers until (ts ++ us) fate fate_after w w'
  passes_on now until ts us fate drawn fate_after w mid w' later k more =
      let ahead = k.ahead in record {
        ahead = omega (arith, ahead, later);
        between = more.between;
        passes = passes-append answers until ts us fate drawn fate_after w k.between more.between
            (passes-later answers now until ts fate drawn w k.between later k.passes) more.passes;
        nothing_left = more.nothing_left;
        is = more.is;
      }

  -- ---- with events

  -- the world that a course leads to, before its time became that of the end
  pub record Halts (now until : ℕ) (events : List Timed) (ts us : List ActTrace) (fate drawn fate_after : F)
      (w mid w' : WorldState) : Type 0 where
    pub between : WorldState
    pub is : mid ≡ at now between
    pub goes_on : PassesTo answers until (begun_in between us) drawn fate_after between w'
    pub courses : Courses answers until events (ts ++ begun_in between us) fate fate_after w w'

  pub courses_on_to : (now until : ℕ) (events : List Timed) (ts us : List ActTrace) (fate drawn fate_after : F)
      (w mid w' : WorldState) → Courses answers now events ts fate drawn w mid
      → PassesTo answers until us drawn fate_after mid w'
      → Halts now until events ts us fate drawn fate_after w mid w'
  courses_on_to now until [] ts us fate drawn fate_after w mid w' k more =
      let late = more.ahead in let time : mid.time ≡ now = ap (λ (v : WorldState). v.time) k.is in
      let before = goes_on_before now until us drawn fate_after k.between w'
      (passed_by now ts fate drawn w k.between k.ahead k.passes)
      (subst (λ v. PassesTo answers until us drawn fate_after v w') k.is more) in record {
        between = k.between;
        is = k.is;
        goes_on = before;
        courses = passes_on now until ts (begun_in k.between us) fate drawn fate_after w mid w'
            (omega (arith, late, time)) k before;
      }
  courses_on_to now until (e ∷ es) ts us fate drawn fate_after w mid w'
      (first, rest, next, after, makes, courses, is) more =
      let on = courses_on_to now until es rest us next drawn fate_after after mid w' courses more in record {
        between = on.between;
        is = on.is;
        goes_on = on.goes_on;
        courses = (
          first,
          rest ++ begun_in on.between us,
          next,
          after,
          makes,
          on.courses,
          ap (λ xs. xs ++ begun_in on.between us) is ∙ append_assoc first rest (begun_in on.between us),
        );
      }
