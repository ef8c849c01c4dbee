-- The stretches of a timeline up to one of them are a run, without the events after that begins.
use Rattle.std.proofs.Common.{◌≡◌, ◌≢◌, inl, inr, ◌<◌, ◌≤◌, ℕ, Bool, true, nat_le, nat_lt, List, [], ◌∷◌, ◌++◌, Option, slice_get, refl, sym, ap, subst, ◌∙◌, arith}
use Rattle.std.specs.List.{AllByRecursion}
use Rattle.std.proofs.lemmas.Bool.Decides.{nat_tests}
use Rattle.std.proofs.lemmas.List.Elements.{filter-append}
use Rattle.gptp_lists.specs.Members.{In}
use Rattle.gptp_lists.proofs.SystemSpecLemmas.{In-parts, In-right}
use Rattle.gptp_invariants.specs.WorldStanding.{snapshot_of}
use Rattle.gptp_invariants.proofs.ChoiceCalmKeptLemmas.{acts_keep, same_snapshot}
use Rattle.gptp_links.specs.declared.bounds.Bounds.{Bounds}
use Rattle.gptp_model.specs.Acts.{at}
use Rattle.gptp_model.specs.World.{WorldState}
use Rattle.gptp_network.specs.Document.{DocumentState}
use Rattle.gptp_network.specs.Events.{AreInOrder}
use Rattle.gptp_network.specs.Snapshot.{events_by}
use Rattle.gptp_report.specs.Transitions.{Courses, Makes}
use Rattle.gptp_scenario.specs.declared.change.Timed.{Timed}
use Rattle.gptp_settling_time.proofs.CutLemmas.{all_by}
use Rattle.gptp_timeline.specs.Stretch.{at_of}
use Rattle.gptp_timeline.specs.Timeline.{AllPass, IsPassage, StretchTrace, end_before, later_than, now_of}
use Rattle.gptp_timeline.proofs.EventLemmas.{filter_in_order, filter_passes, now_by}
use Rattle.gptp_timeline.proofs.SettlingLemmas.{no_change}
use Rattle.gptp_timeline.proofs.UnfoldLemmas.{courses_on, now_and_later}
use Rattle.gptp_world.specs.Transitions.{ActTrace, Passes, transition}

-- ---- events

-- those up to a time are those up to an earlier one, and of the later ones those up to it
by_parts : (from time : ℕ) (events : List Timed) → AreInOrder events → from ≤ time
    → events_by time events ≡ now_of from events ++ events_by time (later_than from events)
by_parts from time events order le =
    ap (events_by time) (sym (now_and_later from events order))
    ∙ filter-append (λ (t : Timed). nat_le t.at time) (now_of from events) (later_than from events)
    ∙ ap (λ es. es ++ events_by time (later_than from events)) (now_by from time events le)

-- the first of those that are later comes later
first_later : (from : ℕ) (events : List Timed) (e : Timed) (es : List Timed) → later_than from events ≡ e ∷ es
    → from < e.at
first_later from events e es is =
    let passes : nat_lt from e.at ≡ true =
    filter_passes (λ (x : Timed). nat_lt from x.at) events 0 e (ap (λ xs. slice_get xs 0) is) in
    grind (arith, nat_tests)

-- a stretch ends no sooner than it begins
pub ends_on : (until from : ℕ) (events later : List Timed) → later_than from events ≡ later → from ≤ until
    → from ≤ end_before until later
ends_on until from events [] is le = le
ends_on until from events (e ∷ es) is le = let behind = first_later from events e es is in omega (arith, behind)

module _ {F : Type 0} (answers : Bounds → ℕ → F → Option ℕ → F → Type 0) where
  -- ---- a run to the end of a stretch

  pub record RunsTo (p : StretchTrace) (from : ℕ) (events : List Timed) (fate : F) (w : WorldState) : Type 0 where
    pub ts : List ActTrace
    pub drawn : F
    pub courses : Courses answers p.to (events_by p.from events) ts fate drawn w p.after
    pub among : (a : ActTrace) → In a p.acts → In a ts
    pub least : from ≤ p.from
    pub begins : WorldState
    pub fate_then : F
    pub own : Courses answers p.to p.events p.acts fate_then drawn begins p.after
    pub early : AllByRecursion (λ (e : Timed). e.at ≤ p.from) p.events

  module _ (exact : Bool) (d : DocumentState) (until : ℕ) where
    passage_runs : (p : StretchTrace) (from : ℕ) (events : List Timed) (fate drawn : F) (w : WorldState)
        → IsPassage answers exact d until from events fate drawn w p → RunsTo p from events fate w
    passage_runs p from events fate drawn w passage =
        let same : p.events ≡ events_by p.from events =
        passage.events_are ∙ ap (λ time. events_by time events) (sym passage.from_is) in
        let here = passage.from_is in
        record {
          ts = p.acts;
          drawn = drawn;
          courses = subst (λ es. Courses answers p.to es p.acts fate drawn w p.after) same passage.courses;
          among = λ a member. member;
          least = omega (arith, here);
          begins = w;
          fate_then = fate;
          own = passage.courses;
          early = subst (AllByRecursion (λ (e : Timed). e.at ≤ p.from)) (sym same) (all_by p.from events);
        }

    -- after a stretch that ends where the next event comes
    runs_on : (q p : StretchTrace) (from : ℕ) (events : List Timed) (later : List Timed) (fate drawn : F)
        (w : WorldState) → AreInOrder events → later_than from events ≡ later → later ≢ []
        → IsPassage answers exact d until from events fate drawn w q → q.to ≡ end_before until later
        → RunsTo p q.to later drawn q.after → RunsTo p from events fate w
    runs_on q p from events [] fate drawn w order is some passage ends run = absurd (some refl)
    runs_on q p from events (e ∷ es) fate drawn w order is some passage ends run =
        let behind = first_later from events e es is in
        let least = run.least in
        let soon : nat_le e.at p.from ≡ true = grind (arith, nat_tests, ends, least) in
        let before : from ≤ p.from = omega (arith, behind, ends, least) in
        let first : events_by p.from (e ∷ es) ≡ e ∷ events_by p.from es = rw soon refl in
        let courses = courses_on answers p.to q.events e (events_by p.from es) q.acts run.ts fate drawn run.drawn w
        q.after p.after (subst (λ to. Courses answers to q.events q.acts fate drawn w q.after) ends passage.courses)
        (subst (λ events. Courses answers p.to events run.ts drawn run.drawn q.after p.after) first run.courses) in
        let are : q.events ++ e ∷ events_by p.from es ≡ events_by p.from events =
        ap (λ xs. xs ++ e ∷ events_by p.from es) passage.events_are
        ∙ ap (λ xs. now_of from events ++ xs) (sym first ∙ ap (events_by p.from) (sym is))
        ∙ sym (by_parts from p.from events order before) in
        record {
          ts = q.acts ++ run.ts;
          drawn = run.drawn;
          courses = subst (λ es. Courses answers p.to es (q.acts ++ run.ts) fate run.drawn w p.after) are courses;
          among = λ a member. In-right a q.acts run.ts (run.among a member);
          least = before;
          begins = run.begins;
          fate_then = run.fate_then;
          own = run.own;
          early = run.early;
        }

    pub runs_to : (passages : List StretchTrace) (from : ℕ) (events : List Timed) (fate fate_after : F)
        (w w' : WorldState) (p : StretchTrace) → AreInOrder events
        → AllPass answers exact d until from events fate fate_after w w' passages → In p passages
        → RunsTo p from events fate w
    runs_to [] from events fate fate_after w w' p order pass member = absurd pass
    runs_to (q ∷ []) from events fate fate_after w w' p order (passage, none, ends) (inl same) =
        passage_runs p from events fate fate_after w
        (subst (IsPassage answers exact d until from events fate fate_after w) (sym same) passage)
    runs_to (q ∷ []) from events fate fate_after w w' p order pass (inr member) = absurd member
    runs_to (q ∷ (r ∷ rs)) from events fate fate_after w w' p order (drawn, passage, some, rest) (inl same) =
        passage_runs p from events fate drawn w
        (subst (IsPassage answers exact d until from events fate drawn w) (sym same) passage)
    runs_to (q ∷ (r ∷ rs)) from events fate fate_after w w' p order (drawn, passage, some, rest) (inr member) =
        runs_on q p from events (later_than from events) fate drawn w order refl some passage passage.to_is
        (runs_to (r ∷ rs) q.to (later_than from events) drawn fate_after q.after w' p
        (filter_in_order (λ (e : Timed). nat_lt from e.at) events order) rest member)

  -- ---- a network stays as it is after its events

  passes_same : (until : ℕ) (ts : List ActTrace) (fate fate_after : F) (w w' : WorldState)
      → Passes answers until ts fate fate_after w w' → snapshot_of w' ≡ snapshot_of w
  passes_same until [] fate fate_after w w' (same, is) = ap snapshot_of is
  passes_same until (t ∷ ts) fate fate_after w w' (drawn, before, happens, rest) =
      passes_same until ts drawn fate_after t.after w' rest
      ∙ same_snapshot (at (at_of t) w) t.after
      (acts_keep t.told.timed.act (at (at_of t) w) happens.was_done.draws t.told.done t.after
      (no_change happens.next.item t.told.timed.act w happens.next.act) happens.was_done.acts)

  passes_after : (until : ℕ) (ts : List ActTrace) (fate fate_after : F) (w w' : WorldState)
      → Passes answers until ts fate fate_after w w' → (a : ActTrace) → In a ts → snapshot_of w' ≡ snapshot_of a.after
  passes_after until [] fate fate_after w w' k a member = absurd member
  passes_after until (t ∷ ts) fate fate_after w w' (drawn, before, happens, rest) a (inl same) =
      passes_same until ts drawn fate_after t.after w' rest
      ∙ ap (λ (x : ActTrace). snapshot_of x.after) (sym same)
  passes_after until (t ∷ ts) fate fate_after w w' (drawn, before, happens, rest) a (inr member) =
      passes_after until ts drawn fate_after t.after w' rest a member

  passes_early : (until : ℕ) (ts : List ActTrace) (fate fate_after : F) (w w' : WorldState)
      → Passes answers until ts fate fate_after w w' → (a : ActTrace) → In a ts → at_of a ≤ until
  passes_early until [] fate fate_after w w' k a member = absurd member
  passes_early until (t ∷ ts) fate fate_after w w' (drawn, before, happens, rest) a (inl same) =
      subst (λ (x : ActTrace). at_of x ≤ until) (sym same) happens.early
  passes_early until (t ∷ ts) fate fate_after w w' (drawn, before, happens, rest) a (inr member) =
      passes_early until ts drawn fate_after t.after w' rest a member

  makes_early : (event : Timed) (ts : List ActTrace) (fate fate_after : F) (w w' : WorldState)
      → Makes answers event ts fate fate_after w w' → (a : ActTrace) → In a ts → at_of a ≤ event.at
  makes_early event ts fate fate_after w w' k a member =
      elim (In-parts a k.first (transition event k.done k.between w' ∷ []) (subst (In a) k.are member)) [
        | inl passed ↦ passes_early event.at k.first fate k.drawn w k.passes.between k.passes.passes a passed
        | inr (inl same) ↦ subst (λ (x : ActTrace). at_of x ≤ event.at) (sym same) now
        | inr (inr none) ↦ absurd none
      ]
    where
      now : event.at ≤ event.at
      now = omega arith

  -- the world at the end has the snapshot of each that an act leaves after the events
  pub courses_after : (from to : ℕ) (events : List Timed) (ts : List ActTrace) (fate fate_after : F) (w w' : WorldState)
      → AllByRecursion (λ (e : Timed). e.at ≤ from) events → Courses answers to events ts fate fate_after w w'
      → (a : ActTrace) → In a ts → from < at_of a → snapshot_of w' ≡ snapshot_of a.after
  courses_after from to [] ts fate fate_after w w' early k a member late =
      ap snapshot_of k.is ∙ passes_after to ts fate fate_after w k.between k.passes a member
  courses_after from to (event ∷ events) ts fate fate_after w w' early (first, rest, drawn, between, makes, k, is) a
      member late =
      elim (In-parts a first rest (subst (In a) is member)) [
        | inl here ↦
            let soon = makes_early event first fate drawn w between makes a here in
            let first_early = early.0 in
            absurd (omega (arith, soon, first_early, late))
        | inr behind ↦ courses_after from to events rest drawn fate_after between w' early.1 k a behind late
      ]
