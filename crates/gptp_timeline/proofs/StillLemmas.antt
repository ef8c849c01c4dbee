-- An act that leaves all that is shown as it was changes nothing that is kept, and no line tells of it.
use Rattle.std.proofs.Common.{◌≡◌, ◌&&◌, ◌||◌, ℕ, zero, suc, not, Bool, true, false, List, [], ◌∷◌, Option, Some, None, is_none, is_some, slice_get, slice_set, refl, sym, ap, subst, ◌∙◌, append-nil, ◌++◌}
use Rattle.std.proofs.lemmas.Option.{same_Some}
use Rattle.gptp_model.specs.World.{WorldState}
use Rattle.gptp_model.specs.declared.done.Done.{Done}
use Rattle.gptp_model.specs.declared.done.Done.TheVariants.{Heard, Quiet}
use Rattle.gptp_scenario.specs.declared.change.Act.{Act}
use Rattle.gptp_scenario.specs.declared.change.Act.TheVariants.{Change as Changing, Deliver, Expire}
use Rattle.gptp_world.specs.Transitions.{ActTrace}
use Rattle.gptp_timeline.specs.Compared.{compared_by_expiry, compared_by_frame, left_by}
use Rattle.gptp_timeline.specs.Changes.{change_lines}
use Rattle.gptp_timeline.specs.Measures.{better_if, ended_by, since_after}
use Rattle.gptp_timeline.specs.Receipts.{received_by}
use Rattle.gptp_timeline.specs.Shown.{is_expecting, shown, live_system}
use Rattle.gptp_timeline.specs.Stretch.{at_of, is_change, waits as waits_by}
use Rattle.gptp_timeline.specs.Watch.{lines_at, measures_after, one_lines, own_look, place_of, placed_lines, see_act, see_at, see_one, see_placed, see_system, seen_lines, unless, wait_behind, waits_on, watched_after, watched_lines, WatchState, left_at, see_receipt_if, receipt_lines_if, taken}
use Rattle.gptp_timeline.specs.declared.compared.Compared.{Compared}
use Rattle.gptp_timeline.specs.declared.compared.Compared.TheVariants.{All}
use Rattle.gptp_timeline.specs.declared.measures.Measures.{Measures}
use Rattle.gptp_timeline.specs.declared.shown.Shown.{Shown}
use Rattle.gptp_timeline.specs.declared.watched.ActView.{ActView}
use Rattle.gptp_timeline.specs.declared.watched.Watched.{Watched}
use Rattle.gptp_timeline.proofs.ComparedLemmas.{left_itself}
use Rattle.gptp_timeline.proofs.SameLemmas.{choice_itself, known_itself, no_change_lines, roles_itself}
use Rattle.gptp_timeline.proofs.StandLemmas.{from_map, kept}
use Rattle.gptp_timeline.proofs.StepLemmas.{Tracks}

-- ---- one system

-- what is shown is as it was: the last changes stay, and a wait can end
pub measures_same : (look : ActView) (x : Watched) (m : Measures)
    → measures_after look x x.shown m ≡ record m { holdover = better_if m.holdover (wait_behind look x x.shown) }
measures_same look x m = rw (choice_itself x.shown, roles_itself x.shown, known_itself x.shown) refl

-- An act leaves all that is kept of a system as it was: none is received, and it goes on to expect time where it waits.
pub record StaysSo (look : ActView) (w : WorldState) (x : Watched) : Type 0 where
  pub shown_so : left_at look w x ≡ x.shown
  pub waits_so : waits_on look x ≡ true

-- no wait begins or ends
wait_stays : (at : ℕ) (by_event received expects : Bool) (since : Option ℕ)
    → not received && (is_none since || expects) ≡ true
    → (since_after at received expects expects since ≡ since) × (ended_by at by_event received expects since ≡ None)
wait_stays at by_event true expects since so = absurd cc
wait_stays at by_event false true None so = (refl, refl)
wait_stays at true false true (Some s) so = (refl, refl)
wait_stays at false false true (Some s) so = (refl, refl)
wait_stays at by_event false false None so = (refl, refl)
wait_stays at by_event false false (Some s) so = absurd cc

-- a place is left as it is
set_same : {X : Type 0} (xs : List X) (place : ℕ) (x : X) → slice_get xs place ≡ Some x → slice_set xs place x ≡ xs
set_same [] place x there = absurd cc
set_same (y ∷ ys) zero x there = ap (λ z. z ∷ ys) (sym (same_Some y x there))
set_same (y ∷ ys) (suc place) x there = ap (λ zs. y ∷ zs) (set_same ys place x there)

module _ (look : ActView) (x : Watched) (so : waits_on look x ≡ true) where
  waits : (since_after look.at look.received (is_expecting x.shown) (is_expecting x.shown) x.since ≡ x.since)
      × (ended_by look.at look.by_event look.received (is_expecting x.shown) x.since ≡ None)
  waits = wait_stays look.at look.by_event look.received (is_expecting x.shown) x.since so

  watched_stays : watched_after look x.shown x ≡ x
  watched_stays = ap (λ (since : Option ℕ). record x { since = since }) waits.0

  measures_stay : (m : Measures) → measures_after look x x.shown m ≡ m
  measures_stay m = measures_same look x m ∙ rw waits.1 refl

  -- nothing that is kept is another
  pub taken_same : (place : ℕ) (o : WatchState) → slice_get o.systems place ≡ Some x → taken look place x x.shown o ≡ o
  taken_same place o there =
      ap (λ (y : Watched). record o {
        systems = slice_set o.systems place y;
        measures = measures_after look x x.shown o.measures;
      }) watched_stays
      ∙ ap (λ (xs : List Watched). record o { systems = xs; measures = measures_after look x x.shown o.measures })
      (set_same o.systems place x there)
      ∙ ap (λ (m : Measures). record o { measures = m }) (measures_stay o.measures)

module _ (look : ActView) (w : WorldState) (x : Watched) (so : StaysSo look w x) where
  sees_same : (place : ℕ) (o : WatchState) → slice_get o.systems place ≡ Some x → see_at look w place o ≡ o
  sees_same place o there =
      ap (λ (y : Option Watched). see_one look w place y o) there
      ∙ ap (λ (s : Option Shown). taken look place x s o) so.shown_so
      ∙ taken_same look x so.waits_so place o there

  no_lines : (left_out : Bool) → unless left_out (change_lines look.at x.clock x.shown (left_at look w x)) ≡ []
  no_lines true = refl
  no_lines false =
      ap (λ (s : Option Shown). change_lines look.at x.clock x.shown s) so.shown_so
      ∙ no_change_lines look.at x.clock x.shown

  tells_none : (place : ℕ) (o : WatchState) → slice_get o.systems place ≡ Some x → lines_at look w place o ≡ []
  tells_none place o there =
      ap (λ (y : Option Watched). unless o.summary (one_lines look w y)) there ∙ no_lines o.summary

-- ---- an act

pub none_left : (left_out : Bool) → unless left_out [] ≡ []
none_left true = refl
none_left false = refl

-- a system that doesn't expect time doesn't wait
waits_or_not : (expects : Bool) (since : Option ℕ) → (expects ≡ false → since ≡ None) → is_none since || expects ≡ true
waits_or_not true None still = refl
waits_or_not true (Some since) still = refl
waits_or_not false since still = rw (still refl) refl

module _ (summary offsets : Bool) (from : Option ℕ) (names : List ℕ) (begun errors : ℕ → Option ℕ)
    (ts : List ActTrace) (t : ActTrace) (o : WatchState)
    (tracks : Tracks summary offsets from names begun errors ts t.before o)
    (same : (name : ℕ) → shown name t.after ≡ shown name t.before) where
  abbrev look : Compared → ActView
  look compared = own_look (at_of t) false compared

  stays : (compared : Compared) (place : ℕ) (x : Watched) → slice_get o.systems place ≡ Some x
      → StaysSo (look compared) t.after x
  stays compared place x there =
      let since = waits_by ts begun in
      let (name, here, is) = from_map (kept since errors t.before) names place x
      (ap (λ xs. slice_get xs place) (sym tracks.stands.are) ∙ there) in
      subst (StaysSo (look compared) t.after) is (record {
        shown_so = ap (left_by compared (live_system name t.after)) (sym (same name))
            ∙ left_itself compared (live_system name t.after) ∙ same name;
        waits_so = waits_or_not (is_expecting (shown name t.before)) (since name) (tracks.stands.still name);
      })

  at_one : (compared : Compared) (place : ℕ) → (see_at (look compared) t.after place o ≡ o)
      × (lines_at (look compared) t.after place o ≡ [])
  at_one compared place = by (slice_get o.systems place) refl
    where
      by : (x : Option Watched) → slice_get o.systems place ≡ x
          → (see_at (look compared) t.after place o ≡ o) × (lines_at (look compared) t.after place o ≡ [])
      by None none = (
        ap (λ y. see_one (look compared) t.after place y o) none,
        ap (λ y. unless o.summary (one_lines (look compared) t.after y)) none ∙ none_left o.summary,
      )
      by (Some x) there = (
        sees_same (look compared) t.after x (stays compared place x there) place o there,
        tells_none (look compared) t.after x (stays compared place x there) place o there,
      )

  at_clock : (clock : ℕ) (compared : Compared) (p : Option ℕ)
      → (see_placed (at_of t) t.after clock false compared p o ≡ o)
      × (placed_lines (at_of t) t.after clock false compared p o ≡ [])
  at_clock clock compared None = (refl, refl)
  at_clock clock compared (Some place) =
      let (same_kept, none) = at_one compared place in
      (same_kept, append-nil (lines_at (look compared) t.after place o) ∙ none)

  -- it needn't be looked at
  pub stays_seen : (act : Act) (done : Done) → is_change act ≡ false → received_by done ≡ None
      → (see_act (at_of t) act done t.after o ≡ o) × (seen_lines (at_of t) act done t.after o ≡ [])
  stays_seen (Deliver link direction) Quiet other nobody = (refl, refl)
  stays_seen (Deliver link direction) (Heard clock port answer frame) other nobody =
      let compared = compared_by_frame port frame.items in
      let (same_kept, none) = at_clock clock compared (place_of clock o) in (
        ap (λ r. see_system (at_of t) t.after clock (is_some r) compared o) nobody ∙ same_kept,
        ap (λ r. watched_lines (at_of t) t.after clock (is_some r) compared o) nobody ∙ none,
      )
  stays_seen (Expire clock timer) done other nobody = at_clock clock (compared_by_expiry timer) (place_of clock o)
  stays_seen (Changing change) done other nobody = absurd cc

-- ---- an act that can leave of a system another only what is compared of it

module _ (summary offsets : Bool) (from : Option ℕ) (names : List ℕ) (begun errors : ℕ → Option ℕ)
    (ts : List ActTrace) (t : ActTrace) (o : WatchState)
    (tracks : Tracks summary offsets from names begun errors ts t.before o) (clock : ℕ) (received : Bool)
    (compared : Compared)
    (left : (name : ℕ) → left_by compared (live_system name t.after) (shown name t.before) ≡ shown name t.after) where
  abbrev view : Compared → ActView
  view compared = own_look (at_of t) received compared

  left_so : (place : ℕ) (x : Watched) → slice_get o.systems place ≡ Some x
      → left_at (view compared) t.after x ≡ shown x.clock t.after
  left_so place x there =
      let since = waits_by ts begun in
      let (name, here, is) = from_map (kept since errors t.before) names place x
      (ap (λ xs. slice_get xs place) (sym tracks.stands.are) ∙ there) in
      subst (λ (y : Watched). left_by compared (live_system y.clock t.after) y.shown ≡ shown y.clock t.after) is
      (left name)

  same_at : (place : ℕ)
      → (see_at (view compared) t.after place o ≡ see_at (view All) t.after place o)
      × (lines_at (view compared) t.after place o ≡ lines_at (view All) t.after place o)
  same_at place = by (slice_get o.systems place) refl
    where
      by : (x : Option Watched) → slice_get o.systems place ≡ x
          → (see_at (view compared) t.after place o ≡ see_at (view All) t.after place o)
          × (lines_at (view compared) t.after place o ≡ lines_at (view All) t.after place o)
      by None none = (
        ap (λ y. see_one (view compared) t.after place y o) none
            ∙ sym (ap (λ y. see_one (view All) t.after place y o) none),
        ap (λ y. unless o.summary (one_lines (view compared) t.after y)) none
            ∙ sym (ap (λ y. unless o.summary (one_lines (view All) t.after y)) none),
      )
      by (Some x) there =
          let left = left_so place x there in (
            ap (λ y. see_one (view compared) t.after place y o) there ∙ ap (λ s. taken (view All) place x s o) left
                ∙ sym (ap (λ y. see_one (view All) t.after place y o) there),
            ap (λ y. unless o.summary (one_lines (view compared) t.after y)) there
                ∙ ap (λ s. unless o.summary (change_lines (at_of t) x.clock x.shown s)) left
                ∙ sym (ap (λ y. unless o.summary (one_lines (view All) t.after y)) there),
          )

  -- it is enough to look at that
  pub looked_same : (see_system (at_of t) t.after clock received compared o
      ≡ see_system (at_of t) t.after clock received All o)
      × (watched_lines (at_of t) t.after clock received compared o
      ≡ watched_lines (at_of t) t.after clock received All o)
  looked_same = by (place_of clock o)
    where
      by : (p : Option ℕ)
          → (see_placed (at_of t) t.after clock received compared p o
          ≡ see_placed (at_of t) t.after clock received All p o)
          × (placed_lines (at_of t) t.after clock received compared p o
          ≡ placed_lines (at_of t) t.after clock received All p o)
      by None = (refl, refl)
      by (Some place) = let (sees, tells) = same_at place in (
        ap (see_receipt_if received (at_of t) t.after clock place) sees,
        ap (λ ls. ls ++ receipt_lines_if received (at_of t) t.after clock o) tells,
      )
