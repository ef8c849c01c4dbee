-- What an observer keeps after one act more.
use Rattle.std.proofs.Common.{◌≡◌, ◌==◌, ℕ, Bool, true, false, List, [], ◌∷◌, ◌++◌, map, Option, Some, None, if◌then◌else◌, option_map, option_and_then, unsigned_abs, refl, sym, ap, subst, ◌∙◌}
use Rattle.std.specs.List.{flat_map}
use Rattle.std.specs.Option.{option_map_or}
use Rattle.gptp_model.specs.World.{WorldState}
use Rattle.gptp_model.specs.declared.done.Done.TheVariants.{Quiet}
use Rattle.gptp_world.specs.Transitions.{ActTrace}
use Rattle.gptp_timeline.specs.Changes.{change_lines}
use Rattle.gptp_timeline.specs.Measures.{better_if, ended_by, greatest, greatest_from, one_at}
use Rattle.gptp_timeline.specs.Receipts.{received_by}
use Rattle.gptp_timeline.specs.Shown.{is_expecting, same_choice, same_roles, shown}
use Rattle.gptp_timeline.specs.Stretch.{at_of, ended, ended_in, error_at, error_in, is_event, last_at, leaves_another, receives, same_known, waits, waits_after, worst_error}
use Rattle.gptp_timeline.specs.Timeline.{all_changes}
use Rattle.gptp_timeline.specs.Watch.{counts_from, error_after, event_look, lines_all, see_all, unless, watched_after, WatchState}
use Rattle.gptp_timeline.specs.declared.measures.Measures.{Measures}
use Rattle.gptp_timeline.specs.declared.watched.Watched.{Watched}
use Rattle.gptp_timeline.proofs.EachLemmas.{all_looked, measured_each}
use Rattle.gptp_timeline.proofs.MeasuredLemmas.{given_none, last_more, longest_more, waits_more, worst_more}
use Rattle.gptp_timeline.proofs.StandLemmas.{all, kept, map_same, Stands}
use Rattle.gptp_timeline.proofs.TrackLemmas.{all_seen_lines, event_measured, kept_lines, made, same_made, unless_each}

-- ---- errors that are kept of each system

-- after an act, where receipts count from a time on
abbrev pub errors_next : Option ℕ → ActTrace → (ℕ → Option ℕ) → ℕ → Option ℕ
errors_next from t errors name =
    if receives name t then
    error_after (counts_from from (at_of t)) (errors name) (option_map unsigned_abs (error_at name t))
    else errors name

-- the same systems stand with the same errors
pub restand : (names : List ℕ) (since errors others : ℕ → Option ℕ) (w : WorldState) (xs : List Watched)
    → ((name : ℕ) → others name ≡ errors name) → Stands names since errors w xs → Stands names since others w xs
restand names since errors others w xs same stands = record {
  are = stands.are ∙ map_same (kept since errors w) (kept since others w) names (λ i name there.
      ap (λ e. record { clock = name; shown = shown name w; since = since name; error = e }) (same name));
  still = stands.still;
}

-- ---- an act by which nobody receives time

quiet_receives : (name : ℕ) (t : ActTrace) → t.told.done ≡ Quiet → receives name t ≡ false
quiet_receives name t quiet =
    ap (λ done. option_map_or (λ clock. clock == name) (received_by done) false) quiet

quiet_error : (t : ActTrace) → t.told.done ≡ Quiet → error_in t ≡ None
quiet_error t quiet =
    ap (λ done. option_and_then (λ name. option_map (λ error. one_at name (unsigned_abs error)) (error_at name t))
    (received_by done)) quiet

quiet_errors : (from : Option ℕ) (t : ActTrace) (errors : ℕ → Option ℕ) (name : ℕ) → t.told.done ≡ Quiet
    → errors_next from t errors name ≡ errors name
quiet_errors from t errors name quiet =
    ap (λ received. if received then
    error_after (counts_from from (at_of t)) (errors name) (option_map unsigned_abs (error_at name t))
    else errors name) (quiet_receives name t quiet)

-- ---- what is kept

module _ (summary offsets : Bool) (from : Option ℕ) (names : List ℕ) (begun : ℕ → Option ℕ) where
  -- what is measured of acts so far; of waits those that ended
  abbrev pub measured_by : List ActTrace → Measures
  measured_by ts = made (last_at (leaves_another same_choice names) ts) (last_at (leaves_another same_roles names) ts)
      (last_at (leaves_another same_known names) ts) (greatest (ended names begun ts)) (worst_error ts)

  -- An observer keeps what is defined over the acts of a stretch so far.
  pub record Tracks (errors : ℕ → Option ℕ) (ts : List ActTrace) (w : WorldState) (o : WatchState) : Type 0 where
    pub summary_is : o.summary ≡ summary
    pub offsets_is : o.offsets ≡ offsets
    pub from_is : o.exact_from ≡ from
    pub stands : Stands names (waits ts begun) errors w o.systems
    pub measures_are : o.measures ≡ measured_by ts

  -- ---- an event

  no_wait_by : (at : ℕ) (by_event received after : Bool) (since : Option ℕ) → by_event ≡ true
      → ended_by at by_event received after since ≡ None
  no_wait_by at by_event received after None event = refl
  no_wait_by at by_event received after (Some since) event = rw event refl

  no_waits : (t : ActTrace) (since : ℕ → Option ℕ) → is_event t ≡ true → ended_in names since t ≡ []
  no_waits t since event = given_none _ names (λ i name there.
      ap (option_map (one_at name)) (no_wait_by (at_of t) (is_event t) (receives name t)
      (is_expecting (shown name t.after)) (since name) event))

  pub event_step : (errors : ℕ → Option ℕ) (ts : List ActTrace) (t : ActTrace) (o : WatchState)
      → Tracks errors ts t.before o → t.told.done ≡ Quiet → is_event t ≡ true
      → Tracks (errors_next from t errors) (ts ++ t ∷ []) t.after (see_all (event_look (at_of t)) t.after o)
  event_step errors ts t o tracks quiet event =
      let look = event_look (at_of t) in
      let since = waits ts begun in
      let behind = all_looked look t.after o in
      let left : List Watched = map (λ (x : Watched). watched_after look (shown x.clock t.after) x) o.systems in
      let since_is = waits_more ts (t ∷ []) begun in
      let stands = all since errors t.before t.after (at_of t) (λ name. receives name t) names o.systems tracks.stands
      look refl (λ name. sym (quiet_receives name t quiet)) in
      let measured : measured_each look t.after o.systems o.measures ≡ measured_by (ts ++ t ∷ []) =
      ap (λ xs. measured_each look t.after xs o.measures) tracks.stands.are
      ∙ ap (measured_each look t.after (map (kept since errors t.before) names)) tracks.measures_are
      ∙ event_measured (at_of t) since errors t.before t.after names (measured_by ts)
      ∙ same_made _ _ _ _ _ _ (greatest (ended names begun ts)) (worst_error ts)
      (sym (last_more (leaves_another same_choice names) ts t))
      (sym (last_more (leaves_another same_roles names) ts t))
      (sym (last_more (leaves_another same_known names) ts t))
      ∙ ap (λ h. made (last_at (leaves_another same_choice names) (ts ++ t ∷ []))
      (last_at (leaves_another same_roles names) (ts ++ t ∷ []))
      (last_at (leaves_another same_known names) (ts ++ t ∷ [])) h (worst_error ts))
      (sym (longest_more names begun ts t
      ∙ ap (greatest_from (greatest (ended names begun ts))) (no_waits t since event)))
      ∙ ap (made (last_at (leaves_another same_choice names) (ts ++ t ∷ []))
      (last_at (leaves_another same_roles names) (ts ++ t ∷ []))
      (last_at (leaves_another same_known names) (ts ++ t ∷ [])) (greatest (ended names begun (ts ++ t ∷ []))))
      (sym (worst_more ts t ∙ ap (better_if (worst_error ts)) (quiet_error t quiet))) in
      subst (Tracks (errors_next from t errors) (ts ++ t ∷ []) t.after) (sym behind) (record {
        summary_is = tracks.summary_is;
        offsets_is = tracks.offsets_is;
        from_is = tracks.from_is;
        stands = subst (λ s. Stands names s (errors_next from t errors) t.after left) (sym since_is)
            (restand names (waits_after t since) errors (errors_next from t errors) t.after left
            (λ name. quiet_errors from t errors name quiet) stands);
        measures_are = measured;
      })

  -- its lines
  pub event_changes : (errors : ℕ → Option ℕ) (ts : List ActTrace) (t : ActTrace) (o : WatchState)
      → Tracks errors ts t.before o
      → lines_all (event_look (at_of t)) t.after o ≡ unless summary (all_changes names t)
  event_changes errors ts t o tracks =
      all_seen_lines (event_look (at_of t)) t.after o
      ∙ ap (flat_map (λ (x : Watched). unless o.summary
      (change_lines (at_of t) x.clock x.shown (shown x.clock t.after)))) tracks.stands.are
      ∙ kept_lines (waits ts begun) errors t.before t.after (at_of t) o.summary names
      ∙ unless_each o.summary (λ name. change_lines (at_of t) name (shown name t.before) (shown name t.after)) names
      ∙ ap (λ s. unless s (all_changes names t)) tracks.summary_is
