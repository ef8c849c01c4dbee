-- What an observer keeps after a receipt of time.
use Rattle.std.proofs.Common.{◌≡◌, ℕ, ℤ, Bool, true, false, List, [], ◌∷◌, ◌++◌, Option, Some, None, if◌then◌else◌, option_map, slice_get, slice_set, unsigned_abs, sym, ap, subst, ◌∙◌}
use Rattle.std.proofs.lemmas.Option.{slice_get-map}
use Rattle.gptp_graph.specs.Order.{IsRising}
use Rattle.gptp_world.specs.Transitions.{ActTrace}
use Rattle.gptp_timeline.specs.Measures.{better_if, greatest, one_at}
use Rattle.gptp_timeline.specs.Shown.{same_choice, same_roles}
use Rattle.gptp_timeline.specs.Stretch.{at_of, ended, error_at, error_in, last_at, leaves_another, receives, same_known, waits, worst_error}
use Rattle.gptp_timeline.specs.Watch.{counts_from, error_after, take_error, WatchState}
use Rattle.gptp_timeline.specs.declared.measures.Measures.{Measures}
use Rattle.gptp_timeline.specs.declared.watched.Watched.{Watched}
use Rattle.gptp_timeline.proofs.MeasuredLemmas.{worst_more}
use Rattle.gptp_timeline.proofs.OwnLemmas.{TakesOne}
use Rattle.gptp_timeline.proofs.StandLemmas.{kept, map_set, place_once}
use Rattle.gptp_timeline.proofs.StepLemmas.{errors_next, restand, Tracks}
use Rattle.gptp_timeline.proofs.TrackLemmas.{made}

module _ (summary offsets : Bool) (from : Option ℕ) (names : List ℕ) (rising : IsRising names) (begun : ℕ → Option ℕ)
  where
    -- nobody receives time, or nobody lives who does: what was taken is all
    pub nothing_received : (errors : ℕ → Option ℕ) (ts : List ActTrace) (t : ActTrace) (o : WatchState)
        → TakesOne summary offsets from names rising begun errors ts t o
        → ((name : ℕ) → errors_next from t errors name ≡ errors name) → error_in t ≡ None
        → Tracks summary offsets from names begun (errors_next from t errors) (ts ++ t ∷ []) t.after o
    nothing_received errors ts t o takes same none = record {
      summary_is = takes.summary_is;
      offsets_is = takes.offsets_is;
      from_is = takes.from_is;
      stands = restand names (waits (ts ++ t ∷ []) begun) errors (errors_next from t errors) t.after o.systems same
          takes.stands;
      measures_are = takes.measures_are
          ∙ ap (made (last_at (leaves_another same_choice names) (ts ++ t ∷ []))
          (last_at (leaves_another same_roles names) (ts ++ t ∷ []))
          (last_at (leaves_another same_known names) (ts ++ t ∷ [])) (greatest (ended names begun (ts ++ t ∷ []))))
          (sym (worst_more ts t ∙ ap (better_if (worst_error ts)) none));
    }

    -- one system receives time
    pub received : (errors : ℕ → Option ℕ) (ts : List ActTrace) (t : ActTrace) (o : WatchState) (place clock : ℕ)
        (error : Option ℤ) → TakesOne summary offsets from names rising begun errors ts t o
        → slice_get names place ≡ Some clock → receives clock t ≡ true
        → ((name : ℕ) → (name ≡ clock → ⊥) → receives name t ≡ false) → error_at clock t ≡ error
        → error_in t ≡ option_map (λ e. one_at clock (unsigned_abs e)) error
        → Tracks summary offsets from names begun (errors_next from t errors) (ts ++ t ∷ []) t.after
        (take_error (at_of t) place (slice_get o.systems place) error o)
    received errors ts t o place clock error takes here own quiet error_is worst =
        let since = waits (ts ++ t ∷ []) begun in
        let next = errors_next from t errors in
        let x : Watched = kept since errors t.after clock in
        let there : slice_get o.systems place ≡ Some x =
        ap (λ xs. slice_get xs place) takes.stands.are ∙ slice_get-map (kept since errors t.after) names place
        ∙ ap (option_map (kept since errors t.after)) here in
        let amount : next clock ≡ error_after (counts_from from (at_of t)) (errors clock)
        (option_map unsigned_abs error) =
        ap (λ r. if r then
        error_after (counts_from from (at_of t)) (errors clock) (option_map unsigned_abs (error_at clock t))
        else errors clock) own
        ∙ ap (λ e. error_after (counts_from from (at_of t)) (errors clock) (option_map unsigned_abs e)) error_is in
        let new : record x {
          error = error_after (counts_from o.exact_from (at_of t)) x.error
              (option_map unsigned_abs error);
        }
        ≡ kept since next t.after clock =
        ap (λ f. record x {
          error = error_after (counts_from f (at_of t)) (errors clock)
              (option_map unsigned_abs error);
        })
        takes.from_is
        ∙ ap (λ e. record x { error = e }) (sym amount) in
        subst (Tracks summary offsets from names begun next (ts ++ t ∷ []) t.after)
        (ap (λ y. take_error (at_of t) place y error o) (sym there)) (record {
          summary_is = takes.summary_is;
          offsets_is = takes.offsets_is;
          from_is = takes.from_is;
          stands = record {
            are = ap (slice_set o.systems place) new
                ∙ ap (λ xs. slice_set xs place (kept since next t.after clock)) takes.stands.are
                ∙ map_set (kept since errors t.after) (kept since next t.after) names place clock here
                (λ i n at_i apart.
                ap (λ e. record (kept since errors t.after n) { error = e })
                (ap (λ r. if r then
                error_after (counts_from from (at_of t)) (errors n) (option_map unsigned_abs (error_at n t))
                else errors n)
                (quiet n (λ same. apart (place_once names i place n clock rising at_i here same)))));
            still = takes.stands.still;
          };
          measures_are =
              ap (λ (m : Measures). record m {
                error = better_if m.error
                    (option_map (λ e. one_at clock (unsigned_abs e)) error);
              })
              takes.measures_are
              ∙ ap (made (last_at (leaves_another same_choice names) (ts ++ t ∷ []))
              (last_at (leaves_another same_roles names) (ts ++ t ∷ []))
              (last_at (leaves_another same_known names) (ts ++ t ∷ [])) (greatest (ended names begun (ts ++ t ∷ []))))
              (sym (worst_more ts t ∙ ap (better_if (worst_error ts)) worst));
        })
