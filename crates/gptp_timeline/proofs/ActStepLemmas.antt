-- What an observer keeps and tells after one act, whatever it is.
use Rattle.std.proofs.Common.{◌≡◌, ◌==◌, ℕ, ℤ, ◌+◌, Bool, true, false, not, List, [], ◌∷◌, ◌++◌, Option, Some, None, if◌then◌else◌, option_map, option_and_then, slice_get, unsigned_abs, refl, sym, ap, subst, ◌∙◌, arith}
use Rattle.std.specs.Option.{option_map_or}
use Rattle.std.proofs.lemmas.Bool.Decides.{nat_tests}
use Rattle.std.proofs.lemmas.Option.{slice_get-map}
use Rattle.gptp_model.specs.World.{WorldState}
use Rattle.gptp_graph.specs.Order.{IsRising}
use Rattle.gptp_world.specs.Transitions.{ActTrace}
use Rattle.gptp_system.specs.State.{SystemState}
use Rattle.gptp_timeline.specs.Changes.{change_lines}
use Rattle.gptp_timeline.specs.Measures.{one_at}
use Rattle.gptp_timeline.specs.Receipts.{offset_error, offset_line, received_by}
use Rattle.gptp_timeline.specs.Shown.{live_system, shown}
use Rattle.gptp_timeline.specs.Stretch.{at_of, error_at, error_in, is_event, receives, waits}
use Rattle.gptp_timeline.specs.Timeline.{all_changes, stretch_receipt_lines}
use Rattle.gptp_timeline.specs.Watch.{counts_from, error_after, one_lines, own_look, place_from, placed_lines, receipt_lines_if, receipt_lines_of, see_one, see_placed, see_receipt_if, see_receipt_of, see_system, watched_lines, taken, unless, WatchState}
use Rattle.gptp_timeline.specs.declared.compared.Compared.TheVariants.{All}
use Rattle.gptp_timeline.specs.declared.watched.Watched.{Watched}
use Rattle.gptp_timeline.proofs.OwnLemmas.{own_taken, TakesOne}
use Rattle.gptp_timeline.proofs.ReceiptLemmas.{nothing_received, received as received_one}
use Rattle.gptp_timeline.proofs.PlaceLemmas.{place_is}
use Rattle.gptp_timeline.proofs.SameLemmas.{flat_one, no_change_lines}
use Rattle.gptp_timeline.proofs.StandLemmas.{from_map, kept, place_once, Stands}
use Rattle.gptp_timeline.proofs.StepLemmas.{errors_next, Tracks}

-- ---- the place of a clock among what is kept

module _ (names : List ℕ) (rising : IsRising names) (clock i : ℕ) (member : slice_get names i ≡ Some clock) where
  pub kept_there : (since errors : ℕ → Option ℕ) (w : WorldState) (xs : List Watched) → Stands names since errors w xs
      → slice_get xs i ≡ Some (kept since errors w clock)
  kept_there since errors w xs stands =
      ap (λ ys. slice_get ys i) stands.are ∙ slice_get-map (kept since errors w) names i
      ∙ ap (option_map (kept since errors w)) member

  pub kept_place : (since errors : ℕ → Option ℕ) (w : WorldState) (xs : List Watched) → Stands names since errors w xs
      → place_from clock 0 xs ≡ Some i
  kept_place since errors w xs stands =
      let count : i + 0 ≡ i = omega arith in
      place_is clock 0 i xs (kept since errors w clock) (kept_there since errors w xs stands) refl
      (λ j y there named.
      let (name, at, is) = from_map (kept since errors w) names j y
      (ap (λ ys. slice_get ys j) (sym stands.are) ∙ there) in
      place_once names j i name clock rising at member (ap (λ (x : Watched). x.clock) is ∙ named))
      ∙ ap Some count

-- ---- an act at one system

module _ (summary offsets : Bool) (from : Option ℕ) (names : List ℕ) (rising : IsRising names) (begun : ℕ → Option ℕ)
    (errors : ℕ → Option ℕ) (ts : List ActTrace) (t : ActTrace) (clock i : ℕ)
    (member : slice_get names i ≡ Some clock) (act : is_event t ≡ false)
    (others : (name : ℕ) → (name ≡ clock → ⊥) → shown name t.after ≡ shown name t.before)
    (quiet : (name : ℕ) → (name ≡ clock → ⊥) → receives name t ≡ false) where
  abbrev behind_it : WatchState → Type 0
  behind_it o = Tracks summary offsets from names begun (errors_next from t errors) (ts ++ t ∷ []) t.after o

  -- what is kept of it, before the error of a receipt is taken
  abbrev looked_at : Bool → WatchState → WatchState
  looked_at received o = taken (own_look (at_of t) received All) i (kept (waits ts begun) errors t.before clock)
      (shown clock t.after) o

  takes : (o : WatchState) (received : Bool) → Tracks summary offsets from names begun errors ts t.before o
      → receives clock t ≡ received
      → TakesOne summary offsets from names rising begun errors ts t (looked_at received o)
  takes o received tracks own =
      own_taken summary offsets from names rising begun errors ts t o received i clock
      (kept (waits ts begun) errors t.before clock) tracks act
      (kept_there names rising clock i member (waits ts begun) errors t.before o.systems tracks.stands) refl others
      quiet own

  sees : (o : WatchState) (received : Bool) → Tracks summary offsets from names begun errors ts t.before o
      → see_system (at_of t) t.after clock received All o
      ≡ see_receipt_if received (at_of t) t.after clock i (looked_at received o)
  sees o received tracks =
      ap (λ p. see_placed (at_of t) t.after clock received All p o)
      (kept_place names rising clock i member (waits ts begun) errors t.before o.systems tracks.stands)
      ∙ ap (λ x. see_receipt_if received (at_of t) t.after clock i
      (see_one (own_look (at_of t) received All) t.after i x o))
      (kept_there names rising clock i member (waits ts begun) errors t.before o.systems tracks.stands)

  -- nobody receives time
  pub own_step : (o : WatchState) → Tracks summary offsets from names begun errors ts t.before o
      → received_by t.told.done ≡ None → behind_it (see_system (at_of t) t.after clock false All o)
  own_step o tracks nobody =
      let none : (name : ℕ) → receives name t ≡ false =
      λ name. ap (λ r. option_map_or (λ c. c == name) r false) nobody in
      subst behind_it (sym (sees o false tracks))
      (nothing_received summary offsets from names rising begun errors ts t (looked_at false o)
      (takes o false tracks (none clock))
      (λ name. ap (λ r. if r then
      error_after (counts_from from (at_of t)) (errors name) (option_map unsigned_abs (error_at name t))
      else errors name) (none name))
      (ap (option_and_then (λ name. option_map (λ e. one_at name (unsigned_abs e)) (error_at name t))) nobody))

  -- it receives time
  pub receipt_step : (o : WatchState) → Tracks summary offsets from names begun errors ts t.before o
      → received_by t.told.done ≡ Some clock → behind_it (see_system (at_of t) t.after clock true All o)
  receipt_step o tracks it =
      subst behind_it (sym (sees o true tracks)) (by (live_system clock t.after) refl)
    where
      own : receives clock t ≡ true
      own = ap (λ r. option_map_or (λ c. c == clock) r false) it ∙ grind (arith, nat_tests)

      error_is : (live : Option SystemState) → live_system clock t.after ≡ live
          → error_at clock t ≡ option_and_then (λ s. offset_error (at_of t) s t.after) live
      error_is live is = ap (option_and_then (λ s. offset_error (at_of t) s t.after)) is

      worst : (e : Option ℤ) → error_at clock t ≡ e
          → error_in t ≡ option_map (λ e. one_at clock (unsigned_abs e)) e
      worst e is =
          ap (option_and_then (λ name. option_map (λ e. one_at name (unsigned_abs e)) (error_at name t))) it
          ∙ ap (option_map (λ e. one_at clock (unsigned_abs e))) is

      no_error : live_system clock t.after ≡ None → (name : ℕ) → errors_next from t errors name ≡ errors name
      no_error none name = by_name (clock == name) refl
        where
          by_name : (same : Bool) → clock == name ≡ same → errors_next from t errors name ≡ errors name
          by_name true test =
              let is : clock ≡ name = grind (arith, nat_tests) in
              ap (λ r. if r then
              error_after (counts_from from (at_of t)) (errors name) (option_map unsigned_abs (error_at name t))
              else errors name) (ap (λ r. option_map_or (λ c. c == name) r false) it ∙ test)
              ∙ ap (λ e. error_after (counts_from from (at_of t)) (errors name) (option_map unsigned_abs e))
              (ap (λ n. error_at n t) (sym is) ∙ error_is None none)
          by_name false test =
              ap (λ r. if r then
              error_after (counts_from from (at_of t)) (errors name) (option_map unsigned_abs (error_at name t))
              else errors name) (ap (λ r. option_map_or (λ c. c == name) r false) it ∙ test)

      by : (live : Option SystemState) → live_system clock t.after ≡ live
          → behind_it (see_receipt_if true (at_of t) t.after clock i (looked_at true o))
      by None is =
          subst behind_it (sym (ap (λ l. see_receipt_of (at_of t) t.after i l (looked_at true o)) is))
          (nothing_received summary offsets from names rising begun errors ts t (looked_at true o)
          (takes o true tracks own) (no_error is) (worst None (error_is None is)))
      by (Some s) is =
          subst behind_it (sym (ap (λ l. see_receipt_of (at_of t) t.after i l (looked_at true o)) is))
          (received_one summary offsets from names rising begun errors ts t (looked_at true o) i clock
          (offset_error (at_of t) s t.after) (takes o true tracks own) member own quiet (error_is (Some s) is)
          (worst (offset_error (at_of t) s t.after) (error_is (Some s) is)))

  -- ---- its lines

  -- what is another at it is what is another at all
  pub own_changes : all_changes names t ≡ change_lines (at_of t) clock (shown clock t.before) (shown clock t.after)
  own_changes =
      flat_one (λ name. change_lines (at_of t) name (shown name t.before) (shown name t.after)) names i clock member
      (λ j n there apart.
      ap (change_lines (at_of t) n (shown n t.before))
      (others n (λ same. apart (place_once names j i n clock rising there member same)))
      ∙ no_change_lines (at_of t) n (shown n t.before))

  receipt_told : (live : Option SystemState) → live_system clock t.after ≡ live
      → receipt_lines_of (at_of t) t.after clock live ≡ stretch_receipt_lines clock t live
  receipt_told None is = refl
  receipt_told (Some s) is =
      ap (λ e. offset_line (at_of t) clock s.offset e ∷ [])
      (sym (ap (option_and_then (λ x. offset_error (at_of t) x t.after)) is))

  pub own_lines : (o : WatchState) (received : Bool) → Tracks summary offsets from names begun errors ts t.before o
      → watched_lines (at_of t) t.after clock received All o
      ≡ unless summary (all_changes names t)
      ++ (if received then unless (not offsets) (stretch_receipt_lines clock t (live_system clock t.after)) else [])
  own_lines o received tracks =
      ap (λ p. placed_lines (at_of t) t.after clock received All p o)
      (kept_place names rising clock i member (waits ts begun) errors t.before o.systems tracks.stands)
      ∙ ap (λ x. unless o.summary (one_lines (own_look (at_of t) received All) t.after x)
      ++ receipt_lines_if received (at_of t) t.after clock o)
      (kept_there names rising clock i member (waits ts begun) errors t.before o.systems tracks.stands)
      ∙ ap (λ s. unless s (change_lines (at_of t) clock (shown clock t.before) (shown clock t.after))
      ++ receipt_lines_if received (at_of t) t.after clock o) tracks.summary_is
      ∙ ap (λ ls. unless summary ls ++ receipt_lines_if received (at_of t) t.after clock o) (sym own_changes)
      ∙ ap (λ a. unless summary (all_changes names t) ++ (if received then
      unless (not a) (receipt_lines_of (at_of t) t.after clock (live_system clock t.after)) else [])) tracks.offsets_is
      ∙ ap (λ ls. unless summary (all_changes names t) ++ (if received then unless (not offsets) ls else []))
      (receipt_told (live_system clock t.after) refl)
