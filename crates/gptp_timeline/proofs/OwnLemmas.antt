-- What an observer keeps after a delivery or an expiry at one system.
use Rattle.std.proofs.Common.{◌≡◌, ℕ, Bool, true, false, not, List, [], ◌∷◌, ◌++◌, Option, Some, None, option_map, slice_get, slice_set, refl, sym, ap, subst, ◌∙◌}
use Rattle.gptp_graph.specs.Order.{IsRising}
use Rattle.gptp_world.specs.Transitions.{ActTrace}
use Rattle.gptp_timeline.specs.Measures.{better_if, ended_by, greatest, greatest_from, last_if, one_at}
use Rattle.gptp_timeline.specs.Shown.{is_expecting, same_choice, same_roles, shown}
use Rattle.gptp_timeline.specs.Stretch.{at_of, ended, ended_in, is_event, last_at, leaves_another, receives, same_known, waits, worst_error}
use Rattle.gptp_timeline.specs.Watch.{measures_after, own_look, taken, wait_behind, watched_after, WatchState}
use Rattle.gptp_timeline.specs.declared.compared.Compared.TheVariants.{All}
use Rattle.gptp_timeline.specs.declared.measures.Greatest.{Greatest}
use Rattle.gptp_timeline.specs.declared.shown.Shown.{Shown}
use Rattle.gptp_timeline.specs.declared.watched.Watched.{Watched}
use Rattle.gptp_timeline.proofs.MeasuredLemmas.{any_one, better_one, last_more, longest_more, waits_more}
use Rattle.gptp_timeline.proofs.SameLemmas.{choice_itself, known_itself, roles_itself}
use Rattle.gptp_timeline.proofs.StandLemmas.{from_map, kept, one, place_once, Stands}
use Rattle.gptp_timeline.proofs.StepLemmas.{measured_by, Tracks}
use Rattle.gptp_timeline.proofs.TrackLemmas.{made, same_made}

not_not : (b : Bool) → not (not b) ≡ b
not_not true = refl
not_not false = refl

-- no wait of a system ends that is passed over
passed_wait : (at : ℕ) (by_event after : Bool) (since : Option ℕ) → (after ≡ false → since ≡ None)
    → ended_by at by_event false after since ≡ None
passed_wait at true after None still = refl
passed_wait at true after (Some since) still = refl
passed_wait at false true None still = refl
passed_wait at false true (Some since) still = refl
passed_wait at false false since still = ap (ended_by at false false false) (still refl)

module _ (names : List ℕ) (rising : IsRising names) (t : ActTrace) (clock place : ℕ)
    (here : slice_get names place ≡ Some clock)
    (others : (name : ℕ) → (name ≡ clock → ⊥) → shown name t.after ≡ shown name t.before) where
  apart_from : (i n : ℕ) → slice_get names i ≡ Some n → (i ≡ place → ⊥) → n ≡ clock → ⊥
  apart_from i n there apart same = apart (place_once names i place n clock rising there here same)

  -- whether an act left the same is told by the one system
  pub same_by_one : (same : Option Shown → Option Shown → Bool) → ((s : Option Shown) → same s s ≡ true)
      → not (leaves_another same names t) ≡ same (shown clock t.before) (shown clock t.after)
  same_by_one same itself =
      ap not (any_one (λ name. not (same (shown name t.before) (shown name t.after))) names place clock here
      (λ i n there apart. ap (λ s. not (same (shown n t.before) s)) (others n (apart_from i n there apart))
      ∙ ap not (itself (shown n t.before))))
      ∙ not_not (same (shown clock t.before) (shown clock t.after))

  -- the wait that it ended is that of the one system
  pub wait_by_one : (since : ℕ → Option ℕ) (best : Option Greatest)
      → ((name : ℕ) → is_expecting (shown name t.before) ≡ false → since name ≡ None)
      → ((name : ℕ) → (name ≡ clock → ⊥) → receives name t ≡ false)
      → greatest_from best (ended_in names since t)
      ≡ better_if best (option_map (one_at clock) (ended_by (at_of t) (is_event t) (receives clock t)
      (is_expecting (shown clock t.after)) (since clock)))
  wait_by_one since best still quiet =
      better_one _ names place clock best here (λ i n there apart.
      let differs = apart_from i n there apart in
      ap (λ r. option_map (one_at n) (ended_by (at_of t) (is_event t) r (is_expecting (shown n t.after)) (since n)))
      (quiet n differs)
      ∙ ap (λ s. option_map (one_at n) (ended_by (at_of t) (is_event t) false (is_expecting s) (since n)))
      (others n differs)
      ∙ ap (option_map (one_at n)) (passed_wait (at_of t) (is_event t) (is_expecting (shown n t.before)) (since n)
      (still n)))

module _ (summary offsets : Bool) (from : Option ℕ) (names : List ℕ) (rising : IsRising names) (begun : ℕ → Option ℕ)
  where
    -- before the error of a receipt is taken: what is kept of the system and what is measured, but of errors
    pub record TakesOne (errors : ℕ → Option ℕ) (ts : List ActTrace) (t : ActTrace) (o : WatchState) : Type 0 where
      pub summary_is : o.summary ≡ summary
      pub offsets_is : o.offsets ≡ offsets
      pub from_is : o.exact_from ≡ from
      pub stands : Stands names (waits (ts ++ t ∷ []) begun) errors t.after o.systems
      pub measures_are : o.measures ≡ made (last_at (leaves_another same_choice names) (ts ++ t ∷ []))
          (last_at (leaves_another same_roles names) (ts ++ t ∷ []))
          (last_at (leaves_another same_known names) (ts ++ t ∷ [])) (greatest (ended names begun (ts ++ t ∷ [])))
          (worst_error ts)

    pub own_taken : (errors : ℕ → Option ℕ) (ts : List ActTrace) (t : ActTrace) (o : WatchState)
        (received : Bool) (place clock : ℕ) (x : Watched) → Tracks summary offsets from names begun errors ts t.before o
        → is_event t ≡ false → slice_get o.systems place ≡ Some x → x.clock ≡ clock
        → ((name : ℕ) → (name ≡ clock → ⊥) → shown name t.after ≡ shown name t.before)
        → ((name : ℕ) → (name ≡ clock → ⊥) → receives name t ≡ false) → receives clock t ≡ received
        → TakesOne errors ts t (taken (own_look (at_of t) received All) place x (shown x.clock t.after) o)
    own_taken errors ts t o received place clock x tracks act there named others quiet own =
        let look = own_look (at_of t) received All in
        let since = waits ts begun in
        let (name, here, is) = from_map (kept since errors t.before) names place x
        (ap (λ xs. slice_get xs place) (sym tracks.stands.are) ∙ there) in
        let own_name : name ≡ clock = ap (λ (y : Watched). y.clock) is ∙ named in
        let at_clock : slice_get names place ≡ Some clock = here ∙ ap Some own_name in
        let x_is : kept since errors t.before clock ≡ x = ap (kept since errors t.before) (sym own_name) ∙ is in
        let wait : wait_behind look (kept since errors t.before clock) (shown clock t.after)
        ≡ option_map (one_at clock) (ended_by (at_of t) (is_event t) (receives clock t)
        (is_expecting (shown clock t.after)) (since clock)) =
        ap (λ e. option_map (one_at clock) (ended_by (at_of t) e received
        (is_expecting (shown clock t.after)) (since clock))) (sym act)
        ∙ ap (λ r. option_map (one_at clock) (ended_by (at_of t) (is_event t) r
        (is_expecting (shown clock t.after)) (since clock))) (sym own) in
        let m = measured_by summary offsets from names begun ts in
        let left : List Watched = slice_set o.systems place (watched_after look (shown x.clock t.after) x) in
        record {
          summary_is = tracks.summary_is;
          offsets_is = tracks.offsets_is;
          from_is = tracks.from_is;
          stands = subst (λ s. Stands names s errors t.after left) (sym (waits_more ts (t ∷ []) begun))
              (one since errors t.before t.after (at_of t) (λ n. receives n t) names o.systems tracks.stands look place
              clock x rising there named refl (sym own) others quiet);
          measures_are =
              ap (λ (y : Watched). measures_after look y (shown y.clock t.after) o.measures) (sym x_is)
              ∙ ap (measures_after look (kept since errors t.before clock) (shown clock t.after)) tracks.measures_are
              ∙ ap (λ w. made (last_if (same_choice (shown clock t.before) (shown clock t.after)) (at_of t) m.choice)
              (last_if (same_roles (shown clock t.before) (shown clock t.after)) (at_of t) m.roles)
              (last_if (same_known (shown clock t.before) (shown clock t.after)) (at_of t) m.offsets)
              (better_if m.holdover w) m.error) wait
              ∙ same_made _ _ _ _ _ _ _ m.error
              (ap (λ s. last_if s (at_of t) m.choice)
              (sym (same_by_one names rising t clock place at_clock others same_choice choice_itself))
              ∙ sym (last_more (leaves_another same_choice names) ts t))
              (ap (λ s. last_if s (at_of t) m.roles)
              (sym (same_by_one names rising t clock place at_clock others same_roles roles_itself))
              ∙ sym (last_more (leaves_another same_roles names) ts t))
              (ap (λ s. last_if s (at_of t) m.offsets)
              (sym (same_by_one names rising t clock place at_clock others same_known known_itself))
              ∙ sym (last_more (leaves_another same_known names) ts t))
              ∙ ap (λ h. made (last_at (leaves_another same_choice names) (ts ++ t ∷ []))
              (last_at (leaves_another same_roles names) (ts ++ t ∷ []))
              (last_at (leaves_another same_known names) (ts ++ t ∷ [])) h (worst_error ts))
              (sym (longest_more names begun ts t
              ∙ wait_by_one names rising t clock place at_clock others since (greatest (ended names begun ts))
              tracks.stands.still quiet));
        }
