-- What an observer keeps and tells is what is defined over the acts: after each act.
use Rattle.std.proofs.Common.{◌≡◌, ◌||◌, ℕ, Bool, true, false, not, List, [], ◌∷◌, ◌++◌, map, Option, Some, None, slice_get, slice_set, refl, sym, ap, ◌∙◌, append_assoc, length-append, length, ◌+◌}
use Rattle.std.specs.List.{flat_map, list_any, range_with_len}
use Rattle.gptp_model.specs.World.{WorldState}
use Rattle.gptp_timeline.specs.Changes.{change_lines}
use Rattle.gptp_timeline.specs.Measures.{last_if}
use Rattle.gptp_timeline.specs.Shown.{same_choice, same_roles, shown}
use Rattle.gptp_timeline.specs.Stretch.{same_known}
use Rattle.gptp_timeline.specs.Watch.{lines_all, lines_each, measures_after, one_lines, see_at, see_one, unless, WatchState, event_look, left_at}
use Rattle.gptp_timeline.specs.declared.measures.Greatest.{Greatest}
use Rattle.gptp_timeline.specs.declared.measures.Measures.{Measures}
use Rattle.gptp_timeline.specs.declared.shown.Shown.{Shown}
use Rattle.gptp_timeline.specs.declared.watched.ActView.{ActView}
use Rattle.gptp_timeline.specs.declared.watched.Watched.{Watched}
use Rattle.gptp_timeline.proofs.EachLemmas.{at_seam, behind, measured_each, set_at_seam}
use Rattle.gptp_timeline.proofs.StandLemmas.{kept}

-- ---- the last change at several systems

last_both : (same any : Bool) (at : ℕ) (last : Option ℕ)
    → last_if (not any) at (last_if same at last) ≡ last_if (not (not same || any)) at last
last_both true any at last = refl
last_both false true at last = refl
last_both false false at last = refl

abbrev pub made : Option ℕ → Option ℕ → Option ℕ → Option Greatest → Option Greatest → Measures
made choice roles offsets holdover error = record {
  choice = choice;
  roles = roles;
  offsets = offsets;
  holdover = holdover;
  error = error;
}

pub same_made : (a b c a' b' c' : Option ℕ) (h e : Option Greatest) → a ≡ a' → b ≡ b' → c ≡ c'
    → made a b c h e ≡ made a' b' c' h e
same_made a b c a' b' c' h e x y z =
    ap (λ v. made v b c h e) x ∙ ap (λ v. made a' v c h e) y ∙ ap (λ v. made a' b' v h e) z

module _ (at : ℕ) (since errors : ℕ → Option ℕ) (w w' : WorldState) where
  -- some of these systems aren't the same
  abbrev pub some_other : (Option Shown → Option Shown → Bool) → List ℕ → Bool
  some_other same names = list_any (λ name. not (same (shown name w) (shown name w'))) names

  -- what an event leaves measured of systems that are looked at one after another
  pub event_measured : (names : List ℕ) (m : Measures)
      → measured_each (event_look at) w' (map (kept since errors w) names) m
      ≡ made (last_if (not (some_other same_choice names)) at m.choice)
      (last_if (not (some_other same_roles names)) at m.roles)
      (last_if (not (some_other same_known names)) at m.offsets) m.holdover m.error
  event_measured [] m = refl
  event_measured (n ∷ ns) m =
      ap (measured_each (event_look at) w' (map (kept since errors w) ns)) (first (since n))
      ∙ event_measured ns (made (last_if (same_choice (shown n w) (shown n w')) at m.choice)
      (last_if (same_roles (shown n w) (shown n w')) at m.roles)
      (last_if (same_known (shown n w) (shown n w')) at m.offsets) m.holdover m.error)
      ∙ same_made _ _ _ _ _ _ m.holdover m.error
      (last_both (same_choice (shown n w) (shown n w')) (some_other same_choice ns) at m.choice)
      (last_both (same_roles (shown n w) (shown n w')) (some_other same_roles ns) at m.roles)
      (last_both (same_known (shown n w) (shown n w')) (some_other same_known ns) at m.offsets)
    where
      first : (begun : Option ℕ)
          → measures_after (event_look at) (record { clock = n; shown = shown n w; since = begun; error = errors n })
          (shown n w') m
          ≡ made (last_if (same_choice (shown n w) (shown n w')) at m.choice)
          (last_if (same_roles (shown n w) (shown n w')) at m.roles)
          (last_if (same_known (shown n w) (shown n w')) at m.offsets) m.holdover m.error
      first None = refl
      first (Some begun) = refl

-- ---- the lines of several systems

module _ (look : ActView) (w : WorldState) where
  -- the lines of the systems after others that were looked at
  pub each_lines : (front back : List Watched) (o : WatchState) → o.systems ≡ front ++ back
      → lines_each look w (range_with_len (length front) (length back)) o
      ≡ flat_map (λ (x : Watched). unless o.summary (change_lines look.at x.clock x.shown (left_at look w x))) back
  each_lines front [] o are = refl
  each_lines front (x ∷ back) o are =
      let here : slice_get o.systems (length front) ≡ Some x =
      ap (λ xs. slice_get xs (length front)) are ∙ at_seam front x back in
      let after : WatchState = record o {
        systems = slice_set o.systems (length front) (behind look w x);
        measures = measures_after look x (left_at look w x) o.measures;
      } in
      let seen : see_at look w (length front) o ≡ after =
      ap (λ y. see_one look w (length front) y o) here in
      let set : slice_set o.systems (length front) (behind look w x) ≡ (front ++ behind look w x ∷ []) ++ back =
      ap (λ xs. slice_set xs (length front) (behind look w x)) are ∙ set_at_seam front x (behind look w x) back
      ∙ sym (append_assoc front (behind look w x ∷ []) back) in
      let count : length front + 1 ≡ length (front ++ behind look w x ∷ []) =
      sym (length-append front (behind look w x ∷ [])) in
      ap (λ y. unless o.summary (one_lines look w y)
      ++ lines_each look w (range_with_len (length front + 1) (length back)) (see_at look w (length front) o)) here
      ∙ ap (λ v. unless o.summary (change_lines look.at x.clock x.shown (left_at look w x))
      ++ lines_each look w (range_with_len (length front + 1) (length back)) v) seen
      ∙ ap (λ k. unless o.summary (change_lines look.at x.clock x.shown (left_at look w x))
      ++ lines_each look w (range_with_len k (length back)) after) count
      ∙ ap (λ rest. unless o.summary (change_lines look.at x.clock x.shown (left_at look w x)) ++ rest)
      (each_lines (front ++ behind look w x ∷ []) back after set)

  pub all_seen_lines : (o : WatchState) → lines_all look w o
      ≡ flat_map (λ (x : Watched). unless o.summary (change_lines look.at x.clock x.shown (left_at look w x))) o.systems
  all_seen_lines o = each_lines [] o.systems o refl

-- lines that are left out of each are left out of all
pub unless_each : (summary : Bool) (f : ℕ → List (List ℕ)) (names : List ℕ)
    → flat_map (λ name. unless summary (f name)) names ≡ unless summary (flat_map f names)
unless_each true f [] = refl
unless_each true f (n ∷ ns) = unless_each true f ns
unless_each false f names = refl

pub unless_both : (summary : Bool) (xs ys : List (List ℕ)) → unless summary xs ++ unless summary ys
    ≡ unless summary (xs ++ ys)
unless_both true xs ys = refl
unless_both false xs ys = refl

-- the lines of what is kept are the lines of the names
pub kept_lines : (since errors : ℕ → Option ℕ) (w w' : WorldState) (at : ℕ) (summary : Bool) (names : List ℕ)
    → flat_map (λ (x : Watched). unless summary (change_lines at x.clock x.shown (shown x.clock w')))
    (map (kept since errors w) names)
    ≡ flat_map (λ name. unless summary (change_lines at name (shown name w) (shown name w'))) names
kept_lines since errors w w' at summary [] = refl
kept_lines since errors w w' at summary (n ∷ ns) =
    ap (λ rest. unless summary (change_lines at n (shown n w) (shown n w')) ++ rest)
    (kept_lines since errors w w' at summary ns)
