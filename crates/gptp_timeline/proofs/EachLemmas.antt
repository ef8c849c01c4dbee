-- Systems that are looked at one after another.
use Rattle.std.proofs.Common.{◌≡◌, ◌<◌, ◌+◌, ◌-◌, ℕ, suc, List, [], ◌∷◌, ◌++◌, length, map, Option, Some, None, slice_get, slice_set, refl, sym, ap, subst, ◌∙◌, append_assoc, length-append, arith}
use Rattle.std.specs.List.{range_with_len}
use Rattle.std.proofs.lemmas.List.{length-set}
use Rattle.gptp_words.specs.Lines.{text_of}
use Rattle.gptp_model.specs.World.{WorldState}
use Rattle.gptp_timeline.specs.Watch.{lines_at, lines_each, measures_after, see_all, see_at, see_each, see_one, watched_after, WatchState, left_at}
use Rattle.gptp_timeline.specs.declared.measures.Measures.{Measures}
use Rattle.gptp_timeline.specs.declared.watched.ActView.{ActView}
use Rattle.gptp_timeline.specs.declared.watched.Watched.{Watched}
use Rattle.gptp_timeline.proofs.LineLemmas.{written_more, WrittenSoFar}

-- what comes after others
pub at_seam : {X : Type 0} (front : List X) (x : X) (back : List X)
    → slice_get (front ++ x ∷ back) (length front) ≡ Some x
at_seam [] x back = refl
at_seam (y ∷ front) x back = at_seam front x back

pub set_at_seam : {X : Type 0} (front : List X) (x y : X) (back : List X)
    → slice_set (front ++ x ∷ back) (length front) y ≡ front ++ y ∷ back
set_at_seam [] x y back = refl
set_at_seam (z ∷ front) x y back = ap (λ t. z ∷ t) (set_at_seam front x y back)

module _ (look : ActView) (w : WorldState) where
  abbrev pub behind : Watched → Watched
  behind x = watched_after look (left_at look w x) x

  -- what is measured of several, one after another
  abbrev pub measured_each : List Watched → Measures → Measures
  measured_each [] m = m
  measured_each (x ∷ xs) m = measured_each xs (measures_after look x (left_at look w x) m)

  -- after those that were looked at, all that are left are
  pub each_looked : (front back : List Watched) (o : WatchState) → o.systems ≡ front ++ back
      → see_each look w (range_with_len (length front) (length back)) o
      ≡ record o { systems = front ++ map behind back; measures = measured_each back o.measures }
  each_looked front [] o are = ap (λ xs. record o { systems = xs }) are
  each_looked front (x ∷ back) o are =
      let here : slice_get o.systems (length front) ≡ Some x =
      ap (λ xs. slice_get xs (length front)) are ∙ at_seam front x back in
      let seen : see_at look w (length front) o ≡ record o {
        systems = slice_set o.systems (length front) (behind x);
        measures = measures_after look x (left_at look w x) o.measures;
      } = ap (λ y. see_one look w (length front) y o) here in
      let set : slice_set o.systems (length front) (behind x) ≡ (front ++ behind x ∷ []) ++ back =
      ap (λ xs. slice_set xs (length front) (behind x)) are ∙ set_at_seam front x (behind x) back
      ∙ sym (append_assoc front (behind x ∷ []) back) in
      let count : length front + 1 ≡ length (front ++ behind x ∷ []) = sym (length-append front (behind x ∷ [])) in
      let next = each_looked (front ++ behind x ∷ []) back
      (record o {
        systems = slice_set o.systems (length front) (behind x);
        measures = measures_after look x (left_at look w x) o.measures;
      }) set in
      ap (see_each look w (range_with_len (length front + 1) (length back))) seen
      ∙ ap (λ k. see_each look w (range_with_len k (length back)) (record o {
        systems = slice_set o.systems (length front) (behind x);
        measures = measures_after look x (left_at look w x) o.measures;
      })) count
      ∙ next
      ∙ ap (λ xs. record o {
        systems = xs;
        measures = measured_each back (measures_after look x (left_at look w x) o.measures);
      }) (append_assoc front (behind x ∷ []) (map behind back))

  pub all_looked : (o : WatchState) → see_all look w o
      ≡ record o { systems = map behind o.systems; measures = measured_each o.systems o.measures }
  all_looked o = each_looked [] o.systems o refl

-- ---- one after another, in a loop

-- the places from one on are that, and those from the next on
pub range_next : (place n : ℕ) → place < n
    → range_with_len place (n - place) ≡ place ∷ range_with_len (place + 1) (n - (place + 1))
range_next place n below =
    let e : n - place ≡ suc (n - (place + 1)) = omega arith in
    rw e refl

-- as many systems are kept after one is looked at
pub same_count : (look : ActView) (w : WorldState) (place : ℕ) (o : WatchState)
    → length (see_at look w place o).systems ≡ length o.systems
same_count look w place o = by (slice_get o.systems place)
  where
    by : (x : Option Watched) → length (see_one look w place x o).systems ≡ length o.systems
    by None = refl
    by (Some x) = length-set o.systems place (watched_after look (left_at look w x) x)

-- one more is looked at
module _ (look : ActView) (w : WorldState) (all : List (List ℕ)) (place n : ℕ) (below : place < n) (o next : WatchState)
    (is : next ≡ see_at look w place o) where
  pub sees_more : (end : WatchState) → see_each look w (range_with_len place (n - place)) o ≡ end
      → see_each look w (range_with_len (place + 1) (n - (place + 1))) next ≡ end
  sees_more end so_far =
      ap (see_each look w (range_with_len (place + 1) (n - (place + 1)))) is
      ∙ sym (ap (λ r. see_each look w r o) (range_next place n below)) ∙ so_far

  pub tells_more : (before text after : List ℕ)
      → WrittenSoFar all (lines_each look w (range_with_len place (n - place)) o) before text
      → after ≡ text ++ text_of (lines_at look w place o)
      → WrittenSoFar all (lines_each look w (range_with_len (place + 1) (n - (place + 1))) next) before after
  tells_more before text after so_far new =
      written_more all (lines_at look w place o) _ before text after
      (subst (λ rest. WrittenSoFar all rest before text)
      (ap (λ r. lines_each look w r o) (range_next place n below)
      ∙ ap (λ v. lines_at look w place o ++ lines_each look w (range_with_len (place + 1) (n - (place + 1))) v)
      (sym is)) so_far) new
