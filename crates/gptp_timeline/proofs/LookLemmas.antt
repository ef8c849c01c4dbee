-- What is kept and told of one system that is looked at after an act, by its state.
use Rattle.std.proofs.Common.{◌≡◌, ℕ, Bool, true, false, not, List, [], ◌++◌, Option, Some, None, if◌then◌else◌, slice_get, length, refl, sym, ap, ◌∙◌, append-nil}
use Rattle.std.proofs.lemmas.List.{length-set}
use Rattle.gptp_model.specs.World.{WorldState}
use Rattle.gptp_system.specs.State.{SystemState}
use Rattle.gptp_words.specs.Lines.{text_of}
use Rattle.gptp_timeline.specs.Compared.{left_by}
use Rattle.gptp_timeline.specs.Changes.{change_lines}
use Rattle.gptp_timeline.specs.Shown.{live_system}
use Rattle.gptp_timeline.specs.Watch.{lines_at, one_lines, own_look, placed_lines, receipt_lines_if, receipt_lines_of, see_at, see_one, see_placed, see_receipt_if, see_receipt_of, taken, unless, watched_after, WatchState}
use Rattle.gptp_timeline.specs.declared.compared.Compared.{Compared}
use Rattle.gptp_timeline.specs.declared.shown.Shown.{Shown}
use Rattle.gptp_timeline.specs.declared.watched.ActView.{ActView}
use Rattle.gptp_timeline.specs.declared.watched.Watched.{Watched}
use Rattle.gptp_timeline.proofs.LineLemmas.{lines_on}

-- as many systems are kept
pub taken_count : (look : ActView) (place : ℕ) (x : Watched) (after : Option Shown) (o : WatchState)
    → length (taken look place x after o).systems ≡ length o.systems
taken_count look place x after o = length-set o.systems place (watched_after look after x)

module _ (look : ActView) (w : WorldState) (place : ℕ) (x : Watched) (o : WatchState)
    (there : slice_get o.systems place ≡ Some x) (live : Option SystemState) (is : live_system x.clock w ≡ live) where
  pub sees_it : see_at look w place o ≡ taken look place x (left_by look.compared live x.shown) o
  sees_it =
      ap (λ y. see_one look w place y o) there ∙ ap (λ l. taken look place x (left_by look.compared l x.shown) o) is

  pub tells_it : lines_at look w place o
      ≡ unless o.summary (change_lines look.at x.clock x.shown (left_by look.compared live x.shown))
  tells_it =
      ap (λ y. unless o.summary (one_lines look w y)) there
      ∙ ap (λ l. unless o.summary (change_lines look.at x.clock x.shown (left_by look.compared l x.shown))) is

-- ---- a delivery or an expiry at the system with a clock

no_receipt : {X : Type 0} (received : Bool) (x : X) → (if received then x else x) ≡ x
no_receipt true x = refl
no_receipt false x = refl

nothing_told : (received left_out : Bool) → (if received then unless left_out [] else []) ≡ []
nothing_told true true = refl
nothing_told true false = refl
nothing_told false left_out = refl

module _ (at : ℕ) (w : WorldState) (clock : ℕ) (received : Bool) (compared : Compared)
    (place : ℕ) (x : Watched) (o : WatchState)
    (there : slice_get o.systems place ≡ Some x) (named : x.clock ≡ clock) where
  abbrev look : ActView
  look = own_look at received compared

  own : (live : Option SystemState) → live_system clock w ≡ live → live_system x.clock w ≡ live
  own live is = ap (λ n. live_system n w) named ∙ is

  -- it lives: it is looked at, and then its receipt
  module _ (s : SystemState) (live : live_system clock w ≡ Some s) (between : WatchState)
      (first : between ≡ taken look place x (left_by compared (Some s) x.shown) o) where
    pub sees_placed : (after : WatchState)
        → after ≡ (if received then see_receipt_of at w place (Some s) between else between)
        → after ≡ see_placed at w clock received compared (Some place) o
    sees_placed after second =
        second
        ∙ sym (ap (λ l. if received then see_receipt_of at w place l between else between) live)
        ∙ ap (see_receipt_if received at w clock place)
        (first ∙ sym (sees_it look w place x o there (Some s) (own (Some s) live)))

    pub tells_placed : (text mid after : List ℕ)
        → mid ≡ text ++ text_of (unless o.summary (change_lines at x.clock x.shown (left_by compared (Some s) x.shown)))
        → after ≡ mid ++ text_of (if received then unless (not between.offsets) (receipt_lines_of at w clock (Some s))
        else [])
        → after ≡ text ++ text_of (placed_lines at w clock received compared (Some place) o)
    tells_placed text mid after changes receipt =
        lines_on text mid after (lines_at look w place o) (receipt_lines_if received at w clock o)
        (changes ∙ ap (λ ls. text ++ text_of ls)
        (sym (tells_it look w place x o there (Some s) (own (Some s) live))))
        (receipt
        ∙ ap (λ (v : WatchState). mid ++ text_of (if received then
        unless (not v.offsets) (receipt_lines_of at w clock (Some s)) else [])) first
        ∙ ap (λ l. mid ++ text_of (if received then unless (not o.offsets) (receipt_lines_of at w clock l) else []))
        (sym live))

  -- it doesn't: there is no receipt
  module _ (none : live_system clock w ≡ None) where
    pub sees_none_placed : (after : WatchState) → after ≡ taken look place x (left_by compared None x.shown) o
        → after ≡ see_placed at w clock received compared (Some place) o
    sees_none_placed after left =
        left ∙ sym (sees_it look w place x o there None (own None none))
        ∙ sym (no_receipt received (see_at look w place o))
        ∙ sym (ap (λ l. if received then see_receipt_of at w place l (see_at look w place o) else see_at look w place o)
        none)

    pub tells_none_placed : (text after : List ℕ)
        → after ≡ text ++ text_of (unless o.summary (change_lines at x.clock x.shown (left_by compared None x.shown)))
        → after ≡ text ++ text_of (placed_lines at w clock received compared (Some place) o)
    tells_none_placed text after changes =
        changes
        ∙ ap (λ ls. text ++ text_of ls)
        (sym (tells_it look w place x o there None (own None none)) ∙ sym (append-nil (lines_at look w place o))
        ∙ ap (λ ls. lines_at look w place o ++ ls)
        (sym (ap (λ l. if received then unless (not o.offsets) (receipt_lines_of at w clock l) else []) none
        ∙ nothing_told received (not o.offsets))))
