-- What an observer keeps of each system is what is defined over the acts.
use Rattle.std.proofs.Common.{◌≡◌, ℕ, zero, suc, Bool, true, false, List, [], ◌∷◌, map, Option, Some, None, slice_get, slice_set, refl, sym, ap, ◌∙◌, arith}
use Rattle.std.proofs.lemmas.Option.{same_Some}
use Rattle.gptp_model.specs.World.{WorldState}
use Rattle.gptp_graph.specs.Order.{IsRising}
use Rattle.gptp_lists.proofs.SystemSpecLemmas.{In-slice_get}
use Rattle.gptp_timeline.specs.Measures.{since_after}
use Rattle.gptp_timeline.specs.Shown.{is_expecting, shown}
use Rattle.gptp_timeline.specs.Watch.{watched_after}
use Rattle.gptp_timeline.specs.declared.shown.Shown.{Shown}
use Rattle.gptp_timeline.specs.declared.watched.ActView.{ActView}
use Rattle.gptp_timeline.specs.declared.watched.Watched.{Watched}

-- ---- lists of what is kept for each name

pub map_same : {X : Type 0} (f g : ℕ → X) (names : List ℕ)
    → ((i n : ℕ) → slice_get names i ≡ Some n → g n ≡ f n) → map f names ≡ map g names
map_same f g [] same = refl
map_same f g (n ∷ ns) same =
    ap (λ h. h ∷ map f ns) (sym (same zero n refl))
    ∙ ap (λ t. g n ∷ t) (map_same f g ns (λ i m at. same (suc i) m at))

-- one is changed, and no other is another
pub map_set : {X : Type 0} (f g : ℕ → X) (names : List ℕ) (place name : ℕ) → slice_get names place ≡ Some name
    → ((i n : ℕ) → slice_get names i ≡ Some n → (i ≡ place → ⊥) → g n ≡ f n)
    → slice_set (map f names) place (g name) ≡ map g names
map_set f g [] place name there others = absurd cc
map_set f g (n ∷ ns) zero name there others =
    ap (λ m. g m ∷ map f ns) (sym (same_Some n name there))
    ∙ ap (λ t. g n ∷ t) (map_same f g ns (λ i m at. others (suc i) m at (λ e. absurd (omega arith))))
map_set f g (n ∷ ns) (suc place) name there others =
    ap (λ h. h ∷ slice_set (map f ns) place (g name)) (sym (others zero n refl (λ e. absurd (omega arith))))
    ∙ ap (λ t. g n ∷ t)
    (map_set f g ns place name there (λ i m at apart. others (suc i) m at (λ e. apart (omega arith))))

-- ---- what is kept

-- of the system with a clock: what it shows, since when it waits, and its error
abbrev pub kept : (ℕ → Option ℕ) → (ℕ → Option ℕ) → WorldState → ℕ → Watched
kept since errors w name = record { clock = name; shown = shown name w; since = since name; error = errors name }

-- The observer keeps that of all systems; and none waits that doesn't expect time.
pub record Stands (names : List ℕ) (since errors : ℕ → Option ℕ) (w : WorldState) (systems : List Watched) : Type
    0 where
  pub are : systems ≡ map (kept since errors w) names
  pub still : (name : ℕ) → is_expecting (shown name w) ≡ false → since name ≡ None

-- a system that isn't looked at waits on
pub waits_on : (at : ℕ) (expects : Bool) (since : Option ℕ) → (expects ≡ false → since ≡ None)
    → since_after at false expects expects since ≡ since
waits_on at true since still = refl
waits_on at false since still = sym (still refl)

-- a system that doesn't expect time after an act doesn't wait then
pub still_after : (at : ℕ) (received before after : Bool) (since : Option ℕ) → after ≡ false
    → since_after at received before after since ≡ None
still_after at received before after since is = rw is refl

-- ---- names that rise

-- a name stands once among names that rise
pub place_once : (names : List ℕ) (i j a b : ℕ) → IsRising names → slice_get names i ≡ Some a
    → slice_get names j ≡ Some b → a ≡ b → i ≡ j
place_once [] i j a b rising at there same = absurd cc
place_once (n ∷ ns) zero zero a b rising at there same = refl
place_once (n ∷ ns) zero (suc j) a b rising at there same =
    let low = rising.0 b (In-slice_get b ns j there) in
    let is : n ≡ a = same_Some n a at in
    absurd (omega arith)
place_once (n ∷ ns) (suc i) zero a b rising at there same =
    let low = rising.0 a (In-slice_get a ns i at) in
    let is : n ≡ b = same_Some n b there in
    absurd (omega arith)
place_once (n ∷ ns) (suc i) (suc j) a b rising at there same =
    ap suc (place_once ns i j a b rising.1 at there same)

-- what stands at a place is kept of some name
pub from_map : {X : Type 0} (f : ℕ → X) (names : List ℕ) (place : ℕ) (x : X) → slice_get (map f names) place ≡ Some x
    → (name : ℕ) × (slice_get names place ≡ Some name) × (f name ≡ x)
from_map f [] place x there = absurd cc
from_map f (n ∷ ns) zero x there = (n, refl, same_Some (f n) x there)
from_map f (n ∷ ns) (suc place) x there = from_map f ns place x there

-- ---- an act at which systems are looked at

module _ (since errors : ℕ → Option ℕ) (w w' : WorldState) (at : ℕ) (receives : ℕ → Bool) where
  -- since when each system waits after it
  abbrev pub next : ℕ → Option ℕ
  next name = since_after at (receives name) (is_expecting (shown name w)) (is_expecting (shown name w')) (since name)

  abbrev made : ℕ → Option Shown → Option ℕ → Watched
  made name s begun = record { clock = name; shown = s; since = begun; error = errors name }

  -- one that is looked at
  looked : (look : ActView) (name : ℕ) → look.at ≡ at → look.received ≡ receives name
      → watched_after look (shown name w') (kept since errors w name) ≡ kept next errors w' name
  looked look name when received =
      ap (λ t. made name (shown name w') (since_after t look.received (is_expecting (shown name w))
      (is_expecting (shown name w')) (since name))) when
      ∙ ap (λ r. made name (shown name w') (since_after at r (is_expecting (shown name w))
      (is_expecting (shown name w')) (since name))) received

  -- one that isn't, which stays as it is
  passed_over : (name : ℕ) → (is_expecting (shown name w) ≡ false → since name ≡ None) → receives name ≡ false
      → shown name w' ≡ shown name w → kept next errors w' name ≡ kept since errors w name
  passed_over name still quiet same =
      ap (λ s. made name s (since_after at (receives name) (is_expecting (shown name w)) (is_expecting s) (since name)))
      same
      ∙ ap (λ r. made name (shown name w) (since_after at r (is_expecting (shown name w)) (is_expecting (shown name w))
      (since name))) quiet
      ∙ ap (made name (shown name w)) (waits_on at (is_expecting (shown name w)) (since name) still)

  module _ (names : List ℕ) (systems : List Watched) (stands : Stands names since errors w systems) where
    still_next : (name : ℕ) → is_expecting (shown name w') ≡ false → next name ≡ None
    still_next name none =
        still_after at (receives name) (is_expecting (shown name w)) (is_expecting (shown name w')) (since name) none

    -- one system alone is looked at
    pub one : (look : ActView) (place clock : ℕ) (x : Watched) → IsRising names → slice_get systems place ≡ Some x
        → x.clock ≡ clock → look.at ≡ at → look.received ≡ receives clock
        → ((name : ℕ) → (name ≡ clock → ⊥) → shown name w' ≡ shown name w)
        → ((name : ℕ) → (name ≡ clock → ⊥) → receives name ≡ false)
        → Stands names next errors w' (slice_set systems place (watched_after look (shown x.clock w') x))
    one look place clock x rising there named when received same quiet =
        let (name, here, is) = from_map (kept since errors w) names place x
        (ap (λ xs. slice_get xs place) (sym stands.are) ∙ there) in
        let own : name ≡ clock = ap (λ (y : Watched). y.clock) is ∙ named in
        let new = looked look name when (received ∙ ap receives (sym own)) in
        record {
          are = ap (λ (y : Watched). slice_set systems place (watched_after look (shown y.clock w') y)) (sym is)
              ∙ ap (λ xs. slice_set xs place (watched_after look (shown name w') (kept since errors w name))) stands.are
              ∙ ap (slice_set (map (kept since errors w) names) place) new
              ∙ map_set (kept since errors w) (kept next errors w') names place name here
              (λ i other at_i apart. let differs : other ≡ clock → ⊥ =
              (λ e. apart (place_once names i place other name rising at_i here (e ∙ sym own))) in
              passed_over other (stands.still other) (quiet other differs) (same other differs));
          still = still_next;
        }

    -- all are looked at
    pub all : (look : ActView) → look.at ≡ at → ((name : ℕ) → look.received ≡ receives name)
        → Stands names next errors w' (map (λ (x : Watched). watched_after look (shown x.clock w') x) systems)
    all look when received = record {
      are = ap (map (λ (x : Watched). watched_after look (shown x.clock w') x)) stands.are
          ∙ map_both names (λ name. looked look name when (received name));
      still = still_next;
    }
      where
        map_both : (ns : List ℕ)
            → ((name : ℕ) → watched_after look (shown name w') (kept since errors w name) ≡ kept next errors w' name)
            → map (λ (x : Watched). watched_after look (shown x.clock w') x) (map (kept since errors w) ns)
            ≡ map (kept next errors w') ns
        map_both [] each = refl
        map_both (n ∷ ns) each =
            ap (λ h. h ∷ map (λ (x : Watched). watched_after look (shown x.clock w') x) (map (kept since errors w) ns))
            (each n) ∙ ap (λ t. kept next errors w' n ∷ t) (map_both ns each)
