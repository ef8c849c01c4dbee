-- Where the system with a clock stands among those that are kept.
use Rattle.std.proofs.Common.{◌≡◌, ◌<◌, ◌+◌, ◌==◌, ℕ, zero, suc, true, false, List, [], ◌∷◌, length, map, Option, Some, None, IfSome, if◌then◌else◌, Result, Ok, Err, slice_get, slice_set, get_or, take, drop, ◌++◌, subst, refl, sym, ap, ◌∙◌, arith}
use Rattle.std.specs.Cmp.{nat_cmp_total}
use Rattle.std.specs.List.Sorted.{IsBinarySearchResult, IsSearchInRange}
use Rattle.std.specs.Ordering.{nat_cmp}
use Rattle.std.specs.Result.{result_ok}
use Rattle.std.proofs.lemmas.Bool.Decides.{nat_tests}
use Rattle.std.proofs.lemmas.Cmp.{ranked}
use Rattle.std.proofs.lemmas.Option.{same_Some, slice_get-get_or}
use Rattle.std.specs.declared.cmp.Ordering.TheVariants.{Equal}
use Rattle.gptp_lists.proofs.SystemSpecLemmas.{In-slice_get}
use Rattle.gptp_network.proofs.SearchLemmas.{comparisons_rise, found, missing, same_place}
use Rattle.gptp_timeline.specs.StretchText.{error_among}
use Rattle.gptp_timeline.specs.Watch.{place_from, WatchedRise, without_error}
use Rattle.gptp_timeline.specs.declared.watched.Watched.{Watched}

abbrev pub clock_of_watched : Watched → ℕ
clock_of_watched x = x.clock

-- ---- the place that is defined

-- the place of a system whose clock no system before it has
pub place_is : (clock k i : ℕ) (xs : List Watched) (x : Watched) → slice_get xs i ≡ Some x → x.clock ≡ clock
    → ((j : ℕ) (y : Watched) → slice_get xs j ≡ Some y → y.clock ≡ clock → j ≡ i)
    → place_from clock k xs ≡ Some (i + k)
place_is clock k i [] x there is alone = absurd cc
place_is clock k zero (y ∷ ys) x there is alone =
    let same : y ≡ x = same_Some y x there in
    let test : x.clock == clock ≡ true = grind (arith, nat_tests) in
    let count : k ≡ 0 + k = omega arith in
    ap (λ (z : Watched). if z.clock == clock then Some k else place_from clock (k + 1) ys) same
    ∙ rw test (ap Some count)
place_is clock k (suc i) (y ∷ ys) x there is alone =
    let test : y.clock == clock ≡ false = grind (arith, nat_tests, alone zero y refl) in
    let count : i + (k + 1) ≡ suc i + k = omega arith in
    rw test (place_is clock (k + 1) i ys x there is
    (λ j z at e. let s : suc j ≡ suc i = alone (suc j) z at e in omega arith) ∙ ap Some count)

-- there is none where no system has the clock
pub place_none : (clock k : ℕ) (xs : List Watched)
    → ((j : ℕ) (y : Watched) → slice_get xs j ≡ Some y → y.clock ≡ clock → ⊥)
    → place_from clock k xs ≡ None
place_none clock k [] none = refl
place_none clock k (y ∷ ys) none =
    let test : y.clock == clock ≡ false = grind (arith, nat_tests, none zero y refl) in
    rw test (place_none clock (k + 1) ys (λ j z at. none (suc j) z at))

-- ---- the error that is kept of a clock

abbrev pub error_there : Option Watched → Option ℕ
error_there None = None
error_there (Some x) = x.error

abbrev pub error_of_place : List Watched → Result ℕ ℕ → Option ℕ
error_of_place xs (Ok place) = error_there (slice_get xs place)
error_of_place xs (Err gap) = None

error_is : (clock i : ℕ) (xs : List Watched) (x : Watched) → slice_get xs i ≡ Some x → x.clock ≡ clock
    → ((j : ℕ) (y : Watched) → slice_get xs j ≡ Some y → y.clock ≡ clock → j ≡ i)
    → error_among xs clock ≡ x.error
error_is clock i [] x there is alone = absurd cc
error_is clock zero (y ∷ ys) x there is alone =
    let same : y ≡ x = same_Some y x there in
    let test : x.clock == clock ≡ true = grind (arith, nat_tests) in
    ap (λ (z : Watched). if z.clock == clock then z.error else error_among ys clock) same ∙ rw test refl
error_is clock (suc i) (y ∷ ys) x there is alone =
    let test : y.clock == clock ≡ false = grind (arith, nat_tests, alone zero y refl) in
    rw test (error_is clock i ys x there is
    (λ j z at e. let s : suc j ≡ suc i = alone (suc j) z at e in omega arith))

error_none : (clock : ℕ) (xs : List Watched)
    → ((j : ℕ) (y : Watched) → slice_get xs j ≡ Some y → y.clock ≡ clock → ⊥)
    → error_among xs clock ≡ None
error_none clock [] none = refl
error_none clock (y ∷ ys) none =
    let test : y.clock == clock ≡ false = grind (arith, nat_tests, none zero y refl) in
    rw test (error_none clock ys (λ j z at. none (suc j) z at))

-- ---- a search by clock

there_is : (xs : List Watched) (i : ℕ) → i < length xs → (x : Watched) × (slice_get xs i ≡ Some x)
there_is [] i h = absurd (omega arith)
there_is (x ∷ xs) zero h = (x, refl)
there_is (x ∷ xs) (suc i) h = there_is xs i (omega arith)

module _ (systems : List Watched) (clock : ℕ) (rising : WatchedRise systems) where
  -- the place at which the system stands is that of its clock
  pub stands_there : (place : ℕ) (x : Watched) → slice_get systems place ≡ Some x → x.clock ≡ clock
      → place_from clock 0 systems ≡ Some place
  stands_there place x at named =
      let count : place + 0 ≡ place = omega arith in
      place_is clock 0 place systems x at named
      (λ j y there same. same_place clock_of_watched systems j place y x rising there at (same ∙ sym named))
      ∙ ap Some count

  pub placed_there : (place : ℕ) → place < length systems
      → ((x : Watched) → slice_get systems place ≡ Some x → x.clock ≡ clock) → place_from clock 0 systems ≡ Some place
  placed_there place below named =
      let (x, at) = there_is systems place below in
      stands_there place x at (named x at)

  -- a search ends where the system stands
  pub searched : (r : Result ℕ ℕ) → IsSearchInRange r (length systems)
      → IsBinarySearchResult (λ x. nat_cmp (clock_of_watched x) clock) systems r
      → result_ok r ≡ place_from clock 0 systems
  searched (Ok place) within is =
      let (x, at, tied) = found nat_cmp_total clock_of_watched systems clock place within is in
      sym (stands_there place x at (ranked x.clock clock Equal (sym tied)))
  searched (Err gap) within is =
      let parted = is (comparisons_rise clock_of_watched systems clock rising) in
      sym (place_none clock 0 systems (λ j y there same.
      missing nat_cmp_total clock_of_watched systems clock gap parted y (In-slice_get y systems j there) same))

  -- the system there has the clock
  pub named_there : (r : Result ℕ ℕ) → IsSearchInRange r (length systems)
      → IsBinarySearchResult (λ x. nat_cmp (clock_of_watched x) clock) systems r
      → IfSome (result_ok r) (λ place. (x : Watched) → slice_get systems place ≡ Some x → x.clock ≡ clock)
  named_there (Ok place) within is = λ x there.
      let (y, at, tied) = found nat_cmp_total clock_of_watched systems clock place within is in
      ap clock_of_watched (same_Some x y (sym there ∙ at)) ∙ ranked y.clock clock Equal (sym tied)
  named_there (Err gap) within is = tt

  -- what is kept of the system there, or nothing
  pub error_searched : (r : Result ℕ ℕ) → IsSearchInRange r (length systems)
      → IsBinarySearchResult (λ x. nat_cmp (clock_of_watched x) clock) systems r
      → error_of_place systems r ≡ error_among systems clock
  error_searched (Ok place) within is =
      let (x, at, tied) = found nat_cmp_total clock_of_watched systems clock place within is in
      let named : x.clock ≡ clock = ranked x.clock clock Equal (sym tied) in
      ap error_there at ∙ sym (error_is clock place systems x at named
      (λ j y there same. same_place clock_of_watched systems j place y x rising there at (same ∙ sym named)))
  error_searched (Err gap) within is =
      let parted = is (comparisons_rise clock_of_watched systems clock rising) in
      sym (error_none clock systems (λ j y there same.
      missing nat_cmp_total clock_of_watched systems clock gap parted y (In-slice_get y systems j there) same))

-- what stands at the place that a search ended at has that error
pub error_at_place : (systems : List Watched) (clock place : ℕ) (x : Watched) (r : Result ℕ ℕ) → r ≡ Ok place
    → IsSearchInRange r (length systems) → error_of_place systems r ≡ error_among systems clock
    → (get_or systems place x).error ≡ error_among systems clock
error_at_place systems clock place x r is bound all =
    let within : IsSearchInRange (Ok place) (length systems) =
    subst (λ q. IsSearchInRange q (length systems)) is bound in
    sym (ap error_there (slice_get-get_or systems place x within)) ∙ ap (error_of_place systems) (sym is) ∙ all

-- clocks stay where errors are cleared
pub cleared_clocks : (systems : List Watched)
    → map clock_of_watched (map without_error systems) ≡ map clock_of_watched systems
cleared_clocks [] = refl
cleared_clocks (x ∷ xs) = ap (λ rest. x.clock ∷ rest) (cleared_clocks xs)

-- one error more is cleared
pub cleared_more : (systems : List Watched) (i : ℕ) (d : Watched) → i < length systems
    → slice_set (map without_error (take i systems) ++ drop i systems) i
    (without_error (get_or (map without_error (take i systems) ++ drop i systems) i d))
    ≡ map without_error (take (i + 1) systems) ++ drop (i + 1) systems
cleared_more [] i d below = absurd (omega arith)
cleared_more (x ∷ xs) zero d below = refl
cleared_more (x ∷ xs) (suc i) d below =
    let e : suc i + 1 ≡ suc (i + 1) = omega arith in
    rw e (ap (λ rest. without_error x ∷ rest) (cleared_more xs i d (omega arith)))

-- ---- what stands at a place

pub at_place : (xs : List Watched) (place : ℕ) → place < length xs → (x : Watched) × (slice_get xs place ≡ Some x)
at_place [] place below = absurd (omega (arith, below))
at_place (x ∷ xs) zero below = (x, refl)
at_place (x ∷ xs) (suc place) below = at_place xs place (omega (arith, below))
