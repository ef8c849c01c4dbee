-- One of several that stand by rising clocks is changed, or read.
use Rattle.std.proofs.Common.{◌≡◌, ◌<◌, ◌==◌, ◌+◌, ◌++◌, ℕ, zero, suc, Bool, true, false, List, [], ◌∷◌, drop, get_or, length, map, take, Option, Some, None, if◌then◌else◌, Ok, Err, slice_get, slice_set, refl, sym, ap, subst, ◌∙◌, arith}
use Rattle.std.specs.Cmp.{nat_cmp_total}
use Rattle.std.specs.List.Sorted.{IsBinarySearchResult, IsSearchInRange}
use Rattle.std.specs.Ordering.{nat_cmp}
use Rattle.std.proofs.lemmas.Bool.Decides.{nat_tests}
use Rattle.std.proofs.lemmas.Cmp.{ranked}
use Rattle.std.proofs.lemmas.Option.{same_Some, slice_get-get_or}
use Rattle.std.specs.declared.cmp.Ordering.TheVariants.{Equal}
use Rattle.gptp_graph.specs.Order.{IsRising}
use Rattle.gptp_lists.proofs.SystemSpecLemmas.{In-slice_get}
use Rattle.gptp_network.proofs.SearchLemmas.{comparisons_rise, found, missing, same_place}

module _ {X : Type 0} (clock_of : X → ℕ) (name : ℕ) where
  -- one that has the clock stands at a place, and no other does
  pub record StandsAt (xs : List X) (place : ℕ) : Type 0 where
    pub one : X
    pub there : slice_get xs place ≡ Some one
    pub named : clock_of one ≡ name
    pub alone : (j : ℕ) (y : X) → slice_get xs j ≡ Some y → clock_of y ≡ name → j ≡ place

  abbrev pub StandsNowhere : List X → Type 0
  StandsNowhere xs = (j : ℕ) (y : X) → slice_get xs j ≡ Some y → clock_of y ≡ name → ⊥

  -- ---- a search by clock

  module _ (xs : List X) (rising : IsRising (map clock_of xs)) where
    pub stands_at : (place : ℕ) → IsSearchInRange (Ok place) (length xs)
        → IsBinarySearchResult (λ x. nat_cmp (clock_of x) name) xs (Ok place) → StandsAt xs place
    stands_at place within is =
        let (x, at, tied) = found nat_cmp_total clock_of xs name place within is in
        let named : clock_of x ≡ name = ranked (clock_of x) name Equal (sym tied) in
        record {
          one = x;
          there = at;
          named = named;
          alone = λ j y there same. same_place clock_of xs j place y x rising there at (same ∙ sym named);
        }

    pub stands_nowhere : (gap : ℕ) → IsSearchInRange (Err gap) (length xs)
        → IsBinarySearchResult (λ x. nat_cmp (clock_of x) name) xs (Err gap) → StandsNowhere xs
    stands_nowhere gap within is =
        let parted = is (comparisons_rise clock_of xs name rising) in
        λ j y there same.
        missing nat_cmp_total clock_of xs name gap parted y (In-slice_get y xs j there) same

  -- ---- one is changed

  module _ (f : X → X) where
    abbrev pub changed : X → X
    changed x = if clock_of x == name then f x else x

    pub none_changed : (xs : List X) → StandsNowhere xs → map changed xs ≡ xs
    none_changed [] nowhere = refl
    none_changed (x ∷ xs) nowhere =
        let test : clock_of x == name ≡ false = grind (arith, nat_tests, nowhere zero x refl) in
        rw test (ap (λ rest. x ∷ rest) (none_changed xs (λ j y there. nowhere (suc j) y there)))

    one_changed : (xs : List X) (place : ℕ) (one : X) → slice_get xs place ≡ Some one → clock_of one ≡ name
        → ((j : ℕ) (y : X) → slice_get xs j ≡ Some y → clock_of y ≡ name → j ≡ place)
        → map changed xs ≡ slice_set xs place (f one)
    one_changed [] place one there named alone = absurd cc
    one_changed (x ∷ xs) zero one there named alone =
        let is : x ≡ one = same_Some x one there in
        let test : clock_of one == name ≡ true = grind (arith, nat_tests) in
        let rest : map changed xs ≡ xs = none_changed xs (λ j y at same.
        let e : suc j ≡ zero = alone (suc j) y at same in absurd (omega arith)) in
        ap (λ y. changed y ∷ map changed xs) is ∙ rw test (ap (λ ys. f one ∷ ys) rest)
    one_changed (x ∷ xs) (suc place) one there named alone =
        let test : clock_of x == name ≡ false = grind (arith, nat_tests, alone zero x refl) in
        rw test (ap (λ rest. x ∷ rest) (one_changed xs place one there named
        (λ j y at same. let e : suc j ≡ suc place = alone (suc j) y at same in omega arith)))

    pub changed_at : (xs : List X) (place : ℕ) → (s : StandsAt xs place) → map changed xs ≡ slice_set xs place (f s.one)
    changed_at xs place s = one_changed xs place s.one s.there s.named s.alone

  -- ---- what is kept of a clock

  module _ {Y : Type 0} (value : X → Option Y) where
    abbrev pub among : List X → Option Y
    among [] = None
    among (x ∷ xs) = if clock_of x == name then value x else among xs

    pub none_among : (xs : List X) → StandsNowhere xs → among xs ≡ None
    none_among [] nowhere = refl
    none_among (x ∷ xs) nowhere =
        let test : clock_of x == name ≡ false = grind (arith, nat_tests, nowhere zero x refl) in
        rw test (none_among xs (λ j y there. nowhere (suc j) y there))

    one_among : (xs : List X) (place : ℕ) (one : X) → slice_get xs place ≡ Some one → clock_of one ≡ name
        → ((j : ℕ) (y : X) → slice_get xs j ≡ Some y → clock_of y ≡ name → j ≡ place) → among xs ≡ value one
    one_among [] place one there named alone = absurd cc
    one_among (x ∷ xs) zero one there named alone =
        let is : x ≡ one = same_Some x one there in
        let test : clock_of one == name ≡ true = grind (arith, nat_tests) in
        ap (λ y. if clock_of y == name then value y else among xs) is ∙ rw test refl
    one_among (x ∷ xs) (suc place) one there named alone =
        let test : clock_of x == name ≡ false = grind (arith, nat_tests, alone zero x refl) in
        rw test (one_among xs place one there named
        (λ j y at same. let e : suc j ≡ suc place = alone (suc j) y at same in omega arith))

    pub among_at : (xs : List X) (place : ℕ) → (s : StandsAt xs place) → among xs ≡ value s.one
    among_at xs place s = one_among xs place s.one s.there s.named s.alone

-- what is read at a place within is what stands there
pub read_at_place : {X : Type 0} (xs : List X) (place : ℕ) (x one : X) → place < length xs → x ≡ get_or xs place x
    → slice_get xs place ≡ Some one → x ≡ one
read_at_place xs place x one within read there =
    same_Some x one (ap Some read ∙ sym (slice_get-get_or xs place x within) ∙ there)

-- clocks stay where each is left with its own
pub same_rising : {X : Type 0} (clock_of : X → ℕ) (f : X → X) (xs : List X) → ((x : X) → clock_of (f x) ≡ clock_of x)
    → IsRising (map clock_of xs) → IsRising (map clock_of (map f xs))
same_rising {X} clock_of f xs same rising = subst IsRising (sym (clocks xs)) rising
  where
    clocks : (ys : List X) → map clock_of (map f ys) ≡ map clock_of ys
    clocks [] = refl
    clocks (y ∷ ys) = ap (λ c. c ∷ map clock_of (map f ys)) (same y) ∙ ap (λ rest. clock_of y ∷ rest) (clocks ys)

-- one more of several is changed
pub changed_more : {X : Type 0} (f : X → X) (xs : List X) (i : ℕ) (d : X) → i < length xs
    → slice_set (map f (take i xs) ++ drop i xs) i (f (get_or (map f (take i xs) ++ drop i xs) i d))
    ≡ map f (take (i + 1) xs) ++ drop (i + 1) xs
changed_more f [] i d below = absurd (omega arith)
changed_more f (x ∷ xs) zero d below = refl
changed_more f (x ∷ xs) (suc i) d below =
    let e : suc i + 1 ≡ suc (i + 1) = omega arith in
    rw e (ap (λ rest. f x ∷ rest) (changed_more f xs i d (omega arith)))

-- and where one of them is changed, and keeps its own
pub rising_changed : {X : Type 0} (clock_of : X → ℕ) (name : ℕ) (f : X → X) (xs : List X)
    → ((x : X) → clock_of (f x) ≡ clock_of x) → IsRising (map clock_of xs)
    → IsRising (map clock_of (map (changed clock_of name f) xs))
rising_changed {X} clock_of name f xs same rising =
    same_rising clock_of (changed clock_of name f) xs (λ x. by x (clock_of x == name)) rising
  where
    by : (x : X) (t : Bool) → clock_of (if t then f x else x) ≡ clock_of x
    by x true = same x
    by x false = refl

-- past the end there is no more
pub none_more : (xs : List ℕ) (i : ℕ) → slice_get xs i ≡ None → take i xs ≡ take (i + 1) xs
none_more [] zero none = refl
none_more [] (suc i) none = let e : suc i + 1 ≡ suc (i + 1) = omega arith in rw e refl
none_more (x ∷ xs) zero none = absurd cc
none_more (x ∷ xs) (suc i) none =
    let e : suc i + 1 ≡ suc (i + 1) = omega arith in rw e (ap (λ rest. x ∷ rest) (none_more xs i none))
