-- Each root once, with how often it is there, where roots don't fall and those in front are counted again and again.
use Rattle.std.proofs.Common.{◌≡◌, ◌==◌, ◌+◌, ◌<◌, ◌≤◌, ℕ, suc, Bool, true, false, cond, List, [], ◌∷◌, ◌++◌, take, drop, get_or, slice_get, Some, None, refl, sym, ap, subst, ◌∙◌, inl, inr, append-nil, arith}
use Rattle.std.specs.Bool.{⊤}
use Rattle.std.specs.List.{prefix_len}
use Rattle.std.specs.List.Sorted.{IsNonDecreasing, IsPermutation}
use Rattle.std.proofs.lemmas.Bool.{eq-eqb, eqb-true, eqb-false, ne_eqb}
use Rattle.std.proofs.lemmas.List.{append_assoc, map-append, take-append-drop}
use Rattle.std.proofs.lemmas.List.Sorted.{IsPermutation-sym, sum_by-IsPermutation}
use Rattle.std.proofs.lemmas.List.Sums.{sum_by-append, sum_by-cons}
use Rattle.std.proofs.lemmas.Option.{get_or_from_slice_get, slice_get_within}
use Rattle.gptp_graph.specs.Order.{IsRising}
use Rattle.gptp_lists.specs.Members.{In}
use Rattle.gptp_lists.proofs.SystemSpecLemmas.{from_map, In-left, In-parts, In-right, slice_get-In}
use Rattle.gptp_network.proofs.SnapshotLemmas.{In-permutation}
use Rattle.gptp_timeline.specs.Stretch.{times}
use Rattle.gptp_faults.specs.Follows.{AreFollows, followed}
use Rattle.gptp_faults.specs.declared.follows.Follow.{Follow}

-- ---- how often a root is there

times_cons : (x : ℕ) (xs : List ℕ) (root : ℕ) → times (x ∷ xs) root ≡ cond (x == root) 1 0 + times xs root
times_cons x xs root = sum_by-cons (λ y. cond (y == root) 1 0) x xs

times_behind : (xs ys : List ℕ) (root : ℕ) → times (xs ++ ys) root ≡ times xs root + times ys root
times_behind xs ys root = sum_by-append (λ y. cond (y == root) 1 0) xs ys

not_there : (xs : List ℕ) (root : ℕ) → (In root xs → ⊥) → times xs root ≡ 0
not_there [] root absent = refl
not_there (x ∷ xs) root absent =
    let other : (x == root) ≡ false = ne_eqb x root (λ same. absent (inl (sym same))) in
    let here = times_cons x xs root ∙ ap (λ t. cond t 1 0 + times xs root) other in
    let rest = not_there xs root (λ member. absent (inr member)) in
    omega (arith, here, rest)

-- ---- roots that don't fall

-- no root is below one before it
abbrev Rises : List ℕ → Type 0
Rises [] = ⊤
Rises (x ∷ xs) = ((y : ℕ) → In y xs → x ≤ y) × Rises xs

rises : (xs : List ℕ) → IsNonDecreasing xs → Rises xs
rises [] by = tt
rises (x ∷ xs) by =
    (least, rises xs (λ i j d le below. by (suc i) (suc j) d (omega (arith, le)) (omega (arith, below))))
  where
    least : (y : ℕ) → In y xs → x ≤ y
    least y member =
        let (i, there) = slice_get-In y xs member in
        let within = slice_get_within xs i y there in
        let low = by 0 (suc i) y (omega arith) (omega (arith, within)) in
        let is : get_or xs i y ≡ y = get_or_from_slice_get xs i y y there in
        omega (arith, low, is)

-- The first n roots are this one, and it is below those after them.
record IsRun (root : ℕ) (xs : List ℕ) (n : ℕ) : Type 0 where
  same : (x : ℕ) → In x (take n xs) → x ≡ root
  counted : times (take n xs) root ≡ n
  behind : (x : ℕ) → In x (drop n xs) → root < x
  rises : Rises (drop n xs)

run : (root : ℕ) (xs : List ℕ) → Rises xs → ((x : ℕ) → In x xs → root ≤ x)
    → IsRun root xs (prefix_len (λ other. other == root) xs)
run root [] up above =
    record { same = λ x no. absurd no; counted = refl; behind = λ x no. absurd no; rises = tt }
run root (x ∷ xs) up above = by (x == root) refl (run root xs up.1 (λ y member. above y (inr member)))
  where
    front : List ℕ → ℕ
    front = prefix_len (λ other. other == root)

    by : (same : Bool) → (x == root) ≡ same → IsRun root xs (front xs) → IsRun root (x ∷ xs) (front (x ∷ xs))
    by true is rest =
        let n : front (x ∷ xs) ≡ suc (front xs) = rw is (omega arith) in
        let kept : List ℕ = take (front xs) xs in
        let counts = rest.counted in
        let here = times_cons x kept root ∙ ap (λ t. cond t 1 0 + times kept root) is in
        subst (IsRun root (x ∷ xs)) (sym n) (record {
          same = λ y member. elim member [ inl one ↦ one ∙ eqb-true x root is | inr later ↦ rest.same y later ];
          counted = omega (arith, counts, here);
          behind = rest.behind;
          rises = rest.rises;
        })
    by false is rest =
        let n : front (x ∷ xs) ≡ 0 = rw is refl in
        let low = above x (inl refl) in
        let apart = eqb-false x root is in
        let first : root < x = omega (arith, low, apart) in
        subst (IsRun root (x ∷ xs)) (sym n) (record {
          same = λ y no. absurd no;
          counted = refl;
          behind = λ y member. elim member [
            | inl one ↦ subst (λ z. root < z) (sym one) first
            | inr later ↦ (let next = up.0 y later in omega (arith, first, next))
          ];
          rises = up;
        })

-- ---- one root more

rising_more : (xs : List ℕ) (y : ℕ) → IsRising xs → ((x : ℕ) → In x xs → x < y) → IsRising (xs ++ y ∷ [])
rising_more [] y rising below = ((λ z no. absurd no), tt)
rising_more (x ∷ xs) y rising below = (
  (λ z member. elim (In-parts z xs (y ∷ []) member) [
    | inl before ↦ rising.0 z before
    | inr last ↦ elim last [ inl is ↦ subst (λ w. x < w) (sym is) (below x (inl refl)) | inr none ↦ absurd none ]
  ]),
  rising_more xs y rising.1 (λ z member. below z (inr member)),
)

module _ (before after : List ℕ) (follow : List Follow) (root n : ℕ) (so_far : AreFollows before follow)
    (below : (x : ℕ) → In x before → x < root) (same : (x : ℕ) → In x after → x ≡ root)
    (counted : times after root ≡ n) (there : In root after) where
  abbrev one : Follow
  one = record { root = root; systems = n }

  behind : followed (follow ++ one ∷ []) ≡ followed follow ++ root ∷ []
  behind = map-append (λ (f : Follow). f.root) follow (one ∷ [])

  below_root : (x : ℕ) → In x (followed follow) → x < root
  below_root x member =
      let (f, told, is) = from_map (λ (f : Follow). f.root) x follow member in
      subst (λ y. y < root) is (below f.root (so_far.only f told))

  no_other : (x : ℕ) → In x before → In x after → ⊥
  no_other x early late = let low = below x early in let is = same x late in absurd (omega (arith, low, is))

  kept : (x : ℕ) → In x before → times before x ≡ times (before ++ after) x
  kept x early =
      let both = times_behind before after x in
      let none = not_there after x (no_other x early) in
      omega (arith, both, none)

  new : n ≡ times (before ++ after) root
  new =
      let both = times_behind before after root in
      let none = not_there before root (λ early. no_other root early there) in
      omega (arith, both, none, counted)

  follows_more : AreFollows (before ++ after) (follow ++ one ∷ [])
  follows_more = record {
    rising = subst IsRising (sym behind) (rising_more (followed follow) root so_far.rising below_root);
    all = λ x member. subst (In x) (sym behind) (elim (In-parts x before after member) [
      | inl early ↦ In-left x (followed follow) (root ∷ []) (so_far.all x early)
      | inr late ↦ In-right x (followed follow) (root ∷ []) (inl (same x late))
    ]);
    only = λ f member. elim (In-parts f follow (one ∷ []) member) [
      | inl told ↦ In-left f.root before after (so_far.only f told)
      | inr last ↦ elim last [
        | inl is ↦ subst (λ (g : Follow). In g.root (before ++ after)) (sym is) (In-right root before after there)
        | inr none ↦ absurd none
      ]
    ];
    counted = λ f member. elim (In-parts f follow (one ∷ []) member) [
      | inl told ↦ so_far.counted f told ∙ kept f.root (so_far.only f told)
      | inr last ↦ elim last [
        | inl is ↦ subst (λ (g : Follow). g.systems ≡ times (before ++ after) g.root) (sym is) new
        | inr none ↦ absurd none
      ]
    ];
  }

-- ---- all of them

-- The roots before those that are left are told of, and are below them.
pub record AreToldBefore (roots rest : List ℕ) (follow : List Follow) : Type 0 where
  pub before : List ℕ
  pub parts : roots ≡ before ++ rest
  pub told : AreFollows before follow
  pub below : (x y : ℕ) → In x before → In y rest → x < y
  pub rises : Rises rest

pub none_told : (roots : List ℕ) → IsNonDecreasing roots → AreToldBefore roots roots []
none_told roots up = record {
  before = [];
  parts = refl;
  told = record {
    rising = tt;
    all = λ x no. absurd no;
    only = λ f no. absurd no;
    counted = λ f no. absurd no;
  };
  below = λ x y no member. absurd no;
  rises = rises roots up;
}

pub all_told : (roots rest : List ℕ) (follow : List Follow) → AreToldBefore roots rest follow → slice_get rest 0 ≡ None
    → AreFollows roots follow
all_told roots [] follow so_far none =
    subst (λ xs. AreFollows xs follow) (sym (so_far.parts ∙ append-nil so_far.before)) so_far.told
all_told roots (x ∷ xs) follow so_far none = absurd cc

-- the first is one of those in front
pub some_in_front : (rest : List ℕ) (root n : ℕ) → slice_get rest 0 ≡ Some root
    → n ≡ prefix_len (λ other. other == root) rest → 0 < n
some_in_front [] root n first length = absurd cc
some_in_front (x ∷ xs) root n first length =
    let same : x ≡ root = cc in
    let test = eq-eqb x root same in
    let counts : prefix_len (λ other. other == root) (x ∷ xs) ≡ suc (prefix_len (λ other. other == root) xs) =
    rw test (omega arith) in
    omega (arith, length, counts)

-- those in front are told of together
pub more_told : (roots rest behind : List ℕ) (follow : List Follow) (root n : ℕ) → AreToldBefore roots rest follow
    → slice_get rest 0 ≡ Some root → n ≡ prefix_len (λ other. other == root) rest → behind ≡ drop n rest
    → AreToldBefore roots behind (follow ++ record { root = root; systems = n } ∷ [])
more_told roots [] behind follow root n so_far first length is = absurd cc
more_told roots (x ∷ xs) behind follow root n so_far first length is = record {
  before = so_far.before ++ after;
  parts = so_far.parts ∙ ap (λ ys. so_far.before ++ ys) (sym (take-append-drop n (x ∷ xs)))
      ∙ ap (λ ys. so_far.before ++ (after ++ ys)) (sym is) ∙ sym (append_assoc so_far.before after behind);
  told = follows_more so_far.before after follow root n so_far.told
      (λ y early. so_far.below y root early (inl (sym x_is))) here.same here.counted there;
  below = λ y z early late. elim (In-parts y so_far.before after early) [
    | inl told ↦ so_far.below y z told (left z (subst (In z) is late))
    | inr run ↦ (let low = here.behind z (subst (In z) is late) in let same = here.same y run in
        omega (arith, low, same))
  ];
  rises = subst Rises (sym is) here.rises;
}
  where
    after : List ℕ
    after = take n (x ∷ xs)

    x_is : x ≡ root
    x_is = cc

    at_least : (y : ℕ) → In y (x ∷ xs) → root ≤ y
    at_least y (inl one) = omega (arith, one, x_is)
    at_least y (inr later) = let low = so_far.rises.0 y later in omega (arith, low, x_is)

    here : IsRun root (x ∷ xs) n
    here = subst (IsRun root (x ∷ xs)) (sym length) (run root (x ∷ xs) so_far.rises at_least)

    left : (z : ℕ) → In z (drop n (x ∷ xs)) → In z (x ∷ xs)
    left z member = subst (In z) (take-append-drop n (x ∷ xs)) (In-right z after (drop n (x ∷ xs)) member)

    there : In root after
    there =
        let parted = subst (In root) (sym (take-append-drop n (x ∷ xs))) (inl (sym x_is)) in
        elim (In-parts root after (drop n (x ∷ xs)) parted) [
          | inl run ↦ run
          | inr late ↦ absurd (let no : root < root = here.behind root late in omega (arith, no))
        ]

-- ---- whatever their order

pub told_in_order : (roots rising : List ℕ) (follow : List Follow) → IsPermutation roots rising
    → AreFollows rising follow → AreFollows roots follow
told_in_order roots rising follow moved told = record {
  rising = told.rising;
  all = λ root member. told.all root (In-permutation root roots rising moved member);
  only = λ f member. In-permutation f.root rising roots (IsPermutation-sym roots rising moved) (told.only f member);
  counted = λ f member. told.counted f member ∙ sum_by-IsPermutation (λ y. cond (y == f.root) 1 0) roots rising moved;
}
