-- No path has more systems than have two neighbours, and two: all that stand inside it have.
use Rattle.std.proofs.Common.{◌≡◌, ◌≢◌, ◌<◌, ◌≤◌, ◌+◌, ◌==◌, ◌&&◌, ◌||◌, ℕ, suc, not, Bool, true, false, List, [], ◌∷◌, length, filter, refl, sym, ap, subst, ◌∙◌, inl, inr, arith}
use Rattle.std.specs.List.{list_any, count_by}
use Rattle.std.proofs.lemmas.Bool.{and_from, and_parts, or_cases, or_left, or_right, eq-eqb, eqb-true, eqb-false, not-true}
use Rattle.std.proofs.lemmas.List.Sums.{length-filter}
use Rattle.std.proofs.Math.Nat.{le-min}
use Rattle.gptp_lists.specs.Members.{In, Different}
use Rattle.gptp_lists.proofs.SystemSpecLemmas.{pigeonhole}
use Rattle.gptp_graph.specs.Snapshot.{Link, Snapshot, IsWellFormed, clocks, port_of, Adjacent}
use Rattle.gptp_graph.specs.Path.{Route}
use Rattle.gptp_graph.specs.Distance.{IsDistance}
use Rattle.gptp_graph.specs.PathBound.{BoundsPaths, HasTwoNeighbours, are_joined, has_two_neighbours, with_two_neighbours, path_bound}
use Rattle.gptp_graph.proofs.LinkLemmas.{Adjacent-sym, Adjacent-clock}
use Rattle.gptp_graph.proofs.PathLemmas.{Route-clocks, path_bounded}

-- ---- tests over lists

-- a member that passes
passes : {X : Type 0} (p : X → Bool) (xs : List X) → list_any p xs ≡ true → (x : X) × In x xs × (p x ≡ true)
passes p [] h = absurd cc
passes p (x ∷ xs) h = elim (or_cases (p x) (list_any p xs) h) [
  | inl e ↦ (x, inl refl, e)
  | inr k ↦ let (y, at, e) = passes p xs k in (y, inr at, e)
]

passes_at : {X : Type 0} (p : X → Bool) (xs : List X) (x : X) → In x xs → p x ≡ true → list_any p xs ≡ true
passes_at p [] x at h = absurd at
passes_at p (y ∷ ys) x (inl e) h = or_left (p y) (list_any p ys) (ap p (sym e) ∙ h)
passes_at p (y ∷ ys) x (inr at) h = or_right (p y) (list_any p ys) (passes_at p ys x at h)

-- what passes is among those that pass
filtered : {X : Type 0} (p : X → Bool) (x : X) (xs : List X) → In x xs → p x ≡ true → In x (filter p xs)
filtered p x [] at h = absurd at
filtered p x (y ∷ ys) (inl e) h = rw (ap p (sym e) ∙ h) (inl e)
filtered {X} p x (y ∷ ys) (inr at) h = by (filtered p x ys at h) (p y) refl
  where
    by : In x (filter p ys) → (b : Bool) → p y ≡ b → In x (filter p (y ∷ ys))
    by rest true e = rw e (inr rest)
    by rest false e = rw e rest

-- different members that pass are no more than pass
different_pass : (p : ℕ → Bool) (xs ys : List ℕ) → Different xs → ((x : ℕ) → In x xs → In x ys × (p x ≡ true))
    → length xs ≤ count_by p ys
different_pass p xs ys d h =
    subst (λ n. length xs ≤ n) (length-filter p ys)
    (pigeonhole xs (filter p ys) d (λ x at. filtered p x ys (h x at).0 (h x at).1))

-- ---- neighbours

-- a link leads from the one system to the other
crosses : ℕ → ℕ → Link → Bool
crosses v w l = l.a.clock == v && l.b.clock == w

crosses_from : (v w : ℕ) (l : Link) → (l.a.clock ≡ v) → (l.b.clock ≡ w) → crosses v w l ≡ true
unfolding crosses
crosses_from v w l a b =
    and_from (l.a.clock == v) (l.b.clock == w) (eq-eqb l.a.clock v a) (eq-eqb l.b.clock w b)

crosses_link : (g : Snapshot) (v w : ℕ) (l : Link) → In l g.links → crosses v w l ≡ true
    → (m n : ℕ) × In (record { a = port_of v m; b = port_of w n }) g.links
unfolding crosses
crosses_link g v w l at h =
    let (a, b) = and_parts (l.a.clock == v) (l.b.clock == w) h in
    let va = eqb-true l.a.clock v a in
    let wb = eqb-true l.b.clock w b in
    let is : l ≡ record { a = port_of v l.a.port; b = port_of w l.b.port } =
    λ i. record { a = port_of (va i) l.a.port; b = port_of (wb i) l.b.port } in
    (l.a.port, l.b.port, subst (λ k. In k g.links) is at)

pub joined_adjacent : (g : Snapshot) (v w : ℕ) → are_joined g v w ≡ true → Adjacent g v w
unfolding crosses
joined_adjacent g v w h =
    let (l, at, either) = passes (λ (l : Link). crosses v w l || crosses w v l) g.links h in
    elim (or_cases (crosses v w l) (crosses w v l) either) [
      | inl along ↦ let (m, n, there) = crosses_link g v w l at along in (m, n, inl there)
      | inr back ↦ let (n, m, there) = crosses_link g w v l at back in (m, n, inr there)
    ]

pub adjacent_joined : (g : Snapshot) (v w : ℕ) → Adjacent g v w → are_joined g v w ≡ true
unfolding crosses
adjacent_joined g v w (m, n, inl there) =
    let l : Link = record { a = port_of v m; b = port_of w n } in
    passes_at (λ (l : Link). crosses v w l || crosses w v l) g.links l there
    (or_left (crosses v w l) (crosses w v l) (crosses_from v w l refl refl))
adjacent_joined g v w (m, n, inr there) =
    let l : Link = record { a = port_of w n; b = port_of v m } in
    passes_at (λ (l : Link). crosses v w l || crosses w v l) g.links l there
    (or_right (crosses v w l) (crosses w v l) (crosses_from w v l refl refl))

-- both are joined to v, and differ
both : Snapshot → ℕ → ℕ → ℕ → Bool
both g v x y = not (x == y) && (are_joined g v x && are_joined g v y)

differ : (x y : ℕ) → not (x == y) ≡ true → x ≢ y
differ x y h same = eqb-false x y (not-true (x == y) h) same

differ_back : (x y : ℕ) → x ≢ y → not (x == y) ≡ true
differ_back x y apart = by (x == y) refl
  where
    by : (b : Bool) → (x == y) ≡ b → not (x == y) ≡ true
    by true e = absurd (apart (eqb-true x y e))
    by false e = ap not e

pub two_from : (g : Snapshot) (v : ℕ) → has_two_neighbours g v ≡ true → HasTwoNeighbours g v
unfolding both
two_from g v h =
    let (x, at_x, some) = passes (λ x. list_any (both g v x) (clocks g)) (clocks g) h in
    let (y, at_y, is) = passes (both g v x) (clocks g) some in
    let (apart, joined) = and_parts (not (x == y)) (are_joined g v x && are_joined g v y) is in
    let (to_x, to_y) = and_parts (are_joined g v x) (are_joined g v y) joined in
    (x, y, joined_adjacent g v x to_x, joined_adjacent g v y to_y, differ x y apart)

pub two_back : (g : Snapshot) (v : ℕ) → IsWellFormed g → HasTwoNeighbours g v → has_two_neighbours g v ≡ true
unfolding both
two_back g v wf (x, y, to_x, to_y, apart) =
    passes_at (λ x. list_any (both g v x) (clocks g)) (clocks g) x (Adjacent-clock g v x wf to_x)
    (passes_at (both g v x) (clocks g) y (Adjacent-clock g v y wf to_y)
    (and_from (not (x == y)) (are_joined g v x && are_joined g v y) (differ_back x y apart)
    (and_from (are_joined g v x) (are_joined g v y) (adjacent_joined g v x to_x) (adjacent_joined g v y to_y))))

-- ---- paths

-- all but the last
front : List ℕ → List ℕ
front [] = []
front (x ∷ []) = []
front (x ∷ (y ∷ ys)) = x ∷ front (y ∷ ys)

In-front : (x : ℕ) (xs : List ℕ) → In x (front xs) → In x xs
unfolding front
In-front x [] at = at
In-front x (y ∷ []) at = absurd at
In-front x (y ∷ (z ∷ zs)) (inl e) = inl e
In-front x (y ∷ (z ∷ zs)) (inr at) = inr (In-front x (z ∷ zs) at)

different_front : (xs : List ℕ) → Different xs → Different (front xs)
unfolding front
different_front [] d = d
different_front (x ∷ []) d = tt
different_front (x ∷ (y ∷ ys)) (out, rest) = (λ at. out (In-front x (y ∷ ys) at), different_front (y ∷ ys) rest)

length_front : (xs : List ℕ) → length xs ≤ suc (length (front xs))
unfolding front
length_front [] = omega arith
length_front (x ∷ []) = omega arith
length_front (x ∷ (y ∷ ys)) = let rest = length_front (y ∷ ys) in omega arith

-- a system inside a path has the one before it and the one after it as neighbours, which differ
inside : (g : Snapshot) (v w : ℕ) (us : List ℕ) → Route g v w us → Different (v ∷ us) → (u : ℕ) → In u (front us)
    → HasTwoNeighbours g u
unfolding front
inside g v w [] r d u at = absurd at
inside g v w (x ∷ []) r d u at = absurd at
inside g v w (x ∷ (y ∷ ys)) (first, (next, rest)) (out, d) u (inl e) =
    subst (HasTwoNeighbours g) (sym e) (v, y, Adjacent-sym g v x first, next, λ same. out (inr (inl same)))
inside g v w (x ∷ (y ∷ ys)) (first, rest) (out, d) u (inr at) = inside g x w (y ∷ ys) rest d u at

-- a distance is the length of a path, and so below what bounds the systems of paths
pub IsDistance-within : (g : Snapshot) (m v d : ℕ) → BoundsPaths g m → IsDistance g v d → d < m
IsDistance-within g m v d bounded h =
    let path = h.from_best.path in
    subst (λ n. n < m) path.2 (bounded h.best.clock v path.0 path.1)

-- so there are as many with two neighbours
pub paths_within : (g : Snapshot) → IsWellFormed g → BoundsPaths g (path_bound g)
paths_within g wf v w us p = le-min few (path_bounded g v w us wf p)
  where
    there : (u : ℕ) → In u (front us) → In u (clocks g) × (has_two_neighbours g u ≡ true)
    there u at = (
      Route-clocks g v w us wf p.route u (In-front u us at),
      two_back g u wf (inside g v w us p.route p.different u at),
    )

    few : suc (length us) ≤ with_two_neighbours g + 2
    few =
        let long = length_front us in
        let most : length (front us) ≤ with_two_neighbours g =
        different_pass (has_two_neighbours g) (front us) (clocks g) (different_front us p.different.1) there in
        omega arith
