-- Members of lists: images, parts, places, removal, and the pigeonhole principle.
use Rattle.std.proofs.Common.{◌≡◌, ◌≤◌, ◌⊎◌, ℕ, zero, suc, List, [], ◌∷◌, ◌++◌, length, map, take, refl, sym, ap, subst, ◌∙◌, inl, inr, arith, Some, slice_get}
use Rattle.gptp_lists.specs.Members.{In, Different}

-- a member's image is a member of the image
pub In-map : {X Y : Type 0} (f : X → Y) (x : X) (xs : List X) → In x xs → In (f x) (map f xs)
In-map f x [] h = h
In-map f x (y ∷ ys) (inl e) = inl (ap f e)
In-map f x (y ∷ ys) (inr h) = inr (In-map f x ys h)

-- a member of the image is a member's image
pub from_map : {X Y : Type 0} (f : X → Y) (y : Y) (xs : List X) → In y (map f xs)
    → (x : X) × In x xs × (f x ≡ y)
from_map f y [] h = absurd h
from_map f y (x ∷ xs) (inl e) = (x, inl refl, sym e)
from_map f y (x ∷ xs) (inr h) = let r = from_map f y xs h in (r.0, inr r.1, r.2)

-- a member of the first part
pub In-left : {X : Type 0} (x : X) (xs ys : List X) → In x xs → In x (xs ++ ys)
In-left x [] ys h = absurd h
In-left x (y ∷ xs) ys (inl e) = inl e
In-left x (y ∷ xs) ys (inr h) = inr (In-left x xs ys h)

-- a member of the second part
pub In-right : {X : Type 0} (x : X) (xs ys : List X) → In x ys → In x (xs ++ ys)
In-right x [] ys h = h
In-right x (y ∷ xs) ys h = inr (In-right x xs ys h)

-- a member of one part or the other
pub In-parts : {X : Type 0} (x : X) (xs ys : List X) → In x (xs ++ ys) → In x xs ⊎ In x ys
In-parts x [] ys h = inr h
In-parts x (y ∷ xs) ys (inl e) = inl (inl e)
In-parts x (y ∷ xs) ys (inr h) = elim (In-parts x xs ys h) [ inl k ↦ inl (inr k) | inr k ↦ inr k ]

-- a member of the front of a list
pub In-take : {X : Type 0} (x : X) (n : ℕ) (xs : List X) → In x (take n xs) → In x xs
In-take x zero xs h = absurd h
In-take x (suc n) [] h = absurd h
In-take x (suc n) (y ∷ ys) (inl e) = inl e
In-take x (suc n) (y ∷ ys) (inr h) = inr (In-take x n ys h)

-- two members with one image are one, where images differ
pub same_image : {X Y : Type 0} (f : X → Y) (x y : X) (xs : List X) → Different (map f xs) → In x xs → In y xs
    → f x ≡ f y → x ≡ y
same_image f x y [] d h k e = absurd h
same_image f x y (z ∷ zs) d (inl a) (inl b) e = a ∙ sym b
same_image f x y (z ∷ zs) d (inl a) (inr k) e =
    absurd (d.0 (subst (λ w. In w (map f zs)) (sym e ∙ ap f a) (In-map f y zs k)))
same_image f x y (z ∷ zs) d (inr h) (inl b) e =
    absurd (d.0 (subst (λ w. In w (map f zs)) (e ∙ ap f b) (In-map f x zs h)))
same_image f x y (z ∷ zs) d (inr h) (inr k) e = same_image f x y zs d.1 h k e

-- without a member the list is one shorter, and keeps all others
pub dropped : {X : Type 0} (x : X) (ys : List X) → In x ys
    → (zs : List X) × (length ys ≡ suc (length zs)) × ((z : X) → In z ys → (z ≡ x → ⊥) → In z zs)
dropped x [] h = absurd h
dropped x (y ∷ ys) (inl e) = (ys, refl, λ z k other. elim k [ inl a ↦ absurd (other (a ∙ sym e)) | inr b ↦ b ])
dropped x (y ∷ ys) (inr h) =
    let r = dropped x ys h in
    (y ∷ r.0, ap suc r.1, λ z k other. elim k [ inl a ↦ inl a | inr b ↦ inr (r.2 z b other) ])

-- the pigeonhole principle: different members of a list are no more than it has
pub pigeonhole : {X : Type 0} (xs ys : List X) → Different xs → ((z : X) → In z xs → In z ys)
    → length xs ≤ length ys
pigeonhole [] ys d h = omega arith
pigeonhole (x ∷ xs) ys d h =
    let r = dropped x ys (h x (inl refl)) in
    let fits : length xs ≤ length r.0 =
    pigeonhole xs r.0 d.1 (λ z k. r.2 z (h z (inr k)) (λ e. d.0 (subst (λ w. In w xs) e k))) in
    let longer : length ys ≡ suc (length r.0) = r.1 in
    omega arith

-- what stands at a place is a member
pub In-slice_get : {X : Type 0} (x : X) (xs : List X) (i : ℕ) → slice_get xs i ≡ Some x → In x xs
In-slice_get x [] i e = absurd cc
In-slice_get x (y ∷ ys) zero e = inl cc
In-slice_get x (y ∷ ys) (suc i) e = inr (In-slice_get x ys i e)

-- a member stands at some place
pub slice_get-In : {X : Type 0} (x : X) (xs : List X) → In x xs → (i : ℕ) × (slice_get xs i ≡ Some x)
slice_get-In x [] h = absurd h
slice_get-In x (y ∷ ys) (inl e) = (0, ap (λ z. Some z) (sym e))
slice_get-In x (y ∷ ys) (inr h) = let r = slice_get-In x ys h in (suc r.0, r.1)
