-- The order of lists by their first difference is total on lists of one length, and lists have a least member.
use Rattle.std.proofs.Common.{◌≡◌, ◌⊎◌, ℕ, List, [], ◌∷◌, length, refl, subst, sym, ◌∙◌, inl, inr, arith}
use native.Mathlib.Decide.{ℕ_discrete, dec_lt}
use Rattle.gptp_lists.specs.Members.{In}
use Rattle.gptp_graph.specs.Order.{IsLower}
use Rattle.gptp_graph.proofs.DecisionLemmas.{dec_both, dec_either}

-- no list is lower than itself
pub IsLower-irrefl : (xs : List ℕ) → IsLower xs xs → ⊥
IsLower-irrefl [] h = h
IsLower-irrefl (x ∷ xs) (inl below) = absurd (omega arith)
IsLower-irrefl (x ∷ xs) (inr (e, h)) = IsLower-irrefl xs h

-- what is lower than a lower list is lower
pub IsLower-trans : (xs ys zs : List ℕ) → IsLower xs ys → IsLower ys zs → IsLower xs zs
IsLower-trans xs [] zs h k = absurd h
IsLower-trans xs (y ∷ ys) [] h k = k
IsLower-trans [] (y ∷ ys) (z ∷ zs) h k = tt
IsLower-trans (x ∷ xs) (y ∷ ys) (z ∷ zs) (inl a) (inl b) = inl (omega arith)
IsLower-trans (x ∷ xs) (y ∷ ys) (z ∷ zs) (inl a) (inr (e, k)) = inl (omega arith)
IsLower-trans (x ∷ xs) (y ∷ ys) (z ∷ zs) (inr (e, h)) (inl b) = inl (omega arith)
IsLower-trans (x ∷ xs) (y ∷ ys) (z ∷ zs) (inr (d, h)) (inr (e, k)) = inr (d ∙ e, IsLower-trans xs ys zs h k)

-- whether a list is lower than another
unfoldable pub IsLower-dec : (xs ys : List ℕ) → Dec (IsLower xs ys)
unfolding dec_lt ℕ_discrete dec_both dec_either
IsLower-dec xs [] = no (λ h. h)
IsLower-dec [] (y ∷ ys) = yes tt
IsLower-dec (x ∷ xs) (y ∷ ys) = dec_either (dec_lt x y) (dec_both (ℕ_discrete x y) (IsLower-dec xs ys))

-- of two different lists of one length one is lower
pub IsLower-total : (xs ys : List ℕ) → length xs ≡ length ys → (xs ≡ ys) ⊎ (IsLower xs ys ⊎ IsLower ys xs)
IsLower-total [] [] e = inl refl
IsLower-total [] (y ∷ ys) e = absurd (omega arith)
IsLower-total (x ∷ xs) [] e = absurd (omega arith)
IsLower-total (x ∷ xs) (y ∷ ys) e = heads (ℕ_discrete x y) (IsLower-total xs ys (omega arith))
  where
    heads : Dec (x ≡ y) → (xs ≡ ys) ⊎ (IsLower xs ys ⊎ IsLower ys xs)
        → (x ∷ xs ≡ y ∷ ys) ⊎ (IsLower (x ∷ xs) (y ∷ ys) ⊎ IsLower (y ∷ ys) (x ∷ xs))
    heads (no other) rest = elim (dec_lt x y) [ yes b ↦ inr (inl (inl b)) | no over ↦ inr (inr (inl (omega arith))) ]
    heads (yes same) (inl rest) = inl cc
    heads (yes same) (inr (inl lower)) = inr (inl (inr (same, lower)))
    heads (yes same) (inr (inr higher)) = inr (inr (inr (sym same, higher)))

-- no member of the list that has the property has a lower key than x
pub record IsLeastIn {X : Type 0} (key : X → List ℕ) (P : X → Type 0) (xs : List X) (x : X) : Type 0 where
  pub member : In x xs
  pub holds : P x
  pub least : (y : X) → In y xs → P y → IsLower (key y) (key x) → ⊥

-- whether members have the property, and then which of them has the least key
pub least_member : {X : Type 0} (key : X → List ℕ) (P : X → Type 0) (xs : List X)
    → ((x : X) → In x xs → Dec (P x))
    → ((x : X) → In x xs → P x → ⊥) ⊎ ((x : X) × IsLeastIn key P xs x)
least_member key P [] d = inl (λ x h p. h)
least_member {X} key P (x ∷ xs) d = add (d x (inl refl)) (least_member key P xs (λ y h. d y (inr h)))
  where
    among : X → Type 0
    among = IsLeastIn key P (x ∷ xs)

    add : Dec (P x) → ((y : X) → In y xs → P y → ⊥) ⊎ ((y : X) × IsLeastIn key P xs y)
        → ((y : X) → In y (x ∷ xs) → P y → ⊥) ⊎ ((y : X) × among y)
    add (no f) (inl none) = inl (λ y h p. elim h [ inl e ↦ f (subst P e p) | inr k ↦ none y k p ])
    add (no f) (inr (m, is)) = inr (
      m,
      record {
        member = inr is.member;
        holds = is.holds;
        least = λ y h p below. elim h [ inl e ↦ f (subst P e p) | inr k ↦ is.least y k p below ];
      },
    )
    add (yes q) (inl none) = inr (
      x,
      record {
        member = inl refl;
        holds = q;
        least =
            λ y h p below. elim h [
              | inl e ↦ IsLower-irrefl (key x) (subst (λ z. IsLower (key z) (key x)) e below)
              | inr k ↦ none y k p
            ];
      },
    )
    add (yes q) (inr (m, is)) = elim (IsLower-dec (key x) (key m)) [
      | yes lower ↦ inr (
        x,
        record {
          member = inl refl;
          holds = q;
          least = λ y h p below. elim h [
            | inl e ↦ IsLower-irrefl (key x) (subst (λ z. IsLower (key z) (key x)) e below)
            | inr k ↦ is.least y k p (IsLower-trans (key y) (key x) (key m) below lower)
          ];
        },
      )
      | no not_lower ↦ inr (
        m,
        record {
          member = inr is.member;
          holds = is.holds;
          least =
              λ y h p below. elim h [
                | inl e ↦ not_lower (subst (λ z. IsLower (key z) (key m)) e below)
                | inr k ↦ is.least y k p below
              ];
        },
      )
    ]
