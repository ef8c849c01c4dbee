-- Reversed lists.
use Rattle.std.proofs.Common.{◌≡◌, List, [], ◌∷◌, ◌++◌, reverse, sym, subst, ap, ◌∙◌, inl, inr}
use Rattle.std.proofs.lemmas.List.{reverse-append}
use Rattle.gptp_lists.specs.Members.{In}
use Rattle.gptp_lists.proofs.SystemSpecLemmas.{In-left, In-right}

-- a member of the list is one of it in reverse
pub In-reverse : {X : Type 0} (x : X) (xs : List X) → In x xs → In x (reverse xs)
In-reverse x [] h = h
In-reverse x (y ∷ ys) h = subst (In x) (sym (reverse-append (y ∷ []) ys)) (elim h [
  | inl e ↦ In-right x (reverse ys) (y ∷ []) (inl e)
  | inr k ↦ In-left x (reverse ys) (y ∷ []) (In-reverse x ys k)
])

-- with one member more at the end, the reverse begins with it
pub reverse-end : {X : Type 0} (x : X) (xs ys : List X) → reverse xs ≡ ys → reverse (xs ++ x ∷ []) ≡ x ∷ ys
reverse-end x xs ys e = reverse-append xs (x ∷ []) ∙ ap (λ zs. x ∷ zs) e
