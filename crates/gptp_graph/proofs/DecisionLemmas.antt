-- Decisions: of two facts, over the members of a list, and of the least number with a property. Those marked
-- `unfoldable` compute at literals.
use Rattle.std.proofs.Common.{◌≡◌, ◌⊎◌, ◌≤◌, ◌<◌, ℕ, zero, suc, List, [], ◌∷◌, refl, subst, inl, inr, arith}
use native.Mathlib.Decide.{ℕ_discrete, dec_lt}
use Rattle.gptp_lists.specs.Members.{In}

-- an equivalent fact
unfoldable pub dec_iff : {A B : Type 0} → (A → B) → (B → A) → Dec A → Dec B
dec_iff to back (yes a) = yes (to a)
dec_iff to back (no f) = no (λ b. f (back b))

-- both of two facts
unfoldable pub dec_both : {A B : Type 0} → Dec A → Dec B → Dec (A × B)
dec_both (yes a) (yes b) = yes (a, b)
dec_both (yes a) (no f) = no (λ h. f h.1)
dec_both (no f) d = no (λ h. f h.0)

-- one of two facts
unfoldable pub dec_either : {A B : Type 0} → Dec A → Dec B → Dec (A ⊎ B)
dec_either (yes a) d = yes (inl a)
dec_either (no f) (yes b) = yes (inr b)
dec_either (no f) (no k) = no (λ h. elim h [ inl a ↦ f a | inr b ↦ k b ])

-- some member of a list
pub any_dec : {X : Type 0} (P : X → Type 0) (xs : List X) → ((x : X) → In x xs → Dec (P x))
    → Dec ((x : X) × In x xs × P x)
any_dec P [] d = no (λ h. h.1)
any_dec {X} P (x ∷ xs) d = one (d x (inl refl)) (any_dec P xs (λ y h. d y (inr h)))
  where
    one : Dec (P x) → Dec ((y : X) × In y xs × P y) → Dec ((y : X) × In y (x ∷ xs) × P y)
    one (yes p) rest = yes (x, inl refl, p)
    one (no f) (yes (y, h, p)) = yes (y, inr h, p)
    one (no f) (no k) = no (λ (y, h, p). elim h [ inl e ↦ f (subst P e p) | inr i ↦ k (y, i, p) ])

-- some number below n
pub below_dec : (P : ℕ → Type 0) → ((n : ℕ) → Dec (P n)) → (n : ℕ) → Dec ((k : ℕ) × (k < n) × P k)
below_dec P d zero = no (λ h. absurd (let b : h.0 < 0 = h.1 in omega arith))
below_dec P d (suc n) = one (d n) (below_dec P d n)
  where
    one : Dec (P n) → Dec ((k : ℕ) × (k < n) × P k) → Dec ((k : ℕ) × (k < suc n) × P k)
    one (yes p) rest = yes (n, omega arith, p)
    one (no f) (yes (k, b, p)) = yes (k, omega arith, p)
    one (no f) (no out) = no (λ (k, b, p). split k b p (ℕ_discrete k n))
      where
        split : (k : ℕ) → k < suc n → P k → Dec (k ≡ n) → ⊥
        split k b p (yes e) = f (subst P e p)
        split k b p (no other) = out (k, omega arith, p)

-- where a number has the property, a least one has it
pub least_number : (P : ℕ → Type 0) → ((n : ℕ) → Dec (P n)) → (n : ℕ) → P n
    → (k : ℕ) × P k × ((m : ℕ) → P m → k ≤ m)
least_number P d n p = elim (up_to (suc n)) [ inl none ↦ absurd (none n (omega arith) p) | inr found ↦ found ]
  where
    up_to : (k : ℕ) → ((m : ℕ) → m < k → P m → ⊥) ⊎ ((k : ℕ) × P k × ((m : ℕ) → P m → k ≤ m))
    up_to zero = inl (λ m b q. absurd (omega arith))
    up_to (suc k) = next (up_to k) (d k)
      where
        next : ((m : ℕ) → m < k → P m → ⊥) ⊎ ((k : ℕ) × P k × ((m : ℕ) → P m → k ≤ m)) → Dec (P k)
            → ((m : ℕ) → m < suc k → P m → ⊥) ⊎ ((k : ℕ) × P k × ((m : ℕ) → P m → k ≤ m))
        next (inr found) t = inr found
        next (inl none) (yes q) =
            inr (k, q, λ m r. elim (dec_lt m k) [ yes b ↦ absurd (none m b r) | no over ↦ omega arith ])
        next (inl none) (no f) =
            inl (λ m b r. elim (ℕ_discrete m k) [ yes e ↦ f (subst P e r) | no other ↦ none m (omega arith) r ])

-- whether a number is a member
pub in_dec : (v : ℕ) (xs : List ℕ) → Dec (In v xs)
in_dec v [] = no (λ h. h)
in_dec v (x ∷ xs) = dec_either (ℕ_discrete v x) (in_dec v xs)
