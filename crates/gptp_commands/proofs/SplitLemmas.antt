-- A list that is split where a test passes, at the first such place.
use Rattle.std.proofs.Common.{◌≡◌, ℕ, suc, Bool, true, false, List, [], ◌∷◌, take, drop, refl, ap, ◌∙◌, arith}
use Rattle.std.specs.List.{slice_split, onto_first, position_or_len}
use Rattle.std.proofs.lemmas.List.Splits.{slice_split-cons_yes, slice_split-cons_no}

-- the first part has n elements, and what comes after them splits into an empty part and the other parts
pub record SplitsAt (p : ℕ → Bool) (xs : List ℕ) (n : ℕ) : Type 0 where
  pub parts : List (List ℕ)
  pub front : slice_split p xs ≡ take n xs ∷ parts
  pub back : slice_split p (drop n xs) ≡ [] ∷ parts

-- one element more, which is a separator or belongs to the first part
split_step : (p : ℕ → Bool) (x : ℕ) (xs : List ℕ) (test : Bool) → p x ≡ test
    → SplitsAt p xs (position_or_len p xs) → SplitsAt p (x ∷ xs) (position_or_len p (x ∷ xs))
split_step p x xs true separates rest =
    let e : position_or_len p (x ∷ xs) ≡ 0 = rw separates refl in
    rw e (record {
      parts = slice_split p xs;
      front = slice_split-cons_yes p x xs separates;
      back = slice_split-cons_yes p x xs separates;
    })
split_step p x xs false belongs rest =
    let e : position_or_len p (x ∷ xs) ≡ suc (position_or_len p xs) = rw belongs (omega arith) in
    rw e (record {
      parts = rest.parts;
      front = slice_split-cons_no p x xs belongs ∙ ap (λ parts. onto_first x parts) rest.front;
      back = rest.back;
    })

-- the first part ends at the first separator
pub splits_at : (p : ℕ → Bool) (xs : List ℕ) → SplitsAt p xs (position_or_len p xs)
splits_at p [] = record { parts = []; front = refl; back = refl }
splits_at p (x ∷ xs) = split_step p x xs (p x) refl (splits_at p xs)
