-- The clocks of a world in rising order: they are those of its systems, and rise where these have their own.
use Rattle.std.proofs.Common.{◌≡◌, ◌⊎◌, ◌<◌, ◌≤◌, ℕ, suc, nat_le, Bool, true, false, List, [], ◌∷◌, map, Some, slice_get, refl, sym, subst, inl, inr, arith}
use Rattle.std.proofs.lemmas.Bool.Decides.{nat_tests}
use Rattle.gptp_model.specs.declared.station.Station.{Station}
use Rattle.gptp_model.specs.Sound.{HaveOwnClocks}
use Rattle.gptp_model.specs.Views.{put_rising, rising, rising_clocks}
use Rattle.gptp_model.specs.World.{WorldState}
use Rattle.gptp_graph.specs.Order.{IsRising}
use Rattle.gptp_lists.specs.Members.{Different, In}
use Rattle.gptp_lists.proofs.SystemSpecLemmas.{from_map, slice_get-In}
use Rattle.gptp_system.specs.State.{clock}

-- ---- numbers in rising order have the same members, and rise where they differ

put_in : (n x y : ℕ) (xs : List ℕ) (t : Bool) → nat_le n x ≡ t → ((y ≡ n) ⊎ In y xs → In y (put_rising n xs))
    → (y ≡ n) ⊎ In y (x ∷ xs) → In y (put_rising n (x ∷ xs))
put_in n x y xs true e rest h = rw e h
put_in n x y xs false e rest (inl own) = rw e (inr (rest (inl own)))
put_in n x y xs false e rest (inr (inl first)) = rw e (inl first)
put_in n x y xs false e rest (inr (inr later)) = rw e (inr (rest (inr later)))

In-put : (n y : ℕ) (xs : List ℕ) → (y ≡ n) ⊎ In y xs → In y (put_rising n xs)
In-put n y [] h = h
In-put n y (x ∷ xs) h = put_in n x y xs (nat_le n x) refl (In-put n y xs) h

put_from : (n x y : ℕ) (xs : List ℕ) (t : Bool) → nat_le n x ≡ t → (In y (put_rising n xs) → (y ≡ n) ⊎ In y xs)
    → In y (put_rising n (x ∷ xs)) → (y ≡ n) ⊎ In y (x ∷ xs)
put_from n x y xs true e rest h = rw e at h
put_from n x y xs false e rest h = behind (rw e at h)
  where
    behind : In y (x ∷ put_rising n xs) → (y ≡ n) ⊎ In y (x ∷ xs)
    behind (inl first) = inr (inl first)
    behind (inr k) = elim (rest k) [ inl own ↦ inl own | inr later ↦ inr (inr later) ]

from_put : (n y : ℕ) (xs : List ℕ) → In y (put_rising n xs) → (y ≡ n) ⊎ In y xs
from_put n y [] h = h
from_put n y (x ∷ xs) h = put_from n x y xs (nat_le n x) refl (from_put n y xs) h

pub In-rising : (y : ℕ) (ns : List ℕ) → In y ns → In y (rising ns)
In-rising y [] h = h
In-rising y (n ∷ ns) (inl own) = In-put n y (rising ns) (inl own)
In-rising y (n ∷ ns) (inr h) = In-put n y (rising ns) (inr (In-rising y ns h))

pub from_rising : (y : ℕ) (ns : List ℕ) → In y (rising ns) → In y ns
from_rising y [] h = h
from_rising y (n ∷ ns) h = elim (from_put n y (rising ns) h) [ inl own ↦ inl own | inr k ↦ inr (from_rising y ns k) ]

put_rises-step : (n x : ℕ) (xs : List ℕ) (t : Bool) → nat_le n x ≡ t → (n ≡ x → ⊥) → IsRising (x ∷ xs)
    → IsRising (put_rising n xs) → IsRising (put_rising n (x ∷ xs))
put_rises-step n x xs true e other up rest =
    let le : n ≤ x = grind (arith, nat_tests) in
    let below : n < x = less le other in
    rw e (
      (λ y k.
          elim k [
            | inl same ↦ subst (λ m. n < m) (sym same) below
            | inr i ↦ (let b : x < y = up.0 y i in
                omega arith)
          ]),
      up,
    )
  where
    less : n ≤ x → (n ≡ x → ⊥) → n < x
    less le differ = omega arith
put_rises-step n x xs false e other up rest =
    let above : x < n = grind (arith, nat_tests) in
    rw e ((λ y k. elim (from_put n y xs k) [ inl same ↦ subst (λ m. x < m) (sym same) above | inr i ↦ up.0 y i ]), rest)

put_rises : (n : ℕ) (xs : List ℕ) → (In n xs → ⊥) → IsRising xs → IsRising (put_rising n xs)
put_rises n [] new up = ((λ y k. absurd k), tt)
put_rises n (x ∷ xs) new up =
    put_rises-step n x xs (nat_le n x) refl (λ e. new (inl e)) up (put_rises n xs (λ k. new (inr k)) up.1)

rising_rises : (ns : List ℕ) → Different ns → IsRising (rising ns)
rising_rises [] d = tt
rising_rises (n ∷ ns) d = put_rises n (rising ns) (λ k. d.0 (from_rising n ns k)) (rising_rises ns d.1)

-- ---- the clocks of a world

abbrev pub clock_of_station : Station → ℕ
clock_of_station s = clock s.system

-- stations whose places are known by their clocks have different ones
own_clocks : (xs : List Station) → ((i j : ℕ) (a b : Station) → slice_get xs i ≡ Some a → slice_get xs j ≡ Some b
    → clock a.system ≡ clock b.system → i ≡ j) → Different (map clock_of_station xs)
own_clocks [] own = tt
own_clocks (x ∷ xs) own = (
  (λ k. let (y, at, e) = from_map clock_of_station (clock x.system) xs k in
      let (j, there) = slice_get-In y xs at in
      let same : 0 ≡ suc j = own 0 (suc j) x y refl there (sym e) in absurd (omega arith)),
  own_clocks xs (λ i j a b p q e. let same : suc i ≡ suc j = own (suc i) (suc j) a b p q e in omega arith),
)

pub clocks_rise : (w : WorldState) → HaveOwnClocks w → IsRising (rising_clocks w)
clocks_rise w own = rising_rises (map clock_of_station w.stations) (own_clocks w.stations own)
