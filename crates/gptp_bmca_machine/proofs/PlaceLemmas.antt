-- What stands at a place of a list is one thing, and so is what a port holds.
use Rattle.std.proofs.Common.{◌≡◌, ℕ, suc, List, Some, slice_get, sym, subst, ◌∙◌, arith}
use Rattle.gptp_bmca_machine.specs.Station.{Reception, Mine, Received, Port, Station, HoldsAt}

some_injective : {X : Type 0} (x y : X) → Some x ≡ Some y → x ≡ y
some_injective x y e = cc

pub received_injective : (x y : Reception) → Received x ≡ Received y → x ≡ y
received_injective x y e = cc

-- a place has one thing
pub same_there : {X : Type 0} (xs : List X) (i : ℕ) (x y : X) → slice_get xs i ≡ Some x → slice_get xs i ≡ Some y
    → x ≡ y
same_there xs i x y at also = some_injective x y (sym at ∙ also)

-- two ports of one number are at one place
pub same_place : (i j : ℕ) → Some (suc i) ≡ Some (suc j) → i ≡ j
same_place i j e = let number : suc i ≡ suc j = some_injective (suc i) (suc j) e in omega arith

-- a port holds one reception
pub same_held : (q : Port) (x y : Reception) → q.held ≡ Received x → q.held ≡ Received y → x ≡ y
same_held q x y one two = received_injective x y (sym one ∙ two)

pub same_holds : (s : Station) (i : ℕ) (x y : Reception) → HoldsAt s i x → HoldsAt s i y → x ≡ y
same_holds s i x y (p, at, holds) (q, also, holds') =
    same_held q x y (subst (λ (z : Port). z.held ≡ Received x) (same_there s.ports i p q at also) holds) holds'

-- a master port's root and steps are one pair
pub same_mine : (r t r' t' : ℕ) → Mine r t ≡ Mine r' t' → (r ≡ r') × (t ≡ t')
same_mine r t r' t' e = (cc, cc)
