-- The order of vectors is total, and equal vectors are one.
use Rattle.std.proofs.Common.{◌≡◌, true, false, refl, sym, ap, ◌∙◌, rules}
use Rattle.std.specs.Cmp.{IsTotalOrder}
use Rattle.std.specs.declared.cmp.Ordering.{Ordering}
use Rattle.std.specs.declared.cmp.Ordering.TheVariants.{Less, Equal, Greater}
use Rattle.std.specs.Ordering.{is_lt, is_gt, ordering_reverse}
use Rattle.std.proofs.lemmas.Cmp.{on_total, nat_list_cmp_total, upto, tied_itself}
use Rattle.gptp_vector.specs.declared.vector.Vector.{Vector}
use Rattle.gptp_vector.specs.Vector.{lower, order, parts}

-- vectors are ordered as the lists of their parts
pub order_is_total : IsTotalOrder order
order_is_total = on_total parts nat_list_cmp_total

-- vectors of which none goes before the other are the same
pub equal_is_same : (a b : Vector) → order a b ≡ Equal → a ≡ b
equal_is_same a b e = search rules

-- one vector goes before another exactly where the other goes after it
lower_is_gt : (a b : Vector) → lower a b ≡ is_gt (order b a)
lower_is_gt a b = ap is_lt (order_is_total.antisymm a b) ∙ reversed (order b a)
  where
    reversed : (o : Ordering) → is_lt (ordering_reverse o) ≡ is_gt o
    reversed Less = refl
    reversed Equal = refl
    reversed Greater = refl

-- no vector goes before itself
pub lower-same : (a : Vector) → lower a a ≡ false
lower-same a = ap is_lt (tied_itself order_is_total a)

-- what doesn't go before a vector doesn't go before what isn't after that one
pub lower_chain : (a b c : Vector) → lower b a ≡ false → lower c b ≡ false → lower c a ≡ false
lower_chain a b c ab bc =
    lower_is_gt c a ∙ upto order_is_total a b c (sym (lower_is_gt b a) ∙ ab) (sym (lower_is_gt c b) ∙ bc)

-- the lower of two isn't after the other
pub lower_one_way : (a b : Vector) → lower a b ≡ true → lower b a ≡ false
lower_one_way a b before = lower_is_gt b a ∙ go (order a b) before
  where
    go : (o : Ordering) → is_lt o ≡ true → is_gt o ≡ false
    go Less e = refl
    go Equal e = refl
    go Greater e = absurd cc

-- vectors of which none is lower are the same
pub neither_lower : (a b : Vector) → lower a b ≡ false → lower b a ≡ false → a ≡ b
neither_lower a b ab ba = equal_is_same a b (go (order a b) ab (sym (lower_is_gt b a) ∙ ba))
  where
    go : (o : Ordering) → is_lt o ≡ false → is_gt o ≡ false → o ≡ Equal
    go Less lt gt = absurd cc
    go Equal lt gt = refl
    go Greater lt gt = absurd cc
