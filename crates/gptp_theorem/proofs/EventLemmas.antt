-- What one event more makes of systems and links, and lists of which one member becomes another.
use Rattle.std.proofs.Common.{◌≡◌, ◌≢◌, ℕ, zero, suc, List, [], ◌∷◌, ◌++◌, map, Some, slice_get, slice_set, refl, sym, ap, ◌∙◌, arith}
use Rattle.std.proofs.lemmas.Option.{none-some, same_Some}
use Rattle.gptp_scenario.specs.declared.change.Timed.{Timed}
use Rattle.gptp_scenario.specs.declared.network.LinkSpec.{LinkSpec}
use Rattle.gptp_scenario.specs.Calm.{last_change}
use Rattle.gptp_scenario.specs.Change.{link_acted, link_after, system_acted, system_stands}

-- ---- one event more

pub system_behind : (ts : List Timed) (t : Timed) (own : ℕ) (s : _)
    → system_stands (ts ++ t ∷ []) own s ≡ system_acted t.act own (system_stands ts own s)
system_behind [] t own s = refl
system_behind (u ∷ ts) t own s = system_behind ts t own (system_acted u.act own s)

pub link_behind : (ts : List Timed) (t : Timed) (v : LinkSpec)
    → link_after (ts ++ t ∷ []) v ≡ link_acted t.act (link_after ts v)
link_behind [] t v = refl
link_behind (u ∷ ts) t v = link_behind ts t (link_acted u.act v)

pub last_behind : (ts : List Timed) (t : Timed) → last_change (ts ++ t ∷ []) ≡ t.at
last_behind [] t = refl
last_behind (u ∷ []) t = refl
last_behind (u ∷ (v ∷ ts)) t = last_behind (v ∷ ts) t

-- ---- lists

pub map_each : {X Y : Type 0} (f g : X → Y) (xs : List X)
    → ((i : ℕ) (x : X) → slice_get xs i ≡ Some x → g x ≡ f x) → map g xs ≡ map f xs
map_each f g [] same = refl
map_each f g (x ∷ xs) same =
    ap (λ y. y ∷ map g xs) (same zero x refl)
    ∙ ap (λ ys. f x ∷ ys) (map_each f g xs (λ i z there. same (suc i) z there))

-- one member is mapped by g as well, and g is f of the others
pub set_one : {X Y : Type 0} (f g : X → Y) (xs : List X) (place : ℕ) (x : X) → slice_get xs place ≡ Some x
    → ((i : ℕ) (z : X) → i ≢ place → slice_get xs i ≡ Some z → g z ≡ f z)
    → slice_set (map f xs) place (g x) ≡ map g xs
set_one f g [] place x here others = absurd (none-some x here)
set_one f g (z ∷ zs) zero x here others =
    ap (λ y. g y ∷ map f zs) (sym (same_Some z x here))
    ∙ ap (λ ys. g z ∷ ys) (sym (map_each f g zs (λ i v there. others (suc i) v (λ e. omega arith) there)))
set_one f g (z ∷ zs) (suc place) x here others =
    ap (λ y. y ∷ slice_set (map f zs) place (g x)) (sym (others zero z (λ e. omega arith) refl))
    ∙ ap (λ ys. g z ∷ ys)
    (set_one f g zs place x here (λ i v apart there. others (suc i) v (λ e. apart (omega arith)) there))

pub set_twice : {X : Type 0} (xs : List X) (i : ℕ) (x y : X) → slice_set (slice_set xs i x) i y ≡ slice_set xs i y
set_twice [] i x y = refl
set_twice (z ∷ zs) zero x y = refl
set_twice (z ∷ zs) (suc i) x y = ap (λ rest. z ∷ rest) (set_twice zs i x y)

-- what stands there already
pub set_itself : {X : Type 0} (xs : List X) (i : ℕ) (x : X) → slice_get xs i ≡ Some x → xs ≡ slice_set xs i x
set_itself [] i x here = refl
set_itself (z ∷ zs) zero x here = ap (λ y. y ∷ zs) (same_Some z x here)
set_itself (z ∷ zs) (suc i) x here = ap (λ rest. z ∷ rest) (set_itself zs i x here)
