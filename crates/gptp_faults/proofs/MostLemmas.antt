-- How often the root is there that is there most often, by how many systems follow each root.
use Rattle.std.proofs.Common.{◌≡◌, ◌≤◌, ℕ, List, [], ◌∷◌, refl, sym, ap, subst, ◌∙◌, inl, inr, arith}
use Rattle.gptp_lists.specs.Members.{In}
use Rattle.gptp_lists.proofs.SystemSpecLemmas.{from_map}
use Rattle.gptp_timeline.specs.Stretch.{times}
use Rattle.gptp_faults.specs.Astray.{most_from, most_of, most_systems}
use Rattle.gptp_faults.specs.Follows.{AreFollows}
use Rattle.gptp_faults.specs.declared.follows.Follow.{Follow}

from_above : (roots xs : List ℕ) (root : ℕ) → In root xs → times roots root ≤ most_from roots xs
from_above roots [] root member = absurd member
from_above roots (x ∷ xs) root (inl same) =
    subst (λ y. times roots y ≤ most_from roots (x ∷ xs)) (sym same) (omega arith)
from_above roots (x ∷ xs) root (inr later) = let rest = from_above roots xs root later in omega (arith, rest)

from_least : (roots xs : List ℕ) (n : ℕ) → ((root : ℕ) → In root xs → times roots root ≤ n) → most_from roots xs ≤ n
from_least roots [] n each = omega arith
from_least roots (x ∷ xs) n each =
    let first = each x (inl refl) in
    let rest = from_least roots xs n (λ root member. each root (inr member)) in omega (arith, first, rest)

follow_above : (fs : List Follow) (f : Follow) → In f fs → f.systems ≤ most_systems fs
follow_above [] f member = absurd member
follow_above (g ∷ gs) f (inl same) =
    subst (λ (h : Follow). h.systems ≤ most_systems (g ∷ gs)) (sym same) (omega arith)
follow_above (g ∷ gs) f (inr later) = let rest = follow_above gs f later in omega (arith, rest)

follow_least : (fs : List Follow) (n : ℕ) → ((f : Follow) → In f fs → f.systems ≤ n) → most_systems fs ≤ n
follow_least [] n each = omega arith
follow_least (f ∷ fs) n each =
    let first = each f (inl refl) in
    let rest = follow_least fs n (λ g member. each g (inr member)) in omega (arith, first, rest)

pub most_is : (roots : List ℕ) (fs : List Follow) → AreFollows roots fs → most_systems fs ≡ most_of roots
most_is roots fs k =
    let below : most_systems fs ≤ most_of roots = follow_least fs (most_of roots) (λ f member.
    let counted = k.counted f member in
    let among = from_above roots roots f.root (k.only f member) in omega (arith, counted, among)) in
    let above : most_of roots ≤ most_systems fs = from_least roots roots (most_systems fs) (λ root member.
    let (f, there, is) = from_map (λ (g : Follow). g.root) root fs (k.all root member) in
    let most = follow_above fs f there in
    let counted : f.systems ≡ times roots root = k.counted f there ∙ ap (times roots) is in
    omega (arith, counted, most)) in
    omega (arith, below, above)
