-- Going over the ports one by one.
use Rattle.std.proofs.Common.{◌≡◌, ℕ, ◌+◌, ◌-◌, ◌<◌, ◌≤◌, List, [], ◌∷◌, ◌++◌, length, get_or, set, take, drop, refl, sym, ap, ◌∙◌, append_assoc, arith}
use Rattle.std.proofs.lemmas.List.{append-nil, drop_all, drop_more, get_or-append_right, length-take, set_at, take_all, take_more}
use Rattle.gptp_receipt.specs.declared.held.Held.{Held}
use Rattle.gptp_roles.specs.Role.{each_from, each_port}

pub length-each_from : {X : Type 0} (f : ℕ → Held → X) (port : ℕ) (hs : List Held)
    → length (each_from f port hs) ≡ length hs
length-each_from f port [] = refl
length-each_from f port (h ∷ hs) = let ih = length-each_from f (port + 1) hs in omega (arith, ih)

-- the ports after others are numbered after them
pub each_from-append : {X : Type 0} (f : ℕ → Held → X) (port : ℕ) (gs hs : List Held)
    → each_from f port (gs ++ hs) ≡ each_from f port gs ++ each_from f (port + length gs) hs
each_from-append f port [] hs = let here : port ≡ port + 0 = omega arith in ap (λ (p : ℕ). each_from f p hs) here
each_from-append {X} f port (g ∷ gs) hs =
    let number : port + 1 + length gs ≡ port + length (g ∷ gs) = omega arith in
    ap (λ (xs : List X). f port g ∷ xs) (each_from-append f (port + 1) gs hs)
    ∙ ap (λ (p : ℕ). f port g ∷ (each_from f (port + 1) gs ++ each_from f p hs)) number

-- one port more
pub each_port-take : {X : Type 0} (f : ℕ → Held → X) (hs : List Held) (i : ℕ) (d : Held) → i < length hs
    → each_port f (take (i + 1) hs) ≡ each_port f (take i hs) ++ f (i + 1) (get_or hs i d) ∷ []
each_port-take {X} f hs i d within =
    let number : 1 + length (take i hs) ≡ i + 1 = omega (arith, length-take i hs) in
    ap (λ (xs : List Held). each_port f xs) (take_more hs i d within)
    ∙ each_from-append f 1 (take i hs) (get_or hs i d ∷ [])
    ∙ ap (λ (p : ℕ). each_port f (take i hs) ++ f p (get_or hs i d) ∷ []) number

-- what was made of the ports so far, and of the next one, is what is made of one port more
pub each_port-push : {X : Type 0} (f : ℕ → Held → X) (hs : List Held) (i : ℕ) (d : Held) (xs : List X) (x : X)
    → i < length hs
    → xs ≡ each_port f (take i hs) → x ≡ f (i + 1) (get_or hs i d) → xs ++ x ∷ [] ≡ each_port f (take (i + 1) hs)
each_port-push {X} f hs i d xs x within so_far next =
    ap (λ (ys : List X). ys ++ x ∷ []) so_far ∙ ap (λ (y : X). each_port f (take i hs) ++ y ∷ []) next
    ∙ sym (each_port-take f hs i d within)

length-front : (f : ℕ → Held → Held) (hs : List Held) (i : ℕ) → i < length hs → length (each_port f (take i hs)) ≡ i
length-front f hs i within = omega (arith, length-each_from f 1 (take i hs), length-take i hs)

-- after the ports that are done each port holds what it held
pub get_or-half_done : (f : ℕ → Held → Held) (hs : List Held) (i : ℕ) (d : Held) → i < length hs
    → get_or (each_port f (take i hs) ++ drop i hs) i d ≡ get_or hs i d
get_or-half_done f hs i d within =
    let none : i - i ≡ 0 = omega arith in
    let here = drop_more hs i d within in
    get_or-append_right (each_port f (take i hs)) (drop i hs) i i d (length-front f hs i within) (omega arith)
    ∙ ap (λ (n : ℕ). get_or (drop i hs) n d) none ∙ ap (λ (xs : List Held). get_or xs 0 d) here

-- the next port is done
pub set-half_done : (f : ℕ → Held → Held) (hs : List Held) (i : ℕ) (d y : Held) → i < length hs
    → set (each_port f (take i hs) ++ drop i hs) i y ≡ (each_port f (take i hs) ++ y ∷ []) ++ drop (i + 1) hs
set-half_done f hs i d y within =
    ap (λ (xs : List Held). set (each_port f (take i hs) ++ xs) i y) (drop_more hs i d within)
    ∙ set_at (each_port f (take i hs)) (get_or hs i d) (drop (i + 1) hs) y i (length-front f hs i within)
    ∙ sym (append_assoc (each_port f (take i hs)) (y ∷ []) (drop (i + 1) hs))

-- all ports are done
pub each_port-done : (f : ℕ → Held → Held) (hs : List Held) (i : ℕ) (xs : List Held) → length hs ≤ i
    → xs ≡ each_port f (take i hs) ++ drop i hs → xs ≡ each_port f hs
each_port-done f hs i xs past so_far =
    so_far ∙ ap (λ (ys : List Held). each_port f (take i hs) ++ ys) (drop_all i hs past)
    ∙ append-nil (each_port f (take i hs))
    ∙ ap (λ (ys : List Held). each_port f ys) (take_all i hs past)
