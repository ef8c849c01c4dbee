-- A link is told of where at some time it is in use and isn't good, or loses frames.
use Rattle.std.proofs.Common.{◌≡◌, ℕ, Bool, true, false, ◌==◌, cond, List, [], ◌∷◌, ◌++◌, Option, Some, None, eqb-true, refl, sym, ap, ◌∙◌, inl, inr}
use Rattle.std.specs.List.{flat_map}
use Rattle.gptp_lists.specs.Members.{In}
use Rattle.gptp_setup.specs.declared.setup.Params.{Params}
use Rattle.gptp_topology.specs.Trouble.{is_long, loss_in_use}
use Rattle.gptp_topology.specs.declared.course.Standing.{Standing}
use Rattle.gptp_lint.specs.Trouble.{long_at, long_of, next_other, lossy_stretch, stretches}
use Rattle.gptp_lint.specs.declared.trouble.Lossy.{Lossy}

-- none of a list that is nothing
pub nothing_left : {X : Type 0} (xs ys : List X) → xs ++ ys ≡ [] → xs ≡ []
nothing_left [] ys none = refl
nothing_left (x ∷ xs) ys none = absurd cc

pub nothing_right : {X : Type 0} (xs ys : List X) → xs ++ ys ≡ [] → ys ≡ []
nothing_right [] ys none = none
nothing_right (x ∷ xs) ys none = absurd cc

pub none_of : {X Y : Type 0} (f : X → List Y) (xs : List X) → flat_map f xs ≡ [] → (x : X) → In x xs → f x ≡ []
none_of f [] none x member = absurd member
none_of f (y ∷ xs) none x (inl is) = ap f is ∙ nothing_left (f y) (flat_map f xs) none
none_of f (y ∷ xs) none x (inr member) = none_of f xs (nothing_right (f y) (flat_map f xs) none) x member

pub none_at_all : {X Y : Type 0} (f : X → List Y) (xs : List X) → ((x : X) → In x xs → f x ≡ []) → flat_map f xs ≡ []
none_at_all f [] none = refl
none_at_all f (x ∷ xs) none =
    ap (λ ys. ys ++ flat_map f xs) (none x (inl refl)) ∙ none_at_all f xs (λ y member. none y (inr member))

-- ---- links that aren't good

never_long : (p : Params) (s : Standing) (ss : List Standing) (test : Bool) → is_long p s ≡ test
    → cond test (Some (long_at p s)) (long_of p ss) ≡ None → (is_long p s ≡ false) × (long_of p ss ≡ None)
never_long p s ss true is none = absurd cc
never_long p s ss false is none = (is, none)

pub not_long : (p : Params) (ss : List Standing) → long_of p ss ≡ None → (s : Standing) → In s ss
    → is_long p s ≡ false
not_long p [] none s member = absurd member
not_long p (r ∷ ss) none s (inl is) = ap (is_long p) is ∙ (never_long p r ss (is_long p r) refl none).0
not_long p (r ∷ ss) none s (inr member) =
    not_long p ss (never_long p r ss (is_long p r) refl none).1 s member

pub no_long : (p : Params) (ss : List Standing) → ((s : Standing) → In s ss → is_long p s ≡ false) → long_of p ss ≡ None
no_long p [] none = refl
no_long p (s ∷ ss) none =
    ap (λ test. cond test (Some (long_at p s)) (long_of p ss)) (none s (inl refl))
    ∙ no_long p ss (λ r member. none r (inr member))

-- ---- links that lose frames

none_begun : (link from : ℕ) (loss : ℕ) (to : Option ℕ) (test : Bool) → (loss == 0) ≡ test
    → cond {A = List Lossy} test [] (cond test [] (record { link = link; loss = loss; from = from; to = to } ∷ [])) ≡ []
    → loss ≡ 0
none_begun link from loss to true is none = eqb-true loss 0 is
none_begun link from loss to false is none = absurd cc

pub not_lossy : (link : ℕ) (ss : List Standing) → stretches link 0 ss ≡ [] → (s : Standing) → In s ss
    → loss_in_use s ≡ 0
not_lossy link [] none s member = absurd member
not_lossy link (r ∷ ss) none s member =
    by (not_lossy link ss (ap (λ loss. stretches link loss ss) (sym free) ∙ behind)) member
  where
    now : ℕ
    now = loss_in_use r

    begun : List Lossy
    begun = cond (now == 0) [] (lossy_stretch link now r.at (next_other now ss))

    free : now ≡ 0
    free = none_begun link r.at now (next_other now ss) (now == 0) refl
        (nothing_left begun (stretches link now ss) none)

    behind : stretches link now ss ≡ []
    behind = nothing_right begun (stretches link now ss) none

    by : ((t : Standing) → In t ss → loss_in_use t ≡ 0) → In s (r ∷ ss) → loss_in_use s ≡ 0
    by rest (inl is) = ap loss_in_use is ∙ free
    by rest (inr later) = rest s later

pub no_lossy : (link : ℕ) (ss : List Standing) → ((s : Standing) → In s ss → loss_in_use s ≡ 0)
    → stretches link 0 ss ≡ []
no_lossy link [] none = refl
no_lossy link (s ∷ ss) none =
    ap (λ loss. cond (loss == 0) [] (lossy_stretch link loss s.at (next_other loss ss)) ++ stretches link loss ss)
    (none s (inl refl))
    ∙ no_lossy link ss (λ r member. none r (inr member))

-- ---- those that are left where one may have begun

-- the one that has begun with this loss, and those after it
abbrev pub left : ℕ → ℕ → ℕ → List Standing → List Lossy
left link loss from ss = lossy_stretch link loss from (next_other loss ss) ++ stretches link loss ss
