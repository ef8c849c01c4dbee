-- Acts after a time that change nothing of what is shown.
use Rattle.std.proofs.Common.{◌≡◌, ◌⊎◌, ◌≤◌, ℕ, Bool, true, false, not, List, [], ◌∷◌, ◌++◌, if◌then◌else◌, Option, Some, None, IfSome, inl, inr, refl, sym, ap, ◌∙◌}
use Rattle.std.specs.List.{AllByRecursion}
use Rattle.std.specs.Option.{option_or}
use Rattle.gptp_world.specs.Transitions.{ActTrace}
use Rattle.gptp_timeline.specs.Shown.{same_choice, same_roles, shown}
use Rattle.gptp_timeline.specs.Stretch.{at_of, last_at, leaves_another}
use Rattle.gptp_timeline.specs.declared.shown.Shown.{Shown}
use Rattle.gptp_timeline.proofs.MeasuredLemmas.{any_none}

-- nothing that is shown is another after an act
pub record ShowsTheSame (t : ActTrace) : Type 0 where
  pub choice : (name : ℕ) → same_choice (shown name t.before) (shown name t.after) ≡ true
  pub roles : (name : ℕ) → same_roles (shown name t.before) (shown name t.after) ≡ true

-- an act is at most at a time, or leaves what is shown as it was
abbrev pub IsStill : ℕ → ActTrace → Type 0
IsStill time t = (at_of t ≤ time) ⊎ ShowsTheSame t

-- all of some acts are so
abbrev pub StillBehind : ℕ → List ActTrace → Type 0
StillBehind time = AllByRecursion (IsStill time)

-- no choice that is shown is another after an act
abbrev pub ShowsTheSameChoice : ActTrace → Type 0
ShowsTheSameChoice t = (name : ℕ) → same_choice (shown name t.before) (shown name t.after) ≡ true

-- so it is of all of some acts behind a time
abbrev pub ChosenBehind : ℕ → List ActTrace → Type 0
ChosenBehind time = AllByRecursion (λ t. (at_of t ≤ time) ⊎ ShowsTheSameChoice t)

-- what is so of these acts and of those is so of both
pub all_both : (P : ActTrace → Type 0) (ts us : List ActTrace) → AllByRecursion P ts → AllByRecursion P us
    → AllByRecursion P (ts ++ us)
all_both P [] us first second = second
all_both P (t ∷ ts) us first second = (first.0, all_both P ts us first.1 second)

-- the last act that leaves some system another isn't after it
last_within : (test : ActTrace → Bool) (time : ℕ) (ts : List ActTrace)
    → AllByRecursion (λ t. (at_of t ≤ time) ⊎ (test t ≡ false)) ts → IfSome (last_at test ts) (λ last. last ≤ time)
last_within test time [] all = tt
last_within test time (t ∷ ts) all = by (last_at test ts) (last_within test time ts all.1) (test t) refl all.0
  where
    by : (later : Option ℕ) → IfSome later (λ last. last ≤ time) → (passes : Bool) → test t ≡ passes
        → (at_of t ≤ time) ⊎ (test t ≡ false)
        → IfSome (option_or later (if passes then Some (at_of t) else None)) (λ last. last ≤ time)
    by (Some last) within passes is one = within
    by None within true is (inl early) = early
    by None within true is (inr none) = absurd (let both : true ≡ false = sym is ∙ none in cc)
    by None within false is one = tt

-- a test of two shown systems that those acts leave
left_tests : (same : Option Shown → Option Shown → Bool) (names : List ℕ) (time : ℕ) (Leaves : ActTrace → Type 0)
    (ts : List ActTrace)
    → ((t : ActTrace) → Leaves t → (name : ℕ) → same (shown name t.before) (shown name t.after) ≡ true)
    → AllByRecursion (λ t. (at_of t ≤ time) ⊎ Leaves t) ts
    → AllByRecursion (λ t. (at_of t ≤ time) ⊎ (leaves_another same names t ≡ false)) ts
left_tests same names time Leaves [] follows left = tt
left_tests same names time Leaves (t ∷ ts) follows left =
    (by left.0, left_tests same names time Leaves ts follows left.1)
  where
    by : (at_of t ≤ time) ⊎ Leaves t → (at_of t ≤ time) ⊎ (leaves_another same names t ≡ false)
    by (inl early) = inl early
    by (inr shows) =
        inr (any_none (λ name. not (same (shown name t.before) (shown name t.after))) names
        (λ i name there. ap not (follows t shows name)))

pub last_alone : (names : List ℕ) (time : ℕ) (ts : List ActTrace) → ChosenBehind time ts
    → IfSome (last_at (leaves_another same_choice names) ts) (λ last. last ≤ time)
last_alone names time ts chosen =
    last_within (leaves_another same_choice names) time ts
    (left_tests same_choice names time ShowsTheSameChoice ts (λ t shows. shows) chosen)

pub last_choice : (names : List ℕ) (time : ℕ) (ts : List ActTrace) → StillBehind time ts
    → IfSome (last_at (leaves_another same_choice names) ts) (λ last. last ≤ time)
last_choice names time ts still =
    last_within (leaves_another same_choice names) time ts
    (left_tests same_choice names time ShowsTheSame ts (λ t shows. shows.choice) still)

pub last_roles : (names : List ℕ) (time : ℕ) (ts : List ActTrace) → StillBehind time ts
    → IfSome (last_at (leaves_another same_roles names) ts) (λ last. last ≤ time)
last_roles names time ts still =
    last_within (leaves_another same_roles names) time ts
    (left_tests same_roles names time ShowsTheSame ts (λ t shows. shows.roles) still)
