-- What is told of a time of a document is kept by its runs.
use Rattle.std.proofs.Common.{◌≡◌, ℕ, Bool, true, false, cond, List, [], ◌∷◌, Option, None, Some, refl, sym, ap, subst, inl, inr, arith, eqb-true}
use Rattle.std.specs.List.{find}
use Rattle.std.proofs.lemmas.Option.{same_Some}
use Rattle.gptp_lists.specs.Members.{In}
use Rattle.gptp_links.specs.declared.bounds.Bounds.{Bounds}
use Rattle.gptp_network.specs.Document.{DocumentState}
use Rattle.gptp_settling_time.specs.HowSoon.{NoneBetween}
use Rattle.gptp_how_soon.specs.Times.{is_time_at, settling_times}
use Rattle.gptp_how_soon.specs.declared.bounds.Settling.{Settling}
use Rattle.gptp_how_soon.specs.declared.bounds.SettlingTime.{SettlingTime}
use Rattle.gptp_how_soon_laws.specs.Exact.{IsExactSoon}
use Rattle.gptp_how_soon_laws.specs.Settled.{ChoosesSoon, SettlesSoon}
use Rattle.gptp_network_tests.specs.Bounds.{RunsKeep, ToldIsKept, bounds_in, bounds_of, told_at}
use Rattle.gptp_network_tests.proofs.DocumentLemmas.{built, document_passes, playable}

-- ---- what is told

found : {X : Type 0} (p : X → Bool) (xs : List X) (x : X) → find p xs ≡ Some x → In x xs × (p x ≡ true)
found p [] x is = absurd cc
found p (y ∷ ys) x is = by (p y) refl is (found p ys x)
  where
    by : (test : Bool) → p y ≡ test → cond test (Some y) (find p ys) ≡ Some x
        → (find p ys ≡ Some x → In x ys × (p x ≡ true))
        → In x (y ∷ ys) × (p x ≡ true)
    by true here is rest =
        let same = same_Some y x is in (inl (sym same), subst (λ z. p z ≡ true) same here)
    by false there is rest = let (member, test) = rest is in (inr member, test)

-- such bounds are those of a time of the document
record IsTold (d : DocumentState) (time choice roles exact_from : ℕ) : Type 0 where
  is : SettlingTime
  settling : Settling
  member : In is (settling_times d)
  at : is.at ≡ time
  there : is.settling ≡ Some settling
  choice_is : settling.choice ≡ choice
  roles_are : settling.roles ≡ roles
  exact_is : settling.exact_from ≡ exact_from

bounds_told : (d : DocumentState) (time choice roles exact_from : ℕ) (t : SettlingTime) (settling : Option Settling)
    → find (is_time_at time) (settling_times d) ≡ Some t → t.settling ≡ settling
    → bounds_of settling ≡ Some (choice, roles, exact_from)
    → IsTold d time choice roles exact_from
bounds_told d time choice roles exact_from t None here there is = absurd cc
bounds_told d time choice roles exact_from t (Some s) here there is =
    let (member, at) = found (is_time_at time) (settling_times d) t here in
    let same = same_Some (s.choice, s.roles, s.exact_from) (choice, roles, exact_from) is in
    record {
      is = t;
      settling = s;
      member = member;
      at = eqb-true t.at time at;
      there = there;
      choice_is = ap (λ (b : ℕ × ℕ × ℕ). b.0) same;
      roles_are = ap (λ (b : ℕ × ℕ × ℕ). b.1) same;
      exact_is = ap (λ (b : ℕ × ℕ × ℕ). b.2) same;
    }

is_told : (d : DocumentState) (time choice roles exact_from : ℕ)
    → told_at d time ≡ Some (choice, roles, exact_from) → IsTold d time choice roles exact_from
is_told d time choice roles exact_from is = by (find (is_time_at time) (settling_times d)) refl is
  where
    by : (t : Option SettlingTime) → find (is_time_at time) (settling_times d) ≡ t
        → bounds_in t ≡ Some (choice, roles, exact_from)
        → IsTold d time choice roles exact_from
    by None here is = absurd cc
    by (Some t) here is = bounds_told d time choice roles exact_from t t.settling here refl is

-- ---- what is kept

pub kept : {F : Type 0} (answers : Bounds → ℕ → F → Option ℕ → F → Type 0) → ChoosesSoon answers
    → SettlesSoon answers → IsExactSoon answers → ToldIsKept answers
kept answers chooses settles exact d time choice roles exact_from plays told =
    let k = is_told d time choice roles exact_from told in
    let at = k.at in
    let none_at : (next : ℕ) → NoneBetween d.events time next → NoneBetween d.events k.is.at next =
    λ next none. subst (λ v. NoneBetween d.events v next) (sym at) none in
    record {
      told = told;
      chooses = λ next until fate start w ts t unfolds member none late early.
          let is = k.choice_is in
          (chooses d k.is k.settling next until fate start w ts t plays unfolds member k.member k.there
          (none_at next none) (omega (arith, late, at, is)) early).0;
      settles = λ next until fate start w ts t unfolds member none late early.
          let is = k.roles_are in
          (settles d k.is k.settling next until fate start w ts t plays unfolds member k.member k.there
          (none_at next none) (omega (arith, late, at, is)) early).0;
      exact = λ next until fate start w ts t unfolds member moment none behind late early.
          let is = k.exact_is in
          exact d k.is k.settling next until fate start w ts t plays unfolds member moment k.member k.there
          (none_at next none) (omega (arith, behind, at)) (omega (arith, late, is)) early;
    }

-- ---- calls

pub keeps : {F : Type 0} (answers : Bounds → ℕ → F → Option ℕ → F → Type 0) → ToldIsKept answers
    → (d : DocumentState) (time choice roles exact_from : ℕ) → document_passes d ≡ true → built d.network ≡ d.network
    → told_at d time ≡ Some (choice, roles, exact_from)
    → RunsKeep answers d time choice roles exact_from
keeps answers theorem d time choice roles exact_from passes same told =
    theorem d time choice roles exact_from (playable d passes same) told
