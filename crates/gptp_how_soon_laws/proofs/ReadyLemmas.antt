-- From when ports are capable after gains, and when what failed systems sent is gone.
use Rattle.std.proofs.Common.{◌≡◌, ◌<◌, ◌≤◌, inl, inr, ◌+◌, ℕ, Bool, true, false, cond, List, [], ◌∷◌, ◌++◌, length, refl, sym, ap₂, subst, ◌∙◌, append-nil, append_assoc, arith}
use Rattle.std.specs.Prelude.{◌==◌}
use Rattle.std.specs.List.{AllByRecursion, list_any}
use Rattle.std.proofs.lemmas.Bool.{false_from_ne_true, ne_eqb, or_from, or_parts}
use Rattle.gptp_lists.specs.Members.{In}
use Rattle.gptp_setup.specs.declared.setup.Params.{Params}
use Rattle.gptp_scenario.specs.Network.{NetworkState}
use Rattle.gptp_scenario.specs.declared.change.Timed.{Timed}
use Rattle.gptp_scenario.specs.declared.sync_wait.SyncPaths.{SyncPaths}
use Rattle.gptp_network.proofs.PassLemmas.{passes_at}
use Rattle.gptp_topology.specs.declared.course.Cable.{Cable}
use Rattle.gptp_how_soon.specs.Bounds.{asked_again, two_exchanges}
use Rattle.gptp_how_soon.specs.Gains.{is_again, is_hard_to_hear, ready}
use Rattle.gptp_how_soon.specs.Links.{varies}
use Rattle.gptp_how_soon.specs.declared.kinds.Told.{Told}
use Rattle.gptp_settling_time.specs.Gains.{AreSparedBy, HasDelaysWithin, IsSparedBy}
use Rattle.gptp_settling_time.proofs.DelayWithinLemmas.{within_before}

-- ---- lists

pub all_from : {X : Type 0} (P : X → Type 0) (xs : List X) → ((x : X) → In x xs → P x) → AllByRecursion P xs
all_from P [] each = tt
all_from P (x ∷ xs) each = (each x (inl refl), all_from P xs (λ y member. each y (inr member)))

pub none_any : {X : Type 0} (p : X → Bool) (xs : List X) (x : X) → list_any p xs ≡ false → In x xs → p x ≡ false
none_any p xs x none member = false_from_ne_true (p x) (λ is.
    let no : true ≡ false = sym (passes_at p xs x member is) ∙ none in cc)

-- ---- what failed systems sent is gone

-- after events that are over by more than a link takes
pub spared_past : (n : NetworkState) (most time : ℕ) (made events : List Timed) → 0 < time
    → HasDelaysWithin n (made ++ events) most → AllByRecursion (λ (t : Timed). t.at + most < time) events
    → AreSparedBy n made events time
spared_past n most time made [] positive within past = positive
spared_past n most time made (event ∷ events) positive within past =
    let joined : HasDelaysWithin n ((made ++ event ∷ []) ++ events) most =
    subst (λ es. HasDelaysWithin n es most) (sym (append_assoc made (event ∷ []) events)) within in (
      inl (most, within_before n (made ++ event ∷ []) events most joined, past.0),
      spared_past n most time (made ++ event ∷ []) events positive joined past.1,
    )

-- after one event more
pub spared_more : (n : NetworkState) (time : ℕ) (made events : List Timed) (event : Timed)
    → AreSparedBy n made events time
    → IsSparedBy n (made ++ events) event time → AreSparedBy n made (events ++ event ∷ []) time
spared_more n time made [] event spared one =
    (subst (λ es. IsSparedBy n es event time) (append-nil made) one, spared)
spared_more n time made (first ∷ events) event spared one = (
  spared.0,
  spared_more n time (made ++ first ∷ []) events event spared.1
      (subst (λ es. IsSparedBy n es event time) (sym (append_assoc made (first ∷ []) events)) one),
)

-- ---- from when ports are capable

pub not_none : {X : Type 0} (x : X) (xs : List X) → In x xs → (length xs == 0) ≡ false
not_none x [] member = absurd member
not_none x (y ∷ ys) member = ne_eqb (length (y ∷ ys)) 0 (λ none. omega (arith, none))

pub ready_least : (p : Params) (paths : SyncPaths) (told : List Told) (new : List Cable) (c : Cable) → In c new
    → two_exchanges p paths ≤ ready p paths told new
ready_least p paths told new c member =
    by (length new == 0) (list_any (is_again told) new) (not_none c new member)
  where
    by : (none again : Bool) → none ≡ false
        → two_exchanges p paths
        ≤ cond none 0 (cond again (asked_again p paths) (two_exchanges p paths))
    by true again is = absurd cc
    by false true is = omega arith
    by false false is = omega arith

pub ready_again : (p : Params) (paths : SyncPaths) (told : List Told) (new : List Cable)
    → list_any (is_again told) new ≡ true → ready p paths told new ≡ asked_again p paths
ready_again p paths told [] again = absurd cc
ready_again p paths told (c ∷ cs) again =
    ap₂ (λ none test. cond none 0 (cond test (asked_again p paths) (two_exchanges p paths)))
    (not_none c (c ∷ cs) (inl refl)) again

-- none is again that is easy to hear
pub none_again : (told : List Told) (cs : List Cable) → list_any (is_hard_to_hear told) cs ≡ false
    → list_any (is_again told) cs ≡ false
none_again told [] soft = refl
none_again told (c ∷ cs) soft =
    let (one, rest) = or_parts (is_hard_to_hear told c) (list_any (is_hard_to_hear told) cs) soft in
    or_from (is_again told c) (list_any (is_again told) cs) (or_parts (is_again told c) (varies c) one).0
    (none_again told cs rest)
