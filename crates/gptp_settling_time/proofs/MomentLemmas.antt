-- The events of a document by times: those up to a time, and those at it.
use Rattle.std.proofs.Common.{◌≡◌, inl, inr, ◌<◌, ◌≤◌, ℕ, Bool, true, false, cond, nat_le, List, [], ◌∷◌, ◌++◌, refl, sym, ap, ◌∙◌, arith}
use Rattle.std.specs.Prelude.{◌==◌}
use Rattle.std.specs.List.{AllByRecursion}
use Rattle.std.proofs.lemmas.Bool.{eq-eqb, eqb-true}
use Rattle.std.proofs.lemmas.Bool.Decides.{nat_tests}
use Rattle.gptp_scenario.specs.Calm.{last_change}
use Rattle.gptp_scenario.specs.declared.change.Timed.{Timed}
use Rattle.gptp_network.specs.Events.{AreInOrder}
use Rattle.gptp_network.specs.Snapshot.{events_by}
use Rattle.gptp_settling_time.specs.HowSoon.{NoneBetween, events_at}
use Rattle.gptp_settling_time.proofs.CutLemmas.{IsBy, all_by}

-- events at a time are at it
pub all_at : (time : ℕ) (events : List Timed) → AllByRecursion (λ (t : Timed). t.at ≡ time) (events_at time events)
all_at time [] = tt
all_at time (event ∷ events) = by (event.at == time) refl (all_at time events)
  where
    by : (now : Bool) → (event.at == time) ≡ now
        → AllByRecursion (λ (t : Timed). t.at ≡ time) (events_at time events)
        → AllByRecursion (λ (t : Timed). t.at ≡ time) (cond now (event ∷ events_at time events) (events_at time events))
    by true is rest = (eqb-true event.at time is, rest)
    by false is rest = rest

-- the last event up to a time is no later
pub last_by : (until : ℕ) (events : List Timed) → last_change (events_by until events) ≤ until
last_by until events = within (events_by until events) (all_by until events)
  where
    within : (es : List Timed) → AllByRecursion (IsBy until) es → last_change es ≤ until
    within [] all = omega arith
    within (t ∷ []) all = all.0
    within (t ∷ (u ∷ us)) all = within (u ∷ us) all.1

-- ---- between two times

-- where no event lies between, those up to the first time are all up to any before the second
pub none_later : (events : List Timed) (last until time : ℕ) → last ≤ until → until < time
    → NoneBetween events last time → events_by until events ≡ events_by last events
none_later [] last until time early late none = refl
none_later (event ∷ events) last until time early late none =
    by (nat_le event.at until) (nat_le event.at last) refl refl
    (none_later events last until time early late (λ other member. none other (inr member)))
  where
    by : (soon sooner : Bool) → nat_le event.at until ≡ soon → nat_le event.at last ≡ sooner
        → events_by until events ≡ events_by last events
        → cond soon (event ∷ events_by until events) (events_by until events)
        ≡ cond sooner (event ∷ events_by last events) (events_by last events)
    by true true f g rest = ap (λ es. event ∷ es) rest
    by true false f g rest =
        let soon : event.at ≤ until = grind (arith, nat_tests) in
        let behind : last < event.at = grind (arith, nat_tests) in
        let after = none event (inl refl) behind in
        absurd (omega (arith, soon, after, late))
    by false true f g rest =
        let behind : until < event.at = grind (arith, nat_tests) in
        let sooner : event.at ≤ last = grind (arith, nat_tests) in
        absurd (omega (arith, behind, sooner, early))
    by false false f g rest = rest

-- ---- in order

in_order_later : (event : Timed) (events : List Timed) → AreInOrder (event ∷ events) → AreInOrder events
in_order_later event [] order = tt
in_order_later event (next ∷ events) order = order.1

-- none is up to a time that comes after one that is later
none_by : (last : ℕ) (event : Timed) (events : List Timed) → last < event.at → AreInOrder (event ∷ events)
    → events_by last events ≡ []
none_by last event [] behind order = refl
none_by last event (next ∷ events) behind order =
    by (nat_le next.at last) refl
    (none_by last next events (let after = order.0 in omega (arith, behind, after)) order.1)
  where
    by : (sooner : Bool) → nat_le next.at last ≡ sooner → events_by last events ≡ []
        → cond sooner (next ∷ events_by last events) (events_by last events) ≡ []
    by true test rest =
        let sooner : next.at ≤ last = grind (arith, nat_tests) in
        let after = order.0 in
        absurd (omega (arith, behind, after, sooner))
    by false test rest = rest

-- the events up to a time are those up to the one before, and then those at it
pub parted : (events : List Timed) (last time : ℕ) → AreInOrder events → last < time → NoneBetween events last time
    → events_by time events ≡ events_by last events ++ events_at time events
parted [] last time order later none = refl
parted (event ∷ events) last time order later none =
    by (nat_le event.at last) (event.at == time) (nat_le event.at time) refl refl refl
    (parted events last time (in_order_later event events order) later (λ other member. none other (inr member)))
  where
    by : (sooner now soon : Bool) → nat_le event.at last ≡ sooner → (event.at == time) ≡ now
        → nat_le event.at time ≡ soon → events_by time events ≡ events_by last events ++ events_at time events
        → cond soon (event ∷ events_by time events) (events_by time events)
        ≡ cond sooner (event ∷ events_by last events) (events_by last events)
        ++ cond now (event ∷ events_at time events) (events_at time events)
    by true true soon f g h rest =
        let sooner : event.at ≤ last = grind (arith, nat_tests) in
        let is = eqb-true event.at time g in
        absurd (omega (arith, sooner, is, later))
    by true false true f g h rest = ap (λ es. event ∷ es) rest
    by true false false f g h rest =
        let sooner : event.at ≤ last = grind (arith, nat_tests) in
        let behind : time < event.at = grind (arith, nat_tests) in
        absurd (omega (arith, sooner, behind, later))
    by false true true f g h rest =
        let behind : last < event.at = grind (arith, nat_tests) in
        let first = none_by last event events behind order in
        ap (λ es. event ∷ es) (rest ∙ ap (λ es. es ++ events_at time events) first)
        ∙ ap (λ es. es ++ event ∷ events_at time events) (sym first)
    by false true false f g h rest =
        let is = eqb-true event.at time g in
        let behind : time < event.at = grind (arith, nat_tests) in
        absurd (omega (arith, is, behind))
    by false false true f g h rest =
        let behind : last < event.at = grind (arith, nat_tests) in
        let after = none event (inl refl) behind in
        let soon : event.at ≤ time = grind (arith, nat_tests) in
        let same : event.at ≡ time = omega (arith, after, soon) in
        let both : true ≡ false = sym (eq-eqb event.at time same) ∙ g in
        absurd cc
    by false false false f g h rest = rest
