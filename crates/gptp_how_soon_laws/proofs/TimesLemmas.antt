-- The times of a document come one after another, with no event between.
use Rattle.std.proofs.Common.{◌≡◌, inl, inr, ◌<◌, ◌≤◌, ℕ, Bool, true, false, cond, List, [], ◌∷◌, refl, ap, arith}
use Rattle.std.specs.Prelude.{◌==◌, ⊤, if◌then◌else◌, nat_le}
use Rattle.std.proofs.lemmas.Bool.{eqb-false, eqb-true}
use Rattle.std.proofs.lemmas.Bool.Decides.{nat_tests}
use Rattle.gptp_lists.specs.Members.{In}
use Rattle.gptp_scenario.specs.declared.change.Timed.{Timed}
use Rattle.gptp_network.specs.Events.{AreInOrder}
use Rattle.gptp_network.specs.Snapshot.{events_by}
use Rattle.gptp_topology.specs.Times.{times_from}
use Rattle.gptp_settling_time.specs.HowSoon.{NoneBetween}
use Rattle.gptp_how_soon.specs.Times.{events_at}

-- ---- the times after one

abbrev pub later_times : ℕ → List Timed → List ℕ
later_times at [] = []
later_times at (t ∷ ts) = if t.at == at then later_times at ts else t.at ∷ later_times t.at ts

pub times_parts : (at : ℕ) (ts : List Timed) → times_from at ts ≡ at ∷ later_times at ts
times_parts at [] = refl
times_parts at (t ∷ ts) = by (t.at == at) (times_parts at ts) (times_parts t.at ts)
  where
    by : (test : Bool) → times_from at ts ≡ at ∷ later_times at ts → times_from t.at ts ≡ t.at ∷ later_times t.at ts
        → cond test (times_from at ts) (at ∷ times_from t.at ts)
        ≡ at ∷ cond test (later_times at ts) (t.at ∷ later_times t.at ts)
    by true same other = same
    by false same other = ap (λ ats. at ∷ ats) other

-- ---- each comes after the one before

abbrev pub AreTimes : List Timed → ℕ → List ℕ → Type 0
AreTimes all last [] = ⊤
AreTimes all last (at ∷ ats) = (last < at) × NoneBetween all last at × AreTimes all at ats

in_order_later : (t : Timed) (ts : List Timed) → AreInOrder (t ∷ ts) → AreInOrder ts
in_order_later t [] order = tt
in_order_later t (u ∷ us) order = order.1

first_least : (t : Timed) (ts : List Timed) → AreInOrder (t ∷ ts) → (event : Timed) → In event (t ∷ ts)
    → t.at ≤ event.at
first_least t ts order event (inl same) =
    let e : event.at ≡ t.at = ap (λ (x : Timed). x.at) same in omega (arith, e)
first_least t [] order event (inr none) = absurd none
first_least t (u ∷ us) order event (inr member) =
    let one = order.0 in let rest = first_least u us order.1 event member in omega (arith, one, rest)

module _ (all : List Timed) where
  pub times_after : (at : ℕ) (ts : List Timed) → AreInOrder ts → ((event : Timed) → In event ts → at ≤ event.at)
      → ((event : Timed) → In event all → at < event.at → In event ts) → AreTimes all at (later_times at ts)
  times_after at [] order starts rest = tt
  times_after at (t ∷ ts) order starts rest =
      by (t.at == at) refl
      (λ same. times_after at ts (in_order_later t ts order) (λ event member. starts event (inr member))
      (λ event member behind. elim (rest event member behind) [
        | inl is ↦ let e : event.at ≡ t.at = ap (λ (x : Timed). x.at) is in absurd (omega (arith, e, same, behind))
        | inr there ↦ there
      ]))
      (λ late. times_after t.at ts (in_order_later t ts order)
      (λ event member. first_least t ts order event (inr member))
      (λ event member behind. elim (rest event member (omega (arith, late, behind))) [
        | inl is ↦ let e : event.at ≡ t.at = ap (λ (x : Timed). x.at) is in absurd (omega (arith, e, behind))
        | inr there ↦ there
      ]))
    where
      by : (test : Bool) → (t.at == at) ≡ test → (t.at ≡ at → AreTimes all at (later_times at ts))
          → (at < t.at → AreTimes all t.at (later_times t.at ts))
          → AreTimes all at (cond test (later_times at ts) (t.at ∷ later_times t.at ts))
      by true is same other = same (eqb-true t.at at is)
      by false is same other =
          let apart = eqb-false t.at at is in
          let behind = starts t (inl refl) in
          let late : at < t.at = grind (arith, apart, behind) in (
            late,
            λ event member behind_it. first_least t ts order event (rest event member behind_it),
            other late,
          )

-- ---- time 0

-- the events up to time 0 are those at it
pub begin_at : (events : List Timed) → events_by 0 events ≡ events_at 0 events
begin_at [] = refl
begin_at (event ∷ events) = by (nat_le event.at 0) (event.at == 0) refl refl (begin_at events)
  where
    by : (soon now : Bool) → nat_le event.at 0 ≡ soon → (event.at == 0) ≡ now → events_by 0 events ≡ events_at 0 events
        → cond soon (event ∷ events_by 0 events) (events_by 0 events)
        ≡ cond now (event ∷ events_at 0 events) (events_at 0 events)
    by true true f g rest = ap (λ es. event ∷ es) rest
    by true false f g rest =
        let apart = eqb-false event.at 0 g in
        let early : event.at ≤ 0 = grind (arith, nat_tests) in
        absurd (apart (omega (arith, early)))
    by false true f g rest =
        let is = eqb-true event.at 0 g in
        let behind : 0 < event.at = grind (arith, nat_tests) in
        absurd (omega (arith, is, behind))
    by false false f g rest = rest
