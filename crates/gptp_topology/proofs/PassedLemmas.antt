-- Each time of a document is told of, as its events are passed.
use Rattle.std.proofs.Common.{◌≡◌, ◌≤◌, ◌<◌, ℕ, Bool, true, false, ◌==◌, cond, List, [], ◌∷◌, ◌++◌, map, slice_get, Some, zero, suc, append_assoc, refl, sym, ap, subst, ◌∙◌, arith}
use Rattle.std.specs.List.{AllByRecursion}
use Rattle.std.proofs.lemmas.Bool.{eq-eqb, eqb-true, eqb-false, ne_eqb}
use Rattle.std.proofs.lemmas.List.{map-append}
use Rattle.gptp_scenario.specs.Allowed.{AreAllowed}
use Rattle.gptp_scenario.specs.declared.change.Timed.{Timed}
use Rattle.gptp_network.specs.Document.{DocumentState}
use Rattle.gptp_network.specs.Events.{AreInOrder}
use Rattle.gptp_network.specs.Snapshot.{events_by}
use Rattle.gptp_topology.specs.Tables.{told_times}
use Rattle.gptp_topology.specs.Times.{AreCalmTimes, IsCalmTime, times_from, times_of}
use Rattle.gptp_topology.specs.declared.times.CalmTime.{CalmTime}
use Rattle.gptp_topology.proofs.CourseLemmas.{all_from_0, behind, not_before, only_past, order_behind, past_by, past_more, still_past, until_now}

-- ---- whatever is told of a time

-- These events are done, and those are left; the last time so far is this one, and of all times before it something is
-- told, which has its time and is so.
pub record Passed {X : Type 0} (at_of : X → ℕ) (Is : X → Type 0) (d : DocumentState) (done left : List Timed) (at : ℕ)
    (xs : List X) : Type 0 where
  pub split : done ++ left ≡ d.events
  pub past : past_by at done
  pub come : not_before at left
  pub order : AreInOrder left
  pub times_are : map at_of xs ++ times_from at left ≡ times_of d.events
  pub each : AllByRecursion Is xs

pub passed_none : {X : Type 0} (at_of : X → ℕ) (Is : X → Type 0) (d : DocumentState) → AreInOrder d.events
    → Passed at_of Is d [] d.events 0 []
passed_none at_of Is d order = record {
  split = refl;
  past = tt;
  come = all_from_0 d.events;
  order = order;
  times_are = refl;
  each = tt;
}

one_more : {X : Type 0} (Is : X → Type 0) (xs : List X) (x : X) → AllByRecursion Is xs → Is x
    → AllByRecursion Is (xs ++ x ∷ [])
one_more Is [] x all one = (one, tt)
one_more Is (y ∷ xs) x all one = (all.0, one_more Is xs x all.1 one)

module _ {X : Type 0} (at_of : X → ℕ) (Is : X → Type 0) (d : DocumentState) (done : List Timed) (at : ℕ)
    (xs : List X) where
  -- at the next event, of the same time
  pub passed_same : (t : Timed) (left : List Timed) → Passed at_of Is d done (t ∷ left) at xs → t.at ≡ at
      → Passed at_of Is d (done ++ t ∷ []) left t.at xs
  passed_same t left so_far same = record {
    split = append_assoc done (t ∷ []) left ∙ so_far.split;
    past = past_more t.at done t (still_past at t.at done so_far.come.0 so_far.past) self;
    come = behind t left so_far.order;
    order = order_behind t left so_far.order;
    times_are =
        ap (λ a. map at_of xs ++ times_from a left) same ∙ ap (λ ts. map at_of xs ++ ts) (sym step) ∙ so_far.times_are;
    each = so_far.each;
  }
    where
      self : t.at ≤ t.at
      self = omega arith

      step : times_from at (t ∷ left) ≡ times_from at left
      step = ap (λ test. cond test (times_from at left) (at ∷ times_from t.at left)) (eq-eqb t.at at same)

  -- or of another
  pub passed_next : (t : Timed) (left : List Timed) (x : X) → Passed at_of Is d done (t ∷ left) at xs
      → (t.at ≡ at → ⊥) → at_of x ≡ at → (events_by at d.events ≡ done → Is x)
      → Passed at_of Is d (done ++ t ∷ []) left t.at (xs ++ x ∷ [])
  passed_next t left x so_far apart at_is is = record {
    split = append_assoc done (t ∷ []) left ∙ so_far.split;
    past = past_more t.at done t (still_past at t.at done earlier so_far.past) self;
    come = behind t left so_far.order;
    order = order_behind t left so_far.order;
    times_are =
        ap (λ ts. ts ++ times_from t.at left) (map-append at_of xs (x ∷ []))
        ∙ append_assoc (map at_of xs) (at_of x ∷ []) (times_from t.at left)
        ∙ ap (λ a. map at_of xs ++ a ∷ times_from t.at left) at_is
        ∙ ap (λ ts. map at_of xs ++ ts) (sym step) ∙ so_far.times_are;
    each = one_more Is xs x so_far.each (is now);
  }
    where
      earlier : at ≤ t.at
      earlier = so_far.come.0

      self : t.at ≤ t.at
      self = omega arith

      later : at < t.at
      later = omega (arith, earlier, apart)

      now : events_by at d.events ≡ done
      now = ap (events_by at) (sym so_far.split) ∙ until_now at done t left so_far.past later so_far.order

      step : times_from at (t ∷ left) ≡ at ∷ times_from t.at left
      step = ap (λ test. cond test (times_from at left) (at ∷ times_from t.at left)) (ne_eqb t.at at apart)

  -- after the last event
  pub passed_last : (x : X) → Passed at_of Is d done [] at xs → at_of x ≡ at → (events_by at d.events ≡ done → Is x)
      → (map at_of (xs ++ x ∷ []) ≡ times_of d.events) × AllByRecursion Is (xs ++ x ∷ [])
  passed_last x so_far at_is is = (
    map-append at_of xs (x ∷ []) ∙ ap (λ a. map at_of xs ++ a ∷ []) at_is ∙ so_far.times_are,
    one_more Is xs x so_far.each (is now),
  )
    where
      now : events_by at d.events ≡ done
      now = ap (events_by at) (sym so_far.split) ∙ only_past at done [] so_far.past tt

-- ---- whether the document is calm then, and its bounds

abbrev at_of : CalmTime → ℕ
at_of c = c.at

abbrev pub CalmPassed : DocumentState → List Timed → List Timed → ℕ → List CalmTime → Type 0
CalmPassed d = Passed at_of (IsCalmTime d) d

-- what a world can be asked for at each place it can be before one
pub allowed_before : (done left all : List Timed) → done ++ left ≡ all → AreAllowed all → AreAllowed done
allowed_before done left all split allowed = λ place t there.
    allowed place t (ap (λ ts. slice_get ts place) (sym split) ∙ front done place t there)
  where
    front : (ts : List Timed) (place : ℕ) (t : Timed) → slice_get ts place ≡ Some t
        → slice_get (ts ++ left) place ≡ Some t
    front [] place t there = absurd cc
    front (u ∷ ts) zero t there = there
    front (u ∷ ts) (suc place) t there = front ts place t there

module _ (d : DocumentState) (done : List Timed) (this : CalmTime) (times : List CalmTime) where
  abbrev at : ℕ
  at = this.at

  -- at the next event
  pub passed_more : (t : Timed) (left : List Timed) (after : List CalmTime) → CalmPassed d done (t ∷ left) at times
      → after ≡ told_times t.at this times → (events_by at d.events ≡ done → IsCalmTime d this)
      → CalmPassed d (done ++ t ∷ []) left t.at after
  passed_more t left after so_far is told_so =
      subst (CalmPassed d (done ++ t ∷ []) left t.at) (sym is) (by (t.at == at) refl)
    where
      by : (same : Bool) → (t.at == at) ≡ same
          → CalmPassed d (done ++ t ∷ []) left t.at (cond same times (times ++ this ∷ []))
      by true is = passed_same at_of (IsCalmTime d) d done at times t left so_far (eqb-true t.at at is)
      by false is =
          passed_next at_of (IsCalmTime d) d done at times t left this so_far (eqb-false t.at at is) refl told_so

  -- after the last event
  pub passed_all : (after : List CalmTime) → CalmPassed d done [] at times → after ≡ times ++ this ∷ []
      → (events_by at d.events ≡ done → IsCalmTime d this) → AreCalmTimes d after
  passed_all after so_far is told_so =
      let (times_are, each) = passed_last at_of (IsCalmTime d) d done at times this so_far refl told_so in
      subst (AreCalmTimes d) (sym is) (record { times_are = times_are; each = each })
