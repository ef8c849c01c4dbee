-- Acts of a run that are later than all its events.
use Rattle.std.proofs.Common.{◌≡◌, ◌<◌, ◌≤◌, inl, inr, List, [], ◌∷◌, ◌++◌, Option, ℕ, sym, subst, arith}
use Rattle.gptp_lists.specs.Members.{In}
use Rattle.gptp_lists.proofs.SystemSpecLemmas.{In-parts}
use Rattle.gptp_links.specs.declared.bounds.Bounds.{Bounds}
use Rattle.gptp_scenario.specs.Calm.{last_change}
use Rattle.gptp_scenario.specs.declared.change.Timed.{Timed}
use Rattle.gptp_model.specs.World.{WorldState}
use Rattle.gptp_world.specs.Transitions.{ActTrace, transition}
use Rattle.gptp_report.specs.Transitions.{Makes}
use Rattle.gptp_settling_time.proofs.PassLemmas.{IsStep}

-- such a thing is so before and after each of them, and all events are to come
pub record AreSteps {F : Type 0} (answers : Bounds → ℕ → F → Option ℕ → F → Type 0) (So : WorldState → Type 0)
    (all : List Timed) (ts : List ActTrace) (w : WorldState) : Type 0 where
  pub early : w.time ≤ last_change all
  pub each : (t : ActTrace) → In t ts → last_change all < t.told.timed.at → IsStep answers So t

-- an act later than all events is none of those up to an event
pub acts_behind : {F : Type 0} (answers : Bounds → ℕ → F → Option ℕ → F → Type 0) (all : List Timed) (event : Timed)
    (first rest ts : List ActTrace) (fate drawn : F) (w between : WorldState)
    → (k : Makes answers event first fate drawn w between)
    → ((t : ActTrace) → In t k.first → t.told.timed.at ≤ event.at) → between.time ≡ event.at
    → between.time ≤ last_change all → ts ≡ first ++ rest → (t : ActTrace) → In t ts
    → last_change all < t.told.timed.at → In t rest
acts_behind answers all event first rest ts fate drawn w between k soon time early are t member late =
    elim (In-parts t first rest (subst (In t) are member)) [
      | inl here ↦
          let passed = sooner here in
          absurd (omega (arith, passed, early, time, late))
      | inr after ↦ after
    ]
  where
    now : event.at ≤ event.at
    now = omega arith

    sooner : In t first → t.told.timed.at ≤ event.at
    sooner here = elim (In-parts t k.first (transition event k.done k.between between ∷ []) (subst (In t) k.are here)) [
      | inl passed ↦ soon t passed
      | inr made ↦ elim made [
        | inl same ↦ subst (λ (v : ActTrace). v.told.timed.at ≤ event.at) (sym same) now
        | inr none ↦ absurd none
      ]
    ]

-- an event comes before all that
pub steps_more : {F : Type 0} (answers : Bounds → ℕ → F → Option ℕ → F → Type 0) (So : WorldState → Type 0)
    (all : List Timed) (event : Timed) (first rest ts : List ActTrace) (fate drawn : F) (w between : WorldState)
    → (k : Makes answers event first fate drawn w between)
    → ((t : ActTrace) → In t k.first → t.told.timed.at ≤ event.at) → between.time ≡ event.at → ts ≡ first ++ rest
    → AreSteps answers So all rest between → AreSteps answers So all ts w
steps_more answers So all event first rest ts fate drawn w between k soon time are on =
    let ahead = k.passes.ahead in
    let early = on.early in
    record {
      early = omega (arith, ahead, time, early);
      each = λ t member late.
          on.each t
          (acts_behind answers all event first rest ts fate drawn w between k soon time early are t member late) late;
    }
