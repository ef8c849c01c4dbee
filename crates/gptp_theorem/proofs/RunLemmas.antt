-- Each act of a run of a document leaves exact offsets.
use Rattle.std.proofs.Common.{◌≡◌, ◌≤◌, ◌+◌, ◌^◌, ℕ, List, [], ◌∷◌, ◌++◌, Option, sym, subst, inl, inr, arith}
use Rattle.std.specs.List.{AllByRecursion}
use Rattle.gptp_lists.specs.Members.{In}
use Rattle.gptp_lists.proofs.SystemSpecLemmas.{In-parts}
use Rattle.gptp_links.specs.declared.bounds.Bounds.{Bounds}
use Rattle.gptp_scenario.specs.declared.change.Timed.{Timed}
use Rattle.gptp_scenario.specs.Allowed.{IsFitAct}
use Rattle.gptp_model.specs.Acts.{at}
use Rattle.gptp_model.specs.Course.{WasDone}
use Rattle.gptp_model.specs.declared.done.Done.{Done}
use Rattle.gptp_model.specs.Prompt.{DelaysFitIntervals, NoneFaster}
use Rattle.gptp_model.specs.World.{WorldState}
use Rattle.gptp_model.proofs.AdvanceLemmas.{leaves_less, next_fits, nothing_sooner}
use Rattle.gptp_model.proofs.PromptLemmas.{begun_none_faster, next_prompt, prompt_within, stays_none_faster}
use Rattle.gptp_model.proofs.SoundLemmas.{later_sound}
use Rattle.gptp_model.proofs.StayLemmas.{done_stays}
use Rattle.gptp_world.proofs.SettlingInvariantLemmas.{next_octet}
use Rattle.gptp_world.proofs.InitialLemmas.{initial_sound}
use Rattle.gptp_network.specs.Snapshot.{events_by}
use Rattle.gptp_report.specs.Transitions.{Courses, Makes, Passes, PassesTo, ActTrace, transition}
use Rattle.gptp_invariants.specs.WorldEncodableLaws.{SetsAnOctet}
use Rattle.gptp_invariants.specs.SyncTimedClaim.{WorldInvariant}
use Rattle.gptp_invariants.proofs.SyncExactLemmas.{all_begins, all_kept, all_later}
use Rattle.gptp_theorem.specs.Headline.{HeadlineOnTime}
use Rattle.gptp_theorem.specs.HeadlineLaws.{RunsAreExact}
use Rattle.gptp_theorem.proofs.SettlingInvariantLemmas.{IsFitEvent, events_fit, least_of}
use Rattle.gptp_theorem.proofs.HeadlineLemmas.{worlds_are_exact}

-- each of these acts leaves exact offsets
abbrev AreExact : List ActTrace → Type 0
AreExact ts = (t : ActTrace) → In t ts → HeadlineOnTime t.before t.told.timed.at t.after t.told.done

both_exact : (ts us vs : List ActTrace) → vs ≡ ts ++ us → AreExact ts → AreExact us → AreExact vs
both_exact ts us vs are first rest t member = elim (In-parts t ts us (subst (In t) are member)) [
  | inl before ↦ first t before
  | inr behind ↦ rest t behind
]

module _ {F : Type 0} (answers : Bounds → ℕ → F → Option ℕ → F → Type 0) (least : ℕ) where
  -- a world of which all is claimed, none of whose ports announces at an interval below the least
  record IsKept (w : WorldState) : Type 0 where
    all : WorldInvariant w
    slow : NoneFaster least w

  kept_act : (timed : Timed) (fate fate_after : F) (w w' : WorldState) (done : Done) → IsFitAct timed.act
      → DelaysFitIntervals w timed.act → SetsAnOctet timed.act → WasDone answers timed fate fate_after w w' done
      → IsKept w
      → IsKept w'
  kept_act timed fate fate_after w w' done fit prompt octet was kept = record {
    all = all_kept answers timed fate fate_after w w' done fit prompt octet was kept.all;
    slow = stays_none_faster least w w'
        (done_stays answers timed fate fate_after w w' done kept.all.is.world.sound.wired.setups was) kept.slow;
  }

  -- what happens by itself up to a time
  record IsExactUntil (until : ℕ) (ts : List ActTrace) (w' : WorldState) : Type 0 where
    each : AreExact ts
    kept : IsKept w'
    early : w'.time ≤ until

  passes_exact : (until : ℕ) (ts : List ActTrace) (fate fate_after : F) (w w' : WorldState)
      → until ≤ 10 ^ 18 → Passes answers until ts fate fate_after w w' → IsKept w → w.time ≤ until
      → IsExactUntil until ts w'
  passes_exact until [] fate fate_after w w' moment (same, is) kept early = record {
    each = λ t member. absurd member;
    kept = subst IsKept (sym is) kept;
    early = subst (λ (v : WorldState). v.time ≤ until) (sym is) early;
  }
  passes_exact until (t ∷ ts) fate fate_after w w' moment (drawn, before, happens, rest) kept early =
      let timed = t.told.timed in let next = happens.next in let was = happens.was_done in
      let in_time = happens.early in
      let sound = later_sound w timed.at w.last_change kept.all.is.world.sound was.ready.timely.first in
      let then = (leaves_less next.item timed.at timed.act w was.draws t.told.done t.after sound next.act
      was.acts).is_time in
      let later = passes_exact until ts drawn fate_after t.after w' moment rest
      (kept_act timed fate drawn w t.after t.told.done (next_fits w timed next) (next_prompt w timed next)
      (next_octet next.item timed.act w next.act) was kept) (omega (arith, then, in_time)) in
      let one : HeadlineOnTime t.before timed.at t.after t.told.done =
      subst (λ v. HeadlineOnTime v timed.at t.after t.told.done) (sym before)
      (worlds_are_exact answers timed fate drawn w t.after t.told.done kept.all was (omega (arith, moment, in_time))) in
      record {
        each = λ u member. elim member [
          | inl same ↦ subst (λ (v : ActTrace). HeadlineOnTime v.before v.told.timed.at v.after v.told.done)
              (sym same) one
          | inr behind ↦ later.each u behind
        ];
        kept = later.kept;
        early = later.early;
      }

  passes_to_exact : (until : ℕ) (ts : List ActTrace) (fate fate_after : F) (w w' : WorldState)
      → until ≤ 10 ^ 18 → PassesTo answers until ts fate fate_after w w' → IsKept w
      → AreExact ts × IsKept w'
  passes_to_exact until ts fate fate_after w w' moment k kept =
      let on = passes_exact until ts fate fate_after w k.between moment k.passes kept k.ahead in
      let first = nothing_sooner until (until + 1) k.between.net.pending (omega arith) k.nothing_left in
      let later : IsKept (at until k.between) =
      record { all = all_later k.between until on.early first on.kept.all; slow = on.kept.slow } in
      (on.each, subst IsKept (sym k.is) later)

  -- an event is made
  makes_exact : (event : Timed) (ts : List ActTrace) (fate fate_after : F) (w w' : WorldState)
      → IsFitEvent least event → Makes answers event ts fate fate_after w w' → IsKept w → AreExact ts × IsKept w'
  makes_exact event ts fate fate_after w w' fit k kept =
      let moment = fit.moment in
      let early : event.at ≤ 10 ^ 18 = omega (arith, moment) in
      let on = passes_to_exact event.at k.first fate k.drawn w k.between early k.passes kept in
      let made = transition event k.done k.between w' in
      let one : AreExact (made ∷ []) = λ t member. elim member [
        | inl same ↦ subst (λ (v : ActTrace). HeadlineOnTime v.before v.told.timed.at v.after v.told.done) (sym same)
            (worlds_are_exact answers event k.drawn fate_after k.between w' k.done on.1.all k.made early)
        | inr none ↦ absurd none
      ] in (
        both_exact k.first (made ∷ []) ts k.are on.0 one,
        kept_act event k.drawn fate_after k.between w' k.done fit.fit
            (prompt_within least event.act k.between on.1.slow fit.prompt) fit.octet k.made on.1,
      )

  courses_exact : (until : ℕ) (events : List Timed) (ts : List ActTrace) (fate fate_after : F) (w w' : WorldState)
      → until ≤ 10 ^ 18 → AllByRecursion (IsFitEvent least) events
      → Courses answers until events ts fate fate_after w w' → IsKept w → AreExact ts
  courses_exact until [] ts fate fate_after w w' moment fit k kept =
      (passes_to_exact until ts fate fate_after w w' moment k kept).0
  courses_exact until (event ∷ events) ts fate fate_after w w' moment fit
      (first, rest, drawn, between, makes, k, are) kept =
      let made = makes_exact event first fate drawn w between fit.0 makes kept in
      both_exact first rest ts are made.0
      (courses_exact until events rest drawn fate_after between w' moment fit.1 k made.1)

pub runs_are_exact : {F : Type 0} (answers : Bounds → ℕ → F → Option ℕ → F → Type 0) → RunsAreExact answers
runs_are_exact answers d until fate start w ts t playable moment k member =
    let sound = initial_sound d.network playable.network in
    courses_exact answers (least_of d) until (events_by until d.events) ts k.started k.drawn start w moment
    (events_fit d until playable) k.courses
    (record {
      all = all_begins answers d.network fate k.started start playable.network sound k.begun;
      slow = begun_none_faster answers d.network fate k.started start sound.wired.setups k.begun;
    })
    t member
