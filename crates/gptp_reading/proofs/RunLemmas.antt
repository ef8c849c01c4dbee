-- Runs of documents: what every act and the time that passes keep holds where a run ends, of the acts that were done
-- and of the world. So each act is done in a world that keeps what every world keeps, and leaves exact readings.
use Rattle.std.proofs.Common.{◌≡◌, ◌≤◌, ◌+◌, ◌^◌, ℕ, List, [], ◌∷◌, ◌++◌, Option, sym, ap, subst, ◌∙◌, append_assoc, inl, inr, arith}
use Rattle.std.specs.List.{AllByRecursion}
use Rattle.std.proofs.lemmas.List.{append-nil}
use Rattle.gptp_lists.specs.Members.{In}
use Rattle.gptp_lists.proofs.SystemSpecLemmas.{In-parts}
use Rattle.gptp_links.specs.declared.bounds.Bounds.{Bounds}
use Rattle.gptp_scenario.specs.declared.change.Timed.{Timed}
use Rattle.gptp_scenario.specs.Allowed.{IsFitAct}
use Rattle.gptp_model.specs.Acts.{at}
use Rattle.gptp_model.specs.Course.{WasDone}
use Rattle.gptp_model.specs.declared.done.Done.{Done}
use Rattle.gptp_model.specs.Pending.{NothingBefore}
use Rattle.gptp_model.specs.Prompt.{DelaysFitIntervals, NoneFaster}
use Rattle.gptp_model.specs.World.{WorldState}
use Rattle.gptp_model.proofs.AdvanceLemmas.{leaves_less, next_fits, nothing_sooner}
use Rattle.gptp_model.proofs.PromptLemmas.{begun_none_faster, next_prompt, prompt_within, stays_none_faster}
use Rattle.gptp_model.proofs.SoundLemmas.{later_sound}
use Rattle.gptp_model.proofs.StayLemmas.{done_stays}
use Rattle.gptp_world.proofs.SettlingInvariantLemmas.{next_octet}
use Rattle.gptp_world.proofs.InitialLemmas.{initial_sound}
use Rattle.gptp_network.specs.Document.{DocumentState}
use Rattle.gptp_network.specs.Snapshot.{events_by}
use Rattle.gptp_report.specs.Transitions.{Courses, Makes, Passes, PassesTo, ActTrace, Unfolds, transition}
use Rattle.gptp_invariants.specs.WorldEncodableLaws.{SetsAnOctet}
use Rattle.gptp_invariants.specs.SyncTimedClaim.{WorldInvariant}
use Rattle.gptp_invariants.proofs.SyncExactLemmas.{all_begins, all_kept, all_later}
use Rattle.gptp_theorem.specs.PlayedLaws.{IsPlayable}
use Rattle.gptp_theorem.proofs.SettlingInvariantLemmas.{IsFitEvent, events_fit, least_of}
use Rattle.gptp_reading.specs.Readings.{RunsReadExactly}
use Rattle.gptp_reading.proofs.ExactLemmas.{worlds_read_exactly}

-- ---- an act

-- it is one that may be made, and was done in a world of which all is claimed, at a time that clocks can show
pub record IsKeptAct {F : Type 0} (answers : Bounds → ℕ → F → Option ℕ → F → Type 0) (timed : Timed) (done : Done)
    (w w' : WorldState) : Type 0 where
  pub fate : F
  pub fate_after : F
  pub all : WorldInvariant w
  pub fit : IsFitAct timed.act
  pub prompt : DelaysFitIntervals w timed.act
  pub octet : SetsAnOctet timed.act
  pub was : WasDone answers timed fate fate_after w w' done
  pub moment : timed.at ≤ 10 ^ 18

-- ---- acts one after another

module _ {F : Type 0} (answers : Bounds → ℕ → F → Option ℕ → F → Type 0) (least : ℕ)
    (Q : List ActTrace → WorldState → Type 0)
    (act_keeps : (ts : List ActTrace) (timed : Timed) (done : Done) (w w' : WorldState)
    → IsKeptAct answers timed done w w' → Q ts w → Q (ts ++ transition timed done w w' ∷ []) w')
    (later_keeps : (ts : List ActTrace) (w : WorldState) (time : ℕ) → w.time ≤ time
    → NothingBefore time w.net.pending → Q ts w → Q ts (at time w)) where
  -- a world of which all is claimed, none of whose ports announces at an interval below the least; and so it is
  record IsKept (ts : List ActTrace) (w : WorldState) : Type 0 where
    all : WorldInvariant w
    slow : NoneFaster least w
    so : Q ts w

  kept_act : (ts : List ActTrace) (timed : Timed) (done : Done) (w w' : WorldState)
      → IsKeptAct answers timed done w w' → IsKept ts w → IsKept (ts ++ transition timed done w w' ∷ []) w'
  kept_act ts timed done w w' k kept = record {
    all = all_kept answers timed k.fate k.fate_after w w' done k.fit k.prompt k.octet k.was k.all;
    slow = stays_none_faster least w w'
        (done_stays answers timed k.fate k.fate_after w w' done k.all.is.world.sound.wired.setups k.was) kept.slow;
    so = act_keeps ts timed done w w' k kept.so;
  }

  -- what happens by itself up to a time
  record IsKeptUntil (until : ℕ) (ts : List ActTrace) (w' : WorldState) : Type 0 where
    kept : IsKept ts w'
    early : w'.time ≤ until

  passes_keep : (until : ℕ) (before ts : List ActTrace) (fate fate_after : F) (w w' : WorldState)
      → until ≤ 10 ^ 18 → Passes answers until ts fate fate_after w w' → IsKept before w → w.time ≤ until
      → IsKeptUntil until (before ++ ts) w'
  passes_keep until before [] fate fate_after w w' moment (same, is) kept early = record {
    kept = subst (λ us. IsKept us w') (sym (append-nil before)) (subst (IsKept before) (sym is) kept);
    early = subst (λ (v : WorldState). v.time ≤ until) (sym is) early;
  }
  passes_keep until before (t ∷ ts) fate fate_after w w' moment (drawn, pre, happens, rest) kept early =
      let timed = t.told.timed in let next = happens.next in let was = happens.was_done in
      let in_time = happens.early in
      let sound = later_sound w timed.at w.last_change kept.all.is.world.sound was.ready.timely.first in
      let then = (leaves_less next.item timed.at timed.act w was.draws t.told.done t.after sound next.act
      was.acts).is_time in
      let act : IsKeptAct answers timed t.told.done w t.after = record {
        fate = fate;
        fate_after = drawn;
        all = kept.all;
        fit = next_fits w timed next;
        prompt = next_prompt w timed next;
        octet = next_octet next.item timed.act w next.act;
        was = was;
        moment = omega (arith, moment, in_time);
      } in
      let one : transition timed t.told.done w t.after ≡ t =
      λ i. record { told = t.told; before = sym pre i; after = t.after } in
      let here : IsKept (before ++ t ∷ []) t.after =
      subst (λ u. IsKept (before ++ u ∷ []) t.after) one (kept_act before timed t.told.done w t.after act kept) in
      let on = passes_keep until (before ++ t ∷ []) ts drawn fate_after t.after w' moment rest here
      (omega (arith, then, in_time)) in
      subst (λ us. IsKeptUntil until us w') (append_assoc before (t ∷ []) ts) on

  passes_to_keep : (until : ℕ) (before ts : List ActTrace) (fate fate_after : F) (w w' : WorldState)
      → until ≤ 10 ^ 18 → PassesTo answers until ts fate fate_after w w' → IsKept before w
      → IsKept (before ++ ts) w'
  passes_to_keep until before ts fate fate_after w w' moment k kept =
      let on = passes_keep until before ts fate fate_after w k.between moment k.passes kept k.ahead in
      let first = nothing_sooner until (until + 1) k.between.net.pending (omega arith) k.nothing_left in
      let later : IsKept (before ++ ts) (at until k.between) = record {
        all = all_later k.between until on.early first on.kept.all;
        slow = on.kept.slow;
        so = later_keeps (before ++ ts) k.between until on.early first on.kept.so;
      } in
      subst (IsKept (before ++ ts)) (sym k.is) later

  -- an event is made
  makes_keep : (event : Timed) (before ts : List ActTrace) (fate fate_after : F) (w w' : WorldState)
      → IsFitEvent least event → Makes answers event ts fate fate_after w w' → IsKept before w
      → IsKept (before ++ ts) w'
  makes_keep event before ts fate fate_after w w' fit k kept =
      let moment = fit.moment in
      let early : event.at ≤ 10 ^ 18 = omega (arith, moment) in
      let on = passes_to_keep event.at before k.first fate k.drawn w k.between early k.passes kept in
      let act : IsKeptAct answers event k.done k.between w' = record {
        fate = k.drawn;
        fate_after = fate_after;
        all = on.all;
        fit = fit.fit;
        prompt = prompt_within least event.act k.between on.slow fit.prompt;
        octet = fit.octet;
        was = k.made;
        moment = early;
      } in
      let made = transition event k.done k.between w' in
      subst (λ us. IsKept us w')
      (append_assoc before k.first (made ∷ []) ∙ ap (λ us. before ++ us) (sym k.are))
      (kept_act (before ++ k.first) event k.done k.between w' act on)

  courses_keep : (until : ℕ) (events : List Timed) (before ts : List ActTrace) (fate fate_after : F)
      (w w' : WorldState) → until ≤ 10 ^ 18 → AllByRecursion (IsFitEvent least) events
      → Courses answers until events ts fate fate_after w w' → IsKept before w → IsKept (before ++ ts) w'
  courses_keep until [] before ts fate fate_after w w' moment fit k kept =
      passes_to_keep until before ts fate fate_after w w' moment k kept
  courses_keep until (event ∷ events) before ts fate fate_after w w' moment fit
      (first, rest, drawn, between, makes, k, are) kept =
      let made = makes_keep event before first fate drawn w between fit.0 makes kept in
      subst (λ us. IsKept us w') (append_assoc before first rest ∙ ap (λ us. before ++ us) (sym are))
      (courses_keep until events (before ++ first) rest drawn fate_after between w' moment fit.1 k made)

  pub begun_keeps : (until : ℕ) (events : List Timed) (ts : List ActTrace) (fate fate_after : F)
      (start w : WorldState) → until ≤ 10 ^ 18 → AllByRecursion (IsFitEvent least) events
      → Courses answers until events ts fate fate_after start w → WorldInvariant start → NoneFaster least start
      → Q [] start → WorldInvariant w × Q ts w
  begun_keeps until events ts fate fate_after start w moment fit k all slow so =
      let last = courses_keep until events [] ts fate fate_after start w moment fit k
      (record { all = all; slow = slow; so = so }) in
      (last.all, last.so)

-- ---- a run

-- what every act and the time that passes keep is so where a run ends
pub runs_keep : {F : Type 0} (answers : Bounds → ℕ → F → Option ℕ → F → Type 0)
    (Q : List ActTrace → WorldState → Type 0)
    → ((ts : List ActTrace) (timed : Timed) (done : Done) (w w' : WorldState)
    → IsKeptAct answers timed done w w' → Q ts w → Q (ts ++ transition timed done w w' ∷ []) w')
    → ((ts : List ActTrace) (w : WorldState) (time : ℕ) → w.time ≤ time → NothingBefore time w.net.pending → Q ts w
    → Q ts (at time w))
    → (d : DocumentState) (until : ℕ) (fate : F) (start w : WorldState) (ts : List ActTrace) → IsPlayable d
    → until ≤ 10 ^ 18 → Unfolds answers d until fate start ts w → Q [] start → WorldInvariant w × Q ts w
runs_keep answers Q act_keeps later_keeps d until fate start w ts playable moment k so =
    let sound = initial_sound d.network playable.network in
    begun_keeps answers (least_of d) Q act_keeps later_keeps until (events_by until d.events) ts k.started k.drawn start
    w moment (events_fit d until playable) k.courses
    (all_begins answers d.network fate k.started start playable.network sound k.begun)
    (begun_none_faster answers d.network fate k.started start sound.wired.setups k.begun) so

-- each of these acts was done so
abbrev pub AreKept : {F : Type 0} → (Bounds → ℕ → F → Option ℕ → F → Type 0) → List ActTrace → Type 0
AreKept answers ts = (t : ActTrace) → In t ts → IsKeptAct answers t.told.timed t.told.done t.before t.after

pub one_more : {F : Type 0} (answers : Bounds → ℕ → F → Option ℕ → F → Type 0) (ts : List ActTrace) (timed : Timed)
    (done : Done) (w w' : WorldState) → IsKeptAct answers timed done w w' → AreKept answers ts
    → AreKept answers (ts ++ transition timed done w w' ∷ [])
one_more answers ts timed done w w' act kept t member =
    elim (In-parts t ts (transition timed done w w' ∷ []) member) [
      | inl before ↦ kept t before
      | inr (inl same) ↦
          subst (λ (v : ActTrace). IsKeptAct answers v.told.timed v.told.done v.before v.after) (sym same) act
      | inr (inr none) ↦ absurd none
    ]

pub runs_read_exactly : {F : Type 0} (answers : Bounds → ℕ → F → Option ℕ → F → Type 0) → RunsReadExactly answers
runs_read_exactly answers d until fate start w ts t playable moment k member =
    let (all, kept) = runs_keep answers (λ us v. AreKept answers us) (one_more answers)
    (λ us v time later first so. so) d until fate start w ts playable moment k (λ u none. absurd none) in
    let act = kept t member in
    worlds_read_exactly answers t.told.timed act.fate act.fate_after t.before t.after t.told.done act.all act.was
    act.moment
