-- Events lead a document from what its network came from to the next, and it settles by that.
use Rattle.std.proofs.Common.{◌≡◌, ◌≤◌, ℕ, List, [], ◌∷◌, ◌++◌, Option, refl, sym, ap, subst, ◌∙◌, append_assoc, append-nil, arith}
use Rattle.std.specs.List.{AllByRecursion}
use Rattle.gptp_links.specs.declared.bounds.Bounds.{Bounds}
use Rattle.gptp_scenario.specs.Network.{NetworkState, pace_of}
use Rattle.gptp_scenario.specs.declared.change.Timed.{Timed}
use Rattle.gptp_model.specs.Acts.{at}
use Rattle.gptp_model.specs.Course.{WasDone}
use Rattle.gptp_model.specs.Pending.{NothingBefore}
use Rattle.gptp_model.specs.Views.{IsNextAct}
use Rattle.gptp_model.specs.World.{WorldState}
use Rattle.gptp_world.specs.Transitions.{ActTrace}
use Rattle.gptp_network.specs.Document.{DocumentState}
use Rattle.gptp_network.specs.Snapshot.{events_by}
use Rattle.gptp_report.specs.Transitions.{Courses, Unfolds}
use Rattle.gptp_theorem.specs.PlayedLaws.{IsMade, IsPlayable}
use Rattle.gptp_theorem.proofs.HeadlineLemmas.{is_settled}
use Rattle.gptp_theorem.proofs.SettlingInvariantLemmas.{IsFitEvent, events_fit, events_made, least_of}
use Rattle.gptp_theorem.proofs.SnapshotLemmas.{snapshots_stand}
use Rattle.gptp_settling_time.specs.Pasts.{Past}
use Rattle.gptp_settling_time.specs.Rests.{IsTakenAs}
use Rattle.gptp_settling_time.specs.InTurn.{ActsFindChoiceInTurn, ActsFindSettledInTurn, ChoosesAfter, ComesByEvents, LeadOn, SettlesAfter}
use Rattle.gptp_settling_time.proofs.BegunLemmas.{begun_last}
use Rattle.gptp_settling_time.proofs.DocumentLemmas.{run_to}
use Rattle.gptp_settling_time.proofs.LaterLemmas.{AreSteps, steps_more}
use Rattle.gptp_settling_time.proofs.MadeLemmas.{made_last, made_time}
use Rattle.gptp_settling_time.proofs.PassLemmas.{passes_to}
use Rattle.gptp_settling_time.proofs.AfterLemmas.{IsAfter, after_act, after_chooses, after_keeps, after_later, after_settles, begins_after, taken_as}
use Rattle.gptp_settling_time.proofs.LeadsLemmas.{leads_to}
use Rattle.gptp_settling_time.proofs.NamedAfterLemmas.{IsNamedAfter, named_act, named_as, named_fresh, named_later}

module _ {F : Type 0} (answers : Bounds → ℕ → F → Option ℕ → F → Type 0) (d : DocumentState)
    (playable : IsPlayable d) (all : List Timed) (last : Past) (until : ℕ) (So : WorldState → Type 0)
    (begins : (w : WorldState) → IsAfter d all last w → w.last_change ≡ w.time → So w)
    (later : (w : WorldState) (time : ℕ) → w.time ≤ time → NothingBefore time w.net.pending → So w → So (at time w))
    (acts : (t : ActTrace) (fate drawn : F) (w : WorldState) → IsNextAct w t.told.timed
    → WasDone answers t.told.timed fate drawn w t.after t.told.done → So w → So t.after) where
  abbrev net : NetworkState
  net = d.network

  -- what so begins where all events are made, and is kept from then on, is so of each act that is later than all events
  pub in_turn : (made : List Timed) (past : Past) (events : List Timed) (ts : List ActTrace) (fate fate_after : F)
      (w w' : WorldState)
      → made ++ events ≡ all → AllByRecursion IsMade events → AllByRecursion (IsFitEvent (least_of d)) events
      → LeadOn net made past events last → Courses answers until events ts fate fate_after w w'
      → IsAfter d made past w → w.last_change ≡ w.time → AreSteps answers So all ts w
  in_turn made past [] ts fate fate_after w w' are is fit lead k so now =
      let same : made ≡ all = sym (append-nil made) ∙ are in
      let there : IsAfter d all last w =
      subst (λ es. IsAfter d es last w) same (subst (λ x. IsAfter d made x w) (sym lead) so) in
      let change = (after_keeps d all last w there).stands.last in
      let passed = passes_to answers So later acts until ts fate fate_after w w' k (begins w there now) in
      record { early = omega (arith, change, now); each = λ t member on. passed.each t member }
  in_turn made past (event ∷ events) ts fate fate_after w w' are is fit (seen, taken, next, leads, others)
      (first, rest, drawn, between, k, on, split) so now =
      let passed = passes_to answers (IsNamedAfter d made past) (named_later d playable made past)
      (λ t one other v next_is was v_is. named_act d playable made past answers t one other v next_is was v_is)
      event.at k.first fate k.drawn w k.between k.passes (named_fresh d playable made past w so now) in
      let moment : k.between.time ≡ event.at = ap (λ (v : WorldState). v.time) k.passes.is in
      steps_more answers So all event first rest ts fate drawn w between k passed.soon
      (made_time answers d playable made event k.drawn drawn k.between between k.done is.0 fit.0 k.made) split
      (in_turn (made ++ event ∷ []) next events rest drawn fate_after between w'
      (append_assoc made (event ∷ []) events ∙ are) is.1 fit.1 others on
      (leads_to answers d playable made event k.drawn drawn k.between between k.done is.0 fit.0 k.made
      (after_keeps d made past k.between passed.end.so) moment seen next leads
      (named_as d made k.between event.at past seen taken passed.end.named)
      (taken_as d playable made k.between past seen (subst (λ t. IsTakenAs net made past t seen) (sym moment) taken)
      passed.end.so))
      (made_last answers d playable made event k.drawn drawn k.between between k.done is.0 fit.0 k.made))

-- ---- the law

-- each act of a run that is later than all events is done in such worlds
pub passed_in_turn : {F : Type 0} (answers : Bounds → ℕ → F → Option ℕ → F → Type 0)
    (Settles : NetworkState → List Timed → Past → ℕ → Type 0) (d : DocumentState) (until settled : ℕ)
    (fate : F) (first w : WorldState) (ts : List ActTrace) → IsPlayable d → Unfolds answers d until fate first ts w
    → (is : ComesByEvents Settles d until settled)
    → AreSteps answers (IsAfter d (events_by until d.events) is.last) (events_by until d.events) ts first
passed_in_turn answers Settles d until settled fate first w ts playable k is =
    in_turn answers d playable (events_by until d.events) is.last until
    (IsAfter d (events_by until d.events) is.last) (λ v so now. so) (after_later d (events_by until d.events) is.last)
    (λ t one drawn v next was so. after_act d (events_by until d.events) answers is.last t one drawn v next was so) []
    is.first (events_by until d.events) ts k.started k.drawn first w refl
    (events_made d until playable.network playable.events) (events_fit d until playable) is.lead
    k.courses (begins_after answers d playable fate until first w ts k is.first is.begins)
    (begun_last answers d playable fate k.started first k.begun)

pub acts_find_settled_in_turn : {F : Type 0} (answers : Bounds → ℕ → F → Option ℕ → F → Type 0)
    → ActsFindSettledInTurn answers
acts_find_settled_in_turn answers d until settled fate first w ts t playable k member is on later =
    let run = run_to answers d until fate first w ts t playable k member in
    let now = t.told.timed.at in
    let all = events_by now d.events in
    let steps = passed_in_turn answers SettlesAfter d now settled fate first run.w run.ts playable run.unfolds is in
    let step = steps.each t
    run.member later in
    let time = step.time in
    let both = after_settles d playable all is.calm settled t.after (omega (arith, on, time)) is.last step.after
    is.settles
    in
    let keeps = after_keeps d all is.last t.after step.after in
    record {
      settled = is_settled t.after (record { pace = pace_of d.network; is = keeps.claim }) both.0 both.1;
      snapshot = λ g stands.
          let (systems, links) =
          snapshots_stand d.network all t.after g keeps.stands keeps.claim.world.sound stands in
          record { systems = systems; links = links };
    }

pub acts_find_choice_in_turn : {F : Type 0} (answers : Bounds → ℕ → F → Option ℕ → F → Type 0)
    → ActsFindChoiceInTurn answers
acts_find_choice_in_turn answers d until settled fate first w ts t playable k member is on later =
    let run = run_to answers d until fate first w ts t playable k member in
    let now = t.told.timed.at in
    let all = events_by now d.events in
    let steps = passed_in_turn answers ChoosesAfter d now settled fate first run.w run.ts playable run.unfolds is in
    let step = steps.each t
    run.member later in
    let time = step.time in
    let keeps = after_keeps d all is.last t.after step.after in
    record {
      choice = after_chooses d playable all is.calm settled t.after (omega (arith, on, time)) is.last step.after
          is.settles;
      snapshot = λ g stands.
          let (systems, links) =
          snapshots_stand d.network all t.after g keeps.stands keeps.claim.world.sound stands in
          record { systems = systems; links = links };
    }
