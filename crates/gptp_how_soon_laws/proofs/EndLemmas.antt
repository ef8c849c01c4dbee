-- The world that a run ends with has settled by the bounds that are told of a time.
use Rattle.std.proofs.Common.{◌≡◌, ◌<◌, ◌+◌, ℕ, List, [], ◌∷◌, ◌++◌, Option, refl, sym, ap, subst, ◌∙◌, append-nil, append_assoc, arith}
use Rattle.std.specs.List.{AllByRecursion}
use Rattle.gptp_links.specs.declared.bounds.Bounds.{Bounds}
use Rattle.gptp_scenario.specs.Network.{NetworkState, pace_of}
use Rattle.gptp_scenario.specs.declared.change.Timed.{Timed}
use Rattle.gptp_model.specs.World.{WorldState}
use Rattle.gptp_network.specs.Document.{DocumentState}
use Rattle.gptp_network.specs.Snapshot.{events_by}
use Rattle.gptp_report.specs.Transitions.{ActTrace, Courses, Unfolds}
use Rattle.gptp_theorem.specs.HeadlineLaws.{HasSnapshotOf}
use Rattle.gptp_theorem.specs.PlayedLaws.{IsMade, IsPlayable}
use Rattle.gptp_theorem.proofs.HeadlineLemmas.{is_settled}
use Rattle.gptp_theorem.proofs.SettlingInvariantLemmas.{IsFitEvent, events_fit, events_made, least_of}
use Rattle.gptp_theorem.proofs.SnapshotLemmas.{snapshots_stand}
use Rattle.gptp_settling_time.specs.ChoiceAlone.{ChoiceStandsAs}
use Rattle.gptp_settling_time.specs.Documents.{IsSettledAs}
use Rattle.gptp_settling_time.specs.HowSoon.{IsChoiceAloneBound, IsChoiceBound, NoneBetween}
use Rattle.gptp_settling_time.specs.Pasts.{Past}
use Rattle.gptp_settling_time.specs.Rests.{IsTakenAs}
use Rattle.gptp_settling_time.specs.InTurn.{ChoosesAfter, ComesByEvents, LeadOn, SettlesAfter}
use Rattle.gptp_settling_time.proofs.BoundSettlesLemmas.{bound_chooses, bound_settles}
use Rattle.gptp_settling_time.proofs.AfterLemmas.{IsAfter, after_act, after_chooses, after_keeps, after_later, after_settles, begins_after, taken_as}
use Rattle.gptp_settling_time.proofs.BegunLemmas.{begun_last}
use Rattle.gptp_settling_time.proofs.LeadsLemmas.{leads_to}
use Rattle.gptp_settling_time.proofs.MadeLemmas.{made_last}
use Rattle.gptp_settling_time.proofs.MomentLemmas.{none_later}
use Rattle.gptp_settling_time.proofs.NamedAfterLemmas.{IsNamedAfter, named_act, named_as, named_fresh, named_later}
use Rattle.gptp_settling_time.proofs.PassLemmas.{passes_to}
use Rattle.gptp_how_soon_laws.specs.Settled.{EndsSettled}
use Rattle.gptp_how_soon_laws.proofs.ChoiceLemmas.{settlings_are_choice_bounds}

module _ {F : Type 0} (answers : Bounds → ℕ → F → Option ℕ → F → Type 0) where
  -- it has the time up to which the run goes
  ends_then : (until : ℕ) (events : List Timed) (ts : List ActTrace) (fate fate_after : F) (w w' : WorldState)
      → Courses answers until events ts fate fate_after w w' → w'.time ≡ until
  ends_then until [] ts fate fate_after w w' k = ap (λ (v : WorldState). v.time) k.is
  ends_then until (event ∷ events) ts fate fate_after w w' (first, rest, drawn, between, makes, k, split) =
      ends_then until events rest drawn fate_after between w' k

  -- what the network came from is so of it
  module _ (d : DocumentState) (playable : IsPlayable d) (all : List Timed) (last : Past) (until : ℕ) where
    end_in_turn : (made : List Timed) (past : Past) (events : List Timed) (ts : List ActTrace) (fate fate_after : F)
        (w w' : WorldState)
        → made ++ events ≡ all → AllByRecursion IsMade events → AllByRecursion (IsFitEvent (least_of d)) events
        → LeadOn d.network made past events last → Courses answers until events ts fate fate_after w w'
        → IsAfter d made past w → w.last_change ≡ w.time → IsAfter d all last w'
    end_in_turn made past [] ts fate fate_after w w' are is fit lead k so now =
        let same : made ≡ all = sym (append-nil made) ∙ are in
        let there : IsAfter d all last w =
        subst (λ es. IsAfter d es last w) same (subst (λ x. IsAfter d made x w) (sym lead) so) in
        (passes_to answers (IsAfter d all last) (after_later d all last)
        (λ t one other v next_is was v_is. after_act d all answers last t one other v next_is was v_is) until ts fate
        fate_after w w' k there).end
    end_in_turn made past (event ∷ events) ts fate fate_after w w' are is fit (seen, taken, next, leads, others)
        (first, rest, drawn, between, k, on, split) so now =
        let passed = passes_to answers (IsNamedAfter d made past) (named_later d playable made past)
        (λ t one other v next_is was v_is. named_act d playable made past answers t one other v next_is was v_is)
        event.at k.first fate k.drawn w k.between k.passes (named_fresh d playable made past w so now) in
        let moment : k.between.time ≡ event.at = ap (λ (v : WorldState). v.time) k.passes.is in
        end_in_turn (made ++ event ∷ []) next events rest drawn fate_after between w'
        (append_assoc made (event ∷ []) events ∙ are) is.1 fit.1 others on
        (leads_to answers d playable made event k.drawn drawn k.between between k.done is.0 fit.0 k.made
        (after_keeps d made past k.between passed.end.so) moment seen next leads
        (named_as d made k.between event.at past seen taken passed.end.named)
        (taken_as d playable made k.between past seen
        (subst (λ t. IsTakenAs d.network made past t seen) (sym moment) taken) passed.end.so))
        (made_last answers d playable made event k.drawn drawn k.between between k.done is.0 fit.0 k.made)

  -- what its events lead to is so of it
  module _ (So : NetworkState → List Timed → Past → ℕ → Type 0) (d : DocumentState) (settled until : ℕ) (fate : F)
      (first w : WorldState) (ts : List ActTrace) (playable : IsPlayable d)
      (k : Unfolds answers d until fate first ts w) (is : ComesByEvents So d until settled) where
    ended_after : IsAfter d (events_by until d.events) is.last w
    ended_after =
        end_in_turn d playable (events_by until d.events) is.last until [] is.first (events_by until d.events) ts
        k.started k.drawn first w refl
        (events_made d until playable.network playable.events) (events_fit d until playable) is.lead k.courses
        (begins_after answers d playable fate until first w ts k is.first is.begins)
        (begun_last answers d playable fate k.started first k.begun)

    ended_snapshot : HasSnapshotOf d until w
    ended_snapshot g stands =
        let keeps = after_keeps d (events_by until d.events) is.last w ended_after in
        let (systems, links) =
        snapshots_stand d.network (events_by until d.events) w g keeps.stands keeps.claim.world.sound stands in
        record { systems = systems; links = links }

    ended_at : w.time ≡ until
    ended_at = ends_then until (events_by until d.events) ts k.started k.drawn first w k.courses

  pub bound_ends_settled : (d : DocumentState) (at choice next until : ℕ) (fate : F) (first w : WorldState)
      (ts : List ActTrace) → IsPlayable d → Unfolds answers d until fate first ts w → IsChoiceBound d at choice
      → NoneBetween d.events at next → at + choice < until → until < next → IsSettledAs d until w
  bound_ends_settled d at choice next until fate first w ts playable k bound none late early =
      let all : List Timed = events_by until d.events in
      let same = none_later d.events at until next (omega (arith, late)) early none in
      let settles =
      bound_settles d playable.network playable.events.in_order at choice until until same late bound in
      let so = ended_after SettlesAfter d until until fate first w ts playable k settles in
      let keeps = after_keeps d all settles.last w so in
      let moment = ended_at SettlesAfter d until until fate first w ts playable k settles in
      let both = after_settles d playable all settles.calm until w (omega (arith, moment)) settles.last so
      settles.settles in
      record {
        settled = is_settled w (record { pace = pace_of d.network; is = keeps.claim }) both.0 both.1;
        snapshot = ended_snapshot SettlesAfter d until until fate first w ts playable k settles;
      }

  -- by a bound of the choice alone its choice stands
  pub bound_ends_chosen : (d : DocumentState) (at choice next until : ℕ) (fate : F) (first w : WorldState)
      (ts : List ActTrace) → IsPlayable d → Unfolds answers d until fate first ts w → IsChoiceAloneBound d at choice
      → NoneBetween d.events at next → at + choice < until → until < next → ChoiceStandsAs d until w
  bound_ends_chosen d at choice next until fate first w ts playable k bound none late early =
      let all : List Timed = events_by until d.events in
      let same = none_later d.events at until next (omega (arith, late)) early none in
      let chooses =
      bound_chooses d playable.network playable.events.in_order at choice until until same late bound in
      let so = ended_after ChoosesAfter d until until fate first w ts playable k chooses in
      let moment = ended_at ChoosesAfter d until until fate first w ts playable k chooses in
      record {
        choice = after_chooses d playable all chooses.calm until w (omega (arith, moment)) chooses.last so
            chooses.settles;
        snapshot = ended_snapshot ChoosesAfter d until until fate first w ts playable k chooses;
      }

  pub ends_settled : EndsSettled answers
  ends_settled d time s next until fate first w ts playable k told is none late early =
      bound_ends_settled d time.at s.roles next until fate first w ts playable k
      (settlings_are_choice_bounds d time s playable told is).0 none late early
