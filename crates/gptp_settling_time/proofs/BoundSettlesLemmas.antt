-- By a choice bound of a time a document settles, or its choice stands.
use Rattle.std.proofs.Common.{◌≡◌, inl, inr, ◌<◌, ◌+◌, ℕ, suc, List, [], ◌∷◌, sym, subst, arith}
use Rattle.gptp_scenario.specs.Calm.{IsCalm, NothingLapses}
use Rattle.gptp_scenario.specs.Network.{IsNetwork, NetworkState, pace_of}
use Rattle.gptp_scenario.specs.SettlingTime.{settling_span_with}
use Rattle.gptp_scenario.specs.SyncWait.{sync_paths}
use Rattle.gptp_scenario.specs.declared.change.Timed.{Timed}
use Rattle.gptp_network.specs.Document.{DocumentState}
use Rattle.gptp_network.specs.Events.{AreInOrder}
use Rattle.gptp_network.specs.Snapshot.{events_by}
use Rattle.gptp_settling_time.specs.HowSoon.{IsChoiceAloneBound, IsChoiceBound, IsChoiceBoundAfter}
use Rattle.gptp_settling_time.specs.Pasts.{AnyPast, Past}
use Rattle.gptp_settling_time.specs.InTurn.{BeginsBy, ChoosesAfter, ChoosesByEvents, ComesByEvents, LeadOn, SettlesAfter, SettlesByEvents}
use Rattle.gptp_settling_time.proofs.MomentLemmas.{last_by}
use Rattle.gptp_settling_time.proofs.SettledPastLemmas.{HasRested, any_leads, rested_so, settled_later, taken_later}
use Rattle.gptp_settling_time.proofs.LossLeadLemmas.{settles_chooses}
use Rattle.gptp_settling_time.proofs.FollowedLemmas.{IsFollowedTo, followed}
use Rattle.gptp_settling_time.proofs.LossFollowedLemmas.{lost_after}

-- A choice bound of a document at a time: by then it settles after all events up to any time before the next.
module _ (d : DocumentState) (network : IsNetwork d.network) (order : AreInOrder d.events)
    (time choice until settled : ℕ) (same : events_by until d.events ≡ events_by time d.events)
    (late : time + choice < settled) where
  abbrev n : NetworkState
  n = d.network

  abbrev made : List Timed
  made = events_by time d.events

  comes_so : (So : NetworkState → List Timed → Past → ℕ → Type 0) (first last : Past) → BeginsBy n first
      → LeadOn n [] first made last → IsCalm n made → So n made last settled → ComesByEvents So d until settled
  comes_so So first last begins lead calm settles = record {
    calm = subst (IsCalm n) (sym same) calm;
    first = first;
    begins = begins;
    last = last;
    lead = subst (λ es. LeadOn n [] first es last) (sym same) lead;
    settles = subst (λ es. So n es last settled) (sym same) settles;
  }

  any_settles : IsCalm n made → choice ≡ settling_span_with (pace_of n) (sync_paths n made) (sync_paths n made).systems
      → SettlesByEvents d until settled
  any_settles calm is =
      let last = last_by time d.events in
      comes_so SettlesAfter AnyPast AnyPast tt (any_leads n [] made) calm (inr (omega (arith, last, is, late)))

  follow_settles : IsCalm n made → NothingLapses n.params → IsFollowedTo n made time choice
      → SettlesByEvents d until settled
  follow_settles calm off so =
      comes_so SettlesAfter so.first so.last so.begins so.lead calm
      (rested_so n made so.last settled off (later so.settles))
    where
      later : HasRested n made so.last (suc (time + choice)) → HasRested n made so.last settled
      later (seen, taken, is) = (
        seen,
        taken_later n made so.last seen (suc (time + choice)) settled late taken,
        settled_later n made seen (suc (time + choice)) settled late is,
      )

  settles_after : (earlier : List ℕ) → IsChoiceBoundAfter n d.events earlier time choice
      → SettlesByEvents d until settled
  settles_after [] (start, (calm, inl (lapses, is))) = any_settles calm is
  settles_after [] (start, (calm, inr (off, rest))) =
      follow_settles calm off (followed n network off d.events order [] time choice (start, (calm, inr (off, rest))))
  settles_after (last ∷ earlier) (later, between, (calm, inl (lapses, is))) = any_settles calm is
  settles_after (last ∷ earlier) (later, between, (calm, inr (off, rest))) =
      follow_settles calm off
      (followed n network off d.events order (last ∷ earlier) time choice
      (inl (later, between, (calm, inr (off, rest)))))

  pub bound_settles : IsChoiceBound d time choice → SettlesByEvents d until settled
  bound_settles (earlier, inl bound) = settles_after earlier bound
  bound_settles (earlier, inr (alone, lost)) =
      let x = lost_after d network order time alone choice earlier lost in
      comes_so SettlesAfter x.first x.last x.begins x.lead x.calm (x.settles settled late)

  pub bound_chooses : IsChoiceAloneBound d time choice → ChoosesByEvents d until settled
  bound_chooses (earlier, inl bound) =
      let is = settles_after earlier bound in
      record {
        calm = is.calm;
        first = is.first;
        begins = is.begins;
        last = is.last;
        lead = is.lead;
        settles = settles_chooses n (events_by until d.events) is.last settled is.settles;
      }
  bound_chooses (earlier, inr (roles, lost)) =
      let x = lost_after d network order time choice roles earlier lost in
      comes_so ChoosesAfter x.first x.last x.begins x.lead x.calm (x.chooses settled late)
