-- A priority1 that is set, seen at a link: what its system sends enters the lanes, and all else of the link stays.
use Rattle.std.proofs.Common.{◌≡◌, ◌<◌, ℕ, List, ap, subst, ◌∙◌, inl, inr}
use Rattle.gptp_lists.proofs.PlaceLemmas.{get-set_all}
use Rattle.gptp_links.specs.declared.bounds.Bounds.{Bounds}
use Rattle.gptp_links.specs.Fate.{Draw}
use Rattle.gptp_scenario.specs.declared.change.Act.TheVariants.{Change as Changing}
use Rattle.gptp_scenario.specs.declared.change.Change.TheVariants.{Priority1}
use Rattle.gptp_setup.specs.Intervals.{AreParams, interval_of}
use Rattle.gptp_setup.specs.SettlingParams.{SettlingParams}
use Rattle.gptp_system.specs.declared.answer.Answer.{Answer}
use Rattle.gptp_system.specs.Input.{Priority}
use Rattle.gptp_system.specs.Measures.{measure_at}
use Rattle.gptp_model.specs.declared.done.Done.{Done}
use Rattle.gptp_model.specs.declared.station.Station.{Station}
use Rattle.gptp_model.specs.Act.{Calls}
use Rattle.gptp_model.specs.Acts.{Acts}
use Rattle.gptp_model.specs.Changing.{with_setup, with_station}
use Rattle.gptp_model.specs.World.{WorldState}
use Rattle.gptp_model.proofs.StayLemmas.{stays_apart, stays_clocks, stays_setups, with_setup_stays}
use Rattle.gptp_pdelay_machine.specs.Meter.{Meter}
use Rattle.gptp_pdelay_machine.specs.Setting.{Setting}
use Rattle.gptp_bmca_machine.specs.Acts.{StationActs}
use Rattle.gptp_bmca_machine.specs.Touch.{Other}
use Rattle.gptp_invariants.specs.ChoiceSettlesAsMachine.{IsWorld}
use Rattle.gptp_invariants.specs.ChoiceView.{says_announce, view}
use Rattle.gptp_invariants.specs.DelayLinkActs.{ActsInTime, IsOneAct}
use Rattle.gptp_invariants.specs.DelayLinkView.{IsLinkOf, LinkPlace, least_delay, link_setting, meter, waits_view}
use Rattle.gptp_invariants.proofs.DelayLinkCallLemmas.{back_in_time, back_late, back_mute, others_send, out_in_time, out_late, out_mute}
use Rattle.gptp_invariants.proofs.DelayLinkLemmas.{IsOrderly, LinkStep, link_called, sound_orderly}
use Rattle.gptp_invariants.proofs.DelayPartLemmas.{asks_still}
use Rattle.gptp_settling_time.specs.Idle.{Lives}
use Rattle.gptp_settling_time.proofs.ReactsLemmas.{answered, reacts}
use Rattle.gptp_settling_time.proofs.SameLinkLemmas.{IsSameLink}
use Rattle.gptp_settling_time.proofs.StandsStillLemmas.{links_still, set_still}

module _ (p : SettlingParams) (w : WorldState) (is : IsWorld p w) (owner value : ℕ) (live : Lives owner w)
    (octet : value < 256) (draws : List Draw) (done : Done) (w' : WorldState)
    (acts : Acts (Changing (Priority1 owner value)) w draws done w') where
  -- as the machine sees it, its system acts
  pub acts_reacting : StationActs says_announce (view w) (view w')
  acts_reacting = inr (inr (record {
    touch = Other;
    call = (reacts p w is owner value live octet draws done w' acts).call;
    deaf = λ n a same. absurd cc;
    ages = λ i q r same there holds. absurd cc;
  }))

  abbrev place : ℕ
  place = acts.1.place

  abbrev station : Station
  station = acts.1.station

  -- the priority1 is set, before the system is called
  abbrev set : WorldState
  set = with_station place (with_setup value station) (record w { last_change = w.time })

  orderly : IsOrderly set
  orderly =
      let usual = sound_orderly w is.sound in
      let stays = with_setup_stays value place station w acts.1.is.here usual.setups in
      let after = with_station place (with_setup value station) w in
      record {
        setups = stays_setups w after stays;
        clocks = stays_clocks w after stays usual.clocks;
        apart = stays_apart w after stays usual.apart;
        params = get-set_all (λ (x : Station). AreParams x.system.params) w.stations place station
            (with_setup value station) acts.1.is.here (usual.params place station acts.1.is.here) usual.params;
      }

  module _ (at : LinkPlace) (l : IsLinkOf at w) where
    same : IsSameLink at w set l
    same = links_still w set (set_still value place station w acts.1.is.here) at l

    called : (answer : Answer) × Calls place (Priority value) set draws answer w'
    called = answered p w is owner value live octet draws done w' acts

    abbrev k : Calls place (Priority value) set draws called.0 w'
    k = called.1

    step : LinkStep at place (Priority value) set w' same.after k.station.system k.after k.sends
    step =
        link_called at place (Priority value) set draws called.0 w' k tt orderly same.after (λ here. tt) (λ here. tt)

    asking : measure_at step.after.asking.state ≡ measure_at same.after.asking.state
    asking = elim step.asking [ inl here ↦ here.1 | inr left ↦ left.1 ]

    answering : measure_at step.after.answering.state ≡ measure_at same.after.answering.state
    answering = elim step.answering [ inl here ↦ here.1 | inr left ↦ left.1 ]

    sent : ActsInTime (least_delay at set same.after) (link_setting at set same.after) (meter at set same.after)
        (meter at w' step.after)
    sent = record {
      acts = others_send step
          (asks_still (interval_of same.after.asking.station.setup.params.pdelay)
          (measure_at same.after.asking.state) (measure_at step.after.asking.state) asking) (ap waits_view answering)
          (out_mute step (λ here e. absurd cc) (λ here e. absurd cc)) (back_mute step (λ here e. absurd cc));
      out = out_in_time step;
      back = back_in_time step;
      out_late = out_late step;
      back_late = back_late step;
    }

    -- it is one act there, in which others send
    pub set_at_link : IsOneAct at w w' l
    set_at_link = record {
      after = step.after;
      settled = step.settled ∙ same.settled;
      bounds = step.grows.bounds ∙ same.bounds;
      so = subst (λ (s : Setting). ActsInTime (least_delay at w l) s (meter at w l) (meter at w' step.after))
          same.settled
          (subst (λ least. ActsInTime least (link_setting at set same.after) (meter at w l) (meter at w' step.after))
          (ap (λ (b : Bounds). b.min) same.bounds)
          (subst (λ (m : Meter). ActsInTime (least_delay at set same.after) (link_setting at set same.after) m
          (meter at w' step.after)) same.seen sent));
    }
