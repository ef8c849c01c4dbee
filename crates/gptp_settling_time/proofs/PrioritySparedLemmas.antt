-- A priority1 leaves what is in flight beside failed systems, and between them, as much in time as it was.
use Rattle.std.proofs.Common.{ℕ, List, sym, ap, subst, inl, inr}
use Rattle.gptp_lists.proofs.PlaceLemmas.{get-set_all}
use Rattle.gptp_links.specs.Fate.{Draw}
use Rattle.gptp_setup.specs.Intervals.{AreParams, interval_of}
use Rattle.gptp_scenario.specs.declared.change.Act.TheVariants.{Change as Changing}
use Rattle.gptp_scenario.specs.declared.change.Change.TheVariants.{Priority1}
use Rattle.gptp_system.specs.declared.answer.Answer.{Answer}
use Rattle.gptp_system.specs.Input.{Priority}
use Rattle.gptp_system.specs.Measures.{IsPartAfter, Part, measure_at}
use Rattle.gptp_model.specs.Act.{Calls}
use Rattle.gptp_model.specs.Acts.{Acts, AtSystem}
use Rattle.gptp_model.specs.Changing.{CallsIfLive, with_setup, with_station}
use Rattle.gptp_model.specs.declared.done.Done.{Done}
use Rattle.gptp_model.specs.declared.station.Station.{Station}
use Rattle.gptp_model.specs.Sound.{IsSound}
use Rattle.gptp_model.specs.World.{WorldState, sender}
use Rattle.gptp_model.proofs.StayLemmas.{Stays, stays_clocks, stays_setups, with_setup_stays}
use Rattle.gptp_invariants.specs.DelayLinkView.{LinkPlace, asked_at}
use Rattle.gptp_invariants.proofs.DelayLinkLemmas.{IsOrderly, sound_orderly}
use Rattle.gptp_invariants.proofs.WorldBeforeLemmas.{calls_before, stood}
use Rattle.gptp_settling_time.proofs.AskedInTimeLemmas.{AreAskedInTime, AsksAfter, IsAskedInTime, called_in_time}
use Rattle.gptp_settling_time.proofs.BetweenFailedLemmas.{AreGoneBetween, live_gone}
use Rattle.gptp_settling_time.proofs.StandsStillLemmas.{StandsStill, asked_still, between_still, set_still}

module _ (gone number value : ℕ) (w : WorldState) (draws : List Draw) (done : Done) (w' : WorldState)
    (sound : IsSound w) (acts : Acts (Changing (Priority1 number value)) w draws done w') where
  abbrev now : WorldState
  now = record w { last_change = w.time }

  abbrev k : AtSystem number now (λ place station.
      CallsIfLive place (Priority value) (with_station place (with_setup value station) now) draws w')
  k = acts.1

  -- the system starts with another identity
  abbrev set : WorldState
  set = with_station k.place (with_setup value k.station) now

  still : StandsStill w set
  still = set_still value k.place k.station w k.is.here

  orderly : IsOrderly set
  orderly =
      let old = sound_orderly w sound in
      let stays : Stays now set = with_setup_stays value k.place k.station now k.is.here sound.wired.setups in
      record {
        setups = stays_setups now set stays;
        clocks = stays_clocks now set stays sound.wired.clocks;
        apart = old.apart;
        params = get-set_all (λ (x : Station). AreParams x.system.params) w.stations k.place k.station
            (with_setup value k.station) k.is.here (old.params k.place k.station k.is.here) old.params;
      }

  -- no port asks by that
  asks_still : (at : LinkPlace) (is : IsAskedInTime gone at set) (x' : Part)
      → IsPartAfter is.link.asking.station.system set.time (Priority value)
      (sender at.direction is.link.channel).port (measure_at is.link.asking.state) x'
      → AsksAfter set.time (interval_of is.link.asking.station.setup.params.pdelay) (Priority value)
      (sender at.direction is.link.channel).port (measure_at is.link.asking.state) x'
  asks_still at is x' same =
      inr (
        ap (λ (y : Part). asked_at (interval_of is.link.asking.station.setup.params.pdelay) y.pdelay) same,
        ((λ e. absurd cc), λ e. absurd cc),
      )

  called_still : (answer : Answer) → Calls k.place (Priority value) set draws answer w' → AreAskedInTime gone set
      → AreAskedInTime gone w'
  called_still answer c asked at s =
      let is = asked at (stood at set w' (calls_before k.place (Priority value) set draws answer w' c) s) in
      called_in_time gone at k.place (Priority value) set draws answer w' c tt orderly is (λ same. tt)
      (λ here. asks_still at is)

  pub priority_in_time : AreAskedInTime gone w → AreAskedInTime gone w'
  priority_in_time asked = by k.so
    where
      by : CallsIfLive k.place (Priority value) set draws w' → AreAskedInTime gone w'
      by (inl (answer, c)) = called_still answer c (asked_still w set still gone asked)
      by (inr (failed, none, same)) = subst (AreAskedInTime gone) (sym same) (asked_still w set still gone asked)

  pub priority_gone : AreGoneBetween gone w → AreGoneBetween gone w'
  priority_gone all at =
      live_gone gone at k.place (Priority value) set draws w' k.so orderly (between_still w set still gone all at)
