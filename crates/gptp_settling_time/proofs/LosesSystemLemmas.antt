-- A system fails: what it takes away from a world, whoever hears it.
use Rattle.std.proofs.Common.{◌≡◌, ◌≤◌, ◌<◌, ◌+◌, ℕ, true, List, slice_get, refl, sym, ap, subst, ◌∙◌, inl, inr, arith}
use Rattle.gptp_lists.specs.Members.{In}
use Rattle.gptp_lists.proofs.PlaceLemmas.{same_place}
use Rattle.gptp_graph.specs.Snapshot.{clocks}
use Rattle.gptp_graph.proofs.SystemLemmas.{In-clocks, system_of}
use Rattle.gptp_links.specs.declared.link.Direction.TheVariants.{FromA, FromB}
use Rattle.gptp_links.specs.Fate.{Draw}
use Rattle.gptp_scenario.specs.SettlingTime.{silence_span}
use Rattle.gptp_scenario.specs.declared.change.Act.TheVariants.{Change as Changing}
use Rattle.gptp_scenario.specs.declared.change.Change.TheVariants.{Fail}
use Rattle.gptp_setup.specs.SettlingParams.{SettlingParams}
use Rattle.gptp_model.specs.Acts.{Acts, AtSystem}
use Rattle.gptp_model.specs.Changing.{FailsIf}
use Rattle.gptp_model.specs.World.{WorldState}
use Rattle.gptp_model.specs.declared.done.Done.{Done}
use Rattle.gptp_invariants.specs.ChoiceCalm.{HaveQuietLinks}
use Rattle.gptp_invariants.specs.ChoiceSettlesAsMachine.{IsWorld}
use Rattle.gptp_invariants.specs.DelayMeasured.{LinkIsMeasured}
use Rattle.gptp_invariants.specs.WorldNews.{AreReadyBy, AreSilentBy}
use Rattle.gptp_invariants.specs.WorldStanding.{live_stations, snapshot_of, stations_have_clock}
use Rattle.gptp_invariants.proofs.WorldNewsLemmas.{ready_goes_through}
use Rattle.gptp_invariants.proofs.WorldStandsLemmas.{sender_lives, used_up}
use Rattle.gptp_invariants.proofs.WorldSystemLemmas.{clock_from, clock_there}
use Rattle.gptp_invariants.proofs.ChoiceCalmFactLemmas.{used_is}
use Rattle.gptp_settling_time.proofs.FailedAloneLemmas.{channels_now, elsewhere, here_before, link_used, silent_still, silent_then, stood_beside, stood_link, systems_before, time_now}
use Rattle.gptp_settling_time.proofs.LosingLemmas.{TakesAway}
use Rattle.gptp_settling_time.proofs.StaySilentLemmas.{GoesSilent}
use Rattle.gptp_invariants.specs.DelayLinkView.{LinkPlace}
use Rattle.gptp_invariants.specs.FailedUnanswered.{StandsUnanswered}

module _ (p : SettlingParams) (number : ℕ) (w : WorldState) (draws : List Draw) (done : Done) (w' : WorldState)
    (is : IsWorld p w) (is' : IsWorld p w') (acts : Acts (Changing (Fail number)) w draws done w') where
  abbrev k : AtSystem number (record w { last_change = w.time }) (λ place station.
      FailsIf station.live place station (record w { last_change = w.time }) draws w')
  k = acts.1

  module _ (lives : k.station.live ≡ true) where
    module _ (since silent : ℕ) (past : since ≤ w.time) (ready : AreReadyBy p since w)
        (quiet : HaveQuietLinks p.params w) (before : AreSilentBy p silent w)
        (long : w.time + silence_span p < silent) where
      -- else those beside it had a link in use
      goes_now : (at : LinkPlace) → StandsUnanswered at w' → GoesSilent p at w w'
      goes_now at s = elim (same_place at.answering k.place) [
        | inl own ↦
            inr (inr (record {
              channel = s.channel;
              here = here_before p number w draws done w' is is' acts lives at s;
              used = link_used p number w draws done w' is is' acts lives at s own quiet;
            }))
        | inr other ↦
            inr (inl (record {
              stood = stood_beside p number w draws done w' is is' acts lives at s other;
              silent = λ start is_so.
                  silent_still p number w draws done w' is is' acts lives at s other start start (omega arith) is_so;
            }))
      ]

      lived : (v : ℕ) → In v (clocks (snapshot_of w')) → In v (clocks (snapshot_of w))
      lived v known =
          let (s, member, named) = system_of (snapshot_of w') v known in
          subst (λ c. In c (clocks (snapshot_of w))) named
          (In-clocks (snapshot_of w) s (systems_before p number w draws done w' is is' acts lives s member))

      clock_still : (v : ℕ) → stations_have_clock (live_stations w'.stations) v ≡ true
          → stations_have_clock (live_stations w.stations) v ≡ true
      clock_still v has =
          clock_there (live_stations w.stations) v (lived v (clock_from (live_stations w'.stations) v has))

      pub fails_takes : LinkIsMeasured w → LinkIsMeasured w' → TakesAway p since silent w w'
      fails_takes measured measured' =
          let channels = channels_now p number w draws done w' is is' acts lives in
          record {
            time = time_now p number w draws done w' is is' acts lives;
            world = is';
            measured = measured';
            quiet =
                silent_then p number w draws done w' is is' acts lives since silent silent past (omega arith) ready
                quiet before long;
            goes = goes_now;
            ready = λ at stands.
                ready_goes_through p since at (Changing (Fail number)) w w' draws done is.sound measured
                (elsewhere p number w draws done w' is is' acts lives at stands) acts
                (ready at (stood_link p number w draws done w' is is' acts lives at stands));
            lived = lived;
            used = λ link channel here used. record {
              old = channel;
              here = ap (λ cs. slice_get cs link) (sym channels) ∙ here;
              used = used_is (live_stations w.stations) FromA channel
                  (used_up (live_stations w'.stations) channel used)
                  (clock_still channel.a.clock (sender_lives (live_stations w'.stations) FromA channel used))
                  (clock_still channel.b.clock (sender_lives (live_stations w'.stations) FromB channel used));
              bounds = refl;
            };
            flight = λ link direction channel here dead. record {
              old = channel;
              here = ap (λ cs. slice_get cs link) (sym channels) ∙ here;
              a = refl;
              b = refl;
              fewer = λ f flies. flies;
            };
          }
