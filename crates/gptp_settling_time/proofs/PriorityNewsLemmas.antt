-- A priority1 that gets no worse leaves a world one since news, beside failed systems too.
use Rattle.std.proofs.Common.{◌≡◌, ◌<◌, ◌≤◌, ℕ, Bool, List, sym, ap, ◌∙◌, inl, inr, arith}
use Rattle.gptp_lists.proofs.MappedLemmas.{alike}
use Rattle.gptp_vector.specs.declared.port.PortId.{PortId}
use Rattle.gptp_links.specs.Fate.{Draw}
use Rattle.gptp_scenario.specs.Params.{KeepPace}
use Rattle.gptp_scenario.specs.declared.change.Act.TheVariants.{Change as Changing}
use Rattle.gptp_scenario.specs.declared.change.Change.TheVariants.{Priority1}
use Rattle.gptp_setup.specs.SettlingParams.{SettlingParams}
use Rattle.gptp_system.specs.Input.{Priority}
use Rattle.gptp_model.specs.Acts.{Acts}
use Rattle.gptp_model.specs.declared.done.Done.{Done}
use Rattle.gptp_model.specs.World.{Channel, WorldState, receiver, sender}
use Rattle.gptp_model.proofs.BareLemmas.{bare}
use Rattle.gptp_model.proofs.StayLemmas.{stays_clocks, with_setup_stays}
use Rattle.gptp_invariants.specs.ChoiceSettlesAsMachine.{IsWorld}
use Rattle.gptp_invariants.specs.DelayLinkView.{LinkPlace}
use Rattle.gptp_invariants.specs.DelayMeasured.{LinkIsMeasured, LinkStandsAt, StationIsLiveAt}
use Rattle.gptp_invariants.specs.FailedUnanswered.{IsFailedAmong, StandsUnanswered}
use Rattle.gptp_invariants.specs.WorldNews.{AreReadyBy, AreSilentBy, IsNews}
use Rattle.gptp_invariants.specs.WorldSound.{IsGain, IsSoundWorld}
use Rattle.gptp_invariants.proofs.DelayCapableKeptLemmas.{known_params, same_receiver, same_sender}
use Rattle.gptp_invariants.proofs.DelayChangeKeptLemmas.{acts_measured}
use Rattle.gptp_invariants.proofs.WorldNewsLemmas.{news_begin, ready_goes_through}
use Rattle.gptp_invariants.proofs.WorldSoundLemmas.{sound_gains}
use Rattle.gptp_settling_time.specs.Idle.{Lives}
use Rattle.gptp_invariants.proofs.FailedLastAnsweredLemmas.{last_told}
use Rattle.gptp_invariants.proofs.FailedOffLemmas.{off_told}
use Rattle.gptp_settling_time.proofs.NewsSoonLemmas.{AreComing, IsNewsSoon, coming_goes_through}
use Rattle.gptp_settling_time.proofs.ReactsLemmas.{Reacts, lives_as, reacts}
use Rattle.gptp_settling_time.proofs.StandsStillLemmas.{off_still, set_still, last_still}
use Rattle.gptp_settling_time.proofs.StaySilentLemmas.{AllStaySilent, stay_silent}

-- ---- what stands after it stood before

module _ (w w' : WorldState) (r : Reacts w w') where
  lived : (place number was : ℕ) → was ≡ number → StationIsLiveAt place number w' → StationIsLiveAt place was w
  lived place number was named x =
      let (old, here, same) = alike lives_as lives_as w.stations w'.stations (sym r.stand) place x.station x.here in
      record {
        station = old;
        here = here;
        live = ap (λ (y : Bool × ℕ). y.0) same ∙ x.live;
        named = ap (λ (y : Bool × ℕ). y.1) same ∙ x.named ∙ sym named;
      }

  had_failed : (place number was : ℕ) → was ≡ number → IsFailedAmong place number w'.stations
      → IsFailedAmong place was w.stations
  had_failed place number was named x =
      let (old, here, same) = alike lives_as lives_as w.stations w'.stations (sym r.stand) place x.station x.here in
      record {
        station = old;
        here = here;
        failed = ap (λ (y : Bool × ℕ). y.0) same ∙ x.failed;
        named = ap (λ (y : Bool × ℕ). y.1) same ∙ x.named ∙ sym named;
      }

  pub stood : (p : SettlingParams) → IsWorld p w → IsWorld p w' → (at : LinkPlace) → LinkStandsAt at w'
      → LinkStandsAt at w
  stood p is is' at stands =
      let (old, here, same) = alike bare bare w.net.channels w'.net.channels (sym r.links) at.link stands.channel
      stands.here in
      let begins = ap (λ (q : PortId). q.clock) (same_sender at.direction old stands.channel same) in
      let ends = ap (λ (q : PortId). q.clock) (same_receiver at.direction old stands.channel same) in
      let asking = lived at.asking (sender at.direction stands.channel).clock _ begins stands.asking in
      let answering = lived at.answering (receiver at.direction stands.channel).clock _ ends stands.answering in
      let bounds = ap (λ (c : Channel). c.bounds) same in
      let set = known_params p w is.known.set in
      let set' = known_params p w' is'.known.set in
      let asks = set at.asking asking.station asking.here
      ∙ sym (set' at.asking stands.asking.station stands.asking.here) in
      let answers = set at.answering answering.station answering.here
      ∙ sym (set' at.answering stands.answering.station stands.answering.here) in
      record {
        channel = old;
        here = here;
        up = ap (λ (c : Channel). c.up) same ∙ stands.up;
        lossless = rw bounds stands.lossless;
        asking = asking;
        answering = answering;
        apart = stands.apart;
        good = rw (bounds, answers, asks) stands.good;
      }

  pub stood_unanswered : (at : LinkPlace) → StandsUnanswered at w' → StandsUnanswered at w
  stood_unanswered at s =
      let (old, here, same) = alike bare bare w.net.channels w'.net.channels (sym r.links) at.link s.channel s.here in
      let begins = ap (λ (q : PortId). q.clock) (same_sender at.direction old s.channel same) in
      let ends = ap (λ (q : PortId). q.clock) (same_receiver at.direction old s.channel same) in
      record {
        channel = old;
        here = here;
        up = ap (λ (c : Channel). c.up) same ∙ s.up;
        asking = lived at.asking (sender at.direction s.channel).clock _ begins s.asking;
        answering = had_failed at.answering (receiver at.direction s.channel).clock _ ends s.answering;
      }

-- ---- news

module _ (p : SettlingParams) (owner value : ℕ) (w : WorldState) (draws : List Draw) (done : Done) (w' : WorldState)
    (is : IsWorld p w) (live : Lives owner w) (octet : value < 256)
    (acts : Acts (Changing (Priority1 owner value)) w draws done w') where
  pub stay_priority : AllStaySilent p w w'
  stay_priority at s =
      let k = acts.1 in
      let still = set_still value k.place k.station w k.is.here in
      let clocks =
      stays_clocks w _ (with_setup_stays value k.place k.station w k.is.here is.sound.wired.setups)
      is.sound.wired.clocks in
      record {
        stood = stood_unanswered w w' (reacts p w is owner value live octet draws done w' acts) at s;
        silent = λ time so. elim so [
          | inl off ↦ inl (off_told at k.place (Priority value) (λ n. tt) (λ n. tt) _ draws w' clocks
              (off_still w _ still at off) k.so)
          | inr (sent, last, soon) ↦
              inr (
                sent,
                last_told sent at k.place (Priority value) (λ n. tt) (λ s now n x x' same. same) _ draws w' clocks
                    (last_still w _ still sent at last) k.so,
                soon,
              )
        ];
      }

module _ (p : SettlingParams) (start owner value : ℕ) (w : WorldState) (draws : List Draw) (done : Done)
    (w' : WorldState) (is : IsWorld p w) (is' : IsWorld p w') (measured : LinkIsMeasured w) (live : Lives owner w)
    (silent : AreSilentBy p start w) (octet : value < 256)
    (acts : Acts (Changing (Priority1 owner value)) w draws done w') where
  r : Reacts w w'
  r = reacts p w is owner value live octet draws done w' acts

  pub priority_silent : AreSilentBy p start w'
  priority_silent = stay_silent p start w w' (stay_priority p owner value w draws done w' is live octet acts) silent

  pub priority_ready : AreReadyBy p start w → AreReadyBy p start w'
  priority_ready ready at stands =
      ready_goes_through p start at (Changing (Priority1 owner value)) w w' draws done is.sound measured tt acts
      (ready at (stood w w' r p is is' at stands))

module _ (p : SettlingParams) (start owner value : ℕ) (w : WorldState) (draws : List Draw) (done : Done)
    (w' : WorldState) (pace : KeepPace p) (is : IsWorld p w) (is' : IsWorld p w') (measured : LinkIsMeasured w)
    (live : Lives owner w) (sound : IsSoundWorld w) (silent : AreSilentBy p start w)
    (gain : IsGain (Priority1 owner value) w) (octet : value < 256)
    (acts : Acts (Changing (Priority1 owner value)) w draws done w') where
  abbrev reaction : Reacts w w'
  reaction = reacts p w is owner value live octet draws done w' acts

  measured' : LinkIsMeasured w'
  measured' = acts_measured (Changing (Priority1 owner value)) w w' draws done is.sound measured octet acts

  silent' : AreSilentBy p start w'
  silent' = priority_silent p start owner value w draws done w' is is' measured live silent octet acts

  sound' : IsSoundWorld w'
  sound' = sound_gains p (Priority1 owner value) w draws done w' gain octet acts is is' sound

  pub priority_stays_news : AreReadyBy p start w → w.time < start → IsNews p start w'
  priority_stays_news ready early =
      let time = reaction.time in
      news_begin p start w' pace is' measured' silent' sound'
      (priority_ready p start owner value w draws done w' is is' measured live silent octet acts ready)
      (omega (arith, early, time))

  -- some ports may ask again before they are capable
  pub priority_soon : (by : ℕ) → AreComing p by start w → w.time ≤ by → by < start → IsNewsSoon p start w'
  priority_soon by coming early before =
      let time = reaction.time in
      record {
        by = by;
        early = omega (arith, early, time);
        soon = before;
        pace = pace;
        world = is';
        measured = measured';
        silent = silent';
        sound = sound';
        coming = λ at stands.
            coming_goes_through p by start at (Changing (Priority1 owner value)) w w' draws done is.sound measured tt
            acts (coming at (stood w w' reaction p is is' at stands));
      }
