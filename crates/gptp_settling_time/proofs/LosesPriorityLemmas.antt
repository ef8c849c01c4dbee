-- The priority1 of a live system is set: among events that take something away it takes nothing but its identity.
use Rattle.std.proofs.Common.{◌≡◌, ◌<◌, ℕ, true, List, Some, slice_get, refl, sym, ap, subst, ◌∙◌, inl, inr}
use Rattle.gptp_lists.specs.Members.{In}
use Rattle.gptp_lists.proofs.MappedLemmas.{alike, same_there}
use Rattle.gptp_graph.specs.Snapshot.{Snapshot, clocks}
use Rattle.gptp_links.specs.Fate.{Draw}
use Rattle.gptp_links.specs.declared.link.Direction.{Direction}
use Rattle.gptp_links.specs.declared.link.Direction.TheVariants.{FromA, FromB}
use Rattle.gptp_scenario.specs.declared.change.Act.TheVariants.{Change as Changing}
use Rattle.gptp_scenario.specs.declared.change.Change.TheVariants.{Priority1}
use Rattle.gptp_setup.specs.SettlingParams.{SettlingParams}
use Rattle.gptp_system.specs.Input.{Priority}
use Rattle.gptp_model.specs.Acts.{Acts, AtSystem}
use Rattle.gptp_model.specs.Changing.{CallsIfLive, with_setup, with_station}
use Rattle.gptp_model.specs.World.{Channel, WorldState, sender, world_queue}
use Rattle.gptp_model.specs.declared.done.Done.{Done}
use Rattle.gptp_model.proofs.BareLemmas.{bare}
use Rattle.gptp_invariants.specs.ChoiceSettlesAsMachine.{IsWorld}
use Rattle.gptp_invariants.specs.DelayMeasured.{LinkIsMeasured}
use Rattle.gptp_invariants.specs.WorldNews.{AreReadyBy, AreSilentBy}
use Rattle.gptp_invariants.specs.WorldStanding.{channel_is_used, live_stations, snapshot_of, stations_have_clock}
use Rattle.gptp_invariants.proofs.WorldNewsLemmas.{ready_goes_through}
use Rattle.gptp_invariants.proofs.WorldStandsLemmas.{sender_lives, used_up}
use Rattle.gptp_invariants.proofs.WorldSystemLemmas.{clock_from, clock_there}
use Rattle.gptp_invariants.proofs.ChoiceCalmFactLemmas.{used_is}
use Rattle.gptp_settling_time.specs.Idle.{Lives}
use Rattle.gptp_settling_time.proofs.DeadLanesLemmas.{HasLess, called_less}
use Rattle.gptp_settling_time.proofs.LosingLemmas.{HadFlight, TakesAway, WasUsed}
use Rattle.gptp_settling_time.proofs.PriorityNewsLemmas.{priority_silent, stay_priority, stood}
use Rattle.gptp_settling_time.proofs.ReactsLemmas.{Reacts, reacts}
use Rattle.gptp_settling_time.proofs.StandsStillLemmas.{StandsStill, set_still, snapshot_still}

module _ (p : SettlingParams) (owner value : ℕ) (w : WorldState) (draws : List Draw) (done : Done) (w' : WorldState)
    (is : IsWorld p w) (is' : IsWorld p w') (live : Lives owner w) (octet : value < 256)
    (acts : Acts (Changing (Priority1 owner value)) w draws done w') where
  abbrev k : AtSystem owner (record w { last_change = w.time }) (λ place station.
      CallsIfLive place (Priority value) (with_station place (with_setup value station)
      (record w { last_change = w.time })) draws w')
  k = acts.1

  abbrev set : WorldState
  set = with_station k.place (with_setup value k.station) (record w { last_change = w.time })

  r : Reacts w w'
  r = reacts p w is owner value live octet draws done w' acts

  still : StandsStill w set
  still = set_still value k.place k.station w k.is.here

  -- ---- what is left

  lived : (v : ℕ) → In v (clocks (snapshot_of w')) → In v (clocks (snapshot_of w))
  lived v known =
      clock_from (live_stations w.stations) v (sym (r.lives v) ∙ clock_there (live_stations w'.stations) v known)

  was_used : (link : ℕ) (new : Channel) → slice_get w'.net.channels link ≡ Some new
      → channel_is_used (live_stations w'.stations) new ≡ true → WasUsed w link new
  was_used link new here used =
      let (old, there, same) = alike bare bare w.net.channels w'.net.channels (sym r.links) link new here in
      let lives : (v : ℕ) → stations_have_clock (live_stations w'.stations) v ≡ true
      → stations_have_clock (live_stations w.stations) v ≡ true = λ v has. sym (r.lives v) ∙ has in
      record {
        old = old;
        here = there;
        used = used_is (live_stations w.stations) FromA old
            (ap (λ (c : Channel). c.up) same ∙ used_up (live_stations w'.stations) new used)
            (subst (λ v. stations_have_clock (live_stations w.stations) v ≡ true)
            (ap (λ (c : Channel). c.a.clock) (sym same))
            (lives new.a.clock (sender_lives (live_stations w'.stations) FromA new used)))
            (subst (λ v. stations_have_clock (live_stations w.stations) v ≡ true)
            (ap (λ (c : Channel). c.b.clock) (sym same))
            (lives new.b.clock (sender_lives (live_stations w'.stations) FromB new used)));
        bounds = ap (λ (c : Channel). c.bounds) same;
      }

  had_flight : (link : ℕ) (direction : Direction) (new : Channel) → slice_get w'.net.channels link ≡ Some new
      → (In (sender direction new).clock (clocks (snapshot_of w')) → ⊥) → HadFlight w link direction new
  had_flight link direction new here dead = record {
    old = old.0;
    here = old.1;
    a = ap (λ (c : Channel). c.a) (sym old.2);
    b = ap (λ (c : Channel). c.b) (sym old.2);
    fewer = λ f member.
        less.fewer f (subst (λ (c : Channel). In f (world_queue direction c))
        (same_there w'.net.channels link new less.now here less.here) member);
  }
    where
      old : (c : Channel) × (slice_get w.net.channels link ≡ Some c) × (bare c ≡ bare new)
      old = alike bare bare w.net.channels w'.net.channels (sym r.links) link new here

      begins : (d : Direction) (a b : Channel) → bare a ≡ bare b → (sender d a).clock ≡ (sender d b).clock
      begins FromA a b same = ap (λ (c : Channel). c.a.clock) same
      begins FromB a b same = ap (λ (c : Channel). c.b.clock) same

      dead_set : In (sender direction old.0).clock (clocks (snapshot_of set)) → ⊥
      dead_set lives =
          let before = subst (λ (g : Snapshot). In (sender direction old.0).clock (clocks g))
          (snapshot_still w set still) lives in
          let after = clock_from (live_stations w'.stations) (sender direction old.0).clock
          (r.lives (sender direction old.0).clock
          ∙ clock_there (live_stations w.stations) (sender direction old.0).clock before) in
          dead (subst (λ v. In v (clocks (snapshot_of w'))) (begins direction old.0 new old.2) after)

      less : HasLess link direction old.0 w'
      less =
          called_less link direction old.0 k.place (Priority value) set draws w' dead_set k.so
          (record { now = old.0; here = old.1; a = refl; b = refl; fewer = λ f member. member })

  pub priority_takes : (since silent : ℕ) → LinkIsMeasured w → LinkIsMeasured w' → AreReadyBy p since w
      → AreSilentBy p silent w → TakesAway p since silent w w'
  priority_takes since silent measured measured' ready silent_by = record {
    time = r.time;
    world = is';
    measured = measured';
    quiet = priority_silent p silent owner value w draws done w' is is' measured live silent_by octet acts;
    goes = λ at s. inr (inl (stay_priority p owner value w draws done w' is live octet acts at s));
    ready = λ at stands.
        ready_goes_through p since at (Changing (Priority1 owner value)) w w' draws done is.sound measured tt acts
        (ready at (stood w w' r p is is' at stands));
    lived = lived;
    used = was_used;
    flight = had_flight;
  }
