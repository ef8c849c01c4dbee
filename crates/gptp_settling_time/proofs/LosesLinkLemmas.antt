-- A link goes down: what it takes away from a world, whatever it joined.
use Rattle.std.proofs.Common.{◌≡◌, ◌≢◌, ◌⊎◌, ℕ, true, List, [], Some, slice_get, refl, sym, ap, subst, ◌∙◌, inl, inr}
use Rattle.std.proofs.lemmas.Option.{same_Some}
use Rattle.gptp_lists.specs.Members.{In}
use Rattle.gptp_lists.proofs.MappedLemmas.{alike, same_there}
use Rattle.gptp_lists.proofs.PlaceLemmas.{get-set_other, get-set_same, same_place}
use Rattle.gptp_graph.specs.Snapshot.{System, clocks}
use Rattle.gptp_links.specs.Fate.{Draw}
use Rattle.gptp_links.specs.Queue.{Frame}
use Rattle.gptp_links.specs.declared.link.Direction.{Direction}
use Rattle.gptp_links.specs.declared.link.Direction.TheVariants.{FromA, FromB}
use Rattle.gptp_scenario.specs.Params.{KeepPace}
use Rattle.gptp_scenario.specs.declared.change.Act.TheVariants.{Change as Changing}
use Rattle.gptp_scenario.specs.declared.change.Change.TheVariants.{LinkDown}
use Rattle.gptp_setup.specs.SettlingParams.{SettlingParams}
use Rattle.gptp_system.specs.Input.{PortDown}
use Rattle.gptp_model.specs.Acts.{Acts, AtLink}
use Rattle.gptp_model.specs.Changing.{GoesDownIf, TellsEnds, lost, taken_down}
use Rattle.gptp_model.specs.World.{Channel, WorldState, port_id, sender, world_queue}
use Rattle.gptp_model.specs.declared.done.Done.{Done}
use Rattle.gptp_model.proofs.BareLemmas.{bare}
use Rattle.gptp_invariants.specs.ChoiceSettlesAsMachine.{IsWorld}
use Rattle.gptp_invariants.specs.DelayMeasured.{LinkIsMeasured}
use Rattle.gptp_invariants.specs.WorldNews.{AreReadyBy, AreSilentBy}
use Rattle.gptp_invariants.specs.WorldStanding.{channel_is_used, live_stations, snapshot_of}
use Rattle.gptp_invariants.proofs.ChoiceCalmKeptLemmas.{KeepsNetwork}
use Rattle.gptp_invariants.proofs.WorldOutlineLemmas.{acts_time}
use Rattle.gptp_invariants.proofs.WorldStandsLemmas.{used_up}
use Rattle.gptp_settling_time.proofs.DeadLanesLemmas.{HasLess, told_less}
use Rattle.gptp_settling_time.proofs.LosingLemmas.{HadFlight, TakesAway, WasUsed}
use Rattle.gptp_settling_time.proofs.LoweredLemmas.{ready_on}
use Rattle.gptp_settling_time.proofs.TakenDownLemmas.{silent_down, stay_down, told_keeps, up_apart}

-- nothing is in flight on a link that is lost
none_flies : (direction : Direction) (channel : Channel) (f : Frame) → In f (world_queue direction (lost channel)) → ⊥
none_flies FromA channel f none = none
none_flies FromB channel f none = none

module _ (p : SettlingParams) (owner port : ℕ) (w : WorldState) (draws : List Draw) (done : Done) (w' : WorldState)
    (is : IsWorld p w) (is' : IsWorld p w') (acts : Acts (Changing (LinkDown owner port)) w draws done w') where
  abbrev k : AtLink (port_id owner port) w.net (λ place channel.
      GoesDownIf channel.up place channel (record w { last_change = w.time }) draws w')
  k = acts.1

  abbrev taken : WorldState
  taken = record w { net = taken_down k.place k.channel w.net; last_change = w.time }

  module _ (up : k.channel.up ≡ true) where
    tells : TellsEnds PortDown k.channel taken draws w'
    tells = subst (λ b. GoesDownIf b k.place k.channel (record w { last_change = w.time }) draws w') up k.so

    keeps : KeepsNetwork taken w'
    keeps = told_keeps k.channel taken draws w' tells

    -- a link was there before, but for what is in flight
    record WasThere (link : ℕ) (new : Channel) : Type 0 where
      old : Channel
      there : slice_get taken.net.channels link ≡ Some old
      same : bare old ≡ bare new

    was_there : (link : ℕ) (new : Channel) → slice_get w'.net.channels link ≡ Some new → WasThere link new
    was_there link new here =
        let (old, there, same) = alike bare bare taken.net.channels w'.net.channels (sym keeps.links) link new here in
        record { old = old; there = there; same = same }

    stood : (link : ℕ) (old : Channel) → link ≢ k.place → slice_get taken.net.channels link ≡ Some old
        → slice_get w.net.channels link ≡ Some old
    stood link old apart there = sym (get-set_other w.net.channels k.place link (lost k.channel) apart) ∙ there

    lived : (v : ℕ) → In v (clocks (snapshot_of w')) → In v (clocks (snapshot_of w))
    lived v known =
        subst (λ (systems : List System). In v (clocks (record { systems = systems; links = [] }))) keeps.systems known

    was_used : (link : ℕ) (new : Channel) → slice_get w'.net.channels link ≡ Some new
        → channel_is_used (live_stations w'.stations) new ≡ true → WasUsed w link new
    was_used link new here used =
        let x = was_there link new here in
        let apart = up_apart p w is k.place k.channel k.is.here draws w' is' tells link new here
        (used_up (live_stations w'.stations) new used) in
        record {
          old = x.old;
          here = stood link x.old apart x.there;
          used = ap (channel_is_used (live_stations w.stations)) x.same
              ∙ ap (λ systems. channel_is_used systems new) (sym keeps.systems) ∙ used;
          bounds = ap (λ (c : Channel). c.bounds) x.same;
        }

    had_flight : (link : ℕ) (direction : Direction) (new : Channel) → slice_get w'.net.channels link ≡ Some new
        → (In (sender direction new).clock (clocks (snapshot_of w')) → ⊥) → HadFlight w link direction new
    had_flight link direction new here dead = by (same_place link k.place)
      where
        x : WasThere link new
        x = was_there link new here

        begins : (d : Direction) (a b : Channel) → bare a ≡ bare b → (sender d a).clock ≡ (sender d b).clock
        begins FromA a b same = ap (λ (c : Channel). c.a.clock) same
        begins FromB a b same = ap (λ (c : Channel). c.b.clock) same

        less : HasLess link direction x.old w'
        less =
            told_less link direction x.old PortDown (λ number value same. cc) k.channel taken draws w' (λ lives.
            dead (subst (λ v. In v (clocks (snapshot_of w'))) (begins direction x.old new x.same)
            (subst
            (λ (systems : List System). In (sender direction x.old).clock
            (clocks (record { systems = systems; links = [] }))) (sym keeps.systems) lives)))
            tells (record { now = x.old; here = x.there; a = refl; b = refl; fewer = λ f member. member })

        fewer : (f : Frame) → In f (world_queue direction new) → In f (world_queue direction x.old)
        fewer f member =
            less.fewer f (subst (λ (c : Channel). In f (world_queue direction c))
            (same_there w'.net.channels link new less.now here less.here) member)

        by : (link ≡ k.place) ⊎ (link ≢ k.place) → HadFlight w link direction new
        by (inl same) =
            let one : x.old ≡ lost k.channel =
            same_Some x.old (lost k.channel)
            (sym x.there ∙ ap (slice_get taken.net.channels) same
            ∙ get-set_same w.net.channels k.place k.channel (lost k.channel) k.is.here) in
            record {
              old = k.channel;
              here = ap (slice_get w.net.channels) same ∙ k.is.here;
              a = ap (λ (c : Channel). c.a) (sym x.same) ∙ ap (λ (c : Channel). c.a) one;
              b = ap (λ (c : Channel). c.b) (sym x.same) ∙ ap (λ (c : Channel). c.b) one;
              fewer = λ f member.
                  absurd (none_flies direction k.channel f
                  (subst (λ (c : Channel). In f (world_queue direction c)) one (fewer f member)));
            }
        by (inr apart) = record {
          old = x.old;
          here = stood link x.old apart x.there;
          a = ap (λ (c : Channel). c.a) (sym x.same);
          b = ap (λ (c : Channel). c.b) (sym x.same);
          fewer = fewer;
        }

    pub lowers_takes : (since silent : ℕ) → KeepPace p → LinkIsMeasured w → LinkIsMeasured w' → AreReadyBy p since w
        → AreSilentBy p silent w → TakesAway p since silent w w'
    lowers_takes since silent pace measured measured' ready silent_by = record {
      time = acts_time (Changing (LinkDown owner port)) w draws done w' acts;
      world = is';
      measured = measured';
      quiet = silent_down p w is k.place k.channel k.is.here draws w' is' tells silent silent_by;
      goes = λ at s. inr (inl (stay_down p w is k.place k.channel k.is.here draws w' is' tells at s));
      ready = ready_on p since owner port w draws done w' pace is is' measured measured' acts up ready;
      lived = lived;
      used = was_used;
      flight = had_flight;
    }
