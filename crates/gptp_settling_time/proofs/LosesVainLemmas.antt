-- A link of which an end has failed comes up, among events that take something away: it takes nothing away.
use Rattle.std.proofs.Common.{◌≡◌, ◌≢◌, ◌⊎◌, ℕ, true, false, List, [], Some, slice_get, refl, sym, ap, subst, ◌∙◌, inl, inr}
use Rattle.std.proofs.lemmas.Option.{same_Some}
use Rattle.gptp_lists.specs.Members.{In}
use Rattle.gptp_lists.proofs.MappedLemmas.{alike, same_there}
use Rattle.gptp_lists.proofs.PlaceLemmas.{get-set_other, get-set_same, same_place}
use Rattle.gptp_graph.specs.Snapshot.{Snapshot, System, clocks}
use Rattle.gptp_links.specs.Fate.{Draw}
use Rattle.gptp_links.specs.Queue.{Frame}
use Rattle.gptp_links.specs.declared.link.Direction.{Direction}
use Rattle.gptp_links.specs.declared.link.Direction.TheVariants.{FromA, FromB}
use Rattle.gptp_setup.specs.SettlingParams.{SettlingParams}
use Rattle.gptp_system.specs.Input.{PortUp}
use Rattle.gptp_model.specs.Changing.{TellsEnds, brought_up}
use Rattle.gptp_model.specs.World.{Channel, WorldState, sender, world_queue}
use Rattle.gptp_model.proofs.BareLemmas.{bare}
use Rattle.gptp_invariants.specs.ChoiceSettlesAsMachine.{IsWorld}
use Rattle.gptp_invariants.specs.DelayMeasured.{LinkIsMeasured}
use Rattle.gptp_invariants.specs.FailedUnanswered.{FailedNeighboursAreSilent}
use Rattle.gptp_invariants.specs.WorldNews.{AreReadyBy, AreSilentBy}
use Rattle.gptp_invariants.specs.WorldStanding.{channel_is_used, live_stations, snapshot_of}
use Rattle.gptp_invariants.proofs.ChoiceCalmKeptLemmas.{KeepsNetwork}
use Rattle.gptp_invariants.proofs.DelayFirstUpLemmas.{queue_up}
use Rattle.gptp_invariants.proofs.WorldSoundCallLemmas.{tells_keep}
use Rattle.gptp_settling_time.proofs.DeadLanesLemmas.{HasLess, told_less}
use Rattle.gptp_settling_time.proofs.FailedUpLemmas.{goes_up, up_like, up_silent}
use Rattle.gptp_settling_time.proofs.LosingLemmas.{HadFlight, TakesAway, WasUsed}
use Rattle.gptp_settling_time.proofs.SameLinkLemmas.{ready_same}
use Rattle.gptp_settling_time.proofs.StandsLikeLemmas.{StandsLike}

module _ (p : SettlingParams) (w : WorldState) (is : IsWorld p w) (place : ℕ) (channel : Channel)
    (here : slice_get w.net.channels place ≡ Some channel) (down : channel.up ≡ false)
    (unused : channel_is_used (live_stations w.stations) (record channel { up = true }) ≡ false) (draws : List Draw)
    (w' : WorldState) (is' : IsWorld p w') where
  abbrev new : Channel
  new = record channel { up = true }

  abbrev brought : WorldState
  brought = record w { net = brought_up place channel w.net; last_change = w.time }

  module _ (k : TellsEnds PortUp channel brought draws w') where
    like : StandsLike w w'
    like = up_like p w is place channel here down unused draws w' is' k

    keeps : KeepsNetwork brought w'
    keeps = tells_keep channel brought draws w' k

    -- ---- what is left

    record WasThere (link : ℕ) (now : Channel) : Type 0 where
      old : Channel
      there : slice_get brought.net.channels link ≡ Some old
      same : bare old ≡ bare now

    was_there : (link : ℕ) (now : Channel) → slice_get w'.net.channels link ≡ Some now → WasThere link now
    was_there link now stands =
        let (old, there, same) = alike bare bare brought.net.channels w'.net.channels (sym keeps.links) link now stands
        in
        record { old = old; there = there; same = same }

    -- the channel that stands there is the one that came up
    is_new : (link : ℕ) (old : Channel) → link ≡ place → slice_get brought.net.channels link ≡ Some old → old ≡ new
    is_new link old same there =
        same_Some old new
        (sym there ∙ ap (slice_get brought.net.channels) same ∙ get-set_same w.net.channels place channel new here)

    stood : (link : ℕ) (old : Channel) → link ≢ place → slice_get brought.net.channels link ≡ Some old
        → slice_get w.net.channels link ≡ Some old
    stood link old apart there = sym (get-set_other w.net.channels place link new apart) ∙ there

    was_used : (link : ℕ) (now : Channel) → slice_get w'.net.channels link ≡ Some now
        → channel_is_used (live_stations w'.stations) now ≡ true → WasUsed w link now
    was_used link now stands used = by (same_place link place)
      where
        x : WasThere link now
        x = was_there link now stands

        used_before : channel_is_used (live_stations w.stations) x.old ≡ true
        used_before =
            ap (channel_is_used (live_stations w.stations)) x.same
            ∙ ap (λ systems. channel_is_used systems now) (sym keeps.systems) ∙ used

        by : (link ≡ place) ⊎ (link ≢ place) → WasUsed w link now
        by (inl same) =
            let one = is_new link x.old same x.there in
            absurd (let both : true ≡ false =
            sym used_before ∙ ap (channel_is_used (live_stations w.stations)) one ∙ unused in cc)
        by (inr apart) = record {
          old = x.old;
          here = stood link x.old apart x.there;
          used = used_before;
          bounds = ap (λ (c : Channel). c.bounds) x.same;
        }

    had_flight : (link : ℕ) (direction : Direction) (now : Channel) → slice_get w'.net.channels link ≡ Some now
        → (In (sender direction now).clock (clocks (snapshot_of w')) → ⊥) → HadFlight w link direction now
    had_flight link direction now stands dead = by (same_place link place)
      where
        x : WasThere link now
        x = was_there link now stands

        begins : (d : Direction) (a b : Channel) → bare a ≡ bare b → (sender d a).clock ≡ (sender d b).clock
        begins FromA a b same = ap (λ (c : Channel). c.a.clock) same
        begins FromB a b same = ap (λ (c : Channel). c.b.clock) same

        less : HasLess link direction x.old w'
        less =
            told_less link direction x.old PortUp (λ number value same. cc) channel brought draws w' (λ lives.
            dead (subst (λ v. In v (clocks (snapshot_of w'))) (begins direction x.old now x.same)
            (subst
            (λ (systems : List System). In (sender direction x.old).clock
            (clocks (record { systems = systems; links = [] }))) (sym keeps.systems) lives)))
            k (record { now = x.old; here = x.there; a = refl; b = refl; fewer = λ f member. member })

        fewer : (f : Frame) → In f (world_queue direction now) → In f (world_queue direction x.old)
        fewer f member =
            less.fewer f (subst (λ (c : Channel). In f (world_queue direction c))
            (same_there w'.net.channels link now less.now stands less.here) member)

        by : (link ≡ place) ⊎ (link ≢ place) → HadFlight w link direction now
        by (inl same) =
            let one = is_new link x.old same x.there in
            record {
              old = channel;
              here = ap (slice_get w.net.channels) same ∙ here;
              a = ap (λ (c : Channel). c.a) (sym x.same) ∙ ap (λ (c : Channel). c.a) one;
              b = ap (λ (c : Channel). c.b) (sym x.same) ∙ ap (λ (c : Channel). c.b) one;
              fewer = λ f member.
                  subst (λ (fs : List Frame). In f fs) (queue_up direction channel)
                  (subst (λ (c : Channel). In f (world_queue direction c)) one (fewer f member));
            }
        by (inr apart) = record {
          old = x.old;
          here = stood link x.old apart x.there;
          a = ap (λ (c : Channel). c.a) (sym x.same);
          b = ap (λ (c : Channel). c.b) (sym x.same);
          fewer = fewer;
        }

    pub raises_takes : (since silent : ℕ) → LinkIsMeasured w' → FailedNeighboursAreSilent p w' → AreReadyBy p since w
        → AreSilentBy p silent w → TakesAway p since silent w w'
    raises_takes since silent measured' beside ready silent_by = record {
      time = like.time;
      world = is';
      measured = measured';
      quiet = up_silent p w is place channel here down unused draws w' is' k silent beside silent_by;
      goes = goes_up p w is place channel here down unused draws w' is' k beside;
      ready = λ at s. ready_same p since at w w' (like.links at) (ready at (like.stood p is is' at s));
      lived = λ v known. subst (λ (g : Snapshot). In v (clocks g)) like.snapshot known;
      used = was_used;
      flight = had_flight;
    }
