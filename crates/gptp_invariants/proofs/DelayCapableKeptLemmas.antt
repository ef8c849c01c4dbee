-- An act without change keeps the claim, and so does time that passes.
use Rattle.std.proofs.Common.{◌≡◌, ◌≢◌, ◌≤◌, ◌+◌, ◌*◌, ℕ, List, Option, Some, slice_get, sym, ap, subst, ◌∙◌}
use Rattle.gptp_setup.specs.SettlingParams.{SettlingParams, largest_interval}
use Rattle.gptp_lists.specs.Members.{In}
use Rattle.gptp_graph.specs.Snapshot.{System}
use Rattle.gptp_vector.specs.declared.port.PortId.{PortId}
use Rattle.gptp_links.specs.declared.bounds.Bounds.{Bounds}
use Rattle.gptp_links.specs.declared.link.Direction.{Direction}
use Rattle.gptp_links.specs.declared.link.Direction.TheVariants.{FromA, FromB}
use Rattle.gptp_links.specs.Fate.{Draw}
use Rattle.gptp_system.specs.State.{clock}
use Rattle.gptp_scenario.specs.declared.change.Act.{Act}
use Rattle.gptp_scenario.specs.declared.change.Act.TheVariants.{Deliver, Expire, Change as Changing}
use Rattle.gptp_scenario.specs.declared.change.Change.{Change}
use Rattle.gptp_scenario.specs.declared.change.Timed.{Timed}
use Rattle.gptp_model.specs.declared.done.Done.{Done}
use Rattle.gptp_model.specs.declared.station.Station.{Station}
use Rattle.gptp_model.specs.Acts.{Acts, at as at_time}
use Rattle.gptp_scenario.specs.Allowed.{IsFitAct}
use Rattle.gptp_model.specs.Course.{WasDone}
use Rattle.gptp_scenario.specs.Params.{KeepPace}
use Rattle.gptp_model.specs.Pending.{NothingBefore}
use Rattle.gptp_model.specs.Prompt.{DelaysFitIntervals}
use Rattle.gptp_model.specs.Sound.{HaveOwnClocks, IsSound}
use Rattle.gptp_model.specs.World.{Channel, WorldState, receiver, sender}
use Rattle.gptp_model.proofs.BareLemmas.{bare}
use Rattle.gptp_lists.proofs.MappedLemmas.{alike}
use Rattle.gptp_model.proofs.SoundLemmas.{later_sound}
use Rattle.gptp_invariants.specs.DelayMeasured.{StationIsLiveAt, LinkIsMeasured, LinkStandsAt}
use Rattle.gptp_invariants.specs.DelayLinkView.{LinkPlace}
use Rattle.gptp_invariants.specs.DelayWatched.{IsWatched}
use Rattle.gptp_invariants.proofs.DelayChangeKeptLemmas.{acts_measured, later_measured}
use Rattle.gptp_invariants.proofs.DelayWatchLemmas.{watch_goes_on, watch_kept}
use Rattle.gptp_invariants.specs.WorldEncodableLaws.{SetsAnOctet}
use Rattle.gptp_invariants.specs.ChoiceSeenLaws.{IsNoChange}
use Rattle.gptp_invariants.specs.ChoiceCalm.{clock_place}
use Rattle.gptp_invariants.specs.WorldStanding.{standing_system}
use Rattle.gptp_invariants.proofs.ChoiceFoundLemmas.{place_is}
use Rattle.gptp_invariants.proofs.ChoiceCalmKeptLemmas.{KeepsNetwork, acts_keep}
use Rattle.gptp_invariants.proofs.WorldSystemLemmas.{live_from, live_there}
use Rattle.gptp_invariants.specs.ChoiceSettlesAsMachine.{IsWorld}
use Rattle.gptp_invariants.specs.WorldKnown.{AreSet}
use Rattle.gptp_invariants.proofs.WorldSettledLemmas.{done_stays, ready_stays, still_acts_stay}
use Rattle.gptp_invariants.specs.DelayWatch.{GoodLinksMeasure}
use Rattle.gptp_invariants.proofs.DelayBeginLemmas.{changes_begin}

-- ---- where all stood

-- its ends
pub same_sender : (direction : Direction) (x y : Channel) → bare x ≡ bare y → sender direction x ≡ sender direction y
same_sender FromA x y same = ap (λ (c : Channel). c.a) same
same_sender FromB x y same = ap (λ (c : Channel). c.b) same

pub same_receiver : (direction : Direction) (x y : Channel) → bare x ≡ bare y
    → receiver direction x ≡ receiver direction y
same_receiver FromA x y same = ap (λ (c : Channel). c.b) same
same_receiver FromB x y same = ap (λ (c : Channel). c.a) same

-- all stations start with the parameters of their network
abbrev pub HaveParams : SettlingParams → WorldState → Type 0
HaveParams p w = (place : ℕ) (station : Station) → slice_get w.stations place ≡ Some station
    → station.setup.params ≡ p.params

pub known_params : (p : SettlingParams) (w : WorldState) → AreSet p w → HaveParams p w
known_params p w set place station there = (set place station there).starts.params

module _ (p : SettlingParams) (w w' : WorldState) (clocks : HaveOwnClocks w) (set : HaveParams p w)
    (clocks' : HaveOwnClocks w')
    (set' : HaveParams p w') (k : KeepsNetwork w w') where
  -- a link stood there, with the same ends and bounds
  link_stood : (link : ℕ) (channel : Channel) → slice_get w'.net.channels link ≡ Some channel
      → (old : Channel) × (slice_get w.net.channels link ≡ Some old) × (bare old ≡ bare channel)
  link_stood = alike bare bare w.net.channels w'.net.channels (sym k.links)

  -- a live system stood where it stands
  system_stood : (place number was : ℕ) → was ≡ number → StationIsLiveAt place number w' → StationIsLiveAt place was w
  system_stood place number was named at =
      let member = subst (In (standing_system at.station)) k.systems
      (live_there w'.stations place at.station at.here at.live)
      in
      let old = live_from w.stations (standing_system at.station) member in
      let same = ap (λ (s : System). s.clock) (sym old.is) in
      let same_place : old.place ≡ place =
      place_is w clocks old.place old.station old.here
      ∙ ap (clock_place w.stations) same
      ∙ sym (k.places (clock at.station.system))
      ∙ sym (place_is w' clocks' place at.station at.here) in
      record {
        station = old.station;
        here = subst (λ i. slice_get w.stations i ≡ Some old.station) same_place old.here;
        live = old.live;
        named = same ∙ at.named ∙ sym named;
      }

  -- systems that live at two times have the same parameters, those of the network
  same_params : (place number was : ℕ) (now : StationIsLiveAt place number w') (then : StationIsLiveAt place was w)
      → then.station.setup.params ≡ now.station.setup.params
  same_params place number was now then =
      set place then.station then.here
      ∙ sym (set' place now.station now.here)

  -- so a good link in use was one
  pub stood_among : (at : LinkPlace) → LinkStandsAt at w' → LinkStandsAt at w
  stood_among at stands =
      let (old, here, same) = link_stood at.link stands.channel stands.here in
      let begins = ap (λ (q : PortId). q.clock) (same_sender at.direction old stands.channel same) in
      let ends = ap (λ (q : PortId). q.clock) (same_receiver at.direction old stands.channel same) in
      let asking = system_stood at.asking (sender at.direction stands.channel).clock _ begins stands.asking in
      let answering = system_stood at.answering (receiver at.direction stands.channel).clock _ ends stands.answering in
      let bounds = ap (λ (c : Channel). c.bounds) same in
      let asks = same_params at.asking _ _ stands.asking asking in
      let answers = same_params at.answering _ _ stands.answering answering in
      record {
        channel = old;
        here = here;
        up = ap (λ (c : Channel). c.up) same ∙ stands.up;
        lossless = rw bounds stands.lossless;
        asking = asking;
        answering = answering;
        apart = stands.apart;
        good = rw (bounds, answers, asks) stands.good;
      }

pub stood : (p : SettlingParams) (w w' : WorldState) → IsWorld p w → IsWorld p w' → KeepsNetwork w w' → (at : LinkPlace)
    → LinkStandsAt at w' → LinkStandsAt at w
stood p w w' is is' =
    stood_among p w w' is.sound.wired.clocks (known_params p w is.known.set) is'.sound.wired.clocks
    (known_params p w' is'.known.set)

-- ---- the claim is kept

-- such an act is no change
pub no_change : (act : Act) → IsNoChange act → (change : Change) → act ≢ Changing change
no_change (Deliver link direction) none change same = absurd cc
no_change (Expire number timer) none change same = absurd cc
no_change (Changing other) none change same = absurd none

pub acts_watch : (p : SettlingParams) (act : Act) (w : WorldState) (draws : List Draw) (done : Done) (w' : WorldState)
    → IsNoChange act → Acts act w draws done w' → IsWorld p w → GoodLinksMeasure p w → GoodLinksMeasure p w'
acts_watch p act w draws done w' none k is watches at stands =
    let keeps = acts_keep act w draws done w' none k in
    let is' = still_acts_stay p act w draws done w' none k is in
    let interval = largest_interval p in
    let before = watches at (stood p w w' is is' keeps at stands) in
    subst (λ change. IsWatched (change + interval) (change + 2 * interval) at w') (sym keeps.change)
    (watch_kept at (w.last_change + interval) (w.last_change + 2 * interval) act w w' draws done is.sound
    (no_change act none) k before)

pub later_watches : (p : SettlingParams) (w : WorldState) (time : ℕ) → w.time ≤ time → NothingBefore time w.net.pending
    → IsWorld p w → GoodLinksMeasure p w → GoodLinksMeasure p (at_time time w)
later_watches p w time later first is watches at stands =
    let interval = largest_interval p in
    watch_goes_on at (w.last_change + interval) (w.last_change + 2 * interval) time w is.sound later first
    (watches at (record {
      channel = stands.channel;
      here = stands.here;
      up = stands.up;
      lossless = stands.lossless;
      asking = live_before at.asking _ stands.asking;
      answering = live_before at.answering _ stands.answering;
      apart = stands.apart;
      good = stands.good;
    }))
  where
    live_before : (place number : ℕ) → StationIsLiveAt place number (at_time time w) → StationIsLiveAt place number w
    live_before place number x = record { station = x.station; here = x.here; live = x.live; named = x.named }

-- ---- from act to act

-- each port goes on measuring, and what is in flight fitting
pub done_measured : {F : Type 0} (answers : Bounds → ℕ → F → Option ℕ → F → Type 0) (timed : Timed)
    (fate fate_after : F) (w w' : WorldState) (done : Done) → SetsAnOctet timed.act
    → WasDone answers timed fate fate_after w w' done → IsSound w → LinkIsMeasured w → LinkIsMeasured w'
done_measured answers timed fate fate_after w w' done octet k sound is =
    let timely = k.ready.timely in
    acts_measured timed.act (at_time timed.at w) w' k.draws done
    (later_sound w timed.at w.last_change sound timely.first) (later_measured timed.at w timely.now is) octet k.acts

-- and each good link in use is watched, after a change too
pub done_watches : {F : Type 0} (answers : Bounds → ℕ → F → Option ℕ → F → Type 0) (p : SettlingParams) (timed : Timed)
    (fate fate_after : F) (w w' : WorldState) (done : Done) → KeepPace p → IsFitAct timed.act
    → DelaysFitIntervals w timed.act → SetsAnOctet timed.act → WasDone answers timed fate fate_after w w' done
    → IsWorld p w
    → LinkIsMeasured w → GoodLinksMeasure p w → GoodLinksMeasure p w'
done_watches answers p timed fate fate_after w w' done pace fit prompt octet k is measured watches =
    by timed.act k.acts
  where
    then : WorldState
    then = at_time timed.at w

    still : (act : Act) → IsNoChange act → Acts act then k.draws done w' → GoodLinksMeasure p w'
    still act none acts =
        acts_watch p act then k.draws done w' none acts (ready_stays p timed.act timed.at w k.ready is)
        (later_watches p w timed.at k.ready.timely.now k.ready.timely.first is watches)

    by : (act : Act) → Acts act then k.draws done w' → GoodLinksMeasure p w'
    by (Deliver link direction) acts = still (Deliver link direction) tt acts
    by (Expire number timer) acts = still (Expire number timer) tt acts
    by (Changing change) acts =
        changes_begin p change then k.draws done w' pace acts
        (done_stays answers p timed fate fate_after w w' done fit prompt octet k is)
        (done_measured answers timed fate fate_after w w' done octet k is.sound measured)
