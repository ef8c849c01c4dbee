-- A link goes down that is up, and of which an end has failed: what is in use stays. The lanes of the link are emptied
-- first, and then the end that lives answers.
use Rattle.std.proofs.Common.{◌≡◌, ◌⊎◌, ◌≤◌, ℕ, Bool, true, false, List, [], Some, slice_get, refl, sym, ap, subst, ◌∙◌, inl, inr, arith}
use Rattle.std.proofs.lemmas.Option.{same_Some}
use Rattle.gptp_lists.specs.Members.{In}
use Rattle.gptp_lists.proofs.MappedLemmas.{alike as alike_there}
use Rattle.gptp_lists.proofs.PlaceLemmas.{get-set_other, get-set_same, same_place}
use Rattle.gptp_graph.specs.Snapshot.{Joins, PortIdentity, Snapshot, clocks}
use Rattle.gptp_graph.proofs.SystemLemmas.{In-clocks}
use Rattle.gptp_links.specs.declared.link.Direction.{Direction}
use Rattle.gptp_links.specs.declared.link.Direction.TheVariants.{FromA, FromB}
use Rattle.gptp_links.specs.Fate.{Draw}
use Rattle.gptp_scenario.specs.declared.change.Act.TheVariants.{Change as Changing}
use Rattle.gptp_scenario.specs.declared.change.Change.TheVariants.{LinkDown}
use Rattle.gptp_setup.specs.SettlingParams.{SettlingParams}
use Rattle.gptp_system.specs.declared.answer.Answer.{Answer}
use Rattle.gptp_system.specs.Input.{PortDown}
use Rattle.gptp_system.specs.State.{clock}
use Rattle.gptp_model.specs.Act.{Calls}
use Rattle.gptp_model.specs.Acts.{Acts, AtLink}
use Rattle.gptp_model.specs.Ahead.{IsPortAmong}
use Rattle.gptp_model.specs.Changing.{CallsIfLive, GoesDownIf, IsChannel, TellsEnds, lost, taken_down}
use Rattle.gptp_model.specs.declared.done.Done.{Done}
use Rattle.gptp_model.specs.declared.station.Station.{Station}
use Rattle.gptp_model.specs.World.{Channel, WorldState, port_id, sender}
use Rattle.gptp_model.proofs.ActsByLemmas.{join_among}
use Rattle.gptp_model.proofs.EndLemmas.{HasPort, among_has}
use Rattle.gptp_model.proofs.StayLemmas.{stays_apart, taken_down_stays}
use Rattle.gptp_bmca_machine.specs.Acts.{MachineSteps}
use Rattle.gptp_bmca_machine.specs.Frame.{Announce, Lane}
use Rattle.gptp_bmca_machine.specs.Network.{Network}
use Rattle.gptp_bmca_machine.specs.Touch.{StationTouch, Disable, Grow, Hear}
use Rattle.gptp_invariants.specs.ChoiceCalm.{delay_in}
use Rattle.gptp_invariants.specs.ChoiceSettlesAsMachine.{IsWorld}
use Rattle.gptp_invariants.specs.ChoiceView.{lane_place, lane_view, lanes_view, port_identity_number, says_announce, touch_view, view}
use Rattle.gptp_invariants.specs.DelayMeasured.{LinkIsMeasured}
use Rattle.gptp_invariants.specs.WorldStanding.{channel_is_used, live_stations, snapshot_of, standing_system, stations_have_clock}
use Rattle.gptp_invariants.proofs.ChoiceCalmKeptLemmas.{KeepsNetwork, delay_kept, same_snapshot}
use Rattle.gptp_invariants.proofs.ChoiceSeenCallLemmas.{IsCallSeen, calls_seen}
use Rattle.gptp_invariants.proofs.ChoiceSeenLaneLemmas.{lane_from, lane_there}
use Rattle.gptp_invariants.proofs.ChoiceSendLemmas.{lanes_apart}
use Rattle.gptp_invariants.proofs.ChoiceTakeUpLemmas.{BeginApart}
use Rattle.gptp_invariants.proofs.WorldActEncodableLemmas.{answering_kept}
use Rattle.gptp_invariants.proofs.WorldAnsweringLemmas.{IsAnswering, sound_answers}
use Rattle.gptp_invariants.proofs.WorldNewsLemmas.{ready_goes_through}
use Rattle.gptp_invariants.proofs.WorldOutlineLemmas.{acts_time}
use Rattle.gptp_invariants.proofs.WorldSystemLemmas.{clock_there, live_there}
use Rattle.gptp_invariants.proofs.WorldWayLemmas.{one_way, way_of}
use Rattle.gptp_invariants.proofs.ChoiceCalmFactLemmas.{used_is}
use Rattle.gptp_settling_time.proofs.AgingClaimedLemmas.{aging_network, same_aging}
use Rattle.gptp_settling_time.proofs.AlwaysClaimedLemmas.{IsStanding}
use Rattle.gptp_settling_time.proofs.EmptiedLemmas.{AreEmptied, IsAlike}
use Rattle.gptp_settling_time.proofs.FailedUpLemmas.{delay_set, used_set}
use Rattle.gptp_settling_time.proofs.LeftClaimedLemmas.{HaveAskedLong}
use Rattle.gptp_settling_time.proofs.LinkUpLemmas.{lane_set}
use Rattle.gptp_settling_time.proofs.LoweredLemmas.{other}
use Rattle.gptp_settling_time.proofs.ReactsLemmas.{lives_as}
use Rattle.gptp_settling_time.proofs.TakenDownLemmas.{if_live_stand, silent_down, stood_down, told_keeps}
use Rattle.gptp_settling_time.proofs.WidenedLemmas.{ready_first}

module _ (p : SettlingParams) (silent owner port : ℕ) (w : WorldState) (draws : List Draw) (done : Done)
    (w' : WorldState) (is' : IsWorld p w') (measured' : LinkIsMeasured w')
    (acts : Acts (Changing (LinkDown owner port)) w draws done w') (standing : IsStanding p silent w)
    (asked : HaveAskedLong w) where
  abbrev is : IsWorld p w
  is = standing.world

  abbrev k : AtLink (port_id owner port) w.net (λ place channel.
      GoesDownIf channel.up place channel (record w { last_change = w.time }) draws w')
  k = acts.1

  abbrev g : Snapshot
  g = snapshot_of w

  abbrev g' : Snapshot
  g' = snapshot_of w'

  module _ (up : k.channel.up ≡ true)
      (dead : (place : ℕ) (channel : Channel) → IsChannel (port_id owner port) place w.net channel
      → channel_is_used (live_stations w.stations) (record channel { up = true }) ≡ false) where
    abbrev taken : WorldState
    taken = record w { net = taken_down k.place k.channel w.net; last_change = w.time }

    pub tells : TellsEnds PortDown k.channel taken draws w'
    tells = subst (λ b. GoesDownIf b k.place k.channel (record w { last_change = w.time }) draws w') up k.so

    pub keeps : KeepsNetwork taken w'
    keeps = told_keeps k.channel taken draws w' tells

    pub time : w'.time ≡ w.time
    time = acts_time (Changing (LinkDown owner port)) w draws done w' acts

    pub unused : channel_is_used (live_stations w.stations) k.channel ≡ false
    unused =
        subst (λ b. channel_is_used (live_stations w.stations) (record k.channel { up = b }) ≡ false) (sym up)
        (dead k.place k.channel (record { here = k.is.here; joined = k.is.joined }))

    -- what is in use stays
    pub snapshot_taken : snapshot_of taken ≡ g
    snapshot_taken = λ i. record {
      systems = live_stations w.stations;
      links = used_set (live_stations w.stations) w.net.channels k.place k.channel (lost k.channel) k.is.here unused
          refl
          i;
    }

    pub snapshot_now : g' ≡ g
    snapshot_now = same_snapshot taken w' keeps ∙ snapshot_taken

    pub delay_taken : delay_in taken ≡ delay_in w
    delay_taken = delay_set (live_stations w.stations) w.net.channels k.place k.channel (lost k.channel) k.is.here
        unused
        refl

    pub delay_now : delay_in w' ≡ delay_in w
    delay_now = delay_kept taken w' keeps ∙ delay_taken

    -- ---- what is claimed of ports

    pub standing' : IsStanding p silent w'
    standing' = record {
      pace = standing.pace;
      world = is';
      measured = measured';
      silent = silent_down p w is k.place k.channel k.is.here draws w' is' tells silent standing.silent;
    }

    pub asked' : HaveAskedLong w'
    asked' at s =
        let (one, by, soon, x) = asked at
        (stood_down p w is k.place k.channel k.is.here draws w' is' tells at s) in
        let ready = ready_goes_through p by at (Changing (LinkDown owner port)) w w' draws done is.sound
        standing.measured
        (other p silent owner port w draws done w' standing.pace is is' standing.measured measured' acts up
        at s) acts (inl (one, x.is)) in
        let late = x.late in
        let change = keeps.change in
        let (first, then) = ready_first p by w' is' (omega (arith, late, time)) at ready in (
          first,
          by,
          omega (arith, late, change),
          record { is = then; late = omega (arith, late, time) },
        )

    pub late_then : delay_in w ≤ w.time → delay_in w' ≤ w'.time
    late_then late = omega (arith, late, time, delay_now)

    -- ---- its lanes are emptied

    pub alike_then : IsAlike (aging_network p silent w) (aging_network p silent w')
    alike_then =
        let same = same_aging p silent taken w' keeps in
        record {
          graph = snapshot_now;
          wiring = record {
            place = λ v. ap (λ (x : Network). x.place v) same;
            lane = λ q.
                ap (λ (x : Network). x.lane q) same
                ∙ lane_set w.net.channels k.place k.channel (lost k.channel) q k.is.here refl refl;
            log = λ q. ap (λ (x : Network). x.log_of q) same;
            interval = λ q. ap (λ (x : Network). x.interval_of q) same;
          };
          most = delay_now;
          interval = refl;
          timeout = refl;
          start = refl;
          bare = refl;
          off = refl;
          ready = λ q. refl;
        }

    -- the channel that stands where the link did is the one that was lost
    one_lost : (channel : Channel) → slice_get taken.net.channels k.place ≡ Some channel → channel ≡ lost k.channel
    one_lost channel there =
        same_Some channel (lost k.channel)
        (sym there ∙ get-set_same w.net.channels k.place k.channel (lost k.channel) k.is.here)

    -- it joined nothing
    apart : (direction : Direction) → (to : PortIdentity)
        → Joins g (port_identity_number (sender direction k.channel)) to → ⊥
    apart direction to joins =
        let way = way_of w (port_identity_number (sender direction k.channel)) to joins in
        let one = one_way w is.sound is.encodable way.link k.place way.direction direction way.channel k.channel
        way.here k.is.here way.from in
        let both : true ≡ false =
        sym way.used ∙ ap (channel_is_used (live_stations w.stations)) one.same_channel ∙ unused in
        cc

    lane_end : (direction : Direction) (a b : Channel) → b ≡ lost a
        → (lane_view direction b).to ≡ (lane_view direction a).to
    lane_end FromA a b same = ap (λ (c : Channel). port_identity_number c.b) same
    lane_end FromB a b same = ap (λ (c : Channel). port_identity_number c.a) same

    lane_empty : (direction : Direction) (a b : Channel) → b ≡ lost a → (lane_view direction b).frames ≡ []
    lane_empty FromA a b same = ap (λ (c : Channel). (lane_view FromA c).frames) same
    lane_empty FromB a b same = ap (λ (c : Channel). (lane_view FromB c).frames) same

    pub emptied : AreEmptied g' (view w).lanes (view taken).lanes
    emptied = record { back = back; ahead = ahead }
      where
        back : (j : ℕ) (l : Lane) → slice_get (view taken).lanes j ≡ Some l
            → (slice_get (view w).lanes j ≡ Some l)
            ⊎ ((m : Lane) × (slice_get (view w).lanes j ≡ Some m) × (m.to ≡ l.to) × (l.frames ≡ [])
            × (l.is_up ≡ false))
        back j l there =
            let at = lane_from taken.net.channels j l there in
            elim (same_place at.link k.place) [
              | inl same ↦
                  let one = one_lost at.channel (ap (slice_get taken.net.channels) (sym same) ∙ at.here) in
                  inr (
                    lane_view at.direction k.channel,
                    ap (slice_get (view w).lanes) (at.at ∙ ap (λ i. lane_place i at.direction) same)
                        ∙ lane_there w.net.channels k.place at.direction k.channel k.is.here,
                    sym (ap (λ (m : Lane). m.to) at.is ∙ lane_end at.direction k.channel at.channel one),
                    ap (λ (m : Lane). m.frames) at.is ∙ lane_empty at.direction k.channel at.channel one,
                    ap (λ (m : Lane). m.is_up) at.is ∙ ap (λ (c : Channel). c.up) one,
                  )
              | inr away ↦
                  let stood : slice_get w.net.channels at.link ≡ Some at.channel =
                  sym (get-set_other w.net.channels k.place at.link (lost k.channel) away) ∙ at.here in
                  inl (ap (slice_get (view w).lanes) at.at
                  ∙ lane_there w.net.channels at.link at.direction at.channel stood ∙ ap (λ m. Some m) (sym at.is))
            ]

        ahead : (j : ℕ) (l : Lane) → slice_get (view w).lanes j ≡ Some l → Joins g' l.from l.to
            → slice_get (view taken).lanes j ≡ Some l
        ahead j l there joins =
            let at = lane_from w.net.channels j l there in
            elim (same_place at.link k.place) [
              | inl same ↦
                  let one : at.channel ≡ k.channel =
                  same_Some at.channel k.channel (sym at.here ∙ ap (slice_get w.net.channels) same ∙ k.is.here) in
                  let from : l.from ≡ port_identity_number (sender at.direction k.channel) =
                  ap (λ (m : Lane). m.from) at.is
                  ∙ ap (λ (c : Channel). port_identity_number (sender at.direction c)) one in
                  absurd (apart at.direction l.to
                  (subst (λ a. Joins g a l.to) from (subst (λ h. Joins h l.from l.to) snapshot_now joins)))
              | inr away ↦
                  let stood : slice_get taken.net.channels at.link ≡ Some at.channel =
                  get-set_other w.net.channels k.place at.link (lost k.channel) away ∙ at.here in
                  ap (slice_get (view taken).lanes) at.at
                  ∙ lane_there taken.net.channels at.link at.direction at.channel stood ∙ ap (λ m. Some m) (sym at.is)
            ]

    -- ---- the end that lives answers

    answering : IsAnswering taken
    answering =
        answering_kept.link_down k.place k.channel (record w { last_change = w.time }) k.is.here
        (answering_kept.change_counted w (sound_answers w is.sound is.encodable))

    begin_apart : BeginApart (lanes_view taken.net.channels)
    begin_apart =
        lanes_apart taken
        (stays_apart w (record w { net = taken_down k.place k.channel w.net })
        (taken_down_stays k.place k.channel w k.is.here is.sound.wired.setups) is.sound.wired.apart)
        (λ link channel there. (answering.encodable.links link channel there).ends)

    ports : (direction : Direction) → IsPortAmong (sender direction k.channel) taken.stations
    ports = join_among w k.place k.channel is.sound.wired.ports k.is.here

    deaf : (number : ℕ) (touch : StationTouch) → touch ≡ Disable number → (m : ℕ) (a : Announce) → touch ≡ Hear m a → ⊥
    deaf number touch same m a heard = absurd (let both : Disable number ≡ Hear m a = sym same ∙ heard in cc)

    young : (number m : ℕ) (touch : StationTouch) → touch ≡ Disable number → touch ≡ Grow m → ⊥
    young number m touch same grown = absurd (let both : Disable number ≡ Grow m = sym same ∙ grown in cc)

    -- a call is a step
    call_steps : (direction : Direction) (place : ℕ) (station : Station) (ds : List Draw) (answer : Answer)
        (u : WorldState) → slice_get taken.stations place ≡ Some station
        → clock station.system ≡ (sender direction k.channel).clock
        → Calls place (PortDown (sender direction k.channel).port) taken ds answer u
        → MachineSteps says_announce (view taken) (view u)
    call_steps direction place station ds answer u there named c =
        let has : HasPort place (sender direction k.channel) taken =
        among_has place (sender direction k.channel) station taken (record { here = there; named = named })
        (ports direction) in
        let old = answering.stations place c.station c.here in
        let x : IsCallSeen (PortDown (sender direction k.channel).port) c.station c.after taken u =
        calls_seen place (PortDown (sender direction k.channel).port) taken ds answer u c old.steady old.its
        (has c.station c.here).1 (answering.encodable.stations place c.station c.here).system tt begin_apart in
        let touch : touch_view x.touch ≡ Disable (sender direction k.channel).port = ap touch_view x.seen in
        inr (inr (inr (record {
          touch = touch_view x.touch;
          call = x.call;
          deaf = deaf (sender direction k.channel).port (touch_view x.touch) touch;
          ages = λ i q r grown. absurd (young (sender direction k.channel).port _ (touch_view x.touch) touch grown);
        })))

    -- not both ends live
    both : (ds es : List Draw) (one other_one : Answer)
        → Calls tells.place_a (PortDown k.channel.a.port) taken ds one tells.between
        → Calls tells.place_b (PortDown k.channel.b.port) tells.between es other_one w' → ⊥
    both ds es one other_one c d =
        let lived : (old : Station) × (slice_get taken.stations tells.place_b ≡ Some old)
        × (lives_as old ≡ lives_as d.station) =
        alike_there lives_as lives_as taken.stations tells.between.stations
        (sym (if_live_stand tells.place_a k.channel.a.port taken tells.first tells.between tells.at_a)) tells.place_b
        d.station d.here in
        let (old, at_old, same) = lived in
        let live_b : old.live ≡ true = ap (λ (y : Bool × ℕ). y.0) same ∙ d.live in
        let has_a = among_has tells.place_a k.channel.a tells.station_a taken tells.is_a (ports FromA) in
        let has_b = among_has tells.place_b k.channel.b tells.station_b taken tells.is_b (ports FromB) in
        let from : stations_have_clock (live_stations w.stations) k.channel.a.clock ≡ true =
        clock_there (live_stations w.stations) k.channel.a.clock
        (subst (λ v. In v (clocks g)) (has_a c.station c.here).0
        (In-clocks g (standing_system c.station)
        (live_there w.stations tells.place_a c.station c.here c.live))) in
        let to : stations_have_clock (live_stations w.stations) k.channel.b.clock ≡ true =
        clock_there (live_stations w.stations) k.channel.b.clock
        (subst (λ v. In v (clocks g)) (has_b old at_old).0
        (In-clocks g (standing_system old) (live_there w.stations tells.place_b old at_old live_b))) in
        let is_used = used_is (live_stations w.stations) FromA k.channel up from to in
        let no : true ≡ false = sym is_used ∙ unused in
        absurd cc

    -- so the world goes on to one that one call at most leads to
    pub either : (Is : WorldState → Type 0) → Is taken → (MachineSteps says_announce (view taken) (view w') → Is w') →
        Is w'
    either Is at_taken step = by tells.at_a tells.at_b
      where
        by : CallsIfLive tells.place_a (PortDown k.channel.a.port) taken tells.first tells.between
            → CallsIfLive tells.place_b (PortDown k.channel.b.port) tells.between tells.second w' → Is w'
        by (inl (one, c)) (inl (two, d)) = absurd (both tells.first tells.second one two c d)
        by (inl (one, c)) (inr (failed, none, same)) =
            step (subst (λ v. MachineSteps says_announce (view taken) (view v)) (sym same)
            (call_steps FromA tells.place_a tells.station_a tells.first one tells.between tells.is_a.here
            tells.is_a.named c))
        by (inr (failed, none, same)) (inl (two, d)) =
            step (call_steps FromB tells.place_b tells.station_b tells.second two w' tells.is_b.here tells.is_b.named
            (subst (λ v. Calls tells.place_b (PortDown k.channel.b.port) v tells.second two w') same d))
        by (inr (failed, none, same)) (inr (failed_too, none_too, same_too)) =
            subst Is (sym (same_too ∙ same)) at_taken
