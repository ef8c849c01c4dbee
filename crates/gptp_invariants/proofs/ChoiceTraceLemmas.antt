-- Traces in a calm world become clean.
use Rattle.std.proofs.Common.{◌≡◌, ◌≤◌, ◌+◌, ◌*◌, ℕ, zero, suc, true, List, ◌∷◌, map, length, Option, Some, None, slice_get, refl, sym, ap, subst, ◌∙◌, inl, arith}
use Rattle.std.proofs.lemmas.Option.{none-some, same_Some, slice_get_within}
use Rattle.gptp_setup.specs.SettlingParams.{SettlingParams, largest_interval}
use Rattle.gptp_lists.specs.Members.{In}
use Rattle.gptp_graph.specs.Best.{IsBest}
use Rattle.gptp_graph.specs.Distance.{IsDistance}
use Rattle.gptp_graph.specs.PathBound.{BoundsPaths, path_bound}
use Rattle.gptp_graph.specs.Snapshot.{IsWellFormed, Snapshot, System, port_of}
use Rattle.gptp_graph.proofs.BestLemmas.{IsBest-neighbour}
use Rattle.gptp_graph.proofs.LinkLemmas.{Joins-sym}
use Rattle.gptp_messages.specs.declared.announce.AnnounceView.{AnnounceView}
use Rattle.gptp_messages.specs.declared.message.Message.TheVariants as messages
use Rattle.gptp_messages.specs.Grammar.{Reads}
use Rattle.gptp_links.specs.declared.bounds.Bounds.{Bounds}
use Rattle.gptp_links.specs.declared.link.Direction.{Direction}
use Rattle.gptp_links.specs.Fate.{Draw}
use Rattle.gptp_links.specs.Queue.{Frame, frame}
use Rattle.gptp_receipt.specs.declared.held.Held.{Held}
use Rattle.gptp_receipt.specs.declared.held.Held.TheVariants as helds
use Rattle.gptp_receipt.specs.declared.held.Reception.{Reception}
use Rattle.gptp_receipt.specs.Held.{received}
use Rattle.gptp_system.specs.State.{SystemState, clock, held_at}
use Rattle.gptp_scenario.specs.declared.change.Act.{Act}
use Rattle.gptp_scenario.specs.declared.change.Act.TheVariants.{Deliver, Expire, Change as Changing}
use Rattle.gptp_scenario.specs.declared.change.Timed.{Timed}
use Rattle.gptp_model.specs.declared.done.Done.{Done}
use Rattle.gptp_model.specs.declared.done.Done.TheVariants.{Quiet, Heard}
use Rattle.gptp_model.specs.declared.station.Station.{Station}
use Rattle.gptp_model.specs.Acts.{Acts, Delivery, at as at_time}
use Rattle.gptp_model.specs.Course.{WasDone}
use Rattle.gptp_model.specs.Views.{ShowsLive}
use Rattle.gptp_model.specs.World.{Channel, WorldState, world_queue, receiver, sender}
use Rattle.gptp_lists.proofs.PlaceLemmas.{member_there}
use Rattle.gptp_bmca_machine.specs.Calm.{Calm}
use Rattle.gptp_bmca_machine.specs.CleanInvariant.{StationIsClean, TracesAreClean}
use Rattle.gptp_bmca_machine.specs.Facts.{IsLiveStationState, Late, NetworkSetting}
use Rattle.gptp_bmca_machine.specs.Frame.{AnnounceFrame as SeenFrame}
use Rattle.gptp_bmca_machine.specs.Network.{network_setting}
use Rattle.gptp_bmca_machine.specs.Station.{HoldsAt}
use Rattle.gptp_bmca_machine.proofs.CleanLemmas.{held_whole, may_say}
use Rattle.gptp_bmca_machine.proofs.NearestLemmas.{root_not_better, steps_not_fewer}
use Rattle.gptp_invariants.specs.ChoiceView.{frame_view, port_identity_number, lane_place, lane_view, port_view, reception_view, said, says_announce, span_at, station_view, view}
use Rattle.gptp_invariants.proofs.ChoiceSeenLaneLemmas.{lane_there}
use Rattle.gptp_invariants.proofs.ChoicePlaceLemmas.{port_there, station_there}
use Rattle.gptp_invariants.specs.ChoiceCalm.{IsQuietWorld, clean_from, delay_in, sync_paths_of}
use Rattle.gptp_invariants.specs.WorldKnown.{IsKnown}
use Rattle.gptp_invariants.proofs.WorldGreatestDelayLemmas.{delay_short}
use Rattle.gptp_invariants.specs.WorldStanding.{snapshot_of}
use Rattle.gptp_invariants.specs.ChoiceSettlesAsMachine.{settling_network, start_of}
use Rattle.gptp_invariants.proofs.ChoiceSettlesAsMachineLemmas.{is_calm, paths_bound, turns_less}
use Rattle.gptp_invariants.specs.WorldSettlingInvariant.{SettlingInvariant, KeepsAll}
use Rattle.gptp_invariants.specs.ChoiceTraces.{AreHeldCleanInTime, AreHeldWholeInTime, AreHeldWholeSooner, IsCleanInTime, IsFrameClean, IsHeardClean, IsHeldClean, IsHeldWhole, IsTraceClean, announced, heard_announce, turn_of, turns_span}
use Rattle.gptp_invariants.proofs.WorldSettlingInvariantLemmas.{set_alike}
use Rattle.gptp_invariants.proofs.WorldClaimLemmas.{claim_capable}

module _ (p : SettlingParams) (w : WorldState) (is : KeepsAll p w) (quiet : IsQuietWorld p.params w) where
  abbrev reach : ℕ
  reach = path_bound (snapshot_of w)

  abbrev k : NetworkSetting
  k = network_setting (settling_network p reach w)

  state : Calm (settling_network p reach w) (view w)
  state = is_calm p reach w is.world quiet.links (claim_capable p w is)

  traces : TracesAreClean says_announce k (view w)
  traces = (is.settling reach (paths_bound p w is.world) quiet).traces

  -- ---- one live system

  module _ (place : ℕ) (station : Station) (here : slice_get w.stations place ≡ Some station)
      (live : station.live ≡ true) where
    abbrev s : SystemState
    s = station.system

    known : IsLiveStationState k w.time (station_view station)
    known = state.facts.stations place (station_view station) (station_there w.stations place station here) live

    clean : StationIsClean k (station_view station)
    clean = traces.stations place (station_view station) (station_there w.stations place station here) live

    trace_clean : (c : ℕ) → start_of p w + c * turn_of p ≤ w.time → IsTraceClean (snapshot_of w) c s
    trace_clean c late =
        (may_say k w.time (station_view station) known clean c 0 (announced s)
        (record {
          root = refl;
          steps = refl;
          source = refl;
          log = λ i q number there. absurd cc;
          path = refl;
        }) (let shorter = turns_less p w is.world.known c in omega (arith, late, shorter))).clean

    -- what a port holds, as the machine sees it: the port at place i has the number i + 1
    record IsSeenHeld (n : ℕ) (r : Reception) : Type 0 where
      i : ℕ
      number : n ≡ suc i
      holds : HoldsAt (station_view station) i (reception_view (span_at s) r)

    seen_held : (n : ℕ) (r : Reception) → received (held_at s n) ≡ Some r → IsSeenHeld n r
    seen_held zero r holds = absurd (none-some r holds)
    seen_held (suc i) r holds = by (slice_get s.held i) refl holds
      where
        -- what stands there is received
        came : (h : Held) → slice_get s.held i ≡ Some h → received h ≡ Some r → IsSeenHeld (suc i) r
        came helds.Disabled there none = absurd (none-some r none)
        came helds.Aged there none = absurd (none-some r none)
        came (helds.Mine root steps) there none = absurd (none-some r none)
        came (helds.Received x) there some =
            let same : x ≡ r = same_Some x r some in
            let places = (is.world.sound.on_time.stations place station here).steady.shown.places in
            let within : suc i ≤ length s.held = slice_get_within s.held i (helds.Received x) there in
            let (q, port) = member_there s.ports i (rw places at within) in
            subst (IsSeenHeld (suc i)) same (record {
              i = i;
              number = refl;
              holds = (
                port_view (span_at s) (helds.Received x) q,
                port_there (span_at s) s.held s.ports i (helds.Received x) q there port,
                refl,
              );
            })

        by : (found : Option Held) → slice_get s.held i ≡ found
            → received (held_at s (suc i)) ≡ Some r
            → IsSeenHeld (suc i) r
        by None none holds = absurd (none-some r (rw none at holds))
        by (Some h) there holds = came h there (rw there at holds)

    held_clean : (c n : ℕ) (r : Reception) → received (held_at s n) ≡ Some r → Late k c r.at
        → IsHeldClean (snapshot_of w) (suc c) (clock s) n r
    held_clean c n r holds late =
        let seen = seen_held n r holds in
        let hit = clean seen.i (reception_view (span_at s) r) c seen.holds late in
        subst (λ m. IsHeldClean (snapshot_of w) (suc c) (clock s) m r) (sym seen.number) (record {
          from = hit.from;
          joins = hit.joins;
          no_loop = (known.held seen.i (reception_view (span_at s) r) seen.holds).no_loop;
          good = hit.good;
        })

    held_whole_at : (m n : ℕ) (r : Reception) → BoundsPaths (snapshot_of w) m → clean_from p m w ≤ w.time
        → received (held_at s n) ≡ Some r → IsHeldWhole (snapshot_of w) (clock s) n r
    held_whole_at m n r bounded late holds =
        let seen = seen_held n r holds in
        let hit = held_whole says_announce k m (view w) bounded state.facts traces late place
        (station_view station) seen.i
        (reception_view (span_at s) r) (station_there w.stations place station here) live seen.holds in
        subst (λ x. IsHeldWhole (snapshot_of w) (clock s) x r) (sym seen.number) (record {
          from = hit.from;
          joins = hit.joins;
          no_loop = (known.held seen.i (reception_view (span_at s) r) seen.holds).no_loop;
          source = hit.source;
          whole = hit.whole;
        })

  -- ---- a frame that arrives

  frame_clean : (c link : ℕ) (direction : Direction) (channel : Channel) (time : ℕ) (octets : List ℕ)
      (rest : List Frame) (m : AnnounceView) → slice_get w.net.channels link ≡ Some channel
      → world_queue direction channel ≡ frame time octets ∷ rest → Reads octets (messages.Announce m)
      → w.last_change + turns_span c p (sync_paths_of w) (length (snapshot_of w).systems) + largest_interval p ≤ time
      → IsFrameClean (snapshot_of w) (suc c) (port_identity_number (receiver direction channel)) (said m)
  frame_clean c link direction channel time octets rest m here front reads late =
      let lane = lane_there w.net.channels link direction channel here in
      let f : SeenFrame = frame_view (frame time octets) in
      let flies : In f (map frame_view (world_queue direction channel)) = rw front (inl refl) in
      let lane_clean = traces.lanes (lane_place link direction) (lane_view direction channel) lane in
      let shorter = turns_less p w is.world.known c in
      let from = lane_clean.sender f flies (omega (arith, late, shorter)) in
      record {
        from = port_identity_number (sender direction channel);
        live = from;
        joins = λ to. state.facts.linked (lane_place link direction) (lane_view direction channel) f lane flies from to;
        good = lane_clean.anywhere f (said m) c flies (m, reads, refl) (omega (arith, late, shorter));
      }

-- ---- what is shown

-- what was sent so late by the largest interval was by the greatest delay
late_sooner : (p : SettlingParams) (w : WorldState) → IsKnown p w → (c time : ℕ)
    → w.last_change + turns_span c p (sync_paths_of w) (length (snapshot_of w).systems) + largest_interval p ≤ time
    → Late (network_setting (settling_network p (path_bound (snapshot_of w)) w)) c time
late_sooner p w known c time late =
    let short : delay_in w ≤ largest_interval p = delay_short p w known in
    let shorter = turns_less p w known c in
    omega (arith, late, short, shorter)

pub traces_become_clean : (number : ℕ) (w : WorldState) (s : SystemState) → SettlingInvariant w → ShowsLive number w s
    → IsCleanInTime w s
traces_become_clean number w s claimed shows c calm =
    let is = set_alike w claimed calm.pace calm.set shows.place shows.station shows.is.here in
    let late = calm.late in
    subst (IsTraceClean (snapshot_of w) c) (sym shows.state)
    (trace_clean calm.pace w is calm.quiet shows.place shows.station shows.is.here shows.live c (omega arith))

pub held_becomes_clean : (number : ℕ) (w : WorldState) (s : SystemState) → SettlingInvariant w → ShowsLive number w s
    → AreHeldCleanInTime w s
held_becomes_clean number w s claimed shows calm c n r holds late =
    let is = set_alike w claimed calm.pace calm.set shows.place shows.station shows.is.here in
    let same = shows.state in
    subst (λ (x : SystemState). IsHeldClean (snapshot_of w) (suc c) (clock x) n r) (sym same)
    (held_clean calm.pace w is calm.quiet shows.place shows.station shows.is.here shows.live c n r
    (subst (λ (x : SystemState). received (held_at x n) ≡ Some r) same holds)
    (late_sooner calm.pace w is.world.known c r.at late))

pub held_becomes_whole : (number : ℕ) (w : WorldState) (s : SystemState) → SettlingInvariant w → ShowsLive number w s
    → AreHeldWholeInTime w s
held_becomes_whole number w s claimed shows m n r bounded calm holds =
    let is = set_alike w claimed calm.pace calm.set shows.place shows.station shows.is.here in
    let late = calm.late in
    let same = shows.state in
    subst (λ (x : SystemState). IsHeldWhole (snapshot_of w) (clock x) n r) (sym same)
    (held_whole_at calm.pace w is calm.quiet shows.place shows.station shows.is.here shows.live m n r bounded
    (let shorter = turns_less calm.pace w is.world.known m in omega (arith, late, shorter))
    (subst (λ (x : SystemState). received (held_at x n) ≡ Some r) same holds))

pub held_becomes_whole_sooner : (number : ℕ) (w : WorldState) (s : SystemState) → SettlingInvariant w
    → ShowsLive number w s
    → AreHeldWholeSooner w s
held_becomes_whole_sooner number w s claimed shows m n r bounded calm holds =
    let is = set_alike w claimed calm.pace calm.set shows.place shows.station shows.is.here in
    let late = calm.late in
    let same = shows.state in
    subst (λ (x : SystemState). IsHeldWhole (snapshot_of w) (clock x) n r) (sym same)
    (held_whole_at calm.pace w is calm.quiet shows.place shows.station shows.is.here shows.live m n r bounded
    (omega (arith, late)) (subst (λ (x : SystemState). received (held_at x n) ≡ Some r) same holds))

-- what is wholly clean names nothing better than the best
pub held_is_no_better : (g : Snapshot) (number port : ℕ) (r : Reception) (best : System) → IsWellFormed g
    → (held : IsHeldWhole g number port r) → IsBest g number best → (best.identity ≤ r.vector.root)
    × (r.vector.root ≡ best.identity → (d : ℕ) → IsDistance g held.from.clock d → d ≤ r.vector.steps)
held_is_no_better g number port r best wf held is_best =
    let there : IsBest g held.from.clock best =
    IsBest-neighbour g number held.from.clock best wf
    (port, held.from.port, Joins-sym g held.from (port_of number port) held.joins) is_best in (
      root_not_better g wf held.from.clock (heard_announce r) held.whole best there,
      λ root d far. steps_not_fewer g wf held.from.clock (heard_announce r) held.whole best there held.from.clock d
          (inl refl)
          there far root,
    )

-- what a delivery tells
delivered_clean : (link : ℕ) (direction : Direction) (time : ℕ) (done : Done) (w w' : WorldState) (draws : List Draw)
    → SettlingInvariant w → Delivery link direction done (at_time time w) draws w' → IsHeardClean w time done
delivered_clean link direction time Quiet w w' draws claimed delivery = tt
delivered_clean link direction time (Heard number port answer octets) w w' draws claimed delivery = λ calm c m reads
    late.
    let takes = delivery.delivers.takes in
    let channel = delivery.delivers.channel in
    let same : delivery.channel ≡ channel =
    same_Some delivery.channel channel (sym delivery.here ∙ takes.here) in
    let (clock_is, port_is, told, octets_are) = delivery.told in
    let end = (claimed.is.world.between link channel takes.here).a in
    let is = set_alike w claimed calm.pace calm.set end.place end.station end.here in
    let read = subst (λ o. Reads o (messages.Announce m)) octets_are reads in
    let clean = frame_clean calm.pace w is calm.quiet c link direction channel time delivery.octets takes.rest m
    takes.here takes.front read (omega (arith, late)) in
    let reached : port_identity_number (receiver direction channel) ≡ port_of number port =
    ap (λ (x : Channel). port_identity_number (receiver direction x)) (sym same)
    ∙ (ap (λ n. port_of n (receiver direction delivery.channel).port) (sym clock_is)
    ∙ ap (λ n. port_of number n) (sym port_is)) in
    subst (λ x. IsFrameClean (snapshot_of w) (suc c) x (said m)) reached clean

pub frames_become_clean : {F : Type 0} (answers : Bounds → ℕ → F → Option ℕ → F → Type 0) (timed : Timed)
    (fate fate_after : F) (w w' : WorldState) (done : Done) → SettlingInvariant w
    → WasDone answers timed fate fate_after w w' done → IsHeardClean w timed.at done
frames_become_clean answers timed fate fate_after w w' done claimed k = by timed.act k.acts
  where
    by : (act : Act) → Acts act (at_time timed.at w) k.draws done w' → IsHeardClean w timed.at done
    by (Deliver link direction) delivery =
        delivered_clean link direction timed.at done w w' k.draws claimed delivery
    by (Expire number timer) (quiet, rest) = rw quiet tt
    by (Changing change) (quiet, rest) = rw quiet tt
