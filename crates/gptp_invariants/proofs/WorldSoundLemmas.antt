-- Worlds in which all that is held and in flight is sound stay so, through acts and gains.
use Rattle.std.proofs.Common.{◌≡◌, ◌⊎◌, ◌≤◌, ◌<◌, ◌+◌, ◌*◌, ◌^◌, ◌%◌, ℕ, Bool, true, false, List, [], ◌∷◌, map, Option, Some, length, slice_get, refl, sym, ap, subst, ◌∙◌, inl, inr, arith}
use Rattle.std.specs.Prelude.{⊤}
use Rattle.std.specs.List.{range_with_len}
use Rattle.std.proofs.lemmas.List.{append-nil}
use Rattle.std.proofs.lemmas.Option.{none-some}
use Rattle.gptp_lists.specs.Members.{In}
use Rattle.gptp_lists.proofs.MappedLemmas.{alike, mapped, same_there}
use Rattle.gptp_lists.proofs.PlaceLemmas.{get-set_all, get-set_other, get-set_same, same_place, set_each}
use Rattle.gptp_graph.specs.Snapshot.{IsWellFormed, Snapshot, System}
use Rattle.gptp_vector.specs.declared.port.PortId.{PortId}
use Rattle.gptp_links.specs.declared.bounds.Bounds.{Bounds}
use Rattle.gptp_links.specs.declared.link.Direction.{Direction}
use Rattle.gptp_links.specs.declared.link.Direction.TheVariants.{FromA, FromB}
use Rattle.gptp_links.specs.Fate.{Draw}
use Rattle.gptp_scenario.specs.declared.change.Act.TheVariants.{Change as Changing}
use Rattle.gptp_scenario.specs.declared.change.Change.{Change}
use Rattle.gptp_scenario.specs.declared.change.Change.TheVariants.{LinkDown, LinkUp, LinkSet, Fail, Recover, Priority1, Inject}
use Rattle.gptp_scenario.specs.declared.network.LinkSpec.{LinkSpec}
use Rattle.gptp_scenario.specs.Network.{NetworkState}
use Rattle.gptp_receipt.specs.Held.{received}
use Rattle.gptp_setup.specs.SettlingParams.{largest_interval}
use Rattle.gptp_system.specs.declared.answer.Answer.{Answer}
use Rattle.gptp_system.specs.Input.{PortUp, Priority}
use Rattle.gptp_system.specs.State.{SystemState, clock}
use Rattle.gptp_system.proofs.StartLemmas.{disabled_at}
use Rattle.gptp_system.proofs.StepLemmas.{steps_steady as identity_kept}
use Rattle.gptp_model.specs.declared.station.Station.{Station}
use Rattle.gptp_model.specs.Act.{Calls, all_timers, in_state}
use Rattle.gptp_model.specs.Acts.{Changes, set_to}
use Rattle.gptp_model.specs.Changing.{CallsIfLive, ComesUpIf, FailsIf, GoesDownIf, InjectsIf, RecoversIf, Starts, StartsAll, brought_up, fresh, with_bounds, with_setup, with_station}
use Rattle.gptp_model.specs.Initial.{channel_from, channels_of, initial, station_of, stations_of}
use Rattle.gptp_model.specs.Sound.{AreApart, IsSound, JoinPorts}
use Rattle.gptp_model.specs.World.{Channel, WorldState, port_id, world_queue}
use Rattle.gptp_model.proofs.AgreeLemmas.{replaced}
use Rattle.gptp_model.proofs.BareLemmas.{bare, calls_bare}
use Rattle.gptp_model.proofs.StayLemmas.{brought_up_stays, fresh_same, refreshed_stays, stays_apart, with_setup_stays}
use Rattle.gptp_model.proofs.SteadyLemmas.{same_clock}
use Rattle.gptp_model.proofs.SoundLemmas.{starts_sound}
use Rattle.gptp_bmca_machine.specs.SoundLaws.{HasNews}
use Rattle.gptp_bmca_machine.specs.SoundEverywhere.{IsSoundEverywhere, StationIsSound}
use Rattle.gptp_bmca_machine.specs.Frame.{AnnounceFrame as SeenFrame, Lane}
use Rattle.gptp_bmca_machine.specs.Facts.{StationFacts}
use Rattle.gptp_bmca_machine.specs.Network.{Network, network_setting}
use Rattle.gptp_bmca_machine.specs.Station.{Station as SeenStation}
use Rattle.gptp_bmca_machine.specs.Acts.{MachineSteps}
use Rattle.gptp_bmca_machine.proofs.SoundEverywhereLemmas.{sound_kept, sound_more}
use Rattle.gptp_invariants.specs.ChoiceCalm.{network_of}
use Rattle.gptp_invariants.specs.WorldEncodable.{IsEncodable}
use Rattle.gptp_invariants.specs.WorldEncodableLaws.{SetsAnOctet}
use Rattle.gptp_invariants.specs.WorldSound.{IsGain, IsSoundWorld}
use Rattle.gptp_invariants.specs.WorldSoundLaws.{SoundActs, SoundBegins, SoundGains, SoundLater}
use Rattle.gptp_invariants.specs.WorldStanding.{AreBetween, live_stations, snapshot_of, standing_system, used_channels}
use Rattle.gptp_invariants.specs.ChoiceView.{frame_view, says_announce, station_view, view}
use Rattle.gptp_invariants.proofs.WorldActEncodableLemmas.{answering_kept, initial_encodable, starts_encodable}
use Rattle.gptp_model.proofs.ActsByLemmas.{PortCallsKeep, ends_told, start_told, system_starts}
use Rattle.gptp_invariants.proofs.WorldAnsweringLemmas.{CanAnswer, IsAnswering, sound_answers}
use Rattle.gptp_invariants.proofs.WorldBetweenLemmas.{networks_between, starts_between}
use Rattle.gptp_invariants.proofs.ChoiceCalmFactLemmas.{facts}
use Rattle.gptp_invariants.proofs.ChoiceCalmKeptLemmas.{KeepsNetwork, acts_keep, net_keeps, same_network, same_snapshot, systems_kept}
use Rattle.gptp_invariants.proofs.ChoicePlaceLemmas.{station_from, station_there}
use Rattle.gptp_invariants.proofs.ChoicePortLemmas.{held_from}
use Rattle.gptp_invariants.proofs.ChoiceSeenActLemmas.{acts_seen}
use Rattle.gptp_invariants.proofs.ChoiceSeenLaneLemmas.{lane_from}
use Rattle.gptp_invariants.proofs.WorldSettledLemmas.{still_acts_stay}
use Rattle.gptp_invariants.proofs.WorldStandsLemmas.{stands_well}
use Rattle.gptp_invariants.proofs.WorldSystemLemmas.{IsLiveAt, live_from, live_there}
use Rattle.gptp_invariants.proofs.WorldSoundCallLemmas.{Goes, HasClocks, IsThereToo, call_sound, lanes_like, links_more, net_sound, same_flight, same_systems, set_flight, set_there, setups_of, tells_keep, up_goes, up_keeps}

-- ---- changes

-- a system that starts holds nothing
starts_empty : (g : Snapshot) (now : ℕ) (station : Station) → StationIsSound g (station_view (fresh now station))
starts_empty g now station place seen holds =
    let new = fresh now station in
    let at = held_from true new.system place seen holds in
    let off = disabled_at (length station.setup.intervals.items) place at.held at.stands in
    absurd (none-some at.reception (ap received (sym off) ∙ at.got))

module _ (w : WorldState) (well : IsWellFormed (snapshot_of w)) (is : IsAnswering w) (apart : AreApart w)
    (ports : JoinPorts w) (all : IsSoundWorld w) where
  -- where nothing is done
  nothing : (w' : WorldState) → w' ≡ w → IsSoundWorld w'
  nothing w' same = subst IsSoundWorld (sym same) all

  -- a link with other bounds
  bounds_sound : (bounds : Bounds) (place : ℕ) (channel : Channel) → slice_get w.net.channels place ≡ Some channel
      → IsSoundWorld (record w { net = with_bounds bounds place channel w.net })
  bounds_sound bounds place channel here =
      let new : Channel = record channel { bounds = bounds } in
      let net = with_bounds bounds place channel w.net in
      let v : WorldState = record w { net = net } in
      let more : HasNews (snapshot_of w) (snapshot_of v) = record {
        links = links_more w v (same_systems (live_stations w.stations))
            (set_there w.net.channels place channel new here refl refl (λ on. on));
        systems = λ s member. (s, member, refl, omega arith);
      } in
      net_sound (snapshot_of v) w net (set_flight w.net.channels place channel new here refl refl refl refl)
      (sound_more (snapshot_of w) (snapshot_of v) well more says_announce (view w) all)

  -- a link comes up
  up_sound : (up : Bool) (place : ℕ) (channel : Channel) (draws : List Draw) (w' : WorldState)
      → IsWellFormed (snapshot_of w') → slice_get w.net.channels place ≡ Some channel
      → ComesUpIf up place channel w draws w' → IsSoundWorld w'
  up_sound true place channel draws w' well' here (none, same) = nothing w' same
  up_sound false place channel draws w' well' here k =
      let new : Channel = record channel { up = true } in
      let net = brought_up place channel w.net in
      let v : WorldState = record w { net = net } in
      let g = snapshot_of v in
      let same = same_snapshot v w' (tells_keep channel v draws w' k) in
      let well_up : IsWellFormed g = subst IsWellFormed same well' in
      let more : HasNews (snapshot_of w) g = record {
        links = links_more w v (same_systems (live_stations w.stations))
            (set_there w.net.channels place channel new here refl refl (λ on. refl));
        systems = λ s member. (s, member, refl, omega arith);
      } in
      let goes : Goes g v = record {
        answering = answering_kept.link_up place channel w here is;
        apart = stays_apart w v (brought_up_stays place channel w here (setups_of w is)) apart;
        same = refl;
        sound = net_sound g w net (set_flight w.net.channels place channel new here refl refl refl refl)
            (sound_more (snapshot_of w) g well more says_announce (view w) all);
      } in
      let end = ends_told ⊤ (Goes g) PortUp (up_goes g well_up) channel v draws w'
      (λ known direction other station there named. ports place other direction channel station here there named) k goes
      in
      subst (λ (h : Snapshot). IsSoundEverywhere says_announce h (view w')) (sym end.same) end.sound

  -- a system starts that has failed, or that has the identity that it starts with
  start_sound : (place : ℕ) (draws : List Draw) (w' : WorldState) → IsWellFormed (snapshot_of w')
      → (k : Starts place w draws w')
      → (k.station.live ≡ false) ⊎ (k.station.system.identity ≡ k.station.setup.identity) → IsSoundWorld w'
  start_sound place draws w' well' k new_one =
      subst (λ (h : Snapshot). IsSoundEverywhere says_announce h (view w')) (sym end.same) end.sound
    where
      new : Station
      new = fresh w.time k.station

      v : WorldState
      v = record (with_station place new w) { net = all_timers place new w.net }

      g : Snapshot
      g = snapshot_of v

      old : CanAnswer k.station
      old = is.stations place k.station k.here

      now_there : slice_get v.stations place ≡ Some new
      now_there = get-set_same w.stations place k.station new k.here

      -- each live system still is
      still : (s : System) → In s (live_stations w.stations)
          → (t : System) × In t (live_stations v.stations) × (t.clock ≡ s.clock) × (t.identity ≤ s.identity)
      still s member = elim (same_place at.place place) [
        | inl same ↦ (let one : at.station ≡ k.station = same_there w.stations place at.station k.station
            (ap (slice_get w.stations) (sym same) ∙ at.here) k.here in
            let live : k.station.live ≡ true = ap (λ (x : Station). x.live) (sym one) ∙ at.live in
            let named : (standing_system new).clock ≡ s.clock =
            (fresh_same w.time k.station old.its).named
            ∙ ap (λ (x : Station). clock x.system) (sym one) ∙ ap (λ (x : System). x.clock) (sym at.is) in
            let own_identity : k.station.setup.identity ≡ k.station.system.identity =
            elim new_one [ inl dead ↦ absurd cc | inr equal ↦ sym equal ] in
            let was : k.station.system.identity ≡ s.identity =
            ap (λ (x : Station). x.system.identity) (sym one) ∙ ap (λ (x : System). x.identity) (sym at.is) in (
              standing_system new,
              live_there v.stations place new now_there refl,
              named,
              omega
                  (arith, own_identity, was),
            ))
        | inr other ↦ (
          s,
          subst (λ x. In x (live_stations v.stations)) (sym at.is)
              (live_there v.stations at.place at.station
              (get-set_other w.stations place at.place new other ∙ at.here) at.live),
          refl,
          omega arith,
        )
      ]
        where
          at : IsLiveAt w.stations s
          at = live_from w.stations s member

      clocks_still : HasClocks (live_stations w.stations) (live_stations v.stations)
      clocks_still s member = let (t, there, named, less) = still s member in (t, there, named)

      more : HasNews (snapshot_of w) g
      more = record {
        links = links_more w v clocks_still
            (λ link channel here. record { new = channel; here = here; a = refl; b = refl; up = λ on. on });
        systems = still;
      }

      all' : IsSoundEverywhere says_announce g (view w)
      all' = sound_more (snapshot_of w) g well more says_announce (view w) all

      stations : (i : ℕ) (s : SeenStation) → slice_get (view v).stations i ≡ Some s → s.live ≡ true
          → StationIsSound g s
      stations i s there live =
          let at = station_from v.stations i s there in
          subst (StationIsSound g) (sym at.is)
          (elim (same_place i place) [
            | inl same ↦ (let one : new ≡ at.station = same_there v.stations place new at.station now_there
                (ap (slice_get v.stations) (sym same) ∙ at.here) in
                subst (λ (x : Station). StationIsSound g (station_view x)) one (starts_empty g w.time k.station))
            | inr other ↦ all'.stations i (station_view at.station)
                (station_there w.stations i at.station
                (sym (get-set_other w.stations place i new other) ∙ at.here))
                (ap (λ (x : SeenStation). x.live) (sym at.is) ∙ live)
          ])

      goes : Goes g v
      goes = record {
        answering = answering_kept.system_started place k.station w k.here is;
        apart = stays_apart w v (refreshed_stays place k.station w k.here (setups_of w is)) apart;
        same = refl;
        sound = record {
          lanes = lanes_like g w v (λ link new there. same_flight w.net.channels link new there) all';
          stations = stations;
        };
      }

      keeps : KeepsNetwork v w'
      keeps = start_told ⊥ (KeepsNetwork v) (up_keeps v) place w draws w' k (net_keeps v v.net refl)

      end : Goes g w'
      end =
          start_told ⊤ (Goes g) (up_goes g (subst IsWellFormed (same_snapshot v w' keeps) well')) place w draws w' k
          goes

  -- a system has another priority1
  priority_sound : (number value place : ℕ) (station : Station) (draws : List Draw) (w' : WorldState)
      → IsWellFormed (snapshot_of w') → value < 256 → slice_get w.stations place ≡ Some station
      → value * 2 ^ 104 + station.system.identity % 2 ^ 104 ≤ station.system.identity
      → CallsIfLive place (Priority value) (with_station place (with_setup value station) w) draws w' → IsSoundWorld w'
  priority_sound number value place station draws w' well' octet here better k = by k
    where
      new : Station
      new = with_setup value station

      v : WorldState
      v = with_station place new w

      same_v : snapshot_of v ≡ snapshot_of w
      same_v =
          let same = systems_kept w.stations place station new here refl refl in
          λ i. record { systems = same i; links = used_channels (same i) w.net.channels }

      -- it is seen as before
      seen_v : (g : Snapshot) → IsSoundEverywhere says_announce g (view w) → IsSoundEverywhere says_announce g (view v)
      seen_v g sound = record {
        lanes = sound.lanes;
        stations = λ i s there live.
            let at = station_from v.stations i s there in
            subst (StationIsSound g) (sym at.is)
            (set_each (λ j (x : Station). x.live ≡ true → StationIsSound g (station_view x)) w.stations place station
            new here
            (sound.stations place (station_view station) (station_there w.stations place station here))
            (λ j x apart stood. sound.stations j (station_view x) (station_there w.stations j x stood))
            i at.station at.here (ap (λ (x : SeenStation). x.live) (sym at.is) ∙ live));
      }

      called : (answer : Answer) → Calls place (Priority value) v draws answer w' → IsSoundWorld w'
      called answer c =
          call_sound g well' place (Priority value) v draws answer w' c
          (answering_kept.priority_set number value place station w here octet is)
          (stays_apart w v (with_setup_stays value place station w here (setups_of w is)) apart) tt
          (record { deaf = λ n octets same. absurd cc; fits = octet }) known
          (seen_v g (sound_more (snapshot_of w) g well more says_announce (view w) all))
        where
          g : Snapshot
          g = snapshot_of w'

          after : Station
          after = in_state c.after c.station

          there : slice_get w'.stations place ≡ Some after
          there = ap (λ (x : WorldState). slice_get x.stations place) c.is
              ∙ get-set_same v.stations place c.station after c.here

          known : In (standing_system after) g.systems
          known = live_there w'.stations place after there c.live

          one : new ≡ c.station
          one = same_there v.stations place new c.station (get-set_same w.stations place station new here) c.here

          still : (s : System) → In s (live_stations w.stations)
              → (t : System) × In t (live_stations w'.stations) × (t.clock ≡ s.clock) × (t.identity ≤ s.identity)
          still s member = elim (same_place at.place place) [
            | inl same ↦ (let was : at.station ≡ station = same_there w.stations place at.station station
                (ap (slice_get w.stations) (sym same) ∙ at.here) here in
                let system : c.station.system ≡ at.station.system =
                ap (λ (x : Station). x.system) (sym one ∙ refl) ∙ ap (λ (x : Station). x.system) (sym was) in
                let named : clock c.after ≡ s.clock =
                same_clock (Priority value) v.time c.station.system c.after c.sends answer c.steps
                ∙ ap clock system ∙ ap (λ (x : System). x.clock) (sym at.is) in
                let identity : c.after.identity ≡ value * 2 ^ 104 + c.station.system.identity % 2 ^ 104 =
                ap (λ (x : SystemState). x.identity) c.steps.state in
                let then : c.after.identity ≡ value * 2 ^ 104 + station.system.identity % 2 ^ 104 =
                identity ∙ ap (λ (x : SystemState). value * 2 ^ 104 + x.identity % 2 ^ 104)
                (ap (λ (x : Station). x.system) (sym one)) in
                let before : s.identity ≡ station.system.identity =
                ap (λ (x : System). x.identity) at.is ∙ ap (λ (x : Station). x.system.identity) was in
                (standing_system after, known, named, omega (arith, then, before, better)))
            | inr other ↦ (
              s,
              subst (λ x. In x (live_stations w'.stations)) (sym at.is)
                  (live_there w'.stations at.place at.station
                  (ap (λ (x : WorldState). slice_get x.stations at.place) c.is
                  ∙ get-set_other v.stations place at.place after other
                  ∙ get-set_other w.stations place at.place new other ∙ at.here) at.live),
              refl,
              omega arith,
            )
          ]
            where
              at : IsLiveAt w.stations s
              at = live_from w.stations s member

          clocks_still : HasClocks (live_stations w.stations) (live_stations w'.stations)
          clocks_still s member = let (t, stands, named, less) = still s member in (t, stands, named)

          links : (link : ℕ) (channel : Channel) → slice_get w.net.channels link ≡ Some channel
              → IsThereToo w'.net.channels link channel
          links link channel stood =
              let bares = calls_bare place (Priority value) v draws answer w' c in
              let (x, x_there, same) = alike bare bare c.net.channels w.net.channels bares link channel stood in
              record {
                new = x;
                here = ap (λ (y : WorldState). slice_get y.net.channels link) c.is ∙ x_there;
                a = ap (λ (y : Channel). y.a) same;
                b = ap (λ (y : Channel). y.b) same;
                up = λ on. ap (λ (y : Channel). y.up) same ∙ on;
              }

          more : HasNews (snapshot_of w) g
          more = record { links = links_more w w' clocks_still links; systems = still }

      by : CallsIfLive place (Priority value) v draws w' → IsSoundWorld w'
      by (inl (answer, c)) = called answer c
      by (inr (failed, none, same)) =
          subst IsSoundWorld (sym same)
          (subst (λ (h : Snapshot). IsSoundEverywhere says_announce h (view v)) (sym same_v)
          (seen_v (snapshot_of w) all))

  -- where a link is down, or a system has failed
  down_sound : (up : Bool) (place : ℕ) (channel : Channel) (draws : List Draw) (w' : WorldState) → up ≡ false
      → GoesDownIf up place channel w draws w' → IsSoundWorld w'
  down_sound true place channel draws w' down k = absurd cc
  down_sound false place channel draws w' down (none, same) = nothing w' same

  fails_sound : (live : Bool) (place : ℕ) (station : Station) (draws : List Draw) (w' : WorldState) → live ≡ false
      → FailsIf live place station w draws w' → IsSoundWorld w'
  fails_sound true place station draws w' dead k = absurd cc
  fails_sound false place station draws w' dead (none, same) = nothing w' same

  injects_sound : (up : Bool) (from : PortId) (octets : List ℕ) (draws : List Draw) (w' : WorldState) → up ≡ false
      → InjectsIf up from octets w draws w' → IsSoundWorld w'
  injects_sound true from octets draws w' down k = absurd cc
  injects_sound false from octets draws w' down (none, same) = nothing w' same

  recovers_sound : (live : Bool) (place : ℕ) (station : Station) (draws : List Draw) (w' : WorldState)
      → IsWellFormed (snapshot_of w') → slice_get w.stations place ≡ Some station → station.live ≡ live
      → RecoversIf live place w draws w' → IsSoundWorld w'
  recovers_sound true place station draws w' well' here lives (none, same) = nothing w' same
  recovers_sound false place station draws w' well' here dead k =
      start_sound place draws w' well' k
      (inl (ap (λ (x : Station). x.live) (same_there w.stations place k.station station k.here here) ∙ dead))

  changes_sound : (change : Change) (draws : List Draw) (w' : WorldState) → IsWellFormed (snapshot_of w')
      → IsGain change w → SetsAnOctet (Changing change) → Changes change w draws w' → IsSoundWorld w'
  changes_sound (LinkDown number port) draws w' well' gain octet k =
      down_sound k.channel.up k.place k.channel draws w' (gain k.place k.channel k.is) k.so
  changes_sound (LinkUp number port) draws w' well' gain octet k =
      up_sound k.channel.up k.place k.channel draws w' well' k.is.here k.so
  changes_sound (LinkSet number port min max loss) draws w' well' gain octet k =
      subst IsSoundWorld (sym k.so.1) (bounds_sound (set_to min max loss k.channel) k.place k.channel k.is.here)
  changes_sound (Fail number) draws w' well' gain octet k =
      fails_sound k.station.live k.place k.station draws w' (gain k.place k.station k.is) k.so
  changes_sound (Recover number) draws w' well' gain octet k =
      recovers_sound k.station.live k.place k.station draws w' well' k.is.here refl k.so
  changes_sound (Priority1 number value) draws w' well' gain octet k =
      priority_sound number value k.place k.station draws w' well' octet k.is.here (gain k.place k.station k.is) k.so
  changes_sound (Inject number port octets) draws w' well' gain octet k =
      injects_sound k.channel.up (port_id number port) octets draws w' (gain k.place k.channel k.is) k.so

pub sound_gains : SoundGains
sound_gains p change w draws done w' gain octet acts is is' all =
    let now : WorldState = record w { last_change = w.time } in
    changes_sound now (stands_well w is.sound is.between is.encodable)
    (answering_kept.change_counted w (sound_answers w is.sound is.encodable))
    is.sound.wired.apart is.sound.wired.ports
    (record { lanes = all.lanes; stations = all.stations }) change draws w'
    (stands_well w' is'.sound is'.between is'.encodable) (there change gain) octet acts.1
  where
    there : (c : Change) → IsGain c w → IsGain c (record w { last_change = w.time })
    there (LinkDown number port) o = λ place channel k. o place channel k
    there (LinkUp number port) o = tt
    there (LinkSet number port min max loss) o = tt
    there (Fail number) o = λ place station k. o place station (record { here = k.here; named = k.named })
    there (Recover number) o = tt
    there (Priority1 number value) o = λ place station k. o place station (record { here = k.here; named = k.named })
    there (Inject number port octets) o = λ place channel k. o place channel k

-- ---- acts

pub sound_acts : SoundActs
sound_acts p act w draws done w' none k is all =
    let is' = still_acts_stay p act w draws done w' none k is in
    let keeps = acts_keep act w draws done w' none k in
    let start = w.last_change + 2 * largest_interval p in
    let same : network_of p 0 start w' ≡ network_of p 0 start w = same_network w w' keeps p 0 start in
    let before : StationFacts (network_setting (network_of p 0 start w)) (view w) =
    facts p 0 start w is.sound is.encodable is.known in
    let after : StationFacts (network_setting (network_of p 0 start w)) (view w') =
    subst (λ (n : Network). StationFacts (network_setting n) (view w')) same
    (facts p 0 start w' is'.sound is'.encodable is'.known) in
    let step : MachineSteps says_announce (view w) (view w') = inr
    (acts_seen act w draws done w' none is.sound is.encodable k) in
    subst (λ (h : Snapshot). IsSoundEverywhere says_announce h (view w')) (sym (same_snapshot w w' keeps))
    (sound_kept says_announce (network_setting (network_of p 0 start w)) (view w) (view w')
    (stands_well w is.sound is.between is.encodable) before after step all)

pub sound_later : SoundLater
sound_later w time all = record { lanes = all.lanes; stations = all.stations }

-- ---- the beginning

-- each system has the identity that it starts with
HaveOwnIdentity : WorldState → Type 0
HaveOwnIdentity w = (place : ℕ) (station : Station) → slice_get w.stations place ≡ Some station
    → station.system.identity ≡ station.setup.identity

call_identity : PortCallsKeep ⊤ PortUp HaveOwnIdentity
unfolding HaveOwnIdentity
call_identity place p w draws answer w' k of own other station there =
    get-set_all (λ (x : Station). x.system.identity ≡ x.setup.identity) w.stations place k.station
    (in_state k.after k.station) k.here
    ((identity_kept (PortUp p) w.time k.station.system k.after k.sends answer (λ value same. absurd cc)
    k.steps).identity
    ∙ own place k.station k.here)
    own other station (ap (λ (v : WorldState). slice_get v.stations other) (sym k.is) ∙ there)

start_identity : (place : ℕ) (station : Station) (w : WorldState) → slice_get w.stations place ≡ Some station
    → HaveOwnIdentity w → HaveOwnIdentity (replaced place (fresh w.time station) w)
unfolding HaveOwnIdentity
start_identity place station w here own =
    get-set_all (λ (x : Station). x.system.identity ≡ x.setup.identity) w.stations place station (fresh w.time station)
    here refl own

starts_all_sound : (places : List ℕ) (w : WorldState) (draws : List Draw) (w' : WorldState) → IsSound w → IsEncodable w
    → AreBetween w → HaveOwnIdentity w → IsSoundWorld w → StartsAll places w draws w' → IsSoundWorld w'
unfolding HaveOwnIdentity
starts_all_sound [] w draws w' sound encodable between own all (none, same) = subst IsSoundWorld (sym same) all
starts_all_sound (place ∷ places) w draws w' sound encodable between own all (first, rest, next, split, k, more) =
    let alone : StartsAll (place ∷ []) w first next = (first, [], next, sym (append-nil first), k, (refl, refl)) in
    let sound' = starts_sound (place ∷ []) w first next sound alone in
    let encodable' = starts_encodable (place ∷ []) w first next sound encodable alone in
    let between' = starts_between (place ∷ []) w first next sound between alone in
    let all' = start_sound w (stands_well w sound between encodable) (sound_answers w sound encodable) sound.wired.apart
    sound.wired.ports all place first next (stands_well next sound' between' encodable') k
    (inr (own place k.station k.here)) in
    starts_all_sound places next rest w' sound' encodable' between'
    (system_starts ⊤ HaveOwnIdentity call_identity start_identity place w first next k own) all' more

-- nothing is held or in flight before systems start
initial_all_sound : (n : NetworkState) → IsSoundWorld (initial n)
initial_all_sound n = record {
  lanes = λ j l there f a member said.
      let at = lane_from (channels_of n) j l there in
      let (wire, stood, made) = mapped channel_from n.links at.link at.channel at.here in
      absurd (still wire at.direction f
      (subst (λ (c : Channel). In f (map frame_view (world_queue at.direction c))) (sym made)
      (subst (λ (x : Lane). In f x.frames) at.is member)));
  stations = λ i s there live.
      let at = station_from (stations_of n) i s there in
      let (member, stood, made) = mapped (station_of n) n.systems i at.station at.here in
      let dead : at.station.live ≡ false = ap (λ (x : Station). x.live) (sym made) in
      let lives : at.station.live ≡ true = ap (λ (x : SeenStation). x.live) (sym at.is) ∙ live in
      absurd cc;
}
  where
    still : (wire : LinkSpec) (direction : Direction) (f : SeenFrame)
        → In f (map frame_view (world_queue direction (channel_from wire))) → ⊥
    still wire FromA f member = member
    still wire FromB f member = member

initial_identity : (n : NetworkState) → HaveOwnIdentity (initial n)
unfolding HaveOwnIdentity
initial_identity n place station there =
    let (member, stood, made) = mapped (station_of n) n.systems place station there in
    subst (λ (x : Station). x.system.identity ≡ x.setup.identity) made refl

pub sound_begins : {F : Type 0} (answers : Bounds → ℕ → F → Option ℕ → F → Type 0) → SoundBegins answers
sound_begins answers n fate fate_after w network sound k =
    let places = range_with_len 0 (length n.systems) in
    starts_all_sound places (initial n) k.draws w sound (initial_encodable n network) (networks_between n network)
    (initial_identity n) (initial_all_sound n) k.starts
