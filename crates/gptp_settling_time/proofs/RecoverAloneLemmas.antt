-- A failed system recovers that uses no link: claims made of all links always stay.
use Rattle.std.proofs.Common.{◌≡◌, ◌≢◌, ◌⊎◌, ◌<◌, ◌≤◌, ◌*◌, ℕ, suc, pos, true, false, List, Some, slice_get, refl, sym, ap, subst, ◌∙◌, inl, inr, arith}
use Rattle.std.specs.Option.{option_map_or}
use Rattle.std.proofs.Math.Nat.{mul-le-mul_left}
use Rattle.std.proofs.lemmas.Option.{same_Some}
use Rattle.gptp_lists.specs.Members.{In}
use Rattle.gptp_lists.proofs.MappedLemmas.{alike, mapped, mapped_there, same_there}
use Rattle.gptp_lists.proofs.PlaceLemmas.{get-set_other, get-set_same, same_place}
use Rattle.gptp_graph.specs.PathBound.{BoundsPaths}
use Rattle.gptp_graph.specs.Snapshot.{Joins, PortIdentity, System, port_of}
use Rattle.gptp_vector.specs.declared.port.PortId.{PortId}
use Rattle.gptp_links.specs.declared.link.Direction.{Direction}
use Rattle.gptp_links.specs.declared.link.Direction.TheVariants.{FromA, FromB}
use Rattle.gptp_links.specs.Fate.{Draw}
use Rattle.gptp_setup.specs.Intervals.{interval_of}
use Rattle.gptp_setup.specs.SettlingParams.{SettlingParams}
use Rattle.gptp_scenario.specs.Calm.{NothingLapses}
use Rattle.gptp_scenario.specs.declared.change.Act.TheVariants.{Change as Changing}
use Rattle.gptp_scenario.specs.declared.change.Change.TheVariants.{Recover}
use Rattle.gptp_system.specs.State.{clock}
use Rattle.gptp_model.specs.Acts.{Acts, AtSystem}
use Rattle.gptp_model.specs.Changing.{RecoversIf, Starts, fresh}
use Rattle.gptp_model.specs.declared.done.Done.{Done}
use Rattle.gptp_model.specs.declared.station.Station.{Station}
use Rattle.gptp_model.specs.World.{Channel, WorldState, receiver, sender}
use Rattle.gptp_model.proofs.BareLemmas.{bare}
use Rattle.gptp_model.proofs.ActsByLemmas.{start_ports_told}
use Rattle.gptp_model.proofs.StayLemmas.{fresh_same, sender_same}
use Rattle.gptp_bmca_machine.specs.Calm.{Calm}
use Rattle.gptp_bmca_machine.specs.Frame.{Lane}
use Rattle.gptp_bmca_machine.specs.Levels.{Invariant, LeadsFarther}
use Rattle.gptp_bmca_machine.specs.Link.{LinkSettles}
use Rattle.gptp_bmca_machine.specs.Network.{IsSettlingNetwork, Network, since, wiring}
use Rattle.gptp_bmca_machine.specs.RestLaws.{SameWiring, StandsAsBefore}
use Rattle.gptp_bmca_machine.specs.SoundLaws.{HasNews, IsSoundOnLinks}
use Rattle.gptp_bmca_machine.specs.Station.{Station as SeenStation}
use Rattle.gptp_bmca_machine.proofs.SoundEverywhereLemmas.{on_links}
use Rattle.gptp_bmca_machine.proofs.SoundLemmas.{path_on, received_fits}
use Rattle.gptp_invariants.specs.ChoiceCalm.{HaveQuietLinks, clock_place, delay_in, lane_of, log_at, log_of, setups_of}
use Rattle.gptp_invariants.specs.ChoiceSettlesAsMachine.{IsWorld}
use Rattle.gptp_invariants.specs.ChoiceView.{lane_place, lane_view, port_identity_number, says_announce, station_view, view}
use Rattle.gptp_invariants.specs.DelayLinkView.{IsEndOf, IsLinkOf, LinkPlace, other_direction}
use Rattle.gptp_invariants.specs.DelayMeasured.{LinkIsMeasured, LinkStandsAt}
use Rattle.gptp_invariants.specs.WorldNews.{IsNews}
use Rattle.gptp_invariants.specs.WorldStanding.{channel_is_used, live_stations, snapshot_of, standing_system, stations_have_clock}
use Rattle.gptp_invariants.proofs.ChoiceCalmKeptLemmas.{KeepsNetwork, links_quiet, places_kept}
use Rattle.gptp_invariants.proofs.ChoiceFoundLemmas.{place_is}
use Rattle.gptp_invariants.proofs.ChoiceSeenLaneLemmas.{lane_there}
use Rattle.gptp_invariants.proofs.ChoiceSendLemmas.{lanes_apart}
use Rattle.gptp_invariants.proofs.ChoiceSettlesAsMachineLemmas.{kept_back}
use Rattle.gptp_invariants.proofs.DelayClaimedCapableLemmas.{clock_has, used_if}
use Rattle.gptp_invariants.proofs.DelayLinkLemmas.{sender_opposite}
use Rattle.gptp_invariants.proofs.SyncFollowWorldLemmas.{used_within}
use Rattle.gptp_invariants.proofs.WorldGreatestDelayLemmas.{delay_of_used}
use Rattle.gptp_invariants.proofs.WorldSoundCallLemmas.{links_more}
use Rattle.gptp_invariants.proofs.WorldStandsLemmas.{sender_lives, used_up}
use Rattle.gptp_invariants.proofs.WorldSystemLemmas.{clock_in, clock_lives, live_from, live_there}
use Rattle.gptp_invariants.proofs.WorldWayLemmas.{IsWay, used_joins, way_of}
use Rattle.gptp_settling_time.proofs.AlwaysClaimedLemmas.{AreHeard, IsClaimedAlways, same_start, standing, start_calm, start_net, start_network}
use Rattle.gptp_settling_time.proofs.AsksSoonLemmas.{both_ways}
use Rattle.gptp_settling_time.proofs.BesideUpLemmas.{seen_same}
use Rattle.gptp_settling_time.proofs.FreshWorldLemmas.{fresh_orderly, fresh_world}
use Rattle.gptp_settling_time.proofs.GainStageLemmas.{ClaimsAlways, stage_kept}
use Rattle.gptp_settling_time.proofs.HeardLemmas.{IsHeardAt, heard_elsewhere, stays_on}
use Rattle.gptp_settling_time.proofs.OrderedLemmas.{opposite}
use Rattle.gptp_settling_time.proofs.ReactsLemmas.{logs_set}
use Rattle.gptp_settling_time.proofs.RecoverLemmas.{keeps, stood_alone}
use Rattle.gptp_settling_time.proofs.SameLinkLemmas.{IsSameLink, told_same}
use Rattle.gptp_settling_time.proofs.SamePartsLemmas.{HasSameParts, parts_on}
use Rattle.gptp_settling_time.proofs.UntoldLemmas.{HasMeasuredNothing, started_unmeasured}
use Rattle.gptp_settling_time.proofs.RaisesOwnLemmas.{HaveRaised, IsFreshAt, RaisesOwn, raised_more, raised_none}

-- ---- what is in use

-- a link is in use where its ends live that are ends of one in use
used_where : (stations others : List Station) (channel : Channel)
    → ((direction : Direction)
    → stations_have_clock (live_stations stations) (sender direction channel).clock ≡ true
    → stations_have_clock (live_stations others) (sender direction channel).clock ≡ true)
    → channel_is_used (live_stations stations) channel ≡ true → channel_is_used (live_stations others) channel ≡ true
used_where stations others channel each used =
    used_if others FromA channel (used_up (live_stations stations) channel used)
    (each FromA (sender_lives (live_stations stations) FromA channel used))
    (each FromB (sender_lives (live_stations stations) FromB channel used))

-- no link in use ends at the system with this clock
abbrev pub UsesNone : ℕ → WorldState → Type 0
UsesNone number w = (link : ℕ) (channel : Channel) → slice_get w.net.channels link ≡ Some channel
    → channel_is_used (live_stations w.stations) channel ≡ true → (direction : Direction)
    → (sender direction channel).clock ≢ number

-- so none stands at it
pub none_stands : (number : ℕ) (w : WorldState) → UsesNone number w → (at : LinkPlace) (s : LinkStandsAt at w)
    → (clock s.asking.station.system ≡ number) ⊎ (clock s.answering.station.system ≡ number) → ⊥
none_stands number w unused at s ends =
    let used =
    used_if w.stations at.direction s.channel s.up
    (clock_has w.stations at.asking s.asking.station _ s.asking.here s.asking.live s.asking.named)
    (clock_has w.stations at.answering s.answering.station _ s.answering.here s.answering.live s.answering.named) in
    elim ends [
      | inl asks ↦ unused at.link s.channel s.here used at.direction (sym s.asking.named ∙ asks)
      | inr answers ↦
          unused at.link s.channel s.here used (other_direction at.direction)
          (ap (λ (q : PortId). q.clock) (sender_opposite at.direction s.channel) ∙ sym s.answering.named ∙ answers)
    ]

-- ---- it recovers

module _ (p : SettlingParams) (start next number : ℕ) (w : WorldState) (draws : List Draw) (done : Done)
    (w' : WorldState) (is : IsClaimedAlways p start w) (world' : IsWorld p w') (measured' : LinkIsMeasured w')
    (ahead : start ≤ next) (acts : Acts (Changing (Recover number)) w draws done w') where
  abbrev world : IsWorld p w
  world = is.news.world

  abbrev now : WorldState
  now = record w { last_change = w.time }

  abbrev k : AtSystem number now (λ place station. RecoversIf station.live place now draws w')
  k = acts.1

  module _ (dead : k.station.live ≡ false) (unused : UsesNone number w') where
    abbrev starts : Starts k.place now draws w'
    starts = subst (λ b. RecoversIf b k.place now draws w') dead k.so

    abbrev old : Station
    old = starts.station

    abbrev new : Station
    new = fresh w.time old

    abbrev begun : WorldState
    begun = fresh_world k.place old w

    old_is : old ≡ k.station
    old_is = same_there w.stations k.place old k.station starts.here k.is.here

    here_new : slice_get begun.stations k.place ≡ Some new
    here_new = get-set_same w.stations k.place old new starts.here

    named_new : clock new.system ≡ clock old.system
    named_new = (fresh_same w.time old (world.sound.wired.setups k.place old starts.here)).named

    number_new : clock new.system ≡ number
    number_new = named_new ∙ ap (λ (x : Station). clock x.system) old_is ∙ k.is.named

    -- ---- its ports

    is_fresh : IsFreshAt number k.place begun
    is_fresh = record {
      named = λ station there.
          ap (λ (x : Station). clock x.system) (same_Some station new (sym there ∙ here_new)) ∙ number_new;
      unmeasured = λ station there.
          subst HasMeasuredNothing (same_Some new station (sym here_new ∙ there))
          (started_unmeasured old.setup w.time true);
    }

    raised : RaisesOwn number begun w'
    raised =
        (start_ports_told k.place (λ qs. HaveRaised number k.place begun)
        (λ q qs. raised_more number k.place begun q) now draws w' starts (
          raised_none number begun,
          fresh_orderly p w world is.news.measured k.place old starts.here,
          is_fresh,
          lanes_apart w world.sound.wired.apart
              (λ link channel here. (world.encodable.links link channel here).ends),
        )).0

    kept : KeepsNetwork begun w'
    kept = keeps p next next number w draws done w' is.news.pace world world' is.news.measured measured' acts dead

    -- ---- the others

    -- one that lives stands elsewhere
    lives_apart : (place : ℕ) (station : Station) → slice_get w.stations place ≡ Some station → station.live ≡ true
        → place ≢ k.place
    lives_apart place station here live same =
        let one : station ≡ k.station =
        same_there w.stations k.place station k.station (ap (slice_get w.stations) (sym same) ∙ here) k.is.here in
        let off : station.live ≡ false = ap (λ (x : Station). x.live) one ∙ dead in
        let both : true ≡ false = sym live ∙ off in
        cc

    stands_then : (place : ℕ) (station : Station) → slice_get w.stations place ≡ Some station
        → station.live ≡ true → slice_get begun.stations place ≡ Some station
    stands_then place station here live =
        get-set_other w.stations k.place place new (lives_apart place station here live) ∙ here

    -- it isn't the one that recovers
    other_clock : (place : ℕ) (station : Station) → slice_get w.stations place ≡ Some station → station.live ≡ true
        → clock station.system ≢ number
    other_clock place station here live same =
        lives_apart place station here live
        (world.sound.wired.clocks place k.place station k.station here k.is.here (same ∙ sym k.is.named))

    seen_before : (j : ℕ) → j ≢ k.place → (s : SeenStation) → slice_get (view w').stations j ≡ Some s
        → slice_get (view w).stations j ≡ Some s
    seen_before j apart s at =
        let (station, here, same) =
        mapped station_view begun.stations j s (ap (λ xs. slice_get xs j) (sym raised.stations) ∙ at) in
        mapped_there station_view w.stations j station
        (sym (get-set_other w.stations k.place j new apart) ∙ here)
        ∙ ap (λ x. Some x) same

    -- ---- a link of others

    module _ (at : LinkPlace) (l : IsLinkOf at w) where
      asking_then : IsEndOf at.asking (sender at.direction l.channel) begun
      asking_then = record {
        station = l.asking.station;
        state = l.asking.state;
        here = stands_then at.asking l.asking.station l.asking.here l.asking.live;
        live = l.asking.live;
        set_up = l.asking.set_up;
        named = l.asking.named;
        there = l.asking.there;
        measures = l.asking.measures;
      }

      answering_then : IsEndOf at.answering (receiver at.direction l.channel) begun
      answering_then = record {
        station = l.answering.station;
        state = l.answering.state;
        here = stands_then at.answering l.answering.station l.answering.here l.answering.live;
        live = l.answering.live;
        set_up = l.answering.set_up;
        named = l.answering.named;
        there = l.answering.there;
        measures = l.answering.measures;
      }

      begun_parts : HasSameParts at w begun l
      unfolding asking_then answering_then
      begun_parts = record {
        after = record {
          channel = l.channel;
          here = l.here;
          up = l.up;
          lossless = l.lossless;
          asking = asking_then;
          answering = answering_then;
          apart = l.apart;
          good = l.good;
          fit = l.fit;
        };
        settled = refl;
        asking = refl;
        answering = refl;
        setup = refl;
        bounds = refl;
        begins = λ direction. refl;
      }

      other_ends : (direction : Direction) → (sender direction l.channel).clock ≢ number
      other_ends =
          both_ways (λ direction. (sender direction l.channel).clock ≢ number) at.direction
          (λ same. other_clock at.asking l.asking.station l.asking.here l.asking.live (l.asking.named ∙ same))
          (λ same. other_clock at.answering l.answering.station l.answering.here l.answering.live
          (l.answering.named ∙ ap (λ (q : PortId). q.clock) (sym (sender_opposite at.direction l.channel)) ∙ same))

      whole : HasSameParts at w w' l
      unfolding begun_parts
      whole = parts_on at w begun w' l begun_parts (raised.parts at begun_parts.after other_ends)

      same_link : IsSameLink at w w' l
      same_link =
          seen_same at w w' l whole raised.time (λ direction.
          raised.lanes (lane_place at.link direction) (lane_view direction whole.after.channel)
          (lane_there w'.net.channels at.link direction whole.after.channel whole.after.here) (λ same.
          other_ends direction (ap (λ (q : PortId). q.clock) (sym (whole.begins direction)) ∙ same)))

    stood : (at : LinkPlace) → LinkStandsAt at w' → LinkStandsAt at w
    stood =
        stood_alone p next next number w draws done w' is.news.pace world world' is.news.measured measured' acts dead
        (none_stands number w' unused)

    -- what is heard is heard still
    heard_still : (at : LinkPlace) → IsHeardAt p start at w → IsHeardAt p next at w'
    heard_still at (inl (first, x)) =
        inl (first, told_same first start next at w w' ahead (same_link at) (same_link (opposite at)) x)
    heard_still at (inr stays) =
        heard_elsewhere p start next at (Recover number) w draws done w' world is.news.measured tt acts raised.time
        (inr stays) (stays_on p at w world stays)

    heard_then : AreHeard p next w'
    heard_then at stands = heard_still at (is.heard at (stood at stands))

    -- ---- the network

    clock_on : (c : ℕ) → stations_have_clock (live_stations w.stations) c ≡ true
        → stations_have_clock (live_stations begun.stations) c ≡ true
    clock_on c has_clock =
        let (s, member, same) = clock_lives w.stations c has_clock in
        let at = live_from w.stations s member in
        clock_has begun.stations at.place at.station c (stands_then at.place at.station at.here at.live) at.live
        (ap clock_in (sym at.is) ∙ same)

    clock_back : (c : ℕ) → c ≢ number → stations_have_clock (live_stations begun.stations) c ≡ true
        → stations_have_clock (live_stations w.stations) c ≡ true
    clock_back c other has_clock =
        let (s, member, same) = clock_lives begun.stations c has_clock in
        let at = live_from begun.stations s member in
        let named : clock at.station.system ≡ c = ap clock_in (sym at.is) ∙ same in
        elim (same_place at.place k.place) [
          | inl here ↦
              let one : at.station ≡ new =
              same_Some at.station new (sym at.here ∙ ap (slice_get begun.stations) here ∙ here_new) in
              absurd (other (sym named ∙ ap (λ (x : Station). clock x.system) one ∙ number_new))
          | inr apart ↦
              clock_has w.stations at.place at.station c
              (sym (get-set_other w.stations k.place at.place new apart) ∙ at.here) at.live named
        ]

    used_on : (channel : Channel) → channel_is_used (live_stations w.stations) channel ≡ true
        → channel_is_used (live_stations begun.stations) channel ≡ true
    used_on channel =
        used_where w.stations begun.stations channel (λ direction. clock_on (sender direction channel).clock)

    -- a link in use then is one of others
    used_apart : (link : ℕ) (channel : Channel) → slice_get w.net.channels link ≡ Some channel
        → channel_is_used (live_stations begun.stations) channel ≡ true → (direction : Direction)
        → (sender direction channel).clock ≢ number
    used_apart link channel here used direction same =
        let (x, there, bares) = alike bare bare w'.net.channels begun.net.channels kept.links link channel here in
        let used_then : channel_is_used (live_stations w'.stations) x ≡ true =
        ap (channel_is_used (live_stations w'.stations)) bares ∙ ap (λ s. channel_is_used s channel) kept.systems
        ∙ used in
        unused link x there used_then direction
        (ap (λ (q : PortId). q.clock)
        (sender_same direction channel x (ap (λ (c : Channel). c.a) bares) (ap (λ (c : Channel). c.b) bares)) ∙ same)

    used_back : (link : ℕ) (channel : Channel) → slice_get w.net.channels link ≡ Some channel
        → channel_is_used (live_stations begun.stations) channel ≡ true
        → channel_is_used (live_stations w.stations) channel ≡ true
    used_back link channel here used =
        used_where begun.stations w.stations channel
        (λ direction. clock_back (sender direction channel).clock (used_apart link channel here used direction)) used

    news_of : HasNews (snapshot_of w) (snapshot_of begun)
    news_of = record {
      systems = λ s member.
          let (t, there, same) = still s member in
          let identity = ap (λ (x : System). x.identity) same in
          (t, there, ap clock_in same, omega (arith, identity));
      links = links_more w begun (λ s member. let (t, there, same) = still s member in (t, there, ap clock_in same))
          (λ link channel here. record { new = channel; here = here; a = refl; b = refl; up = λ on. on });
    }
      where
        still : (s : System) → In s (live_stations w.stations)
            → (t : System) × In t (live_stations begun.stations) × (t ≡ s)
        still s member =
            let at = live_from w.stations s member in (
              standing_system at.station,
              live_there begun.stations at.place at.station (stands_then at.place at.station at.here at.live) at.live,
              sym at.is,
            )

    delay_more : delay_in w ≤ delay_in begun
    delay_more =
        used_within (live_stations w.stations) w.net.channels (delay_in begun) (λ link channel here used.
        delay_of_used (live_stations begun.stations) w.net.channels link channel here (used_on channel used))

    quiet_before : HaveQuietLinks p.params w' → HaveQuietLinks p.params w
    quiet_before quiet link channel here used =
        links_quiet w' begun (kept_back begun w' kept) p.params quiet link channel here (used_on channel used)

    module _ (news' : IsNews p next w') (m : ℕ) (bounded' : BoundsPaths (snapshot_of w') m)
        (quiet' : HaveQuietLinks p.params w') (off : NothingLapses p.params) where
      abbrev n : Network
      n = start_network p m start w

      abbrev n_v : Network
      n_v = start_network p m next begun

      same_net : start_network p m next w' ≡ n_v
      same_net = same_start p m next begun w' kept

      bounded_v : BoundsPaths (snapshot_of begun) m
      bounded_v = subst (λ (x : Network). BoundsPaths x.graph m) same_net bounded'

      bounded : BoundsPaths (snapshot_of w) m
      bounded v u us path =
          bounded_v v u us (path_on (snapshot_of w) (snapshot_of begun) news_of v u us path)

      quiet : HaveQuietLinks p.params w
      quiet = quiet_before quiet'

      net : IsSettlingNetwork n
      net = start_net p m start w world bounded

      net_v : IsSettlingNetwork n_v
      net_v = subst IsSettlingNetwork same_net (start_net p m next w' world' bounded')

      calm_before : Calm n (view w)
      calm_before = start_calm p start w (standing is.news) is.heard quiet m

      calm_then : Calm n_v (view w')
      calm_then = subst (λ x. Calm x (view w')) same_net (start_calm p next w' (standing news') heard_then quiet' m)

      invariant : Invariant says_announce n (view w)
      invariant = is.settling m bounded quiet off

      places : (c : ℕ) → clock_place begun.stations c ≡ clock_place w.stations c
      places = places_kept w.stations k.place old new starts.here named_new

      logs : (q : PortIdentity) → log_of begun.stations q ≡ log_of w.stations q
      logs q =
          (λ i. option_map_or (λ setup. log_at setup q.port)
          (slice_get (setups_of begun.stations) (places q.clock i)) (pos 0))
          ∙ logs_set w.stations k.place old new starts.here (λ at. refl) (clock_place w.stations q.clock) q.port

      wired : SameWiring n n_v
      wired = record {
        place = places;
        lane = λ q. refl;
        log = logs;
        interval = λ q. ap interval_of (logs q);
      }

      later_since : (d : ℕ) → since n (suc d) ≤ since n_v (suc d)
      later_since d =
          let more : suc d * delay_in w ≤ suc d * delay_in begun =
          mul-le-mul_left (suc d) delay_more in
          omega (arith, more, ahead)

      always : ClaimsAlways n
      always = record { claimed = λ d pp v. refl; until = λ d pp v. refl; sound = refl }

      -- a live system stands at another place
      place_apart : (c : ℕ) → stations_have_clock (live_stations w.stations) c ≡ true
          → clock_place w.stations c ≢ k.place
      place_apart c has_clock same =
          let (s, member, named) = clock_lives w.stations c has_clock in
          let at = live_from w.stations s member in
          let clock_is : clock at.station.system ≡ c = ap clock_in (sym at.is) ∙ named in
          lives_apart at.place at.station at.here at.live
          (place_is w world.sound.wired.clocks at.place at.station at.here ∙ ap (clock_place w.stations) clock_is
          ∙ same)

      module _ (d : ℕ) (best : System) (v pp u q : ℕ) (near : d < 255)
          (leads : LeadsFarther n_v.graph d best v pp u q) where
        abbrev from_port : PortIdentity
        from_port = port_of v (suc pp)

        abbrev to_port : PortIdentity
        to_port = port_of u (suc q)

        way : IsWay begun from_port to_port
        way = way_of begun from_port to_port leads.joins

        used_before : channel_is_used (live_stations w.stations) way.channel ≡ true
        used_before = used_back way.link way.channel way.here way.used

        joins : Joins (snapshot_of w) from_port to_port
        joins =
            subst (λ x. Joins (snapshot_of w) x to_port) way.from
            (subst (λ x. Joins (snapshot_of w) (port_identity_number (sender way.direction way.channel)) x) way.to
            (used_joins w way.link way.direction way.channel way.here used_before))

        v_is : (sender way.direction way.channel).clock ≡ v
        v_is = ap (λ (x : PortIdentity). x.clock) way.from

        u_is : (sender (other_direction way.direction) way.channel).clock ≡ u
        u_is =
            ap (λ (x : PortId). x.clock) (sender_opposite way.direction way.channel)
            ∙ ap (λ (x : PortIdentity). x.clock) way.to

        stands_apart : (direction : Direction) (c : ℕ) → (sender direction way.channel).clock ≡ c
            → clock_place w.stations c ≢ k.place
        stands_apart direction c same =
            place_apart c
            (subst (λ x. stations_have_clock (live_stations w.stations) x ≡ true) same
            (sender_lives (live_stations w.stations) direction way.channel used_before))

        stood_so : StandsAsBefore n (view w) (view w') v pp u
        stood_so = record {
          teller = λ s at. seen_before (clock_place w.stations v) (stands_apart way.direction v v_is) s at;
          hearer = λ s at.
              seen_before (clock_place w.stations u) (stands_apart (other_direction way.direction) u u_is) s at;
          lane = λ l at.
              let has_lane = calm_then.lanes from_port to_port leads.joins in
              let one : l ≡ has_lane.lane = same_Some l has_lane.lane (sym at ∙ has_lane.there) in
              raised.lanes (lane_of w.net.channels from_port) l at (λ same.
              used_apart way.link way.channel way.here way.used way.direction
              (v_is ∙ ap (λ (x : PortIdentity). x.clock) (sym has_lane.from)
              ∙ ap (λ (x : Lane). x.from.clock) (sym one)
              ∙ same));
        }

        stage : LinkSettles says_announce (wiring n_v d best v pp u q) (view w')
        stage =
            stage_kept says_announce n n_v net net_v (view w) (view w') calm_before invariant always news_of wired
            later_since v pp u q joins stood_so d best near leads

      then_invariant : Invariant says_announce (start_network p m next w') (view w')
      then_invariant =
          subst (λ x. Invariant says_announce x (view w')) (sym same_net)
          (record {
            sound = λ late.
                received_fits says_announce (snapshot_of begun) (view w') net_v.graph
                (subst (λ (x : Network). IsSoundOnLinks says_announce x.graph (view w')) same_net
                (on_links says_announce (snapshot_of w') (view w') news'.sound));
            levels = λ d best v pp u q near leads. stage d best v pp u q near leads;
          })

    pub recovered_claimed : IsNews p next w' → IsClaimedAlways p next w'
    recovered_claimed news' = record {
      news = news';
      heard = heard_then;
      settling = λ m bounded quiet off. then_invariant news' m bounded quiet off;
    }
