-- A system fails that is the far end of each of its links, and no system is moved: what is left stands as it did, and
-- all that is held and in flight fits the snapshot of before.
use Rattle.std.proofs.Common.{◌≡◌, ◌≢◌, ◌⊎◌, ◌≤◌, ◌<◌, ◌+◌, ◌*◌, ℕ, suc, pred, pos, true, false, List, Some, slice_get, slice_set, refl, sym, ap, subst, ◌∙◌, inl, inr, arith}
use Rattle.std.specs.Option.{option_map_or}
use Rattle.std.proofs.lemmas.Option.{same_Some}
use Rattle.gptp_lists.specs.Members.{In}
use Rattle.gptp_lists.proofs.MappedLemmas.{same_there}
use Rattle.gptp_lists.proofs.PlaceLemmas.{get-set_other, get-set_same, map-set_same, same_place}
use Rattle.gptp_graph.specs.Distance.{IsDistance}
use Rattle.gptp_graph.specs.PathBound.{path_bound}
use Rattle.gptp_graph.specs.Snapshot.{IsWellFormed, Joins, PortIdentity, Snapshot, System, clocks, port_of}
use Rattle.gptp_graph.proofs.LinkLemmas.{Joins-clock, Joins-sym}
use Rattle.gptp_graph.proofs.SystemLemmas.{In-clocks, same_clock, system_of}
use Rattle.gptp_links.specs.Fate.{Draw}
use Rattle.gptp_scenario.specs.Params.{KeepPace}
use Rattle.gptp_scenario.specs.SettlingTime.{silence_span}
use Rattle.gptp_scenario.specs.declared.change.Act.TheVariants.{Change as Changing}
use Rattle.gptp_scenario.specs.declared.change.Change.TheVariants.{Fail}
use Rattle.gptp_setup.specs.Intervals.{interval_of}
use Rattle.gptp_setup.specs.SettlingParams.{SettlingParams}
use Rattle.gptp_setup.specs.declared.setup.Setup.{Setup}
use Rattle.gptp_system.specs.State.{clock}
use Rattle.gptp_model.specs.Acts.{Acts, AtSystem}
use Rattle.gptp_model.specs.Changing.{FailsIf, failed}
use Rattle.gptp_model.specs.declared.done.Done.{Done}
use Rattle.gptp_model.specs.declared.station.Station.{Station}
use Rattle.gptp_model.specs.World.{Channel, WorldState, receiver, sender}
use Rattle.gptp_bmca_machine.specs.Clean.{CameSound}
use Rattle.gptp_bmca_machine.specs.CutTree.{LosesSystem}
use Rattle.gptp_bmca_machine.specs.Network.{Network}
use Rattle.gptp_bmca_machine.specs.RestLaws.{SameWiring}
use Rattle.gptp_bmca_machine.specs.SoundLaws.{AllAreNear}
use Rattle.gptp_bmca_machine.specs.Station.{Station as SeenStation}
use Rattle.gptp_invariants.specs.ChoiceCalm.{HaveQuietLinks, IsQuietLink, clock_place, delay_in, lane_of, log_at, log_of, setups_of}
use Rattle.gptp_invariants.specs.ChoiceSettlesAsMachine.{IsWorld}
use Rattle.gptp_invariants.specs.ChoiceView.{lanes_view, port_identity_number, says_announce, view}
use Rattle.gptp_invariants.specs.DelayElsewhere.{IsOtherSystem}
use Rattle.gptp_invariants.specs.DelayFirstAt.{IsFirstAt}
use Rattle.gptp_invariants.specs.DelayLinkView.{LinkPlace, pair}
use Rattle.gptp_invariants.specs.DelayMeasured.{LinkIsMeasured, LinkStandsAt, StationIsLiveAt}
use Rattle.gptp_invariants.specs.FailedUnanswered.{IsFailedAmong, IsLastAnswered, IsUnansweredAt, StandsUnanswered, silent_view}
use Rattle.gptp_invariants.specs.WorldNews.{AreReadyBy, AreSilentBy, IsSilentBy}
use Rattle.gptp_invariants.specs.WorldSound.{IsSoundWorld}
use Rattle.gptp_invariants.specs.WorldStanding.{channel_is_used, live_stations, snapshot_of, standing_system}
use Rattle.gptp_invariants.proofs.ChoicePlaceLemmas.{station_from, station_there}
use Rattle.gptp_invariants.proofs.DelayClaimedCapableLemmas.{clock_has, used_if}
use Rattle.gptp_invariants.proofs.DelayLinkLemmas.{good_between}
use Rattle.gptp_invariants.proofs.WorldNewsLemmas.{ready_goes_through}
use Rattle.gptp_invariants.proofs.WorldSoundCallLemmas.{links_more}
use Rattle.gptp_invariants.proofs.WorldStandsLemmas.{stands_well, used_up}
use Rattle.gptp_invariants.proofs.WorldSystemLemmas.{clock_there, live_from, live_there}
use Rattle.gptp_invariants.proofs.WorldWayLemmas.{used_joins, way_of}
use Rattle.gptp_invariants.proofs.ChoiceCalmKeptLemmas.{places_kept}
use Rattle.gptp_invariants.proofs.ChoiceCalmFactLemmas.{used_is}
use Rattle.gptp_settling_time.specs.Losses.{IsFarEnd, IsUnmoved, IsUnmovedOrCutOff}
use Rattle.gptp_settling_time.proofs.BegunLeftLemmas.{begins_left}
use Rattle.gptp_settling_time.proofs.AlwaysClaimedLemmas.{IsStanding, start_network}
use Rattle.gptp_settling_time.proofs.FitsLemmas.{IsLeftUnmoved, UnlinkedHoldNothing, lived}
use Rattle.gptp_settling_time.proofs.FarEndLemmas.{HasAllBut, cut_unmoved}
use Rattle.gptp_settling_time.proofs.LeftClaimedLemmas.{HaveAskedLong, IsLeftAlways, left_network}
use Rattle.gptp_settling_time.proofs.ReducedLemmas.{IsReduced, reduced_itself}
use Rattle.gptp_settling_time.proofs.ReplyDueLemmas.{last_begins, last_begins_seen}
use Rattle.gptp_settling_time.proofs.SettledSeenLemmas.{IsSettledSeen, sound_fits, wired_as}
use Rattle.gptp_settling_time.proofs.UnlinkedLemmas.{LostAreFarther, far_holds_none}
use Rattle.gptp_settling_time.proofs.WidenedLemmas.{ready_first}

module _ (p : SettlingParams) (number : ℕ) (w : WorldState) (draws : List Draw) (done : Done) (w' : WorldState)
    (is : IsWorld p w) (is' : IsWorld p w') (acts : Acts (Changing (Fail number)) w draws done w') where
  abbrev now : WorldState
  now = record w { last_change = w.time }

  abbrev k : AtSystem number now (λ place station. FailsIf station.live place station now draws w')
  k = acts.1

  abbrev g : Snapshot
  g = snapshot_of w

  abbrev g' : Snapshot
  g' = snapshot_of w'

  pub well : IsWellFormed g
  well = stands_well w is.sound is.between is.encodable

  pub well' : IsWellFormed g'
  well' = stands_well w' is'.sound is'.between is'.encodable

  module _ (lives : k.station.live ≡ true) where
    abbrev dead : Station
    dead = record k.station { live = false }

    same : w' ≡ failed k.place k.station now
    same = (subst (λ live. FailsIf live k.place k.station now draws w') lives k.so).1

    stations_now : w'.stations ≡ slice_set w.stations k.place dead
    stations_now = ap (λ (v : WorldState). v.stations) same

    pub channels_now : w'.net.channels ≡ w.net.channels
    channels_now = ap (λ (v : WorldState). v.net.channels) same

    pub time_now : w'.time ≡ w.time
    time_now = ap (λ (v : WorldState). v.time) same

    -- ---- systems

    -- one that lives then is another, and is as it was
    pub record IsAsItWas (place : ℕ) (x : Station) : Type 0 where
      pub here : slice_get w.stations place ≡ Some x
      pub apart : place ≢ k.place

    pub stood : (place : ℕ) (x : Station) → slice_get w'.stations place ≡ Some x → x.live ≡ true → IsAsItWas place x
    stood place x there live =
        let set : slice_get (slice_set w.stations k.place dead) place ≡ Some x =
        ap (λ xs. slice_get xs place) (sym stations_now) ∙ there in
        elim (same_place place k.place) [
          | inl at ↦
              let one : x ≡ dead =
              same_Some x dead
              (sym set ∙ ap (slice_get (slice_set w.stations k.place dead)) at
              ∙ get-set_same w.stations k.place k.station dead k.is.here) in
              absurd (let both : true ≡ false = sym live ∙ ap (λ (y : Station). y.live) one in cc)
          | inr apart ↦ record {
            here = sym (get-set_other w.stations k.place place dead apart) ∙ set;
            apart = apart;
          }
        ]

    pub stays : (place : ℕ) (x : Station) → slice_get w.stations place ≡ Some x → place ≢ k.place
        → slice_get w'.stations place ≡ Some x
    stays place x there apart =
        ap (λ xs. slice_get xs place) stations_now ∙ get-set_other w.stations k.place place dead apart ∙ there

    pub systems_before : (s : System) → In s g'.systems → In s g.systems
    systems_before s member =
        let at = live_from w'.stations s member in
        let old = stood at.place at.station at.here at.live in
        subst (λ x. In x (live_stations w.stations)) (sym at.is)
        (live_there w.stations at.place at.station old.here at.live)

    -- one of before is the one that fails, or lives still
    pub lives_still : (v : ℕ) → In v (clocks g) → (v ≡ number) ⊎ In v (clocks g')
    lives_still v known =
        let (s, member, named) = system_of g v known in
        let at = live_from w.stations s member in
        let clock_is : clock at.station.system ≡ v = ap (λ (x : System). x.clock) (sym at.is) ∙ named in
        elim (same_place at.place k.place) [
          | inl here ↦
              let one = same_there w.stations k.place at.station k.station
              (ap (slice_get w.stations) (sym here) ∙ at.here) k.is.here in
              inl (sym clock_is ∙ ap (λ (x : Station). clock x.system) one ∙ k.is.named)
          | inr apart ↦
              inr (subst (λ c. In c (clocks g')) clock_is
              (In-clocks g' (standing_system at.station)
              (live_there w'.stations at.place at.station (stays at.place at.station at.here apart) at.live)))
        ]

    -- ---- links

    pub links_before : (a b : PortIdentity) → Joins g' a b → Joins g a b
    links_before =
        links_more w' w (λ s member. (s, systems_before s member, refl))
        (λ link channel there. record {
          new = channel;
          here = ap (λ cs. slice_get cs link) (sym channels_now) ∙ there;
          a = refl;
          b = refl;
          up = λ on. on;
        })

    -- a link between two that live still is
    pub links_still : (a b : PortIdentity) → Joins g a b → In a.clock (clocks g') → In b.clock (clocks g')
        → Joins g' a b
    links_still a b joins from to =
        let way = way_of w a b joins in
        let systems = live_stations w'.stations in
        let used = used_is systems way.direction way.channel
        (used_up (live_stations w.stations) way.channel way.used)
        (clock_there systems (sender way.direction way.channel).clock
        (subst (λ (q : PortIdentity). In q.clock (clocks g')) (sym way.from) from))
        (clock_there systems (receiver way.direction way.channel).clock
        (subst (λ (q : PortIdentity). In q.clock (clocks g')) (sym way.to) to)) in
        subst (λ x. Joins g' x b) way.from
        (subst (λ x. Joins g' (port_identity_number (sender way.direction way.channel)) x) way.to
        (used_joins w' way.link way.direction way.channel (ap (λ cs. slice_get cs way.link) channels_now ∙ way.here)
        used))

    stood_at : (place clock_is : ℕ) → StationIsLiveAt place clock_is w' → StationIsLiveAt place clock_is w
    stood_at place clock_is x = record {
      station = x.station;
      here = (stood place x.station x.here x.live).here;
      live = x.live;
      named = x.named;
    }

    pub stood_link : (at : LinkPlace) → LinkStandsAt at w' → LinkStandsAt at w
    unfolding stood_at
    stood_link at s = record {
      channel = s.channel;
      here = ap (λ cs. slice_get cs at.link) (sym channels_now) ∙ s.here;
      up = s.up;
      lossless = s.lossless;
      asking = stood_at at.asking (sender at.direction s.channel).clock s.asking;
      answering = stood_at at.answering (receiver at.direction s.channel).clock s.answering;
      apart = s.apart;
      good = s.good;
    }

    -- the system is at neither end of a link that stands then
    pub elsewhere : (at : LinkPlace) → LinkStandsAt at w' → IsOtherSystem at number w
    elsewhere at s place station named =
        let one = is.sound.wired.clocks place k.place station k.station named.here k.is.here
        (named.named ∙ sym k.is.named) in (
          λ same. (stood at.asking s.asking.station s.asking.here s.asking.live).apart (sym same ∙ one),
          λ same. (stood at.answering s.answering.station s.answering.here s.answering.live).apart (sym same ∙ one),
        )

    -- ---- ports beside failed systems

    changed : w'.last_change ≡ w'.time
    changed = ap (λ (v : WorldState). v.last_change) same ∙ sym time_now

    module _ (at : LinkPlace) (s : StandsUnanswered at w') where
      pub asked : IsAsItWas at.asking s.asking.station
      asked = stood at.asking s.asking.station s.asking.here s.asking.live

      pub here_before : slice_get w.net.channels at.link ≡ Some s.channel
      here_before = ap (λ cs. slice_get cs at.link) (sym channels_now) ∙ s.here

      -- beside one that had failed before they stay as they are
      module _ (other : at.answering ≢ k.place) where
        pub stood_beside : StandsUnanswered at w
        stood_beside = record {
          channel = s.channel;
          here = here_before;
          up = s.up;
          asking = record {
            station = s.asking.station;
            here = asked.here;
            live = s.asking.live;
            named = s.asking.named;
          };
          answering = record {
            station = s.answering.station;
            here = sym (get-set_other w.stations k.place at.answering dead other)
                ∙ ap (λ xs. slice_get xs at.answering) (sym stations_now) ∙ s.answering.here;
            failed = s.answering.failed;
            named = s.answering.named;
          };
        }

        abbrev pub beside : IsUnansweredAt at w → IsUnansweredAt at w'
        beside l = record {
          channel = l.channel;
          here = ap (λ cs. slice_get cs at.link) channels_now ∙ l.here;
          up = l.up;
          asking = record {
            station = l.asking.station;
            state = l.asking.state;
            here = stays at.asking l.asking.station l.asking.here asked.apart;
            live = l.asking.live;
            set_up = l.asking.set_up;
            named = l.asking.named;
            there = l.asking.there;
            measures = l.asking.measures;
          };
          answering = record {
            station = l.answering.station;
            here = stays at.answering l.answering.station l.answering.here other;
            failed = l.answering.failed;
            named = l.answering.named;
          };
        }

        pub silent_still : (next later : ℕ) → next ≤ later → IsSilentBy p next at w → IsSilentBy p later at w'
        silent_still next later less (inl off) =
            inl (record { link = beside off.link; mute = off.mute; off = off.off })
        silent_still next later less (inr (sent, last, soon)) =
            inr (
              sent,
              record {
                link = beside last.link;
                replies = last.replies;
                inv = record { lost = last.inv.lost; counts = last.inv.counts };
              },
              omega (arith, soon, less),
            )

      -- beside the one that fails the last request is the last that is answered
      module _ (own : at.answering ≡ k.place) (quiet : HaveQuietLinks p.params w) where
        answered : slice_get w.stations at.answering ≡ Some k.station
        answered = ap (slice_get w.stations) own ∙ k.is.here

        answers : clock k.station.system ≡ (receiver at.direction s.channel).clock
        answers =
            let set : slice_get (slice_set w.stations k.place dead) k.place ≡ Some s.answering.station =
            ap (λ xs. slice_get xs k.place) (sym stations_now) ∙ ap (slice_get w'.stations) (sym own)
            ∙ s.answering.here in
            let one : dead ≡ s.answering.station =
            same_Some dead s.answering.station
            (sym (get-set_same w.stations k.place k.station dead k.is.here) ∙ set) in
            ap (λ (x : Station). clock x.system) one ∙ s.answering.named

        -- its link was in use
        pub link_used : channel_is_used (live_stations w.stations) s.channel ≡ true
        link_used =
            used_if w.stations at.direction s.channel s.up
            (clock_has w.stations at.asking s.asking.station _ asked.here s.asking.live s.asking.named)
            (clock_has w.stations at.answering k.station _ answered lives answers)

        links : IsQuietLink p.params s.channel
        links = quiet at.link s.channel here_before link_used

        pub stood_good : LinkStandsAt at w
        stood_good = record {
          channel = s.channel;
          here = here_before;
          up = s.up;
          lossless = links.lossless;
          asking = record {
            station = s.asking.station;
            here = asked.here;
            live = s.asking.live;
            named = s.asking.named;
          };
          answering = record { station = k.station; here = answered; live = lives; named = answers };
          apart = λ both. asked.apart (both ∙ own);
          good = good_between s.channel.bounds.max p.params s.asking.station.setup.params k.station.setup.params
              (is.known.set at.asking s.asking.station asked.here).starts.params
              (is.known.set at.answering k.station answered).starts.params links.good;
        }

        pub last_still : (first : ℕ) (x : IsFirstAt first at w) → IsLastAnswered (pair at w x.link).asker.asked at w'
        last_still first x =
            last_begins p w w' is' changed first at x
            (ap (λ cs. slice_get cs at.link) channels_now ∙ x.link.here)
            (stays at.asking x.link.asking.station x.link.asking.here asked.apart)
            (subst (λ (c : Channel). IsFailedAmong at.answering (receiver at.direction c).clock w'.stations)
            (same_there w.net.channels at.link s.channel x.link.channel here_before x.link.here) s.answering)

        -- the port is seen to ask as it did
        pub last_still_seen : (first : ℕ) (x : IsFirstAt first at w)
            → (silent_view at w' (last_still first x).link).asker ≡ (pair at w x.link).asker
        unfolding last_still
        last_still_seen first x =
            last_begins_seen p w w' is' changed first at x
            (ap (λ cs. slice_get cs at.link) channels_now ∙ x.link.here)
            (stays at.asking x.link.asking.station x.link.asking.here asked.apart)
            (subst (λ (c : Channel). IsFailedAmong at.answering (receiver at.direction c).clock w'.stations)
            (same_there w.net.channels at.link s.channel x.link.channel here_before x.link.here) s.answering)

    -- ports beside it aren't capable once too many requests are lost; others beside failed systems stay as they are
    pub silent_then : (next earlier silent : ℕ) → next ≤ w.time → earlier ≤ silent → AreReadyBy p next w
        → HaveQuietLinks p.params w → AreSilentBy p earlier w → w.time + silence_span p < silent
        → AreSilentBy p silent w'
    silent_then next earlier silent past sooner ready quiet before long at s = elim (same_place at.answering k.place) [
      | inl own ↦
          let (first, by) = ready_first p next w is past at (ready at (stood_good at s own quiet)) in
          let asked_by = by.0.facts.asked in
          inr ((pair at w by.0.link).asker.asked, last_still at s own quiet first by.0, omega (arith, asked_by, long))
      | inr other ↦
          silent_still at s other earlier silent sooner (before at (stood_beside at s other))
    ]

    -- what is left is all but the system and its links
    pub all_but : HasAllBut g g' number
    all_but = record {
      systems = λ s member apart. elim (lives_still s.clock (In-clocks g s member)) [
        | inl same ↦ absurd (apart same)
        | inr still ↦
            let (t, there, named) = system_of g' s.clock still in
            subst (λ y. In y g'.systems) (same_clock g t s well (systems_before t there) member named) there
      ];
      links = λ a b joins from to.
          links_still a b joins (still_lives a b joins from)
          (still_lives b a (Joins-sym g a b joins) to);
    }
      where
        still_lives : (a b : PortIdentity) → Joins g a b → a.clock ≢ number → In a.clock (clocks g')
        still_lives a b joins apart = elim (lives_still a.clock (Joins-clock g a b well joins)) [
          | inl same ↦ absurd (apart same)
          | inr still ↦ still
        ]

    -- it is gone, and no link is at it any more
    not_left : In number (clocks g') → ⊥
    not_left known =
        let (s, member, named) = system_of g' number known in
        let at = live_from w'.stations s member in
        let old = stood at.place at.station at.here at.live in
        let clock_is : clock at.station.system ≡ number = ap (λ (x : System). x.clock) (sym at.is) ∙ named in
        old.apart (is.sound.wired.clocks at.place k.place at.station k.station old.here k.is.here
        (clock_is ∙ sym k.is.named))

    pub none_joined : (a b : PortIdentity) → Joins g' a b → a.clock ≢ number
    none_joined a b joins same = not_left (subst (λ c. In c (clocks g')) same (Joins-clock g' a b well' joins))

    -- so it is of each network that has what is left
    pub loses_it : (n : Network) → n.graph ≡ g' → LosesSystem g n number
    loses_it n graph = record {
      dead = λ known. not_left (subst (λ h. In number (clocks h)) graph known);
      systems = λ s member. systems_before s (subst (λ (h : Snapshot). In s h.systems) graph member);
      others = λ v known. elim (lives_still v known) [
        | inl is_it ↦ inr is_it
        | inr still ↦ inl (subst (λ h. In v (clocks h)) (sym graph) still)
      ];
      links = λ a b joins from to.
          subst (λ h. Joins h a b) (sym graph)
          (links_still a b joins (subst (λ h. In a.clock (clocks h)) graph from)
          (subst (λ h. In b.clock (clocks h)) graph to));
    }

    -- ---- as the machine sees it

    pub lanes_now : (view w').lanes ≡ (view w).lanes
    lanes_now = ap lanes_view channels_now

    pub stood_seen : (i : ℕ) (s : SeenStation) → slice_get (view w').stations i ≡ Some s → s.live ≡ true
        → slice_get (view w).stations i ≡ Some s
    stood_seen i s there live =
        let x = station_from w'.stations i s there in
        let old = stood i x.station x.here (subst (λ (y : SeenStation). y.live ≡ true) x.is live) in
        station_there w.stations i x.station old.here ∙ ap (λ y. Some y) (sym x.is)

    pub less : IsReduced (view w) (view w')
    less = record {
      time = time_now;
      stations = λ i s there live. (s, stood_seen i s there live, reduced_itself s);
      lanes = λ j l there. inl (ap (λ ls. slice_get ls j) (sym lanes_now) ∙ there);
    }

    pub known_then : (i : ℕ) (s : SeenStation) → slice_get (view w').stations i ≡ Some s → s.live ≡ true
        → In s.clock (clocks g')
    known_then i s there live =
        let x = station_from w'.stations i s there in
        subst (λ (y : SeenStation). In y.clock (clocks g')) (sym x.is)
        (In-clocks g' (standing_system x.station)
        (live_there w'.stations i x.station x.here (subst (λ (y : SeenStation). y.live ≡ true) x.is live)))

    -- ---- the claims

    log_kept : (q : PortIdentity) → log_of w'.stations q ≡ log_of w.stations q
    log_kept q =
        let setups : setups_of w'.stations ≡ setups_of w.stations =
        ap setups_of stations_now
        ∙ map-set_same (λ (x : Station). x.setup) w.stations k.place k.station dead k.is.here refl in
        ap (λ xs. option_map_or (λ (setup : Setup). log_at setup q.port)
        (slice_get xs (clock_place w'.stations q.clock)) (pos 0)) setups
        ∙ ap (λ i. option_map_or (λ (setup : Setup). log_at setup q.port)
        (slice_get (setups_of w.stations) i) (pos 0)) (place_kept q.clock)
      where
        place_kept : (v : ℕ) → clock_place w'.stations v ≡ clock_place w.stations v
        place_kept v =
            ap (λ xs. clock_place xs v) stations_now
            ∙ places_kept w.stations k.place k.station dead k.is.here refl v

    -- a network of the world then has the wiring of one of before
    pub wired_on : (n : Network) → n ≡ wired_as n (start_network p 0 0 w') → SameWiring (start_network p 0 0 w) n
    wired_on n wired = record {
      place = λ v.
          ap (λ (x : Network). x.place v) wired ∙ ap (λ xs. clock_place xs v) stations_now
          ∙ places_kept w.stations k.place k.station dead k.is.here refl v;
      lane = λ q. ap (λ (x : Network). x.lane q) wired ∙ ap (λ cs. lane_of cs q) channels_now;
      log = λ q. ap (λ (x : Network). x.log_of q) wired ∙ log_kept q;
      interval = λ q. ap (λ (x : Network). x.interval_of q) wired ∙ ap interval_of (log_kept q);
    }

    module _ (seen : IsSettledSeen p w) where
      pub wires : (n : Network) → n ≡ wired_as n (start_network p 0 0 w') → SameWiring seen.n n
      wires n wired =
          let same = wired_on n wired in
          record {
            place = λ v. same.place v ∙ seen.same.place v;
            lane = λ q. same.lane q ∙ seen.same.lane q;
            log = λ q. same.log q ∙ seen.same.log q;
            interval = λ q. same.interval q ∙ seen.same.interval q;
          }

    module _ (next silent : ℕ) (pace : KeepPace p) (measured : LinkIsMeasured w) (measured' : LinkIsMeasured w')
        (past : next ≤ w.time) (ready : AreReadyBy p next w) (quiet : HaveQuietLinks p.params w)
        (silent_before : AreSilentBy p next w) (long : w.time + silence_span p < silent) where
      by_now : next ≤ w'.time
      by_now = let time = time_now in omega (arith, past, time)

      pub standing_then : IsStanding p silent w'
      standing_then = record {
        pace = pace;
        world = is';
        measured = measured';
        silent = silent_then next next silent past (omega (arith, past, long)) ready quiet silent_before long;
      }

      -- ports at links that are left are ready as they were
      pub ready_on : AreReadyBy p next w'
      ready_on at stands =
          ready_goes_through p next at (Changing (Fail number)) w w' draws done is.sound measured
          (elsewhere at stands) acts (ready at (stood_link at stands))

      pub asked_then : HaveAskedLong w'
      asked_then at stands =
          let (first, by) = ready_first p next w' is' by_now at (ready_on at stands) in
          let change : w'.last_change ≡ w.time = ap (λ (v : WorldState). v.last_change) same in
          (first, next, omega (arith, past, change), record { is = by; late = by_now })

    -- ---- it was the far end of each of its links

    module _ (seen : IsSettledSeen p w) (near : AllAreNear g) (far : IsFarEnd g number)
        (stay : (v : ℕ) → In v (clocks g') → IsUnmovedOrCutOff g g' v) (sound : IsSoundWorld w) where
      unmoved : (v : ℕ) → In v (clocks g') → IsUnmoved g g' v
      unmoved v known = elim (stay v known) [
        | inl is_so ↦ is_so
        | inr cut ↦
            cut_unmoved g g' well well' number far all_but systems_before v
            (λ same. not_left (subst (λ c. In c (clocks g')) same known)) known cut
      ]

      left : IsLeftUnmoved g g'
      left = record { systems = systems_before; links = links_before; unmoved = λ v known. inl (unmoved v known) }

      near_then : AllAreNear g'
      near_then v known =
          let (d, here, close) = near v (lived g g' well well' left v known) in
          (d, (unmoved v known).far d here, close)

      farther_then : LostAreFarther g g'
      farther_then a b joins known gone = (
        unmoved b.clock known,
        (λ d e from to. elim (lives_still a.clock (Joins-clock g a b well joins)) [
          | inl same ↦ (subst (IsFarEnd g) (sym same) far) b.clock d e (a.port, b.port, joins) from to
          | inr still ↦ absurd (gone still)
        ]),
      )

      -- at ports that no link is at any more nothing is received
      unlinked_then : UnlinkedHoldNothing g' (view w')
      unlinked_then i s place r there live none holds =
          let at = stood_seen i s there live in
          let came : CameSound g s.clock (suc place) r = sound.stations i s at live place r holds in
          let port : PortIdentity = port_of s.clock (suc place) in
          let from_known = Joins-clock g came.from port well came.joins in
          let (d, here, close) =
          near s.clock (Joins-clock g port came.from well (Joins-sym g came.from port came.joins)) in
          let (e, there_far, close_far) = near came.from.clock from_known in
          elim (lives_still came.from.clock from_known) [
            | inl same ↦
                far_holds_none says_announce seen.n seen.net (view w) seen.calm seen.invariant seen.late i s place r
                came.from d e at live holds
                (subst (λ h. Joins h port came.from) (sym seen.graph) (Joins-sym g came.from port came.joins))
                (subst (λ h. IsDistance h s.clock d) (sym seen.graph) here) close
                (subst (λ h. IsDistance h came.from.clock e) (sym seen.graph) there_far)
                ((subst (IsFarEnd g) (sym same) far) s.clock e d (came.from.port, suc place, came.joins) there_far here)
            | inr still ↦
                none (
                  came.from,
                  links_still port came.from (Joins-sym g came.from port came.joins) (known_then i s there live) still,
                )
          ]

      module _ (next silent : ℕ) (pace : KeepPace p) (measured : LinkIsMeasured w) (measured' : LinkIsMeasured w')
          (past : next ≤ w.time) (way : pred (path_bound g') * delay_in w' ≤ w'.time) (ready : AreReadyBy p next w)
          (quiet : HaveQuietLinks p.params w) (silent_before : AreSilentBy p next w)
          (long : w.time + silence_span p < silent) where
        pub failed_left : IsLeftAlways p g silent w'
        failed_left =
            begins_left p g silent w w' is' well seen less left left (wires seen (left_network p silent w') refl)
            (sound_fits p w seen sound)
            (standing_then next silent pace measured measured' past ready quiet silent_before long)
            (asked_then next silent pace measured measured' past ready quiet silent_before long)
            (λ quiet'. unlinked_then) near_then
            farther_then way
