-- A link of which an end has failed goes down, whose port takes no part: what is claimed of the world stays.
use Rattle.std.proofs.Common.{◌≡◌, ◌≢◌, ◌≤◌, ℕ, zero, suc, Bool, true, false, List, [], ◌∷◌, map, Some, slice_get, slice_set, refl, sym, ap, subst, ◌∙◌, inl, inr, arith}
use Rattle.std.proofs.lemmas.Option.{same_Some}
use Rattle.gptp_lists.specs.Members.{In}
use Rattle.gptp_lists.proofs.MappedLemmas.{same_there}
use Rattle.gptp_lists.proofs.PlaceLemmas.{get-set_other, get-set_same, map-set_same, member_there, same_place}
use Rattle.gptp_graph.specs.Snapshot.{Joins, PortIdentity, System}
use Rattle.gptp_links.specs.declared.link.Direction.{Direction}
use Rattle.gptp_links.specs.declared.link.Direction.TheVariants.{FromA, FromB}
use Rattle.gptp_links.specs.Fate.{Draw}
use Rattle.gptp_receipt.specs.declared.held.Held.TheVariants as helds
use Rattle.gptp_roles.specs.Choice.{IsChosen}
use Rattle.gptp_roles.specs.Role.{each_port, held_after_selection}
use Rattle.gptp_scenario.specs.Calm.{NothingLapses}
use Rattle.gptp_scenario.specs.declared.change.Act.TheVariants.{Change as Changing}
use Rattle.gptp_scenario.specs.declared.change.Change.TheVariants.{LinkDown}
use Rattle.gptp_setup.specs.declared.setup.Params.{Params}
use Rattle.gptp_setup.specs.Intervals.{interval_of}
use Rattle.gptp_setup.specs.SettlingParams.{SettlingParams}
use Rattle.gptp_system.specs.declared.sending.Sending.{Sending}
use Rattle.gptp_system.specs.Facts.{AreHeld, IsAtRest}
use Rattle.gptp_system.specs.Input.{PortDown}
use Rattle.gptp_system.specs.Measuring.{GoesDown, down, silenced}
use Rattle.gptp_system.specs.State.{SystemState, change_at, clock, number, on_port}
use Rattle.gptp_system.specs.Steps.{HasPortNumber}
use Rattle.gptp_system.proofs.RestLemmas.{selects_again}
use Rattle.gptp_model.specs.Act.{all_timers, in_state}
use Rattle.gptp_model.specs.Acts.{Acts, AtLink}
use Rattle.gptp_model.specs.Changing.{CallsIfLive, GoesDownIf, IsChannel, TellsEnds, lost, taken_down}
use Rattle.gptp_model.specs.declared.done.Done.{Done}
use Rattle.gptp_model.specs.declared.station.Station.{Station}
use Rattle.gptp_model.specs.Sends.{SendsAll}
use Rattle.gptp_model.specs.World.{Channel, Net, WorldState, port_id, receiver, sender}
use Rattle.gptp_bmca_machine.specs.Frame.{AnnounceFrame, Lane}
use Rattle.gptp_bmca_machine.specs.Network.{Network}
use Rattle.gptp_bmca_machine.specs.SoundEverywhere.{IsSoundEverywhere, LaneIsSound}
use Rattle.gptp_invariants.specs.ChoiceCalm.{HaveQuietLinks, lane_of}
use Rattle.gptp_invariants.specs.ChoiceSettlesAsMachine.{IsWorld}
use Rattle.gptp_invariants.specs.ChoiceView.{lane_view, says_announce, span_at, station_view, system_view, view}
use Rattle.gptp_invariants.specs.DelayLinkView.{IsLinkOf, LinkPlace, asker_view, link_lane_view, other_direction, waits_view, kept_view}
use Rattle.gptp_invariants.specs.DelayMeasured.{LinkStandsAt}
use Rattle.gptp_invariants.specs.WorldNews.{AreSilentBy, IsNews}
use Rattle.gptp_invariants.specs.WorldSettlingInvariant.{KeepsAll}
use Rattle.gptp_invariants.specs.WorldSound.{IsSoundWorld}
use Rattle.gptp_invariants.specs.WorldStanding.{channel_is_used, live_stations, snapshot_of}
use Rattle.gptp_invariants.proofs.ChoiceCalmKeptLemmas.{KeepsNetwork, delay_kept, same_snapshot}
use Rattle.gptp_invariants.proofs.ChoiceSeenLaneLemmas.{lane_from, lane_there}
use Rattle.gptp_invariants.proofs.DelayClaimedCapableLemmas.{clock_has, used_if}
use Rattle.gptp_invariants.proofs.WorldWayLemmas.{way_of}
use Rattle.gptp_invariants.proofs.WorldNewsLemmas.{silent_off}
use Rattle.gptp_invariants.proofs.PortInputLemmas.{of_down}
use Rattle.gptp_settling_time.proofs.WayLinkLemmas.{lane_at}
use Rattle.gptp_settling_time.proofs.AlwaysClaimedLemmas.{IsClaimedAlways, same_start}
use Rattle.gptp_settling_time.proofs.FailedUpLemmas.{delay_set, used_set}
use Rattle.gptp_settling_time.proofs.LinkStoodLemmas.{second_still, used_elsewhere}
use Rattle.gptp_settling_time.proofs.LinkUpLemmas.{lane_set}
use Rattle.gptp_settling_time.proofs.QuietUpLemmas.{unseen_at}
use Rattle.gptp_settling_time.proofs.SameLinkLemmas.{IsSameLink}
use Rattle.gptp_settling_time.proofs.SamePartsLemmas.{tells_parts}
use Rattle.gptp_settling_time.proofs.StandsLikeLemmas.{StandsLike, claims_like, expects_none, news_like}
use Rattle.gptp_settling_time.proofs.StandsStillLemmas.{StandsStill, changed_still, claims_stand, news_stands}
use Rattle.gptp_settling_time.proofs.TakenDownLemmas.{silent_down, stood_down, told_keeps}

-- ---- a port that takes no part goes down

change_same : {X : Type 0} (f : X → X) (i : ℕ) (xs : List X) (x : X) → slice_get xs i ≡ Some x → f x ≡ x
    → change_at f i xs ≡ xs
change_same f i [] x there same = refl
change_same f zero (y ∷ xs) x there same =
    let one = same_Some y x there in ap (λ z. z ∷ xs) (ap f one ∙ same ∙ sym one)
change_same f (suc i) (y ∷ xs) x there same = ap (λ rest. y ∷ rest) (change_same f i xs x there same)

module _ (now i : ℕ) (s s' : SystemState) (sends : List Sending) (held : AreHeld s) (rest : IsAtRest s)
    (off : slice_get s.held i ≡ Some helds.Disabled) (k : GoesDown (suc i) now s s' sends) where
  abbrev t : SystemState
  t = down (suc i) s

  same_held : t.held ≡ s.held
  same_held = change_same (λ h. helds.Disabled) i s.held helds.Disabled off refl

  quiet : (s' ≡ t) × (sends ≡ [])
  quiet =
      selects_again now t s' sends
      (λ j h there. held j h (subst (λ hs. slice_get hs j ≡ Some h) same_held there))
      (record {
        vector = rest.vector;
        is_chosen = subst (λ hs. IsChosen s.identity hs rest.vector) (sym same_held) rest.is_chosen;
        stays = subst (λ hs. hs ≡ each_port (held_after_selection rest.vector (clock s)) hs) (sym same_held) rest.stays;
        root = rest.root;
        steps = rest.steps;
        slave = rest.slave;
      })
      k

  unseen : (live : Bool) → system_view live s' ≡ system_view live s
  unseen live =
      ap (system_view live) quiet.0
      ∙ ap (λ hs. system_view live (record (on_port (suc i) silenced s) { held = hs })) same_held
      ∙ ap (λ ports. record (system_view live s) { ports = ports })
      (unseen_at (span_at s) silenced (λ q h. refl) s.held i s.ports)

-- ---- a call

-- the port at this number takes no part
abbrev IsOffAt : Station → ℕ → Type 0
IsOffAt station port = (i : ℕ) × (port ≡ suc i) × (slice_get station.system.held i ≡ Some helds.Disabled)

-- what is known of a system that is told
record CanGoDown (station : Station) (port : ℕ) : Type 0 where
  held : AreHeld station.system
  rest : IsAtRest station.system
  off : IsOffAt station port

-- nothing is seen of it
record IsUnseen (w w' : WorldState) : Type 0 where
  time : w'.time ≡ w.time
  stations : (view w').stations ≡ (view w).stations
  channels : w'.net.channels ≡ w.net.channels

down_unseen : (place port : ℕ) (w : WorldState) (draws : List Draw) (w' : WorldState)
    → ((station : Station) → slice_get w.stations place ≡ Some station → station.live ≡ true → CanGoDown station port)
    → CallsIfLive place (PortDown port) w draws w' → IsUnseen w w'
down_unseen place port w draws w' can (inr (failed, none, same)) =
    subst (IsUnseen w) (sym same)
    (record { time = refl; stations = refl; channels = refl })
down_unseen place port w draws w' can (inl (answer, c)) =
    let x = can c.station c.here c.live in
    let (i, is, off) = x.off in
    let steps : GoesDown (suc i) w.time c.station.system c.after c.sends =
    subst (λ n. GoesDown n w.time c.station.system c.after c.sends) is c.steps in
    let silent = (quiet w.time i c.station.system c.after c.sends x.held x.rest off steps).1 in
    let net : c.net ≡ all_timers place (in_state c.after c.station) w.net =
    (subst (λ sends. SendsAll w.time c.after sends draws (all_timers place (in_state c.after c.station) w.net) c.net)
    silent c.sent).1 in
    record {
      time = ap (λ (v : WorldState). v.time) c.is;
      stations = ap (λ (v : WorldState). map station_view v.stations) c.is
          ∙ map-set_same station_view w.stations place c.station (in_state c.after c.station) c.here
          (unseen w.time i c.station.system c.after c.sends x.held x.rest off steps c.station.live);
      channels = ap (λ (v : WorldState). v.net.channels) c.is ∙ ap (λ (n : Net). n.channels) net;
    }

unseen_on : (w v u : WorldState) → IsUnseen w v → IsUnseen v u → IsUnseen w u
unseen_on w v u first second = record {
  time = second.time ∙ first.time;
  stations = second.stations ∙ first.stations;
  channels = second.channels ∙ first.channels;
}

-- ---- the link goes down

module _ (p : SettlingParams) (start : ℕ) (w : WorldState) (news : IsNews p start w) (late : start ≤ w.time)
    (place : ℕ) (channel : Channel) (here : slice_get w.net.channels place ≡ Some channel) (up : channel.up ≡ true)
    (dead : channel_is_used (live_stations w.stations) channel ≡ false) (draws : List Draw) (w' : WorldState)
    (is' : IsWorld p w')
    (k : TellsEnds PortDown channel (record w { net = taken_down place channel w.net; last_change = w.time }) draws w')
  where
    abbrev is : IsWorld p w
    is = news.world

    abbrev taken : WorldState
    taken = record w { net = taken_down place channel w.net; last_change = w.time }

    abbrev systems : List System
    systems = live_stations w.stations

    -- a live end of it takes no part, since the other has failed
    module _ (way : Direction) (at other : ℕ) (station beyond : Station)
        (stands : slice_get w.stations at ≡ Some station)
        (named : clock station.system ≡ (sender way channel).clock)
        (other_stands : slice_get w.stations other ≡ Some beyond)
        (other_named : clock beyond.system ≡ (receiver way channel).clock) (live : station.live ≡ true) where
      has_failed : beyond.live ≡ false
      has_failed = by beyond.live refl
        where
          by : (b : Bool) → beyond.live ≡ b → beyond.live ≡ false
          by false is_off = is_off
          by true is_on =
              let used = used_if w.stations way channel up (clock_has w.stations at station _ stands live named)
              (clock_has w.stations other beyond _ other_stands is_on other_named) in
              let both : true ≡ false = sym used ∙ dead in
              absurd cc

      abbrev place_there : LinkPlace
      place_there = record { link = place; direction = way; asking = at; answering = other }

      can_go_down : CanGoDown station (sender way channel).port
      can_go_down =
          let steady = (is.sound.on_time.stations at station stands).steady in
          record {
            held = steady.held;
            rest = steady.rest;
            off = by (sender way channel).port refl
                (is.sound.wired.ports place at way channel station here stands named);
          }
        where
          by : (n : ℕ) → (sender way channel).port ≡ n → HasPortNumber station.system n → IsOffAt station n
          by zero is_n of = let least = of.least in absurd (omega arith)
          by (suc i) is_n of =
              let most = of.most in
              let shown = (is.sound.on_time.stations at station stands).steady.shown in
              let places = shown.places in
              let (q, there) = member_there station.system.ports i (omega arith) in
              let (h, holds) = member_there station.system.held i (omega (arith, most, places)) in
              let off = silent_off p start w is news.silent late place_there (record {
                channel = channel;
                here = here;
                up = up;
                asking = record { station = station; here = stands; live = live; named = named };
                answering = record {
                  station = beyond;
                  here = other_stands;
                  failed = has_failed;
                  named = other_named;
                };
              }) q (ap (number station.system.ports) is_n ∙ there) in
              (i, refl, holds ∙ ap (λ x. Some x) ((shown.each i h q holds there).off off))

    still_b : slice_get k.between.stations k.place_b ≡ Some k.station_b
    still_b = second_still PortDown channel taken draws w' k (is.between place channel here).apart

    told : IsUnseen taken w'
    told =
        unseen_on taken k.between w'
        (down_unseen k.place_a channel.a.port taken k.first k.between (λ station stands live.
        let one = same_there w.stations k.place_a station k.station_a stands k.is_a.here in
        can_go_down FromA k.place_a k.place_b station k.station_b stands
        (ap (λ (x : Station). clock x.system) one ∙ k.is_a.named) k.is_b.here k.is_b.named live) k.at_a)
        (down_unseen k.place_b channel.b.port k.between k.second w' (λ station stands live.
        let one = same_there k.between.stations k.place_b station k.station_b stands still_b in
        can_go_down FromB k.place_b k.place_a station k.station_a
        (k.is_b.here ∙ ap (λ x. Some x) (sym one))
        (ap (λ (x : Station). clock x.system) one ∙ k.is_b.named) k.is_a.here k.is_a.named live) k.at_b)

    keeps : KeepsNetwork taken w'
    keeps = told_keeps channel taken draws w' k

    channels_now : w'.net.channels ≡ slice_set w.net.channels place (lost channel)
    channels_now = told.channels

    -- a link in use is another, and stands as it did
    used_apart : (link : ℕ) (other : Channel) → slice_get w.net.channels link ≡ Some other
        → channel_is_used systems other ≡ true → link ≢ place
    used_apart = used_elsewhere systems w.net.channels place channel here dead

    stands_so : (link : ℕ) (other : Channel) → slice_get w.net.channels link ≡ Some other → link ≢ place
        → slice_get w'.net.channels link ≡ Some other
    stands_so link other there apart =
        ap (λ cs. slice_get cs link) channels_now ∙ get-set_other w.net.channels place link (lost channel) apart ∙ there

    lanes : (from to : PortIdentity) → Joins (snapshot_of w) from to → (l : Lane)
        → slice_get (view w').lanes (lane_of w.net.channels from) ≡ Some l
        → slice_get (view w).lanes (lane_of w.net.channels from) ≡ Some l
    lanes from to joins l there =
        let way = way_of w from to joins in
        let now_here = stands_so way.link way.channel way.here (used_apart way.link way.channel way.here way.used) in
        let at = lane_at w is from to way in
        let one : l ≡ lane_view way.direction way.channel =
        same_Some l (lane_view way.direction way.channel)
        (sym there ∙ ap (slice_get (view w').lanes) (sym at)
        ∙ lane_there w'.net.channels way.link way.direction way.channel now_here) in
        ap (slice_get (view w).lanes) (sym at)
        ∙ lane_there w.net.channels way.link way.direction way.channel way.here ∙ ap (λ x. Some x) (sym one)

    quiet_before : (params : Params) → HaveQuietLinks params w' → HaveQuietLinks params w
    quiet_before params calm link other there used =
        calm link other (stands_so link other there (used_apart link other there used))
        (ap (λ s. channel_is_used s other) keeps.systems ∙ used)

    same_link : (at : LinkPlace) (l : IsLinkOf at w) → IsSameLink at w w' l
    same_link at l =
        let used = used_if w.stations at.direction l.channel l.up
        (clock_has w.stations at.asking l.asking.station _ l.asking.here l.asking.live l.asking.named)
        (clock_has w.stations at.answering l.answering.station _ l.answering.here l.answering.live l.answering.named) in
        let apart = used_apart at.link l.channel l.here used in
        let whole = tells_parts PortDown of_down p w is place channel (lost channel) (taken_down place channel w.net)
        here refl refl refl draws w' k at apart l in
        let one : whole.after.channel ≡ l.channel =
        same_there w'.net.channels at.link whole.after.channel l.channel whole.after.here
        (stands_so at.link l.channel l.here apart) in
        let time = told.time in
        let setup = whole.setup in
        let asking = whole.asking in
        let answering = whole.answering in
        record {
          after = whole.after;
          settled = whole.settled;
          seen = λ i. record {
            pair = record {
              time = time i;
              asker = asker_view (interval_of (setup i).params.pdelay) (asking i);
              waits = waits_view (answering i);
              out = link_lane_view at.direction (one i);
              back = link_lane_view (other_direction at.direction) (one i);
            };
            kept = kept_view (asking i).peer;
          };
          bounds = whole.bounds;
        }

    stood : (at : LinkPlace) → LinkStandsAt at w' → LinkStandsAt at w
    stood = stood_down p w is place channel here draws w' is' k

    pub down_like : StandsLike w w'
    down_like = record {
      time = told.time;
      stations = told.stations;
      snapshot = same_snapshot taken w' keeps
          ∙ (λ i. record {
            systems = systems;
            links = used_set systems w.net.channels place channel (lost channel) here dead refl i;
          });
      delay = delay_kept taken w' keeps
          ∙ delay_set systems w.net.channels place channel (lost channel) here dead refl;
      places = keeps.places;
      logs = λ port. ap (λ (n : Network). n.log_of port) (same_start p 0 0 taken w' keeps);
      lane_places = λ port.
          ap (λ (n : Network). n.lane port) (same_start p 0 0 taken w' keeps)
          ∙ lane_set w.net.channels place channel (lost channel) port here refl refl;
      lanes = lanes;
      quiet = quiet_before;
      links = same_link;
      stood = λ pace world world' at s. stood at s;
    }

    -- ---- ports beside failed systems

    pub down_silent : AreSilentBy p start w'
    down_silent = silent_down p w is place channel here draws w' is' k start news.silent

    -- ---- what is held and in flight

    lanes_sound : (j : ℕ) (l : Lane) → slice_get (view w').lanes j ≡ Some l
        → LaneIsSound says_announce (snapshot_of w) l
    lanes_sound j l there f a member said =
        let x = lane_from w'.net.channels j l there in
        elim (same_place x.link place) [
          | inl same ↦
              let one : x.channel ≡ lost channel =
              same_Some x.channel (lost channel)
              (sym x.here ∙ ap (λ cs. slice_get cs x.link) channels_now
              ∙ ap (slice_get (slice_set w.net.channels place (lost channel))) same
              ∙ get-set_same w.net.channels place channel (lost channel) here) in
              absurd (none_lost x.direction f
              (subst (λ (m : Lane). In f m.frames) (x.is ∙ ap (lane_view x.direction) one) member))
          | inr apart ↦
              let stood_there : slice_get w.net.channels x.link ≡ Some x.channel =
              sym (get-set_other w.net.channels place x.link (lost channel) apart)
              ∙ ap (λ cs. slice_get cs x.link) (sym channels_now) ∙ x.here in
              news.sound.lanes j l
              (ap (slice_get (view w).lanes) x.at
              ∙ lane_there w.net.channels x.link x.direction x.channel stood_there ∙ ap (λ m. Some m) (sym x.is)) f a
              member said
        ]
      where
        none_lost : (direction : Direction) (f : AnnounceFrame) → In f (lane_view direction (lost channel)).frames → ⊥
        none_lost FromA f member = member
        none_lost FromB f member = member

    pub down_sound : IsSoundWorld w'
    unfolding down_like
    down_sound =
        subst (λ g. IsSoundEverywhere says_announce g (view w')) (sym down_like.snapshot)
        (record {
          lanes = lanes_sound;
          stations = λ i s there.
              news.sound.stations i s (subst (λ stations. slice_get stations i ≡ Some s) told.stations there);
        })

-- ---- the claims

module _ (p : SettlingParams) (start owner port : ℕ) (w : WorldState) (draws : List Draw) (done : Done)
    (w' : WorldState) (claim' : KeepsAll p w') (nothing : NothingLapses p.params) (late : start ≤ w.time)
    (dead : (place : ℕ) (channel : Channel) → IsChannel (port_id owner port) place w.net channel
    → channel_is_used (live_stations w.stations) (record channel { up = true }) ≡ false)
    (acts : Acts (Changing (LinkDown owner port)) w draws done w') where
  abbrev changed : WorldState
  changed = record w { last_change = w.time }

  k : AtLink (port_id owner port) w.net (λ place channel. GoesDownIf channel.up place channel changed draws w')
  k = acts.1

  -- it was down already
  was_down : k.channel.up ≡ false → StandsStill w w'
  was_down is_off =
      changed_still w w' (subst (λ b. GoesDownIf b k.place k.channel changed draws w') is_off k.so).1

  module _ (up : k.channel.up ≡ true) where
    told_down : TellsEnds PortDown k.channel
        (record w { net = taken_down k.place k.channel w.net; last_change = w.time }) draws w'
    told_down = subst (λ b. GoesDownIf b k.place k.channel changed draws w') up k.so

    unused : channel_is_used (live_stations w.stations) k.channel ≡ false
    unused =
        subst (λ b. channel_is_used (live_stations w.stations) (record k.channel { up = b }) ≡ false) (sym up)
        (dead k.place k.channel (record { here = k.is.here; joined = k.is.joined }))

  pub lowered_news : IsNews p start w → IsNews p start w'
  lowered_news news = by k.channel.up refl
    where
      by : (up : Bool) → k.channel.up ≡ up → IsNews p start w'
      by false is_off = news_stands p start w w' (was_down is_off) claim'.world claim'.measured news
      by true up =
          news_like p start w w'
          (down_like p start w news late k.place k.channel k.is.here up (unused up) draws w' claim'.world
          (told_down up)) claim'.world claim'.measured
          (down_silent p start w news late k.place k.channel k.is.here up (unused up) draws w' claim'.world
          (told_down up))
          (down_sound p start w news late k.place k.channel k.is.here up (unused up) draws w' claim'.world
          (told_down up)) (expects_none p start w w' nothing) news

  pub lowered_claimed : IsClaimedAlways p start w → IsClaimedAlways p start w'
  lowered_claimed claim = by k.channel.up refl
    where
      news : IsNews p start w
      news = claim.news

      by : (up : Bool) → k.channel.up ≡ up → IsClaimedAlways p start w'
      by false is_off = claims_stand p start w w' (was_down is_off) claim'.world claim'.measured claim
      by true up =
          claims_like p start w w'
          (down_like p start w news late k.place k.channel k.is.here up (unused up) draws w' claim'.world
          (told_down up)) claim'.world claim'.measured
          (down_silent p start w news late k.place k.channel k.is.here up (unused up) draws w' claim'.world
          (told_down up))
          (down_sound p start w news late k.place k.channel k.is.here up (unused up) draws w' claim'.world
          (told_down up)) (expects_none p start w w' nothing) claim
