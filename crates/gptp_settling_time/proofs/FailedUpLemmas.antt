-- A link of which an end has failed comes up: what is claimed of the world stays.
use Rattle.std.proofs.Common.{◌≡◌, ◌≢◌, ◌+◌, ℕ, zero, suc, Bool, true, false, List, [], ◌∷◌, Some, slice_get, slice_set, refl, sym, ap, subst, ◌∙◌, inl, inr}
use Rattle.std.specs.Prelude.{if◌then◌else◌, max}
use Rattle.std.proofs.lemmas.Option.{none-some, same_Some}
use Rattle.gptp_lists.specs.Members.{In}
use Rattle.gptp_lists.proofs.MappedLemmas.{alike, mapped, mapped_there, same_there}
use Rattle.gptp_lists.proofs.PlaceLemmas.{get-set_other, get-set_same, same_place}
use Rattle.gptp_graph.specs.Snapshot.{Joins, PortIdentity, System}
use Rattle.gptp_vector.specs.declared.port.PortId.{PortId}
use Rattle.gptp_links.specs.declared.link.Direction.{Direction}
use Rattle.gptp_links.specs.declared.link.Direction.TheVariants.{FromA, FromB}
use Rattle.gptp_links.specs.Fate.{Draw}
use Rattle.gptp_links.specs.Queue.{Frame}
use Rattle.gptp_scenario.specs.Calm.{NothingLapses}
use Rattle.gptp_scenario.specs.declared.change.Act.TheVariants.{Change as Changing}
use Rattle.gptp_scenario.specs.declared.change.Change.TheVariants.{LinkUp}
use Rattle.gptp_setup.specs.declared.setup.Params.{Params}
use Rattle.gptp_setup.specs.SettlingParams.{SettlingParams, largest_interval}
use Rattle.gptp_system.specs.Input.{PortUp}
use Rattle.gptp_system.specs.State.{clock, number}
use Rattle.gptp_model.specs.Acts.{Acts, AtLink}
use Rattle.gptp_model.specs.Changing.{CallsIfLive, ComesUpIf, IsChannel, TellsEnds, brought_up}
use Rattle.gptp_model.specs.declared.done.Done.{Done}
use Rattle.gptp_model.specs.declared.station.Station.{Station}
use Rattle.gptp_model.specs.World.{Channel, WorldState, port_id, receiver, sender, world_queue}
use Rattle.gptp_model.proofs.BareLemmas.{bare}
use Rattle.gptp_model.proofs.StayLemmas.{sender_same}
use Rattle.gptp_bmca_machine.specs.Frame.{Lane}
use Rattle.gptp_bmca_machine.specs.Network.{Network}
use Rattle.gptp_bmca_machine.specs.Station.{Station as SeenStation}
use Rattle.gptp_invariants.specs.ChoiceCalm.{HaveQuietLinks, delay_in, greatest_channel_delay, lane_of, log_of}
use Rattle.gptp_invariants.specs.ChoiceSettlesAsMachine.{IsWorld}
use Rattle.gptp_invariants.specs.ChoiceView.{lane_view, port_identity_number, station_view, view}
use Rattle.gptp_invariants.specs.DelayLinkView.{IsEndOf, LinkPlace, other_direction}
use Rattle.gptp_invariants.specs.DelayMeasured.{LinkStandsAt}
use Rattle.gptp_invariants.specs.FailedUnanswered.{FailedNeighboursAreSilent, IsOff, IsSilent, IsUnmeasured, StandsUnanswered}
use Rattle.gptp_invariants.specs.WorldNews.{AreSilentBy}
use Rattle.gptp_invariants.specs.WorldSettlingInvariant.{KeepsAll}
use Rattle.gptp_invariants.specs.WorldSound.{IsSoundWorld}
use Rattle.gptp_invariants.specs.WorldStanding.{channel_is_used, live_stations, snapshot_of, standing_link, used_channels}
use Rattle.gptp_invariants.proofs.ChoiceCalmKeptLemmas.{KeepsNetwork, delay_kept, links_quiet, same_snapshot}
use Rattle.gptp_invariants.proofs.ChoiceSeenLaneLemmas.{lane_there}
use Rattle.gptp_invariants.proofs.ChoiceSettlesAsMachineLemmas.{kept_back}
use Rattle.gptp_invariants.proofs.DelayClaimedCapableLemmas.{clock_has, used_if}
use Rattle.gptp_invariants.proofs.DelayFirstUpLemmas.{queue_up, sender_up}
use Rattle.gptp_invariants.proofs.DelayLinkLemmas.{sender_opposite}
use Rattle.gptp_invariants.proofs.FailedSilentElsewhereLemmas.{stood_elsewhere, up_silences}
use Rattle.gptp_invariants.proofs.FailedUnansweredLaneLemmas.{calls_shrink}
use Rattle.gptp_invariants.proofs.WorldSoundCallLemmas.{tells_keep}
use Rattle.gptp_invariants.proofs.WorldSoundLemmas.{sound_gains}
use Rattle.gptp_invariants.proofs.WorldWayLemmas.{one_way, way_of}
use Rattle.gptp_invariants.proofs.UnmeasuredLemmas.{unmeasured_off}
use Rattle.gptp_settling_time.proofs.WayLinkLemmas.{lane_at}
use Rattle.gptp_settling_time.proofs.AlwaysClaimedLemmas.{IsClaimedAlways, same_start}
use Rattle.gptp_settling_time.proofs.BesideUpLemmas.{beside_same}
use Rattle.gptp_settling_time.proofs.LinkStoodLemmas.{raised_ends, second_still, stood_in, stood_untold, used_elsewhere}
use Rattle.gptp_settling_time.proofs.LinkUpLemmas.{lane_set}
use Rattle.gptp_settling_time.proofs.RaisedLemmas.{IsRaised, raised, unmeasured_then}
use Rattle.gptp_settling_time.proofs.NewsSoonLemmas.{IsNewsFrom, from_silent, from_sound}
use Rattle.gptp_settling_time.proofs.StaySilentLemmas.{GoesSilent, StaysSilent}
use Rattle.gptp_settling_time.proofs.StandsLikeLemmas.{StandsLike, claims_like, expects_none, from_like}
use Rattle.gptp_settling_time.proofs.StandsStillLemmas.{StandsStill, changed_still, claims_stand, from_stands}

-- ---- a link that isn't in use becomes another that isn't

pub used_set : (systems : List System) (channels : List Channel) (i : ℕ) (old new : Channel)
    → slice_get channels i ≡ Some old → channel_is_used systems old ≡ false → channel_is_used systems new ≡ false
    → used_channels systems (slice_set channels i new) ≡ used_channels systems channels
used_set systems [] i old new here off dead = refl
used_set systems (first ∷ channels) zero old new here off dead =
    let was : channel_is_used systems first ≡ false =
    ap (channel_is_used systems) (same_Some first old here) ∙ off in
    ap (λ b. if b then standing_link new ∷ used_channels systems channels else used_channels systems channels) dead
    ∙ sym (ap (λ b. if b then standing_link first ∷ used_channels systems channels else used_channels systems channels)
    was)
used_set systems (first ∷ channels) (suc i) old new here off dead =
    ap (λ rest. if channel_is_used systems first then standing_link first ∷ rest else rest)
    (used_set systems channels i old new here off dead)

pub delay_set : (systems : List System) (channels : List Channel) (i : ℕ) (old new : Channel)
    → slice_get channels i ≡ Some old → channel_is_used systems old ≡ false → channel_is_used systems new ≡ false
    → greatest_channel_delay systems (slice_set channels i new) ≡ greatest_channel_delay systems channels
delay_set systems [] i old new here off dead = refl
delay_set systems (first ∷ channels) zero old new here off dead =
    let was : channel_is_used systems first ≡ false =
    ap (channel_is_used systems) (same_Some first old here) ∙ off in
    ap (λ b. if b then max new.bounds.max (greatest_channel_delay systems channels) else greatest_channel_delay systems
    channels) dead
    ∙ sym (ap (λ b. if b then max first.bounds.max (greatest_channel_delay systems channels) else greatest_channel_delay
    systems channels) was)
delay_set systems (first ∷ channels) (suc i) old new here off dead =
    ap (λ rest. if channel_is_used systems first then max first.bounds.max rest else rest)
    (delay_set systems channels i old new here off dead)

-- its ends are different systems
ways_apart : (way back : Direction) (channel : Channel) → channel.a.clock ≢ channel.b.clock
    → (sender way channel).clock ≡ (sender back channel).clock → way ≡ back
ways_apart FromA FromA channel apart same = refl
ways_apart FromB FromB channel apart same = refl
ways_apart FromA FromB channel apart same = absurd (apart same)
ways_apart FromB FromA channel apart same = absurd (apart (sym same))

-- ---- it comes up

module _ (p : SettlingParams) (w : WorldState) (is : IsWorld p w) (place : ℕ) (channel : Channel)
    (here : slice_get w.net.channels place ≡ Some channel) (down : channel.up ≡ false)
    (dead : channel_is_used (live_stations w.stations) (record channel { up = true }) ≡ false) (draws : List Draw)
    (w' : WorldState) (is' : IsWorld p w') where
  abbrev new : Channel
  new = record channel { up = true }

  abbrev brought : WorldState
  brought = record w { net = brought_up place channel w.net; last_change = w.time }

  off : channel_is_used (live_stations w.stations) channel ≡ false
  off = rw down refl

  module _ (k : TellsEnds PortUp channel brought draws w') where
    is_raised : IsRaised channel w w'
    is_raised = raised p w is place channel here down draws w' k

    keeps : KeepsNetwork brought w'
    keeps = tells_keep channel brought draws w' k

    abbrev systems : List System
    systems = live_stations w.stations

    snapshot : snapshot_of w' ≡ snapshot_of w
    snapshot =
        same_snapshot brought w' keeps
        ∙ (λ i. record { systems = systems; links = used_set systems w.net.channels place channel new here off dead i })

    delay : delay_in w' ≡ delay_in w
    delay = delay_kept brought w' keeps ∙ delay_set systems w.net.channels place channel new here off dead

    logs : (port : PortIdentity) → log_of w'.stations port ≡ log_of w.stations port
    logs port = ap (λ (n : Network). n.log_of port) (same_start p 0 0 brought w' keeps)

    lane_places : (port : PortIdentity) → lane_of w'.net.channels port ≡ lane_of w.net.channels port
    lane_places port =
        ap (λ (n : Network). n.lane port) (same_start p 0 0 brought w' keeps)
        ∙ lane_set w.net.channels place channel new port here refl refl

    -- a link in use is another
    used_apart : (link : ℕ) (other : Channel) → slice_get w.net.channels link ≡ Some other
        → channel_is_used systems other ≡ true → link ≢ place
    used_apart = used_elsewhere systems w.net.channels place channel here off

    lanes : (from to : PortIdentity) → Joins (snapshot_of w) from to → (l : Lane)
        → slice_get (view w').lanes (lane_of w.net.channels from) ≡ Some l
        → slice_get (view w).lanes (lane_of w.net.channels from) ≡ Some l
    lanes from to joins l there =
        let way = way_of w from to joins in
        let apart = used_apart way.link way.channel way.here way.used in
        let stood : slice_get brought.net.channels way.link ≡ Some way.channel =
        get-set_other w.net.channels place way.link new apart ∙ way.here in
        let (now, now_here, same) = alike bare bare w'.net.channels brought.net.channels keeps.links way.link
        way.channel stood in
        let at = lane_at w is from to way in
        let now_lane : l ≡ lane_view way.direction now =
        same_Some l (lane_view way.direction now)
        (sym there ∙ ap (slice_get (view w').lanes) (sym at)
        ∙ lane_there w'.net.channels way.link way.direction now now_here) in
        let begins : l.from ≡ port_identity_number (sender way.direction way.channel) =
        ap (λ (x : Lane). x.from) now_lane
        ∙ ap port_identity_number (sender_same way.direction way.channel now (ap (λ (c : Channel). c.a) same)
        (ap (λ (c : Channel). c.b) same)) in
        is_raised.lanes (lane_of w.net.channels from) l there (λ direction same_end.
        apart (one_way w is.sound is.encodable way.link place way.direction direction way.channel channel way.here here
        (sym begins ∙ same_end)).same_link)

    quiet : (params : Params) → HaveQuietLinks params w' → HaveQuietLinks params w
    quiet params calm link other there used =
        links_quiet w' brought (kept_back brought w' keeps) params calm link other
        (get-set_other w.net.channels place link new (used_apart link other there used) ∙ there) used

    before : (at : LinkPlace) → LinkStandsAt at w' → LinkStandsAt at brought
    before = stood_untold p w (brought_up place channel w.net) w' is is' keeps

    -- it joins no two live systems
    other_link : (at : LinkPlace) → LinkStandsAt at brought → at.link ≢ place
    other_link at s same =
        let one : s.channel ≡ new =
        same_Some s.channel new
        (sym s.here ∙ ap (slice_get brought.net.channels) same
        ∙ get-set_same w.net.channels place channel new here) in
        let used : channel_is_used systems s.channel ≡ true =
        used_if w.stations at.direction s.channel s.up
        (clock_has w.stations at.asking s.asking.station _ s.asking.here s.asking.live s.asking.named)
        (clock_has w.stations at.answering s.answering.station _ s.answering.here s.answering.live s.answering.named) in
        let both : true ≡ false = sym used ∙ ap (channel_is_used systems) one ∙ dead in
        cc

    beside : (at : LinkPlace) → at.link ≢ place → LinkStandsAt at brought → LinkStandsAt at w
    beside at apart old =
        stood_in at brought w old refl (sym (get-set_other w.net.channels place at.link new apart) ∙ old.here)

    pub up_like : StandsLike w w'
    up_like = record {
      time = is_raised.time;
      stations = is_raised.stations;
      snapshot = snapshot;
      delay = delay;
      places = keeps.places;
      logs = logs;
      lane_places = lane_places;
      lanes = lanes;
      quiet = quiet;
      links = λ at l. beside_same p w is place channel here down draws w' is_raised k at l;
      stood = λ pace world world' at s.
          let old = before at s in
          beside at (other_link at old) old;
    }

    -- ---- its port is silent

    module _ (at : LinkPlace) (place_is : at.link ≡ place) (s : StandsUnanswered at w') (gone : ℕ)
        (one : IsSilent gone at w') where
      -- its ends are those that it had
      ends_now : (direction : Direction) → sender direction one.link.channel ≡ sender direction channel
      ends_now = raised_ends w place channel w' here keeps at.link place_is one.link.channel one.link.here

      unmeasured : IsUnmeasured one.link.asking.state.peer
      unmeasured = by (sender at.direction one.link.channel).port refl e.there
        where
          e : IsEndOf at.asking (sender at.direction one.link.channel) w'
          e = one.link.asking

          by : (n : ℕ) → (sender at.direction one.link.channel).port ≡ n
              → number e.station.system.ports n ≡ Some e.state → IsUnmeasured e.state.peer
          by zero numbered there = absurd (none-some e.state there)
          by (suc i) numbered there =
              unmeasured_then p w is place channel here down draws w' k is'.sound.wired.clocks at.direction at.asking
              e.station e.here e.live (e.named ∙ ap (λ (q : PortId). q.clock) (ends_now at.direction)) i e.state
              (ap (λ (q : PortId). q.port) (sym (ends_now at.direction)) ∙ numbered) there

      abbrev back : Direction
      back = other_direction at.direction

      -- the system at that end has failed
      failed_there : (q : ℕ) (other : Station) → slice_get w.stations q ≡ Some other
          → clock other.system ≡ (sender back channel).clock → other.live ≡ false
      failed_there q other there named =
          let x = s.answering in
          let (old, old_here, same) = mapped station_view w.stations at.answering (station_view x.station)
          (ap (λ xs. slice_get xs at.answering) (sym is_raised.stations)
          ∙ mapped_there station_view w'.stations at.answering x.station x.here) in
          let channel_is : s.channel ≡ one.link.channel =
          same_there w'.net.channels at.link s.channel one.link.channel s.here one.link.here in
          let end : receiver at.direction s.channel ≡ sender back channel =
          ap (receiver at.direction) channel_is ∙ sym (sender_opposite at.direction one.link.channel) ∙ ends_now back in
          let old_named : clock old.system ≡ (sender back channel).clock =
          ap (λ (y : SeenStation). y.clock) same ∙ x.named ∙ ap (λ (q : PortId). q.clock) end in
          let places : q ≡ at.answering =
          is.sound.wired.clocks q at.answering other old there old_here (named ∙ sym old_named) in
          let one_is : other ≡ old =
          same_there w.stations at.answering other old (ap (slice_get w.stations) (sym places) ∙ there) old_here in
          ap (λ (y : Station). y.live) one_is ∙ ap (λ (y : SeenStation). y.live) same ∙ x.failed

      -- so it sends nothing
      record IsMute (u : WorldState) : Type 0 where
        now : Channel
        now_here : slice_get u.net.channels at.link ≡ Some now
        begins : sender back now ≡ sender back channel
        none : (f : Frame) → In f (world_queue back now) → ⊥

      begun : IsMute brought
      begun =
          let empty = (is.sound.wired.flow place back channel here).still down in
          record {
            now = new;
            now_here = ap (slice_get brought.net.channels) place_is
                ∙ get-set_same w.net.channels place channel new here;
            begins = sender_up back channel;
            none = λ f member. subst (λ (fs : List Frame). In f fs) (queue_up back channel ∙ empty) member;
          }

      called : (way : Direction) (q : ℕ) (u : WorldState) (ds : List Draw) (u' : WorldState) (other : Station)
          → slice_get u.stations q ≡ Some other → clock other.system ≡ (sender way channel).clock
          → (way ≡ back → other.live ≡ false) → IsMute u
          → CallsIfLive q (PortUp (sender way channel).port) u ds u' → IsMute u'
      called way q u ds u' other there named dead_if mute (inr (failed, none, same)) = subst IsMute (sym same) mute
      called way q u ds u' other there named dead_if mute (inl (answer, c)) =
          let system : c.station ≡ other = same_there u.stations q c.station other c.here there in
          let apart : (sender back mute.now).clock ≢ clock c.station.system = λ e.
          let ways : way ≡ back =
          same_way (sym named ∙ ap (λ (y : Station). clock y.system) (sym system) ∙ sym e
          ∙ ap (λ (x : PortId). x.clock) mute.begins) in
          let both : true ≡ false = sym c.live ∙ ap (λ (y : Station). y.live) system ∙ dead_if ways in
          cc in
          let x = calls_shrink at.link back q (PortUp (sender way channel).port) u ds answer u' c mute.now mute.now_here
          apart in
          record {
            now = x.new;
            now_here = x.here;
            begins = sender_same back mute.now x.new x.shrinks.a x.shrinks.b ∙ mute.begins;
            none = λ f member. mute.none f (x.shrinks.fewer f member);
          }
        where
          same_way : (sender way channel).clock ≡ (sender back channel).clock → way ≡ back
          same_way = ways_apart way back channel (is.between place channel here).apart

      mute_then : IsMute w'
      mute_then =
          called FromB k.place_b k.between k.second w' k.station_b
          (second_still PortUp channel brought draws w' k (is.between place channel here).apart) k.is_b.named
          (λ ways. failed_there k.place_b k.station_b k.is_b.here
          (k.is_b.named ∙ ap (λ d. (sender d channel).clock) ways))
          (called FromA k.place_a brought k.first k.between k.station_a k.is_a.here k.is_a.named
          (λ ways. failed_there k.place_a k.station_a k.is_a.here
          (k.is_a.named ∙ ap (λ d. (sender d channel).clock) ways)) begun k.at_a) k.at_b

      pub is_off : IsOff at w'
      is_off =
          let none_flies = mute_then in
          let channel_is : one.link.channel ≡ none_flies.now =
          same_there w'.net.channels at.link one.link.channel none_flies.now one.link.here none_flies.now_here in
          record {
            link = one.link;
            mute = λ f member r says.
                absurd (none_flies.none f (subst (λ c. In f (world_queue back c)) channel_is member));
            off = unmeasured_off one.link.asking.state.peer unmeasured;
          }

    -- a port at another link stays silent
    stay_apart : (at : LinkPlace) → at.link ≢ place → StandsUnanswered at w' → StaysSilent p at w w'
    stay_apart at apart s = record {
      stood = stood_elsewhere p at place channel w draws w' is.sound.wired here apart k s;
      silent = up_silences p at place channel w draws w' is.sound.wired here apart k s;
    }

    -- one at this link is off
    pub goes_up : FailedNeighboursAreSilent p w' → (at : LinkPlace) → StandsUnanswered at w' → GoesSilent p at w w'
    goes_up silent' at s = elim (same_place at.link place) [
      | inl same ↦ inl (λ start. inl (is_off at same s (w'.last_change + largest_interval p) (silent' at s)))
      | inr apart ↦ inr (inl (stay_apart at apart s))
    ]

    pub up_silent : (start : ℕ) → FailedNeighboursAreSilent p w' → AreSilentBy p start w → AreSilentBy p start w'
    up_silent start silent' silent at s = elim (same_place at.link place) [
      | inl same ↦ inl (is_off at same s (w'.last_change + largest_interval p) (silent' at s))
      | inr apart ↦ let x = stay_apart at apart s in x.silent start (silent at x.stood)
    ]

-- ---- the claims

module _ (p : SettlingParams) (start owner port : ℕ) (w : WorldState) (draws : List Draw) (done : Done)
    (w' : WorldState) (is : IsWorld p w) (claim' : KeepsAll p w') (nothing : NothingLapses p.params)
    (dead : (place : ℕ) (channel : Channel) → IsChannel (port_id owner port) place w.net channel
    → channel_is_used (live_stations w.stations) (record channel { up = true }) ≡ false)
    (acts : Acts (Changing (LinkUp owner port)) w draws done w') where
  abbrev changed : WorldState
  changed = record w { last_change = w.time }

  k : AtLink (port_id owner port) w.net (λ place channel. ComesUpIf channel.up place channel changed draws w')
  k = acts.1

  -- it was up already
  was_up : k.channel.up ≡ true → StandsStill w w'
  was_up up = changed_still w w' (subst (λ b. ComesUpIf b k.place k.channel changed draws w') up k.so).1

  module _ (down : k.channel.up ≡ false) where
    told : TellsEnds PortUp k.channel (brought p w is k.place k.channel k.is.here down (dead k.place k.channel
        (record { here = k.is.here; joined = k.is.joined })) draws w' claim'.world) draws w'
    told = subst (λ b. ComesUpIf b k.place k.channel changed draws w') down k.so

    like : StandsLike w w'
    like =
        up_like p w is k.place k.channel k.is.here down
        (dead k.place k.channel (record { here = k.is.here; joined = k.is.joined })) draws w' claim'.world told

    silent_then : AreSilentBy p start w → AreSilentBy p start w'
    silent_then =
        up_silent p w is k.place k.channel k.is.here down
        (dead k.place k.channel (record { here = k.is.here; joined = k.is.joined })) draws w' claim'.world told start
        claim'.silent

  sound_then : IsSoundWorld w → IsSoundWorld w'
  sound_then = sound_gains p (LinkUp owner port) w draws done w' tt tt acts is claim'.world

  pub raised_from : IsNewsFrom p start w → IsNewsFrom p start w'
  raised_from news = by k.channel.up refl
    where
      by : (up : Bool) → k.channel.up ≡ up → IsNewsFrom p start w'
      by true up = from_stands p start w w' (was_up up) claim'.world claim'.measured news
      by false down =
          from_like p start w w' (like down) claim'.world claim'.measured
          (silent_then down (from_silent p start w news)) (sound_then (from_sound p start w news))
          (expects_none p start w w' nothing) news

  pub raised_claimed : IsClaimedAlways p start w → IsClaimedAlways p start w'
  raised_claimed claim = by k.channel.up refl
    where
      by : (up : Bool) → k.channel.up ≡ up → IsClaimedAlways p start w'
      by true up = claims_stand p start w w' (was_up up) claim'.world claim'.measured claim
      by false down =
          claims_like p start w w' (like down) claim'.world claim'.measured (silent_then down claim.news.silent)
          (sound_then claim.news.sound) (expects_none p start w w' nothing) claim
