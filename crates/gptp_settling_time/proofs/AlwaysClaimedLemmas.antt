-- A world of which claims are made of all links always: no announce interval has to pass.
use Rattle.std.proofs.Common.{◌≡◌, ◌≢◌, ◌<◌, ◌≤◌, ◌+◌, ◌*◌, ℕ, suc, true, false, List, [], ◌∷◌, map, Some, slice_get, refl, sym, ap, subst, ◌∙◌, inl, inr, arith}
use Rattle.gptp_lists.specs.Members.{In}
use Rattle.gptp_lists.proofs.MappedLemmas.{alike, same_there, some_same}
use Rattle.gptp_lists.proofs.SystemSpecLemmas.{In-map}
use Rattle.gptp_graph.specs.PathBound.{BoundsPaths}
use Rattle.gptp_graph.specs.Snapshot.{IsLinked, Joins, PortIdentity, port_of}
use Rattle.gptp_vector.specs.declared.port.PortId.{PortId}
use Rattle.gptp_links.specs.declared.link.Direction.{Direction}
use Rattle.gptp_links.specs.declared.link.Direction.TheVariants.{FromA, FromB}
use Rattle.gptp_links.specs.Fate.{Draw}
use Rattle.gptp_pdelay.specs.Peer.{is_capable}
use Rattle.gptp_setup.specs.SettlingParams.{SettlingParams}
use Rattle.gptp_scenario.specs.Calm.{NothingLapses}
use Rattle.gptp_scenario.specs.Params.{KeepPace}
use Rattle.gptp_scenario.specs.declared.change.Act.{Act}
use Rattle.gptp_system.specs.declared.port.Port.{Port}
use Rattle.gptp_system.specs.State.{clock, number}
use Rattle.gptp_model.specs.Acts.{Acts, at as at_time}
use Rattle.gptp_model.specs.declared.done.Done.{Done}
use Rattle.gptp_model.specs.declared.station.Station.{Station}
use Rattle.gptp_model.specs.Pending.{NothingBefore}
use Rattle.gptp_model.specs.World.{Channel, WorldState, sender, world_queue}
use Rattle.gptp_bmca_machine.specs.Acts.{MachineSteps}
use Rattle.gptp_bmca_machine.specs.Calm.{Calm}
use Rattle.gptp_bmca_machine.specs.EarlyPorts.{EarlyPortsHear}
use Rattle.gptp_bmca_machine.specs.Facts.{StationFacts}
use Rattle.gptp_bmca_machine.specs.Frame.{Announce, AnnounceFrame as SeenFrame, Lane}
use Rattle.gptp_bmca_machine.specs.Levels.{Invariant}
use Rattle.gptp_bmca_machine.specs.Network.{IsSettlingNetwork, Network, network_setting}
use Rattle.gptp_bmca_machine.specs.Sound.{ReceivedFits}
use Rattle.gptp_bmca_machine.specs.Station.{Disabled, MachineState, Port as SeenPort, Station as SeenStation}
use Rattle.gptp_bmca_machine.proofs.LevelLemmas.{invariant_kept}
use Rattle.gptp_bmca_machine.proofs.SoundEverywhereLemmas.{on_links}
use Rattle.gptp_bmca_machine.proofs.SoundLemmas.{received_fits}
use Rattle.gptp_bmca_machine.proofs.TimesLemmas.{times_fit}
use Rattle.gptp_invariants.specs.ChoiceCalm.{HaveQuietLinks, clock_place, delay_in, lane_of}
use Rattle.gptp_invariants.specs.ChoiceSeenLaws.{IsNoChange}
use Rattle.gptp_invariants.specs.ChoiceSettlesAsMachine.{IsWorld}
use Rattle.gptp_invariants.specs.ChoiceView.{frame_view, lane_view, lanes_view, port_identity_number, says_announce, span_at, view}
use Rattle.gptp_invariants.specs.DelayLinkView.{LinkPlace, link_frame_view, other_direction, pair}
use Rattle.gptp_invariants.specs.DelayMeasured.{LinkIsMeasured, LinkStandsAt}
use Rattle.gptp_invariants.specs.WorldEncodableLaws.{SetsAnOctet}
use Rattle.gptp_invariants.specs.WorldNews.{AreSilentBy, IsNews, at_news, news_network}
use Rattle.gptp_invariants.specs.WorldStanding.{channel_is_used, live_stations, snapshot_of}
use Rattle.gptp_invariants.proofs.ChoiceCalmKeptLemmas.{KeepsNetwork, acts_keep, delay_kept, links_quiet, same_network_with}
use Rattle.gptp_invariants.proofs.ChoiceCalmLemmas.{calm, nothing_lapses}
use Rattle.gptp_invariants.proofs.ChoiceMidLemmas.{seen_on}
use Rattle.gptp_invariants.proofs.ChoicePlaceLemmas.{port_from, station_from}
use Rattle.gptp_invariants.proofs.ChoiceSeenActLemmas.{acts_seen}
use Rattle.gptp_invariants.proofs.ChoiceSeenLaneLemmas.{lane_there}
use Rattle.gptp_invariants.proofs.ChoiceSettlesAsMachineLemmas.{kept_back}
use Rattle.gptp_invariants.proofs.WorldGreatestDelayLemmas.{delay_of_used}
use Rattle.gptp_invariants.proofs.WorldNewsLemmas.{news_are_kept, news_go_on, silent_off}
use Rattle.gptp_invariants.proofs.WorldStandsLemmas.{stands_well}
use Rattle.gptp_invariants.proofs.WorldWayLemmas.{IsWay, one_way, way_of}
use Rattle.gptp_settling_time.specs.Starts.{DelaysVaryLittle}
use Rattle.gptp_graph.proofs.LinkLemmas.{Joins-sym}
use Rattle.gptp_links.specs.declared.bounds.Bounds.{Bounds}
use Rattle.gptp_system.specs.State.{own}
use Rattle.gptp_pdelay_machine.specs.Setting.{Setting}
use Rattle.gptp_invariants.specs.ChoiceCalm.{AreCapableFrom, network_with}
use Rattle.gptp_invariants.proofs.ChoiceCalmFactLemmas.{facts, frame_from}
use Rattle.gptp_invariants.proofs.DelayClaimedCapableLemmas.{linked_or_off}
use Rattle.gptp_model.proofs.BareLemmas.{bare}
use Rattle.gptp_setup.specs.SettlingParams.{largest_interval}
use Rattle.gptp_settling_time.proofs.HeardLemmas.{IsHeardAt, heard_acts, heard_due, heard_later, heard_link, heard_now, heard_on}
use Rattle.gptp_settling_time.proofs.LinkStoodLemmas.{stood_in}
use Rattle.gptp_settling_time.proofs.OrderedLemmas.{link_seen, tells}
use Rattle.gptp_invariants.proofs.DelayCapableKeptLemmas.{stood}
use Rattle.gptp_invariants.proofs.WorldNewsCourseLemmas.{later_keeps}
use Rattle.gptp_settling_time.proofs.WayLinkLemmas.{asks_back, capable_is_on, lane_at, on_is_capable, place_of_way, way_back, way_stands}

-- ---- the network

-- Claims are made of all links always. Till its start it takes until all ports are capable, and then the greatest delay
-- for each step of distance.
abbrev pub start_network : SettlingParams → ℕ → ℕ → WorldState → Network
start_network p m start w = record (news_network p m start w) {
  start = 0;
  sound = 0;
  slack = start;
  claimed = λ d port. 0;
  until = λ d port. 0;
}

pub start_net : (p : SettlingParams) (m start : ℕ) (w : WorldState) → IsWorld p w → BoundsPaths (snapshot_of w) m
    → IsSettlingNetwork (start_network p m start w)
start_net p m start w is bounded =
    times_fit (start_network p m start w) (stands_well w is.sound is.between is.encodable) bounded (omega arith)
    (inr (record {
      begun = refl;
      sound = refl;
      step = omega arith;
      ready = λ port linked. omega arith;
      link = λ d port linked. inl (refl, refl);
    }))

pub same_start : (p : SettlingParams) (m start : ℕ) (w w' : WorldState) → KeepsNetwork w w'
    → start_network p m start w' ≡ start_network p m start w
same_start p m start w w' keeps =
    ap (λ (n : Network). record n {
      start = 0;
      sound = 0;
      slack = start;
      claimed = λ d port. 0;
      until = λ d port. 0;
    })
    (ap (λ delay. network_with p m start
    (record { slack = largest_interval p; step = delay; wait = 0; lag = 0; past = false }) w')
    (delay_kept w w' keeps)
    ∙ same_network_with w w' keeps p m start (at_news p w))

-- a state that is calm is so whenever its network began and settles, where its facts are
pub calm_timed : (n : Network) (start sound slack : ℕ) (claimed until : ℕ → PortIdentity → ℕ) (w : MachineState)
    → StationFacts
    (network_setting
    (record n { start = start; sound = sound; slack = slack; claimed = claimed; until = until })) w
    → Calm n w → Calm (record n { start = start; sound = sound; slack = slack; claimed = claimed; until = until }) w
calm_timed n start sound slack claimed until w facts c = record {
  facts = facts;
  stations = λ i s there lives.
      let x = c.stations i s there lives in
      record {
        at_rest = x.at_rest;
        ports = λ place q at.
            let y = x.ports place q at in
            record {
              log = y.log;
              interval = y.interval;
              timer = y.timer;
              capable = y.capable;
              bare = y.bare;
              unlinked = y.unlinked;
              long = y.long;
            };
      };
  placed = c.placed;
  there = λ s member.
      let x = c.there s member in
      record { station = x.station; there = x.there; live = x.live; is = x.is };
  lanes = λ from to joins.
      let x = c.lanes from to joins in
      record { lane = x.lane; there = x.there; from = x.from; to = x.to; loss = x.loss; is_up = x.is_up };
  apart = c.apart;
  left = c.left;
}

-- ---- a world whose ports are capable from a start on, whatever it holds

pub record IsStanding (p : SettlingParams) (start : ℕ) (w : WorldState) : Type 0 where
  pub pace : KeepPace p
  pub world : IsWorld p w
  pub measured : LinkIsMeasured w
  pub silent : AreSilentBy p start w

-- such is a world since news
abbrev pub standing : {p : SettlingParams} {start : ℕ} {w : WorldState} → IsNews p start w → IsStanding p start w
standing {p} {start} {w} news = record {
  pace = news.pace;
  world = news.world;
  measured = news.measured;
  silent = news.silent;
}

-- ---- ports are capable from the start on

-- over each link that is up between two live systems, loses nothing and is good, what is told is heard
abbrev pub AreHeard : SettlingParams → ℕ → WorldState → Type 0
AreHeard p start w = (at : LinkPlace) → LinkStandsAt at w → IsHeardAt p start at w

module _ (p : SettlingParams) (start : ℕ) (w : WorldState) (world : IsWorld p w) (heard : AreHeard p start w)
    (quiet : HaveQuietLinks p.params w) where
  linked_capable : start ≤ w.time → (place : ℕ) (station : Station) → slice_get w.stations place ≡ Some station
      → (i : ℕ) (q : Port) (to : PortIdentity) → slice_get station.system.ports i ≡ Some q
      → (joins : Joins (snapshot_of w) (port_identity_number (own station.system (suc i))) to)
      → (way : IsWay w (port_identity_number (own station.system (suc i))) to) → is_capable q.peer ≡ true
  linked_capable late place station here i q to there joins way =
      let from = port_identity_number (own station.system (suc i)) in
      let at = place_of_way p w world quiet from to way in
      let x = heard at (way_stands p w world quiet from to way joins) in
      let l = heard_link p start at w x in
      let asking = l.asking in
      let same_channel = same_there w.net.channels way.link l.channel way.channel l.here way.here in
      let begins : sender way.direction l.channel ≡ sender way.direction way.channel =
      ap (sender way.direction) same_channel in
      let named : clock asking.station.system ≡ clock station.system =
      asking.named ∙ ap (λ (y : PortId). y.clock) begins ∙ ap (λ (y : PortIdentity). y.clock) way.from in
      let same_place = world.sound.wired.clocks at.asking place asking.station station asking.here here named in
      let same_station = same_there w.stations place asking.station station
      (ap (slice_get w.stations) (sym same_place) ∙ asking.here) here in
      let port : (sender way.direction l.channel).port ≡ suc i =
      ap (λ (y : PortId). y.port) begins ∙ ap (λ (y : PortIdentity). y.port) way.from in
      let found : Some asking.state ≡ Some q =
      sym asking.there
      ∙ ap (number asking.station.system.ports) port
      ∙ ap (λ (y : Station). slice_get y.system.ports i) same_station
      ∙ there in
      ap (λ (y : Port). is_capable y.peer) (sym (some_same asking.state q found)) ∙ heard_on p start at w world x late

  -- so they are on
  pub linked_on : start ≤ w.time → (place : ℕ) (s : SeenStation) (i : ℕ) (q : SeenPort)
      → slice_get (view w).stations place ≡ Some s → slice_get s.ports i ≡ Some q
      → IsLinked (snapshot_of w) (port_of s.clock (suc i)) → q.held ≢ Disabled
  linked_on late place s i q here there (to, joins) off =
      let at = station_from w.stations place s here in
      let state = at.station.system in
      let port = port_from (span_at state) state.held state.ports i q
      (subst (λ (x : SeenStation). slice_get x.ports i ≡ Some q) at.is there) in
      let shown = (world.sound.on_time.stations place at.station at.here).steady.shown.each i port.held port.port
      port.held_there port.port_there in
      let over : Joins (snapshot_of w) (port_identity_number (own state (suc i))) to =
      subst (λ (x : SeenStation). Joins (snapshot_of w) (port_of x.clock (suc i)) to) at.is joins in
      seen_on (span_at state) port.held
      (shown.on
      (linked_capable late place at.station at.here i port.port to port.port_there over
      (way_of w (port_identity_number (own state (suc i))) to over)))
      (sym (ap (λ (x : SeenPort). x.held) port.is) ∙ off)

module _ (p : SettlingParams) (start : ℕ) (w : WorldState) (news : IsStanding p start w) (heard : AreHeard p start w)
    (quiet : HaveQuietLinks p.params w) where
  world : IsWorld p w
  world = news.world

  are_capable : AreCapableFrom start w
  are_capable late place station here lives i h q stands there =
      let shown = (world.sound.on_time.stations place station here).steady.shown in
      record {
        capable = λ linked.
            let (to, joins) = linked in
            (shown.each i h q stands there).on
            (linked_capable p start w world heard quiet late place station here i q to there joins
            (way_of w (port_identity_number (own station.system (suc i))) to joins));
        unlinked = λ none. elim (linked_or_off p w world
            (silent_off p start w world news.silent late) place station here lives i q there) [
              | inl linked ↦ absurd (none linked)
              | inr off ↦ (shown.each i h q stands there).off off
            ];
      }

-- ---- what is known of a world since its start

module _ (p : SettlingParams) (start : ℕ) (w : WorldState) (news : IsStanding p start w) (heard : AreHeard p start w)
    (quiet : HaveQuietLinks p.params w) where
  is : IsWorld p w
  is = news.world

  -- a link of the snapshot
  on_way : (from to : PortIdentity) → (joins : Joins (snapshot_of w) from to) → (way : IsWay w from to)
      → IsHeardAt p start (place_of_way p w is quiet from to way) w
  on_way from to joins way =
      heard (place_of_way p w is quiet from to way) (way_stands p w is quiet from to way joins)

  -- what is in flight there is due within the greatest delay of its link
  pub due_by_link : (j : ℕ) (l : Lane) (f : SeenFrame) (there : slice_get (lanes_view w.net.channels) j ≡ Some l)
      (member : In f l.frames) → Joins (snapshot_of w) l.from l.to
      → f.due ≤ w.time + (frame_from w j l f there member).channel.bounds.max
  due_by_link j l f there member joins =
      let at = frame_from w j l f there member in
      let way = way_of w l.from l.to joins in
      let one = one_way w is.sound is.encodable way.link at.link way.direction at.direction way.channel at.channel
      way.here at.here (way.from ∙ ap (λ (z : Lane). z.from) at.lane_is) in
      let place = place_of_way p w is quiet l.from l.to way in
      let x = on_way l.from l.to joins way in
      let link = heard_link p start place w x in
      let same_channel : link.channel ≡ at.channel =
      same_there w.net.channels way.link link.channel way.channel link.here way.here ∙ one.same_channel in
      let among : In at.frame (world_queue way.direction link.channel) =
      subst (λ (c : Channel). In at.frame (world_queue way.direction c)) (sym same_channel)
      (subst (λ d. In at.frame (world_queue d at.channel)) (sym one.same_way) at.among) in
      let latest = heard_due p start place w x (link_frame_view at.frame)
      (In-map link_frame_view at.frame (world_queue way.direction link.channel) among) in
      let is_due : f.due ≡ at.frame.due = ap (λ (g : SeenFrame). g.due) at.is in
      let most : link.channel.bounds.max ≡ at.channel.bounds.max =
      ap (λ (c : Channel). c.bounds.max) same_channel in
      omega (arith, latest, most, is_due)

  -- so it is within that of all links in use
  due_soon : (j : ℕ) (l : Lane) (f : SeenFrame) → slice_get (lanes_view w.net.channels) j ≡ Some l → In f l.frames
      → Joins (snapshot_of w) l.from l.to → f.due ≤ w.time + delay_in w
  due_soon j l f there member joins =
      let at = frame_from w j l f there member in
      let way = way_of w l.from l.to joins in
      let one = one_way w is.sound is.encodable way.link at.link way.direction at.direction way.channel at.channel
      way.here at.here (way.from ∙ ap (λ (z : Lane). z.from) at.lane_is) in
      let short : at.channel.bounds.max ≤ delay_in w =
      subst (λ (c : Channel). c.bounds.max ≤ delay_in w) one.same_channel
      (delay_of_used (live_stations w.stations) w.net.channels way.link way.channel way.here way.used) in
      let due = due_by_link j l f there member joins in
      omega (arith, due, short)

  -- what the machine knows of each state, at the times of this network
  start_facts : (m : ℕ) → StationFacts (network_setting (start_network p m start w)) (view w)
  start_facts m =
      let old = facts p m start w is.sound is.encodable is.known in
      record {
        stations = λ i s there lives.
            let x = old.stations i s there lives in
            record {
              known = x.known;
              follows = x.follows;
              held = λ place r holds.
                  let y = x.held place r holds in
                  record { came = y.came; stays = y.stays; short = y.short; no_loop = y.no_loop };
            };
        near = old.near;
        fresh = λ j l f there member joins. inl (due_soon j l f there member joins);
        linked = old.linked;
      }

  news_facts : (m : ℕ) → StationFacts (network_setting (news_network p m start w)) (view w)
  news_facts m =
      let old = start_facts m in
      record {
        stations = λ i s there lives.
            let x = old.stations i s there lives in
            record {
              known = x.known;
              follows = x.follows;
              held = λ place r holds.
                  let y = x.held place r holds in
                  record { came = y.came; stays = y.stays; short = y.short; no_loop = y.no_loop };
            };
        near = old.near;
        fresh = λ j l f there member joins. inl (due_soon j l f there member joins);
        linked = old.linked;
      }

  pub seen_calm : (m : ℕ) → Calm (news_network p m start w) (view w)
  seen_calm m =
      calm p m start (at_news p w) w is.sound is.encodable is.known quiet (news_facts m)
      (are_capable p start w news heard quiet)

  pub start_calm : (m : ℕ) → Calm (start_network p m start w) (view w)
  start_calm m =
      calm_timed (news_network p m start w) 0 0 start (λ d port. 0) (λ d port. 0) (view w) (start_facts m) (seen_calm m)

-- the first of the frames in a queue, as another sees it
seen_first : {X Y Z : Type 0} (f : X → Y) (g : X → Z) (xs : List X) (y : Y) (ys : List Y) → map f xs ≡ y ∷ ys
    → (x : X) × (zs : List Z) × (f x ≡ y) × (map g xs ≡ g x ∷ zs)
seen_first f g [] y ys same = absurd cc
seen_first f g (x ∷ xs) y ys same = (x, map g xs, cc, refl)

-- the lane back of the link in the other direction is the lane itself
turned_queue : (direction : Direction) (c d : Channel) → c ≡ d
    → map link_frame_view (world_queue (other_direction (other_direction direction)) c)
    ≡ map link_frame_view (world_queue direction d)
turned_queue FromA c d same = ap (λ x. map link_frame_view (world_queue FromA x)) same
turned_queue FromB c d same = ap (λ x. map link_frame_view (world_queue FromB x)) same

-- ---- early ports hear what comes, and stay on

module _ (p : SettlingParams) (start m : ℕ) (w : WorldState) (news : IsStanding p start w) (heard : AreHeard p start w)
    (quiet : HaveQuietLinks p.params w) where
  abbrev now_world : IsWorld p w
  now_world = news.world

  hears : (from : PortIdentity) (u i : ℕ) → Joins (snapshot_of w) from (port_of u (suc i))
      → (l : Lane) (f : SeenFrame) (fs : List SeenFrame) (a : Announce) (s : SeenStation) (q : SeenPort)
      → slice_get (view w).lanes (lane_of w.net.channels from) ≡ Some l → l.frames ≡ f ∷ fs
      → says_announce f.octets a
      → slice_get (view w).stations (clock_place w.stations u) ≡ Some s → slice_get s.ports i ≡ Some q
      → q.held ≢ Disabled
  unfolding way_back
  hears from u i joins l f fs a s q on_lane frames said there port =
      let to = port_of u (suc i) in
      let way = way_of w from to joins in
      let back = way_back w from to way in
      let at = place_of_way p w now_world quiet to from back in
      let x = heard at (way_stands p w now_world quiet to from back (Joins-sym (snapshot_of w) from to joins)) in
      let link = heard_link p start at w x in
      let same_channel : link.channel ≡ way.channel =
      same_there w.net.channels way.link link.channel way.channel link.here way.here in
      let asks_there = asks_back w from to way link.channel same_channel in
      let place = lane_at w now_world from to way in
      let lane : l ≡ lane_view way.direction way.channel =
      same_there (view w).lanes (lane_of w.net.channels from) l (lane_view way.direction way.channel) on_lane
      (subst (λ k. slice_get (lanes_view w.net.channels) k ≡ Some (lane_view way.direction way.channel)) place
      (lane_there w.net.channels way.link way.direction way.channel way.here)) in
      let queue : map frame_view (world_queue way.direction way.channel) ≡ f ∷ fs =
      ap (λ (z : Lane). z.frames) (sym lane) ∙ frames in
      let (first, rest, is_first, seen_back) = seen_first frame_view link_frame_view
      (world_queue way.direction way.channel) f fs queue in
      let comes : (pair at w link).back ≡ link_frame_view first ∷ rest =
      subst (λ fs. fs ≡ link_frame_view first ∷ rest) (sym (turned_queue way.direction link.channel way.channel
      same_channel)) seen_back in
      let tells_now : tells (link_frame_view first).octets =
      (a, subst (λ (o : List ℕ). says_announce o a) (ap (λ (g : SeenFrame). g.octets) (sym is_first)) said) in
      capable_is_on p w now_world at link u i asks_there s q there port
      (heard_now p start at w now_world x (link_frame_view first) rest comes tells_now)

-- time that passes leaves each port as it is
pub early_later : (p : SettlingParams) (start m time : ℕ) (w : WorldState) → IsStanding p start w → AreHeard p start w
    → HaveQuietLinks p.params w
    → EarlyPortsHear says_announce (start_network p m start w) (view w) (view (at_time time w))
early_later p start m time w news heard quiet = record {
  hears = λ d from u i joins claims early l f fs a s q on_lane frames due said there port.
      hears p start m w news heard quiet from u i joins l f fs a s q on_lane frames said there port;
  stays = λ d from u i joins claims early s s' q q' there port there' port' on.
      let station : s ≡ s' = same_there (view w).stations (clock_place w.stations u) s s' there there' in
      let same : q ≡ q' =
      same_there s'.ports i q q' (subst (λ (x : SeenStation). slice_get x.ports i ≡ Some q) station port) port' in
      subst (λ (x : SeenPort). x.held ≢ Disabled) same on;
}

module _ (p : SettlingParams) (start m : ℕ) (act : Act) (w : WorldState) (draws : List Draw) (done : Done)
    (w' : WorldState) (none : IsNoChange act) (acts : Acts act w draws done w') (news : IsStanding p start w)
    (news' : IsStanding p start w') (heard : AreHeard p start w) (quiet : HaveQuietLinks p.params w) where
  keeps : KeepsNetwork w w'
  keeps = acts_keep act w draws done w' none acts

  stays_then : (from : PortIdentity) (u i : ℕ) → Joins (snapshot_of w) from (port_of u (suc i))
      → (s s' : SeenStation) (q q' : SeenPort) → slice_get (view w).stations (clock_place w.stations u) ≡ Some s
      → slice_get s.ports i ≡ Some q
      → slice_get (view w').stations (clock_place w.stations u) ≡ Some s' → slice_get s'.ports i ≡ Some q'
      → q.held ≢ Disabled → q'.held ≢ Disabled
  unfolding way_back
  stays_then from u i joins s s' q q' there port there' port' on =
      let to = port_of u (suc i) in
      let way = way_of w from to joins in
      let back = way_back w from to way in
      let at = place_of_way p w news.world quiet to from back in
      let x = heard at (way_stands p w news.world quiet to from back (Joins-sym (snapshot_of w) from to joins)) in
      let link = heard_link p start at w x in
      let same_channel : link.channel ≡ way.channel =
      same_there w.net.channels way.link link.channel way.channel link.here way.here in
      let asks_there = asks_back w from to way link.channel same_channel in
      let seen_link = link_seen act w draws done w' none acts news.world.sound at link in
      let then = heard_acts p start act w draws done w' none acts news.world news'.world news.measured at x in
      let after = heard_link p start at w' then.after in
      let same_after : after.channel ≡ seen_link.after.channel =
      same_there w'.net.channels way.link after.channel seen_link.after.channel after.here seen_link.after.here in
      let asks_then : port_identity_number (sender back.direction after.channel) ≡ to =
      subst (λ c. port_identity_number (sender back.direction c) ≡ to) (sym same_after)
      (subst (λ (k : Setting). k.asking ≡ to) (sym seen_link.settled) asks_there) in
      capable_is_on p w' news'.world at after u i asks_then s' q'
      (subst (λ k. slice_get (view w').stations k ≡ Some s') (sym (keeps.places u)) there') port'
      (then.stays (on_is_capable p w news.world at link u i asks_there s q there port on))

  pub early_acts : EarlyPortsHear says_announce (start_network p m start w) (view w) (view w')
  early_acts = record {
    hears = λ d from u i joins claims early l f fs a s q on_lane frames due said there port.
        hears p start m w news heard quiet from u i joins l f fs a s q on_lane frames said there port;
    stays = λ d from u i joins claims early s s' q q' there port there' port' on.
        stays_then from u i joins s s' q q' there port there' port' on;
  }

-- ---- the claim

-- A world since news of which claims are made of all links always: what is told is heard, and each link is at its
-- stage from time 0 on.
pub record IsClaimedAlways (p : SettlingParams) (start : ℕ) (w : WorldState) : Type 0 where
  pub news : IsNews p start w
  pub heard : AreHeard p start w
  pub settling : (m : ℕ) → BoundsPaths (snapshot_of w) m → HaveQuietLinks p.params w → NothingLapses p.params
      → Invariant says_announce (start_network p m start w) (view w)

pub little_back : (w w' : WorldState) → KeepsNetwork w w' → DelaysVaryLittle w' → DelaysVaryLittle w
little_back w w' k little link channel here used =
    let (old, stands, same) = alike bare bare w'.net.channels w.net.channels k.links link channel here in
    let uses : channel_is_used (live_stations w'.stations) old ≡ true =
    ap (channel_is_used (live_stations w'.stations)) same
    ∙ ap (λ s. channel_is_used s channel) k.systems ∙ used in
    subst (λ (b : Bounds). b.max < 2 * b.min) (ap (λ (c : Channel). c.bounds) same) (little link old stands uses)

-- a step of the machine keeps the stages, where what is received fits
pub steps_settle : (p : SettlingParams) (start m : ℕ) (w w' : WorldState) → IsStanding p start w
    → IsStanding p start w' → AreHeard p start w → AreHeard p start w' → KeepsNetwork w w'
    → MachineSteps says_announce (view w) (view w')
    → (HaveQuietLinks p.params w
    → EarlyPortsHear says_announce (start_network p m start w) (view w) (view w'))
    → ReceivedFits (snapshot_of w') (view w')
    → (BoundsPaths (snapshot_of w) m → HaveQuietLinks p.params w
    → Invariant says_announce (start_network p m start w) (view w))
    → BoundsPaths (snapshot_of w') m → HaveQuietLinks p.params w' → NothingLapses p.params
    → Invariant says_announce (start_network p m start w') (view w')
steps_settle p start m w w' is is' heard heard' keeps step early fits settled bounded' quiet' off =
    let n = start_network p m start w in
    let same = same_start p m start w w' keeps in
    let bounded : BoundsPaths (snapshot_of w) m = subst (λ (x : Network). BoundsPaths x.graph m) same bounded' in
    let quiet = links_quiet w' w (kept_back w w' keeps) p.params quiet' in
    let net = start_net p m start w is.world bounded in
    let before = start_calm p start w is heard quiet m in
    let after : Calm n (view w') = subst (λ x. Calm x (view w')) same (start_calm p start w' is' heard' quiet' m) in
    subst (λ x. Invariant says_announce x (view w')) (sym same)
    (invariant_kept says_announce n net (view w) (view w') before after
    (nothing_lapses p n w is.world.known off) (early quiet) step
    (λ late. subst (λ (x : Network). ReceivedFits x.graph (view w')) same fits) (settled bounded quiet))

-- what a world since news received fits
news_fits : (p : SettlingParams) (start : ℕ) (w : WorldState) → IsNews p start w → ReceivedFits (snapshot_of w) (view w)
news_fits p start w news =
    let world = news.world in
    received_fits says_announce (snapshot_of w) (view w) (stands_well w world.sound world.between world.encodable)
    (on_links says_announce (snapshot_of w) (view w) news.sound)

pub since_later : (p : SettlingParams) (start time : ℕ) (w : WorldState) → w.time ≤ time
    → NothingBefore time w.net.pending → IsClaimedAlways p start w → IsClaimedAlways p start (at_time time w)
since_later p start time w later first is =
    let news' = news_go_on p start time w later first is.news in
    let heard' : AreHeard p start (at_time time w) =
    λ at stands. heard_later p start at time w is.news.world later first
    (is.heard at (stood_in at (at_time time w) w stands refl stands.here)) in
    let keeps = later_keeps time w in
    record {
      news = news';
      heard = heard';
      settling = λ m bounded quiet off.
          steps_settle p start m w (at_time time w) (standing is.news) (standing news') is.heard heard' keeps
          (inl (record { time = time; later = later; is = refl }))
          (λ quiet_then. early_later p start m time w (standing is.news) is.heard quiet_then)
          (news_fits p start (at_time time w) news') (λ bounded_then quiet_then.
          is.settling m bounded_then quiet_then off) bounded quiet off;
    }

pub since_acts : (p : SettlingParams) (start : ℕ) (act : Act) (w : WorldState) (draws : List Draw) (done : Done)
    (w' : WorldState) → IsNoChange act → SetsAnOctet act → Acts act w draws done w' → IsClaimedAlways p start w
    → IsClaimedAlways p start w'
since_acts p start act w draws done w' none octet acts is =
    let news' = news_are_kept p start act w draws done w' none octet acts is.news in
    let world = is.news.world in
    let keeps' = acts_keep act w draws done w' none acts in
    let heard' : AreHeard p start w' =
    λ at stands.
    (heard_acts p start act w draws done w' none acts world news'.world is.news.measured at
    (is.heard at (stood p w w' world news'.world keeps' at stands))).after in
    record {
      news = news';
      heard = heard';
      settling = λ m bounded quiet off.
          steps_settle p start m w w' (standing is.news) (standing news') is.heard heard' keeps'
          (inr (acts_seen act w draws done w' none world.sound world.encodable acts))
          (λ quiet_then.
          early_acts p start m act w draws done w' none acts (standing is.news) (standing news') is.heard quiet_then)
          (news_fits p start w' news') (λ bounded_then quiet_then. is.settling m bounded_then quiet_then off) bounded
          quiet off;
    }
