-- What a delivery and an expiry leave of the network that a world has.
use Rattle.std.proofs.Common.{◌+◌, ◌*◌, ◌≡◌, ◌≢◌, ℕ, zero, suc, pos, true, List, [], ◌∷◌, map, Option, Some, None, slice_get, slice_set, refl, sym, ap, subst, ◌∙◌}
use Rattle.std.specs.Prelude.{if◌then◌else◌, ◌==◌, max}
use Rattle.std.specs.Option.{option_map_or}
use Rattle.std.proofs.lemmas.Option.{same_Some}
use Rattle.gptp_graph.specs.PathBound.{path_bound}
use Rattle.gptp_graph.specs.Snapshot.{PortIdentity, System}
use Rattle.gptp_links.specs.declared.link.Direction.{Direction}
use Rattle.gptp_links.specs.declared.link.Direction.TheVariants.{FromA, FromB}
use Rattle.gptp_links.specs.Fate.{Draw}
use Rattle.gptp_system.specs.declared.answer.Answer.{Answer}
use Rattle.gptp_setup.specs.declared.setup.Params.{Params}
use Rattle.gptp_setup.specs.SettlingParams.{SettlingParams, lapse_span, largest_interval}
use Rattle.gptp_setup.specs.declared.setup.Setup.{Setup}
use Rattle.gptp_setup.specs.declared.timer.Timer.{Timer}
use Rattle.gptp_setup.specs.Intervals.{interval_of}
use Rattle.gptp_system.specs.Input.{Input, Frame as FrameHeard, Priority, Expires as TimerExpires}
use Rattle.gptp_system.specs.State.{clock}
use Rattle.gptp_system.proofs.StepLemmas.{steps_steady}
use Rattle.gptp_scenario.specs.Calm.{SyncsComeInTime}
use Rattle.gptp_scenario.specs.declared.change.Act.{Act}
use Rattle.gptp_scenario.specs.declared.change.Act.TheVariants.{Deliver, Expire, Change as Changing}
use Rattle.gptp_scenario.specs.declared.sync_wait.SyncPaths.{SyncPaths}
use Rattle.gptp_model.specs.declared.done.Done.{Done}
use Rattle.gptp_model.specs.declared.station.Station.{Station}
use Rattle.gptp_model.specs.Act.{Calls, Delivers, TimerRunsOut, Hears, in_state}
use Rattle.gptp_model.specs.Acts.{Acts, at}
use Rattle.gptp_model.specs.Agrees.{stopped}
use Rattle.gptp_model.specs.World.{Channel, Net, WorldState, receiver}
use Rattle.gptp_model.proofs.BareLemmas.{DifferInFlight, bare, calls_bare, takes_bare}
use Rattle.gptp_lists.proofs.MappedLemmas.{alike}
use Rattle.gptp_lists.proofs.PlaceLemmas.{map-set_same}
use Rattle.gptp_model.proofs.SteadyLemmas.{same_clock, same_ports}
use Rattle.gptp_bmca_machine.specs.Network.{Network}
use Rattle.gptp_invariants.specs.ChoiceSeenLaws.{IsNoChange}
use Rattle.gptp_invariants.specs.ChoiceView.{lane_place}
use Rattle.gptp_invariants.specs.ChoiceCalm.{HaveQuietLinks, IsQuietWith, IsQuietWorld, delay_in, greatest_channel_delay, has_port_id, lane_of, log_at, log_of, network_of, SettlingTimes, network_with, paths_with, clock_place, setups_of, sync_paths_of, in_turn, at_once, network_at_once, sound_from}
use Rattle.gptp_invariants.specs.WorldStanding.{channel_is_used, standing_link, live_stations, snapshot_of, standing_system, used_channels}

-- ---- systems

-- one system becomes another that stands as it stood
pub systems_kept : (stations : List Station) (place : ℕ) (old new : Station) → slice_get stations place ≡ Some old
    → new.live ≡ old.live → standing_system new ≡ standing_system old
    → live_stations (slice_set stations place new) ≡ live_stations stations
systems_kept [] place old new here live same = refl
systems_kept (first ∷ stations) zero old new here live same =
    let one = same_Some first old here in
    let lives : new.live ≡ first.live = live ∙ ap (λ (x : Station). x.live) (sym one) in
    let stands : standing_system new ≡ standing_system first = same ∙ ap standing_system (sym one) in
    rw (lives, stands) refl
systems_kept (first ∷ stations) (suc place) old new here live same =
    ap (λ rest. if first.live then standing_system first ∷ rest else rest)
    (systems_kept stations place old new here live same)

-- one of its clock
pub places_kept : (stations : List Station) (place : ℕ) (old new : Station) → slice_get stations place ≡ Some old
    → clock new.system ≡ clock old.system → (number : ℕ)
    → clock_place (slice_set stations place new) number ≡ clock_place stations number
places_kept [] place old new here same number = refl
places_kept (first ∷ stations) zero old new here same number =
    let one = same_Some first old here in
    let named : clock new.system ≡ clock first.system = same ∙ ap (λ (x : Station). clock x.system) (sym one) in
    rw named refl
places_kept (first ∷ stations) (suc place) old new here same number =
    ap (λ rest. if clock first.system == number then 0 else suc rest)
    (places_kept stations place old new here same number)

-- ---- what doesn't look at what is in flight

used_bare : (systems : List System) (channels : List Channel)
    → used_channels systems (map bare channels) ≡ used_channels systems channels
used_bare systems [] = refl
used_bare systems (first ∷ channels) =
    ap (λ rest. if channel_is_used systems first then standing_link first ∷ rest else rest) (used_bare systems channels)

pub lane_bare : (port : PortIdentity) (channels : List Channel)
    → lane_of (map bare channels) port ≡ lane_of channels port
lane_bare port [] = refl
lane_bare port (first ∷ channels) =
    ap (λ rest. if has_port_id first.a port then lane_place 0 FromA
    else (if has_port_id first.b port then lane_place 0 FromB else suc (suc rest)))
    (lane_bare port channels)

pub delay_bare : (systems : List System) (channels : List Channel)
    → greatest_channel_delay systems (map bare channels) ≡ greatest_channel_delay systems channels
delay_bare systems [] = refl
delay_bare systems (first ∷ channels) =
    ap (λ rest. if channel_is_used systems first then max first.bounds.max rest else rest) (delay_bare systems channels)

-- so it is the same of links that are kept
pub of_kept : {X : Type 0} (f : List Channel → X) → ((channels : List Channel) → f (map bare channels) ≡ f channels)
    → (before after : List Channel) → DifferInFlight before after → f after ≡ f before
of_kept f each before after kept = sym (each after) ∙ ap f kept ∙ each before

-- ---- the network

-- The systems live that did, stand where they stood, and start with what they started with; only what is in flight on
-- the links is another; and the last change is the same.
pub record KeepsNetwork (w w' : WorldState) : Type 0 where
  pub systems : live_stations w'.stations ≡ live_stations w.stations
  pub places : (number : ℕ) → clock_place w'.stations number ≡ clock_place w.stations number
  pub setups : setups_of w'.stations ≡ setups_of w.stations
  pub links : DifferInFlight w.net.channels w'.net.channels
  pub change : w'.last_change ≡ w.last_change

pub keeps_on : (first second third : WorldState) → KeepsNetwork first second → KeepsNetwork second third
    → KeepsNetwork first third
keeps_on first second third f g = record {
  systems = g.systems ∙ f.systems;
  places = λ number. g.places number ∙ f.places number;
  setups = g.setups ∙ f.setups;
  links = g.links ∙ f.links;
  change = g.change ∙ f.change;
}

-- the links alone are others
pub net_keeps : (w : WorldState) (net : Net) → DifferInFlight w.net.channels net.channels
    → KeepsNetwork w (record w { net = net })
net_keeps w net links = record {
  systems = refl;
  places = λ number. refl;
  setups = refl;
  links = links;
  change = refl;
}

-- a network by what Sync has to cross
abbrev network_by : SettlingParams → ℕ → ℕ → SyncPaths → WorldState → Network
network_by p m start paths w = network_with p m start (in_turn p paths) w

module _ (w w' : WorldState) (k : KeepsNetwork w w') where
  links_kept : used_channels (live_stations w'.stations) w'.net.channels
      ≡ used_channels (live_stations w.stations) w.net.channels
  links_kept =
      let systems = live_stations w.stations in
      ap (λ s. used_channels s w'.net.channels) k.systems
      ∙ of_kept (used_channels systems) (used_bare systems) w.net.channels w'.net.channels k.links

  pub delay_kept : delay_in w' ≡ delay_in w
  delay_kept =
      let systems = live_stations w.stations in
      ap (λ s. greatest_channel_delay s w'.net.channels) k.systems
      ∙ of_kept (greatest_channel_delay systems) (delay_bare systems) w.net.channels w'.net.channels k.links

  lanes_kept : (port : PortIdentity) → lane_of w'.net.channels port ≡ lane_of w.net.channels port
  lanes_kept port =
      of_kept (λ channels. lane_of channels port) (lane_bare port) w.net.channels w'.net.channels k.links

  logs_kept : (port : PortIdentity) → log_of w'.stations port ≡ log_of w.stations port
  logs_kept port =
      λ i. option_map_or (λ (setup : Setup). log_at setup port.port)
      (slice_get (k.setups i) (k.places port.clock i)) (pos 0)

  pub same_snapshot : snapshot_of w' ≡ snapshot_of w
  same_snapshot = λ i. record { systems = k.systems i; links = links_kept i }

  -- Sync has the same to cross
  pub same_paths : sync_paths_of w' ≡ sync_paths_of w
  same_paths = λ i. record { systems = path_bound (same_snapshot i); delay = delay_kept i }

  pub same_network_with : (p : SettlingParams) (m start : ℕ) (times : SettlingTimes)
      → network_with p m start times w' ≡ network_with p m start times w
  same_network_with p m start times = λ i. record {
    graph = same_snapshot i;
    reach = m;
    place = λ number. k.places number i;
    lane = λ port. lanes_kept port i;
    log_of = λ port. logs_kept port i;
    interval_of = λ port. interval_of (logs_kept port i);
    interval = largest_interval p;
    most = delay_kept i;
    timeout = p.params.timeout;
    gone = k.change i + 2 * largest_interval p;
    start = if times.past then k.change i + 2 * largest_interval p else start;
    bare = start;
    off = start;
    ready = λ port. start;
    sound = sound_kept i;
    syncs = record {
      interval = interval_of p.params.sync;
      residence = p.params.residence;
      span = lapse_span p.params;
    };
    sync_wait = times.wait;
    slack = times.slack;
    step = times.step;
    claimed = λ d port. sound_kept i + times.wait + d * times.lag;
    until = λ d port. sound_kept i + times.wait + d * times.lag + largest_interval p;
  }
    where
      sound_kept : sound_from p m start times w' ≡ sound_from p m start times w
      sound_kept = λ i. max (if times.past then k.change i + 2 * largest_interval p
          + m * (p.params.timeout * largest_interval p + delay_kept i) else 0) start

  pub same_at_once : (p : SettlingParams) (m start : ℕ) → network_at_once p m start w' ≡ network_at_once p m start w
  same_at_once p m start =
      ap (λ delay. network_with p m start
      (record { slack = largest_interval p; step = delay; wait = 0; lag = 0; past = true }) w') delay_kept
      ∙ same_network_with p m start (at_once p w)

  pub same_network : (p : SettlingParams) (m start : ℕ) → network_of p m start w' ≡ network_of p m start w
  same_network p m start =
      ap (λ delay. network_by p m start (record { systems = m; delay = delay }) w') delay_kept
      ∙ same_network_with p m start (in_turn p (paths_with m w))

  -- links that are quiet stay so
  pub links_quiet : (p : Params) → HaveQuietLinks p w → HaveQuietLinks p w'
  links_quiet p quiet link channel here used =
      let (old, stands, same) = alike bare bare w.net.channels w'.net.channels (sym k.links) link channel here in
      let uses : channel_is_used (live_stations w.stations) old ≡ true =
      ap (channel_is_used (live_stations w.stations)) same
      ∙ ap (λ s. channel_is_used s channel) (sym k.systems) ∙ used in
      let is = quiet link old stands uses in
      let bounds = ap (λ (c : Channel). c.bounds) same in
      record { lossless = rw⁻¹ bounds is.lossless; good = rw⁻¹ bounds is.good }

  pub stays_quiet_with : (p : Params) (m : ℕ) → IsQuietWith p (paths_with m w) w
      → IsQuietWith p (paths_with m w') w'
  stays_quiet_with p m quiet = record {
    links = links_quiet p quiet.links;
    lapses = subst (λ delay. SyncsComeInTime p (record { systems = m; delay = delay })) (sym delay_kept) quiet.lapses;
  }

  pub stays_quiet : (p : Params) → IsQuietWorld p w → IsQuietWorld p w'
  stays_quiet p quiet =
      stays_quiet_with p (path_bound (snapshot_of w'))
      (subst (λ g. IsQuietWith p (paths_with (path_bound g) w) w) (sym same_snapshot) quiet)

-- time that passes leaves a quiet world quiet
pub later_quiet : (p : Params) (w : WorldState) (time : ℕ) → IsQuietWorld p w → IsQuietWorld p (at time w)
later_quiet p w time quiet = record { links = quiet.links; lapses = quiet.lapses }

-- and it was quiet before
pub earlier_quiet : (p : Params) (m : ℕ) (w : WorldState) (time : ℕ) → IsQuietWith p (paths_with m w) (at time w)
    → IsQuietWith p (paths_with m w) w
earlier_quiet p m w time quiet = record { links = quiet.links; lapses = quiet.lapses }

-- ---- acts

-- a call that sets no priority1
pub calls_keep : (place : ℕ) (input : Input) (w : WorldState) (draws : List Draw) (answer : Answer) (w' : WorldState)
    → ((value : ℕ) → input ≢ Priority value) → Calls place input w draws answer w' → KeepsNetwork w w'
calls_keep place input w draws answer w' other k =
    subst (KeepsNetwork w) (sym k.is)
    (record {
      systems = systems_kept w.stations place k.station called k.here refl stands;
      places = places_kept w.stations place k.station called k.here named;
      setups = map-set_same (λ (x : Station). x.setup) w.stations place k.station called k.here refl;
      links = calls_bare place input w draws answer w' k;
      change = refl;
    })
  where
    called : Station
    called = in_state k.after k.station

    named : clock k.after ≡ clock k.station.system
    named = same_clock input w.time k.station.system k.after k.sends answer k.steps

    stands : standing_system called ≡ standing_system k.station
    stands =
        let same = (steps_steady input w.time k.station.system k.after k.sends answer other k.steps).identity in
        let count = same_ports input w.time k.station.system k.after k.sends answer k.steps in
        rw (same, count) refl

hears_keep : (place port : ℕ) (octets : List ℕ) (w : WorldState) (draws : List Draw) (answer : Option Answer)
    (w' : WorldState) → Hears place port octets w draws answer w' → KeepsNetwork w w'
hears_keep place port octets w draws (Some answer) w' hears =
    calls_keep place (FrameHeard port octets) w draws answer w' (λ value e. cc) hears
hears_keep place port octets w draws None w' hears = subst (KeepsNetwork w) (sym hears.2) (net_keeps w w.net refl)

pub delivers_keep : (link : ℕ) (direction : Direction) (octets : List ℕ) (w : WorldState) (draws : List Draw)
    (answer : Option Answer) (w' : WorldState) → Delivers link direction octets w draws answer w' → KeepsNetwork w w'
delivers_keep link direction octets w draws answer w' k =
    let taken : WorldState = record w { net = k.net } in
    keeps_on w taken w'
    (net_keeps w k.net (takes_bare link direction w.time octets k.channel w.net k.net k.takes))
    (hears_keep k.place (receiver direction k.channel).port octets taken draws answer w' k.hears)

pub expires_keep : (place : ℕ) (timer : Timer) (w : WorldState) (draws : List Draw) (w' : WorldState)
    → TimerRunsOut place timer w draws w' → KeepsNetwork w w'
expires_keep place timer w draws w' k =
    let at : WorldState = stopped place timer w in
    keeps_on w at w' (net_keeps w at.net refl)
    (calls_keep place (TimerExpires timer) at draws k.answer w' (λ value e. cc) k.calls)

pub acts_keep : (act : Act) (w : WorldState) (draws : List Draw) (done : Done) (w' : WorldState) → IsNoChange act
    → Acts act w draws done w' → KeepsNetwork w w'
acts_keep (Deliver link direction) w draws done w' none k =
    delivers_keep link direction k.octets w draws k.answer w' k.delivers
acts_keep (Expire number timer) w draws done w' none (told, k) = expires_keep k.place timer w draws w' k.so
acts_keep (Changing change) w draws done w' none k = absurd none
