-- A calm world, and the network of the machine of gptp_bmca_machine that it then has.
use Rattle.std.specs.Prelude.{◌≡◌, ◌≢◌, ◌≤◌, ◌+◌, ◌*◌, ◌==◌, ◌&&◌, ℕ, suc, ℤ, pos, max, nat_lt, Bool, true, if◌then◌else◌, List, [], ◌∷◌, map, Some, slice_get}
use Rattle.std.specs.Option.{option_map_or}
use Rattle.gptp_graph.specs.PathBound.{path_bound}
use Rattle.gptp_graph.specs.Snapshot.{IsLinked, PortIdentity, Snapshot, System}
use Rattle.gptp_vector.specs.declared.port.PortId.{PortId}
use Rattle.gptp_links.specs.declared.link.Direction.TheVariants.{FromA, FromB}
use Rattle.gptp_pdelay.specs.GoodLink.{IsGoodLink}
use Rattle.gptp_receipt.specs.declared.held.Held.{Held}
use Rattle.gptp_receipt.specs.declared.held.Held.TheVariants.{Disabled}
use Rattle.gptp_setup.specs.declared.setup.Params.{Params}
use Rattle.gptp_setup.specs.Stamping.{blur_of}
use Rattle.gptp_setup.specs.declared.setup.Setup.{Setup}
use Rattle.gptp_setup.specs.Intervals.{interval_of}
use Rattle.gptp_setup.specs.SettlingParams.{SettlingParams, lapse_span, largest_interval}
use Rattle.gptp_system.specs.State.{clock, number}
use Rattle.gptp_scenario.specs.Calm.{SyncsComeInTime}
use Rattle.gptp_scenario.specs.SyncWait.{step_more, sync_wait}
use Rattle.gptp_scenario.specs.declared.sync_wait.SyncPaths.{SyncPaths}
use Rattle.gptp_model.specs.declared.station.Station.{Station}
use Rattle.gptp_model.specs.World.{Channel, WorldState}
use Rattle.gptp_bmca_machine.specs.Network.{Network}
use Rattle.gptp_invariants.specs.WorldDue.{OfEachPort}
use Rattle.gptp_invariants.specs.ChoiceView.{port_identity_number, lane_place}
use Rattle.gptp_invariants.specs.WorldStanding.{channel_is_used, live_stations, snapshot_of}

-- ---- links

-- a link loses nothing, and is short enough for the threshold by time stamps
pub record IsQuietLink (p : Params) (channel : Channel) : Type 0 where
  pub lossless : channel.bounds.loss ≡ 0
  pub good : IsGoodLink (channel.bounds.max + blur_of p) p.turnaround p.threshold

-- each link that is up between two live systems loses nothing, and is short enough for the threshold
abbrev pub HaveQuietLinks : Params → WorldState → Type 0
HaveQuietLinks p w = (link : ℕ) (channel : Channel) → slice_get w.net.channels link ≡ Some channel
    → channel_is_used (live_stations w.stations) channel ≡ true → IsQuietLink p channel

-- the greatest delay of these links, where they are up between two of these systems, or 0
abbrev pub greatest_channel_delay : List System → List Channel → ℕ
greatest_channel_delay systems [] = 0
greatest_channel_delay systems (channel ∷ channels) =
    if channel_is_used systems channel
    then max channel.bounds.max (greatest_channel_delay systems channels)
    else greatest_channel_delay systems channels

-- that of the links that are up between two live systems
abbrev pub delay_in : WorldState → ℕ
delay_in w = greatest_channel_delay (live_stations w.stations) w.net.channels

-- ---- Syncs

-- what Sync has to cross in a world where no path has more than m systems
abbrev pub paths_with : ℕ → WorldState → SyncPaths
paths_with m w = record { systems = m; delay = delay_in w }

-- where gptp_graph reads that number off the links: two, and those systems that have two neighbours
abbrev pub sync_paths_of : WorldState → SyncPaths
sync_paths_of w = paths_with (path_bound (snapshot_of w)) w

-- Each link that is up between two live systems is quiet, and nothing lapses for want of Sync where it has these paths
-- to cross: syncReceiptTimeout is 0, or a settled system waits for Sync for less.
pub record IsQuietWith (p : Params) (paths : SyncPaths) (w : WorldState) : Type 0 where
  pub links : HaveQuietLinks p w
  pub lapses : SyncsComeInTime p paths

-- a world is quiet by its own paths, as they are read off its links: each link that is up between two live systems is
-- quiet, and nothing lapses for want of Sync
abbrev pub IsQuietWorld : Params → WorldState → Type 0
IsQuietWorld p w = IsQuietWith p (sync_paths_of w) w

-- for how long at most a settled system waits for Sync where something can lapse; where nothing can it needn't wait
abbrev pub wait_with : Params → SyncPaths → ℕ
wait_with p paths = if nat_lt (sync_wait p paths) (lapse_span p) then sync_wait p paths else 0

-- how long a step of distance takes
abbrev pub step_with : SettlingParams → SyncPaths → ℕ
step_with p paths = 2 * largest_interval p + step_more p paths

-- How long settling takes, as the machine of gptp_bmca_machine has it: anyway, for each step of distance, and for a
-- Sync; how much later claims are made of links by each step; and whether all that is held has to become clean first.
pub record SettlingTimes : Type 0 where
  pub slack : ℕ
  pub step : ℕ
  pub wait : ℕ
  pub lag : ℕ
  pub past : Bool

-- where something may lapse, system by system: each step of distance takes a wait for a Sync and for an Announce
abbrev pub in_turn : SettlingParams → SyncPaths → SettlingTimes
in_turn p paths = record {
  slack = 0;
  step = step_with p paths;
  wait = wait_with p.params paths;
  lag = step_with p paths;
  past = true;
}

-- where nothing does, all at once: after the largest announce interval each step takes the greatest delay
abbrev pub at_once : SettlingParams → WorldState → SettlingTimes
at_once p w = record { slack = largest_interval p; step = delay_in w; wait = 0; lag = 0; past = true }

-- ---- places

-- where the system with this clock stands
abbrev pub clock_place : List Station → ℕ → ℕ
clock_place [] number = 0
clock_place (station ∷ stations) number =
    if clock station.system == number then 0 else suc (clock_place stations number)

-- the port has this clock and number
abbrev pub has_port_id : PortId → PortIdentity → Bool
has_port_id p port = p.clock == port.clock && p.port == port.port

-- Where the lane stands that begins at this port: it is one of the first link, or it stands two places after where it
-- stands among the lanes of the others.
abbrev pub lane_of : List Channel → PortIdentity → ℕ
lane_of [] port = 0
lane_of (channel ∷ channels) port =
    if has_port_id channel.a port then lane_place 0 FromA
    else (if has_port_id channel.b port then lane_place 0 FromB else suc (suc (lane_of channels port)))

-- ---- intervals

-- the announce interval, as a logarithm, that a system is set up with for the port of this number; 0 where it has none
abbrev pub log_at : Setup → ℕ → ℤ
log_at setup n = option_map_or (λ log. log) (number setup.intervals.items n) (pos 0)

-- what systems are set up with
abbrev pub setups_of : List Station → List Setup
setups_of stations = map (λ (station : Station). station.setup) stations

-- the announce interval of a port, by where the system of its clock stands
abbrev pub log_of : List Station → PortIdentity → ℤ
log_of stations port =
    option_map_or (λ (setup : Setup). log_at setup port.port)
    (slice_get (setups_of stations) (clock_place stations port.clock)) (pos 0)

-- ---- ports

-- a port that holds this is Disabled exactly where no link of the snapshot is at it
pub record IsCapableAt (g : Snapshot) (itself : PortId) (h : Held) : Type 0 where
  pub capable : IsLinked g (port_identity_number itself) → h ≢ Disabled
  pub unlinked : (IsLinked g (port_identity_number itself) → ⊥) → h ≡ Disabled

-- from this time on it is so of each port of a live system
abbrev pub AreCapableFrom : ℕ → WorldState → Type 0
AreCapableFrom start w = start ≤ w.time → OfEachPort (λ itself h q. IsCapableAt (snapshot_of w) itself h) w

-- ---- the network

-- when traces are wholly clean in a world no path of which has more than m systems: frames that were in flight at the
-- last change are gone two intervals later, and that is m turns after
abbrev pub clean_from : SettlingParams → ℕ → WorldState → ℕ
clean_from p m w = w.last_change + 2 * largest_interval p + m * (p.params.timeout * largest_interval p + delay_in w)

-- From any past claims on traces are made once old frames are gone, and all that is held is sound from when it is
-- wholly clean and ports are capable. After news, where all is sound, nothing has to become clean.
abbrev pub traces_from : SettlingParams → ℕ → SettlingTimes → WorldState → ℕ
traces_from p start times w = if times.past then w.last_change + 2 * largest_interval p else start

abbrev pub sound_from : SettlingParams → ℕ → ℕ → SettlingTimes → WorldState → ℕ
sound_from p m start times w = max (if times.past then clean_from p m w else 0) start

-- The network that a world has, no path of which has more than m systems, of which ports are capable from this time on,
-- and which settles in these times. Each port has its own announce interval. All that is held is sound from when it is
-- wholly clean and ports are capable.
abbrev pub network_with : SettlingParams → ℕ → ℕ → SettlingTimes → WorldState → Network
network_with p m start times w = record {
  graph = snapshot_of w;
  reach = m;
  place = clock_place w.stations;
  lane = lane_of w.net.channels;
  log_of = log_of w.stations;
  interval_of = λ port. interval_of (log_of w.stations port);
  interval = largest_interval p;
  most = delay_in w;
  timeout = p.params.timeout;
  gone = w.last_change + 2 * largest_interval p;
  start = traces_from p start times w;
  bare = start;
  off = start;
  ready = λ port. start;
  sound = sound_from p m start times w;
  syncs = record {
    interval = interval_of p.params.sync;
    residence = p.params.residence;
    span = lapse_span p.params;
  };
  sync_wait = times.wait;
  slack = times.slack;
  step = times.step;
  claimed = λ d port. sound_from p m start times w + times.wait + d * times.lag;
  until = λ d port. sound_from p m start times w + times.wait + d * times.lag + largest_interval p;
}

-- The network that a world has which settles with the wait and the step that its paths of at most m systems ask for.
-- Without a syncReceiptTimeout no Sync is waited for, and a step takes two of the largest intervals.
abbrev pub network_of : SettlingParams → ℕ → ℕ → WorldState → Network
network_of p m start w =
    network_with p m start (in_turn p (paths_with m w)) w

-- where nothing lapses it settles at once too
abbrev pub network_at_once : SettlingParams → ℕ → ℕ → WorldState → Network
network_at_once p m start w = network_with p m start (at_once p w) w
