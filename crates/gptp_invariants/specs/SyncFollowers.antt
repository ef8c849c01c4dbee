-- The systems of a world that follow a parent, and what their ways are made of, as the machine of gptp_sync_machine
-- asks.
use Rattle.std.specs.Prelude.{◌≡◌, ◌&&◌, ◌||◌, ℕ, suc, ℤ, pos, true, if◌then◌else◌, List, [], ◌∷◌, Option, Some, None, slice_get}
use Rattle.std.specs.Option.{option_and_then, option_map_or}
use Rattle.gptp_graph.specs.Distance.{IsNear}
use Rattle.gptp_graph.specs.Parent.{ParentLink, IsParent}
use Rattle.gptp_graph.specs.Snapshot.{PortIdentity, System}
use Rattle.gptp_links.specs.declared.bounds.Bounds.{Bounds}
use Rattle.gptp_links.specs.declared.link.Direction.{Direction}
use Rattle.gptp_setup.specs.declared.setup.Params.{Params}
use Rattle.gptp_setup.specs.declared.setup.Setup.{Setup}
use Rattle.gptp_setup.specs.Stamping.{behind_of, blur_of, rate_interval}
use Rattle.gptp_roles.specs.Selection.{clock_of}
use Rattle.gptp_system.specs.State.{SystemState}
use Rattle.gptp_system.specs.Takeover.{reads_own}
use Rattle.gptp_error_laws.specs.TimeError.{Way}
use Rattle.gptp_model.specs.declared.station.Station.{Station}
use Rattle.gptp_model.specs.World.{Channel, WorldState, receiver, sender}
use Rattle.gptp_sync_machine.specs.Follower.{Follower, FollowerSetting}
use Rattle.gptp_sync_machine.specs.Tree.{IsWayTo, Parts, follower_of}
use Rattle.gptp_invariants.specs.ChoiceCalm.{has_port_id, clock_place, setups_of}
use Rattle.gptp_invariants.specs.SyncFollowView.{follower_view}
use Rattle.gptp_invariants.specs.DelayLinkView.{LinkPlace, setup_stamps}
use Rattle.gptp_invariants.specs.DelayMeasured.{StationIsLiveAt}
use Rattle.gptp_invariants.specs.WorldStanding.{channel_is_used, live_stations, snapshot_of}
use Rattle.gptp_invariants.specs.ChoiceView.{port_identity_number}

-- ---- parts of ways

-- a number of what the system with a clock is set up with; this one where there is no such system
abbrev pub set_up_with : {X : Type 0} → (Setup → X) → X → List Station → ℕ → X
set_up_with f none stations clock = option_map_or f (slice_get (setups_of stations) (clock_place stations clock)) none

-- a bound of the link in use at a port; 0 where there is none
abbrev pub bound_at : (Bounds → ℕ) → List System → List Channel → PortIdentity → ℕ
bound_at f systems [] port = 0
bound_at f systems (channel ∷ channels) port =
    if channel_is_used systems channel && (has_port_id channel.a port || has_port_id channel.b port)
    then f channel.bounds
    else bound_at f systems channels port

-- the time stamps that the system with a clock takes of it, by its setup
abbrev pub stamps_of : List Station → ℕ → ℕ → ℤ
stamps_of stations clock = set_up_with setup_stamps (λ t. pos 0) stations clock

-- the drifts and phases of clocks are those of the setups, and delays those of the links in use
abbrev pub follower_parts : Params → WorldState → Parts
follower_parts p w = record {
  drift = set_up_with (λ setup. setup.drift) (pos 0) w.stations;
  phase = set_up_with (λ setup. setup.phase) 0 w.stations;
  least = bound_at (λ b. b.min) (live_stations w.stations) w.net.channels;
  most = bound_at (λ b. b.max) (live_stations w.stations) w.net.channels;
  blur = blur_of p;
  behind = behind_of p;
  interval = rate_interval p;
  turnaround = p.turnaround;
  residence = p.residence;
}

-- ---- what a root tells

-- by how much what a system tells is ahead of its clock, once it has taken over
abbrev pub told_base : SystemState → Option ℤ
told_base s = if reads_own s.reads then Some s.base else None

-- that of the system with a clock
abbrev pub base_at : List Station → ℕ → Option ℤ
base_at stations number =
    option_and_then (λ (station : Station). told_base station.system) (slice_get stations (clock_place stations number))

-- that of the root of a system
abbrev pub root_base : WorldState → SystemState → Option ℤ
root_base w s = base_at w.stations (clock_of s.root)

-- ---- systems that follow

-- a link as its receiving system has it, where it leads to the parent
abbrev pub parent_link : Direction → Channel → ParentLink
parent_link direction channel = record {
  own_port = (receiver direction channel).port;
  clock = (sender direction channel).clock;
  port = (sender direction channel).port;
}

-- At this place stands a link that is up and loses nothing, from the parent of a near live system to that. Where the
-- parent stands is `asking` of the place, and where the system stands `answering`.
pub record IsFollower (at : LinkPlace) (w : WorldState) : Type 0 where
  pub channel : Channel
  pub here : slice_get w.net.channels at.link ≡ Some channel
  pub used : channel_is_used (live_stations w.stations) channel ≡ true
  pub lossless : channel.bounds.loss ≡ 0
  pub above : StationIsLiveAt at.asking (sender at.direction channel).clock w
  pub own : StationIsLiveAt at.answering (receiver at.direction channel).clock w
  pub near : IsNear (snapshot_of w) (receiver at.direction channel).clock
  pub parent : IsParent (snapshot_of w) (receiver at.direction channel).clock (parent_link at.direction channel)

-- its clock, its state, and that of its parent
abbrev pub follower_clock : (at : LinkPlace) (w : WorldState) → IsFollower at w → ℕ
follower_clock at w f = (receiver at.direction f.channel).clock

abbrev pub follower_state : (at : LinkPlace) (w : WorldState) → IsFollower at w → SystemState
follower_state at w f = f.own.station.system

abbrev pub state_above : (at : LinkPlace) (w : WorldState) → IsFollower at w → SystemState
state_above at w f = f.above.station.system

-- what is seen of it
abbrev pub follower : (at : LinkPlace) (w : WorldState) → IsFollower at w → Follower
follower at w f = follower_view w.time at.direction f.channel (follower_state at w f)

-- ---- its way

-- it has a way with so many links and one more, and takes these time stamps of its clock
pub record HasWay (p : Params) (at : LinkPlace) (w : WorldState) (f : IsFollower at w) (steps : ℕ) : Type 0 where
  pub way : Way
  pub phase : ℕ → ℕ
  pub stamps : ℕ → ℤ
  pub is : IsWayTo (follower_parts p w) (snapshot_of w) (suc steps) (follower_clock at w f) way phase
  pub stamped : stamps ≡ stamps_of w.stations (follower_clock at w f)

-- the setting that it then has, in a network that is settled from a time on, where no delay is above the longest, and
-- the root tells time by the base that it has
abbrev pub follower_setting : (p : Params) (settled longest : ℕ) (at : LinkPlace) (w : WorldState)
    (f : IsFollower at w) (steps : ℕ) → HasWay p at w f steps → FollowerSetting
follower_setting p settled longest at w f steps h =
    follower_of h.way h.phase (root_base w (follower_state at w f)) steps h.stamps
    (port_identity_number (sender at.direction f.channel)) settled longest
