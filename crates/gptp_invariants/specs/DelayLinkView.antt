-- A world as the machine of gptp_pdelay_machine sees it at one link, in one direction.
use Rattle.std.specs.Prelude.{◌≡◌, ◌≢◌, ◌⊎◌, ◌≤◌, ◌<◌, ◌+◌, ◌-◌, ◌^◌, ℕ, ℤ, true, List, map, Option, Some, None, is_some, slice_get}
use Rattle.std.specs.Option.{option_map_or}
use Rattle.gptp_lists.specs.Members.{In}
use Rattle.gptp_graph.specs.Snapshot.{PortIdentity, port_of}
use Rattle.gptp_vector.specs.declared.port.PortId.{PortId}
use Rattle.gptp_messages.specs.declared.head.Head.{Head}
use Rattle.gptp_messages.specs.declared.message.Message.TheVariants as messages
use Rattle.gptp_messages.specs.declared.peer_delay.PdelayResp.{PdelayResp}
use Rattle.gptp_messages.specs.declared.peer_delay.PdelayRespFollowUp.{PdelayRespFollowUp}
use Rattle.gptp_messages.specs.Frame.{PortFits}
use Rattle.gptp_messages.specs.Grammar.{Reads}
use Rattle.gptp_links.specs.declared.link.Direction.{Direction}
use Rattle.gptp_links.specs.declared.link.Direction.TheVariants.{FromA, FromB}
use Rattle.gptp_links.specs.Queue.{Frame}
use Rattle.gptp_roles.specs.Selection.{clock_of}
use Rattle.gptp_scaled.specs.declared.time_stamp.Stamping.{Stamping}
use Rattle.gptp_pdelay.specs.declared.answer.Answer.{Answer as Owed}
use Rattle.gptp_pdelay.specs.declared.progress.Progress.{Progress}
use Rattle.gptp_pdelay.specs.declared.progress.Progress.TheVariants as progresses
use Rattle.gptp_pdelay.specs.Clock.{clock_stamp}
use Rattle.gptp_pdelay.specs.Exchange.{carried_time}
use Rattle.gptp_pdelay.specs.GoodLink.{IsGoodLink}
use Rattle.gptp_pdelay.specs.Peer.{PeerState, is_capable}
use Rattle.gptp_system.specs.declared.port.Port.{Port}
use Rattle.gptp_setup.specs.declared.setup.Params.{Params}
use Rattle.gptp_setup.specs.declared.setup.Setup.{Setup}
use Rattle.gptp_setup.specs.Intervals.{interval_of}
use Rattle.gptp_setup.specs.Stamping.{blur_of}
use Rattle.gptp_system.specs.Measures.{Part, measure_at}
use Rattle.gptp_system.specs.State.{clock, number}
use Rattle.gptp_model.specs.declared.station.Station.{Station}
use Rattle.gptp_model.specs.World.{Channel, WorldState, world_queue, receiver, sender}
use Rattle.gptp_pdelay_machine.specs.Answerer.{Waiting}
use Rattle.gptp_pdelay_machine.specs.Asker.{Asker, Progress as SeenProgress, Closed, Asked, Answered}
use Rattle.gptp_pdelay_machine.specs.Lanes.{LaneFrame as SeenFrame}
use Rattle.gptp_pdelay_machine.specs.Messages.{Request, Reply, Response, FollowUp}
use Rattle.gptp_pdelay_machine.specs.Meter.{Kept, Meter}
use Rattle.gptp_pdelay_machine.specs.Pair.{Pair}
use Rattle.gptp_pdelay_machine.specs.Setting.{Setting}

-- ---- octets

-- a port by the clock of its system and its number
abbrev pub link_identity : PortId → PortIdentity
link_identity p = port_of p.clock p.port

-- the request of this port with that sequence
abbrev pub request_from : PortId → ℕ → Request
request_from source sequence = record { source = link_identity source; sequence = sequence }

-- octets say a request exactly where they read as a Pdelay_Req
abbrev pub reads_as_request : List ℕ → Request → Type 0
reads_as_request octets request = (head : Head) × Reads octets (messages.PdelayReq head)
    × (request ≡ request_from head.source head.sequence)

-- what a response says: who answers, which request, and the time that it carries
abbrev pub response_view : PdelayResp → Reply
response_view m =
    Response (link_identity m.head.source) (request_from m.requester m.head.sequence)
    (carried_time m.stamp m.head.correction)

-- what a follow-up says: who answers, which request, and the time that it carries
abbrev pub follow_up_view : PdelayRespFollowUp → Reply
follow_up_view m =
    FollowUp (link_identity m.head.source) (request_from m.requester m.head.sequence)
    (carried_time m.stamp m.head.correction)

-- octets say a reply exactly where they read as a Pdelay_Resp or as a Pdelay_Resp_Follow_Up
abbrev pub reads_as_reply : List ℕ → Reply → Type 0
reads_as_reply octets reply =
    ((m : PdelayResp) × Reads octets (messages.PdelayResp m) × (reply ≡ response_view m))
    ⊎ ((m : PdelayRespFollowUp) × Reads octets (messages.PdelayRespFollowUp m) × (reply ≡ follow_up_view m))

-- ---- ports

-- how far the last request has come
abbrev pub progress_view : Progress → SeenProgress
progress_view progresses.Closed = Closed
progress_view (progresses.Sent request) = Asked request.sequence request.t1
progress_view (progresses.Answered request response) =
    Answered request.sequence (link_identity response.source) request.t1 response.t2 response.t4

-- when the last request went: one period before the next one is due
abbrev pub asked_at : ℕ → Option ℕ → ℕ
asked_at period due = option_map_or (λ t. t - period) due 0

-- a port, as one that asks
abbrev pub asker_view : ℕ → Part → Asker
asker_view period x = record {
  asked = asked_at period x.pdelay;
  progress = progress_view x.peer.progress;
  measured = is_some x.peer.last;
  lost = x.peer.lost;
  capable = is_capable x.peer;
}

-- the answer that waits, where its timer runs
abbrev pub waits_by : Option ℕ → Option Owed → Option Waiting
waits_by (Some due) (Some owed) =
    Some (record { request = request_from owed.requester owed.sequence; t2 = owed.t2; due = due })
waits_by (Some due) None = None
waits_by None owed = None

-- a port, as one that answers
abbrev pub waits_view : Part → Option Waiting
waits_view x = waits_by x.respond x.peer.waiting

-- ---- the link

-- Where a link stands, in which direction the frames go that the asking port sends, and where the two stations stand.
pub record LinkPlace : Type 0 where
  pub link : ℕ
  pub direction : Direction
  pub asking : ℕ
  pub answering : ℕ

-- the other direction
abbrev pub other_direction : Direction → Direction
other_direction FromA = FromB
other_direction FromB = FromA

-- frames in flight
abbrev pub link_frame_view : Frame → SeenFrame
link_frame_view f = record { due = f.due; octets = f.octets }

abbrev pub link_lane_view : Direction → Channel → List SeenFrame
link_lane_view direction channel = map link_frame_view (world_queue direction channel)

-- how a system that is set up so stamps time, and the time stamps that it takes of its clock
abbrev pub setup_stamping : Setup → Stamping
setup_stamping setup = record {
  granularity = setup.params.granularity;
  most_noise = setup.params.noise;
  seed = setup.seed;
  clock = clock_of setup.identity;
}

abbrev pub setup_stamps : Setup → ℕ → ℤ
setup_stamps setup t = clock_stamp (setup_stamping setup) setup.phase setup.drift t

-- the link, with the setups of the systems of its asking and of its answering port
abbrev pub setting_view : Direction → Channel → Setup → Setup → Setting
setting_view direction channel asking answering = record {
  asking = link_identity (sender direction channel);
  answering = link_identity (receiver direction channel);
  most = channel.bounds.max;
  turnaround = answering.params.turnaround;
  period = interval_of asking.params.pdelay;
  allowed = asking.params.lost;
  window = asking.params.window;
  asking_clock = setup_stamps asking;
  answering_clock = setup_stamps answering;
}

-- the two ports and the lanes between them, where the asking port asks at this interval
abbrev pub pair_view : ℕ → ℕ → Direction → Channel → Part → Part → Pair
pair_view time period direction channel asking answering = record {
  time = time;
  asker = asker_view period asking;
  waits = waits_view answering;
  out = link_lane_view direction channel;
  back = link_lane_view (other_direction direction) channel;
}

-- ---- what must be known of a link

-- the request of a port with that sequence fits its octets
pub record RequestFits (source : PortId) (sequence : ℕ) : Type 0 where
  pub from : PortFits source
  pub numbered : sequence < 2 ^ 16

-- a request that octets say fits
abbrev pub RequestSaysWhatFits : List ℕ → Type 0
RequestSaysWhatFits octets = (head : Head) → Reads octets (messages.PdelayReq head)
    → RequestFits head.source head.sequence

-- A port measures: it is this one, with the parameters of its system; where its Pdelay timer runs that is due one
-- period from the beginning or later; and where its Respond timer runs there is an answer that fits.
pub record IsMeasuring (params : Params) (port : PortId) (x : Part) : Type 0 where
  pub own : x.peer.own ≡ port
  pub allowed : x.peer.allowed ≡ params.lost
  pub threshold : x.peer.threshold ≡ params.threshold
  pub window : x.peer.window ≡ params.window
  pub next : x.peer.next < 2 ^ 16
  pub asks : (due : ℕ) → x.pdelay ≡ Some due → interval_of params.pdelay ≤ due
  pub owes : (due : ℕ) → x.respond ≡ Some due
      → (owed : Owed) × (x.peer.waiting ≡ Some owed) × RequestFits owed.requester owed.sequence

-- a system has the parameters, the clock and the seed of its setup
pub record IsAsSetUp (station : Station) : Type 0 where
  pub params : station.system.params ≡ station.setup.params
  pub phase : station.system.phase ≡ station.setup.phase
  pub drift : station.system.drift ≡ station.setup.drift
  pub seed : station.system.seed ≡ station.setup.seed
  pub named : clock station.system ≡ clock_of station.setup.identity

-- the station at a place is live, as it was set up, and has this port, which measures
pub record IsEndAmong (place : ℕ) (port : PortId) (stations : List Station) : Type 0 where
  pub station : Station
  pub state : Port
  pub here : slice_get stations place ≡ Some station
  pub live : station.live ≡ true
  pub set_up : IsAsSetUp station
  pub named : clock station.system ≡ port.clock
  pub there : number station.system.ports port.port ≡ Some state
  pub measures : IsMeasuring station.setup.params port (measure_at state)

abbrev pub IsEndOf : ℕ → PortId → WorldState → Type 0
IsEndOf place port w = IsEndAmong place port w.stations

-- A link of this greatest delay is good between two systems with these parameters: it is short enough for the threshold
-- by time stamps, and both stamp time alike.
pub record IsGoodBetween (most : ℕ) (asking answering : Params) : Type 0 where
  pub short : IsGoodLink (most + blur_of asking) answering.turnaround asking.threshold
  pub granularity : answering.granularity ≡ asking.granularity
  pub noise : answering.noise ≡ asking.noise

-- At this place stands a link that is up, loses nothing and is good, between ports of two live stations that measure.
pub record IsLinkAmong (at : LinkPlace) (channels : List Channel) (stations : List Station) : Type 0 where
  pub channel : Channel
  pub here : slice_get channels at.link ≡ Some channel
  pub up : channel.up ≡ true
  pub lossless : channel.bounds.loss ≡ 0
  pub asking : IsEndAmong at.asking (sender at.direction channel) stations
  pub answering : IsEndAmong at.answering (receiver at.direction channel) stations
  pub apart : at.asking ≢ at.answering
  pub good : IsGoodBetween channel.bounds.max asking.station.setup.params answering.station.setup.params
  pub fit : (direction : Direction) (f : Frame) → In f (world_queue direction channel) → RequestSaysWhatFits f.octets

abbrev pub IsLinkOf : LinkPlace → WorldState → Type 0
IsLinkOf at w = IsLinkAmong at w.net.channels w.stations

-- what the machine takes as settled there
abbrev pub link_setting : (at : LinkPlace) (w : WorldState) → IsLinkOf at w → Setting
link_setting at w l = setting_view at.direction l.channel l.asking.station.setup l.answering.station.setup

-- what the machine sees of the link: the time, the port that asks, the answer that waits at the other, and the frames
-- in flight in both directions
abbrev pub pair : (at : LinkPlace) (w : WorldState) → IsLinkOf at w → Pair
pair at w l =
    pair_view w.time (interval_of l.asking.station.setup.params.pdelay) at.direction l.channel
    (measure_at l.asking.state) (measure_at l.answering.state)

-- what a port has measured since its reset
abbrev pub kept_view : PeerState → Kept
kept_view p = record { last = p.last; past = p.past }

-- with what the port that asks has measured
abbrev pub meter : (at : LinkPlace) (w : WorldState) → IsLinkOf at w → Meter
meter at w l = record { pair = pair at w l; kept = kept_view l.asking.state.peer }

-- no frame takes less than this, in ns
abbrev pub least_delay : (at : LinkPlace) (w : WorldState) → IsLinkOf at w → ℕ
least_delay at w l = l.channel.bounds.min
