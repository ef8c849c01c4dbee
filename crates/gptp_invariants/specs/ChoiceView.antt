-- A world as the machine of gptp_bmca_machine sees it.
use Rattle.std.specs.Prelude.{◌≡◌, ℕ, ◌+◌, ◌*◌, ℤ, Bool, true, List, [], ◌∷◌, map, Option}
use Rattle.std.specs.Option.{option_map}
use Rattle.gptp_graph.specs.Snapshot.{PortIdentity, port_of}
use Rattle.gptp_vector.specs.declared.port.PortId.{PortId}
use Rattle.gptp_messages.specs.declared.announce.AnnounceView.{AnnounceView}
use Rattle.gptp_messages.specs.declared.follow_up.FollowUp.{FollowUp as FollowUpView}
use Rattle.gptp_messages.specs.declared.head.Head.{Head}
use Rattle.gptp_messages.specs.declared.message.Message.TheVariants as messages
use Rattle.gptp_messages.specs.Grammar.{Reads}
use Rattle.gptp_links.specs.declared.link.Direction.{Direction}
use Rattle.gptp_links.specs.declared.link.Direction.TheVariants.{FromA, FromB}
use Rattle.gptp_links.specs.Queue.{Frame}
use Rattle.gptp_receipt.specs.declared.held.Held.{Held}
use Rattle.gptp_receipt.specs.declared.held.Held.TheVariants as helds
use Rattle.gptp_receipt.specs.declared.held.Reception.{Reception}
use Rattle.gptp_correction.specs.SyncIn.{KeptSync}
use Rattle.gptp_system.specs.declared.port.Port.{Port}
use Rattle.gptp_system.specs.declared.sending.Sending.{Sending}
use Rattle.gptp_setup.specs.Intervals.{interval_of}
use Rattle.gptp_setup.specs.SettlingParams.{span_by}
use Rattle.gptp_system.specs.State.{SystemState, clock, trace}
use Rattle.gptp_system.specs.Touch.{Touch, Hear, Tick, Grow, Enable, Disable, Other}
use Rattle.gptp_model.specs.declared.station.Station.{Station}
use Rattle.gptp_model.specs.Sends.{written}
use Rattle.gptp_model.specs.World.{Channel, WorldState, sender, receiver, world_queue}
use Rattle.gptp_bmca_machine.specs.Frame.{Announce, Spelling, SyncId, Sync, FollowUp, SaysSync, AnnounceFrame as SeenFrame, Lane, Send}
use Rattle.gptp_bmca_machine.specs.Station.{Reception as SeenReception, Held as SeenHeld, Disabled, Aged, Mine, Received, Port as SeenPort, Station as SeenStation, MachineState}
use Rattle.gptp_bmca_machine.specs.Touch.{StationTouch as SeenTouch}
use Rattle.gptp_bmca_machine.specs.Touch as touches

-- ---- octets

-- a port by the clock of its system and its number
abbrev pub port_identity_number : PortId → PortIdentity
port_identity_number p = port_of p.clock p.port

-- what an Announce says of the root, the way to it, and the interval of its sender (IEEE 802.1AS-2020, 10.6.3)
abbrev pub said : AnnounceView → Announce
said a = record {
  root = a.body.root;
  steps = a.body.steps;
  source = port_identity_number a.head.source;
  log = a.head.log_interval;
  path = a.path;
}

-- octets say an Announce exactly where they read as one
abbrev pub says_announce : Spelling
says_announce octets a = (m : AnnounceView) × Reads octets (messages.Announce m) × (a ≡ said m)

-- what the header of a Sync and of its Follow_Up have in common
abbrev pub sync_id : Head → SyncId
sync_id head = record { source = port_identity_number head.source; sequence = head.sequence }

-- octets say a Sync exactly where they read as one of two steps, and a Follow_Up where they read as one
abbrev pub says_sync : SaysSync
says_sync octets (Sync id) =
    (head : Head) × Reads octets (messages.Sync head) × (head.two_step ≡ true) × (id ≡ sync_id head)
says_sync octets (FollowUp id) = (m : FollowUpView) × Reads octets (messages.FollowUp m) × (id ≡ sync_id m.head)

-- ---- systems

-- How long what a port of a system receives stays there, by the interval that its Announce named:
-- announceReceiptTimeout times that (10.7.3.2).
abbrev pub span_at : SystemState → ℤ → ℕ
span_at s log = span_by s.params.timeout s.largest log

-- what was received, as an Announce that stays for the span of the interval that it named
abbrev pub reception_view : (ℤ → ℕ) → Reception → SeenReception
reception_view keep r = record {
  said = record {
    root = r.vector.root;
    steps = r.vector.steps;
    source = port_identity_number r.vector.source;
    log = r.interval;
    path = r.path;
  };
  at = r.at;
  span = keep r.interval;
}

-- what a port holds, where what is received stays for the span of the interval that it named
abbrev pub held_view : (ℤ → ℕ) → Held → SeenHeld
held_view keep helds.Disabled = Disabled
held_view keep helds.Aged = Aged
held_view keep (helds.Mine root steps) = Mine root steps
held_view keep (helds.Received r) = Received (reception_view keep r)

-- a port, with what it holds
abbrev pub port_view : (ℤ → ℕ) → Held → Port → SeenPort
port_view keep h q = record {
  held = held_view keep h;
  log = q.log_interval;
  interval = interval_of q.log_interval;
  announce = q.announce;
}

-- the ports of a system, each with what it holds
abbrev pub ports_view : (ℤ → ℕ) → List Held → List Port → List SeenPort
ports_view keep [] qs = []
ports_view keep (h ∷ hs) [] = []
ports_view keep (h ∷ hs) (q ∷ qs) = port_view keep h q ∷ ports_view keep hs qs

-- the Sync that a system keeps
abbrev pub kept_view : SystemState → Option SyncId
kept_view s = option_map (λ (k : KeptSync). record
    { source = port_identity_number k.source; sequence = k.sequence }) s.sync_in

-- a system in this state
abbrev pub system_view : Bool → SystemState → SeenStation
system_view live s = record {
  live = live;
  clock = clock s;
  identity = s.identity;
  ports = ports_view (span_at s) s.held s.ports;
  root = s.root;
  steps = s.steps;
  slave = s.slave;
  trace = trace s;
  kept = kept_view s;
  sync = s.sync;
  relay = s.relay;
  lapse = s.lapse;
}

abbrev pub station_view : Station → SeenStation
station_view station = system_view station.live station.system

-- what a system sends, with the octets that it writes in this state
abbrev pub send_view : SystemState → Sending → Send
send_view s x = record { port = x.port; octets = written s x }

-- an input, so far as Announces are concerned
abbrev pub touch_view : Touch → SeenTouch
touch_view (Hear p a) = touches.Hear p (said a)
touch_view (Tick p) = touches.Tick p
touch_view (Grow p) = touches.Grow p
touch_view (Enable p) = touches.Enable p
touch_view (Disable p) = touches.Disable p
touch_view Other = touches.Other

-- ---- links

-- a frame in flight
abbrev pub frame_view : Frame → SeenFrame
frame_view f = record { due = f.due; octets = f.octets }

-- one direction of a link
abbrev pub lane_view : Direction → Channel → Lane
lane_view direction channel = record {
  from = port_identity_number (sender direction channel);
  to = port_identity_number (receiver direction channel);
  loss = channel.bounds.loss;
  is_up = channel.up;
  frames = map frame_view (world_queue direction channel);
}

-- each link twice, once each way
abbrev pub lanes_view : List Channel → List Lane
lanes_view [] = []
lanes_view (channel ∷ channels) = lane_view FromA channel ∷ lane_view FromB channel ∷ lanes_view channels

-- where the lane of a link in a direction stands
abbrev pub lane_place : ℕ → Direction → ℕ
lane_place link FromA = 2 * link
lane_place link FromB = 2 * link + 1

-- ---- the whole world

abbrev pub view : WorldState → MachineState
view w = record {
  time = w.time;
  stations = map station_view w.stations;
  lanes = lanes_view w.net.channels;
}
