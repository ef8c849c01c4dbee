-- An example run: two systems and a link, over which the better one announces itself again and again.
use Rattle.std.specs.Prelude.{◌≡◌, ◌+◌, ℕ, zero, suc, pred, pos, true, List, [], ◌∷◌, ◌++◌, Some, None}
use Rattle.gptp_graph.specs.Snapshot.{port_of}
use Rattle.gptp_bmca_machine.specs.Frame.{Announce, AnnounceFrame, Lane}
use Rattle.gptp_bmca_machine.specs.Station.{Reception, Mine, Received, Station, MachineState}
use Rattle.gptp_bmca_machine.specs.Network.{Network}

-- clocks 1 and 2, the first of which is better
abbrev pub first_identity : ℕ
first_identity = 0xf6f8fe436af80000000000000001

abbrev pub second_identity : ℕ
second_identity = 0xf6f8fe436af80000000000000002

-- The link joins port 1 of each. The announce interval is 4 everywhere, and its logarithm 2; the receipt timeout is two
-- intervals, and the link's delay 1; what comes from 1 on is theirs, claims are made from 5 on, and nothing lapses.
abbrev pub network : Network
network = record {
  graph = record {
    systems =
        record { clock = 1; identity = first_identity; ports = 1 }
        ∷ record { clock = 2; identity = second_identity; ports = 1 }
        ∷ [];
    links = record { a = port_of 1 1; b = port_of 2 1 } ∷ [];
  };
  reach = 2;
  place = pred;
  lane = λ p. pred p.clock;
  log_of = λ p. pos 2;
  interval_of = λ p. 4;
  interval = 4;
  most = 1;
  timeout = 2;
  gone = 1;
  start = 5;
  bare = 5;
  off = 5;
  ready = λ p. 5;
  sound = 23;
  syncs = record { interval = 1; residence = 0; span = 3 };
  sync_wait = 0;
  slack = 4;
  step = 1;
  claimed = λ d p. 23;
  until = λ d p. 27;
}

-- what the first system announces, and the octets that say so; no others say anything
abbrev pub announce : Announce
announce = record { root = first_identity; steps = 0; source = port_of 1 1; log = pos 2; path = 1 ∷ [] }

abbrev pub octets : List ℕ
octets = 11 ∷ []

abbrev pub example_says : List ℕ → Announce → Type 0
example_says text a = (text ≡ octets) × (a ≡ announce)

-- a system of one port that knows of itself alone, whose Announce timer is due at this time
abbrev pub lone : ℕ → ℕ → ℕ → Station
lone clock identity timer = record {
  live = true;
  clock = clock;
  identity = identity;
  ports = record { held = Mine identity 0; log = pos 2; interval = 4; announce = timer } ∷ [];
  root = identity;
  steps = 0;
  slave = None;
  trace = clock ∷ [];
  kept = None;
  sync = 0;
  relay = None;
  lapse = None;
}

-- the first system is such a one always, and the second while it has heard nothing
abbrev pub first_system : ℕ → Station
first_system timer = lone 1 first_identity timer

abbrev pub lone_system : Station
lone_system = lone 2 second_identity 4

-- what the second system received at this time, and how it follows the first then
abbrev pub heard_at : ℕ → Reception
heard_at at = record { said = announce; at = at; span = 8 }

abbrev pub following : ℕ → Station
following at = record {
  live = true;
  clock = 2;
  identity = second_identity;
  ports = record { held = Received (heard_at at); log = pos 2; interval = 4; announce = 4 } ∷ [];
  root = first_identity;
  steps = 1;
  slave = Some 1;
  trace = 1 ∷ 2 ∷ [];
  kept = None;
  sync = 0;
  relay = None;
  lapse = None;
}

-- the frame that is due at this time
abbrev pub example_frame : ℕ → AnnounceFrame
example_frame due = record { due = due; octets = octets }

-- the two directions of the link, of which only the one from the first to the second carries frames
abbrev pub lane_out : List AnnounceFrame → Lane
lane_out frames = record { from = port_of 1 1; to = port_of 2 1; loss = 0; is_up = true; frames = frames }

abbrev pub lane_back : Lane
lane_back = record { from = port_of 2 1; to = port_of 1 1; loss = 0; is_up = true; frames = [] }

-- a state: the time, the two systems, and what is in flight
abbrev pub example_state : ℕ → ℕ → Station → List AnnounceFrame → MachineState
example_state now timer second frames = record {
  time = now;
  stations = first_system timer ∷ second ∷ [];
  lanes = lane_out frames ∷ lane_back ∷ [];
}

-- An Announce was heard last at this time. The next is sent three later and heard one after that: the moment of the
-- timer comes, the first system announces itself, the moment of the frame comes, the second hears it.
abbrev pub example_turn : ℕ → List MachineState
example_turn at =
    example_state (3 + at) (3 + at) (following at) []
    ∷ example_state (3 + at) (7 + at) (following at) (example_frame (4 + at) ∷ [])
    ∷ example_state (4 + at) (7 + at) (following at) (example_frame (4 + at) ∷ [])
    ∷ example_state (4 + at) (7 + at) (following (4 + at)) []
    ∷ []

-- this many turns, one after the other; an Announce was heard last at this time before the first of them
abbrev pub turns : ℕ → ℕ → List MachineState
turns at zero = []
turns at (suc count) = example_turn at ++ turns (4 + at) count

-- The second system hears of the first for the first time at 2.
abbrev pub opening : List MachineState
opening =
    example_state 1 1 lone_system []
    ∷ example_state 1 5 lone_system (example_frame 2 ∷ [])
    ∷ example_state 2 5 lone_system (example_frame 2 ∷ [])
    ∷ example_state 2 5 (following 2) []
    ∷ []

-- at time 0 both systems know of themselves alone
abbrev pub begin : MachineState
begin = example_state 0 1 lone_system []

-- the run: the opening, and ten Announces more, until 42
abbrev pub run : List MachineState
run = opening ++ turns 2 10
