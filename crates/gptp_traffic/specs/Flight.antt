-- Frames in flight, as the code lists them.
use Rattle.std.specs.Prelude.{ℕ, List, map}
use Rattle.gptp_chain.specs.Queues.{QueuesState}
use Rattle.gptp_links.specs.Queue.{Frame, frame}

-- its place in the queue, when it is due, in ns, and its octets
pub record FlightState : Type 0 where
  pub place : ℕ
  pub due : ℕ
  pub octets : List ℕ

abbrev pub flight_place : FlightState → ℕ
flight_place f = f.place

abbrev pub flight_frame : FlightState → Frame
flight_frame f = frame f.due f.octets

-- the places of those of each lane
abbrev pub places_of : QueuesState FlightState → QueuesState ℕ
places_of flights = record { queues = map (map flight_place) flights.queues; room = flights.room }

-- the frames of each lane, oldest first
abbrev pub frames_of : QueuesState FlightState → List (List Frame)
frames_of flights = map (map flight_frame) flights.queues
