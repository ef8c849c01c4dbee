-- The messages that measure a link: Pdelay_Req, Pdelay_Resp and Pdelay_Resp_Follow_Up (IEEE 1588-2019, 13.9 to 13.11;
-- IEEE 802.1AS-2020, 11.4.5 to 11.4.7).
use Rattle.std.specs.Prelude.{ℕ, List, [], ◌∷◌, ◌++◌}
use Rattle.gptp_vector.specs.declared.port.PortId.{PortId}
use Rattle.gptp_scaled.specs.Stamp.{Timestamp, IsTimestamp}
use Rattle.gptp_messages.specs.declared.head.Head.{Head}
use Rattle.gptp_messages.specs.Frame.{port_at, written_port, PortFits}
use Rattle.gptp_messages.specs.Head.{HeadFits}
use Rattle.gptp_messages.specs.Timestamp.{written_stamp}

-- the requestingPortIdentity, after the timestamp of a response
abbrev pub requester_of : List ℕ → PortId
requester_of f = port_at 44 f

-- what comes after the header of a request: reserved octets
abbrev pub written_request : List ℕ
written_request = 0 ∷ 0 ∷ 0 ∷ 0 ∷ 0 ∷ 0 ∷ 0 ∷ 0 ∷ 0 ∷ 0 ∷ 0 ∷ 0 ∷ 0 ∷ 0 ∷ 0 ∷ 0 ∷ 0 ∷ 0 ∷ 0 ∷ 0 ∷ []

-- what comes after the header of a response
abbrev pub written_response : Timestamp → PortId → List ℕ
written_response stamp requester = written_stamp stamp ++ written_port requester

pub record ResponseFits (h : Head) (t : Timestamp) (p : PortId) : Type 0 where
  pub head : HeadFits h
  pub stamp : IsTimestamp t
  pub requester : PortFits p
