-- The three messages of a peer delay exchange, by the fields that it uses (IEEE 802.1AS-2020, 11.4.5 to 11.4.7). Octets
-- of a world are what `decode` reads in them, one message at most.
use Rattle.std.specs.Prelude.{ℕ, ℤ}
use Rattle.gptp_graph.specs.Snapshot.{PortIdentity}

-- Pdelay_Req: the port that sent it, and its sequenceId
pub record Request : Type 0 where
  pub source : PortIdentity
  pub sequence : ℕ

-- Pdelay_Resp and Pdelay_Resp_Follow_Up: the port that sent it, the request that it answers, and t2 or t3 in 2^-16 ns
pub data Reply : Type 0 where
  Response FollowUp : PortIdentity → Request → ℤ → Reply
