-- The fields of a `Peer`, and the state that contracts see in them.
use Rattle.std.specs.Prelude.{◌+◌}
use Rattle.gptp_pdelay.specs.declared.peer.Peer.TheInside.{Inside}
use Rattle.gptp_pdelay.specs.Earlier.{past_of}
use Rattle.gptp_pdelay.specs.Peer.{PeerState}

-- the state that the fields are
abbrev pub peer_state : Inside → PeerState
peer_state p = record {
  own = p.own;
  threshold = p.threshold;
  allowed = p.allowed;
  window = p.earlier.most + 1;
  progress = p.progress;
  last = p.last;
  past = past_of p.last p.earlier.times;
  lost = p.lost;
  next = p.next;
  waiting = p.waiting;
}
