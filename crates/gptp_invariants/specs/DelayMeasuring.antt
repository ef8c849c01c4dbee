-- What is known of the measuring of each port, at every time.
use Rattle.std.specs.Prelude.{◌≡◌, ◌≤◌, ℕ, suc, true, Some, None, IsSome, slice_get}
use Rattle.gptp_vector.specs.declared.port.PortId.{PortId}
use Rattle.gptp_pdelay.specs.declared.progress.Progress.TheVariants.{Closed}
use Rattle.gptp_pdelay.specs.Peer.{PeerState}
use Rattle.gptp_system.specs.declared.port.Port.{Port}
use Rattle.gptp_setup.specs.declared.setup.Params.{Params}
use Rattle.gptp_system.specs.Measures.{Part, measure_at}
use Rattle.gptp_system.specs.State.{SystemState, own}
use Rattle.gptp_model.specs.declared.station.Station.{Station}
use Rattle.gptp_model.specs.World.{WorldState}

-- nothing is measured: no exchange is known, no request is open or counted as lost, and no answer is due
pub record IsIdle (x : Part) : Type 0 where
  pub last : x.peer.last ≡ None
  pub progress : x.peer.progress ≡ Closed
  pub lost : x.peer.lost ≡ 0
  pub respond : x.respond ≡ None

-- a port measures as itself, by the network's parameters, and no more of its requests are lost than may be
pub record IsPeerOf (p : Params) (itself : PortId) (peer : PeerState) : Type 0 where
  pub own_is : peer.own ≡ itself
  pub threshold : peer.threshold ≡ p.threshold
  pub allowed : peer.allowed ≡ p.lost
  pub lost : peer.lost ≤ peer.allowed

-- What a port measures with is its own; where an answer is due, one is there; and where its Pdelay timer doesn't run,
-- nothing is measured.
pub record MeasuresWithItsOwn (p : Params) (itself : PortId) (x : Part) : Type 0 where
  pub peer : IsPeerOf p itself x.peer
  pub owes : (t : ℕ) → x.respond ≡ Some t → IsSome x.peer.waiting
  pub idle : x.pdelay ≡ None → IsIdle x

-- what each port of a system measures with is its own, and fits its timers; the port at place i has the number i + 1
abbrev pub PortsMeasure : Params → SystemState → Type 0
PortsMeasure p s =
    (i : ℕ) (q : Port) → slice_get s.ports i ≡ Some q → MeasuresWithItsOwn p (own s (suc i)) (measure_at q)

-- what each port of each live system measures with is its own, and fits its timers
abbrev pub AreMeasuring : Params → WorldState → Type 0
AreMeasuring p w = (place : ℕ) (station : Station) → slice_get w.stations place ≡ Some station → station.live ≡ true
    → PortsMeasure p station.system
