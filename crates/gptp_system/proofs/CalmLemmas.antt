-- Changes of a state that send nothing: which timers they leave, and that they count nothing.
use Rattle.std.proofs.Common.{◌≡◌, ℕ, Bool, false, List, [], refl}
use Rattle.gptp_pdelay.specs.Peer.{PeerState}
use Rattle.gptp_system.specs.declared.port.Port.{Port}
use Rattle.gptp_setup.specs.declared.timer.Timer.{Timer}
use Rattle.gptp_setup.specs.declared.timer.Timer.TheVariants as timers
use Rattle.gptp_system.specs.State.{SystemState, on_port, with_peer}
use Rattle.gptp_system.specs.Lapse.{lapsed}
use Rattle.gptp_system.specs.Measuring.{turned}
use Rattle.gptp_system.specs.Reach.{Leaves}
use Rattle.gptp_system.proofs.DueLemmas.{CoversSelection, Spares, apart_leaves, held_leaves, leaves_on, on_port_leaves}
use Rattle.gptp_receipt.specs.declared.held.Held.{Held}
use Rattle.gptp_system.specs.Counters.{AreCounted}
use Rattle.gptp_system.proofs.CounterLemmas.{counted_on, counted_on_port, counted_same}

-- the timers that aren't touched are left, and nothing is counted
pub record Calm (touched : Timer → Bool) (s t : SystemState) : Type 0 where
  pub leaves : Leaves touched s t
  pub counts : AreCounted s t []

pub calm_on : (touched : Timer → Bool) (s t u : SystemState) → Calm touched s t → Calm touched t u → Calm touched s u
calm_on touched s t u a b = record {
  leaves = leaves_on touched s t u a.leaves b.leaves;
  counts = counted_on s t u [] a.counts b.counts;
}

-- only what is known of time changes
pub calm_apart : (touched : Timer → Bool) (s t : SystemState) → t.ports ≡ s.ports → t.held ≡ s.held
    → t.params ≡ s.params → t.largest ≡ s.largest → (touched timers.Sync ≡ false → t.sync ≡ s.sync)
    → (touched timers.Relay ≡ false → t.relay ≡ s.relay)
    → (touched timers.Lapse ≡ false → t.lapse ≡ s.lapse)
    → Calm touched s t
calm_apart touched s t ports held params largest sync relay lapse = record {
  leaves = apart_leaves touched s t ports held params largest sync relay lapse;
  counts = counted_same s t ports;
}

pub calm_port : (touched : Timer → Bool) (p : ℕ) (f : Port → Port) (s : SystemState) → Spares touched p f
    → ((q : Port) → (f q).announces ≡ q.announces) → ((q : Port) → (f q).syncs ≡ q.syncs)
    → Calm touched s (on_port p f s)
calm_port touched p f s spares announces syncs = record {
  leaves = on_port_leaves touched p f spares s;
  counts = counted_on_port p f s announces syncs;
}

pub calm_held : (touched : Timer → Bool) → CoversSelection touched → (s : SystemState) (hs : List Held)
    → Calm touched s (record s { held = hs })
calm_held touched covers s hs =
    record { leaves = held_leaves touched covers s hs; counts = counted_same s (record s { held = hs }) refl }

peer_spares : (touched : Timer → Bool) (p : ℕ) (step : PeerState → PeerState)
    → Spares touched p (λ (q : Port). record q { peer = step q.peer })
peer_spares touched p step = record {
  announce = λ off q. refl;
  pdelay = λ off q. refl;
  respond = λ off q. refl;
}

pub calm_peer : (touched : Timer → Bool) (p : ℕ) (step : PeerState → PeerState) (s : SystemState)
    → Calm touched s (with_peer p step s)
calm_peer touched p step s =
    calm_port touched p (λ (q : Port). record q { peer = step q.peer }) s (peer_spares touched p step) (λ q. refl)
    (λ q. refl)

pub turned_calm : (touched : Timer → Bool) → CoversSelection touched → (p : ℕ) (step : PeerState → PeerState)
    (s : SystemState) → Calm touched s (turned p step s)
turned_calm touched covers p step s =
    calm_on touched s (with_peer p step s) (turned p step s) (calm_peer touched p step s)
    (calm_held touched covers (with_peer p step s) (turned p step s).held)

pub lapsed_calm : (touched : Timer → Bool) → CoversSelection touched → (s : SystemState) → Calm touched s (lapsed s)
lapsed_calm touched covers s =
    let t : SystemState = record s { held = (lapsed s).held } in
    calm_on touched s t (lapsed s) (calm_held touched covers s (lapsed s).held)
    (calm_apart touched t (lapsed s) refl refl refl refl (λ off. refl) (λ off. refl)
    (λ off. absurd (let on = covers timers.Lapse off in cc)))
