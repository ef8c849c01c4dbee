-- One system's answer to an input: what its ports hold afterwards, and the Announces that it sends.
use Rattle.std.specs.Prelude.{◌≡◌, ◌≢◌, ◌⊎◌, ◌+◌, ⊤, ℕ, suc, List, Some, slice_get}
use Rattle.gptp_lists.specs.Members.{In}
use Rattle.gptp_graph.specs.Order.{IsLower}
use Rattle.gptp_graph.specs.Snapshot.{port_of}
use Rattle.gptp_bmca_machine.specs.Frame.{Announce, Spelling, Send}
use Rattle.gptp_bmca_machine.specs.Station.{Reception, Held, Disabled, Aged, Mine, Received, Port, Station}
use Rattle.gptp_bmca_machine.specs.Vectors.{message, master}
use Rattle.gptp_bmca_machine.specs.Touch.{StationTouch, HeldInTouch}

-- the port sends an Announce now, and its timer starts again (IEEE 802.1AS-2020, 10.3.16)
pub record AnnouncesNow (says : Spelling) (n now : ℕ) (q q' : Port) (sends : List Send) : Type 0 where
  pub sent : (x : Send) × In x sends × (x.port ≡ n) × ((a : Announce) × says x.octets a)
  pub timer : q'.announce ≡ now + q.interval

-- a port that isn't master keeps what it received, or is disabled
abbrev pub KeepsHeld : Held → Type 0
KeepsHeld Disabled = ⊤
KeepsHeld (Received r) = ⊤
KeepsHeld Aged = ⊥
KeepsHeld (Mine root steps) = ⊥

-- A master port holds the own root and steps; its master vector is lower than what it had received
-- (IEEE 802.1AS-2020, 10.3.13). It announces at once where either is new to it; where neither is, it may do so or leave
-- its timer alone. In a world it does so then where its timer expires.
pub record BecomesMaster (says : Spelling) (c n now root steps : ℕ) (mid : Held) (q q' : Port) (sends : List Send)
    : Type 0 where
  pub mine : q'.held ≡ Mine root steps
  pub on : mid ≢ Disabled
  pub is_lower : (r : Reception) → mid ≡ Received r → IsLower (master root steps c n) (message r.said n)
  pub timing : ((mid ≡ Mine root steps) × (q'.announce ≡ q.announce)) ⊎ AnnouncesNow says n now q q' sends

-- one port's part in the answer: what the touch leaves it with, and what it holds once roles are selected
pub record PortStep (says : Spelling) (c n now : ℕ) (touch : StationTouch) (root steps : ℕ) (q q' : Port)
    (sends : List Send)
    : Type 0 where
  pub interval : q'.interval ≡ q.interval
  pub mid : Held
  pub before : HeldInTouch c n touch now q.held mid
  pub after : ((q'.held ≡ mid) × KeepsHeld mid) ⊎ BecomesMaster says c n now root steps mid q q' sends

-- the Announce is the system's own, as it is sent from port n, and names that port's interval
-- (IEEE 802.1AS-2020, 10.6.3 and 10.3.9.23)
pub record IsOwn (s : Station) (n : ℕ) (a : Announce) : Type 0 where
  pub root : a.root ≡ s.root
  pub steps : a.steps ≡ s.steps
  pub source : a.source ≡ port_of s.clock n
  pub log : (i : ℕ) (q : Port) → n ≡ suc i → slice_get s.ports i ≡ Some q → a.log ≡ q.log
  pub path : a.path ≡ s.trace

-- port n is a master port
abbrev pub IsMasterAt : Station → ℕ → Type 0
IsMasterAt s n = (i : ℕ) × (q : Port) × (n ≡ suc i) × (slice_get s.ports i ≡ Some q) × (q.held ≡ Mine s.root s.steps)

-- The system s answers to the touch by becoming s' and sending these. Each port makes its step, and each Announce sent
-- is the system's own, from a master port. Shown of worlds by expiries_are_seen and deliveries_are_seen, from the
-- contracts of gptp_receipt on what is heard and ages, and of gptp_roles on roles.
pub record StationReacts (says : Spelling) (s : Station) (touch : StationTouch) (now : ℕ) (s' : Station)
    (sends : List Send)
    : Type 0 where
  pub clock : s'.clock ≡ s.clock
  pub live : s'.live ≡ s.live
  pub ports : (i : ℕ) (q' : Port) → slice_get s'.ports i ≡ Some q'
      → (q : Port) × (slice_get s.ports i ≡ Some q)
      × PortStep says s.clock (suc i) now touch s'.root s'.steps q q' sends
  -- what a system of a world writes reads as what it was written from
  pub tells : (x : Send) (a : Announce) → In x sends → says x.octets a → IsOwn s' x.port a × IsMasterAt s' x.port
