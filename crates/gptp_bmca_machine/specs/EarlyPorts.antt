-- Ports that are about to become capable: what is known of them in a step.
use Rattle.std.specs.Prelude.{◌≡◌, ◌≢◌, ◌<◌, ◌≤◌, ℕ, suc, List, ◌∷◌, Some, slice_get}
use Rattle.gptp_graph.specs.Snapshot.{PortIdentity, port_of, Joins}
use Rattle.gptp_bmca_machine.specs.Frame.{Announce, Spelling, AnnounceFrame, Lane}
use Rattle.gptp_bmca_machine.specs.Station.{Disabled, Port, Station, MachineState}
use Rattle.gptp_bmca_machine.specs.Network.{Network}

-- The port at place i of system u, to which a link leads of which claims are made, though it needn't be capable yet: it
-- is where an Announce comes over the link now, and stays so in the step.
pub record EarlyPortsHear (says : Spelling) (n : Network) (w w' : MachineState) : Type 0 where
  pub hears : (d : ℕ) (p : PortIdentity) (u i : ℕ) → Joins n.graph p (port_of u (suc i)) → n.claimed d p ≤ w.time
      → w.time < n.ready (port_of u (suc i))
      → (l : Lane) (f : AnnounceFrame) (fs : List AnnounceFrame) (a : Announce) (s : Station) (q : Port)
      → slice_get w.lanes (n.lane p) ≡ Some l → l.frames ≡ f ∷ fs → f.due ≡ w.time → says f.octets a
      → slice_get w.stations (n.place u) ≡ Some s → slice_get s.ports i ≡ Some q
      → q.held ≢ Disabled
  pub stays : (d : ℕ) (p : PortIdentity) (u i : ℕ) → Joins n.graph p (port_of u (suc i)) → n.claimed d p ≤ w.time
      → w.time < n.ready (port_of u (suc i))
      → (s s' : Station) (q q' : Port) → slice_get w.stations (n.place u) ≡ Some s → slice_get s.ports i ≡ Some q
      → slice_get w'.stations (n.place u) ≡ Some s' → slice_get s'.ports i ≡ Some q' → q.held ≢ Disabled
      → q'.held ≢ Disabled

-- Claims are made of a link only once the port that hears is capable: then nothing need be known. So it is of worlds,
-- by `network_with` of gptp_invariants. In runs after news `EarlyPortsHear` takes its place.
abbrev pub ClaimsWhenReady : Network → Type 0
ClaimsWhenReady n = (d : ℕ) (p q : PortIdentity) → Joins n.graph p q → n.ready q ≤ n.claimed d p
