-- A document has a span and a bound at each time.
use Rattle.std.proofs.Common.{◌≡◌, ◌↔◌, ℕ, nat_le, Bool, true, false, IsTrue, List, Option, Some, None, refl, sym, ap}
use Rattle.gptp_graph.specs.PathBound.{path_bound}
use Rattle.gptp_graph.specs.Snapshot.{Snapshot}
use Rattle.gptp_lists.proofs.SystemSpecLemmas.{In-slice_get, slice_get-In}
use Rattle.gptp_scenario.specs.Allowed.{AreAllowed}
use Rattle.gptp_scenario.specs.InUse.{greatest_delay}
use Rattle.gptp_scenario.specs.Network.{IsNetwork, NetworkState, pace_of}
use Rattle.gptp_scenario.specs.SettlingTime.{settling_span_with}
use Rattle.gptp_scenario.specs.SyncWait.{sync_paths}
use Rattle.gptp_scenario.specs.declared.change.Timed.{Timed}
use Rattle.gptp_network.specs.Document.{DocumentState}
use Rattle.gptp_network.specs.Snapshot.{StandsAfter, events_by}
use Rattle.gptp_network.specs.Span.{IsBound, IsCalmAt}
use Rattle.gptp_network.proofs.ExistenceLemmas.{snapshot_exists}
use Rattle.gptp_network.proofs.InUseLemmas.{paths_are}
use Rattle.gptp_network.proofs.SnapshotLemmas.{from_filter}

-- a world can be asked for each of the events up to a time
pub allowed_by : (at : ℕ) (events : List Timed) → AreAllowed events → AreAllowed (events_by at events)
allowed_by at events allowed = λ place t there.
    let (member, early) = from_filter (λ (u : Timed). nat_le u.at at) t events
    (In-slice_get t (events_by at events) place there) in
    let (other, is) = slice_get-In t events member in
    allowed other t is

-- the span of as many systems as a path of the snapshot has, where the greatest delay is that of the links in use
pub span_is : (n : NetworkState) (events : List Timed) (g : Snapshot) → IsNetwork n → StandsAfter n events g
    → settling_span_with (pace_of n)
    (record { systems = path_bound g; delay = greatest_delay n.systems events n.links }) (path_bound g)
    ≡ settling_span_with (pace_of n) (sync_paths n events) (path_bound g)
span_is n events g network stands =
    ap (λ m. settling_span_with (pace_of n) (record { systems = m; delay = greatest_delay n.systems events n.links })
    (path_bound g)) (sym (paths_are n network events g stands))

pub bound_exists : (d : DocumentState) (at : ℕ) (calm : Bool) → IsNetwork d.network → IsTrue calm ↔ IsCalmAt d at
    → (bound : Option ℕ) × IsBound d at bound
bound_exists d at true network is =
    let found = snapshot_exists d at network in
    let span = settling_span_with (pace_of d.network) (sync_paths d.network (events_by at d.events))
    (path_bound found.0) in
    (Some span, (is.0 refl, record { snapshot = found.0; stands = found.1; is = refl }))
bound_exists d at false network is = (None, λ calm. let no = is.1 calm in cc)
