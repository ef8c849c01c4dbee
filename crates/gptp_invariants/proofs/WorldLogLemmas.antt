-- At what the ports of a world announce, by the clocks of their systems.
use Rattle.std.proofs.Common.{◌≡◌, ℕ, zero, suc, pos, Some, slice_get, sym, ap, subst, ◌∙◌, arith}
use Rattle.std.specs.Option.{option_map_or}
use Rattle.gptp_graph.specs.Snapshot.{IsLinked, PortIdentity, System, port_of}
use Rattle.gptp_lists.proofs.MappedLemmas.{mapped_there}
use Rattle.gptp_lists.proofs.PlaceLemmas.{member_there}
use Rattle.gptp_setup.specs.SettlingParams.{SettlingParams}
use Rattle.gptp_setup.specs.declared.setup.Setup.{Setup}
use Rattle.gptp_system.specs.State.{clock}
use Rattle.gptp_system.specs.Steps.{HasPortNumber}
use Rattle.gptp_model.specs.declared.station.Station.{Station}
use Rattle.gptp_model.specs.Sound.{HaveOwnClocks, IsSound}
use Rattle.gptp_model.specs.World.{WorldState, sender}
use Rattle.gptp_invariants.specs.ChoiceCalm.{log_at, log_of, clock_place, setups_of}
use Rattle.gptp_invariants.specs.WorldKnown.{AreSet, IsLogAmong}
use Rattle.gptp_invariants.specs.WorldStanding.{live_stations, snapshot_of}
use Rattle.gptp_invariants.proofs.ChoiceFoundLemmas.{place_is}
use Rattle.gptp_invariants.proofs.WorldSetLemmas.{log_among, log_there}
use Rattle.gptp_invariants.proofs.WorldStandsLemmas.{sender_lives}
use Rattle.gptp_invariants.proofs.WorldSystemLemmas.{clock_lives, live_from}
use Rattle.gptp_invariants.proofs.WorldWayLemmas.{way_of}

-- a port of a system announces at what the system is set up with for it
pub log_is : (w : WorldState) → HaveOwnClocks w → (place : ℕ) (station : Station)
    → slice_get w.stations place ≡ Some station → (n : ℕ)
    → log_of w.stations (port_of (clock station.system) n) ≡ log_at station.setup n
log_is w own place station here n =
    let setup_in : Station → Setup = λ x. x.setup in
    let there = mapped_there setup_in w.stations place station here in
    let at : slice_get (setups_of w.stations) (clock_place w.stations (clock station.system)) ≡ Some station.setup =
    ap (slice_get (setups_of w.stations)) (sym (place_is w own place station here)) ∙ there in
    ap (λ o. option_map_or (λ (x : Setup). log_at x n) o (pos 0)) at

-- a port of a system that the world has
module _ (p : SettlingParams) (w : WorldState) (sound : IsSound w) (set : AreSet p w) (place : ℕ) (station : Station)
    (here : slice_get w.stations place ≡ Some station) where
  port_log : (n : ℕ) → HasPortNumber station.system n
      → IsLogAmong w.stations (log_of w.stations (port_of (clock station.system) n))
  port_log zero is = let least = is.least in absurd (omega arith)
  port_log (suc i) is =
      let most = is.most in
      let (q, there) = member_there station.system.ports i (omega arith) in
      let is_set = set place station here in
      let log = log_is w sound.wired.clocks place station here (suc i) ∙ log_there p station is_set i q there in
      subst (IsLogAmong w.stations) (sym log) (log_among p w.stations place station here is_set i q there)

-- a port at a link of the snapshot announces at the interval of a port
pub linked_log : (p : SettlingParams) (w : WorldState) → IsSound w → AreSet p w → (port : PortIdentity)
    → IsLinked (snapshot_of w) port → IsLogAmong w.stations (log_of w.stations port)
linked_log p w sound set port (to, joins) =
    let way = way_of w port to joins in
    let from = sender way.direction way.channel in
    let (s, member, same) = clock_lives w.stations from.clock
    (sender_lives (live_stations w.stations) way.direction way.channel way.used) in
    let at = live_from w.stations s member in
    let named : clock at.station.system ≡ from.clock = ap (λ (x : System). x.clock) (sym at.is) ∙ same in
    let is = sound.wired.ports way.link at.place way.direction way.channel at.station way.here at.here named in
    let port_is : port_of (clock at.station.system) from.port ≡ port =
    ap (λ number. port_of number from.port) named ∙ way.from in
    subst (λ x. IsLogAmong w.stations (log_of w.stations x)) port_is
    (port_log p w sound set at.place at.station at.here from.port is)
