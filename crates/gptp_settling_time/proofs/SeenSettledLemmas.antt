-- A world whose systems are seen to have settled has settled; and its choice stands where they are seen to follow the
-- best.
use Rattle.std.proofs.Common.{◌≡◌, ◌≤◌, ℕ, zero, suc, true, Some, slice_get, subst, arith}
use Rattle.std.specs.Bool.{⊤}
use Rattle.gptp_lists.proofs.PlaceLemmas.{member_there}
use Rattle.gptp_graph.specs.Distance.{IsNear}
use Rattle.gptp_graph.specs.SettledRole.{IsSettledRole, Role}
use Rattle.gptp_graph.specs.Snapshot.{IsLinked, IsWellFormed, PortIdentity, Snapshot, port_of}
use Rattle.gptp_receipt.specs.declared.held.Held.{Held}
use Rattle.gptp_setup.specs.SettlingParams.{SettlingParams}
use Rattle.gptp_system.specs.declared.port.Port.{Port}
use Rattle.gptp_system.specs.Facts.{AreShown}
use Rattle.gptp_system.specs.Start.{role_at, role_by}
use Rattle.gptp_system.specs.State.{SystemState, clock}
use Rattle.gptp_system.specs.Steps.{HasPortNumber}
use Rattle.gptp_model.specs.declared.station.Station.{Station}
use Rattle.gptp_model.specs.World.{WorldState}
use Rattle.gptp_bmca_machine.specs.Calm.{Calm}
use Rattle.gptp_bmca_machine.specs.Clean.{CameOverLink}
use Rattle.gptp_bmca_machine.specs.Levels.{Invariant}
use Rattle.gptp_bmca_machine.specs.Network.{IsSettlingNetwork, Network, settled_from}
use Rattle.gptp_bmca_machine.specs.Run.{NearHaveSettled}
use Rattle.gptp_bmca_machine.specs.Settled.{PlaysRole}
use Rattle.gptp_bmca_machine.specs.Station.{HoldsAt, Port as SeenPort, Reception, Station as SeenStation}
use Rattle.gptp_bmca_machine.proofs.SettledLemmas.{network_settles}
use Rattle.gptp_invariants.specs.ChoiceSettled.{ChoiceStands, HasSettledChoice, IsSettledSystem, Settled, graph_role}
use Rattle.gptp_invariants.specs.ChoiceSettlesAsMachine.{IsWorld}
use Rattle.gptp_invariants.specs.ChoiceView.{port_view, says_announce, span_at, station_view, view}
use Rattle.gptp_invariants.specs.WorldStanding.{snapshot_of}
use Rattle.gptp_invariants.proofs.ChoiceParentLemmas.{parent_settled}
use Rattle.gptp_invariants.proofs.ChoicePlaceLemmas.{port_there, station_there}
use Rattle.gptp_invariants.proofs.ChoiceSettledLemmas.{is_slave, plays_own}

-- ---- roles

module _ (g : Snapshot) (station : Station) (shown : AreShown station.system) (Is : PortIdentity → Type 0)
    (seen : (i : ℕ) (q : SeenPort) → slice_get (station_view station).ports i ≡ Some q
    → Is (port_of (clock station.system) (suc i))
    → (r : Role) × PlaysRole station.system.slave (suc i) q.held r
    × IsSettledRole g (port_of (clock station.system) (suc i)) r) where
  abbrev s : SystemState
  s = station.system

  -- the port at place i has the number i + 1
  role_settled : (i : ℕ) (h : Held) (q : Port) → slice_get s.held i ≡ Some h → slice_get s.ports i ≡ Some q
      → Is (port_of (clock s) (suc i)) → IsSettledRole g (port_of (clock s) (suc i)) (graph_role (role_at s (suc i)))
  role_settled i h q stands there is =
      let (r, plays, settled) = seen i (port_view (span_at s) h q)
      (port_there (span_at s) s.held s.ports i h q stands there) is in
      let same : graph_role (role_by (is_slave s.slave (suc i)) h) ≡ r =
      plays_own s.slave (suc i) (span_at s) h r plays in
      rw (stands, same) settled

  roles_settled : (n : ℕ) → HasPortNumber s n → Is (port_of (clock s) n)
      → IsSettledRole g (port_of (clock s) n) (graph_role (role_at s n))
  roles_settled zero of is = let least = of.least in absurd (omega arith)
  roles_settled (suc i) of is =
      let most = of.most in
      let places = shown.places in
      let (h, stands) = member_there s.held i (omega arith) in
      let (q, there) = member_there s.ports i (omega arith) in
      role_settled i h q stands there is

-- ---- the world

-- by any network of the machine that has the world's snapshot, in which near systems have settled, and what they hold
-- came over links
module _ (p : SettlingParams) (n : Network) (w : WorldState) (is : IsWorld p w) (graph : n.graph ≡ snapshot_of w)
    (well : IsWellFormed n.graph) (state : Calm n (view w)) (has : NearHaveSettled n (view w))
    (came : (place : ℕ) (s : SeenStation) (i : ℕ) (r : Reception) → slice_get (view w).stations place ≡ Some s
    → s.live ≡ true → IsNear n.graph s.clock → HoldsAt s i r → IsLinked n.graph (port_of s.clock (suc i))
    → CameOverLink n.graph s.clock (suc i) r.said) (bare : n.bare ≤ w.time) where
  module _ (place : ℕ) (station : Station) (here : slice_get w.stations place ≡ Some station)
      (live : station.live ≡ true) (near : IsNear n.graph (clock station.system)) where
    there : slice_get (view w).stations place ≡ Some (station_view station)
    there = station_there w.stations place station here

    choice : HasSettledChoice n.graph station.system
    choice =
        let (best, follow, roles) = has place (station_view station) there live near in
        let (follows, linked) = follow bare in
        let rest = (state.stations place (station_view station) there live).at_rest in
        record {
          root = follows.root;
          steps = follows.steps;
          slave = follows.slave;
          parent = parent_settled n.graph station well rest.vector rest.chosen
              (λ i r holds. came place (station_view station) i r there live near holds) follows.slave;
          roles = roles_settled n.graph station (is.sound.on_time.stations place station here).steady.shown
              (IsLinked n.graph) linked;
        }

    system : n.off ≤ w.time → IsSettledSystem n.graph station.system
    system off =
        let (best, follow, roles) = has place (station_view station) there live near in
        record {
          root = choice.root;
          steps = choice.steps;
          slave = choice.slave;
          parent = choice.parent;
          roles = λ port of.
              roles_settled n.graph station (is.sound.on_time.stations place station here).steady.shown (λ own. ⊤)
              (λ i q at_q own. roles off i q at_q) port of tt;
        }

  pub near_choose : ChoiceStands w
  near_choose =
      subst (λ g. (place : ℕ) (station : Station) → slice_get w.stations place ≡ Some station → station.live ≡ true
      → IsNear g (clock station.system) → HasSettledChoice g station.system) graph choice

  pub near_settle : n.off ≤ w.time → Settled w
  near_settle off =
      subst (λ g. (place : ℕ) (station : Station) → slice_get w.stations place ≡ Some station → station.live ≡ true
      → IsNear g (clock station.system) → IsSettledSystem g station.system) graph
      (λ place station here live near. system place station here live near off)

-- or by one that settles by now
module _ (p : SettlingParams) (n : Network) (w : WorldState) (is : IsWorld p w) (graph : n.graph ≡ snapshot_of w)
    (net : IsSettlingNetwork n) (state : Calm n (view w)) (invariant : Invariant says_announce n (view w))
    (late : settled_from n ≤ w.time) (bare : n.bare ≤ w.time) (sound : n.sound ≤ w.time) where
  has : NearHaveSettled n (view w)
  has place s there live near =
      network_settles says_announce n (view w) place s net state invariant there live near late

  came : (place : ℕ) (s : SeenStation) (i : ℕ) (r : Reception) → slice_get (view w).stations place ≡ Some s
      → s.live ≡ true → IsNear n.graph s.clock → HoldsAt s i r → IsLinked n.graph (port_of s.clock (suc i))
      → CameOverLink n.graph s.clock (suc i) r.said
  came place s i r there live near holds = (invariant.sound sound place s i r there live holds).over

  pub seen_chooses : ChoiceStands w
  seen_chooses = near_choose p n w is graph net.graph state has came bare

  pub seen_settles : n.off ≤ w.time → Settled w
  seen_settles = near_settle p n w is graph net.graph state has came bare
