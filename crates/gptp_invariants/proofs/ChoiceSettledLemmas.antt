-- A world of which the claim has held for long enough has settled.
use Rattle.std.proofs.Common.{◌≡◌, ◌≢◌, ◌≤◌, ◌<◌, ◌+◌, ◌*◌, ℕ, zero, suc, pred, Bool, true, false, Option, Some, None, length, slice_get, refl, ap, arith, ℤ}
use Rattle.std.specs.Option.{option_map_or}
use Rattle.std.proofs.Math.Nat.{mul-le-mul_right}
use Rattle.std.specs.Prelude.{◌==◌, max}
use Rattle.std.proofs.lemmas.Bool.{eq-eqb, eqb-true}
use Rattle.std.proofs.lemmas.Option.{none-some, same_Some}
use Rattle.gptp_setup.specs.SettlingParams.{SettlingParams, largest_interval}
use Rattle.gptp_graph.specs.Distance.{IsDistance}
use Rattle.gptp_graph.specs.PathBound.{BoundsPaths, path_bound}
use Rattle.gptp_graph.specs.Snapshot.{Snapshot, port_of}
use Rattle.gptp_graph.specs.SettledRole.{Role, Disabled, Master, Slave, Passive, IsSettledRole}
use Rattle.gptp_receipt.specs.declared.held.Held.{Held}
use Rattle.gptp_receipt.specs.declared.held.Held.TheVariants as helds
use Rattle.gptp_system.specs.declared.port.Port.{Port}
use Rattle.gptp_system.specs.Facts.{AreShown}
use Rattle.gptp_system.specs.Start.{role_at, role_by}
use Rattle.gptp_system.specs.State.{SystemState, clock}
use Rattle.gptp_system.specs.Steps.{HasPortNumber}
use Rattle.gptp_model.specs.declared.station.Station.{Station}
use Rattle.gptp_scenario.specs.Calm.{NothingLapses}
use Rattle.gptp_scenario.specs.SettlingTime.{settling_span_with}
use Rattle.gptp_scenario.specs.SyncWait.{step_more}
use Rattle.gptp_model.specs.World.{WorldState}
use Rattle.gptp_lists.proofs.PlaceLemmas.{member_there}
use Rattle.gptp_bmca_machine.specs.Calm.{Calm}
use Rattle.gptp_bmca_machine.specs.Sound.{ReceivedFits}
use Rattle.gptp_bmca_machine.specs.Levels.{Invariant}
use Rattle.gptp_bmca_machine.specs.Network.{IsSettlingNetwork, Network, settled_from, since}
use Rattle.gptp_bmca_machine.specs.Settled.{FollowsBest, HasSettledRoles, PlaysRole}
use Rattle.gptp_bmca_machine.proofs.SettledLemmas.{follows_best, network_settles, settled_roles}
use Rattle.gptp_invariants.specs.ChoiceView.{held_view, port_view, says_announce, span_at, station_view, view}
use Rattle.gptp_invariants.proofs.ChoicePlaceLemmas.{port_there, station_there}
use Rattle.gptp_invariants.specs.ChoiceCalm.{IsQuietWith, IsQuietWorld, SettlingTimes, network_with, paths_with, step_with, sync_paths_of, at_once, clean_from, delay_in, in_turn}
use Rattle.gptp_invariants.specs.WorldStanding.{snapshot_of}
use Rattle.gptp_invariants.specs.ChoiceSettlesAsMachine.{BecomeCapable, SettlesAsMachine, IsSettling, IsWorld, quick_network, settling_network, start_of}
use Rattle.gptp_invariants.specs.ChoiceSettled.{ChoiceStands, Settled, graph_role}
use Rattle.gptp_invariants.proofs.ChoiceSettlesAsMachineLemmas.{is_calm, is_network, is_quick_calm, is_quick_network, paths_bound, paths_fewer, turns_less}
use Rattle.gptp_invariants.proofs.ChoiceParentLemmas.{parent_settled}
use Rattle.gptp_invariants.proofs.SyncWaitLemmas.{spans_grow}

-- ---- roles

-- whether this port is the slave port
abbrev pub is_slave : Option ℕ → ℕ → Bool
is_slave slave n = option_map_or (λ m. m == n) slave false

pub slave_is : (slave : Option ℕ) (n : ℕ) → slave ≡ Some n → is_slave slave n ≡ true
slave_is None n same = absurd (none-some n same)
slave_is (Some m) n same = eq-eqb m n (same_Some m n same)

pub slave_is_not : (slave : Option ℕ) (n : ℕ) → slave ≢ Some n → is_slave slave n ≡ false
slave_is_not None n other = refl
slave_is_not (Some m) n other = by (m == n) refl
  where
    by : (b : Bool) → (m == n) ≡ b → (m == n) ≡ false
    by true same = absurd (other (ap Some (eqb-true m n same)))
    by false differ = differ

-- the role that a port is seen to play is its role
pub plays_own : (slave : Option ℕ) (n : ℕ) (keep : ℤ → ℕ) (h : Held) (r : Role) → PlaysRole slave n (held_view keep h) r
    → graph_role (role_by (is_slave slave n) h) ≡ r
plays_own slave n keep helds.Disabled Disabled plays = refl
plays_own slave n keep helds.Disabled Master (root, steps, same) = absurd cc
plays_own slave n keep helds.Disabled Slave (is, (r, same)) = absurd cc
plays_own slave n keep helds.Disabled Passive (is, (r, same)) = absurd cc
plays_own slave n keep helds.Aged Disabled same = absurd cc
plays_own slave n keep helds.Aged Master plays = refl
plays_own slave n keep helds.Aged Slave (is, (r, same)) = absurd cc
plays_own slave n keep helds.Aged Passive (is, (r, same)) = absurd cc
plays_own slave n keep (helds.Mine root steps) Disabled same = absurd cc
plays_own slave n keep (helds.Mine root steps) Master plays = refl
plays_own slave n keep (helds.Mine root steps) Slave (is, (r, same)) = absurd cc
plays_own slave n keep (helds.Mine root steps) Passive (is, (r, same)) = absurd cc
plays_own slave n keep (helds.Received x) Disabled same = absurd cc
plays_own slave n keep (helds.Received x) Master (root, steps, same) = absurd cc
plays_own slave n keep (helds.Received x) Slave (is, (r, same)) = let e = slave_is slave n is in rw e refl
plays_own slave n keep (helds.Received x) Passive (is, (r, same)) =
    let e = slave_is_not slave n is in rw e refl

-- A port that is seen with its settled role has it. The port at place i has the number i + 1.
module _ (g : Snapshot) (station : Station) (shown : AreShown station.system)
    (seen : HasSettledRoles g (station_view station)) where
  abbrev s : SystemState
  s = station.system

  role_settled : (i : ℕ) (h : Held) (q : Port) → slice_get s.held i ≡ Some h → slice_get s.ports i ≡ Some q
      → IsSettledRole g (port_of (clock s) (suc i)) (graph_role (role_at s (suc i)))
  role_settled i h q stands there =
      let (r, plays, settled) = seen i (port_view (span_at s) h q)
      (port_there (span_at s) s.held s.ports i h q stands there) in
      let same : graph_role (role_by (is_slave s.slave (suc i)) h) ≡ r =
      plays_own s.slave (suc i) (span_at s) h r plays in
      rw (stands, same) settled

  roles_settled : (n : ℕ) → HasPortNumber s n → IsSettledRole g (port_of (clock s) n) (graph_role (role_at s n))
  roles_settled zero is = let least = is.least in absurd (omega arith)
  roles_settled (suc i) is =
      let most = is.most in
      let places = shown.places in
      let (h, stands) = member_there s.held i (omega arith) in
      let (q, there) = member_there s.ports i (omega arith) in
      role_settled i h q stands there

-- ---- the world

-- for any wait for Syncs and time of a step
module _ (p : SettlingParams) (m start : ℕ) (times : SettlingTimes) (w : WorldState) (is : IsWorld p w)
    (net : IsSettlingNetwork (network_with p m start times w)) (state : Calm (network_with p m start times w) (view w))
    (invariant : Invariant says_announce (network_with p m start times w) (view w)) where
  abbrev n : Network
  n = network_with p m start times w

  -- ---- one live system

  module _ (place : ℕ) (station : Station) (here : slice_get w.stations place ≡ Some station)
      (live : station.live ≡ true) where
    there : slice_get (view w).stations place ≡ Some (station_view station)
    there = station_there w.stations place station here

    roles_are : HasSettledRoles (snapshot_of w) (station_view station) → (port : ℕ) → HasPortNumber station.system port
        → IsSettledRole (snapshot_of w) (port_of (clock station.system) port) (graph_role (role_at station.system port))
    roles_are =
        roles_settled (snapshot_of w) station (is.sound.on_time.stations place station here).steady.shown

    module _ (d : ℕ) (distance : IsDistance (snapshot_of w) (clock station.system) d) (near : d < 255) where
      -- it follows its best a step's time for each link after all that is held is wholly clean
      follows_so : since n d ≤ w.time → FollowsBest (snapshot_of w) (station_view station)
      follows_so late =
          follows_best says_announce n net (view w) state invariant place
          (station_view station) there live d distance near late
          (omega (arith, late))

      -- a step's time later its ports have settled
      roles_so : since n (suc d) ≤ w.time → (port : ℕ) → HasPortNumber station.system port
          → IsSettledRole (snapshot_of w) (port_of (clock station.system) port)
          (graph_role (role_at station.system port))
      roles_so late =
          roles_are
          (settled_roles says_announce n net (view w) state invariant place
          (station_view station) there live d distance near
          (omega (arith, late)) (λ u joined far lower. late) (omega (arith, late)))

  -- ---- all of them

  module _ (late : settled_from n ≤ w.time) where
    -- before that all that is held has come over the links of the snapshot
    held_fits : ReceivedFits (snapshot_of w) (view w)
    held_fits = invariant.sound (omega (arith, late))

    pub settles_so : Settled w
    settles_so place station here live near =
        let (has, follow, roles) = network_settles says_announce n (view w) place (station_view station)
        net state invariant (there place station here live) live near late in
        let follows = (follow (omega (arith, late))).0 in
        let rest = (state.stations place (station_view station) (there place station here live) live).at_rest in
        record {
          root = follows.root;
          steps = follows.steps;
          slave = follows.slave;
          parent = parent_settled (snapshot_of w) station net.graph rest.vector rest.chosen
              (λ i r holds.
              (held_fits place (station_view station) i r (there place station here live) live holds).over)
              follows.slave;
          roles = roles_are place station here live (roles (omega (arith, late)));
        }

-- by a number of systems that bounds its paths
module _ (p : SettlingParams) (w : WorldState) (is : IsWorld p w) (capable : BecomeCapable p w)
    (holds : SettlesAsMachine p w) (m : ℕ)
    (bounded : BoundsPaths (snapshot_of w) m) (quiet : IsQuietWith p.params (paths_with m w) w) where
  abbrev seen : Network
  seen = settling_network p m w

  state : Calm seen (view w)
  state = is_calm p m w is quiet.links capable

  settling : IsSettling p seen (quick_network p m w) (view w)
  settling = holds m bounded quiet

  module _ (place : ℕ) (station : Station) (here : slice_get w.stations place ≡ Some station)
      (live : station.live ≡ true) (d : ℕ) (distance : IsDistance (snapshot_of w) (clock station.system) d)
      (near : d < 255) where
    -- a step's time for each link after all that is held is wholly clean
    pub follows_by_distance : since seen d ≤ w.time → FollowsBest (snapshot_of w) (station_view station)
    follows_by_distance =
        follows_so p m (start_of p w) (in_turn p (paths_with m w)) w is (is_network p m w is bounded) state
        settling.invariant place
        station here live d distance near

    -- a step's time later its ports have settled
    pub roles_by_distance : since seen (suc d) ≤ w.time → (port : ℕ) → HasPortNumber station.system port
        → IsSettledRole (snapshot_of w) (port_of (clock station.system) port) (graph_role (role_at station.system port))
    roles_by_distance =
        roles_so p m (start_of p w) (in_turn p (paths_with m w)) w is (is_network p m w is bounded) state
        settling.invariant place
        station here live d distance near

  -- the span of as many systems or more ends when all have settled
  pub span_ends : (n : ℕ) → m ≤ n → w.last_change + settling_span_with p (paths_with m w) n ≤ w.time
      → settled_from seen ≤ w.time
  span_ends n more late =
      let grown = spans_grow (p.params.timeout + 3) (p.params.lost + 5) (largest_interval p) m n
      (step_more p (paths_with m w)) (step_more p (paths_with m w)) more (omega arith) in
      let turns = turns_less p w is.known m in
      let fewer = mul-le-mul_right (step_with p (paths_with m w)) (pred_less m) in
      omega (arith, late, grown, turns, fewer)
    where
      pred_less : (a : ℕ) → pred a ≤ a
      pred_less zero = omega arith
      pred_less (suc a) = omega arith

  pub settles_by_paths : (n : ℕ) → m ≤ n → w.last_change + settling_span_with p (paths_with m w) n ≤ w.time
      → Settled w
  settles_by_paths n more late =
      settles_so p m (start_of p w) (in_turn p (paths_with m w)) w is (is_network p m w is bounded) state
      settling.invariant
      (span_ends n more late)

  -- where nothing lapses, at once: once ports are capable and traces clean, an interval, and a delay for each step
  pub settles_at_once : NothingLapses p.params
      → max (clean_from p m w) (start_of p w) + largest_interval p + pred m * delay_in w ≤ w.time → Settled w
  settles_at_once off late =
      settles_so p m (start_of p w) (at_once p w) w is (is_quick_network p m w is bounded)
      (is_quick_calm p m w is quiet.links capable) (settling.at_once off) (omega (arith, late))

-- so it settles by its own paths and the number of live systems
pub settles : (p : SettlingParams) (w : WorldState) → IsWorld p w → IsQuietWorld p.params w → BecomeCapable p w
    → SettlesAsMachine p w
    → w.last_change + settling_span_with p (sync_paths_of w) (length (snapshot_of w).systems) ≤ w.time → Settled w
settles p w is quiet capable holds =
    settles_by_paths p w is capable holds (path_bound (snapshot_of w)) (paths_bound p w is) quiet
    (length (snapshot_of w).systems) (paths_fewer (snapshot_of w))

-- the choice stands in a world that has settled
pub choice_stands : (w : WorldState) → Settled w → ChoiceStands w
choice_stands w settled place station here live near =
    let is = settled place station here live near in
    record {
      root = is.root;
      steps = is.steps;
      slave = is.slave;
      parent = is.parent;
      roles = λ n of linked. is.roles n of;
    }
