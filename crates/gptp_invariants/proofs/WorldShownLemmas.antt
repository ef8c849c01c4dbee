-- What the calls of a world show is capable and settled in time.
use Rattle.std.proofs.Common.{◌≡◌, ◌≢◌, ◌↔◌, ℕ, zero, suc, Bool, true, false, Option, Some, slice_get, refl, sym, subst, ◌∙◌, arith}
use Rattle.gptp_graph.specs.Distance.{IsDistance, IsNear}
use Rattle.gptp_graph.specs.SettledRole.{IsSettledRole}
use Rattle.gptp_graph.specs.Snapshot.{IsLinked, port_of}
use Rattle.gptp_pdelay.specs.Peer.{is_capable}
use Rattle.gptp_receipt.specs.declared.held.Held.{Held}
use Rattle.gptp_receipt.specs.declared.held.Held.TheVariants as helds
use Rattle.gptp_roles.specs.declared.role.Role.{Role}
use Rattle.gptp_roles.specs.declared.role.Role.TheVariants as roles
use Rattle.gptp_system.specs.declared.port.Port.{Port}
use Rattle.gptp_system.specs.Start.{role_at, role_by}
use Rattle.gptp_system.specs.State.{SystemState, clock, held_at, is_capable_at}
use Rattle.gptp_system.specs.Steps.{HasPortNumber}
use Rattle.gptp_model.specs.declared.station.Station.{Station}
use Rattle.gptp_model.specs.Acts.{AtSystem}
use Rattle.gptp_model.specs.Views.{FollowsRoot, HasRole, ShowsLive}
use Rattle.gptp_model.specs.World.{WorldState}
use Rattle.gptp_lists.proofs.PlaceLemmas.{member_there}
use Rattle.gptp_invariants.specs.WorldStanding.{snapshot_of}
use Rattle.gptp_invariants.specs.ChoiceSettled.{IsSettledSystem, Settled, graph_role}
use Rattle.gptp_invariants.specs.WorldCalmFor.{IsCalmFor, IsPortSettled, capable_span}
use Rattle.gptp_invariants.specs.WorldSettlingInvariant.{SettlingInvariant}
use Rattle.gptp_invariants.specs.WorldShown.{AreCapable, FollowsAtOnce, FollowsByDistance, FollowsByPaths, FollowsInTime, IsCapableInTime, IsEnabledInTime, IsSettledFor, PlaysAtOnce, PlaysByDistance, PlaysByPaths, PlaysInTime}
use Rattle.gptp_invariants.proofs.WorldSettlingInvariantLemmas.{claimed_capable, claimed_settled, distance_follows, distance_plays, settled_at_once, settled_by_paths}

-- ---- capability

-- a role is Disabled exactly where the port is
role_disabled : (is_slave : Bool) (h : Held) → role_by is_slave h ≡ roles.Disabled → h ≡ helds.Disabled
role_disabled is_slave helds.Disabled same = refl
role_disabled is_slave helds.Aged same = absurd cc
role_disabled is_slave (helds.Mine root steps) same = absurd cc
role_disabled true (helds.Received r) same = absurd cc
role_disabled false (helds.Received r) same = absurd cc

held_disabled : (is_slave : Bool) (h : Held) → h ≡ helds.Disabled → role_by is_slave h ≡ roles.Disabled
held_disabled is_slave h same = rw same refl

-- what is known of one port of a live system of a world that has been calm for so long
module _ (w : WorldState) (claimed : SettlingInvariant w) (calm : IsCalmFor capable_span w) (place : ℕ)
    (station : Station)
    (here : slice_get w.stations place ≡ Some station) (live : station.live ≡ true) where
  abbrev s : SystemState
  s = station.system

  record IsKnownPort (n : ℕ) : Type 0 where
    h : Held
    q : Port
    holds : held_at s n ≡ h
    capable_is : is_capable_at s n ≡ is_capable q.peer
    settled : IsPortSettled (snapshot_of w) (record { clock = clock s; port = n }) h q

  known_port : (n : ℕ) → HasPortNumber s n → IsKnownPort n
  known_port zero is = let least = is.least in absurd (omega arith)
  known_port (suc i) is =
      let most = is.most in
      let places = (claimed.is.world.sound.on_time.stations place station here).steady.shown.places in
      let (h, stands) = member_there s.held i (omega arith) in
      let (q, there) = member_there s.ports i (omega arith) in
      record {
        h = h;
        q = q;
        holds = rw stands refl;
        capable_is = rw there refl;
        settled = claimed_capable w claimed calm place station here live i h q stands there;
      }

  capable_ports : AreCapable (snapshot_of w) s
  capable_ports n is =
      let known = known_port n is in (
        λ on. known.settled.capable.0 (sym known.capable_is ∙ on),
        λ linked. known.capable_is ∙ known.settled.capable.1 linked,
      )

  enabled_role : (n : ℕ) → HasPortNumber s n → (role_at s n ≢ roles.Disabled)
      ↔ IsLinked (snapshot_of w) (port_of (clock s) n)
  enabled_role n is =
      let known = known_port n is in (
        λ other. by (is_capable known.q.peer) known refl other,
        λ linked disabled. both (is_capable known.q.peer) (known.settled.capable.1 linked)
            (known.settled.disabled.0 (sym known.holds ∙ role_disabled _ (held_at s n) disabled)),
      )
    where
      by : (capable : Bool) → (known : IsKnownPort n) → is_capable known.q.peer ≡ capable
          → role_at s n ≢ roles.Disabled → IsLinked (snapshot_of w) (port_of (clock s) n)
      by true known on other = known.settled.capable.0 on
      by false known off other =
          absurd (other (held_disabled _ (held_at s n) (known.holds ∙ known.settled.disabled.1 off)))

      both : (capable : Bool) → capable ≡ true → capable ≡ false → ⊥
      both capable on off = absurd cc

-- a live system that is shown
pub capable_shown : (number : ℕ) (w : WorldState) (s : SystemState) → SettlingInvariant w → ShowsLive number w s
    → IsCapableInTime w s
capable_shown number w s claimed shows calm =
    subst (AreCapable (snapshot_of w)) (sym shows.state)
    (capable_ports w claimed calm shows.place shows.station shows.is.here shows.live)

-- and a role that is
pub enabled_shown : (number port : ℕ) (w : WorldState) (role : Role) → SettlingInvariant w
    → AtSystem number w (HasRole port role)
    → IsEnabledInTime number port w role
enabled_shown number port w role claimed at calm =
    let is = enabled_role w claimed calm at.place at.station at.is.here at.so.live port at.so.port_of in
    rw (at.so.role_is, sym at.is.named) is

-- ---- the choice

-- what a settled world shows of a near system
module _ (number : ℕ) (w : WorldState) (settled : Settled w) (near : IsNear (snapshot_of w) number) where
  system_settled : (place : ℕ) (station : Station) → slice_get w.stations place ≡ Some station → station.live ≡ true
      → clock station.system ≡ number → IsSettledSystem (snapshot_of w) station.system
  system_settled place station here live named =
      settled place station here live (subst (IsNear (snapshot_of w)) (sym named) near)

  settled_choice : (root steps : ℕ) (slave : Option ℕ) → AtSystem number w (FollowsRoot root steps slave)
      → IsSettledFor (snapshot_of w) number root steps slave
  settled_choice root steps slave at =
      let is = system_settled at.place at.station at.is.here at.so.live at.is.named in
      rw (at.so.root_is, at.so.steps_are, at.so.slave_is, sym at.is.named)
      (record { best = is.root; distance = is.steps; parent = is.slave })

  settled_role : (port : ℕ) (role : Role) → AtSystem number w (HasRole port role)
      → IsSettledRole (snapshot_of w) (port_of number port) (graph_role role)
  settled_role port role at =
      let is = system_settled at.place at.station at.is.here at.so.live at.is.named in
      rw (at.so.role_is, sym at.is.named) (is.roles port at.so.port_of)

-- by the number of live systems
pub choice_shown : (number root steps : ℕ) (slave : Option ℕ) (w : WorldState) → SettlingInvariant w
    → AtSystem number w (FollowsRoot root steps slave) → FollowsInTime number w root steps slave
choice_shown number root steps slave w claimed at calm near =
    settled_choice number w (claimed_settled w claimed calm) near root steps slave at

pub role_shown : (number port : ℕ) (w : WorldState) (role : Role) → SettlingInvariant w
    → AtSystem number w (HasRole port role)
    → PlaysInTime number port w role
role_shown number port w role claimed at calm near =
    settled_role number w (claimed_settled w claimed calm) near port role at

-- by what bounds the systems of a path
pub choice_by_paths : (number root steps : ℕ) (slave : Option ℕ) (w : WorldState) → SettlingInvariant w
    → AtSystem number w (FollowsRoot root steps slave) → FollowsByPaths number w root steps slave
choice_by_paths number root steps slave w claimed at m bounded calm near =
    settled_choice number w (settled_by_paths m w claimed bounded calm) near root steps slave at

pub role_by_paths : (number port : ℕ) (w : WorldState) (role : Role) → SettlingInvariant w
    → AtSystem number w (HasRole port role) → PlaysByPaths number port w role
role_by_paths number port w role claimed at m bounded calm near =
    settled_role number w (settled_by_paths m w claimed bounded calm) near port role at

-- by that where nothing lapses
pub choice_at_once : (number root steps : ℕ) (slave : Option ℕ) (w : WorldState) → SettlingInvariant w
    → AtSystem number w (FollowsRoot root steps slave) → FollowsAtOnce number w root steps slave
choice_at_once number root steps slave w claimed at m bounded calm nothing near =
    settled_choice number w (settled_at_once m w claimed bounded calm nothing) near root steps slave at

pub role_at_once : (number port : ℕ) (w : WorldState) (role : Role) → SettlingInvariant w
    → AtSystem number w (HasRole port role)
    → PlaysAtOnce number port w role
role_at_once number port w role claimed at m bounded calm nothing near =
    settled_role number w (settled_at_once m w claimed bounded calm nothing) near port role at

-- by the distance
pub choice_by_distance : (number root steps : ℕ) (slave : Option ℕ) (w : WorldState) → SettlingInvariant w
    → AtSystem number w (FollowsRoot root steps slave) → FollowsByDistance number w root steps slave
choice_by_distance number root steps slave w claimed at m d bounded distance near calm =
    let is = distance_follows m d w claimed bounded at.place at.station at.is.here at.so.live
    (subst (λ v. IsDistance (snapshot_of w) v d) (sym at.is.named) distance) near calm in
    rw (at.so.root_is, at.so.steps_are, at.so.slave_is, sym at.is.named)
    (record { best = is.root; distance = is.steps; parent = is.slave })

pub role_by_distance : (number port : ℕ) (w : WorldState) (role : Role) → SettlingInvariant w
    → AtSystem number w (HasRole port role) → PlaysByDistance number port w role
role_by_distance number port w role claimed at m d bounded distance near calm =
    let roles = distance_plays m d w claimed bounded at.place at.station at.is.here at.so.live
    (subst (λ v. IsDistance (snapshot_of w) v d) (sym at.is.named) distance) near calm in
    rw (at.so.role_is, sym at.is.named) (roles port at.so.port_of)
