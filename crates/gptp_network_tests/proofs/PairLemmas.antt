-- The world of two systems as it stands, and what it shows once they have settled.
use Rattle.std.proofs.Common.{◌≡◌, ◌≢◌, ◌<◌, ◌≤◌, ◌+◌, ◌*◌, ℕ, zero, suc, true, List, [], ◌∷◌, Option, Some, None, length, slice_get, refl, sym, ap, ap₂, subst, ◌∙◌, inl, inr, arith}
use Rattle.std.specs.Prelude.{◌⊎◌, IfNone, IfSome, reverse}
use Rattle.std.proofs.lemmas.List.{reverse-reverse}
use Rattle.std.proofs.lemmas.Option.{same_Some}
use Rattle.std.proofs.lemmas.List.Sorted.{IsPermutation-refl}
use native.Mathlib.Decide.{ℕ_discrete, dec_le, dec_lt}
use Rattle.gptp_lists.specs.Members.{In}
use Rattle.gptp_graph.specs.Distance.{IsDistance, IsNear}
use Rattle.gptp_graph.specs.Labelling.{SystemLine, line_clocks}
use Rattle.gptp_graph.specs.Order.{IsRising}
use Rattle.gptp_graph.specs.PathBound.{BoundsPaths}
use Rattle.gptp_graph.specs.Path.{IsPath}
use Rattle.gptp_graph.specs.Parent.{ParentLink}
use Rattle.gptp_graph.specs.SettledChoice.{IsBestIdentity, IsSettledChoice, IsSettledLine}
use Rattle.gptp_graph.specs.SettledRole as settled
use Rattle.gptp_graph.specs.SettledRole.{IsMasterPort, IsSettledRole, IsSlavePort}
use Rattle.gptp_graph.specs.Snapshot.{Adjacent, IsLinked, IsWellFormed, Link, Snapshot, System, port_of}
use Rattle.gptp_graph.proofs.BestLemmas.{IsBest-unique}
use Rattle.gptp_graph.proofs.ChoiceLemmas.{same_choice}
use Rattle.gptp_graph.proofs.DecisionLemmas.{dec_both, dec_either}
use Rattle.gptp_graph.proofs.DistanceLemmas.{IsDistance-unique}
use Rattle.gptp_graph.proofs.LinkDecisions.{PortIdentity-dec}
use Rattle.gptp_graph.proofs.OrderLemmas.{IsLower-dec}
use Rattle.gptp_graph.proofs.ParentLemmas.{IsParent-unique}
use Rattle.gptp_graph.proofs.PathLemmas.{path_bounded}
use Rattle.gptp_graph.proofs.RoleLemmas.{RoleBy-unique}
use Rattle.gptp_graph.proofs.SoundLemmas.{sound}
use Rattle.gptp_graph.proofs.SureTests.{sure_well_formed, sure_passes}
use Rattle.gptp_links.specs.declared.bounds.Bounds.{Bounds}
use Rattle.gptp_scenario.specs.Calm.{AllRest, IsCalm}
use Rattle.gptp_scenario.specs.Network.{largest_of, pace_of}
use Rattle.gptp_scenario.specs.InUse.{path_systems}
use Rattle.gptp_scenario.specs.SettlingTime.{settling_span_with}
use Rattle.gptp_scenario.specs.SyncWait.{sync_paths}
use Rattle.gptp_model.specs.Acts.{AtSystem}
use Rattle.gptp_model.specs.Advancing.{Advanced, Told}
use Rattle.gptp_model.specs.Prompt.{HavePace}
use Rattle.gptp_model.specs.declared.station.Station.{Station}
use Rattle.gptp_model.specs.Sound.{IsSound}
use Rattle.gptp_model.specs.Views.{FollowsRoot, HasPort, IsLiveSystem, ShowsLive}
use Rattle.gptp_model.specs.World.{WorldState}
use Rattle.gptp_network.specs.Snapshot.{StandsAfter}
use Rattle.gptp_roles.specs.declared.role.Role.{Role}
use Rattle.gptp_roles.specs.declared.role.Role.TheVariants as roles
use Rattle.gptp_bmca_machine.specs.Clean.{Clean, Whole}
use Rattle.gptp_bmca_machine.specs.Frame.{Announce}
use Rattle.gptp_bmca_machine.specs.Settled.{IsSlaveOf}
use Rattle.gptp_system.specs.State.{SystemState, clock, is_capable_at, trace}
use Rattle.gptp_system.specs.Steps.{HasPortNumber}
use Rattle.gptp_invariants.specs.WorldSettlingInvariant.{SettlingInvariant}
use Rattle.gptp_invariants.specs.ChoiceSettled.{graph_role}
use Rattle.gptp_invariants.specs.WorldShown.{AreCapable, FollowsByDistance, FollowsByPaths, FollowsInTime, IsCapableInTime, IsEnabledInTime, IsSettledFor, PlaysInTime, distance_span}
use Rattle.gptp_invariants.specs.WorldCalmFor.{capable_span, span_over}
use Rattle.gptp_invariants.specs.WorldStanding.{live_stations, snapshot_of, standing_system}
use Rattle.gptp_invariants.specs.ChoiceTraces.{IsCleanInTime, IsTraceClean, announced, turns_span}
use Rattle.gptp_invariants.proofs.WorldSystemLemmas.{live_from, live_there}
use Rattle.gptp_certificate.specs.Settled.{IsRightInTime}
use Rattle.gptp_certificate.specs.Stated.{States}
use Rattle.gptp_theorem.specs.PlayedLaws.{IsReached}
use Rattle.gptp_theorem.specs.Reached.{StandsAsPlanned}
use Rattle.gptp_theorem.proofs.CalmLemmas.{quiet_stands, set_stands}
use Rattle.gptp_theorem.proofs.PlayedLemmas.{played_stands}
use Rattle.gptp_theorem.proofs.SnapshotLemmas.{snapshots_stand, systems_stand}
use Rattle.gptp_theorem.proofs.SyncPathLemmas.{paths_stand}
use Rattle.gptp_setup.specs.declared.setup.Params.{Params}
use Rattle.gptp_network_tests.specs.Pair.{HasBegun, HasBegunWith, IsPairAt, IsPairWith, document_with, first_member, following_pair, leading, network_with, pace_with, pair_network, pair_pace, pair_paths, pair_snapshot, params, second_member, stamped_params}

-- ---- the network

pub pace_is : (p : Params) → pace_of (network_with p) ≡ pace_with p
unfolding largest_of
pace_is p = refl

pub paths_are : (p : Params) → sync_paths (network_with p) [] ≡ pair_paths
unfolding path_systems
paths_are p = refl

links_rest : (granularity noise : ℕ) → granularity + 2 * noise ≤ 296
    → AllRest (stamped_params granularity noise) pair_network.systems pair_network.links []
links_rest granularity noise few zero x early = λ used. record { lossless = refl; good = omega (arith, few) }
links_rest granularity noise few (suc i) x early = absurd (omega (arith, early))

pub stamped_calm : (granularity noise : ℕ) → granularity + 2 * noise ≤ 296
    → IsCalm (network_with (stamped_params granularity noise)) []
stamped_calm granularity noise few = record { links = links_rest granularity noise few; lapses = inl refl }

-- exact time stamps are good enough
pub good_exactly : 0 + 2 * 0 ≤ 296
good_exactly = omega arith

pub calm : IsCalm pair_network []
calm = stamped_calm 0 0 good_exactly

pub stands_after : (p : Params) → StandsAfter (network_with p) [] pair_snapshot
stands_after p = record {
  systems = IsPermutation-refl pair_snapshot.systems;
  rising = ((λ y among. later y among), ((λ y among. absurd among), tt));
  links = refl;
}
  where
    later : (y : ℕ) → In y (2 ∷ []) → 1 < y
    later y (inl same) = omega arith
    later y (inr none) = absurd none

-- ---- its world

pub snapshot_is : (p : Params) (w : WorldState) → StandsAsPlanned (network_with p) [] w → IsSound w
    → snapshot_of w ≡ pair_snapshot
snapshot_is p w so sound =
    ap₂ (λ (ss : List System) (ls : List Link). record { systems = ss; links = ls })
    (systems_stand (network_with p) [] w so sound)
    (snapshots_stand (network_with p) [] w pair_snapshot so sound (stands_after p)).1

-- what it goes on to by a time
module _ {F : Type 0} (p : Params) (answers : Bounds → ℕ → F → Option ℕ → F → Type 0) (fate fate_after : F)
    (told : List Told) (time : ℕ) (start w : WorldState) (k : HasBegunWith p answers fate start)
    (advanced : Advanced answers time told fate fate_after start w) where
  pub goes_to : IsReached (document_with p) time w
  goes_to = played_stands answers (document_with p) time k.before told w k.network tt (record {
    started = fate;
    start = start;
    begun = k.begun;
    drawn = fate_after;
    goes = advanced;
  })

  pub remains : IsPairWith p time w
  remains = record { network = k.network; stands = goes_to.stands; late = rw goes_to.now (omega arith) }

-- and so what it shows
module _ {F : Type 0} (answers : Bounds → ℕ → F → Option ℕ → F → Type 0) (fate fate_after : F) (told : List Told)
    (time : ℕ) (start w : WorldState) (k : HasBegun answers fate start)
    (advanced : Advanced answers time told fate fate_after start w) (claimed : SettlingInvariant w) where
  reached : IsReached (document_with params) time w
  reached = goes_to params answers fate fate_after told time start w k advanced

  so : StandsAsPlanned pair_network [] w
  so = reached.stands

  systems : live_stations w.stations ≡ pair_snapshot.systems
  systems = systems_stand pair_network [] w so reached.sound

  have_pace : HavePace (pace_of pair_network) w
  have_pace place station here = (set_stands pair_network [] w so claimed place station here).starts

  pub comes_to : IsPairAt time w
  comes_to = record {
    since = remains params answers fate fate_after told time start w k advanced;
    snapshot = snapshot_is params w so reached.sound;
    calm = λ span early. record {
      pace = pair_pace;
      set = subst (λ p. HavePace p w) (pace_is params) have_pace;
      quiet = quiet_stands pair_network [] w k.network so reached.sound calm;
      late = subst (λ paths. w.last_change + span pair_pace paths (length (snapshot_of w).systems) ≤ w.time)
          (sym (paths_are params) ∙ paths_stand pair_network [] w k.network so reached.sound)
          (rw (so.last, systems, reached.now) (omega (arith, early)));
    };
  }

-- ---- what it settles at

pub well_formed : IsWellFormed pair_snapshot
unfolding ℕ_discrete dec_le dec_lt dec_both dec_either IsLower-dec PortIdentity-dec
well_formed = (sure_well_formed pair_snapshot).1 refl

pub choice : IsSettledChoice pair_snapshot (leading ∷ following_pair ∷ [])
unfolding ℕ_discrete dec_le dec_lt dec_both dec_either IsLower-dec PortIdentity-dec
choice =
    let passes = (sure_passes pair_snapshot (leading ∷ following_pair ∷ [])).1 refl in
    sound pair_snapshot (leading ∷ following_pair ∷ []) well_formed passes

pub led : IsSettledLine pair_snapshot leading
led = choice.settled leading (inl refl)

pub follows : IsSettledLine pair_snapshot following_pair
follows = choice.settled following_pair (inr (inl refl))

-- ---- whatever settles so

pub root_is : (root : ℕ) → IsBestIdentity pair_snapshot 2 root → root ≡ first_member
root_is root (best, is, same) =
    let (other, also, is_first) : IsBestIdentity pair_snapshot 2 first_member = follows.root in
    let one = IsBest-unique pair_snapshot 2 best other well_formed is also in
    same ∙ ap (λ (s : System). s.identity) one ∙ sym is_first

pub steps_are : (steps : ℕ) → IsDistance pair_snapshot 2 steps → steps ≡ 1
steps_are steps is = IsDistance-unique pair_snapshot 2 steps 1 well_formed is follows.steps

pub slave_is : (port : Option ℕ) → IsSlaveOf pair_snapshot 2 port → port ≡ Some 1
slave_is None none = absurd (none (record { own_port = 1; clock = 1; port = 1 }) (follows.parent refl))
slave_is (Some n) (l, parent, own) =
    let there : ParentLink = record { own_port = 1; clock = 1; port = 1 } in
    let same = IsParent-unique pair_snapshot 2 l there parent (follows.parent refl) in
    ap Some (sym own ∙ ap (λ (k : ParentLink). k.own_port) same)

pub near : IsNear pair_snapshot 2
near = (1, follows.steps, omega arith)

near_first : IsNear pair_snapshot 1
near_first = (0, led.steps, omega arith)

role_is : (clock : ℕ) (role wanted : settled.Role) → IsSettledRole pair_snapshot (port_of clock 1) role
    → IsSettledRole pair_snapshot (port_of clock 1) wanted → role ≡ wanted
role_is clock role wanted is want =
    let port = port_of clock 1 in
    RoleBy-unique (IsLinked pair_snapshot port) (IsSlavePort pair_snapshot port) (IsMasterPort pair_snapshot port) role
    wanted is want

slave : IsSettledRole pair_snapshot (port_of 2 1) settled.Slave
slave = follows.roles (record { number = 1; role = settled.Slave }) (inl refl)

master : IsSettledRole pair_snapshot (port_of 1 1) settled.Master
master = led.roles (record { number = 1; role = settled.Master }) (inl refl)

-- ---- both live, and have a port

abbrev has_one_port : ℕ → ℕ → System
has_one_port number identity = record { clock = number; identity = identity; ports = 1 }

there : (time number identity : ℕ) (w : WorldState) → IsPairAt time w
    → In (has_one_port number identity) pair_snapshot.systems → AtSystem number w (HasPort 1)
there time number identity w at among =
    let stands = live_from w.stations (has_one_port number identity)
    (subst (In (has_one_port number identity)) (sym (ap (λ (g : Snapshot). g.systems) at.snapshot)) among) in
    let ports : 1 ≡ length stands.station.system.ports = ap (λ (s : System). s.ports) stands.is in
    record {
      place = stands.place;
      station = stands.station;
      is = record { here = stands.here; named = sym (ap (λ (s : System). s.clock) stands.is) };
      so = record {
        live = stands.live;
        port_of = record { least = omega arith; most = omega (arith, ports) };
      };
    }

pub first_there : (time : ℕ) (w : WorldState) → IsPairAt time w → AtSystem 1 w (HasPort 1)
first_there time w at = there time 1 first_member w at (inl refl)

pub second_there : (time : ℕ) (w : WorldState) → IsPairAt time w → AtSystem 2 w (HasPort 1)
second_there time w at = there time 2 second_member w at (inr (inl refl))

pub second_lives : (time : ℕ) (w : WorldState) → IsPairAt time w → AtSystem 2 w IsLiveSystem
second_lives time w at =
    let stands = second_there time w at in
    record { place = stands.place; station = stands.station; is = stands.is; so = stands.so.live }

-- a system that is shown as the second has one port
pub second_has_port : (time : ℕ) (w : WorldState) (s : SystemState) → IsPairAt time w → ShowsLive 2 w s
    → HasPortNumber s 1
second_has_port time w s at shows =
    let among = live_there w.stations shows.place shows.station shows.is.here shows.live in
    let ports : length shows.station.system.ports ≡ 1 =
    ports_of (standing_system shows.station) shows.is.named
    (subst (In (standing_system shows.station)) (ap (λ (g : Snapshot). g.systems) at.snapshot) among) in
    let is : length s.ports ≡ 1 = ap (λ (x : SystemState). length x.ports) shows.state ∙ ports in
    record { least = omega arith; most = omega (arith, is) }
  where
    ports_of : (x : System) → x.clock ≡ 2 → In x pair_snapshot.systems → x.ports ≡ 1
    ports_of x named (inl same) = ap (λ (y : System). y.ports) same
    ports_of x named (inr (inl same)) = ap (λ (y : System). y.ports) same
    ports_of x named (inr (inr none)) = absurd none

-- ---- by when its port is capable

linked : IsLinked pair_snapshot (port_of 2 1)
linked = (port_of 1 1, inr (inl refl))

pub second_is_capable : (w : WorldState) (s : SystemState) → IsPairAt 14000000000 w → ShowsLive 2 w s
    → IsCapableInTime w s → is_capable_at s 1 ≡ true
second_is_capable w s at shows shown =
    let named : clock s ≡ 2 = ap clock shows.state ∙ shows.is.named in
    let is : AreCapable (snapshot_of w) s = shown (at.calm capable_span (omega arith)) in
    let capable = (is 1 (second_has_port 14000000000 w s at shows)).1 in
    capable (subst (λ number. IsLinked (snapshot_of w) (port_of number 1)) (sym named)
    (subst (λ g. IsLinked g (port_of 2 1)) (sym at.snapshot) linked))

pub second_is_enabled : (w : WorldState) (role : Role) → IsPairAt 14000000000 w → IsEnabledInTime 2 1 w role
    → role ≢ roles.Disabled
second_is_enabled w role at shown =
    (shown (at.calm capable_span (omega arith))).1 (subst (λ g. IsLinked g (port_of 2 1)) (sym at.snapshot) linked)

-- ---- what its world shows

pub second_follows : (w : WorldState) (root steps : ℕ) (slave : Option ℕ) → IsPairAt 26000000000 w
    → FollowsInTime 2 w root steps slave → (root ≡ first_member) × (steps ≡ 1) × (slave ≡ Some 1)
second_follows w root steps port at shown =
    let by_rest : IsNear (snapshot_of w) 2 → IsSettledFor (snapshot_of w) 2 root steps port =
    shown (at.calm settling_span_with (omega arith)) in
    let is : IsSettledFor pair_snapshot 2 root steps port =
    subst (λ g. IsNear g 2 → IsSettledFor g 2 root steps port) at.snapshot by_rest near in
    (root_is root is.best, steps_are steps is.distance, slave_is port is.parent)

-- no path has more systems than there are
pub bounded : BoundsPaths pair_snapshot 2
bounded v u us way = path_bounded pair_snapshot v u us well_formed way

-- two seconds sooner, as it is one step away
pub second_follows_sooner : (w : WorldState) (root steps : ℕ) (slave : Option ℕ) → IsPairAt 24000000000 w
    → FollowsByDistance 2 w root steps slave → (root ≡ first_member) × (steps ≡ 1) × (slave ≡ Some 1)
second_follows_sooner w root steps port at shown =
    let is : IsSettledFor pair_snapshot 2 root steps port =
    subst (λ g. IsSettledFor g 2 root steps port) at.snapshot
    (shown 2 1 (subst (λ g. BoundsPaths g 2) (sym at.snapshot) bounded)
    (subst (λ g. IsDistance g 2 1) (sym at.snapshot) follows.steps) (omega arith)
    (at.calm (distance_span 2 1) (omega arith))) in
    (root_is root is.best, steps_are steps is.distance, slave_is port is.parent)

pub second_follows_by_paths : (w : WorldState) (root steps : ℕ) (slave : Option ℕ) → IsPairAt 26000000000 w
    → FollowsByPaths 2 w root steps slave → (root ≡ first_member) × (steps ≡ 1) × (slave ≡ Some 1)
second_follows_by_paths w root steps port at shown =
    let is : IsSettledFor pair_snapshot 2 root steps port =
    subst (λ g. IsSettledFor g 2 root steps port) at.snapshot
    (shown 2 (subst (λ g. BoundsPaths g 2) (sym at.snapshot) bounded) (at.calm (span_over 2) (omega arith))
    (subst (λ g. IsNear g 2) (sym at.snapshot) near)) in
    (root_is root is.best, steps_are steps is.distance, slave_is port is.parent)

-- what calls show of the ports at both ends
abbrev ShowsRole : ℕ → Role → settled.Role → Type 0
ShowsRole clock role wanted = IsSettledRole pair_snapshot (port_of clock 1) wanted → graph_role role ≡ wanted

role_shown : (w : WorldState) (clock : ℕ) (role : Role) → IsPairAt 26000000000 w → IsNear pair_snapshot clock
    → PlaysInTime clock 1 w role → (wanted : settled.Role) → ShowsRole clock role wanted
role_shown w clock role at is_near shown wanted want =
    let by_rest : IsNear (snapshot_of w) clock → IsSettledRole (snapshot_of w) (port_of clock 1) (graph_role role) =
    shown (at.calm settling_span_with (omega arith)) in
    let is : IsSettledRole pair_snapshot (port_of clock 1) (graph_role role) =
    subst (λ g. IsNear g clock → IsSettledRole g (port_of clock 1) (graph_role role)) at.snapshot by_rest is_near in
    role_is clock (graph_role role) wanted is want

is_slave : (role : Role) → graph_role role ≡ settled.Slave → role ≡ roles.Slave
is_slave roles.Disabled same = absurd cc
is_slave roles.Master same = absurd cc
is_slave roles.Slave same = refl
is_slave roles.Passive same = absurd cc

is_master : (role : Role) → graph_role role ≡ settled.Master → role ≡ roles.Master
is_master roles.Disabled same = absurd cc
is_master roles.Master same = refl
is_master roles.Slave same = absurd cc
is_master roles.Passive same = absurd cc

pub second_plays : (w : WorldState) (role : Role) → IsPairAt 26000000000 w → PlaysInTime 2 1 w role
    → role ≡ roles.Slave
second_plays w role at shown = is_slave role (role_shown w 2 role at near shown settled.Slave slave)

pub first_plays : (w : WorldState) (role : Role) → IsPairAt 26000000000 w → PlaysInTime 1 1 w role
    → role ≡ roles.Master
first_plays w role at shown = is_master role (role_shown w 1 role at near_first shown settled.Master master)

-- ---- what its calls answer

-- the second is found, and follows the first by whatever shows what it follows
found_following : (time : ℕ) (w : WorldState) (Shows : ℕ → ℕ → ℕ → Option ℕ → Type 0) (clock : ℕ)
    (found : Option (ℕ × ℕ × Option ℕ)) → clock ≡ 2 → IsPairAt time w
    → ((root steps : ℕ) (port : Option ℕ) → Shows 2 root steps port
    → (root ≡ first_member) × (steps ≡ 1) × (port ≡ Some 1))
    → IfSome found (λ f. Shows clock f.0 f.1 f.2) → IfNone found (AtSystem clock w IsLiveSystem → ⊥)
    → found ≡ Some (first_member, 1, Some 1)
found_following time w Shows clock None named at is some none =
    absurd (none (subst (λ c. AtSystem c w IsLiveSystem) (sym named) (second_lives time w at)))
found_following time w Shows clock (Some (root, steps, port)) named at is some none =
    let (root_same, steps_same, port_same) =
    is root steps port (subst (λ c. Shows c root steps port) named some) in
    rw (root_same, steps_same, port_same) refl

pub followed : (w : WorldState) (clock : ℕ) (found : Option (ℕ × ℕ × Option ℕ)) → clock ≡ 2
    → IsPairAt 26000000000 w → IfSome found (λ f. FollowsInTime clock w f.0 f.1 f.2)
    → IfNone found (AtSystem clock w IsLiveSystem → ⊥) → found ≡ Some (first_member, 1, Some 1)
followed w clock found named at =
    found_following 26000000000 w (λ c root steps port. FollowsInTime c w root steps port) clock found named at
    (λ root steps port. second_follows w root steps port at)

pub followed_sooner : (w : WorldState) (clock : ℕ) (found : Option (ℕ × ℕ × Option ℕ)) → clock ≡ 2
    → IsPairAt 24000000000 w → IfSome found (λ f. FollowsByDistance clock w f.0 f.1 f.2)
    → IfNone found (AtSystem clock w IsLiveSystem → ⊥) → found ≡ Some (first_member, 1, Some 1)
followed_sooner w clock found named at =
    found_following 24000000000 w (λ c root steps port. FollowsByDistance c w root steps port) clock found named at
    (λ root steps port. second_follows_sooner w root steps port at)

pub followed_by_paths : (w : WorldState) (clock : ℕ) (found : Option (ℕ × ℕ × Option ℕ)) → clock ≡ 2
    → IsPairAt 26000000000 w → IfSome found (λ f. FollowsByPaths clock w f.0 f.1 f.2)
    → IfNone found (AtSystem clock w IsLiveSystem → ⊥) → found ≡ Some (first_member, 1, Some 1)
followed_by_paths w clock found named at =
    found_following 26000000000 w (λ c root steps port. FollowsByPaths c w root steps port) clock found named at
    (λ root steps port. second_follows_by_paths w root steps port at)

-- the second lives, by a clock that is its
pub lives : (time : ℕ) (w : WorldState) (clock : ℕ) → clock ≡ 2 → IsPairAt time w → AtSystem clock w IsLiveSystem
lives time w clock named at = subst (λ c. AtSystem c w IsLiveSystem) (sym named) (second_lives time w at)

pub first_played : (w : WorldState) (found : Option Role) → IsPairAt 26000000000 w → IfSome found (PlaysInTime 1 1 w)
    → IfNone found (AtSystem 1 w (HasPort 1) → ⊥) → found ≡ Some roles.Master
first_played w None at some none = absurd (none (first_there 26000000000 w at))
first_played w (Some role) at some none = ap Some (first_plays w role at some)

pub second_played : (w : WorldState) (found : Option Role) → IsPairAt 26000000000 w
    → IfSome found (PlaysInTime 2 1 w) → IfNone found (AtSystem 2 w (HasPort 1) → ⊥) → found ≡ Some roles.Slave
second_played w None at some none = absurd (none (second_there 26000000000 w at))
second_played w (Some role) at some none = ap Some (second_plays w role at some)

pub not_disabled : (w : WorldState) (found : Option Role) → IsPairAt 14000000000 w
    → IfSome found (IsEnabledInTime 2 1 w) → found ≢ Some roles.Disabled
not_disabled w None at some same = absurd cc
not_disabled w (Some role) at some same = second_is_enabled w role at some (same_Some role roles.Disabled same)

pub has_role : (w : WorldState) (found : Option Role) → IsPairAt 14000000000 w
    → IfNone found (AtSystem 2 w (HasPort 1) → ⊥) → found ≢ None
has_role w None at none same = absurd (none (second_there 14000000000 w at))
has_role w (Some role) at none same = absurd cc

-- ---- what it announces

-- the first alone is joined to the second
only_neighbour : (other : ℕ) → Adjacent pair_snapshot 2 other → other ≡ 1
only_neighbour other (m, n, inl (inl same)) =
    absurd (let clock : 2 ≡ 1 = ap (λ (l : Link). l.a.clock) same in omega (arith, clock))
only_neighbour other (m, n, inl (inr none)) = absurd none
only_neighbour other (m, n, inr (inl same)) = ap (λ (l : Link). l.a.clock) same
only_neighbour other (m, n, inr (inr none)) = absurd none

-- a way of one link from the second leads to the first
one_link : (end : ℕ) (others : List ℕ) → IsPath pair_snapshot 2 end others → length others ≡ 1 → others ≡ 1 ∷ []
one_link end [] way long = absurd (omega (arith, long))
one_link end (other ∷ []) way long = ap (λ x. x ∷ []) (only_neighbour other way.route.0)
one_link end (other ∷ (more ∷ rest)) way long = absurd (omega (arith, long))

announces : (trace : List ℕ) (s : Announce) → s.path ≡ trace → s.steps ≡ 1
    → Clean pair_snapshot 4 2 trace ⊎ Whole pair_snapshot 2 s → trace ≡ 1 ∷ 2 ∷ []
announces trace s same steps (inl clean) =
    let few : length clean.others < 2 = path_bounded pair_snapshot 2 clean.end clean.others well_formed clean.way in
    let long = clean.long in
    absurd (omega (arith, few, long))
announces trace s same steps (inr whole) =
    let others : whole.others ≡ 1 ∷ [] = one_link whole.first.clock whole.others whole.way (whole.steps ∙ steps) in
    let back : reverse trace ≡ 2 ∷ 1 ∷ [] =
    ap reverse (sym same) ∙ whole.is ∙ ap (λ xs. 2 ∷ xs) others in
    sym (reverse-reverse trace) ∙ ap reverse back

pub second_announces : (w : WorldState) (s : SystemState) (root steps : ℕ) (port : Option ℕ) → IsPairAt 26000000000 w
    → IsSound w → AtSystem 2 w (FollowsRoot root steps port) → FollowsInTime 2 w root steps port → ShowsLive 2 w s
    → IsCleanInTime w s → trace s ≡ 1 ∷ 2 ∷ []
second_announces w s root steps port at sound found settled shows shown =
    let place : found.place ≡ shows.place =
    sound.wired.clocks found.place shows.place found.station shows.station found.is.here shows.is.here
    (found.is.named ∙ sym shows.is.named) in
    let station : found.station ≡ shows.station =
    same_Some found.station shows.station
    (sym found.is.here ∙ ap (λ i. slice_get w.stations i) place ∙ shows.is.here) in
    let (root_same, steps_same, port_same) = second_follows w root steps port at settled in
    let one : s.steps ≡ 1 =
    ap (λ (x : SystemState). x.steps) shows.state
    ∙ ap (λ (x : Station). x.system.steps) (sym station) ∙ sym found.so.steps_are ∙ steps_same in
    let named : clock s ≡ 2 = ap clock shows.state ∙ shows.is.named in
    let is : IsTraceClean (snapshot_of w) 3 s = shown 3 (at.calm (turns_span 3) (omega arith)) in
    let in_pair : IsTraceClean pair_snapshot 3 s = subst (λ g. IsTraceClean g 3 s) at.snapshot is in
    announces (trace s) (announced s) refl one
    (subst (λ v. Clean pair_snapshot 4 v (trace s) ⊎ Whole pair_snapshot v (announced s)) named in_pair)

-- ---- what both state

rising : IsRising (line_clocks (leading ∷ following_pair ∷ []))
rising = ((λ y among. later y among), ((λ y among. absurd among), tt))
  where
    later : (y : ℕ) → In y (2 ∷ []) → 1 < y
    later y (inl same) = omega arith
    later y (inr none) = absurd none

pub certified : (w : WorldState) (lines : List SystemLine) → IsPairAt 26000000000 w → States w lines
    → IsRightInTime w lines → lines ≡ leading ∷ following_pair ∷ []
certified w lines at states right =
    same_choice pair_snapshot lines (leading ∷ following_pair ∷ []) well_formed
    (subst (λ g. IsSettledChoice g lines) at.snapshot (right (at.calm settling_span_with (omega arith)))) choice
    states.rising rising
