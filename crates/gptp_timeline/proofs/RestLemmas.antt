-- What live systems show that have settled in one network is the same.
use Rattle.std.proofs.Common.{◌≡◌, ◌≤◌, ◌<◌, ◌+◌, ◌==◌, ◌↔◌, ℕ, zero, suc, Bool, true, false, List, [], ◌∷◌, length, map, Option, Some, None, option_map, slice_get, is_some, if◌then◌else◌, refl, sym, ap, subst, ◌∙◌, arith}
use Rattle.std.specs.List.{range_with_len}
use Rattle.std.proofs.lemmas.Bool.Decides.{nat_tests}
use Rattle.std.proofs.lemmas.Option.{same_Some}
use Rattle.gptp_model.specs.declared.station.Station.{Station}
use Rattle.gptp_model.specs.Sound.{HaveOwnClocks}
use Rattle.gptp_model.specs.Views.{ShowsLive}
use Rattle.gptp_model.specs.World.{WorldState}
use Rattle.gptp_graph.specs.Distance.{IsDistance, IsNear}
use Rattle.gptp_graph.specs.Parent.{ParentLink}
use Rattle.gptp_graph.specs.PathBound.{BoundsPaths}
use Rattle.gptp_graph.specs.SettledChoice.{IsBestIdentity}
use Rattle.gptp_graph.specs.SettledRole.{IsMasterPort, IsSlavePort}
use Rattle.gptp_graph.specs.SettledRole as graph
use Rattle.gptp_graph.specs.Snapshot.{IsLinked, IsWellFormed, Snapshot, System, port_of}
use Rattle.gptp_graph.proofs.BestLemmas.{IsBest-unique}
use Rattle.gptp_graph.proofs.DistanceLemmas.{IsDistance-unique}
use Rattle.gptp_graph.proofs.ParentLemmas.{IsParent-unique}
use Rattle.gptp_graph.proofs.RoleLemmas.{RoleBy-unique}
use Rattle.gptp_graph.proofs.SystemLemmas.{same_clock}
use Rattle.gptp_invariants.specs.WorldCalmFor.{IsCalmFor, span_over}
use Rattle.gptp_invariants.specs.WorldSettlingInvariant.{SettlingInvariant}
use Rattle.gptp_invariants.specs.ChoiceSettled.{IsSettledSystem, graph_role}
use Rattle.gptp_invariants.specs.WorldShown.{AreCapable}
use Rattle.gptp_invariants.specs.WorldStanding.{snapshot_of, standing_system}
use Rattle.gptp_invariants.proofs.WorldSettlingInvariantLemmas.{over_capable, settled_by_paths}
use Rattle.gptp_invariants.proofs.WorldShownLemmas.{capable_shown}
use Rattle.gptp_invariants.proofs.WorldSystemLemmas.{live_from, live_there}
use Rattle.gptp_lists.specs.Members.{In}
use Rattle.gptp_roles.specs.declared.role.Role.{Role}
use Rattle.gptp_roles.specs.declared.role.Role.TheVariants as roles
use Rattle.gptp_bmca_machine.specs.Settled.{IsSlaveOf}
use Rattle.gptp_system.specs.Start.{role_at}
use Rattle.gptp_system.specs.State.{clock, is_capable_at, SystemState}
use Rattle.gptp_system.specs.Steps.{HasPortNumber}
use Rattle.gptp_timeline.specs.Ports.{shown_port, shown_ports}
use Rattle.gptp_timeline.specs.Shown.{live_among, live_system, same_choice, same_roles, shown, shown_of}
use Rattle.gptp_timeline.specs.declared.ports.ShownPort.{ShownPort}
use Rattle.gptp_timeline.specs.declared.shown.Shown.{Shown}
use Rattle.gptp_timeline.proofs.SameLemmas.{choice_itself, roles_itself}
use Rattle.gptp_timeline.proofs.ShownLemmas.{found}
use Rattle.gptp_timeline.proofs.StandLemmas.{map_same}

-- ---- what is settled is one thing

module _ (g : Snapshot) (v : ℕ) where
  same_root : (a b : ℕ) → IsWellFormed g → IsBestIdentity g v a → IsBestIdentity g v b → a ≡ b
  same_root a b well (x, is, e) (y, also, f) =
      e ∙ ap (λ (s : System). s.identity) (IsBest-unique g v x y well is also) ∙ sym f

  same_slave_port : (a b : Option ℕ) → IsSlaveOf g v a → IsSlaveOf g v b → a ≡ b
  same_slave_port None None h k = refl
  same_slave_port None (Some n) h (l, is, own) = absurd (h l is)
  same_slave_port (Some n) None (l, is, own) k = absurd (k l is)
  same_slave_port (Some n) (Some m) (l, is, own) (k, also, its) =
      ap Some (sym own ∙ ap (λ (x : ParentLink). x.own_port) (IsParent-unique g v l k is also) ∙ its)

-- roles by those of the graph
abbrev role_from : graph.Role → Role
role_from graph.Disabled = roles.Disabled
role_from graph.Master = roles.Master
role_from graph.Slave = roles.Slave
role_from graph.Passive = roles.Passive

role_back : (r : Role) → role_from (graph_role r) ≡ r
role_back roles.Disabled = refl
role_back roles.Master = refl
role_back roles.Slave = refl
role_back roles.Passive = refl

same_role : (a b : Role) → graph_role a ≡ graph_role b → a ≡ b
same_role a b same = sym (role_back a) ∙ ap role_from same ∙ role_back b

same_test : (a b : Bool) (P : Type 0) → (a ≡ true) ↔ P → (b ≡ true) ↔ P → a ≡ b
same_test true true P h k = refl
same_test false false P h k = refl
same_test true false P h k = absurd (let no = k.1 (h.0 refl) in cc)
same_test false true P h k = absurd (let no = h.1 (k.0 refl) in cc)

in_range : (k from i n : ℕ) → slice_get (range_with_len from k) i ≡ Some n → (from ≤ n) × (n < from + k)
in_range zero from i n there = absurd cc
in_range (suc k) from zero n there = let is : from ≡ n = same_Some from n there in (omega arith, omega arith)
in_range (suc k) from (suc i) n there =
    let rest = in_range k (from + 1) i n there in
    let low = rest.0 in let high = rest.1 in (omega arith, omega arith)

-- ---- two states of one system

-- it has settled, and its ports are capable where they will be
pub record IsAtRest (g : Snapshot) (s : SystemState) : Type 0 where
  pub settled : IsSettledSystem g s
  pub capable : AreCapable g s

module _ (g : Snapshot) (well : IsWellFormed g) (s s' : SystemState) (named : clock s' ≡ clock s)
    (count : length s'.ports ≡ length s.ports) (rests : IsAtRest g s) (rests' : IsAtRest g s') where
  as_port : (n : ℕ) → HasPortNumber s n → HasPortNumber s' n
  as_port n is = record { least = is.least; most = subst (λ k. n ≤ k) (sym count) is.most }

  abbrev made : Role → Bool → ShownPort
  made r c = record { role = r; capable = c }

  port_of_s : (n : ℕ) → HasPortNumber s n → shown_port s' n ≡ shown_port s n
  port_of_s n is =
      let port = port_of (clock s) n in
      let role : role_at s' n ≡ role_at s n =
      same_role (role_at s' n) (role_at s n)
      (RoleBy-unique (IsLinked g port) (IsSlavePort g port) (IsMasterPort g port) (graph_role (role_at s' n))
      (graph_role (role_at s n))
      (subst (λ v. graph.IsSettledRole g (port_of v n) (graph_role (role_at s' n))) named
      (rests'.settled.roles n (as_port n is))) (rests.settled.roles n is)) in
      let capable : is_capable_at s' n ≡ is_capable_at s n =
      same_test (is_capable_at s' n) (is_capable_at s n) (IsLinked g port)
      (subst (λ v. (is_capable_at s' n ≡ true) ↔ IsLinked g (port_of v n)) named (rests'.capable n (as_port n is)))
      (rests.capable n is) in
      ap (λ r. made r (is_capable_at s' n)) role ∙ ap (made (role_at s n)) capable

  ports_are : shown_ports s' ≡ shown_ports s
  ports_are =
      ap (λ k. map (shown_port s') (range_with_len 1 k)) count
      ∙ sym (map_same (shown_port s) (shown_port s') (range_with_len 1 (length s.ports)) (λ i n there.
      let within = in_range (length s.ports) 1 i n there in
      let low = within.0 in let high = within.1 in
      port_of_s n (record { least = low; most = omega arith })))

  abbrev shows : ℕ → ℕ → Option ℕ → List ShownPort → Shown
  shows root steps slave ports =
      record { root = root; steps = steps; slave = slave; known = is_some s'.offset; ports = ports }

  shown_is : shown_of s' ≡ shows s.root s.steps s.slave (shown_ports s)
  shown_is =
      ap (λ r. shows r s'.steps s'.slave (shown_ports s'))
      (same_root g (clock s) s'.root s.root well (subst (λ v. IsBestIdentity g v s'.root) named rests'.settled.root)
      rests.settled.root)
      ∙ ap (λ k. shows s.root k s'.slave (shown_ports s'))
      (IsDistance-unique g (clock s) s'.steps s.steps well
      (subst (λ v. IsDistance g v s'.steps) named rests'.settled.steps) rests.settled.steps)
      ∙ ap (λ l. shows s.root s.steps l (shown_ports s'))
      (same_slave_port g (clock s) s'.slave s.slave (subst (λ v. IsSlaveOf g v s'.slave) named rests'.settled.slave)
      rests.settled.slave)
      ∙ ap (shows s.root s.steps s.slave) ports_are

  pub rest_same : (same_choice (Some (shown_of s)) (Some (shown_of s')) ≡ true)
      × (same_roles (Some (shown_of s)) (Some (shown_of s')) ≡ true)
  rest_same = (
    ap (λ x. same_choice (Some (shown_of s)) (Some x)) shown_is ∙ choice_itself (Some (shown_of s)),
    ap (λ x. same_roles (Some (shown_of s)) (Some x)) shown_is ∙ roles_itself (Some (shown_of s)),
  )

-- ---- live systems by their clocks

pub record IsLiveAs (name : ℕ) (stations : List Station) (s : SystemState) : Type 0 where
  pub place : ℕ
  pub station : Station
  pub here : slice_get stations place ≡ Some station
  pub live : station.live ≡ true
  pub state : station.system ≡ s
  pub is_named : clock station.system ≡ name

pub found_live : (name : ℕ) (stations : List Station) (s : SystemState) → live_among name stations ≡ Some s
    → IsLiveAs name stations s
found_live name [] s is = absurd cc
found_live name (x ∷ xs) s is = by (clock x.system == name) refl x.live refl (found_live name xs s)
  where
    by : (t : Bool) → clock x.system == name ≡ t → (l : Bool) → x.live ≡ l
        → (live_among name xs ≡ Some s → IsLiveAs name xs s) → IsLiveAs name (x ∷ xs) s
    by true test true live behind = record {
      place = 0;
      station = x;
      here = refl;
      live = live;
      state = same_Some x.system s (rw (test, live) at is);
      is_named = grind (arith, nat_tests);
    }
    by true test false live behind = let none : None ≡ Some s = rw (test, live) at is in absurd cc
    by false test l live behind =
        let rest = behind (rw test at is) in record {
          place = suc rest.place;
          station = rest.station;
          here = rest.here;
          live = rest.live;
          state = rest.state;
          is_named = rest.is_named;
        }

-- a live system is in its state
pub shows_live : (name : ℕ) (w : WorldState) (s : SystemState) → live_system name w ≡ Some s → ShowsLive name w s
shows_live name w s is =
    let live = found_live name w.stations s is in record {
      place = live.place;
      station = live.station;
      is = record { here = live.here; named = live.is_named };
      live = live.live;
      state = sym live.state;
    }

-- a live system is one of the snapshot
pub stands_there : (w : WorldState) (name : ℕ) (s : SystemState) → live_system name w ≡ Some s
    → (x : System) × In x (snapshot_of w).systems × (x.clock ≡ clock s) × (x.ports ≡ length s.ports) × (clock s ≡ name)
stands_there w name s is =
    let live = found_live name w.stations s is in (
      standing_system live.station,
      live_there w.stations live.place live.station live.here live.live,
      ap clock live.state,
      ap (λ (t : SystemState). length t.ports) live.state,
      ap clock (sym live.state) ∙ live.is_named,
    )

-- and each of the snapshot is a live system
pub lives_there : (w : WorldState) (name : ℕ) (x : System) → HaveOwnClocks w → In x (snapshot_of w).systems
    → x.clock ≡ name → (s : SystemState) × (live_system name w ≡ Some s)
lives_there w name x own member named =
    let live = live_from w.stations x member in
    let is_named : clock live.station.system ≡ name = ap (λ (y : System). y.clock) (sym live.is) ∙ named in (
      live.station.system,
      found name live.place w.stations live.station live.here is_named
          (λ other at there same. own other live.place at live.station there live.here (same ∙ sym is_named))
          ∙ ap (λ l. if l then Some live.station.system else None) live.live,
    )

-- ---- a world that is at rest

-- each near live system is at rest
module _ (m : ℕ) (w : WorldState) (claimed : SettlingInvariant w) (bounded : BoundsPaths (snapshot_of w) m)
    (calm : IsCalmFor (span_over m) w) where
  pub world_rests : (name : ℕ) (s : SystemState) → live_system name w ≡ Some s → IsNear (snapshot_of w) name
      → IsAtRest (snapshot_of w) s
  world_rests name s is near =
      let live = found_live name w.stations s is in record {
        settled = subst (IsSettledSystem (snapshot_of w)) live.state
            (settled_by_paths m w claimed bounded calm live.place live.station live.here live.live
            (subst (IsNear (snapshot_of w)) (sym live.is_named) near));
        capable = capable_shown name w s claimed (shows_live name w s is) (over_capable m w calm);
      }

-- Two worlds with one snapshot in which all live systems are at rest show the same.
module _ (g : Snapshot) (well : IsWellFormed g) (w w' : WorldState) (is : snapshot_of w ≡ g) (is' : snapshot_of w' ≡ g)
    (own : HaveOwnClocks w) (own' : HaveOwnClocks w') (name : ℕ)
    (rest : (s : SystemState) → live_system name w ≡ Some s → IsAtRest g s)
    (rest' : (s : SystemState) → live_system name w' ≡ Some s → IsAtRest g s) where
  abbrev SameShown : Option SystemState → Option SystemState → Type 0
  SameShown a b = (same_choice (option_map shown_of a) (option_map shown_of b) ≡ true)
      × (same_roles (option_map shown_of a) (option_map shown_of b) ≡ true)

  abbrev among : (v : WorldState) → snapshot_of v ≡ g → (x : System) → In x (snapshot_of v).systems → In x g.systems
  among v same x member = subst (λ (h : Snapshot). In x h.systems) same member

  by_states : (a b : Option SystemState) → live_system name w ≡ a → live_system name w' ≡ b → SameShown a b
  by_states None None a b = (refl, refl)
  by_states (Some s) None a b =
      let (x, member, clock_is, ports, named) = stands_there w name s a in
      let other = lives_there w' name x own'
      (subst (λ (h : Snapshot). In x h.systems) (sym is') (among w is x member)) (clock_is ∙ named) in
      let no : None ≡ Some other.0 = sym b ∙ other.1 in absurd cc
  by_states None (Some s) a b =
      let (x, member, clock_is, ports, named) = stands_there w' name s b in
      let other = lives_there w name x own
      (subst (λ (h : Snapshot). In x h.systems) (sym is) (among w' is' x member)) (clock_is ∙ named) in
      let no : None ≡ Some other.0 = sym a ∙ other.1 in absurd cc
  by_states (Some s) (Some s') a b =
      let (x, member, clock_is, ports, named) = stands_there w name s a in
      let (x', member', clock_is', ports', named') = stands_there w' name s' b in
      let same : x' ≡ x =
      same_clock g x' x well (among w' is' x' member') (among w is x member)
      (clock_is' ∙ named' ∙ sym named ∙ sym clock_is) in
      rest_same g well s s' (named' ∙ sym named)
      (sym ports' ∙ ap (λ (y : System). y.ports) same ∙ ports) (rest s a) (rest' s' b)

  pub shown_same : (same_choice (shown name w) (shown name w') ≡ true) ×
      (same_roles (shown name w) (shown name w') ≡ true)
  shown_same = by_states (live_system name w) (live_system name w') refl refl
