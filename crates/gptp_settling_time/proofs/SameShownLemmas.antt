-- Two worlds with one snapshot in which all live systems have settled show the same.
use Rattle.std.proofs.Common.{◌≡◌, ◌≤◌, ℕ, zero, suc, Bool, true, false, Option, Some, None, length, slice_get, refl, sym, ap, subst, ◌∙◌, arith}
use Rattle.std.specs.Option.{option_map_or}
use Rattle.std.specs.Prelude.{◌==◌}
use Rattle.gptp_lists.specs.Members.{In}
use Rattle.gptp_lists.proofs.PlaceLemmas.{member_there}
use Rattle.gptp_lists.proofs.SystemSpecLemmas.{In-map}
use Rattle.gptp_graph.specs.Distance.{IsDistance, IsNear}
use Rattle.gptp_graph.specs.Parent.{ParentLink}
use Rattle.gptp_graph.specs.SettledChoice.{IsBestIdentity}
use Rattle.gptp_graph.specs.SettledRole.{IsMasterPort, IsSlavePort}
use Rattle.gptp_graph.specs.SettledRole as graph
use Rattle.gptp_graph.specs.Snapshot.{IsLinked, IsWellFormed, Snapshot, System, port_of}
use Rattle.gptp_graph.proofs.BestLemmas.{IsBest-unique}
use Rattle.gptp_graph.proofs.DistanceLemmas.{IsDistance-unique}
use Rattle.gptp_graph.proofs.ParentLemmas.{IsParent-unique}
use Rattle.gptp_graph.proofs.RoleLemmas.{RoleBy-unique}
use Rattle.gptp_pdelay.specs.Peer.{is_capable}
use Rattle.gptp_receipt.specs.declared.held.Held.{Held}
use Rattle.gptp_receipt.specs.declared.held.Held.TheVariants as helds
use Rattle.gptp_roles.specs.declared.role.Role.{Role}
use Rattle.gptp_roles.specs.declared.role.Role.TheVariants as roles
use Rattle.gptp_system.specs.declared.port.Port.{Port}
use Rattle.gptp_system.specs.Facts.{AreShown, IsShown}
use Rattle.gptp_system.specs.Start.{role_at, role_by}
use Rattle.gptp_system.specs.State.{SystemState, clock, is_capable_at}
use Rattle.gptp_system.specs.Steps.{HasPortNumber}
use Rattle.gptp_model.specs.declared.station.Station.{Station}
use Rattle.gptp_model.specs.Views.{ShowsLive}
use Rattle.gptp_model.specs.World.{WorldState}
use Rattle.gptp_bmca_machine.specs.Settled.{IsSlaveOf}
use Rattle.gptp_invariants.specs.ChoiceSettled.{ChoiceStands, HasSettledChoice, IsSettledSystem, Settled, graph_role}
use Rattle.gptp_invariants.specs.ChoiceSettlesAsMachine.{IsWorld}
use Rattle.gptp_invariants.specs.WorldStanding.{snapshot_of, standing_system}
use Rattle.gptp_invariants.proofs.WorldStandsLemmas.{stands_well}
use Rattle.gptp_invariants.proofs.WorldSystemLemmas.{live_from, live_there}
use Rattle.gptp_setup.specs.SettlingParams.{SettlingParams}
use Rattle.gptp_bmca_machine.specs.SoundLaws.{AllAreNear}
use Rattle.gptp_settling_time.specs.Unchanged.{LeavesChoiceShown, LeavesShown, ShowsSameChoice, ShowsSameRoles}

-- ---- what is settled is one thing

module _ (g : Snapshot) (v : ℕ) where
  same_root : (a b : ℕ) → IsWellFormed g → IsBestIdentity g v a → IsBestIdentity g v b → a ≡ b
  same_root a b well (x, is, e) (y, also, f) =
      e ∙ ap (λ (s : System). s.identity) (IsBest-unique g v x y well is also) ∙ sym f

  same_slave_port : (a b : Option ℕ) → IsSlaveOf g v a → IsSlaveOf g v b → a ≡ b
  same_slave_port None None h k = refl
  same_slave_port None (Some n) h (l, is, own) = absurd (h l is)
  same_slave_port (Some n) None (l, is, own) k = absurd (k l is)
  same_slave_port (Some n) (Some m) (l, is, own) (k, also, its) =
      ap Some (sym own ∙ ap (λ (x : ParentLink). x.own_port) (IsParent-unique g v l k is also) ∙ its)

-- roles by those of the graph
abbrev role_from : graph.Role → Role
role_from graph.Disabled = roles.Disabled
role_from graph.Master = roles.Master
role_from graph.Slave = roles.Slave
role_from graph.Passive = roles.Passive

role_back : (r : Role) → role_from (graph_role r) ≡ r
role_back roles.Disabled = refl
role_back roles.Master = refl
role_back roles.Slave = refl
role_back roles.Passive = refl

same_role : (a b : Role) → graph_role a ≡ graph_role b → a ≡ b
same_role a b same = sym (role_back a) ∙ ap role_from same ∙ role_back b

-- ---- a port is disabled exactly where it isn't capable

is_off : Role → Bool
is_off roles.Disabled = true
is_off roles.Master = false
is_off roles.Slave = false
is_off roles.Passive = false

held_off : Held → Bool
held_off helds.Disabled = true
held_off helds.Aged = false
held_off (helds.Mine root steps) = false
held_off (helds.Received r) = false

off_so : (slave : Bool) (h : Held) → is_off (role_by slave h) ≡ held_off h
unfolding is_off held_off
off_so true helds.Disabled = refl
off_so true helds.Aged = refl
off_so true (helds.Mine root steps) = refl
off_so true (helds.Received r) = refl
off_so false helds.Disabled = refl
off_so false helds.Aged = refl
off_so false (helds.Mine root steps) = refl
off_so false (helds.Received r) = refl

flip : Bool → Bool
flip true = false
flip false = true

shown_off : (h : Held) (q : Port) → IsShown h q → (capable : Bool) → is_capable q.peer ≡ capable
    → flip (held_off h) ≡ capable
unfolding held_off flip
shown_off helds.Disabled q shown true is = absurd (shown.on is refl)
shown_off helds.Disabled q shown false is = refl
shown_off helds.Aged q shown true is = refl
shown_off helds.Aged q shown false is = absurd (let off = shown.off is in cc)
shown_off (helds.Mine root steps) q shown true is = refl
shown_off (helds.Mine root steps) q shown false is = absurd (let off = shown.off is in cc)
shown_off (helds.Received r) q shown true is = refl
shown_off (helds.Received r) q shown false is = absurd (let off = shown.off is in cc)

capable_by : (s : SystemState) → AreShown s → (n : ℕ) → HasPortNumber s n
    → is_capable_at s n ≡ flip (is_off (role_at s n))
capable_by s shown zero is = let least = is.least in absurd (omega arith)
capable_by s shown (suc i) is =
    let most = is.most in
    let places = shown.places in
    let (h, stands) = member_there s.held i (omega arith) in
    let (q, there) = member_there s.ports i (omega arith) in
    let one : is_capable_at s (suc i) ≡ is_capable q.peer =
    ap (λ o. option_map_or (λ (x : Port). is_capable x.peer) o false) there in
    let role : role_at s (suc i) ≡ role_by (option_map_or (λ slave. slave == suc i) s.slave false) h =
    rw stands refl in
    one
    ∙ sym (shown_off h q (shown.each i h q stands there) (is_capable q.peer) refl)
    ∙ ap flip (sym (off_so (option_map_or (λ slave. slave == suc i) s.slave false) h))
    ∙ ap (λ r. flip (is_off r)) (sym role)

-- ---- two states of one system

-- a settled system has its settled choice
pub settled_choice : (g : Snapshot) (s : SystemState) → IsSettledSystem g s → HasSettledChoice g s
settled_choice g s is = record {
  root = is.root;
  steps = is.steps;
  slave = is.slave;
  parent = is.parent;
  roles = λ n of linked. is.roles n of;
}

same_choice : (g : Snapshot) → IsWellFormed g → (s s' : SystemState) → clock s' ≡ clock s → HasSettledChoice g s
    → HasSettledChoice g s' → ShowsSameChoice s s'
same_choice g well s s' named is is' = record {
  root = same_root g (clock s) s'.root s.root well (subst (λ v. IsBestIdentity g v s'.root) named is'.root) is.root;
  steps = IsDistance-unique g (clock s) s'.steps s.steps well (subst (λ v. IsDistance g v s'.steps) named is'.steps)
      is.steps;
  slave = same_slave_port g (clock s) s'.slave s.slave (subst (λ v. IsSlaveOf g v s'.slave) named is'.slave) is.slave;
}

module _ (g : Snapshot) (well : IsWellFormed g) (s s' : SystemState) (named : clock s' ≡ clock s)
    (count : length s'.ports ≡ length s.ports) (shown : AreShown s) (shown' : AreShown s') (is : IsSettledSystem g s)
    (is' : IsSettledSystem g s') where
  as_port : (n : ℕ) → HasPortNumber s n → HasPortNumber s' n
  as_port n of = record { least = of.least; most = subst (λ k. n ≤ k) (sym count) of.most }

  role_same : (n : ℕ) → HasPortNumber s n → role_at s' n ≡ role_at s n
  role_same n of =
      let port = port_of (clock s) n in
      same_role (role_at s' n) (role_at s n)
      (RoleBy-unique (IsLinked g port) (IsSlavePort g port) (IsMasterPort g port) (graph_role (role_at s' n))
      (graph_role (role_at s n))
      (subst (λ v. graph.IsSettledRole g (port_of v n) (graph_role (role_at s' n))) named (is'.roles n (as_port n of)))
      (is.roles n of))

  same_roles : ShowsSameRoles s s'
  same_roles = record {
    role = role_same;
    capable = λ n of.
        capable_by s' shown' n (as_port n of)
        ∙ ap (λ r. flip (is_off r)) (role_same n of)
        ∙ sym (capable_by s shown n of);
  }

-- ---- two worlds

-- the systems that live in a world, with the snapshot of another, live there too
lives_too : (w w' : WorldState) → snapshot_of w' ≡ snapshot_of w → (number : ℕ) (s : SystemState)
    → ShowsLive number w s → (s' : SystemState) × ShowsLive number w' s' × (length s'.ports ≡ length s.ports)
lives_too w w' same number s is =
    let standing : System = standing_system is.station in
    let member = live_there w.stations is.place is.station is.is.here is.live in
    let at = live_from w'.stations standing
    (subst (λ (g : Snapshot). In standing g.systems) (sym same) member) in (
      at.station.system,
      record {
        place = at.place;
        station = at.station;
        is = record {
          here = at.here;
          named = ap (λ (x : System). x.clock) (sym at.is) ∙ is.is.named;
        };
        live = at.live;
        state = refl;
      },
      ap (λ (x : System). x.ports) (sym at.is) ∙ ap (λ (x : SystemState). length x.ports) (sym is.state),
    )

clock_is : (v : WorldState) (number : ℕ) (s : SystemState) → ShowsLive number v s → clock s ≡ number
clock_is v number s shows = ap clock shows.state ∙ shows.is.named

-- what is so of each near live system is so of each that is shown, where all are near
shown_so : (So : Snapshot → SystemState → Type 0) (v : WorldState)
    → ((place : ℕ) (station : Station) → slice_get v.stations place ≡ Some station → station.live ≡ true
    → IsNear (snapshot_of v) (clock station.system) → So (snapshot_of v) station.system)
    → AllAreNear (snapshot_of v) → (number : ℕ) (s : SystemState) → ShowsLive number v s → So (snapshot_of v) s
shown_so So v has all number s is =
    subst (So (snapshot_of v)) (sym is.state)
    (has is.place is.station is.is.here is.live
    (all (clock is.station.system)
    (In-map (λ (x : System). x.clock) (standing_system is.station) (snapshot_of v).systems
    (live_there v.stations is.place is.station is.is.here is.live))))

-- their choice is the same
module _ (p : SettlingParams) (w w' : WorldState) (world : IsWorld p w) (stands : ChoiceStands w)
    (stands' : ChoiceStands w') (same : snapshot_of w' ≡ snapshot_of w) (near : AllAreNear (snapshot_of w')) where
  pub leaves_choice : LeavesChoiceShown w w'
  leaves_choice = record {
    stays = λ number s shows.
        let (s', shows', count) = lives_too w w' same number s shows in
        record {
          state = s';
          shows = shows';
          choice = same_choice (snapshot_of w) (stands_well w world.sound world.between world.encodable) s s'
              (clock_is w' number s' shows' ∙ sym (clock_is w number s shows))
              (shown_so HasSettledChoice w stands (subst AllAreNear same near) number s shows)
              (subst (λ g. HasSettledChoice g s') same (shown_so HasSettledChoice w' stands' near number s' shows'));
        };
    comes = λ number lives.
        let back = lives_too w' w (sym same) number lives.0 lives.1 in (back.0, back.1);
  }

module _ (p : SettlingParams) (w w' : WorldState) (world : IsWorld p w) (world' : IsWorld p w') (settled : Settled w)
    (settled' : Settled w') (same : snapshot_of w' ≡ snapshot_of w) (near : AllAreNear (snapshot_of w')) where
  well : IsWellFormed (snapshot_of w)
  well = stands_well w world.sound world.between world.encodable

  shown_at : (v : WorldState) → IsWorld p v → (number : ℕ) (s : SystemState) → ShowsLive number v s → AreShown s
  shown_at v is number s shows =
      subst AreShown (sym shows.state) (is.sound.on_time.stations shows.place shows.station shows.is.here).steady.shown

  pub leaves_shown : LeavesShown w w'
  leaves_shown = record {
    stays = λ number s shows.
        let (s', shows', count) = lives_too w w' same number s shows in
        let named : clock s' ≡ clock s = clock_is w' number s' shows' ∙ sym (clock_is w number s shows) in
        let one = shown_so IsSettledSystem w settled (subst AllAreNear same near) number s shows in
        let other = subst (λ g. IsSettledSystem g s') same (shown_so IsSettledSystem w' settled' near number s' shows')
        in
        let before = shown_at w world number s shows in
        let after = shown_at w' world' number s' shows' in
        record {
          state = s';
          shows = shows';
          choice = same_choice (snapshot_of w) well s s' named (settled_choice (snapshot_of w) s one)
              (settled_choice (snapshot_of w) s' other);
          roles = same_roles (snapshot_of w) well s s' named count before after one other;
        };
    comes = λ number lives.
        let back = lives_too w' w (sym same) number lives.0 lives.1 in (back.0, back.1);
  }
