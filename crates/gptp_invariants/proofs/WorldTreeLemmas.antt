-- A settled world is a tree.
use Rattle.std.proofs.Common.{◌≡◌, ◌≢◌, ◌≤◌, ℕ, suc, Option, Some, None, refl, sym, ap, subst, ◌∙◌, arith}
use Rattle.gptp_graph.specs.Best.{IsBest}
use Rattle.gptp_graph.specs.Distance.{IsDistance, IsNear}
use Rattle.gptp_graph.specs.Parent.{IsParent, ParentLink}
use Rattle.gptp_graph.specs.SettledRole.{IsMasterPort, IsSettledRole, IsSlavePort}
use Rattle.gptp_graph.specs.SettledRole as settled
use Rattle.gptp_graph.specs.Snapshot.{IsLinked, IsWellFormed, Joins, Snapshot, System, port_of}
use Rattle.gptp_graph.proofs.BestLemmas.{IsBest-unique}
use Rattle.gptp_graph.proofs.DistanceLemmas.{IsDistance-best, IsDistance-unique}
use Rattle.gptp_graph.proofs.LinkLemmas.{Joins-sym}
use Rattle.gptp_graph.proofs.RoleLemmas.{RoleBy-unique, parent_is_master}
use Rattle.gptp_graph.proofs.SystemLemmas.{same_clock}
use Rattle.gptp_graph.proofs.TreeLemmas.{best_has_no_parent, parent_is_slave, parent_of_other}
use Rattle.gptp_graph.proofs.ParentLemmas.{IsParent-unique, LeadsNearer-distance}
use Rattle.gptp_roles.specs.declared.role.Role.{Role}
use Rattle.gptp_roles.specs.declared.role.Role.TheVariants.{Disabled, Master, Slave, Passive}
use Rattle.gptp_system.specs.Start.{role_at}
use Rattle.gptp_system.specs.State.{SystemState, clock}
use Rattle.gptp_system.specs.Steps.{HasPortNumber}
use Rattle.gptp_model.specs.World.{WorldState}
use Rattle.gptp_bmca_machine.specs.Settled.{IsSlaveOf}
use Rattle.gptp_invariants.specs.WorldSettlingInvariant.{SettlingInvariant}
use Rattle.gptp_invariants.specs.ChoiceSettled.{IsSettledSystem, Settled, graph_role}
use Rattle.gptp_invariants.specs.WorldStanding.{snapshot_of, standing_system}
use Rattle.gptp_invariants.specs.WorldTree.{HangsOnParent, IsLiveStation, IsRoot, IsTree, priority1}
use Rattle.gptp_invariants.proofs.WorldStandsLemmas.{stands_well}
use Rattle.gptp_invariants.proofs.WorldSystemLemmas.{IsLiveAt, live_from, live_there}

-- ---- roles

-- a role is what the graph's is
role_is : (mine other : Role) → graph_role mine ≡ graph_role other → mine ≡ other
role_is Disabled Disabled same = refl
role_is Master Master same = refl
role_is Slave Slave same = refl
role_is Passive Passive same = refl
role_is Disabled Master same = absurd cc
role_is Disabled Slave same = absurd cc
role_is Disabled Passive same = absurd cc
role_is Master Disabled same = absurd cc
role_is Master Slave same = absurd cc
role_is Master Passive same = absurd cc
role_is Slave Disabled same = absurd cc
role_is Slave Master same = absurd cc
role_is Slave Passive same = absurd cc
role_is Passive Disabled same = absurd cc
role_is Passive Master same = absurd cc
role_is Passive Slave same = absurd cc

-- ---- one settled world

module _ (w : WorldState) (claimed : SettlingInvariant w) (settled_world : Settled w) where
  abbrev g : Snapshot
  g = snapshot_of w

  wf : IsWellFormed g
  wf =
      let is = claimed.is.world in
      stands_well w is.sound is.between is.encodable

  -- a live system is settled
  settled_live : (s : SystemState) → IsLiveStation w s → IsNear g (clock s) → IsSettledSystem g s
  settled_live s lives near =
      subst (IsSettledSystem g) (sym lives.is)
      (settled_world lives.place lives.station lives.here lives.live
      (subst (λ (x : SystemState). IsNear g (clock x)) lives.is near))

  -- its port is one of the snapshot's, so a port at a link of the snapshot is one of its ports
  linked_port : (s : SystemState) (n : ℕ) → IsLiveStation w s → IsLinked g (port_of (clock s) n) → HasPortNumber s n
  linked_port s n lives (q, joins) =
      let (x, member, port) = wf.ends (port_of (clock s) n) q joins in
      let same : x ≡ standing_system lives.station =
      same_clock g x (standing_system lives.station) wf member
      (live_there w.stations lives.place lives.station lives.here
      lives.live) (port.clock ∙ ap clock lives.is) in
      let most : n ≤ (standing_system lives.station).ports = subst (λ (y : System). n ≤ y.ports) same port.last in
      subst (λ (y : SystemState). HasPortNumber y n) (sym lives.is) (record { least = port.first; most = most })

  -- it has the role that a port of the graph settles at
  has_role : (s : SystemState) (n : ℕ) (r : Role) → IsLiveStation w s → IsNear g (clock s)
      → IsSettledRole g (port_of (clock s) n) (graph_role r) → HasPortNumber s n → role_at s n ≡ r
  has_role s n r lives near is own =
      role_is (role_at s n) r
      (RoleBy-unique (IsLinked g (port_of (clock s) n)) (IsSlavePort g (port_of (clock s) n))
      (IsMasterPort g (port_of (clock s) n)) (graph_role (role_at s n)) (graph_role r)
      ((settled_live s lives near).roles n own) is)

  -- ---- the best of a component

  is_root : (s : SystemState) (best : System) → IsLiveStation w s → IsBest g (clock s) best → best.clock ≡ clock s
      → IsRoot s
  is_root s best lives is_best same = record {
    root = root;
    steps = IsDistance-unique g (clock s) s.steps 0 wf is.steps here;
    slave = slave s.slave refl is.slave;
    none = λ n own role. no_slave n own
        (subst (λ r. IsSettledRole g (port_of (clock s) n) (graph_role r)) role (is.roles n own));
  }
    where
      here : IsDistance g (clock s) 0
      here =
          subst (λ v. IsDistance g v 0) same
          (IsDistance-best g best (subst (λ v. IsBest g v best) (sym same) is_best))

      is : IsSettledSystem g s
      is = settled_live s lives (0, here, omega arith)

      root : s.root ≡ s.identity
      root =
          let (other, is_other, root_is) = is.root in
          let one : other ≡ best = IsBest-unique g (clock s) other best wf is_other is_best in
          let itself : best ≡ standing_system lives.station =
          same_clock g best (standing_system lives.station) wf is_best.live
          (live_there w.stations lives.place lives.station lives.here lives.live) (same ∙ ap clock lives.is) in
          root_is ∙ ap (λ (x : System). x.identity) (one ∙ itself)
          ∙ ap (λ (x : SystemState). x.identity) (sym lives.is)

      no_slave : (n : ℕ) → HasPortNumber s n → IsSettledRole g (port_of (clock s) n) settled.Slave → ⊥
      no_slave n own (linked, (l, parent, port)) =
          best_has_no_parent g (clock s) best l wf is_best same parent

      slave : (found : Option ℕ) → s.slave ≡ found → IsSlaveOf g (clock s) s.slave → s.slave ≡ None
      slave None is_none of = is_none
      slave (Some n) is_some of =
          let (l, parent, port) = subst (IsSlaveOf g (clock s)) is_some of in
          absurd (best_has_no_parent g (clock s) best l wf is_best same parent)

  -- ---- the others

  hangs : (s : SystemState) (best : System) → IsLiveStation w s → IsNear g (clock s) → IsBest g (clock s) best
      → best.clock ≢ clock s → HangsOnParent w s
  hangs s best lives near is_best other =
      by_parent (parent_of_other g (clock s) best wf is_best other)
    where
      is : IsSettledSystem g s
      is = settled_live s lives near

      by_parent : ((l : ParentLink) × IsParent g (clock s) l) → HangsOnParent w s
      by_parent (l, is_parent) = record {
        port = l.own_port;
        own = own;
        slave = has_role s l.own_port Slave lives near slave_there own;
        only = λ n port role. only n port
            (subst (λ r. IsSettledRole g (port_of (clock s) n) (graph_role r)) role (is.roles n port));
        parent = parent;
        lives = parent_lives;
        there = l.port;
        joins = subst (λ v. Joins g (port_of (clock s) l.own_port) (port_of v l.port)) (sym named) joins;
        master = has_role parent l.port Master parent_lives parent_near master_there
            (linked_port parent l.port parent_lives (port_of (clock s) l.own_port, back));
        nearer = IsDistance-unique g (clock s) s.steps (suc parent.steps) wf is.steps
            (subst (λ d. IsDistance g (clock s) (suc d)) (sym parent_steps) is_parent.nearer.here);
      }
        where
          joins : Joins g (port_of (clock s) l.own_port) (port_of l.clock l.port)
          joins = is_parent.nearer.joins

          slave_there : IsSettledRole g (port_of (clock s) l.own_port) settled.Slave
          slave_there = parent_is_slave g (clock s) l is_parent

          own : HasPortNumber s l.own_port
          own = linked_port s l.own_port lives (port_of l.clock l.port, joins)

          only : (n : ℕ) → HasPortNumber s n → IsSettledRole g (port_of (clock s) n) settled.Slave → n ≡ l.own_port
          only n port (linked, (k, parent_too, number)) =
              sym number
              ∙ ap (λ (x : ParentLink). x.own_port) (IsParent-unique g (clock s) k l parent_too is_parent)

          -- the system at the other end
          at : IsLiveAt w.stations (wf.ends (port_of l.clock l.port) (port_of (clock s) l.own_port)
              (Joins-sym g (port_of (clock s) l.own_port) (port_of l.clock l.port) joins)).0
          at =
              let (x, member, port) = wf.ends (port_of l.clock l.port) (port_of (clock s) l.own_port)
              (Joins-sym g (port_of (clock s) l.own_port) (port_of l.clock l.port) joins) in
              live_from w.stations x member

          parent : SystemState
          parent = at.station.system

          parent_lives : IsLiveStation w parent
          parent_lives =
              record { place = at.place; station = at.station; here = at.here; live = at.live; is = refl }

          named : clock parent ≡ l.clock
          named =
              let (x, member, port) = wf.ends (port_of l.clock l.port) (port_of (clock s) l.own_port)
              (Joins-sym g (port_of (clock s) l.own_port) (port_of l.clock l.port) joins) in
              ap (λ (y : System). y.clock) (sym at.is) ∙ port.clock

          back : Joins g (port_of (clock parent) l.port) (port_of (clock s) l.own_port)
          back =
              subst (λ v. Joins g (port_of v l.port) (port_of (clock s) l.own_port)) (sym named)
              (Joins-sym g (port_of (clock s) l.own_port) (port_of l.clock l.port) joins)

          parent_near : IsNear g (clock parent)
          parent_near =
              let (d, here, less) = near in
              let farther : d ≡ suc is_parent.nearer.distance =
              LeadsNearer-distance g (clock s) d l wf here is_parent.nearer in (
                is_parent.nearer.distance,
                subst (λ v. IsDistance g v is_parent.nearer.distance) (sym named) is_parent.nearer.there,
                omega arith,
              )

          parent_steps : parent.steps ≡ is_parent.nearer.distance
          parent_steps =
              IsDistance-unique g (clock parent) parent.steps is_parent.nearer.distance wf
              (settled_live parent parent_lives parent_near).steps
              (subst (λ v. IsDistance g v is_parent.nearer.distance) (sym named) is_parent.nearer.there)

          master_there : IsSettledRole g (port_of (clock parent) l.port) settled.Master
          master_there =
              subst (λ v. IsSettledRole g (port_of v l.port) settled.Master) (sym named)
              (parent_is_master g (clock s) l wf is_parent)

  -- ---- no grandmaster

  no_lower : (s : SystemState) (best : System) → IsLiveStation w s → IsNear g (clock s) → IsBest g (clock s) best
      → 255 ≤ priority1 best.identity → 255 ≤ priority1 s.root
  no_lower s best lives near is_best low =
      let (other, is_other, root_is) = (settled_live s lives near).root in
      let one : other ≡ best = IsBest-unique g (clock s) other best wf is_other is_best in
      subst (λ n. 255 ≤ priority1 n) (sym (root_is ∙ ap (λ (x : System). x.identity) one)) low

pub settled_is_tree : (w : WorldState) → SettlingInvariant w → Settled w → IsTree w
settled_is_tree w claimed settled_world = record {
  settled = settled_world;
  others = hangs w claimed settled_world;
  best = is_root w claimed settled_world;
  no_grandmaster = no_lower w claimed settled_world;
}
