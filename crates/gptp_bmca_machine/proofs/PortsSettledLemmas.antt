-- A near system that chooses the best by its distance: by what its ports hold of those that are no farther it follows
-- the best over its parent, and its ports have their settled roles.
use Rattle.std.proofs.Common.{◌≡◌, ◌≢◌, ◌⊎◌, ◌≤◌, ◌<◌, ℕ, zero, suc, [], ◌∷◌, Option, Some, None, slice_get, refl, sym, ap, subst, ◌∙◌, inl, inr, arith}
use native.Mathlib.Decide.{ℕ_discrete, dec_lt}
use Rattle.gptp_graph.specs.Order.{IsLower}
use Rattle.gptp_graph.specs.Snapshot.{PortIdentity, port_of, Joins, IsLinked, IsWellFormed, Adjacent}
use Rattle.gptp_graph.specs.Distance.{IsDistance}
use Rattle.gptp_graph.specs.Parent.{ParentLink, key, LeadsNearer, IsParent}
use Rattle.gptp_graph.specs.SettledRole.{Role, Master, Slave, Passive, IsSlavePort, IsMasterPort, IsSettledRole}
use Rattle.gptp_graph.specs.SettledRole as role
use Rattle.gptp_graph.proofs.LinkLemmas.{Joins-sym, Joins-clock, Adjacent-sym, Adjacent-clock}
use Rattle.gptp_graph.proofs.LinkDecisions.{IsLinked-dec}
use Rattle.gptp_graph.proofs.BestLemmas.{IsBest-neighbour}
use Rattle.gptp_graph.proofs.DistanceLemmas.{IsDistance-unique, IsDistance-neighbour}
use Rattle.gptp_graph.proofs.ExistenceLemmas.{distance_exists}
use Rattle.gptp_graph.proofs.ParentLemmas.{LeadsNearer-distance, IsParent-unique, no_parent_at_zero}
use Rattle.gptp_bmca_machine.specs.Station.{Reception, Disabled, Mine, Received, Port, Station, HoldsAt}
use Rattle.gptp_bmca_machine.specs.Vectors.{path_vector}
use Rattle.gptp_bmca_machine.specs.Clean.{Whole, CameOverLink, CameWhole, CameSound}
use Rattle.gptp_bmca_machine.specs.AtRest.{ChoosesPort}
use Rattle.gptp_bmca_machine.specs.Network.{Network}
use Rattle.gptp_bmca_machine.specs.Calm.{IsCalmPort}
use Rattle.gptp_bmca_machine.specs.Levels.{LeadsFarther}
use Rattle.gptp_bmca_machine.specs.Settled.{FollowsBest, HasBest, HasLinkedRoles, HasSettledRoles, IsSlaveOf, PlaysRole}
use Rattle.gptp_bmca_machine.proofs.PlaceLemmas.{same_there, received_injective}
use Rattle.gptp_bmca_machine.proofs.RestLemmas.{Chooses, IsClear, chosen_port, chosen_itself, chosen_said, is_master}
use Rattle.gptp_bmca_machine.proofs.LevelLemmas.{places_of, chooses}

-- What it chooses, what is known of its ports, and what they hold of those that tell: of each that is nearer, and of
-- each that is as far with the lower clock once it has told.
module _ (n : Network) (wf : IsWellFormed n.graph) (now : ℕ) (s : Station) (d : ℕ) (here : IsDistance n.graph s.clock d)
    (near : d < 255) (clear : IsClear n.graph s) (chosen : Chooses s here.best d) (calm_port : (p : ℕ) (q : Port)
    → slice_get s.ports p ≡ Some q → IsCalmPort n now (port_of s.clock (suc p)) q) (Told : ℕ → Type 0)
    (hears : (e p q : ℕ) (u : ℕ) → e < 255 → LeadsFarther n.graph e here.best u q s.clock p → Told e
    → (r : Reception) × HoldsAt s p r × (r.said.root ≡ here.best.identity) × (r.said.steps ≡ e)
    × (r.said.source ≡ port_of u (suc q))) (told_nearer : (e : ℕ) → e < d → Told e) where
  -- the slave port leads to the parent, once ports without a link hold nothing
  slave_of : n.bare ≤ now → IsSlaveOf n.graph s.clock s.slave
  slave_of bare = by_distance d chosen here (λ i. d)
    where
      by_distance : (d' : ℕ) → Chooses s here.best d' → IsDistance n.graph s.clock d' → d' ≡ d
          → IsSlaveOf n.graph s.clock s.slave
      by_distance zero chooses zero_here same =
          subst (IsSlaveOf n.graph s.clock)
          (sym (chosen_itself n.graph wf s clear here.best here.is_best chooses).1)
          (λ l parent. no_parent_at_zero n.graph s.clock l wf zero_here parent)
      by_distance (suc e) chooses suc_here same_d =
          by_port (chosen_port n.graph wf s clear here.best here.is_best e chooses)
        where
          by_port : ChoosesPort s clear.rest.vector → IsSlaveOf n.graph s.clock s.slave
          by_port (j, x, holds, path, slave) =
              subst (IsSlaveOf n.graph s.clock) (sym slave) (l, parent, refl)
            where
              linked : IsLinked n.graph (port_of s.clock (suc j))
              linked = elim (IsLinked-dec n.graph (port_of s.clock (suc j))) [
                | yes is ↦ is
                | no unlinked ↦ absurd ((calm_port j holds.0 holds.1).bare bare unlinked x holds.2)
              ]

              came : CameOverLink n.graph s.clock (suc j) x.said
              came = (clear.held j x holds).over linked

              l : ParentLink
              l = record { own_port = suc j; clock = came.from.clock; port = came.from.port }

              adjacent : Adjacent n.graph s.clock came.from.clock
              adjacent =
                  (suc j, came.from.port, Joins-sym n.graph came.from (port_of s.clock (suc j)) came.joins)

              said : (x.said.root ≡ here.best.identity) × (x.said.steps ≡ e)
              said = chosen_said n.graph wf s clear here.best here.is_best e j x chooses path

              there : IsDistance n.graph came.from.clock e
              there = from (distance_exists n.graph came.from.clock wf
                  (Adjacent-clock n.graph s.clock came.from.clock wf adjacent))
                where
                  from : ((f : ℕ) × IsDistance n.graph came.from.clock f) → IsDistance n.graph came.from.clock e
                  from (f, is) =
                      let few : f ≤ x.said.steps = came.sender here.best f here.is_best said.0 is in
                      let own : x.said.steps ≡ e = said.1 in
                      let near' : suc e ≤ suc f =
                      IsDistance-neighbour n.graph came.from.clock s.clock f (suc e) wf
                      (Adjacent-sym n.graph s.clock came.from.clock adjacent) is suc_here in
                      subst (IsDistance n.graph came.from.clock) (omega arith) is

              nearer : LeadsNearer n.graph s.clock l
              nearer = record {
                joins = Joins-sym n.graph came.from (port_of s.clock (suc j)) came.joins;
                distance = e;
                there = there;
                here = suc_here;
              }

              -- any other link that leads nearer is one that the port there has told of too
              least : (other : ParentLink) → LeadsNearer n.graph s.clock other → IsLower (key other) (key l) → ⊥
              least other leads lower =
                  by_places (places_of n.graph s.clock other.own_port other.clock other.port wf leads.joins)
                where
                  same : leads.distance ≡ e
                  same =
                      let more : suc e ≡ suc leads.distance =
                      LeadsNearer-distance n.graph s.clock (suc e) other wf suc_here leads in
                      omega arith

                  by_places : ((p : ℕ) × (q : ℕ) × (other.own_port ≡ suc p) × (other.port ≡ suc q)) → ⊥
                  by_places (p, q, is_p, is_q) =
                      let over : Joins n.graph (port_of s.clock (suc p)) (port_of other.clock (suc q)) =
                      subst (λ m. Joins n.graph (port_of s.clock (suc p)) (port_of other.clock m)) is_q
                      (subst (λ m. Joins n.graph (port_of s.clock m) (port_of other.clock other.port)) is_p
                      leads.joins) in
                      let farther : LeadsFarther n.graph e here.best other.clock q s.clock p =
                      record {
                        is_best = IsBest-neighbour n.graph s.clock other.clock here.best wf
                            (suc p, suc q, over) here.is_best;
                        here = subst (IsDistance n.graph other.clock) same leads.there;
                        joins = Joins-sym n.graph (port_of s.clock (suc p)) (port_of other.clock (suc q)) over;
                        far = suc e;
                        there = suc_here;
                        farther = inl (omega arith);
                      } in
                      let own : suc e ≡ d = same_d in
                      let (r, holds_r, root, steps, source) =
                      hears e p q other.clock (omega (arith, own, near)) farther
                      (told_nearer e (omega (arith, own))) in
                      let told : path_vector r.said (suc p) ≡ here.best.identity ∷ suc e ∷ key other =
                      (λ t. root t ∷ suc (steps t) ∷ (source t).clock ∷ (source t).port ∷ suc p ∷ [])
                      ∙ (λ t. here.best.identity ∷ suc e ∷ other.clock ∷ sym is_q t ∷ sym is_p t ∷ []) in
                      let chosen_key : path_vector x.said (suc j) ≡ here.best.identity ∷ suc e ∷ key l =
                      λ t. said.0 t ∷ suc (said.1 t) ∷ (came.source t).clock ∷ (came.source t).port ∷ suc j ∷ [] in
                      clear.rest.held_not_lower p r holds_r (subst (IsLower (path_vector r.said (suc p)))
                      (sym (path ∙ chosen_key))
                      (subst (λ v. IsLower v (here.best.identity ∷ suc e ∷ key l)) (sym told)
                      (inr (refl, inr (refl, lower)))))

              parent : IsParent n.graph s.clock l
              parent = record { nearer = nearer; least = least }

  -- it has the best as its root, over its distance
  pub has_best : HasBest n.graph s
  has_best = record {
    root = (here.best, here.is_best, chosen.root);
    steps = subst (IsDistance n.graph s.clock) (sym chosen.steps) here;
  }

  -- it follows the best over its parent
  pub follows_best : n.bare ≤ now → FollowsBest n.graph s
  follows_best bare = record {
    root = (here.best, here.is_best, chosen.root);
    steps = subst (IsDistance n.graph s.clock) (sym chosen.steps) here;
    slave = slave_of bare;
  }

  module _ (told_as_far : (u : ℕ) → Adjacent n.graph s.clock u → IsDistance n.graph u d → u < s.clock → Told d)
      (ready : (p : PortIdentity) → IsLinked n.graph p → n.ready p ≤ now) where
    follows : n.bare ≤ now → FollowsBest n.graph s
    follows = follows_best

    -- the slave port is the own port of the parent
    slave_is : n.bare ≤ now → (p : ℕ) → s.slave ≡ Some (suc p) → IsSlavePort n.graph (port_of s.clock (suc p))
    slave_is bare p e = subst (IsSlaveOf n.graph s.clock) e (follows bare).slave

    -- and no other is
    only_slave : n.bare ≤ now → (p : ℕ) → IsSlavePort n.graph (port_of s.clock (suc p)) → s.slave ≡ Some (suc p)
    only_slave bare p (l, parent, own) = by_slave s.slave refl
      where
        by_slave : (slave : Option ℕ) → s.slave ≡ slave → s.slave ≡ Some (suc p)
        by_slave None e = absurd (subst (IsSlaveOf n.graph s.clock) e (follows bare).slave l parent)
        by_slave (Some m) e =
            let (k, is_parent, own_k) = subst (IsSlaveOf n.graph s.clock) e (follows bare).slave in
            let same : k ≡ l = IsParent-unique n.graph s.clock k l is_parent parent in
            e ∙ ap (λ (x : ℕ). Some x) (sym own_k ∙ ap (λ (x : ParentLink). x.own_port) same ∙ own)

    -- whether a port is slave
    slave_dec : (p : ℕ) → Dec (s.slave ≡ Some (suc p))
    slave_dec p = by_slave s.slave refl
      where
        by_slave : (slave : Option ℕ) → s.slave ≡ slave → Dec (s.slave ≡ Some (suc p))
        by_slave None e = no (λ h. absurd (let x : Some (suc p) ≡ None = sym h ∙ e in cc))
        by_slave (Some m) e = elim (ℕ_discrete m (suc p)) [
          | yes same ↦ yes (e ∙ ap (λ (x : ℕ). Some x) same)
          | no other ↦ no (λ h. other (let x : Some m ≡ Some (suc p) = sym e ∙ h in cc))
        ]

    module _ (p : ℕ) (q : Port) (at_p : slice_get s.ports p ≡ Some q) (u : PortIdentity)
        (joins : Joins n.graph (port_of s.clock (suc p)) u) (e : ℕ) (there : IsDistance n.graph u.clock e) where
      linked : IsLinked n.graph (port_of s.clock (suc p))
      linked = (u, joins)

      -- the other end of a slave port's link is nearer
      slave_nearer : IsSlavePort n.graph (port_of s.clock (suc p)) → d ≡ suc e
      slave_nearer (l, parent, own) =
          let leads = parent.nearer in
          let over : Joins n.graph (port_of s.clock (suc p)) (port_of l.clock l.port) =
          subst (λ m. Joins n.graph (port_of s.clock m) (port_of l.clock l.port)) own leads.joins in
          let same : port_of l.clock l.port ≡ u =
          wf.one_link (port_of s.clock (suc p)) (port_of l.clock l.port) u over joins in
          let far : d ≡ suc leads.distance = LeadsNearer-distance n.graph s.clock d l wf here leads in
          let same_distance : leads.distance ≡ e =
          IsDistance-unique n.graph u.clock leads.distance e wf
          (subst (λ (x : PortIdentity). IsDistance n.graph x.clock leads.distance) same leads.there) there in
          omega arith

      -- a master port's system is nearer, or as near with the lower clock
      master_nearer : IsMasterPort n.graph (port_of s.clock (suc p)) → (d < e) ⊎ ((d ≡ e) × (s.clock < u.clock))
      master_nearer h =
          let same : h.other ≡ u = wf.one_link (port_of s.clock (suc p)) h.other u h.joins joins in
          let one : h.here ≡ d = IsDistance-unique n.graph s.clock h.here d wf h.is_here here in
          let two : h.there ≡ e =
          IsDistance-unique n.graph u.clock h.there e wf
          (subst (λ (x : PortIdentity). IsDistance n.graph x.clock h.there) same h.is_there) there in
          subst (λ x. (x < e) ⊎ ((x ≡ e) × (s.clock < u.clock))) one
          (subst (λ x. (h.here < x) ⊎ ((h.here ≡ x) × (s.clock < u.clock))) two
          (subst (λ (x : PortIdentity). (h.here < h.there) ⊎ ((h.here ≡ h.there) × (s.clock < x.clock))) same
          h.nearer))

      -- a port towards a system that is farther, or as far with the higher clock
      plays_master : (d < e) ⊎ ((d ≡ e) × (s.clock < u.clock))
          → (r : Role) × PlaysRole s.slave (suc p) q.held r × IsSettledRole n.graph (port_of s.clock (suc p)) r
      plays_master farther = (
        Master,
        (
          here.best.identity,
          d,
          is_master n.graph wf s clear here.best here.is_best d e p q u chosen at_p
              ((calm_port p q at_p).capable (ready (port_of s.clock (suc p)) linked) linked) joins there farther,
        ),
        (
          linked,
          (λ slave. let nearer : d ≡ suc e = slave_nearer slave in
              elim farther [ inl less ↦ absurd (omega arith) | inr (same, lower) ↦ absurd (omega arith) ]),
          record {
            other = u;
            joins = joins;
            here = d;
            there = e;
            is_here = here;
            is_there = there;
            nearer = farther;
          },
        ),
      )

      -- a port towards a system that is nearer, or as near with the lower clock, received what that tells
      receives : (e < d) ⊎ ((e ≡ d) × (u.clock < s.clock))
          → (r : Reception) × (q.held ≡ Received r) × (r.said.root ≡ here.best.identity)
      receives nearer =
          by_places (places_of n.graph s.clock (suc p) u.clock u.port wf joins)
        where
          in_time : (e < d) ⊎ ((e ≡ d) × (u.clock < s.clock)) → Told e
          in_time (inl less) = told_nearer e less
          in_time (inr (same, lower)) =
              subst Told (sym same)
              (told_as_far u.clock (suc p, u.port, joins) (subst (IsDistance n.graph u.clock) same there) lower)

          no_farther : e ≤ d
          no_farther = elim nearer [ inl less ↦ omega arith | inr (same, lower) ↦ omega arith ]

          by_places : ((x : ℕ) × (y : ℕ) × (suc p ≡ suc x) × (u.port ≡ suc y))
              → (r : Reception) × (q.held ≡ Received r) × (r.said.root ≡ here.best.identity)
          by_places (x, y, is_p, is_u) =
              let over : Joins n.graph (port_of u.clock (suc y)) (port_of s.clock (suc p)) =
              Joins-sym n.graph (port_of s.clock (suc p)) (port_of u.clock (suc y))
              (subst (λ m. Joins n.graph (port_of s.clock (suc p)) (port_of u.clock m)) is_u joins) in
              let leads : LeadsFarther n.graph e here.best u.clock y s.clock p =
              record {
                is_best = IsBest-neighbour n.graph s.clock u.clock here.best wf (suc p, u.port, joins)
                    here.is_best;
                here = there;
                joins = over;
                far = d;
                there = here;
                farther = nearer;
              } in
              let (r, (q', at', holds), root, steps, source) =
              hears e p y u.clock (omega (arith, no_farther, near)) leads (in_time nearer) in
              (r, subst (λ (z : Port). z.held ≡ Received r) (same_there s.ports p q' q at' at_p) holds, root)

      plays_other : n.bare ≤ now → (e < d) ⊎ ((e ≡ d) × (u.clock < s.clock))
          → (r : Role) × PlaysRole s.slave (suc p) q.held r × IsSettledRole n.graph (port_of s.clock (suc p)) r
      plays_other bare nearer = elim (slave_dec p) [
        | yes slave ↦ (Slave, (slave, received), (linked, slave_is bare p slave))
        | no other ↦ (
          Passive,
          (other, received),
          (linked, (λ slave. other (only_slave bare p slave)), (λ master. not_both nearer (master_nearer master))),
        )
      ]
        where
          received : (r : Reception) × (q.held ≡ Received r)
          received = let (r, holds, root) = receives nearer in (r, holds)

          not_both : (e < d) ⊎ ((e ≡ d) × (u.clock < s.clock)) → (d < e) ⊎ ((d ≡ e) × (s.clock < u.clock)) → ⊥
          not_both (inl a) (inl b) = absurd (omega arith)
          not_both (inl a) (inr b) = absurd (let c : d ≡ e = b.0 in omega arith)
          not_both (inr a) (inl b) = absurd (let c : e ≡ d = a.0 in omega arith)
          not_both (inr a) (inr b) =
              absurd (let x : u.clock < s.clock = a.1 in let y : s.clock < u.clock = b.1 in omega arith)

      -- what it received names the best
      received_best : (r : Reception) → q.held ≡ Received r → r.said.root ≡ here.best.identity
      received_best r holds = elim (dec_lt d e) [
        | yes less ↦ absurd (not_mine (inl less))
        | no not_less ↦ elim (dec_lt e d) [
          | yes more ↦ names (receives (inl more))
          | no not_more ↦ elim (dec_lt s.clock u.clock) [
            | yes lower ↦ absurd (not_mine (inr (omega arith, lower)))
            | no not_lower ↦ names (receives (inr (omega arith, higher not_lower)))
          ]
        ]
      ]
        where
          not_mine : (d < e) ⊎ ((d ≡ e) × (s.clock < u.clock)) → ⊥
          not_mine farther =
              let mine : q.held ≡ Mine here.best.identity d =
              is_master n.graph wf s clear here.best here.is_best d e p q u chosen at_p
              ((calm_port p q at_p).capable (ready (port_of s.clock (suc p)) linked) linked) joins there farther in
              absurd (let x : Received r ≡ Mine here.best.identity d = sym holds ∙ mine in cc)

          names : ((x : Reception) × (q.held ≡ Received x) × (x.said.root ≡ here.best.identity))
              → r.said.root ≡ here.best.identity
          names (x, holds_x, root) =
              subst (λ (y : Reception). y.said.root ≡ here.best.identity)
              (received_injective x r (sym holds_x ∙ holds)) root

          higher : (s.clock < u.clock → ⊥) → u.clock < s.clock
          higher h =
              let apart : s.clock ≢ u.clock = wf.apart (port_of s.clock (suc p)) u joins in
              elim (dec_lt u.clock s.clock) [ yes lower ↦ lower | no over ↦ absurd (apart (omega arith)) ]

      -- one of the two it is
      plays : n.bare ≤ now
          → (r : Role) × PlaysRole s.slave (suc p) q.held r × IsSettledRole n.graph (port_of s.clock (suc p)) r
      plays bare = elim (dec_lt d e) [
        | yes less ↦ plays_master (inl less)
        | no not_less ↦ elim (dec_lt e d) [
          | yes more ↦ plays_other bare (inl more)
          | no not_more ↦ elim (dec_lt s.clock u.clock) [
            | yes lower ↦ plays_master (inr (omega arith, lower))
            | no not_lower ↦ plays_other bare (inr (omega arith, higher not_lower))
          ]
        ]
      ]
        where
          higher : (s.clock < u.clock → ⊥) → u.clock < s.clock
          higher h =
              let apart : s.clock ≢ u.clock = wf.apart (port_of s.clock (suc p)) u joins in
              elim (dec_lt u.clock s.clock) [ yes lower ↦ lower | no over ↦ absurd (apart (omega arith)) ]

    -- what names the best and is sound is wholly clean
    sound_whole : {p : ℕ} {r : Reception} (came : CameSound n.graph s.clock (suc p) r)
        → r.said.root ≡ here.best.identity
        → Whole n.graph came.from.clock r.said
    sound_whole {p} {r} came root = elim came.sound [
      | inl worse ↦ absurd (
          let above : here.best.identity < r.said.root =
          worse here.best (IsBest-neighbour n.graph s.clock came.from.clock here.best wf
          (suc p, came.from.port, Joins-sym n.graph came.from (port_of s.clock (suc p)) came.joins) here.is_best) in
          omega arith)
      | inr whole ↦ whole
    ]

    -- so all that it holds is wholly clean
    pub settled_whole : n.off ≤ now → (p : ℕ) (r : Reception) → CameSound n.graph s.clock (suc p) r → HoldsAt s p r
        → CameWhole n.graph s.clock (suc p) r
    settled_whole off p r came (q, at_p, holds) = elim (IsLinked-dec n.graph (port_of s.clock (suc p))) [
      | no unlinked ↦ absurd (let is : q.held ≡ Disabled = (calm_port p q at_p).unlinked off unlinked in
          let x : Disabled ≡ Received r = sym is ∙ holds in
          cc)
      | yes (u, joins) ↦
          let (e, there) = distance_exists n.graph u.clock wf
          (Joins-clock n.graph u (port_of s.clock (suc p)) wf
          (Joins-sym n.graph (port_of s.clock (suc p)) u joins)) in
          record {
            from = came.from;
            joins = came.joins;
            source = came.source;
            whole = sound_whole came (received_best p q at_p u joins e there r holds);
          }
    ]

    -- every port on a link has its settled role
    pub linked_roles : n.bare ≤ now → HasLinkedRoles n.graph s
    linked_roles bare p q at_p (u, joins) =
        let (e, there) = distance_exists n.graph u.clock wf
        (Joins-clock n.graph u (port_of s.clock (suc p)) wf
        (Joins-sym n.graph (port_of s.clock (suc p)) u joins)) in
        plays p q at_p u joins e there bare

    -- and so has every port
    pub settled_roles : n.bare ≤ n.off → n.off ≤ now → HasSettledRoles n.graph s
    settled_roles later off p q at_p = elim (IsLinked-dec n.graph (port_of s.clock (suc p))) [
      | no unlinked ↦ (role.Disabled, (calm_port p q at_p).unlinked off unlinked, unlinked)
      | yes linked ↦ linked_roles (omega (arith, later, off)) p q at_p linked
    ]
