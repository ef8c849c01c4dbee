-- Systems with one best after events, and a list of steps for all: by these steps they are a tree, if each link leads
-- one step on, and at most one of a system nearer.
use Rattle.std.proofs.Common.{◌≡◌, ◌≤◌, ◌⊎◌, inl, inr, ℕ, suc, true, List, [], Option, Some, None, slice_get, ap, subst, ◌∙◌, arith}
use Rattle.std.specs.Prelude.{nat_le}
use Rattle.std.specs.List.{count_by, list_all}
use Rattle.std.proofs.lemmas.Bool.Decides.{nat_tests}
use Rattle.gptp_lists.specs.Members.{In}
use Rattle.gptp_lists.proofs.SystemSpecLemmas.{In-map}
use Rattle.gptp_graph.specs.Best.{IsBest}
use Rattle.gptp_graph.specs.Snapshot.{Adjacent, IsWellFormed, Joins, PortIdentity, Snapshot, System, port_of}
use Rattle.gptp_graph.proofs.BestLemmas.{IsBest-neighbour}
use Rattle.gptp_network.specs.Snapshot.{StandsAfter, link_of}
use Rattle.gptp_scenario.specs.Network.{IsNetwork, NetworkState}
use Rattle.gptp_scenario.specs.declared.change.Timed.{Timed}
use Rattle.gptp_scenario.specs.declared.network.LinkSpec.{LinkSpec}
use Rattle.gptp_topology.specs.After.{systems_after}
use Rattle.gptp_how_soon.specs.Chosen.{ends_of, place_of, used_ends}
use Rattle.gptp_how_soon.specs.Tree.{has_one_nearer, is_one_apart, leads_one_on}
use Rattle.gptp_how_soon.specs.Turned.{has_fewer_steps, leads_nearer}
use Rattle.gptp_how_soon.specs.declared.chosen.Chosen.{Chosen}
use Rattle.gptp_how_soon.specs.declared.chosen.Ends.{Ends}
use Rattle.gptp_how_soon.proofs.ChosenLemmas.{IsAt, at_clock, place_is}
use Rattle.gptp_how_soon_laws.proofs.FailedLemmas.{each_is}
use Rattle.gptp_how_soon_laws.proofs.TreeTestLemmas.{apart_so, fewer_back, nearer_at_first, nearer_at_second, one_on_first, one_on_second, one_same}
use Rattle.gptp_how_soon_laws.proofs.LostLinkLemmas.{IsJoinedBy, joined_by, same_port, used_links}

abbrev pub steps_of : Option Chosen → ℕ
steps_of None = 0
steps_of (Some c) = c.steps

module _ (n : NetworkState) (network : IsNetwork n) (events : List Timed) (h : Snapshot)
    (stands : StandsAfter n events h) (well : IsWellFormed h) (next : System) (cs : List Chosen) where
  abbrev links : List Ends
  links = used_ends n events

  -- the tests of a system of the tree
  pub record IsOfTree (i : ℕ) : Type 0 where
    pub own : Chosen
    pub there : slice_get cs i ≡ Some own
    pub single : has_one_nearer cs links i ≡ true
    pub on : list_all (leads_one_on cs i) links ≡ true

  -- how many steps a system has by its place
  pub depth : ℕ → ℕ
  depth v = steps_of (slice_get cs (place_of (systems_after n []) v))

  pub depth_there : (i v : ℕ) → IsAt n i v → depth v ≡ steps_of (slice_get cs i)
  unfolding depth
  depth_there i v at = ap (λ k. steps_of (slice_get cs k)) (place_is n network events h stands well [] i v at)

  module _ (each : (i v : ℕ) → IsAt n i v → IsBest h v next → IsOfTree i) where
    -- one of them at its place
    record Stands (v : ℕ) : Type 0 where
      place : ℕ
      at : IsAt n place v
      of : IsOfTree place
      steps : depth v ≡ of.own.steps

    stands_at : (v : ℕ) → IsBest h v next → Stands v
    stands_at v in_v =
        let (i, at) = at_clock n network events h stands well v in_v.reached.1.begins in
        let of = each i v at in_v in
        record { place = i; at = at; of = of; steps = depth_there i v at ∙ ap steps_of of.there }

    -- a link joins two of them
    abbrev Joined : ℕ → ℕ → PortIdentity → PortIdentity → Type 0
    Joined = IsJoinedBy n network events h stands well events h stands well

    joined : (i j : ℕ) (p q : PortIdentity) → IsAt n i p.clock → IsAt n j q.clock → Joins h p q → Joined i j p q
    joined = joined_by n network events h stands well events h stands well

    one_on : (i j : ℕ) (p q : PortIdentity) → Joined i j p q → IsOfTree i
        → is_one_apart (slice_get cs i) (slice_get cs j) ≡ true
    one_on i j p q x b =
        let on : leads_one_on cs i (ends_of n x.wire) ≡ true =
        each_is (leads_one_on cs i) links (ends_of n x.wire) b.on
        (In-map (ends_of n) x.wire (used_links n events) x.among) in
        elim x.by [
          | inl (ends, is) ↦ one_on_first cs i j (subst (λ e. leads_one_on cs i e ≡ true) ends on)
          | inr (ends, is) ↦ one_on_second cs i j (subst (λ e. leads_one_on cs i e ≡ true) ends on)
        ]

    nearer_on : (i j : ℕ) (p q : PortIdentity) (x : Joined i j p q)
        → has_fewer_steps (slice_get cs j) (slice_get cs i) ≡ true
        → leads_nearer cs i (ends_of n x.wire) ≡ true
    nearer_on i j p q x fewer = elim x.by [
      | inl (ends, is) ↦ ap (leads_nearer cs i) ends ∙ nearer_at_first cs i j fewer
      | inr (ends, is) ↦ ap (leads_nearer cs i) ends ∙ nearer_at_second cs i j fewer
    ]

    pub steps_so : (v u : ℕ) → IsBest h v next → Adjacent h v u
        → (depth u ≡ suc (depth v)) ⊎ (depth v ≡ suc (depth u))
    steps_so v u in_v (p, q, joins) =
        let in_u = IsBest-neighbour h v u next well (p, q, joins) in_v in
        let s = stands_at v in_v in
        let r = stands_at u in_u in
        let x = joined s.place r.place (port_of v p) (port_of u q) s.at r.at joins in
        let v_is = s.steps in
        let u_is = r.steps in
        elim (apart_so cs s.place r.place s.of.own r.of.own s.of.there r.of.there
        (one_on s.place r.place (port_of v p) (port_of u q) x s.of)) [
          | inl more ↦ inr (omega (arith, v_is, u_is, more))
          | inr more ↦ inl (omega (arith, v_is, u_is, more))
        ]

    -- ---- two links of a system that lead less deep

    record Leads (i v port : ℕ) (c : PortIdentity) : Type 0 where
      wire : LinkSpec
      among : In wire (used_links n events)
      nearer : leads_nearer cs i (ends_of n wire) ≡ true
      link : (link_of (wire.a, wire.b) ≡ record { a = port_of v port; b = c })
          ⊎ (link_of (wire.a, wire.b) ≡ record { a = c; b = port_of v port })

    leads : (v port : ℕ) (c : PortIdentity) → IsBest h v next → (s : Stands v) → Joins h (port_of v port) c
        → depth v ≡ suc (depth c.clock) → Leads s.place v port c
    leads v port c in_v s joins less =
        let in_c = IsBest-neighbour h v c.clock next well (port, c.port, joins) in_v in
        let r = stands_at c.clock in_c in
        let x = joined s.place r.place (port_of v port) c s.at r.at joins in
        let v_is = s.steps in
        let c_is = r.steps in
        let fewer =
        fewer_back cs r.place s.place r.of.own s.of.own r.of.there s.of.there (omega (arith, v_is, c_is, less)) in
        record {
          wire = x.wire;
          among = x.among;
          nearer = nearer_on s.place r.place (port_of v port) c x fewer;
          link = elim x.by [ inl (ends, is) ↦ inl is | inr (ends, is) ↦ inr is ];
        }

    most_one : (i : ℕ) → has_one_nearer cs links i ≡ true → count_by (leads_nearer cs i) links ≤ 1
    most_one i is = least (count_by (leads_nearer cs i) links) is
      where
        least : (k : ℕ) → nat_le k 1 ≡ true → k ≤ 1
        least k test = grind (arith, nat_tests)

    -- none leads from a system to itself
    no_loop : (v : ℕ) (c : PortIdentity) → depth v ≡ suc (depth c.clock) → c.clock ≡ v → ⊥
    no_loop v c less same = let k : depth c.clock ≡ depth v = ap depth same in absurd (omega (arith, less, k))

    pub single_so : (v p q : ℕ) (a b : PortIdentity) → IsBest h v next → Joins h (port_of v p) a
        → Joins h (port_of v q) b
        → depth v ≡ suc (depth a.clock) → depth v ≡ suc (depth b.clock) → p ≡ q
    single_so v p q a b in_v first second near near' =
        let s = stands_at v in_v in
        let one_way = leads v p a in_v s first near in
        let other_way = leads v q b in_v s second near' in
        let one : one_way.wire ≡ other_way.wire =
        one_same (leads_nearer cs s.place) (ends_of n) (used_links n events) one_way.wire other_way.wire
        (most_one s.place s.of.single) one_way.among other_way.among one_way.nearer other_way.nearer in
        same_port v p q a b (no_loop v a near) (no_loop v b near') one_way.link other_way.link
        (ap (λ (w : LinkSpec). link_of (w.a, w.b)) one)
