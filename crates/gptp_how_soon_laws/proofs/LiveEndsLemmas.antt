-- A link that was in use before, and of which an end has failed, is counted where its far end lives.
use Rattle.std.proofs.Common.{◌≡◌, ◌<◌, ◌⊎◌, inl, inr, ℕ, true, List, Some, slice_get, sym, ap, subst, ◌∙◌, arith}
use Rattle.std.specs.Prelude.{◌==◌, ◌&&◌, ◌||◌, nat_lt}
use Rattle.std.proofs.Math.Bool.{or-true}
use Rattle.std.proofs.lemmas.Bool.{and_from, eq-eqb}
use Rattle.std.proofs.lemmas.Bool.Decides.{nat_tests}
use Rattle.gptp_lists.specs.Members.{In}
use Rattle.gptp_lists.proofs.MappedLemmas.{mapped_there}
use Rattle.gptp_graph.specs.Distance.{IsDistance}
use Rattle.gptp_graph.specs.Snapshot.{IsWellFormed, Snapshot, clocks}
use Rattle.gptp_graph.proofs.SystemLemmas.{In-clocks}
use Rattle.gptp_vector.specs.declared.port.PortId.{PortId}
use Rattle.gptp_roles.specs.Selection.{clock_of}
use Rattle.gptp_scenario.specs.Calm.{IsLive, IsUsed}
use Rattle.gptp_scenario.specs.Change.{link_after}
use Rattle.gptp_scenario.specs.Network.{IsEnd, IsNetwork, NetworkState}
use Rattle.gptp_scenario.specs.declared.change.Timed.{Timed}
use Rattle.gptp_scenario.specs.declared.network.LinkSpec.{LinkSpec}
use Rattle.gptp_scenario.proofs.AfterLemmas.{after_keeps}
use Rattle.gptp_network.specs.Snapshot.{StandsAfter}
use Rattle.gptp_network.proofs.InUseLemmas.{live_there}
use Rattle.gptp_network.proofs.SnapshotLemmas.{with_clock}
use Rattle.gptp_topology.specs.After.{standing_then, system_then, systems_after}
use Rattle.gptp_topology.specs.Course.{cable_is_used}
use Rattle.gptp_topology.specs.declared.nodes.System as ours
use Rattle.gptp_topology.proofs.RestLemmas.{lives_from, used_cable}
use Rattle.gptp_how_soon.specs.Chosen.{chosen_after, ends_of}
use Rattle.gptp_how_soon.specs.Far.{has_lower_clock, is_nearer, is_nearer_at}
use Rattle.gptp_how_soon.specs.Silent.{hears, hears_over, is_heard_link, is_live}
use Rattle.gptp_how_soon.specs.declared.chosen.Chosen.{Chosen}
use Rattle.gptp_how_soon.specs.declared.chosen.Ends.{Ends}
use Rattle.gptp_how_soon.proofs.ChosenLemmas.{IsAt, at_port, chosen_there, place_is, settled_choice}
use Rattle.gptp_settling_time.specs.Losses.{FarEndLives}

nearer_from : (a b lower higher : ℕ) → (a < b) ⊎ ((a ≡ b) × (lower < higher))
    → (nat_lt a b || ((a == b) && nat_lt lower higher)) ≡ true
nearer_from a b lower higher (inl less) =
    let is : nat_lt a b ≡ true = grind (arith, nat_tests) in
    ap (λ test. test || ((a == b) && nat_lt lower higher)) is
nearer_from a b lower higher (inr (same, less)) =
    let is : nat_lt lower higher ≡ true = grind (arith, nat_tests) in
    ap (λ test. nat_lt a b || test) (and_from (a == b) (nat_lt lower higher) (eq-eqb a b same) is)
    ∙ or-true (nat_lt a b)

-- where one end of a link has failed, and one lives, these are its two ends
pub two_ends : (n : NetworkState) (events : List Timed) (v : LinkSpec) (failed end : PortId)
    → IsEnd failed (link_after events v) → IsEnd end (link_after events v)
    → (IsLive n.systems events failed.clock → ⊥) → IsLive n.systems events end.clock
    → ((v.a ≡ failed) × (v.b ≡ end)) ⊎ ((v.a ≡ end) × (v.b ≡ failed))
two_ends n events v failed end is_failed is_end none lives_then = by is_failed is_end
  where
    same : (p : PortId) → p ≡ failed → p ≡ end → ⊥
    same p first second =
        none (subst (λ (q : PortId). IsLive n.systems events q.clock) (sym second ∙ first) lives_then)

    by : IsEnd failed (link_after events v) → IsEnd end (link_after events v)
        → ((v.a ≡ failed) × (v.b ≡ end)) ⊎ ((v.a ≡ end) × (v.b ≡ failed))
    by (inl f) (inl e) = absurd (same (link_after events v).a f e)
    by (inr f) (inr e) = absurd (same (link_after events v).b f e)
    by (inl f) (inr e) = inl (sym (after_keeps events v).a ∙ f, sym (after_keeps events v).b ∙ e)
    by (inr f) (inl e) = inr (sym (after_keeps events v).a ∙ e, sym (after_keeps events v).b ∙ f)

-- between these events, after which this snapshot stands, and more of them
module _ (n : NetworkState) (network : IsNetwork n) (made events : List Timed) (g : Snapshot)
    (stands : StandsAfter n made g) (well : IsWellFormed g) where
  abbrev systems : List ours.System
  systems = systems_after n events

  abbrev before : List Chosen
  before = chosen_after n made

  known : (v : ℕ) → IsLive n.systems made v → In v (clocks g)
  known v live =
      let (s, here, same) = with_clock g.systems v (live_there n network made g stands v (lives_from n made v live)) in
      subst (λ c. In c (clocks g)) same (In-clocks g s here)

  lives_at : (i v : ℕ) → IsAt n i v → IsLive n.systems events v → is_live (slice_get systems i) ≡ true
  lives_at i v at live =
      let here : IsAt n live.place v = record { system = live.system; there = live.there; clock = live.clock } in
      let same : live.place ≡ i =
      sym (place_is n network made g stands well events live.place v here)
      ∙ place_is n network made g stands well events i v at in
      ap (λ place. is_live (slice_get systems place)) (sym same)
      ∙ ap is_live (mapped_there (system_then events) n.systems live.place live.system live.there)
      ∙ live.live

  -- the one system was nearer than the other, or as near with the lower clock
  pub nearer_at : (i v j w : ℕ) → IsAt n i v → IsAt n j w → In v (clocks g) → In w (clocks g)
      → ((near far : ℕ) → IsDistance g v near → IsDistance g w far → (near < far) ⊎ ((near ≡ far) × (v < w)))
      → is_nearer_at systems before i j ≡ true
  nearer_at i v j w at_v at_w known_v known_w order =
      let (c, c_there) = chosen_there n network made g stands well i v at_v in
      let (e, e_there) = chosen_there n network made g stands well j w at_w in
      let chose_v = settled_choice n network made g stands well i v at_v known_v c c_there in
      let chose_w = settled_choice n network made g stands well j w at_w known_w e e_there in
      let o_v = mapped_there (system_then events) n.systems i at_v.system at_v.there in
      let o_w = mapped_there (system_then events) n.systems j at_w.system at_w.there in
      let lower : (c.steps < e.steps)
      ⊎ ((c.steps ≡ e.steps) × (clock_of at_v.system.identity < clock_of at_w.system.identity)) =
      elim (order c.steps e.steps chose_v.far chose_w.far) [
        | inl less ↦ inl less
        | inr (same, less) ↦
            let clock_v = at_v.clock in let clock_w = at_w.clock in inr (same, omega (arith, less, clock_v, clock_w))
      ] in
      (λ k. is_nearer (c_there k) (e_there k) (has_lower_clock (o_v k) (o_w k)))
      ∙ nearer_from c.steps e.steps (clock_of at_v.system.identity) (clock_of at_w.system.identity) lower

  -- a link whose far end lives, and of which the other has failed
  module _ (place : ℕ) (w : LinkSpec) (there : slice_get n.links place ≡ Some w)
      (used : IsUsed n.systems made (link_after made w)) (end failed : PortId)
      (is_end : IsEnd end (link_after events w)) (is_failed : IsEnd failed (link_after events w))
      (lives_then : IsLive n.systems events end.clock) (none : IsLive n.systems events failed.clock → ⊥)
      (order : (near far : ℕ) → IsDistance g failed.clock near → IsDistance g end.clock far
      → (near < far) ⊎ ((near ≡ far) × (failed.clock < end.clock))) where
    abbrev ends : Ends
    ends = ends_of n w

    a_at : IsAt n ends.a w.a.clock
    a_at = at_port n network made g stands well w.a (network.links place w there).a

    b_at : IsAt n ends.b w.b.clock
    b_at = at_port n network made g stands well w.b (network.links place w there).b

    a_lived : IsLive n.systems made w.a.clock
    a_lived = subst (λ (p : PortId). IsLive n.systems made p.clock) (after_keeps made w).a used.a

    b_lived : IsLive n.systems made w.b.clock
    b_lived = subst (λ (p : PortId). IsLive n.systems made p.clock) (after_keeps made w).b used.b

    -- the one port is the far end, the other has failed
    hears_so : (i v j u : ℕ) → IsAt n i v → IsAt n j u → IsLive n.systems made v → IsLive n.systems made u
        → v ≡ end.clock → u ≡ failed.clock → hears systems before i j ≡ true
    hears_so i v j u at_v at_u live_v live_u v_is u_is =
        and_from (is_live (slice_get systems i)) (is_nearer_at systems before j i)
        (lives_at i v at_v (subst (IsLive n.systems events) (sym v_is) lives_then))
        (nearer_at j u i v at_u at_v (known u live_u) (known v live_v)
        (subst (λ y. (near far : ℕ) → IsDistance g y near → IsDistance g v far
        → (near < far) ⊎ ((near ≡ far) × (y < v))) (sym u_is)
        (subst (λ x. (near far : ℕ) → IsDistance g failed.clock near → IsDistance g x far
        → (near < far) ⊎ ((near ≡ far) × (failed.clock < x))) (sym v_is) order)))

    clock_is : (p q : PortId) → p ≡ q → p.clock ≡ q.clock
    clock_is p q same = ap (λ (x : PortId). x.clock) same

    heard_over : hears_over systems before (Some ends) ≡ true
    heard_over = elim (two_ends n events w failed end is_failed is_end none lives_then) [
      | inl (f, e) ↦
          ap (λ test. hears systems before ends.a ends.b || test)
          (hears_so ends.b w.b.clock ends.a w.a.clock b_at a_at b_lived a_lived (clock_is w.b end e)
          (clock_is w.a failed f))
          ∙ or-true (hears systems before ends.a ends.b)
      | inr (e, f) ↦
          ap (λ test. test || hears systems before ends.b ends.a)
          (hears_so ends.a w.a.clock ends.b w.b.clock a_at b_at a_lived b_lived (clock_is w.a end e)
          (clock_is w.b failed f))
    ]

    pub is_heard : is_heard_link n made events w ≡ true
    is_heard =
        and_from (cable_is_used (standing_then n made w)) (hears_over systems before (Some ends))
        (used_cable n made w used) heard_over

-- so it is counted
pub counts_heard : (n : NetworkState) → IsNetwork n → (made events : List Timed)
    → ((g : Snapshot) → StandsAfter n made g → IsWellFormed g) → (place : ℕ) (w : LinkSpec) (failed : PortId)
    → slice_get n.links place ≡ Some w → IsUsed n.systems made (link_after made w)
    → IsEnd failed (link_after events w) → (IsLive n.systems events failed.clock → ⊥)
    → FarEndLives n made events w failed → is_heard_link n made events w ≡ true
counts_heard n network made events well place w failed there used is_failed none far =
    is_heard n network made events far.before far.stands (well far.before far.stands) place w there used far.end failed
    far.is_end is_failed far.lives none far.farther
