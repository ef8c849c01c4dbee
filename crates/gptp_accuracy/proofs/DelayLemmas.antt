-- The delays at a port, where links stand as events leave them.
use Rattle.std.proofs.Common.{◌≡◌, ◌⊎◌, inl, inr, ℕ, List, Some, slice_get, sym, ap, subst, ◌∙◌}
use Rattle.gptp_lists.proofs.MappedLemmas.{mapped, same_there}
use Rattle.gptp_lists.proofs.SystemSpecLemmas.{In-slice_get}
use Rattle.gptp_vector.specs.declared.port.PortId.{PortId}
use Rattle.gptp_scenario.specs.Network.{NetworkState, IsEnd}
use Rattle.gptp_scenario.specs.declared.change.Timed.{Timed}
use Rattle.gptp_scenario.specs.declared.network.LinkSpec.{LinkSpec}
use Rattle.gptp_topology.specs.After.{standing_then, standings_after}
use Rattle.gptp_topology.specs.declared.course.Standing.{Standing}
use Rattle.gptp_topology.proofs.CourseLemmas.{same_a, same_b}
use Rattle.gptp_accuracy.specs.Ways.{HasDelays}

abbrev pub IsAt : PortId → Standing → Type 0
IsAt p s = (s.cable.a ≡ p) ⊎ (s.cable.b ≡ p)

module _ (n : NetworkState) (events : List Timed) where
  -- a link is at the ports at which it stands
  from_standing : (p : PortId) (w : LinkSpec) → IsAt p (standing_then n events w) → IsEnd p w
  from_standing p w (inl a) = inl (sym (same_a events w) ∙ a)
  from_standing p w (inr b) = inr (sym (same_b events w) ∙ b)

  to_standing : (p : PortId) (w : LinkSpec) → IsEnd p w → IsAt p (standing_then n events w)
  to_standing p w (inl a) = inl (same_a events w ∙ a)
  to_standing p w (inr b) = inr (same_b events w ∙ b)

  module _ (place : ℕ) (s : Standing) (there : slice_get (standings_after n events) place ≡ Some s) where
    stood : (w : LinkSpec) × (slice_get n.links place ≡ Some w) × (standing_then n events w ≡ s)
    stood = mapped (standing_then n events) n.links place s there

    -- the delays of the one at a place, where it is at the port
    pub delays_found : (clock port : ℕ) → IsAt (record { clock = clock; port = port }) s
        → HasDelays n events clock port s.cable.bounds.min s.cable.bounds.max
    delays_found clock port at =
        let (w, here, is) = stood in
        let p : PortId = record { clock = clock; port = port } in
        record {
          wire = w;
          there = In-slice_get w n.links place here;
          end = from_standing p w (subst (IsAt p) (sym is) at);
          least_is = ap (λ (t : Standing). t.cable.bounds.min) (sym is);
          most_is = ap (λ (t : Standing). t.cable.bounds.max) (sym is);
        }

    -- where it isn't, no link at its place is
    pub not_there : (p : PortId) → (IsAt p s → ⊥) → (w : LinkSpec) → slice_get n.links place ≡ Some w → IsEnd p w → ⊥
    not_there p none w here end =
        let (v, stands, is) = stood in
        let same = same_there n.links place v w stands here in
        none (subst (IsAt p) (ap (standing_then n events) (sym same) ∙ is) (to_standing p w end))
