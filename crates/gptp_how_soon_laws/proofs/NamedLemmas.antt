-- The link and the system that a change names, as they stand before it.
use Rattle.std.proofs.Common.{◌≡◌, inl, inr, ℕ, Bool, true, false, cond, List, [], ◌∷◌, Some, slice_get, refl, sym, ap, ap₂, subst, ◌∙◌}
use Rattle.std.specs.Prelude.{◌==◌}
use Rattle.std.specs.List.{find}
use Rattle.std.proofs.lemmas.Bool.{and_parts, eqb-true, or_cases}
use Rattle.gptp_lists.specs.Members.{In}
use Rattle.gptp_lists.proofs.MappedLemmas.{same_there, some_same}
use Rattle.gptp_lists.proofs.SystemSpecLemmas.{from_map, slice_get-In}
use Rattle.gptp_vector.specs.declared.port.PortId.{PortId}
use Rattle.gptp_roles.specs.Selection.{clock_of}
use Rattle.gptp_scenario.specs.Change.{is_at, link_after}
use Rattle.gptp_scenario.specs.Network.{IsEnd, IsNetwork, NetworkState, same_port}
use Rattle.gptp_scenario.specs.declared.change.Act.{Act}
use Rattle.gptp_scenario.specs.declared.change.Timed.{Timed}
use Rattle.gptp_scenario.specs.declared.network.LinkSpec.{LinkSpec}
use Rattle.gptp_scenario.specs.declared.network.SystemSpec.{SystemSpec}
use Rattle.gptp_scenario.proofs.AfterLemmas.{after_keeps}
use Rattle.gptp_model.specs.World.{port_id}
use Rattle.gptp_topology.specs.Course.{cable_wire}
use Rattle.gptp_topology.specs.declared.course.Standing.{Standing}
use Rattle.gptp_topology.specs.After.{standing_then, standings_after, system_then, systems_after}
use Rattle.gptp_topology.specs.Tables.{has_clock}
use Rattle.gptp_how_soon.specs.Times.{is_standing_named}
use Rattle.gptp_topology.specs.declared.nodes.System.{System}

-- what is found is a member that passes
found : {X : Type 0} (p : X → Bool) (xs : List X) (y : X) → find p xs ≡ Some y → In y xs × (p y ≡ true)
found p [] y is = absurd cc
found {X} p (x ∷ xs) y is = by (p x) refl is (found p xs y)
  where
    by : (test : Bool) → p x ≡ test → cond test (Some x) (find p xs) ≡ Some y
        → (find p xs ≡ Some y → In y xs × (p y ≡ true)) → In y (x ∷ xs) × (p y ≡ true)
    by true passed here rest =
        let same = some_same x y here in (inl (sym same), subst (λ z. p z ≡ true) same passed)
    by false passed there rest = let (member, is) = rest there in (inr member, is)

-- ---- ports

port_is : (p q : PortId) → same_port p q ≡ true → p ≡ q
port_is p q same =
    let (clock, port) = and_parts (p.clock == q.clock) (p.port == q.port) same in
    ap₂ (λ a b. port_id a b) (eqb-true p.clock q.clock clock) (eqb-true p.port q.port port)

pub at_end : (clock port : ℕ) (w : LinkSpec) → is_at clock port w ≡ true → IsEnd (port_id clock port) w
at_end clock port w at =
    elim (or_cases (same_port w.a (port_id clock port)) (same_port w.b (port_id clock port)) at) [
      | inl same ↦ inl (port_is w.a (port_id clock port) same)
      | inr same ↦ inr (port_is w.b (port_id clock port) same)
    ]

-- a link keeps its ends, whatever comes
pub end_first : (events : List Timed) (p : PortId) (w : LinkSpec) → IsEnd p (link_after events w) → IsEnd p w
end_first events p w (inl a) = inl (sym (after_keeps events w).a ∙ a)
end_first events p w (inr b) = inr (sym (after_keeps events w).b ∙ b)

-- ---- what is named

module _ (n : NetworkState) (network : IsNetwork n) (made : List Timed) where
  -- the only link at a port, as it stands
  pub record LinkNamed (clock port : ℕ) (s : Standing) : Type 0 where
    pub link : LinkSpec
    pub place : ℕ
    pub there : slice_get n.links place ≡ Some link
    pub is : standing_then n made link ≡ s
    pub at : is_at clock port (link_after made link) ≡ true
    pub only : (i : ℕ) (v : LinkSpec) → slice_get n.links i ≡ Some v → IsEnd (port_id clock port) v → v ≡ link

  pub named_link : (clock port : ℕ) (act : Act)
      → ((s : Standing) → is_standing_named act s ≡ true → is_at clock port (cable_wire s.cable) ≡ true)
      → (s : Standing) → find (is_standing_named act) (standings_after n made) ≡ Some s → LinkNamed clock port s
  named_link clock port act names s found_is =
      let (member, passed) = found (is_standing_named act) (standings_after n made) s found_is in
      let (w, among, same) = from_map (standing_then n made) s n.links member in
      let (place, there) = slice_get-In w n.links among in
      let at : is_at clock port (link_after made w) ≡ true =
      ap (λ (x : Standing). is_at clock port (cable_wire x.cable)) same ∙ names s passed in
      record {
        link = w;
        place = place;
        there = there;
        is = same;
        at = at;
        only = λ i v v_there end.
            let end_w = end_first made (port_id clock port) w (at_end clock port (link_after made w) at) in
            let one = network.one_link i place v w (port_id clock port) v_there there end end_w in
            same_there n.links place v w (subst (λ k. slice_get n.links k ≡ Some v) one v_there) there;
      }

  -- the only system with a clock, as it stands
  pub record SystemNamed (number : ℕ) (o : System) : Type 0 where
    pub system : SystemSpec
    pub place : ℕ
    pub there : slice_get n.systems place ≡ Some system
    pub clock : clock_of system.identity ≡ number
    pub is : system_then made system ≡ o
    pub only : (i : ℕ) (m : SystemSpec) → slice_get n.systems i ≡ Some m → clock_of m.identity ≡ number → m ≡ system

  pub named_system : (number : ℕ) (o : System) → find (has_clock number) (systems_after n made) ≡ Some o
      → SystemNamed number o
  named_system number o found_is =
      let (member, passed) = found (has_clock number) (systems_after n made) o found_is in
      let (m, among, same) = from_map (system_then made) o n.systems member in
      let (place, there) = slice_get-In m n.systems among in
      let clock : clock_of m.identity ≡ number =
      ap (λ (x : System). x.clock) same ∙ eqb-true o.clock number passed in
      record {
        system = m;
        place = place;
        there = there;
        clock = clock;
        is = same;
        only = λ i v v_there named.
            let one = network.clocks i place v m v_there there (named ∙ sym clock) in
            same_there n.systems place v m (subst (λ k. slice_get n.systems k ≡ Some v) one v_there) there;
      }
