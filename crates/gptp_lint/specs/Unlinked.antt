-- The systems of a network that no link names (profile).
use Rattle.std.specs.Prelude.{◌≡◌, ◌↔◌, ◌⊎◌, ◌≤◌, ℕ, Bool, not, List, filter, length}
use Rattle.std.specs.List.{list_any}
use Rattle.gptp_lists.specs.Members.{In}
use Rattle.gptp_graph.specs.Order.{IsRising}
use Rattle.gptp_scenario.specs.Network.{NetworkState}
use Rattle.gptp_scenario.specs.declared.network.LinkSpec.{LinkSpec}
use Rattle.gptp_topology.specs.Course.{is_cable_end}
use Rattle.gptp_topology.specs.Tables.{clocks_of}
use Rattle.gptp_topology.specs.declared.course.Cable.{Cable}

-- a link of the network names the system with this clock
abbrev pub LinksName : NetworkState → ℕ → Type 0
LinksName n clock = (w : LinkSpec) × In w n.links × ((w.a.clock ≡ clock) ⊎ (w.b.clock ≡ clock))

-- a system of the network has this clock and no link names it, and there are two systems or more
pub record IsUnlinked (n : NetworkState) (clock : ℕ) : Type 0 where
  pub system : In clock (clocks_of n)
  pub alone : LinksName n clock → ⊥
  pub several : 2 ≤ length n.systems

-- these are the clocks of such systems, by rising clock
pub record AreUnlinked (n : NetworkState) (clocks : List ℕ) : Type 0 where
  pub rising : IsRising clocks
  pub are : (clock : ℕ) → In clock clocks ↔ IsUnlinked n clock

-- one of these links names this clock; and the clocks that none does
abbrev pub is_linked : List Cable → ℕ → Bool
is_linked cables clock = list_any (λ (c : Cable). is_cable_end c clock) cables

abbrev pub unlinked_in : List Cable → List ℕ → List ℕ
unlinked_in cables = filter (λ clock. not (is_linked cables clock))
