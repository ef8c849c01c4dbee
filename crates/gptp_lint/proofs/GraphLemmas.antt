-- A network stands, by place, as its events leave it.
use Rattle.std.proofs.Common.{◌≡◌, ◌<◌, ◌≤◌, ◌+◌, ◌^◌, ℕ, zero, suc, List, [], ◌∷◌, ◌++◌, drop, length, map, Option, Some, None, slice_get, refl, sym, ap, ap₂, subst, ◌∙◌, inl, inr, arith}
use Rattle.gptp_lists.proofs.MappedLemmas.{some_same}
use Rattle.gptp_lists.proofs.SystemSpecLemmas.{In-parts}
use Rattle.gptp_roles.specs.Selection.{clock_of}
use Rattle.gptp_scenario.specs.Network.{NetworkState}
use Rattle.gptp_scenario.specs.declared.change.Timed.{Timed}
use Rattle.gptp_scenario.specs.declared.network.LinkSpec.{LinkSpec}
use Rattle.gptp_scenario.specs.declared.network.SystemSpec.{SystemSpec}
use Rattle.gptp_topology.specs.After.{Stand, standing_then, system_then}
use Rattle.gptp_topology.specs.Course.{cable_of}
use Rattle.gptp_topology.specs.Tables.{clocks_of}
use Rattle.gptp_topology.specs.declared.course.Standing.{Standing}
use Rattle.gptp_topology.specs.declared.nodes.Node.{Node}
use Rattle.gptp_topology.specs.declared.nodes.System.{System}
use Rattle.gptp_topology.specs.declared.tables.Tables.{Tables}
use Rattle.gptp_topology.proofs.StandingLemmas.{maps_twice, systems_are}
use Rattle.gptp_lint.specs.Graph.{HaveOctets, IsGraph, clocks_in, edge_after, edge_by, edges_in, ends_of, graph_after, graph_seen}
use Rattle.gptp_lint.specs.declared.graph.Ends.{Ends}
use Rattle.gptp_lint.specs.declared.graph.Graph.{Graph}

-- one more identity of fourteen octets
pub octets_more : (os : List System) (o : System) → HaveOctets os → o.identity < 2 ^ 112 → HaveOctets (os ++ o ∷ [])
octets_more os o before here = λ p member. elim (In-parts p os (o ∷ []) member) [
  | inl front ↦ before p front
  | inr last ↦ elim last [
    | inl same ↦ subst (λ (q : System). q.identity < 2 ^ 112) (sym same) here
    | inr none ↦ absurd none
  ]
]

-- ---- links by place

pub edge_there : (es : List Ends) (ss : List Standing) (place : ℕ)
    → slice_get (edges_in es ss) place ≡ edge_by (slice_get es place) (slice_get ss place)
edge_there [] ss place = refl
edge_there (e ∷ es) [] zero = refl
edge_there (e ∷ es) [] (suc place) = no_link (slice_get es place)
  where
    no_link : (o : Option Ends) → None ≡ edge_by o None
    no_link None = refl
    no_link (Some x) = refl
edge_there (e ∷ es) (s ∷ ss) zero = refl
edge_there (e ∷ es) (s ∷ ss) (suc place) = edge_there es ss place

pub dropped_at : {X : Type 0} (xs : List X) (place : ℕ) (x : X) → slice_get xs place ≡ Some x
    → drop place xs ≡ x ∷ drop (place + 1) xs
dropped_at [] place x there = absurd cc
dropped_at (y ∷ xs) zero x there = ap (λ z. z ∷ xs) (some_same y x there)
dropped_at (y ∷ xs) (suc place) x there =
    let step : suc (place + 1) ≡ suc place + 1 = omega arith in
    dropped_at xs place x there ∙ ap (λ k. x ∷ drop k (y ∷ xs)) step

drop_none : {X : Type 0} (place : ℕ) → drop {A = X} place [] ≡ []
drop_none zero = refl
drop_none (suc place) = refl

pub none_dropped : {X : Type 0} (xs : List X) (place : ℕ) → slice_get xs place ≡ None
    → drop place xs ≡ drop (place + 1) xs
none_dropped [] place none = drop_none place ∙ sym (drop_none (place + 1))
none_dropped (y ∷ xs) zero none = absurd cc
none_dropped (y ∷ xs) (suc place) none =
    let step : suc (place + 1) ≡ suc place + 1 = omega arith in
    none_dropped xs place none ∙ ap (λ k. drop k (y ∷ xs)) step

-- all links are passed once all ends are
pub none_left : (es : List Ends) (ss : List Standing) (place : ℕ) → length es ≤ place → drop place (edges_in es ss) ≡ []
none_left [] ss place past = drop_none place
none_left (e ∷ es) [] place past = drop_none place
none_left (e ∷ es) (s ∷ ss) zero past = absurd (omega (arith, past))
none_left (e ∷ es) (s ∷ ss) (suc place) past = none_left es ss place (omega (arith, past))

-- ---- after events

pub clocks_are : (n : NetworkState) (events : List Timed) (t : Tables) → Stand n events t
    → clocks_in t.nodes.items ≡ clocks_of n
clocks_are n events t stand =
    sym (maps_twice (λ (s : System). s.clock) (λ (o : Node). o.system) (λ (o : Node). o.system.clock) t.nodes.items
    (λ o. refl))
    ∙ ap (map (λ (s : System). s.clock)) (systems_are n events t stand)
    ∙ maps_twice (λ (s : System). s.clock) (system_then events) (λ (m : SystemSpec). clock_of m.identity) n.systems
    (λ m. refl)

edges_are : (n : NetworkState) (events : List Timed) (ws : List LinkSpec)
    → edges_in (map (ends_of (clocks_of n)) (map cable_of ws)) (map (standing_then n events) ws)
    ≡ map (edge_after n events) ws
edges_are n events [] = refl
edges_are n events (w ∷ ws) = ap (λ es. edge_after n events w ∷ es) (edges_are n events ws)

pub graph_is : (n : NetworkState) (events : List Timed) (g : Graph) → IsGraph n events g
    → graph_seen g ≡ graph_after n events
graph_is n events g is = λ i. record {
  systems = systems_are n events g.tables is.tables i;
  edges = (ap₂ edges_in is.ends is.tables.standings ∙ edges_are n events n.links) i;
}
