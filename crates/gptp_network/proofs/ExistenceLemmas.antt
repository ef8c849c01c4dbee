-- What stands after events is the snapshot of some graph: systems of different clocks have a rising order.
use Rattle.std.proofs.Common.{◌≡◌, ◌<◌, ℕ, List, [], ◌∷◌, map, refl, inl, inr, arith}
use native.Mathlib.Decide.{dec_lt}
use Rattle.std.specs.List.Sorted.{IsPermutation}
use Rattle.std.proofs.lemmas.List.Sorted.{IsPermutation-cons, IsPermutation-map, IsPermutation-middle, IsPermutation-refl, IsPermutation-sym, IsPermutation-trans}
use Rattle.gptp_lists.specs.Members.{Different, In}
use Rattle.gptp_graph.specs.Order.{IsRising}
use Rattle.gptp_graph.specs.Snapshot.{Snapshot, System}
use Rattle.gptp_scenario.specs.Network.{IsNetwork, NetworkState}
use Rattle.gptp_scenario.specs.declared.change.Timed.{Timed}
use Rattle.gptp_network.specs.Document.{DocumentState}
use Rattle.gptp_network.specs.Snapshot.{IsSnapshot, StandsAfter, events_by, live_systems, used_links}
use Rattle.gptp_network.proofs.SnapshotLemmas.{In-permutation}
use Rattle.gptp_network.proofs.TakingLemmas.{live_once}

abbrev clock_in : System → ℕ
clock_in s = s.clock

-- these systems in the order of their clocks
record HasOrder (systems : List System) : Type 0 where
  ordered : List System
  are : IsPermutation systems ordered
  rising : IsRising (map clock_in ordered)

-- one more goes before the first of a higher clock
put_in : (s : System) (systems : List System) → IsRising (map clock_in systems)
    → (In s.clock (map clock_in systems) → ⊥) → HasOrder (s ∷ systems)
put_in s [] rising other =
    record { ordered = s ∷ []; are = IsPermutation-refl (s ∷ []); rising = ((λ y none. absurd none), tt) }
put_in s (t ∷ systems) rising other = elim (dec_lt s.clock t.clock) [
  | yes lower ↦ record {
    ordered = s ∷ t ∷ systems;
    are = IsPermutation-refl (s ∷ t ∷ systems);
    rising = (above lower, rising);
  }
  | no not_lower ↦ behind not_lower (put_in s systems rising.1 (λ member. other (inr member)))
]
  where
    above : s.clock < t.clock → (y : ℕ) → In y (t.clock ∷ map clock_in systems) → s.clock < y
    above lower y (inl same) = omega arith
    above lower y (inr member) = let more : t.clock < y = rising.0 y member in omega arith

    behind : (s.clock < t.clock → ⊥) → HasOrder (s ∷ systems) → HasOrder (s ∷ t ∷ systems)
    behind not_lower rest = record {
      ordered = t ∷ rest.ordered;
      are = IsPermutation-trans (s ∷ t ∷ systems) (t ∷ s ∷ systems) (t ∷ rest.ordered)
          (IsPermutation-middle (s ∷ []) t systems) (IsPermutation-cons t (s ∷ systems) rest.ordered rest.are);
      rising = (all_above, rest.rising);
    }
      where
        first_above : t.clock < s.clock
        first_above = elim (dec_lt t.clock s.clock) [
          | yes lower ↦ lower
          | no over ↦ let same : s.clock ≡ t.clock = omega arith in absurd (other (inl same))
        ]

        among : (y : ℕ) → In y (s.clock ∷ map clock_in systems) → t.clock < y
        among y (inl same) = let first = first_above in omega arith
        among y (inr member) = rising.0 y member

        all_above : (y : ℕ) → In y (map clock_in rest.ordered) → t.clock < y
        all_above y member =
            among y
            (In-permutation y (map clock_in rest.ordered) (map clock_in (s ∷ systems))
            (IsPermutation-sym (map clock_in (s ∷ systems)) (map clock_in rest.ordered)
            (IsPermutation-map clock_in (s ∷ systems) rest.ordered rest.are)) member)

-- systems of different clocks have one
has_order : (systems : List System) → Different (map clock_in systems) → HasOrder systems
has_order [] different = record { ordered = []; are = IsPermutation-refl []; rising = tt }
has_order (s ∷ systems) different = one_more (has_order systems different.1)
  where
    one_more : HasOrder systems → HasOrder (s ∷ systems)
    one_more rest =
        let added = put_in s rest.ordered rest.rising
        (λ member. different.0
        (In-permutation s.clock (map clock_in rest.ordered) (map clock_in systems)
        (IsPermutation-sym (map clock_in systems) (map clock_in rest.ordered)
        (IsPermutation-map clock_in systems rest.ordered rest.are)) member)) in
        record {
          ordered = added.ordered;
          are = IsPermutation-trans (s ∷ systems) (s ∷ rest.ordered) added.ordered
              (IsPermutation-cons s systems rest.ordered rest.are) added.are;
          rising = added.rising;
        }

-- so a network has a snapshot after any events
pub stands_after : (n : NetworkState) (events : List Timed) → IsNetwork n → (g : Snapshot) × StandsAfter n events g
stands_after n events network =
    let order = has_order (live_systems n.systems events) (live_once n.systems events network.clocks) in (
      record { systems = order.ordered; links = used_links n.links events order.ordered },
      record { systems = order.are; rising = order.rising; links = refl },
    )

-- and a document at any time
pub snapshot_exists : (d : DocumentState) (at : ℕ) → IsNetwork d.network → (g : Snapshot) × IsSnapshot d at g
snapshot_exists d at = stands_after d.network (events_by at d.events)
