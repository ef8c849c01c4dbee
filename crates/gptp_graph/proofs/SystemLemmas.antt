-- Systems of a snapshot by their clocks and identities.
use Rattle.std.proofs.Common.{◌≡◌, ◌≤◌, ℕ, List, length, ap, subst, sym, ◌∙◌, ◌%◌, ◌^◌}
use Rattle.std.proofs.lemmas.List.{length-map}
use Rattle.gptp_lists.specs.Members.{In, Different}
use Rattle.gptp_graph.specs.Snapshot.{System, Snapshot, IsWellFormed, clocks}
use Rattle.gptp_lists.proofs.SystemSpecLemmas.{In-map, from_map, same_image, pigeonhole}

-- different clocks of a snapshot are no more than it has systems
pub length-different : (g : Snapshot) (vs : List ℕ) → Different vs → ((v : ℕ) → In v vs → In v (clocks g))
    → length vs ≤ length g.systems
length-different g vs d h =
    subst (λ n. length vs ≤ n) (length-map g.systems (λ (s : System). s.clock)) (pigeonhole vs (clocks g) d h)

-- a system's clock is one of the clocks
pub In-clocks : (g : Snapshot) (s : System) → In s g.systems → In s.clock (clocks g)
In-clocks g s h = In-map (λ (t : System). t.clock) s g.systems h

-- each of the clocks is a system's
pub system_of : (g : Snapshot) (v : ℕ) → In v (clocks g) → (s : System) × In s g.systems × (s.clock ≡ v)
system_of g v h = from_map (λ (s : System). s.clock) v g.systems h

-- two systems with one clock are one
pub same_clock : (g : Snapshot) (s t : System) → IsWellFormed g → In s g.systems → In t g.systems
    → s.clock ≡ t.clock → s ≡ t
same_clock g s t wf h k e = same_image (λ (u : System). u.clock) s t g.systems wf.different h k e

-- two systems with one identity are one
pub same_identity : (g : Snapshot) (s t : System) → IsWellFormed g → In s g.systems → In t g.systems
    → s.identity ≡ t.identity → s ≡ t
same_identity g s t wf h k e =
    let a = (wf.identified s h).clock in
    let b = (wf.identified t k).clock in
    same_clock g s t wf h k (sym a ∙ ap (λ i. i % 2 ^ 64) e ∙ b)
