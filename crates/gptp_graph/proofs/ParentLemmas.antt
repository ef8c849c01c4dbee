-- A system that is not the best of its component has one parent, and the best has none.
use Rattle.std.proofs.Common.{◌≡◌, ◌⊎◌, ℕ, suc, List, [], ◌∷◌, refl, subst, inl, inr, arith}
use native.Mathlib.Decide.{ℕ_discrete}
use Rattle.gptp_lists.specs.Members.{In}
use Rattle.gptp_graph.specs.Snapshot.{Link, Snapshot, IsWellFormed, port_of, Adjacent}
use Rattle.gptp_graph.specs.Distance.{IsDistance}
use Rattle.gptp_graph.specs.Parent.{ParentLink, key, JoinsAt, LeadsNearer, IsParent}
use Rattle.gptp_graph.proofs.LinkLemmas.{JoinsAt-clock}
use Rattle.gptp_graph.proofs.LinkDecisions.{Joins-dec}
use Rattle.gptp_graph.proofs.OrderLemmas.{IsLower-total, least_member}
use Rattle.gptp_graph.proofs.DistanceLemmas.{IsDistance-unique, nearer_neighbour}
use Rattle.gptp_graph.proofs.ExistenceLemmas.{distance_exists}

-- the links as seen from either end
seen : List Link → List ParentLink
seen [] = []
seen (l ∷ ls) =
    record { own_port = l.a.port; clock = l.b.clock; port = l.b.port }
    ∷ record { own_port = l.b.port; clock = l.a.clock; port = l.a.port }
    ∷ seen ls

-- each link of v is among them as v sees it
In-seen : (v : ℕ) (l : ParentLink) (ls : List Link)
    → In (record { a = port_of v l.own_port; b = port_of l.clock l.port }) ls
    ⊎ In (record { a = port_of l.clock l.port; b = port_of v l.own_port }) ls
    → In l (seen ls)
unfolding seen
In-seen v l [] (inl h) = absurd h
In-seen v l [] (inr h) = absurd h
In-seen v l (k ∷ ls) (inl (inl e)) =
    inl (λ i. record { own_port = (e i).a.port; clock = (e i).b.clock; port = (e i).b.port })
In-seen v l (k ∷ ls) (inl (inr h)) = inr (inr (In-seen v l ls (inl h)))
In-seen v l (k ∷ ls) (inr (inl e)) =
    inr (inl (λ i. record { own_port = (e i).b.port; clock = (e i).a.clock; port = (e i).a.port }))
In-seen v l (k ∷ ls) (inr (inr h)) = inr (inr (In-seen v l ls (inr h)))

-- a system from which a link leads nearer is one step farther
pub LeadsNearer-distance : (g : Snapshot) (v d : ℕ) (l : ParentLink)
    → IsWellFormed g → IsDistance g v d → (h : LeadsNearer g v l) → d ≡ suc h.distance
LeadsNearer-distance g v d l wf here h = IsDistance-unique g v d (suc h.distance) wf here h.here

-- whether a link leads nearer
LeadsNearer-dec : (g : Snapshot) (v d : ℕ) (l : ParentLink) → IsWellFormed g → IsDistance g v (suc d)
    → Dec (LeadsNearer g v l)
LeadsNearer-dec g v d l wf here = elim (Joins-dec g (port_of v l.own_port) (port_of l.clock l.port)) [
  | no apart ↦ no (λ h. apart h.joins)
  | yes j ↦ by_distance j (distance_exists g l.clock wf (JoinsAt-clock g v l wf j))
]
  where
    by_distance : JoinsAt g v l → ((e : ℕ) × IsDistance g l.clock e) → Dec (LeadsNearer g v l)
    by_distance j (e, there) = elim (ℕ_discrete e d) [
      | yes same ↦ yes (record {
        joins = j;
        distance = d;
        there = subst (IsDistance g l.clock) same there;
        here = here;
      })
      | no other ↦ no (λ h. other (as_far h))
    ]
      where
        as_far : LeadsNearer g v l → e ≡ d
        as_far h =
            let a : e ≡ h.distance = IsDistance-unique g l.clock e h.distance wf there h.there in
            let b : suc d ≡ suc h.distance = LeadsNearer-distance g v (suc d) l wf here h in
            omega arith

-- a system that isn't at distance zero has a parent
pub parent_exists : (g : Snapshot) (v d : ℕ) → IsWellFormed g → IsDistance g v (suc d)
    → (l : ParentLink) × IsParent g v l
parent_exists g v d wf here = elim (least_member key (LeadsNearer g v) (seen g.links) nearer) [
  | inl none ↦ absurd (some (nearer_neighbour g v d wf here) none)
  | inr (l, is) ↦ (
    l,
    record {
      nearer = is.holds;
      least = λ other h. is.least other (In-seen v other g.links h.joins) h;
    },
  )
]
  where
    nearer : (l : ParentLink) → In l (seen g.links) → Dec (LeadsNearer g v l)
    nearer l h = LeadsNearer-dec g v d l wf here

    some : ((w : ℕ) × Adjacent g v w × IsDistance g w d)
        → ((l : ParentLink) → In l (seen g.links) → LeadsNearer g v l → ⊥) → ⊥
    some (w, (m, n, j), there) none =
        let l : ParentLink = record { own_port = m; clock = w; port = n } in
        none l (In-seen v l g.links j) (record { joins = j; distance = d; there = there; here = here })

-- the parts of the key are the parts of the link
pub key-injective : (l k : ParentLink) → key l ≡ key k → l ≡ k
key-injective l k e =
    let a : l.clock ≡ k.clock = cc in
    let b : l.port ≡ k.port = cc in
    let c : l.own_port ≡ k.own_port = cc in
    λ i. record { own_port = c i; clock = a i; port = b i }

-- a system has one parent at most
pub IsParent-unique : (g : Snapshot) (v : ℕ) (l k : ParentLink) → IsParent g v l → IsParent g v k → l ≡ k
IsParent-unique g v l k h j = elim (IsLower-total (key l) (key k) refl) [
  | inl same ↦ key-injective l k same
  | inr (inl lower) ↦ absurd (j.least l h.nearer lower)
  | inr (inr higher) ↦ absurd (h.least k j.nearer higher)
]

-- the best has no parent: it is at distance zero
pub no_parent_at_zero : (g : Snapshot) (v : ℕ) (l : ParentLink) → IsWellFormed g → IsDistance g v 0
    → IsParent g v l → ⊥
no_parent_at_zero g v l wf here h =
    let e : 0 ≡ suc h.nearer.distance = LeadsNearer-distance g v 0 l wf here h.nearer in
    absurd (omega arith)
