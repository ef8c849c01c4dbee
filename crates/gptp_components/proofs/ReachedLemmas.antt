-- The component of a root, by rising distance.
use Rattle.std.proofs.Common.{◌≡◌, ◌<◌, ◌≤◌, ◌∙◌, ℕ, zero, suc, List, [], ◌∷◌, length, Option, refl, sym, ap, subst, inl, inr, arith}
use Rattle.std.proofs.lemmas.Bool.{cases_lt}
use Rattle.gptp_lists.specs.Members.{In}
use Rattle.gptp_graph.specs.Best.{IsBest}
use Rattle.gptp_graph.specs.Distance.{IsDistance}
use Rattle.gptp_graph.specs.SettledChoice.{IsBestIdentity}
use Rattle.gptp_graph.specs.Snapshot.{System, Snapshot, IsWellFormed, port_of}
use Rattle.gptp_graph.proofs.DistanceLemmas.{IsDistance-best, IsDistance-bounded, IsDistance-neighbour, IsDistance-unique, best_at_zero, nearer_neighbour}
use Rattle.gptp_graph.proofs.ExistenceLemmas.{distance_exists}
use Rattle.gptp_graph.proofs.LinkLemmas.{Adjacent-clock, Adjacent-sym}
use Rattle.gptp_graph.proofs.PathLemmas.{Reaches-clock, Reaches-sym}
use Rattle.gptp_graph.proofs.SystemLemmas.{same_identity}
use Rattle.gptp_components.specs.Distances.{IsDistanceOf}
use Rattle.gptp_components.specs.Search.{AtEdge, IsComponentFound, IsFound, IsFoundTo, IsNewRoot, IsPut, IsSpread}
use Rattle.gptp_components.specs.declared.distance.Distance.{Distance}
use Rattle.gptp_components.proofs.ComponentLemmas.{neighbours_best}
use Rattle.gptp_components.proofs.FoundLemmas.{same_distance}

-- what has a best is a system
pub best_clock : (g : Snapshot) (v root : ℕ) → IsWellFormed g → IsBestIdentity g v root
    → In v (Rattle.gptp_graph.specs.Snapshot.clocks g)
best_clock g v root wf (best, is, same) =
    Reaches-clock g best.clock v wf (Reaches-sym g v best.clock wf is.reached)

-- the best of the component is at the distance 0, and no other system
module _ (g : Snapshot) (wf : IsWellFormed g) (root : ℕ) (best : System) (is : IsBest g best.clock best)
    (identity : root ≡ best.identity) where
  pub at_root : (d : Distance) → d.root ≡ root → d.steps ≡ 0 → IsDistanceOf g best.clock d
  at_root d of_root none = record {
    root = (best, is, of_root ∙ identity);
    steps = subst (IsDistance g best.clock) (sym none) (IsDistance-best g best is);
  }

  pub root_at : (v : ℕ) (d : Distance) → IsDistanceOf g v d → d.root ≡ root → d.steps ≡ 0 → best.clock ≡ v
  root_at v d has of_root none =
      let (other, of, same) = has.root in
      let one : other ≡ best = same_identity g other best wf of.live is.live (sym same ∙ of_root ∙ identity) in
      best_at_zero g v best wf (subst (IsBest g v) one of) (subst (IsDistance g v) none has.steps)

-- the search begins at the root
pub found_first : (g : Snapshot) (wf : IsWellFormed g) (far : Distance) (before after : List (Option Distance))
    (edge : List ℕ) → far.steps ≡ 0 → (new : IsNewRoot g far.root before)
    → IsPut g far new.best.clock before [] after edge → IsFoundTo g far before after edge
found_first g wf far before after edge none new put = record {
  as_many = put.as_many;
  kept = put.kept;
  only = λ w d h. elim (put.only w d h) [
    | inl found ↦ inl found
    | inr (is, waits) ↦ inr (
      subst (IsDistanceOf g w) (sym is) (first w waits),
      ap (λ (e : Distance). e.root) is,
      (let same : d.steps ≡ far.steps = ap (λ (e : Distance). e.steps) is in omega arith),
    )
  ];
  near = λ w d has of_root less.
      let zero_is : d.steps ≡ 0 = omega arith in
      let clock = root_at g wf far.root new.best new.is new.identity w d has of_root zero_is in
      subst (λ v. IsFound g after v d) clock
      (subst (IsFound g after new.best.clock) (sym (same_distance d far of_root (zero_is ∙ sym none))) here);
  at_edge = first;
  all = λ w has.
      subst (λ v. In v edge) (root_at g wf far.root new.best new.is new.identity w far has refl none) waiting;
}
  where
    unfound : (d : Distance) → IsFound g before new.best.clock d → ⊥
    unfound d = new.unfound new.best.clock d (new.best, new.is, new.identity)

    first : (w : ℕ) → In w edge → IsDistanceOf g w far
    first w member = elim (put.new w member) [
      | inl earlier ↦ absurd earlier
      | inr (same, no_other, is) ↦ subst (λ v. IsDistanceOf g v far) (sym same)
          (at_root g wf far.root new.best new.is new.identity far refl none)
    ]

    begun : IsFound g after new.best.clock far × In new.best.clock edge
    begun =
        let (d, is) = put.done in
        elim (put.only new.best.clock d is) [
          | inl earlier ↦ absurd (unfound d earlier)
          | inr (same, waits) ↦ (subst (IsFound g after new.best.clock) same is, waits)
        ]

    here : IsFound g after new.best.clock far
    here = begun.0

    waiting : In new.best.clock edge
    waiting = begun.1

-- those that wait are the systems that are one step farther
module _ (g : Snapshot) (wf : IsWellFormed g) (far next : Distance) (of_root : next.root ≡ far.root)
    (steps_is : next.steps ≡ suc far.steps) (first before after : List (Option Distance)) (edge waiting : List ℕ)
    (unfound : (w : ℕ) (d : Distance) → IsBestIdentity g w far.root → IsFound g first w d → ⊥)
    (found : IsFoundTo g far first before edge) (spread : IsSpread g next edge 0 0 before after waiting) where
  one_farther : (w : ℕ) → In w waiting → IsDistanceOf g w next
  one_farther w member =
      let new = spread.waits w member in
      let best : IsBestIdentity g w next.root =
      neighbours_best g new.from w next.root wf new.adjacent new.edge.root in
      let (e, there) = distance_exists g w wf (Adjacent-clock g new.from w wf new.adjacent) in
      let close : e ≤ suc new.edge.steps =
      IsDistance-neighbour g new.from w new.edge.steps e wf new.adjacent new.edge.is there in
      let here : suc new.edge.steps ≡ next.steps = new.edge.nearer in
      elim (cases_lt far.steps e) [
        | inl over ↦ record {
          root = best;
          steps = subst (IsDistance g w) (let a = over in omega arith) there;
        }
        | inr nearer ↦ (
            let d : Distance = record { root = far.root; steps = e } in
            absurd (new.unfound d (found.near w d
            (record { root = subst (IsBestIdentity g w) of_root best; steps = there }) refl nearer))
            )
      ]

  found_farther : (w : ℕ) → IsDistanceOf g w next → In w waiting × IsFound g after w next
  found_farther w has =
      let (u, adjacent, nearer) = nearer_neighbour g w far.steps wf (subst (IsDistance g w) steps_is has.steps) in
      let best : IsBestIdentity g w far.root = subst (IsBestIdentity g w) of_root has.root in
      let at = found.all u (record { root = neighbours_best g w u far.root wf adjacent best; steps = nearer }) in
      let (m, n, joins) = Adjacent-sym g w u adjacent in
      let (d, is) = spread.done (port_of u m) (port_of w n) (inl at) joins in
      elim (spread.only w d is) [
        | inl earlier ↦ elim (found.only w d earlier) [
          | inl begin ↦ absurd (unfound w d best begin)
          | inr (other, root, less) ↦ (
              let same : d.steps ≡ next.steps =
              IsDistance-unique g w d.steps next.steps wf other.steps has.steps in
              absurd (omega arith)
              )
        ]
        | inr (same, waits) ↦ (waits, subst (IsFound g after w) same is)
      ]

  pub found_next : IsFoundTo g next first after waiting
  found_next = record {
    as_many = spread.as_many ∙ found.as_many;
    kept = λ w d h. spread.kept w d (found.kept w d h);
    only = λ w d h. elim (spread.only w d h) [
      | inl earlier ↦ elim (found.only w d earlier) [
        | inl begin ↦ inl begin
        | inr (is, root, less) ↦ inr (is, root ∙ sym of_root, omega arith)
      ]
      | inr (same, waits) ↦ inr (
        subst (IsDistanceOf g w) (sym same) (one_farther w waits),
        ap (λ (e : Distance). e.root) same,
        (let steps : d.steps ≡ next.steps = ap (λ (e : Distance). e.steps) same in omega arith),
      )
    ];
    near = λ w d has root less. elim (cases_lt far.steps d.steps) [
      | inl over ↦ (
          let same : d ≡ next = same_distance d next root (omega arith) in
          subst (IsFound g after w) (sym same)
          (found_farther w (subst (IsDistanceOf g w) same has)).1
          )
      | inr nearer ↦ spread.kept w d (found.near w d has (root ∙ of_root) nearer)
    ];
    at_edge = one_farther;
    all = λ w has. (found_farther w has).0;
  }

-- ---- the end

-- on the way to a distance each smaller one is passed
passed : (g : Snapshot) (wf : IsWellFormed g) (root k e v : ℕ) → IsBestIdentity g v root → IsDistance g v e → k ≤ e
    → (u : ℕ) × IsBestIdentity g u root × IsDistance g u k
passed g wf root k zero v best is less = (v, best, subst (IsDistance g v) (omega arith) is)
passed g wf root k (suc e) v best is less = elim (cases_lt e k) [
  | inl last ↦ (v, best, subst (IsDistance g v) (let a = last in omega arith) is)
  | inr more ↦ (
      let (u, adjacent, nearer) = nearer_neighbour g v e wf is in
      passed g wf root k e u (neighbours_best g v u root wf adjacent best) nearer more
      )
]

module _ (g : Snapshot) (wf : IsWellFormed g) (far : Distance) (before after : List (Option Distance))
    (edge : List ℕ) (found : IsFoundTo g far before after edge) where
  whole : ((w : ℕ) → IsDistanceOf g w far → ⊥) → IsComponentFound g far.root before after
  whole nobody = record {
    as_many = found.as_many;
    kept = found.kept;
    only = λ w d h. elim (found.only w d h) [
      | inl earlier ↦ inl earlier
      | inr (is, root, less) ↦ inr (is, root)
    ];
    all = λ w best.
        let (e, is) = distance_exists g w wf (best_clock g w far.root wf best) in
        elim (cases_lt far.steps e) [
          | inl over ↦ (
              let (u, of_u, at) = passed g wf far.root far.steps e w best is (omega arith) in
              absurd (nobody u (record { root = of_u; steps = at }))
              )
          | inr near ↦ (
              let d : Distance = record { root = far.root; steps = e } in
              (d, found.near w d (record { root = best; steps = is }) refl near)
              )
        ];
  }

  -- nobody is at the edge
  pub whole_by_edge : length edge ≡ 0 → IsComponentFound g far.root before after
  whole_by_edge none = whole (λ w has. empty edge none w (found.all w has))
    where
      empty : (us : List ℕ) → length us ≡ 0 → (w : ℕ) → In w us → ⊥
      empty [] e w member = member
      empty (u ∷ us) e w member = absurd (omega arith)

  -- no distance is as great as there are systems
  pub whole_by_count : length g.systems ≤ far.steps → IsComponentFound g far.root before after
  whole_by_count all = whole (λ w has. let less = IsDistance-bounded g w far.steps wf has.steps in absurd (omega arith))

  -- while somebody is at the edge, the distance is below the number of systems
  pub edge_within : (w : ℕ) → In w edge → far.steps < length g.systems
  edge_within w member = IsDistance-bounded g w far.steps wf (found.at_edge w member).steps

  -- who is at the edge is one step nearer than the next
  pub edge_before : (next : Distance) → next.root ≡ far.root → next.steps ≡ suc far.steps → (u : ℕ) → In u edge
      → AtEdge g next u
  edge_before next of_root steps_is u member =
      let has = found.at_edge u member in
      record {
        root = subst (IsBestIdentity g u) (sym of_root) has.root;
        steps = far.steps;
        is = has.steps;
        nearer = sym steps_is;
      }
