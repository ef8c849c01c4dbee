-- A tree that is cut off with one or two tops: how far its systems were from the best of before, and which of them the
-- shortest ways there pass.
use Rattle.std.proofs.Common.{◌≡◌, ◌≢◌, ◌⊎◌, ◌<◌, ◌≤◌, ◌+◌, ℕ, zero, suc, pred, List, [], ◌∷◌, length, refl, sym, ap, subst, ◌∙◌, inl, inr, arith}
use Rattle.std.specs.Prelude.{min}
use Rattle.std.proofs.Math.Nat.{min-eq_left, min-eq_right, min-le_left, min-le_right}
use native.Mathlib.Decide.{dec_le, dec_lt}
use Rattle.gptp_lists.specs.Members.{In}
use Rattle.gptp_graph.specs.Best.{IsBest}
use Rattle.gptp_graph.specs.Distance.{IsDistance}
use Rattle.gptp_graph.specs.Path.{Reaches, Route}
use Rattle.gptp_graph.specs.Snapshot.{Adjacent, Snapshot, System, port_of}
use Rattle.gptp_graph.proofs.DistanceLemmas.{IsDistance-clock, IsDistance-unique, best_at_zero, distance_from, least_route, nearer_neighbour}
use Rattle.gptp_graph.proofs.PathLemmas.{Reaches-self, Route-reverse}
use Rattle.gptp_graph.proofs.SystemLemmas.{same_clock, system_of}
use Rattle.gptp_bmca_machine.specs.CutTree.{LosesSystem}
use Rattle.gptp_bmca_machine.specs.Network.{Network}
use Rattle.gptp_bmca_machine.specs.TwoTops.{Side, First, Second, CutsOffTwice}
use Rattle.gptp_bmca_machine.proofs.NearestLemmas.{route_from}
use Rattle.gptp_bmca_machine.proofs.StaleOrderLemmas.{IsStronger, other_farther, side_of}
use Rattle.gptp_bmca_machine.proofs.TwoTopsLemmas.{IsDeeper, beside}

-- how many links lead to a system from the nearer top
abbrev pub least_deep : (Side → ℕ → ℕ) → ℕ → ℕ
least_deep depth v = min (depth First v) (depth Second v)

module _ (depth : Side → ℕ → ℕ) where
  pub least_most : (side : Side) (v : ℕ) → least_deep depth v ≤ depth side v
  least_most First v = min-le_left (depth First v) (depth Second v)
  least_most Second v = min-le_right (depth First v) (depth Second v)

  pub least_is : (v : ℕ) → (side : Side) × (depth side v ≡ least_deep depth v)
  least_is v = elim (dec_le (depth First v) (depth Second v)) [
    | yes less ↦ (First, sym (min-eq_left less))
    | no more ↦ (Second, sym (min-eq_right (omega (arith, more))))
  ]

  -- it was nearer to the best of before, or as near with the lower clock
  abbrev pub LeadsOver : ℕ → ℕ → Type 0
  LeadsOver v u = (least_deep depth v < least_deep depth u)
      ⊎ ((least_deep depth v ≡ least_deep depth u) × (v < u))

  pub leads_one : (v u : ℕ) → v ≢ u → LeadsOver v u ⊎ LeadsOver u v
  leads_one v u apart = elim (dec_lt (least_deep depth v) (least_deep depth u)) [
    | yes less ↦ inl (inl less)
    | no not ↦ elim (dec_lt (least_deep depth u) (least_deep depth v)) [
      | yes less ↦ inr (inl less)
      | no not' ↦ elim (dec_lt v u) [
        | yes lower ↦ inl (inr (omega (arith, not, not'), lower))
        | no above ↦ elim (dec_lt u v) [
          | yes lower ↦ inr (inr (omega (arith, not, not'), lower))
          | no same ↦ absurd (apart (omega (arith, above, same)))
        ]
      ]
    ]
  ]

  pub leads_most : (v u : ℕ) → LeadsOver v u → least_deep depth v ≤ least_deep depth u
  leads_most v u (inl less) = omega (arith, less)
  leads_most v u (inr (same, lower)) = omega (arith, same)

  pub not_both_lead : (v u : ℕ) → LeadsOver v u → LeadsOver u v → ⊥
  not_both_lead v u (inl less) (inl more) = omega (arith, less, more)
  not_both_lead v u (inl less) (inr (same, lower)) = omega (arith, less, same)
  not_both_lead v u (inr (same, lower)) (inl more) = omega (arith, same, more)
  not_both_lead v u (inr (same, lower)) (inr (same', lower')) = omega (arith, lower, lower')

  -- the stronger end leads
  pub strong_least : (v u : ℕ) → (strong : IsStronger depth v u) → depth strong.side v ≡ least_deep depth v
  strong_least v u strong = by (least_is v)
    where
      by : ((side : Side) × (depth side v ≡ least_deep depth v)) → depth strong.side v ≡ least_deep depth v
      by (side, is) = elim (side_of depth v u strong side) [
        | inl same ↦ ap (λ (x : Side). depth x v) (sym same) ∙ is
        | inr other ↦
            let at_v = ap (λ (x : Side). depth x v) other in
            let farther = other_farther depth v u strong in
            let most = least_most strong.side v in
            absurd (omega (arith, at_v, is, farther, most))
      ]

  pub strong_leads : (v u : ℕ) → IsStronger depth v u → LeadsOver v u
  strong_leads v u strong = by (least_is u)
    where
      here : depth strong.side v ≡ least_deep depth v
      here = strong_least v u strong

      by : ((side : Side) × (depth side u ≡ least_deep depth u)) → LeadsOver v u
      by (side, is) = elim (side_of depth v u strong side) [
        | inl same ↦
            let at_u = ap (λ (x : Side). depth x u) same in
            let down = strong.deeper in
            inl (omega (arith, at_u, is, down, here))
        | inr other ↦
            let at_u = ap (λ (x : Side). depth x u) other in
            elim strong.first [
              | inl less ↦ inl (omega (arith, at_u, is, less, here))
              | inr (equal, lower) ↦ inr (omega (arith, at_u, is, equal, here), lower)
            ]
      ]

module _ (g : Snapshot) (n : Network) (top : Side → ℕ) (best next : System) (base : ℕ) (depth : Side → ℕ → ℕ)
    (c : CutsOffTwice g n top best next base depth) where
  -- who leads over a link is followed by the other, seen from its nearer top
  pub leads_down : (v u : ℕ) (side : Side) → IsBest n.graph v next → Adjacent n.graph v u → LeadsOver depth v u
      → depth side v ≡ least_deep depth v → IsDeeper depth side v u
  leads_down v u side in_v joined leads is = elim (c.tree.steps side v u in_v joined) [
    | inl down ↦ down
    | inr up ↦
        let most = leads_most depth v u leads in
        let few = least_most depth side u in
        absurd (omega (arith, up, is, most, few))
  ]

  -- where no top leads back over a link the first end leads
  pub down_leads : (v u : ℕ) → IsBest n.graph v next → Adjacent n.graph v u
      → ((y : Side) → IsDeeper depth y u v → ⊥) → LeadsOver depth v u
  down_leads v u in_v joined none = by (least_is depth u)
    where
      by : ((side : Side) × (depth side u ≡ least_deep depth u)) → LeadsOver depth v u
      by (side, is) = elim (c.tree.steps side v u in_v joined) [
        | inr up ↦ absurd (none side up)
        | inl down ↦ let few = least_most depth side v in inl (omega (arith, down, is, few))
      ]

  -- ---- shortest ways

  -- whoever is on a route to the best is no farther than that is long
  on_route : (x y : ℕ) (us : List ℕ) → Route g x best.clock us → In y (x ∷ us) → IsBest n.graph y next
      → base + least_deep depth y ≤ length us
  on_route x y us route among in_y =
      let (ts, on, short) = route_from g x best.clock y us route among in
      let (back, turned, as_long) = Route-reverse g y best.clock ts on in
      let least = least_route g best.clock y (base + least_deep depth y) back
      (distance_from g y (base + least_deep depth y) best c.left.graph (c.was_best y in_y) (c.was y in_y)) turned in
      omega (arith, least, as_long, short)

  -- a shortest way to the best leads up to one of the nearer tops, and passes none of the tree that is deeper
  pub short_names : (v : ℕ) → IsBest n.graph v next → (us : List ℕ) → Route g v best.clock us
      → length us ≡ base + least_deep depth v → base ≢ 0
      → (side : Side) × (depth side v ≡ least_deep depth v)
      × ((y : ℕ) → IsBest n.graph y next → In y (v ∷ us) → depth side y ≤ depth side v)
  short_names v in_v [] route long some = absurd (some (omega (arith, long)))
  short_names v in_v (x ∷ xs) (next_to, route) long some = elim (c.lost v x in_v next_to) [
    | inr (side, is_top) ↦
        let none = ap (depth side) is_top ∙ c.tree.first side in
        let few = least_most depth side v in (
          side,
          omega (arith, none, few),
          (λ y in_y among. elim among [
            | inl same ↦ let at_y = ap (depth side) same in omega (arith, at_y)
            | inr further ↦
                let far = on_route x y xs route further in_y in absurd (omega (arith, far, long, none, few))
          ]),
        )
    | inl left ↦ up (short_names x (beside n next top depth c.tree v x in_v left) xs route (shorter left) some) left
  ]
    where
      in_x : Adjacent n.graph v x → IsBest n.graph x next
      in_x left = beside n next top depth c.tree v x in_v left

      -- the next is nearer by one
      shorter : Adjacent n.graph v x → length xs ≡ base + least_deep depth x
      shorter left =
          let far = on_route x x xs route (inl refl) (in_x left) in
          let near = one_less left (least_is depth x) in
          omega (arith, far, near, long)
        where
          one_less : Adjacent n.graph v x → ((side : Side) × (depth side x ≡ least_deep depth x))
              → least_deep depth v ≤ suc (least_deep depth x)
          one_less left (side, is) =
              let few = least_most depth side v in
              elim (c.tree.steps side v x in_v left) [
                | inl down ↦ omega (arith, few, down, is)
                | inr above ↦ omega (arith, few, above, is)
              ]

      up : ((side : Side) × (depth side x ≡ least_deep depth x)
          × ((y : ℕ) → IsBest n.graph y next → In y (x ∷ xs) → depth side y ≤ depth side x)) → Adjacent n.graph v x
          → (side : Side) × (depth side v ≡ least_deep depth v)
          × ((y : ℕ) → IsBest n.graph y next → In y (v ∷ x ∷ xs) → depth side y ≤ depth side v)
      up (side, is, names) left = elim (c.tree.steps side v x in_v left) [
        | inl down ↦
            let few = least_most depth side v in
            let near = shorter left in
            absurd (omega (arith, down, is, few, near, long))
        | inr above ↦ (
          side,
          (let near = shorter left in omega (arith, above, is, near, long)),
          (λ y in_y among. elim among [
            | inl same ↦ let at_y = ap (depth side) same in omega (arith, at_y)
            | inr further ↦ let few = names y in_y further in omega (arith, few, above)
          ]),
        )
      ]

  -- ---- the failed system

  module _ (lost : ℕ) (loses : LosesSystem g n lost) where
    -- a top wasn't the best of before
    pub base_some : (side : Side) → IsBest n.graph (top side) next → base ≢ 0
    base_some side in_top none =
        let (s, live, named) = system_of n.graph (top side) in_top.reached.1.begins in
        let one = same_clock g s best c.left.graph (loses.systems s live) (c.was_best (top side) in_top).live
        (named ∙ sym clock) in
        let least = in_top.least s live
        (subst (Reaches n.graph (top side)) (sym named)
        (Reaches-self n.graph (top side) in_top.reached.1.begins)) in
        let identity = ap (λ (b : System). b.identity) one in
        let worse = c.worse in
        omega (arith, least, identity, worse)
      where
        top_far : IsDistance g (top side) 0
        top_far = subst (IsDistance g (top side))
            (let zero_deep = c.tree.first side in
            let few = least_most depth side (top side) in
            omega (arith, zero_deep, few, none)) (c.was (top side) in_top)

        clock : best.clock ≡ top side
        clock = best_at_zero g (top side) best c.left.graph (c.was_best (top side) in_top) top_far

    pub base_is : (side : Side) → IsBest n.graph (top side) next → base ≡ suc (pred base)
    base_is side in_top = go base refl
      where
        go : (b : ℕ) → base ≡ b → base ≡ suc (pred base)
        go zero is = absurd (base_some side in_top is)
        go (suc b) is = omega (arith, is)

    -- how far it was
    pub top_far : (side : Side) → IsBest n.graph (top side) next → IsDistance g (top side) base
    top_far side in_top =
        subst (IsDistance g (top side))
        (let zero_deep = c.tree.first side in
        let few = least_most depth side (top side) in
        omega (arith, zero_deep, few)) (c.was (top side) in_top)

    -- the failed system was nearer by one
    pub lost_far : (side : Side) → IsBest n.graph (top side) next → IsDistance g lost (pred base)
    lost_far side in_top = go (nearer_neighbour g (top side) (pred base) c.left.graph
        (subst (IsDistance g (top side)) (base_is side in_top) (top_far side in_top)))
      where
        go : ((u : ℕ) × Adjacent g (top side) u × IsDistance g u (pred base)) → IsDistance g lost (pred base)
        go (u, (i, k, joins), far) = elim (loses.others u (IsDistance-clock g u (pred base) c.left.graph far)) [
          | inr is_lost ↦ subst (λ x. IsDistance g x (pred base)) is_lost far
          | inl live ↦
              let joined : Adjacent n.graph (top side) u =
              (i, k, loses.links (port_of (top side) i) (port_of u k) joins in_top.reached.1.begins live) in
              let in_u = beside n next top depth c.tree (top side) u in_top joined in
              let one = IsDistance-unique g u (pred base) (base + least_deep depth u) c.left.graph far (c.was u in_u) in
              let is = base_is side in_top in
              absurd (omega (arith, one, is))
        ]
