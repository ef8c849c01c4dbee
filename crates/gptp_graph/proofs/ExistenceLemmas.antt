-- Every system of a snapshot has a best and a distance.
use Rattle.std.proofs.Common.{◌≡◌, ◌≤◌, ◌<◌, ℕ, zero, suc, List, [], ◌∷◌, length, refl, sym, ap, subst, inl, inr, arith}
use native.Mathlib.Decide.{ℕ_discrete, dec_le}
use Rattle.gptp_lists.specs.Members.{In}
use Rattle.gptp_graph.specs.Order.{IsLower}
use Rattle.gptp_graph.specs.Snapshot.{System, Snapshot, IsWellFormed, clocks, Adjacent}
use Rattle.gptp_graph.specs.Path.{Route, Reaches}
use Rattle.gptp_graph.specs.Best.{IsBest}
use Rattle.gptp_graph.specs.Distance.{IsDistanceFrom, IsDistance}
use Rattle.gptp_graph.proofs.LinkLemmas.{Adjacent-clock}
use Rattle.gptp_graph.proofs.DecisionLemmas.{dec_iff, dec_both, any_dec, below_dec, least_number}
use Rattle.gptp_graph.proofs.LinkDecisions.{Adjacent-dec}
use Rattle.gptp_graph.proofs.OrderLemmas.{least_member}
use Rattle.gptp_graph.proofs.SystemLemmas.{system_of}
use Rattle.gptp_graph.proofs.PathLemmas.{path_of, path_bounded, Reaches-self, Reaches-route, Reaches-sym}

-- a route of n steps
abbrev RouteOf : Snapshot → ℕ → ℕ → ℕ → Type 0
RouteOf g v w n = (us : List ℕ) × Route g v w us × (length us ≡ n)

-- whether there is a route of n steps: by its first step
RouteOf-dec : (g : Snapshot) (v w : ℕ) → IsWellFormed g → (n : ℕ) → Dec (RouteOf g v w n)
RouteOf-dec g v w wf zero = dec_iff (λ e. ([], e, refl)) here (ℕ_discrete v w)
  where
    here : RouteOf g v w 0 → v ≡ w
    here ([], r, e) = r
    here (u ∷ us, r, e) = absurd (omega arith)
RouteOf-dec g v w wf (suc n) =
    dec_iff over back (any_dec (λ u. Adjacent g v u × RouteOf g u w n) (clocks g)
    (λ u h. dec_both (Adjacent-dec g v u) (RouteOf-dec g u w wf n)))
  where
    over : ((u : ℕ) × In u (clocks g) × (Adjacent g v u × RouteOf g u w n)) → RouteOf g v w (suc n)
    over (u, h, (a, (us, r, e))) = (u ∷ us, (a, r), ap suc e)

    back : RouteOf g v w (suc n) → (u : ℕ) × In u (clocks g) × (Adjacent g v u × RouteOf g u w n)
    back ([], r, e) = absurd (omega arith)
    back (u ∷ us, (a, r), e) = (u, Adjacent-clock g v u wf a, (a, (us, r, omega arith)))

-- whether a system reaches another: within as many steps as there are systems
pub Reaches-dec : (g : Snapshot) (v w : ℕ) → IsWellFormed g → In v (clocks g) → Dec (Reaches g v w)
Reaches-dec g v w wf here =
    dec_iff over back (below_dec (RouteOf g v w) (RouteOf-dec g v w wf) (length g.systems))
  where
    over : ((n : ℕ) × (n < length g.systems) × RouteOf g v w n) → Reaches g v w
    over (n, b, (us, r, e)) = Reaches-route g v w us here r

    back : Reaches g v w → (n : ℕ) × (n < length g.systems) × RouteOf g v w n
    back (us, p) = (length us, path_bounded g v w us wf p, (us, p.route, refl))

-- where a path leads, there is a least length
pub distance_from_exists : (g : Snapshot) (b v : ℕ) → IsWellFormed g → Reaches g b v
    → (d : ℕ) × IsDistanceFrom g b v d
distance_from_exists g b v wf (us, p) =
    let r = least_number (RouteOf g b v) (RouteOf-dec g b v wf) (length us) (us, p.route, refl) in
    shortest r.0 r.1 r.2
  where
    shortest : (d : ℕ) → RouteOf g b v d → ((m : ℕ) → RouteOf g b v m → d ≤ m)
        → (d : ℕ) × IsDistanceFrom g b v d
    shortest d (ts, r, e) least =
        let q = path_of g b v ts p.begins r in
        let below : length q.0 ≤ length ts = q.2 in
        let above : d ≤ length q.0 = least (length q.0) (q.0, q.1.route, refl) in
        (d, record { path = (q.0, q.1, omega arith); least = λ xs h. least (length xs) (xs, h.route, refl) })

-- every system has a best
pub best_exists : (g : Snapshot) (v : ℕ) → IsWellFormed g → In v (clocks g) → (best : System) × IsBest g v best
best_exists g v wf here = elim (least_member identity_key reached g.systems (λ s h. Reaches-dec g v s.clock wf here)) [
  | inl none ↦ absurd (self (system_of g v here) none)
  | inr (best, is) ↦ (
    best,
    record {
      live = is.member;
      reached = is.holds;
      least = λ s h r. at_most best.identity s.identity (is.least s h r);
    },
  )
]
  where
    identity_key : System → List ℕ
    identity_key s = s.identity ∷ []

    reached : System → Type 0
    reached s = Reaches g v s.clock

    self : ((s : System) × In s g.systems × (s.clock ≡ v))
        → ((s : System) → In s g.systems → Reaches g v s.clock → ⊥) → ⊥
    self (s, h, e) none = none s h (subst (λ w. Reaches g v w) (sym e) (Reaches-self g v here))

    at_most : (i j : ℕ) → (IsLower (j ∷ []) (i ∷ []) → ⊥) → i ≤ j
    at_most i j not_lower = elim (dec_le i j) [ yes b ↦ b | no over ↦ absurd (not_lower (inl (omega arith))) ]

-- every system has a distance
pub distance_exists : (g : Snapshot) (v : ℕ) → IsWellFormed g → In v (clocks g) → (d : ℕ) × IsDistance g v d
distance_exists g v wf here =
    let b = best_exists g v wf here in
    let d = distance_from_exists g b.0.clock v wf (Reaches-sym g v b.0.clock wf b.1.reached) in
    (d.0, record { best = b.0; is_best = b.1; from_best = d.1 })
