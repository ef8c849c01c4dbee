-- Routes and paths: they turn round, join, and every route has a path no longer than it.
use Rattle.std.proofs.Common.{◌≡◌, ◌≤◌, ◌<◌, ℕ, List, [], ◌∷◌, ◌++◌, length, refl, sym, subst, inl, inr, arith, length-append}
use Rattle.gptp_lists.specs.Members.{In, Different}
use Rattle.gptp_graph.specs.Snapshot.{Snapshot, IsWellFormed, clocks, Adjacent}
use Rattle.gptp_graph.specs.Path.{Route, IsPath, Reaches}
use Rattle.gptp_graph.proofs.LinkLemmas.{Adjacent-clock, Adjacent-sym}
use Rattle.gptp_graph.proofs.DecisionLemmas.{in_dec}
use Rattle.gptp_graph.proofs.SystemLemmas.{length-different}

-- one route after another
pub Route-append : (g : Snapshot) (v w x : ℕ) (us ts : List ℕ) → Route g v w us → Route g w x ts
    → Route g v x (us ++ ts)
Route-append g v w x [] ts here more = subst (λ u. Route g u x ts) (sym here) more
Route-append g v w x (u ∷ us) ts first more = (first.0, Route-append g u w x us ts first.1 more)

-- a route goes back over as many systems
pub Route-reverse : (g : Snapshot) (v w : ℕ) (us : List ℕ) → Route g v w us
    → (ts : List ℕ) × Route g w v ts × (length ts ≡ length us)
Route-reverse g v w [] here = ([], sym here, refl)
Route-reverse g v w (u ∷ us) (first, rest) =
    let back = Route-reverse g u w us rest in
    let as_long : length back.0 ≡ length us = back.2 in (
      back.0 ++ v ∷ [],
      Route-append g w u v back.0 (v ∷ []) back.1 (Adjacent-sym g v u first, refl),
      omega
          (arith, length-append back.0 (v ∷ [])),
    )

-- all systems of a route that begins at a system are systems
pub Route-clocks : (g : Snapshot) (v w : ℕ) (us : List ℕ) → IsWellFormed g → Route g v w us → (u : ℕ) → In u us
    → In u (clocks g)
Route-clocks g v w [] wf r u h = absurd h
Route-clocks g v w (x ∷ xs) wf (first, rest) u (inl e) =
    subst (λ y. In y (clocks g)) (sym e) (Adjacent-clock g v x wf first)
Route-clocks g v w (x ∷ xs) wf (first, rest) u (inr h) = Route-clocks g x w xs wf rest u h

-- so is its end
pub Route-end : (g : Snapshot) (v w : ℕ) (us : List ℕ) → IsWellFormed g → In v (clocks g) → Route g v w us
    → In w (clocks g)
Route-end g v w [] wf here r = subst (λ y. In y (clocks g)) r here
Route-end g v w (x ∷ xs) wf here (first, rest) = Route-end g x w xs wf (Adjacent-clock g v x wf first) rest

-- the part of a path from one of its systems on
cut : (g : Snapshot) (v u w : ℕ) (us : List ℕ) → Route g u w us → Different (u ∷ us) → In v (u ∷ us)
    → (ts : List ℕ) × Route g v w ts × Different (v ∷ ts) × (length ts ≤ length us)
cut g v u w us r d (inl e) =
    (us, subst (λ x. Route g x w us) (sym e) r, subst (λ x. Different (x ∷ us)) (sym e) d, omega arith)
cut g v u w [] r d (inr h) = absurd h
cut g v u w (x ∷ xs) r d (inr h) =
    let p = cut g v x w xs r.1 d.1 h in
    (p.0, p.1, p.2, omega arith)

-- a route that comes back to a system has a shorter one: in the end a path is left
without_return : (g : Snapshot) (v w : ℕ) (us : List ℕ) → Route g v w us
    → (ts : List ℕ) × Route g v w ts × Different (v ∷ ts) × (length ts ≤ length us)
without_return g v w [] here = ([], here, (λ h. h, tt), omega arith)
without_return g v w (u ∷ us) (first, rest) =
    let p = without_return g u w us rest in
    elim (in_dec v (u ∷ p.0)) [
      | yes h ↦ let q = cut g v u w p.0 p.1 p.2 h in (q.0, q.1, q.2, let a = p.3 in let b = q.3 in omega arith)
      | no out ↦ (u ∷ p.0, (first, p.1), (out, p.2), let a = p.3 in omega arith)
    ]

-- every route from a system has a path that is no longer
pub path_of : (g : Snapshot) (v w : ℕ) (us : List ℕ) → In v (clocks g) → Route g v w us
    → (ts : List ℕ) × IsPath g v w ts × (length ts ≤ length us)
path_of g v w us here r =
    let p = without_return g v w us r in
    (p.0, record { begins = here; route = p.1; different = p.2 }, p.3)

-- a path has fewer steps than there are systems
pub path_bounded : (g : Snapshot) (v w : ℕ) (us : List ℕ) → IsWellFormed g → IsPath g v w us
    → length us < length g.systems
path_bounded g v w us wf p =
    length-different g (v ∷ us) p.different (λ u h. elim h [
      | inl e ↦ subst (λ x. In x (clocks g)) (sym e) p.begins
      | inr k ↦ Route-clocks g v w us wf p.route u k
    ])

-- the path that stays at a system
pub IsPath-self : (g : Snapshot) (v : ℕ) → In v (clocks g) → IsPath g v v []
IsPath-self g v here = record { begins = here; route = refl; different = (λ h. h, tt) }

-- a system reaches itself
pub Reaches-self : (g : Snapshot) (v : ℕ) → In v (clocks g) → Reaches g v v
Reaches-self g v here = ([], IsPath-self g v here)

-- a route from a system reaches its end
pub Reaches-route : (g : Snapshot) (v w : ℕ) (us : List ℕ) → In v (clocks g) → Route g v w us → Reaches g v w
Reaches-route g v w us here r = let p = path_of g v w us here r in (p.0, p.1)

-- what a reached system reaches is reached
pub Reaches-trans : (g : Snapshot) (u v w : ℕ) → Reaches g u v → Reaches g v w → Reaches g u w
Reaches-trans g u v w (us, p) (ts, q) =
    Reaches-route g u w (us ++ ts) p.begins (Route-append g u v w us ts p.route q.route)

-- what is reached reaches back
pub Reaches-sym : (g : Snapshot) (v w : ℕ) → IsWellFormed g → Reaches g v w → Reaches g w v
Reaches-sym g v w wf (us, p) =
    let back = Route-reverse g v w us p.route in
    Reaches-route g w v back.0 (Route-end g v w us wf p.begins p.route) back.1

-- what is reached is a system
pub Reaches-clock : (g : Snapshot) (v w : ℕ) → IsWellFormed g → Reaches g v w → In w (clocks g)
Reaches-clock g v w wf (us, p) = Route-end g v w us wf p.begins p.route

-- a system reaches its neighbours
pub Reaches-neighbour : (g : Snapshot) (v w : ℕ) → IsWellFormed g → Adjacent g v w → Reaches g v w
Reaches-neighbour g v w wf a =
    Reaches-route g v w (w ∷ []) (Adjacent-clock g w v wf (Adjacent-sym g v w a)) (a, refl)
